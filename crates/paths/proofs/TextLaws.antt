-- Names as lists of bytes: a name of a path is the name stored at a place exactly when their bytes are the same.
use Prim.Native.Nat.{ℕ, zero, suc, ◌+◌, ◌<◌}
use mathlib.Core.Path.{◌≡◌, refl, sym, ap, ◌∙◌}
use mathlib.Core.List.{◌∷◌}
use mathlib.Core.Bool.{true}
use lib.ListN.{length}
use native.Mathlib.Omega.{arith}
use native.Mathlib.Nat.{add-zero, add_assoc}
use Rattle.model.specs.Bytes.{Bytes}
use Rattle.model.specs.Names.{Part, capitals, name_size, same_name}
use Rattle.model.specs.Directory.{at}
use Rattle.model.specs.Catalog.{text, name_text}
use Rattle.model.proofs.Laws.Near.{Near}
use Rattle.model.proofs.Laws.Spelling.{Bears, same_bears, bears_same}
use Rattle.paths.specs.Ways.{spelled}

-- texts are the same where their bytes are
pub text_eq : (f : Bytes) (a : ℕ) (g : Bytes) (b k : ℕ) → ((i : ℕ) → i < k → f (a + i) ≡ g (b + i)) → text f a k ≡ text g b k
unfolding text
text_eq f a g b zero h = refl
text_eq f a g b (suc k) h =
    let z : f a ≡ g b = rw (add-zero a, add-zero b) at (h 0 (omega arith)) in
    let r = text_eq f (a + 1) g (b + 1) k (λ i l. rw (add_assoc a 1 i, add_assoc b 1 i) (h (1 + i) (omega arith))) in
    λ i. z i ∷ r i

text_length : (f : Bytes) (a k : ℕ) → length (text f a k) ≡ k
unfolding text
text_length f a zero = refl
text_length f a (suc k) = ap suc (text_length f (a + 1) k)

text_at : (f : Bytes) (a : ℕ) (g : Bytes) (b k : ℕ) → text f a k ≡ text g b k → (i : ℕ) → i < k → f (a + i) ≡ g (b + i)
unfolding text
text_at f a g b zero e i l = absurd (omega arith)
text_at f a g b (suc k) e zero l = let z : f a ≡ g b = cc in rw (add-zero a, add-zero b) z
text_at f a g b (suc k) e (suc i) l =
    let r : text f (a + 1) k ≡ text g (b + 1) k = cc in
    let x : a + suc i ≡ a + 1 + i = omega arith in
    let y : b + suc i ≡ b + 1 + i = omega arith in
    rw (x, y) (text_at f (a + 1) g (b + 1) k r i (omega arith))

pub bears_text : (v : Bytes) (s : ℕ) (p : Bytes) (x : Part) → Bears v (at s) p x → name_text v s ≡ spelled p x
bears_text v s p x B = rw B.sized (text_eq v (at s + 1) (capitals p) x.start x.size B.spelled)

pub same_text_law : (v : Bytes) (s : ℕ) (p : Bytes) (x : Part) → same_name v (at s) p x ≡ true → name_text v s ≡ spelled p x
same_text_law v s p x e = bears_text v s p x (same_bears v (at s) p x e)

pub text_same : (v : Bytes) (s : ℕ) (p : Bytes) (x : Part) → name_text v s ≡ spelled p x → same_name v (at s) p x ≡ true
text_same v s p x e =
    let z : name_size v (at s) ≡ x.size = sym (text_length v (at s + 1) (name_size v (at s))) ∙ ap length e ∙ text_length (capitals p) x.start x.size in
    bears_same v (at s) p x (record { sized = z; spelled = text_at v (at s + 1) (capitals p) x.start x.size (rw z at e) })

-- a name that stays
pub near_text : {v v' : Bytes} (s : ℕ) → Near v v' (at s) → name_text v' s ≡ name_text v s
near_text {v} {v'} s N = rw N.sized (text_eq v' (at s + 1) v (at s + 1) (name_size v (at s)) (λ i l. N.rest i (omega arith)))
