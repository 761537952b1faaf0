-- Names of paths that are the same as capitals, and paths whose names are.
use Prim.Native.Nat.{ℕ, ◌+◌, ◌<◌}
use mathlib.Core.Path.{◌≡◌, refl, sym, ◌∙◌}
use mathlib.Core.List.{List, [], ◌∷◌}
use native.Mathlib.Omega.{arith}
use Rattle.model.specs.Bytes.{Bytes}
use Rattle.model.specs.Names.{Part, capital, capitals, same_name}
use Rattle.model.proofs.ByteLaws.{equal_cong}
use Rattle.model.proofs.Laws.Spelling.{Bears}
use Rattle.paths.specs.Ways.{spelled}
use Rattle.paths.proofs.TextLaws.{text_eq}

-- Two names that are the same as capitals: x of p and y of q.
pub record Spelled (p : Bytes) (x : Part) (q : Bytes) (y : Part) : Type 0 where
  pub sized : x.size ≡ y.size
  pub same : (i : ℕ) → i < x.size → capital (p (x.start + i)) ≡ capital (q (y.start + i))

pub spelled_self : (p : Bytes) (x : Part) → Spelled p x p x
spelled_self p x = record { sized = refl; same = λ i l. refl }

pub spelled_sym : {p q : Bytes} {x y : Part} → Spelled p x q y → Spelled q y p x
spelled_sym E = let s = E.sized in record { sized = sym s; same = λ i l. sym (E.same i (omega arith)) }

pub spelled_trans : {p q o : Bytes} {x y z : Part} → Spelled p x q y → Spelled q y o z → Spelled p x o z
spelled_trans E F = let s = E.sized in record { sized = s ∙ F.sized; same = λ i l. E.same i l ∙ F.same i (omega arith) }

-- and so a stored name is both or neither
pub same_spelled : {p q : Bytes} {x y : Part} (v : Bytes) (a : ℕ) → Spelled p x q y → same_name v a q y ≡ same_name v a p x
unfolding same_name
same_spelled {p} {q} {x} {y} v a E =
    let s = E.sized in
    rw (s, equal_cong v (a + 1) (capitals p) x.start y.size v (a + 1) (capitals q) y.start (λ i l. refl) (λ i l. E.same i (omega arith))) refl

pub spelled_bears : {v : Bytes} {a : ℕ} {p q : Bytes} {x y : Part} → Spelled p x q y → Bears v a p x → Bears v a q y
spelled_bears E B =
    let s = E.sized in
    record { sized = B.sized ∙ s; spelled = λ i l. B.spelled i (omega arith) ∙ E.same i (omega arith) }

pub bears_spelled : {v : Bytes} {a : ℕ} {p q : Bytes} {x y : Part} → Bears v a p x → Bears v a q y → Spelled p x q y
bears_spelled A B =
    let s = A.sized in
    let t = B.sized in
    record { sized = sym s ∙ t; same = λ i l. sym (A.spelled i l) ∙ B.spelled i (omega arith) }

pub spelled_text : {p q : Bytes} {x y : Part} → Spelled p x q y → spelled p x ≡ spelled q y
spelled_text {p} {q} {x} {y} E = rw (← E.sized) (text_eq (capitals p) x.start (capitals q) y.start x.size E.same)

-- The names of two paths are the same but for the last ones, of which L holds.
pub data Names (p q : Bytes) (L : Part → Part → Type 0) : List Part → List Part → Type 0 where
  at_last : {x y : Part} → L x y → Names p q L (x ∷ []) (y ∷ [])
  before : {x y x' y' : Part} {xs ys : List Part} → Spelled p x q y → Names p q L (x' ∷ xs) (y' ∷ ys) → Names p q L (x ∷ x' ∷ xs) (y ∷ y' ∷ ys)

-- All names of two paths are the same as capitals.
pub data AlikeNames (p q : Bytes) : List Part → List Part → Type 0 where
  none_left : AlikeNames p q [] []
  one_more : {x y : Part} {xs ys : List Part} → Spelled p x q y → AlikeNames p q xs ys → AlikeNames p q (x ∷ xs) (y ∷ ys)

pub alike_self : (p : Bytes) (xs : List Part) → AlikeNames p p xs xs
alike_self p [] = none_left
alike_self p (x ∷ xs) = one_more (spelled_self p x) (alike_self p xs)

pub alike_names_law : {p q : Bytes} {x : Part} {xs ys : List Part} → AlikeNames p q (x ∷ xs) ys → Names p q (λ x y. Spelled p x q y) (x ∷ xs) ys
alike_names_law {xs = []} (one_more E none_left) = at_last E
alike_names_law {xs = u ∷ us} (one_more E (one_more F N)) = before E (alike_names_law (one_more F N))
