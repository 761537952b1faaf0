-- A part of a slice, as the library's methods see it, and the same bytes by address. Assumes nothing.
use mathlib.Core.Path.{◌≡◌, refl, sym, ap, ◌∙◌}
use mathlib.Core.List.{List}
use mathlib.Core.Bool.{Bool, true, false, ◌&&◌}
use Prim.Native.Nat.{ℕ, zero, suc, ◌+◌, ◌-◌, ◌≤◌, ◌<◌}
use lib.ListN.{length, set, take, drop, get_or, replicate}
use lib.Seq.{drop-cons, length-take-le}
use lib.Dec.{eqb}
use native.Mathlib.Omega.{arith}
use mir.Syntax.{w64}
use borrow.Rule.Slice.PartMut.{put_mid}
use Rattle.std.proofs.lemmas.List.{get_or-replicate}
use Rattle.std.specs.Cmp.Lexicographic.{pointwise}
use Rattle.std.specs.Int.{to_le_bytes}
use Rattle.std.specs.List.{list_all, HoldsAt, AllWithin}
use Rattle.model.specs.Bytes.{Bytes, view, put, paste, same, digit, equal_bytes, place_of}
use Rattle.model.specs.Map.{all_zero}
use Rattle.model.proofs.ByteLaws.{Agree, view_set, view_part, view_take, view_read, length_part, paste_cong, paste_more, place_here, place_more, place_none}

-- a part of xs from a up to e that has been written as the source
pub part_pasted : (xs ys : List ℕ) (a e k : ℕ) (g : Bytes) → e ≡ a + k → e ≤ length xs → length ys ≡ k → Agree k (view ys) g
    → view (put_mid a (e - a) xs ys) ≡ paste (view xs) a k g
part_pasted xs ys a e k g s h n w =
    let d : e - a ≡ k = omega arith in
    rw d (view_part xs ys a k (omega arith) n) ∙ paste_cong (view xs) a k (view ys) g w

-- a loop that writes the source byte by byte
pub byte_pasted : (f : Bytes) (ys : List ℕ) (a k v : ℕ) (g : Bytes) → view ys ≡ paste f a k g → a + k < length ys → v ≡ g k
    → view (set ys (a + k) v) ≡ paste f a (k + 1) g
byte_pasted f ys a k v g e h w =
    view_set ys (a + k) v h ∙ ap (λ f. put f (a + k) v) e ∙ ap (put (paste f a k g) (a + k)) w ∙ paste_more f a g k

pub agree_replicate : (k c : ℕ) → Agree k (view (replicate k c)) (same c)
agree_replicate k c i h = get_or-replicate k i c 0 h

-- the low digits of a number, as `to_le_bytes` has them
low_digits : (x : ℕ) → Agree 3 (view (to_le_bytes w64 x)) (digit x)
unfolding digit
low_digits x zero h = omega arith
low_digits x (suc zero) h = refl
low_digits x (suc (suc zero)) h = refl
low_digits x (suc (suc (suc i))) h = absurd (omega arith)

pub digits_stored : (xs ys : List ℕ) (a k x : ℕ) → k ≤ 3 → a + k ≤ length xs → ys ≡ take k (to_le_bytes w64 x)
    → view (put_mid a (a + k - a) xs ys) ≡ paste (view xs) a k (digit x)
digits_stored xs ys a k x few fits e =
    part_pasted xs ys a (a + k) k (digit x) refl fits (rw e (length-take-le k (to_le_bytes w64 x) (omega arith)))
    (λ i l. rw e (view_take k (to_le_bytes w64 x) i l ∙ low_digits x i (omega arith)))

-- `and` of the library, as the definitions write it
and_by : (x y : Bool) → (x && y) ≡ elim x [ true ↦ y | false ↦ false ]
and_by true y = refl
and_by false y = refl

-- `==` on two parts, and `all` on one
pub parts_equal : (f : List ℕ) (a : ℕ) (g : List ℕ) (b k : ℕ) → a + k ≤ length f → b + k ≤ length g
    → pointwise eqb (take k (drop a f)) (take k (drop b g)) ≡ equal_bytes (view f) a (view g) b k
unfolding equal_bytes
parts_equal f a g b zero h l = refl
parts_equal f a g b (suc k) h l =
    let d : suc a ≡ a + 1 = omega arith in
    let e : suc b ≡ b + 1 = omega arith in
    let rest = parts_equal f (a + 1) g (b + 1) k (omega arith) (omega arith) in
    rw (drop-cons f a 0 (omega arith), drop-cons g b 0 (omega arith), d, e)
    (ap (λ r. eqb (get_or f a 0) (get_or g b 0) && r) rest ∙ and_by (eqb (get_or f a 0) (get_or g b 0)) (equal_bytes (view f) (a + 1) (view g) (b + 1) k))

pub part_zero : (f : List ℕ) (a k : ℕ) → a + k ≤ length f → list_all (λ x. eqb x 0) (take k (drop a f)) ≡ all_zero (view f) a k
unfolding all_zero
part_zero f a zero h = refl
part_zero f a (suc k) h =
    let d : suc a ≡ a + 1 = omega arith in
    rw (drop-cons f a 0 (omega arith), d)
    (ap (λ r. eqb (get_or f a 0) 0 && r) (part_zero f (a + 1) k (omega arith)) ∙ and_by (eqb (get_or f a 0) 0) (all_zero (view f) (a + 1) k))

-- the first place that has a byte, and none
first_place : (f : Bytes) (c a k i : ℕ) → i < k → f (a + i) ≡ c → ((j : ℕ) → j < i → f (a + j) ≡ c → ⊥) → a + i ≡ place_of f c a k
first_place f c a zero i h e n = absurd (omega arith)
first_place f c a (suc k) zero h e n =
    let d : a + 0 ≡ a = omega arith in
    d ∙ sym (place_here f c a (suc k) (ap f (sym d) ∙ e))
first_place f c a (suc k) (suc i) h e n =
    let d : a + suc i ≡ a + 1 + i = omega arith in
    let z : a + 0 ≡ a = omega arith in
    let later = λ (j : ℕ) (l : j < i) (m : f (a + 1 + j) ≡ c). let p : a + (j + 1) ≡ a + 1 + j = omega arith in n (j + 1) (omega arith) (ap f p ∙ m) in
    d ∙ first_place f c (a + 1) k i (omega arith) (ap f (sym d) ∙ e) later
    ∙ sym (place_more f c a (suc k) k refl (λ m. n 0 (omega arith) (ap f z ∙ m)))

no_place : (f : Bytes) (c a k : ℕ) → ((j : ℕ) → j < k → f (a + j) ≡ c → ⊥) → a + k ≡ place_of f c a k
no_place f c a zero n = let d : a + 0 ≡ a = omega arith in d ∙ sym (place_none f c a)
no_place f c a (suc k) n =
    let d : a + suc k ≡ a + 1 + k = omega arith in
    let z : a + 0 ≡ a = omega arith in
    let later = λ (j : ℕ) (l : j < k) (m : f (a + 1 + j) ≡ c). let p : a + (j + 1) ≡ a + 1 + j = omega arith in n (j + 1) (omega arith) (ap f p ∙ m) in
    d ∙ no_place f c (a + 1) k later ∙ sym (place_more f c a (suc k) k refl (λ m. n 0 (omega arith) (ap f z ∙ m)))

-- `position` on a part
pub part_first : (s : List ℕ) (c a k i : ℕ) → a + k ≤ length s
    → (i < length (take k (drop a s))) × HoldsAt (λ x. x ≡ c) (take k (drop a s)) i × AllWithin (λ x. x ≡ c → ⊥) (take k (drop a s)) 0 i
    → a + i ≡ place_of (view s) c a k
part_first s c a k i fits h =
    let l : i < k = omega (arith, h.0, length_part s a k fits) in
    first_place (view s) c a k i l (sym (view_read s a k i l) ∙ h.1 0) (λ j m e. h.2 j 0 (omega arith) m (view_read s a k j (omega arith) ∙ e))

pub part_none : (s : List ℕ) (c a k : ℕ) → a + k ≤ length s → AllWithin (λ x. x ≡ c → ⊥) (take k (drop a s)) 0 (length (take k (drop a s)))
    → a + k ≡ place_of (view s) c a k
part_none s c a k fits h =
    no_place (view s) c a k (λ j m e. h j 0 (omega arith) (omega (arith, length_part s a k fits)) (view_read s a k j m ∙ e))
