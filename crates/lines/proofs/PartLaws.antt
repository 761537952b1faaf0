-- Parts of a slice, cut out and put down. Assumes nothing.
use Prim.Native.Nat.{ℕ, zero, suc, ◌+◌, ◌-◌, ◌≤◌, ◌<◌}
use mathlib.Core.Path.{◌≡◌, refl, ap, ◌∙◌, fun_ext}
use mathlib.Core.List.{List, ◌++◌}
use lib.ListN.{length, get_or, take, drop, replicate, length-take, get_or-eq_default}
use native.Mathlib.Omega.{arith}
use Rattle.model.specs.Bytes.{Bytes, view, paste, from, zeros}
use Rattle.model.proofs.ByteLaws.{paste_by, paste_at, paste_out, view_read, view_part, length_part}
use Rattle.lines.specs.Commands.{cut}

-- an array of zeros
pub view_zeros : (n : ℕ) → view (replicate n 0) ≡ zeros
view_zeros n = fun_ext (at n)
  where
    at : (n i : ℕ) → ◌≡◌ {A = ℕ} (get_or (replicate n 0) i 0) 0
    at zero i = refl
    at (suc n) zero = refl
    at (suc n) (suc i) = at n i

-- The part of a slice that holds k bytes from a on.
pub view_cut : (xs : List ℕ) (a k : ℕ) → view (take k (drop a xs)) ≡ cut (view xs) a k
view_cut xs a k = paste_by (view (take k (drop a xs))) zeros 0 k (from (view xs) a) inside outside
  where
    inside : (i : ℕ) → i < k → view (take k (drop a xs)) (0 + i) ≡ view xs (a + i)
    inside i h = let e : 0 + i ≡ i = omega arith in rw e (view_read xs a k i h)

    outside : (i : ℕ) → (0 ≤ i → i < 0 + k → ⊥) → view (take k (drop a xs)) i ≡ 0
    outside i n = get_or-eq_default (take k (drop a xs)) 0 (simp length-take (omega (arith, n (omega arith))))

-- What holds of a part lent, from a on and of k bytes, holds of the cut.
pub part_as : (P : Bytes → ℕ → Type 0) (xs : List ℕ) (a e k : ℕ) → e ≡ a + k → e ≤ length xs
    → P (view (take (e - a) (drop a xs))) (length (take (e - a) (drop a xs))) → P (cut (view xs) a k) k
part_as P xs a e k q l h =
    let d : e - a ≡ k = omega arith in
    rw (d, view_cut xs a k, length_part xs a k (omega arith)) at h

-- What holds of the part of the room that is lent as the first text holds of the text.
pub text_as : (P : Bytes → ℕ → Type 0) (vs ts : List ℕ) → view vs 0 ≤ length ts
    → P (view (take (view vs 0 - 0) (drop 0 ts))) (length (take (view vs 0 - 0) (drop 0 ts))) → P (cut (view ts) 0 (view vs 0)) (view vs 0)
text_as P vs ts h p = part_as P ts 0 (view vs 0) (view vs 0) (omega arith) h p

-- a part from the start on, given back
pub front_back : (xs ys : List ℕ) (k : ℕ) → k ≤ length xs → length ys ≡ k → view (ys ++ drop (k - 0) xs) ≡ paste (view xs) 0 k (view ys)
front_back xs ys k h e = let d : k - 0 ≡ k = omega arith in rw d (view_part xs ys 0 k (omega arith) e)

pub from_start : (f : Bytes) → from f 0 ≡ f
from_start f = fun_ext (λ i. let e : 0 + i ≡ i = omega arith in ap f e)

-- a list that is all written over
pub paste_whole : (xs : List ℕ) (g : Bytes) → paste (view xs) 0 (length xs) g ≡ paste zeros 0 (length xs) g
paste_whole xs g = paste_by (paste (view xs) 0 (length xs) g) zeros 0 (length xs) g (paste_at (view xs) 0 (length xs) g) outside
  where
    outside : (i : ℕ) → (0 ≤ i → i < 0 + length xs → ⊥) → paste (view xs) 0 (length xs) g i ≡ 0
    outside i n = paste_out (view xs) 0 (length xs) g i n ∙ get_or-eq_default xs 0 (omega (arith, n (omega arith)))
