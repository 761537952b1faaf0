-- Lists gathered and summed, beside the laws of the model. Assumes nothing.
use mathlib.Core.Path.{◌≡◌, refl, sym, ap, ◌∙◌, fun_ext}
use mathlib.Core.List.{List, [], ◌∷◌, ◌++◌, map, append_assoc, map-append}
use Prim.Native.Nat.{ℕ, zero, suc, ◌+◌, ◌-◌, ◌≤◌, ◌<◌}
use native.Mathlib.Nat.{not-suc-le-zero}
use native.Mathlib.Numerals.{add-one, sub-one}
use native.Mathlib.Omega.{arith}
use borrow.Author.Tests.{leb-false, ltb-true, ltb-false}
use lib.Dec.{leb, ltb}
use Rattle.model.specs.Bytes.{sum, count, gather, run}
use Rattle.model.specs.Sound.{outside}
use Rattle.model.proofs.ByteLaws.{at_or_off}
use Rattle.model.proofs.BitLaws.{is_no}
use Rattle.model.proofs.SumLaws.{run_in_law, run_has, run_most}
pub use Rattle.model.proofs.SumLaws.{sum_append, sum_add, sum_gather, sum_ext as sum_same}
use Rattle.claims.proofs.TestLaws.{decide, none_off}

module _ {A : Type 0} (f : A → ℕ) where
  -- a sum is 0 where another is, if each part is
  pub sum_zero : (g : A → ℕ) (xs : List A) → ((x : A) → f x ≡ 0 → g x ≡ 0) → sum f xs ≡ 0 → sum g xs ≡ 0
  unfolding sum
  sum_zero g [] h e = refl
  sum_zero g (x ∷ xs) h e = omega (arith, h x (omega arith), sum_zero g xs h (omega arith))

module _ {A B : Type 0} (f : A → List B) where
  pub gather_append : (xs ys : List A) → gather f (xs ++ ys) ≡ gather f xs ++ gather f ys
  unfolding gather
  gather_append [] ys = refl
  gather_append (x ∷ xs) ys = rw (gather_append xs ys) (sym (append_assoc (f x) (gather f xs) (gather f ys)))

  pub gather_gather : {C : Type 0} (g : C → List A) (xs : List C) → gather f (gather g xs) ≡ gather (λ x. gather f (g x)) xs
  unfolding gather
  gather_gather g [] = refl
  gather_gather g (x ∷ xs) = gather_append (g x) (gather g xs) ∙ ap (λ (k : List B). gather f (g x) ++ k) (gather_gather g xs)

  pub gather_same : (g : A → List B) (xs : List A) → ((x : A) → f x ≡ g x) → gather f xs ≡ gather g xs
  gather_same g xs h = ap (λ (k : A → List B). gather k xs) (fun_ext h)

  pub map_gather : {C : Type 0} (g : B → C) (xs : List A) → map g (gather f xs) ≡ gather (λ x. map g (f x)) xs
  unfolding gather
  map_gather g [] = refl
  map_gather g (x ∷ xs) = map-append g (f x) (gather f xs) ∙ ap (λ (k : List _). map g (f x) ++ k) (map_gather g xs)

-- a loop over a run: i counts up, what is left counts down
module _ {A : Type 0} (f : ℕ → List A) (i : ℕ) where
  pub gather_step : (c : ℕ) → 0 < c → gather f (run i c) ≡ f i ++ gather f (run (i + 1) (c - 1))
  unfolding gather run
  gather_step zero h = absurd (not-suc-le-zero h)
  gather_step (suc c) h = rw (add-one, sub-one)

  pub gather_end : (c : ℕ) → c ≡ 0 → gather f (run i c) ≡ []
  unfolding gather run
  gather_end c h = rw h

-- how often a number stands in a run, and what it is if it stands in a list of blocks of the volume
module _ (b : ℕ) where
  pub count_out : (a c : ℕ) → (a ≤ b → b < a + c → ⊥) → count b (run a c) ≡ 0
  count_out a c h = at_or_off (count b (run a c)) 0 (λ e. e) (λ z. let r = run_in_law c a b (omega arith) in absurd (h r.0 r.1))

  pub count_in : (a c : ℕ) → a ≤ b → b < a + c → count b (run a c) ≡ 1
  count_in a c l h = omega (arith, run_has c a b l h, run_most c a b)

  pub off_volume : (n : ℕ) (bs : List ℕ) → outside n bs ≡ 0 → n ≤ b → count b bs ≡ 0
  unfolding sum
  off_volume n [] o l = refl
  off_volume n (x ∷ bs) o l =
      let h : x < n = leb-false n x (none_off (leb n x) (omega arith)) in
      omega (arith, is_no b x (λ e. omega arith), off_volume n bs (omega arith) l)

  pub on_volume : (n : ℕ) (bs : List ℕ) → outside n bs ≡ 0 → 1 ≤ count b bs → b < n
  on_volume n bs o c = decide (ltb b n) (ltb-true b n) (λ e. absurd (omega (arith, off_volume n bs o (ltb-false b n e))))
