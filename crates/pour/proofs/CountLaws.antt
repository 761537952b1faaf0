-- What is missing, counted block by block and index by index.
use Prim.Native.Nat.{ℕ, zero, suc, ◌+◌, ◌-◌, ◌≤◌, ◌<◌, ◌^◌}
use mathlib.Core.Path.{◌≡◌, refl, sym, ◌∙◌}
use mathlib.Core.Bool.{Bool, true, false, cond}
use mathlib.Core.List.{List, ◌∷◌}
use lib.Dec.{eqb, ltb}
use lib.ListN.{length}
use Rattle.std.specs.List.{filter, range_with_len}
use native.Mathlib.Omega.{arith}
use native.Mathlib.Numerals.{add-one}
use borrow.Author.Tests.{eq-eqb, ne_eqb, lt-ltb}
use Rattle.model.specs.Bytes.{Bytes, sum, run, is, one_if}
use Rattle.model.specs.File.{pointer, data_block}
use Rattle.model.specs.Grow.{lacks_block, lacks_index}
use Rattle.model.proofs.BitLaws.{is_yes}
use Rattle.facts.specs.Reached.{Deep}

pub deep_key : (n : ℕ) (v : Bytes) (h k : ℕ) → Deep n v h k → k < n
deep_key n v zero k d = d
deep_key n v (suc h) k d = d.0

-- A test that is told as 1 or 0, and how many of a range pass it.
pub test_of : (t : Bool) (n : ℕ) → one_if t ≡ n → t ≡ eqb n 1
test_of true n e = sym (eq-eqb n 1 (sym e))
test_of false n e = sym (ne_eqb n 1 (λ z. omega arith))

one_more : (x a : ℕ) (zs : List ℕ) (r : ℕ) → x ≤ 1 → length zs ≡ r → length (cond (eqb x 1) (a ∷ zs) zs) ≡ x + r
one_more zero a zs r m e = omega arith
one_more (suc zero) a zs r m e = omega arith
one_more (suc (suc x)) a zs r m e = absurd (omega arith)

count_is : (f : ℕ → ℕ) → ((q : ℕ) → f q ≤ 1) → (a c : ℕ) → length (filter (λ q. eqb (f q) 1) (range_with_len a c)) ≡ sum f (run a c)
unfolding sum run
count_is f m a zero = refl
count_is f m a (suc c) = one_more (f a) a _ _ (m a) (rw add-one (count_is f m (suc a) c))

sum_most : (f : ℕ → ℕ) → ((q : ℕ) → f q ≤ 1) → (a c : ℕ) → sum f (run a c) ≤ c
unfolding sum run
sum_most f m a zero = omega arith
sum_most f m a (suc c) = omega (arith, m a, sum_most f m (suc a) c)

module _ (f : ℕ → ℕ) (q end : ℕ) where
  pub sum_step : q < end → sum f (run q (end - q)) ≡ f q + sum f (run (q + 1) (end - (q + 1)))
  unfolding run sum
  sum_step l = let e : end - q ≡ suc (end - (q + 1)) = omega arith in rw (e, add-one q, run, sum) refl

  pub sum_end : end ≤ q → sum f (run q (end - q)) ≡ 0
  unfolding run sum
  sum_end l = let e : end - q ≡ 0 = omega arith in rw (e, run, sum) refl

pub counted : (f : ℕ → ℕ) → ((q : ℕ) → f q ≤ 1) → (a c r : ℕ) → r ≡ length (filter (λ q. eqb (f q) 1) (range_with_len a c)) → (r ≡ sum f (run a c)) × (r ≤ c)
counted f m a c r e = (e ∙ count_is f m a c, omega (arith, count_is f m a c, sum_most f m a c))

is_most : (t : Bool) → one_if t ≤ 1
is_most true = omega arith
is_most false = omega arith

pub block_one : (v : Bytes) (h k p : ℕ) → lacks_block v h k p ≤ 1
unfolding lacks_block
block_one v h k p = go (ltb p (256 ^ h))
  where
    go : (t : Bool) → elim t [ true ↦ is (data_block v h k p) 0 | false ↦ 1 ] ≤ 1
    go true = is_most (eqb (data_block v h k p) 0)
    go false = omega arith

pub index_one : (v : Bytes) (h k i : ℕ) → lacks_index v h k i ≤ 1
unfolding lacks_index
index_one v h k i = go (eqb h 2)
  where
    go : (t : Bool) → elim t [ true ↦ is (pointer v k i) 0 | false ↦ 1 - is i 0 ] ≤ 1
    go true = is_most (eqb (pointer v k i) 0)
    go false = omega arith

module _ (v : Bytes) (h k p : ℕ) where
  block_near : p < 256 ^ h → is (data_block v h k p) 0 ≡ lacks_block v h k p
  unfolding lacks_block
  block_near l = rw (lt-ltb p (256 ^ h) l, lacks_block) refl

  pub block_hole : p < 256 ^ h → data_block v h k p ≡ 0 → 1 ≡ lacks_block v h k p
  block_hole l e = sym (is_yes _ 0 e) ∙ block_near l

module _ (v : Bytes) (h k i : ℕ) where
  tree_index : h ≡ 2 → is (pointer v k i) 0 ≡ lacks_index v h k i
  unfolding lacks_index
  tree_index e = rw (eq-eqb h 2 e, lacks_index) refl

  pub index_hole : h ≡ 2 → pointer v k i ≡ 0 → 1 ≡ lacks_index v h k i
  index_hole e z = sym (is_yes _ 0 z) ∙ tree_index e
