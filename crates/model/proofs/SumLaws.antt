-- Laws of sums over lists, of counts, of lists gathered and of runs of numbers. A number x is in the list l where 1 ≤ count x l. Assumes nothing.
use Prim.Native.Nat.{ℕ, zero, suc, ◌+◌, ◌*◌, ◌≤◌, ◌<◌}
use mathlib.Core.Path.{◌≡◌, refl, sym, ap, ◌∙◌, fun_ext}
use mathlib.Core.List.{List, [], ◌∷◌, ◌++◌, map}
use mathlib.Core.Bool.{Bool, true, false}
use lib.Dec.{eqb, ltb}
use lib.ListN.{length}
use native.Mathlib.Omega.{arith}
use native.Mathlib.Nat.{add-mul, zero-mul}
use borrow.Author.Tests.{eqb-true, eqb-false, ltb-true, ltb-false}
use Rattle.model.specs.Bytes.{sum, count, gather, run, is, one_if}
use Rattle.model.proofs.BitLaws.{is_no, is_yes}

-- Tests as numbers: is-yes, is-no, is-most and is-both stand in BitLaws.
pub is_self : (a : ℕ) → is a a ≡ 1
is_self a = is_yes a a refl

pub is_eq : (a b : ℕ) → 1 ≤ is a b → a ≡ b
is_eq a b h = go (eqb a b) refl h
  where
    go : (t : Bool) → eqb a b ≡ t → 1 ≤ one_if t → a ≡ b
    go true e k = eqb-true a b e
    go false e k = absurd (omega arith)

-- Over any type.
pub sum_append : {A : Type 0} (g : A → ℕ) (l m : List A) → sum g (l ++ m) ≡ sum g l + sum g m
unfolding sum
sum_append g [] m = omega arith
sum_append g (x ∷ l) m = omega (arith, sum_append g l m)

pub sum_add : {A : Type 0} (g h : A → ℕ) (l : List A) → sum (λ x. g x + h x) l ≡ sum g l + sum h l
unfolding sum
sum_add g h [] = refl
sum_add g h (x ∷ l) = omega (arith, sum_add g h l)

pub sum_scale : {A : Type 0} (g : A → ℕ) (c : ℕ) (l : List A) → sum (λ x. g x * c) l ≡ sum g l * c
unfolding sum
sum_scale g c [] = sym (zero-mul c)
sum_scale g c (x ∷ l) = rw (add-mul, sum_scale g c l) refl

pub sum_ext : {A : Type 0} (g h : A → ℕ) (l : List A) → ((x : A) → g x ≡ h x) → sum g l ≡ sum h l
sum_ext g h l f = ap (λ k. sum k l) (fun_ext f)

pub sum_most : {A : Type 0} (g h : A → ℕ) (l : List A) → ((x : A) → g x ≤ h x) → sum g l ≤ sum h l
unfolding sum
sum_most g h [] f = omega arith
sum_most g h (x ∷ l) f = omega (arith, f x, sum_most g h l f)

pub sum_none : {A : Type 0} (l : List A) → sum (λ _. 0) l ≡ 0
unfolding sum
sum_none [] = refl
sum_none (x ∷ l) = omega (arith, sum_none l)

pub sum_ones : {A : Type 0} (l : List A) → sum (λ _. 1) l ≡ length l
unfolding sum
sum_ones [] = refl
sum_ones (x ∷ l) = omega (arith, sum_ones l)

pub sum_map : {A B : Type 0} (g : B → ℕ) (f : A → B) (l : List A) → sum g (map f l) ≡ sum (λ x. g (f x)) l
unfolding sum
sum_map g f [] = refl
sum_map g f (x ∷ l) = ap (λ n. g (f x) + n) (sum_map g f l)

pub sum_gather : {A B : Type 0} (g : B → ℕ) (f : A → List B) (l : List A) → sum g (gather f l) ≡ sum (λ x. sum g (f x)) l
unfolding sum gather
sum_gather g f [] = refl
sum_gather g f (x ∷ l) = sum_append g (f x) (gather f l) ∙ ap (λ n. sum g (f x) + n) (sum_gather g f l)

-- the sums of a table, by rows and by columns
pub sum_swap : {A B : Type 0} (g : A → B → ℕ) (l : List A) (m : List B) → sum (λ x. sum (g x) m) l ≡ sum (λ y. sum (λ x. g x y) l) m
unfolding sum
sum_swap g [] m = sym (sum_none m)
sum_swap g (x ∷ l) m = ap (λ n. sum (g x) m + n) (sum_swap g l m) ∙ sym (sum_add (g x) (λ y. sum (λ x. g x y) l) m)

-- Over numbers, with what is known of those in the list.
pub sum_le : (g h : ℕ → ℕ) (l : List ℕ) → ((x : ℕ) → 1 ≤ count x l → g x ≤ h x) → sum g l ≤ sum h l
unfolding sum
sum_le g h [] f = omega arith
sum_le g h (s ∷ l) f = omega (arith, f s (omega (arith, is_self s)), sum_le g h l (λ x k. f x (omega arith)))

pub sum_eq : (g h : ℕ → ℕ) (l : List ℕ) → ((x : ℕ) → 1 ≤ count x l → g x ≡ h x) → sum g l ≡ sum h l
sum_eq g h l f = omega (arith, sum_le g h l (λ x k. omega (arith, f x k)), sum_le h g l (λ x k. omega (arith, f x k)))

pub sum_zero : (g : ℕ → ℕ) (l : List ℕ) → ((x : ℕ) → 1 ≤ count x l → g x ≡ 0) → sum g l ≡ 0
sum_zero g l f = sum_eq g (λ _. 0) l f ∙ sum_none l

pub sum_mem : (g : ℕ → ℕ) (x : ℕ) (l : List ℕ) → 1 ≤ count x l → g x ≤ sum g l
unfolding sum
sum_mem g x [] h = absurd (omega arith)
sum_mem g x (y ∷ l) h = go (eqb x y) refl h (sum_mem g x l)
  where
    go : (b : Bool) → eqb x y ≡ b → 1 ≤ one_if b + count x l → (1 ≤ count x l → g x ≤ sum g l) → g x ≤ g y + sum g l
    go true e k f = rw (eqb-true x y e) (omega arith)
    go false e k f = omega (arith, f (omega arith))

-- a sum that is not 0 has a part that is not
pub sum_some : (g : ℕ → ℕ) (l : List ℕ) → 1 ≤ sum g l → (x : ℕ) × (1 ≤ count x l) × (1 ≤ g x)
unfolding sum
sum_some g [] h = absurd (omega arith)
sum_some g (s ∷ l) h = go (ltb 0 (g s)) refl (sum_some g l)
  where
    go : (b : Bool) → ltb 0 (g s) ≡ b → (1 ≤ sum g l → (x : ℕ) × (1 ≤ count x l) × (1 ≤ g x)) → (x : ℕ) × (1 ≤ is x s + count x l) × (1 ≤ g x)
    go true e f = (s, omega (arith, is_self s), ltb-true 0 (g s) e)
    go false e f = let r = f (omega (arith, ltb-false 0 (g s) e)) in (r.0, omega (arith, r.1), r.2)

pub count_here : (x : ℕ) (l : List ℕ) → 1 ≤ count x (x ∷ l)
unfolding sum
count_here x l = omega (arith, is_self x)

pub count_none : (x : ℕ) → 1 ≤ count x [] → ⊥
unfolding sum
count_none x h = omega arith

-- Runs of numbers.
pub run_low : (k a x : ℕ) → x < a → count x (run a k) ≡ 0
unfolding run sum
run_low zero a x h = refl
run_low (suc k) a x h = omega (arith, run_low k (suc a) x (omega arith), is_no x a (omega arith))

pub run_high : (k a x : ℕ) → a + k ≤ x → count x (run a k) ≡ 0
unfolding run sum
run_high zero a x h = refl
run_high (suc k) a x h = omega (arith, run_high k (suc a) x (omega arith), is_no x a (omega arith))

pub run_in_law : (k a x : ℕ) → 1 ≤ count x (run a k) → (a ≤ x) × (x < a + k)
run_in_law k a x h = (go (ltb x a) refl, go' (ltb x (a + k)) refl)
  where
    go : (b : Bool) → ltb x a ≡ b → a ≤ x
    go true e = absurd (omega (arith, run_low k a x (ltb-true x a e)))
    go false e = ltb-false x a e

    go' : (b : Bool) → ltb x (a + k) ≡ b → x < a + k
    go' true e = ltb-true x (a + k) e
    go' false e = absurd (omega (arith, run_high k a x (ltb-false x (a + k) e)))

pub run_most : (k a x : ℕ) → count x (run a k) ≤ 1
unfolding run sum
run_most zero a x = omega arith
run_most (suc k) a x = go (eqb x a) refl (run_most k (suc a) x)
  where
    go : (b : Bool) → eqb x a ≡ b → count x (run (suc a) k) ≤ 1 → one_if b + count x (run (suc a) k) ≤ 1
    go true e h = omega (arith, eqb-true x a e, run_low k (suc a) x (omega (arith, eqb-true x a e)))
    go false e h = omega arith

pub run_has : (k a x : ℕ) → a ≤ x → x < a + k → 1 ≤ count x (run a k)
unfolding run sum
run_has zero a x h l = absurd (omega arith)
run_has (suc k) a x h l = go (eqb x a) refl (run_has k (suc a) x)
  where
    go : (b : Bool) → eqb x a ≡ b → (suc a ≤ x → x < suc a + k → 1 ≤ count x (run (suc a) k)) → 1 ≤ one_if b + count x (run (suc a) k)
    go true e f = omega arith
    go false e f = let n = eqb-false x a e in omega (arith, f (omega arith) (omega arith))

pub run_length : (k a : ℕ) → length (run a k) ≡ k
unfolding run
run_length zero a = refl
run_length (suc k) a = ap suc (run_length k (suc a))
