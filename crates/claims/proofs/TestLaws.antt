-- Tests, and what they count for. Assumes nothing.
use mathlib.Core.Path.{◌≡◌, refl, sym}
use mathlib.Core.Bool.{Bool, true, false, not, false≢true, beq}
use mathlib.Core.Logic.{◌↔◌}
use Prim.Native.Nat.{ℕ, suc, ◌+◌, ◌≤◌, ◌<◌}
use native.Mathlib.Omega.{arith}
use borrow.Author.Tests.{eqb-true, eqb-false, ltb-true, ltb-false, eq-eqb, lt-leb, le-leb}
use lib.Dec.{eqb, ltb, leb}
use Rattle.model.specs.Bytes.{one_if, ne, unless, ◌and◌, ◌or◌}
use Rattle.model.proofs.ByteLaws.{at_or_off}
pub use Rattle.model.proofs.BitLaws.{one_most, is_yes as is_same}

-- a test by its two values, with the equation
pub decide : {P : Type 0} (t : Bool) → (t ≡ true → P) → (t ≡ false → P) → P
decide true f g = f refl
decide false f g = g refl

-- two tests that hold together are one
pub both : (a b : Bool) → (a ≡ true → b ≡ true) → (b ≡ true → a ≡ true) → a ≡ b
both true b f g = sym (f refl)
both false true f g = g refl
both false false f g = refl

pub refuted : (t : Bool) → (t ≡ true → ⊥) → t ≡ false
refuted true f = absurd (f refl)
refuted false f = refl

pub and_true : (a b : Bool) → ((a and b) ≡ true) ↔ ((a ≡ true) × (b ≡ true))
unfolding ◌and◌
and_true true b = (λ e. (refl, e), λ p. p.1)
and_true false b = (λ e. absurd (false≢true e), λ p. absurd (false≢true p.0))

pub and_false : (a b : Bool) → (a ≡ true → b ≡ true → ⊥) → (a and b) ≡ false
unfolding ◌and◌
and_false true b f = refuted b (f refl)
and_false false b f = refl

-- of two tests that exclude one another, one of them
pub or_one : (a b : Bool) → (a ≡ true → b ≡ true → ⊥) → one_if (a or b) ≡ one_if a + one_if b
unfolding ◌or◌
or_one true b f = rw (refuted b (f refl))
or_one false b f = omega arith

pub one_on : (t : Bool) → (t ≡ true) ↔ (1 ≤ one_if t)
one_on true = (λ e. omega arith, λ h. refl)
one_on false = (λ e. absurd (false≢true e), λ h. absurd (omega arith))

pub none_off : (t : Bool) → one_if t ≡ 0 → t ≡ false
none_off true e = absurd (omega arith)
none_off false e = refl

pub ne_zero : (a b : ℕ) → ne a b ≡ 0 → a ≡ b
ne_zero a b h = decide (eqb a b) (eqb-true a b) (λ e. let z : 1 ≡ 0 = rw e at h in absurd (omega arith))

pub unless_not : (t : Bool) → unless (not t) ≡ one_if t
unless_not true = refl
unless_not false = refl

pub unless_below : (x e : ℕ) → unless (ltb x e) ≡ one_if (leb e x)
unless_below x e = decide (ltb x e) (λ l. rw (l, lt-leb e x (ltb-true x e l))) (λ l. rw (l, le-leb e x (ltb-false x e l)))

pub zero_test : (x : ℕ) → (unless (eqb x 0) ≡ 0) ↔ (x ≡ 0)
zero_test x = (ne_zero x 0, λ h. rw (eq-eqb x 0 h))

-- one number is 1 exactly where a test fails
pub bit_right : (f : ℕ) (t : Bool) → f ≤ 1 → (beq (eqb f 1) (not t) ≡ true) ↔ (one_if t + f ≡ 1)
bit_right f t h = go (eqb f 1) t refl
  where
    go : (p t : Bool) → eqb f 1 ≡ p → (beq p (not t) ≡ true) ↔ (one_if t + f ≡ 1)
    go true true q = (λ e. absurd (false≢true e), λ e. absurd (omega (arith, eqb-true f 1 q)))
    go true false q = (λ e. omega (arith, eqb-true f 1 q), λ e. refl)
    go false true q = (λ e. omega (arith, eqb-false f 1 q), λ e. refl)
    go false false q = (λ e. absurd (false≢true e), λ e. absurd (eqb-false f 1 q (omega arith)))

-- one more number below a bound
pub below_more : {P : ℕ → Type 0} (n : ℕ) → ((b : ℕ) → b < n → P b) → P n → (b : ℕ) → b < suc n → P b
below_more {P} n f p b l = at_or_off b n (λ e. rw e p) (λ o. f b (omega (arith, o)))
