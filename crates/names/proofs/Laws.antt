-- One step of each test on a run of bytes, for the loops that make it. Assumes nothing.
use mathlib.Core.Path.{◌≡◌, refl, sym, ◌∙◌}
use mathlib.Core.Bool.{Bool, true, false}
use mathlib.Core.List.{[]}
use Prim.Native.Nat.{ℕ, zero, suc, ◌+◌, ◌-◌, ◌<◌}
use native.Mathlib.Omega.{arith}
use borrow.Author.Tests.{eq-eqb, ne_eqb, lt-leb}
use Rattle.model.specs.Bytes.{Bytes, equal_bytes, ◌and◌, within}
use Rattle.model.specs.Names.{slash, name_byte, name_bytes, proper_parts}
use Rattle.model.proofs.TestLaws.{and_off}
use Rattle.model.proofs.ByteLaws.{at_or_off}
pub use Rattle.model.proofs.TestLaws.{and_left, and_right}
pub use Rattle.model.proofs.Laws.Spelling.{within_in, within_is as within_true, capital_small, capital_other}
use Rattle.names.specs.Steps.{last_start}

pub within_below : (low high x : ℕ) → x < low → within low high x ≡ false
unfolding within ◌and◌
within_below low high x p = rw (lt-leb low x p)

pub within_above : (low high x : ℕ) → high < x → within low high x ≡ false
unfolding within ◌and◌
within_above low high x p = rw (lt-leb x high p, and_off)

-- Every byte of a run is a letter, a digit or a dot, or one is none.
module _ (p : Bytes) where
  pub bytes_each : (a k : ℕ) → ((i : ℕ) → i < k → true ≡ name_byte (p (a + i))) → name_bytes p a k ≡ true
  unfolding name_bytes
  bytes_each a zero h = refl
  bytes_each a (suc k) h =
      let x : a + 0 ≡ a = omega arith in
      let e : name_byte (p a) ≡ true = rw x at (sym (h 0 (omega arith))) in
      rw (e, name_bytes)
      (bytes_each (a + 1) k (λ i l. let y : a + 1 + i ≡ a + (i + 1) = omega arith in rw y (h (i + 1) (omega arith))))

  bytes_by : (a k : ℕ) (t : Bool) → name_byte (p a) ≡ t → name_bytes p (a + 1) k ≡ false → name_bytes p a (suc k) ≡ false
  unfolding name_bytes
  bytes_by a k true e h = rw (e, name_bytes) h
  bytes_by a k false e h = rw (e, name_bytes)

  pub bytes_not : (a k i : ℕ) → i < k → false ≡ name_byte (p (a + i)) → name_bytes p a k ≡ false
  unfolding name_bytes
  bytes_not a zero i l h = absurd (let w : ⊥ = omega arith in w)
  bytes_not a (suc k) zero l h =
      let x : a + 0 ≡ a = omega arith in
      let e : name_byte (p a) ≡ false = rw x at (sym h) in
      rw (e, name_bytes)
  bytes_not a (suc k) (suc i) l h =
      let x : a + suc i ≡ a + 1 + i = omega arith in
      bytes_by a k (name_byte (p a)) refl (bytes_not (a + 1) k i (omega arith) (rw x at h))

module _ (p : Bytes) (a : ℕ) where
  pub bytes_more : (k m : ℕ) → k ≡ suc m → name_byte (p a) ≡ true → name_bytes p a k ≡ name_bytes p (a + 1) m
  unfolding name_bytes
  bytes_more k m e h = rw (e, h, name_bytes)

-- runs of n bytes, of which i were found equal
module _ (f g : Bytes) (a b n : ℕ) where
  pub equal_more : (i : ℕ) → i < n → f (a + i) ≡ g (b + i)
      → equal_bytes f (a + i) g (b + i) (n - i) ≡ equal_bytes f (a + (i + 1)) g (b + (i + 1)) (n - (i + 1))
  unfolding equal_bytes
  equal_more i l h =
      let e : n - i ≡ suc (n - (i + 1)) = omega arith in
      let x : a + (i + 1) ≡ a + i + 1 = omega arith in
      let y : b + (i + 1) ≡ b + i + 1 = omega arith in
      rw (x, y, e, eq-eqb _ _ h, equal_bytes)

module _ (p : Bytes) where
  pub last_here : (n m : ℕ) → n ≡ suc m → p m ≡ slash → last_start p n ≡ n
  unfolding last_start
  last_here n m e h = rw (e, eq-eqb _ _ h, last_start)

  pub last_more : (n m : ℕ) → n ≡ suc m → (p m ≡ slash → ⊥) → last_start p n ≡ last_start p m
  unfolding last_start
  last_more n m e h = rw (e, ne_eqb _ _ h, last_start)

  last_none : last_start p 0 ≡ 0
  unfolding last_start
  last_none = refl

  pub last_nowhere : (n : ℕ) → ((k : ℕ) → k < n → p k ≡ slash → ⊥) → last_start p n ≡ 0
  last_nowhere zero h = last_none
  last_nowhere (suc n) h = last_more (suc n) n refl (h n (omega arith)) ∙ last_nowhere n (λ k l. h k (omega arith))

  pub last_at : (n a : ℕ) → a < n → p a ≡ slash → ((k : ℕ) → a < k → k < n → p k ≡ slash → ⊥) → last_start p n ≡ a + 1
  last_at zero a l e h = absurd (let w : ⊥ = omega arith in w)
  last_at (suc n) a l e h =
      at_or_off a n
      (λ q. last_here (suc n) n refl (rw q at e) ∙ omega (arith, q))
      (λ q. let m : a < n = omega (arith, q) in last_more (suc n) n refl (h n m (omega arith)) ∙ last_at n a m e (λ k j m. h k j (omega arith)))

pub no_parts : (p : Bytes) → proper_parts p [] ≡ true
unfolding proper_parts
no_parts p = refl
