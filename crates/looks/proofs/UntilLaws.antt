-- Blocks read one after the other until one is reached, as the loop goes. Assumes nothing.
use Prim.Native.Nat.{ℕ, suc, ◌+◌, ◌-◌, ◌*◌, ◌≤◌, ◌<◌}
use mathlib.Core.Path.{◌≡◌}
use native.Mathlib.Omega.{arith}
use borrow.Author.Tests.{eq-eqb, ne_eqb, le-leb, lt-leb}
use Rattle.model.specs.Bytes.{Bytes, word}
use Rattle.looks.specs.Looks.{read_until}

module _ (v : Bytes) (most goal b x : ℕ) where
  pub until_over : most ≤ x → read_until v most goal (most - x) b x ≡ x
  unfolding read_until
  until_over h = let e : most - x ≡ 0 = omega arith in rw (e, read_until)

  pub until_found : x < most → b ≡ goal → read_until v most goal (most - x) b x ≡ x
  unfolding read_until
  until_found h g = let e : most - x ≡ suc (most - (x + 1)) = omega arith in rw (e, read_until, eq-eqb b goal g)

  pub until_past : x < most → (b ≡ goal → ⊥) → most ≤ b → read_until v most goal (most - x) b x ≡ x
  unfolding read_until
  until_past h n l = let e : most - x ≡ suc (most - (x + 1)) = omega arith in rw (e, read_until, ne_eqb b goal n, le-leb most b l)

  pub until_next : x < most → (b ≡ goal → ⊥) → b < most
      → read_until v most goal (most - x) b x ≡ read_until v most goal (most - (x + 1)) (word v (b * 512 + 2)) (x + 1)
  unfolding read_until
  until_next h n l = let e : most - x ≡ suc (most - (x + 1)) = omega arith in rw (e, read_until, ne_eqb b goal n, lt-leb most b l)
