-- The first file block below a part of a file, by the part's height and its number among those of its height, where the whole begins below 65,536:
-- the number shifted by 8 bits for each height.
use Prim.Native.Nat.{ℕ, zero, suc, ◌+◌, ◌*◌, ◌%◌, ◌^◌, ◌≤◌, ◌<◌}
use mathlib.Core.Path.{◌≡◌}
use native.Mathlib.Omega.{arith}
use Rattle.model.specs.File.{first_below}

number_low : (h q : ℕ) → q ≤ first_below h q
unfolding first_below
number_low zero q = omega arith
number_low (suc h) q = omega (arith, number_low h (q * 256))

pub number_small : (h q : ℕ) → first_below h q < 65536 → q < 65536
number_small h q l = omega (arith, number_low h q)

pub part_first : (h q i : ℕ) → h < 2 → i < 256 → first_below (suc h) q < 65536 → first_below h (q * 256 + i) < 65536
unfolding first_below
part_first zero q i b il l = omega arith
part_first (suc zero) q i b il l = omega arith
part_first (suc (suc h)) q i b il l = absurd (omega arith)

pub first_shift : (h q : ℕ) → h < 3 → first_below h q < 65536 → q * 2 ^ (8 * h) % 18446744073709551616 ≡ first_below h q
unfolding first_below
first_shift zero q b l = omega arith
first_shift (suc zero) q b l = omega arith
first_shift (suc (suc zero)) q b l = omega arith
first_shift (suc (suc (suc h))) q b l = absurd (omega arith)
