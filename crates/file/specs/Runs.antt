-- The bytes of a run inside one block of a file.
use Rattle.std.specs.Prelude.{ℕ, ◌+◌, ◌*◌, true, false, eqb}
use Rattle.model.specs.Bytes.{Bytes}

-- the bytes of a data block from an offset on; a hole, block 0, reads as zero
unfoldable pub run_in : Bytes → ℕ → ℕ → Bytes
run_in v b offset = λ i. elim (eqb b 0) [ true ↦ 0 | false ↦ v (b * 512 + offset + i) ]
