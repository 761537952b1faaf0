-- Reading a file by its decoded entry.
use Rattle.std.specs.Prelude.{ℕ, ◌-◌, ◌<◌, min, [], ◌∷◌, not, leb, ltb, eqb}
use Rattle.model.specs.Bytes.{Bytes, paste, from, ◌and◌}
use Rattle.model.specs.Kinds.{key_of}
use Rattle.model.specs.File.{file_byte}
use Rattle.model.specs.Refusals.{row, first, Outcome, settle}
use Rattle.model.specs.Calls.{allows, read_bit}
use Rattle.model.specs.Read.{Filled, filled}
use Rattle.facts.specs.Reached.{Deep}
use Rattle.model.specs.declared.Entry.{Entry}
use Rattle.opening.specs.Sorts.{is_folder, height_of}

-- the rows from $4B on
unfoldable pub entry_read_number : Entry → ℕ → ℕ → ℕ
entry_read_number x pos size =
    first
    (row (is_folder x.kind) 0x4B
    ∷ row (not (allows x.access read_bit)) 0x4E
    ∷ row (ltb x.eof pos) 0x4D
    ∷ row (leb 1 size and eqb pos x.eof) 0x4C
    ∷ [])

abbrev pub entry_count : Entry → ℕ → ℕ → ℕ
entry_count x pos size = min size (x.eof - pos)

unfoldable pub entry_read : Bytes → Entry → ℕ → Bytes → ℕ → Outcome Filled
entry_read v x pos buffer size =
    settle (entry_read_number x pos size) (filled 0 buffer) v
    (filled (entry_count x pos size) (paste buffer 0 (entry_count x pos size) (from (file_byte v (height_of x.kind) (key_of x.kind)) pos)))
    v

-- what a data file's entry gives on a sound volume of n blocks
pub record Readable (n : ℕ) (v : Bytes) (x : Entry) : Type 0 where
  pub low : height_of x.kind < 3
  pub backed : Deep n v (height_of x.kind) (key_of x.kind)
