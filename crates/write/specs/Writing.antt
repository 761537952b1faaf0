-- Write by the place of an entry and by what the decoded entry says.
use Rattle.std.specs.Prelude.{ℕ, ◌+◌, ◌/◌, max, List, [], ◌∷◌, true, false, not, ltb, eqb}
use Rattle.model.specs.Bytes.{Bytes, ◌or◌}
use Rattle.model.specs.Map.{room}
use Rattle.model.specs.Kinds.{key_of}
use Rattle.model.specs.Directory.{map_block, eof, access}
use Rattle.model.specs.File.{eof_most, height_for}
use Rattle.model.specs.Refusals.{Row, row, first, Outcome, settle}
use Rattle.model.specs.Calls.{not_data, allows, write_bit}
use Rattle.model.specs.Grow.{need}
use Rattle.model.specs.Write.{touched, written, write_need}
use Rattle.model.specs.declared.Entry.{Entry}
use Rattle.model.specs.declared.Stamp.{Stamp}
use Rattle.opening.specs.Sorts.{height_of}

-- the rows from $4B on, for what stands at s
unfoldable pub write_rows : ℕ → Bytes → ℕ → ℕ → ℕ → List Row
write_rows n v pos size s =
    not_data v s
    ∷ row (not (allows (access v s) write_bit)) 0x4E
    ∷ row (ltb (eof v s) pos or ltb eof_most (pos + size)) 0x4D
    ∷ row (ltb (room (map_block v) v n) (write_need v s pos size)) 0x48
    ∷ []

unfoldable pub written_at : ℕ → Bytes → ℕ → ℕ → Bytes → ℕ → Stamp → Outcome ℕ
written_at n v s pos buffer size t =
    settle (first (write_rows n v pos size s)) 0 v size
    (elim (eqb size 0) [ true ↦ v | false ↦ written (map_block v) n v s pos buffer size t ])

-- the need of size bytes at pos, size not 0, by the decoded entry
abbrev pub entry_need : Bytes → Entry → ℕ → ℕ → ℕ
entry_need v x pos size =
    need v (height_of x.kind) (key_of x.kind) (height_for (max x.eof (pos + size))) (pos / 512) (touched pos size)
