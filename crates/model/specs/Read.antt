-- Read: "the smaller of buffer length and EOF minus position; holes as zero; buffer bytes beyond stay."
use Rattle.std.specs.Prelude.{ℕ, ◌-◌, min, [], ◌∷◌, not, leb, ltb, eqb}
use Rattle.model.specs.Bytes.{Bytes, paste, from, ◌and◌}
use Rattle.model.specs.Directory.{eof, access, Target}
use Rattle.model.specs.File.{content}
use Rattle.model.specs.Refusals.{row, first, Outcome, settle}
use Rattle.model.specs.Calls.{not_prodos, not_sound, bad_path, not_volume, not_directory, not_found, not_data, spot, target, allows, read_bit}

-- The bytes transferred, and the lent buffer.
pub record Filled : Type 0 where
  pub moved : ℕ
  pub buffer : Bytes

abbrev pub filled : ℕ → Bytes → Filled
filled k f = record { moved = k; buffer = f }

-- how many bytes a buffer of size bytes gets at a position
unfoldable pub to_read : Bytes → ℕ → ℕ → ℕ → ℕ
to_read v s pos size = min size (eof v s - pos)

unfoldable pub filled_from : Bytes → ℕ → ℕ → Bytes → ℕ → Filled
filled_from v s pos buffer size = filled (to_read v s pos size) (paste buffer 0 (to_read v s pos size) (from (content v s) pos))

unfoldable pub read_number : ℕ → Bytes → Bytes → ℕ → ℕ → ℕ → Target → ℕ
read_number len v p k pos size t =
    first
    (not_prodos len v
    ∷ not_sound len v
    ∷ bad_path p k
    ∷ not_volume t
    ∷ not_directory t
    ∷ not_found t
    ∷ not_data v (spot t)
    ∷ row (not (allows (access v (spot t)) read_bit)) 0x4E
    ∷ row (ltb (eof v (spot t)) pos) 0x4D
    ∷ row (leb 1 size and eqb pos (eof v (spot t))) 0x4C
    ∷ [])

-- into a buffer of size bytes, from a position of the file that the path p of k bytes names
unfoldable pub read : ℕ → Bytes → Bytes → ℕ → ℕ → Bytes → ℕ → Outcome Filled
read len v p k pos buffer size =
    let t = target v p k in
    settle (read_number len v p k pos size t) (filled 0 buffer) v (filled_from v (spot t) pos buffer size) v
