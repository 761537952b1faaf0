-- Rename: "name with spare bytes 0, backup bit set in the entry; a subdirectory's header gets the name but not the bit. For the volume, the
-- header's access and name are meant and no backup bit."
use Rattle.std.specs.Prelude.{ℕ, ◌+◌, ◌*◌, ◌/◌, [], ◌∷◌, Bool, true, false, not, eqb}
use Rattle.std.proofs.Math.Option.{Option, none, some}
use Rattle.model.specs.Bytes.{Bytes, put, ◌and◌}
use Rattle.model.specs.Names.{part, proper_path, proper_name}
use Rattle.model.specs.Directory.{at, volume, key, access, kids, seek, sort, Sort, inactive, directory, improper, file, Target}
use Rattle.model.specs.Refusals.{row, first, Outcome, settle}
use Rattle.model.specs.Calls.{not_prodos, not_sound, not_volume, not_directory, not_found, home, spot, target, allows, rename_bit, backed_up, put_name, Nothing, nothing}

-- the name stored at a, of j bytes of q, with the kind that stands there
abbrev pub named : Bytes → ℕ → Bytes → ℕ → Bytes
named v a q j = put_name v a (v a / 16) q (part 0 j)

unfoldable pub header_named : Sort → Bytes → ℕ → Bytes → ℕ → Bytes
header_named inactive v k q j = v
header_named directory v k q j = named v (k * 512 + 4) q j
header_named improper v k q j = v
header_named (file h) v k q j = v

unfoldable pub renamed : Bytes → ℕ → Bytes → ℕ → Bytes
renamed v s q j =
    elim (eqb s volume) [
      | true ↦ named v (at volume) q j
      | false ↦ put (header_named (sort v s) (named v (at s) q j) (key v s) q j) (at s + 0x1E) (backed_up (access v s))
    ]

-- "$47: another entry of the directory has it"
unfoldable pub is_other : ℕ → Option ℕ → Bool
is_other s none = false
is_other s (some t) = not (eqb t s)

unfoldable pub name_taken : Bytes → ℕ → ℕ → Bytes → ℕ → Bool
name_taken v d s q j = not (eqb s volume) and is_other s (seek v q (part 0 j) (kids v d))

unfoldable pub rename_number : ℕ → Bytes → Bytes → ℕ → Bytes → ℕ → Target → ℕ
rename_number len v p k q j t =
    first
    (not_prodos len v
    ∷ not_sound len v
    ∷ row (not (proper_path p k and proper_name q 0 j)) 0x40
    ∷ not_volume t
    ∷ not_directory t
    ∷ not_found t
    ∷ row (name_taken v (home t) (spot t) q j) 0x47
    ∷ row (not (allows (access v (spot t)) rename_bit)) 0x4E
    ∷ [])

-- the path p of k bytes gets the last name q of j bytes
unfoldable pub rename : ℕ → Bytes → Bytes → ℕ → Bytes → ℕ → Outcome Nothing
rename len v p k q j =
    let t = target v p k in
    settle (rename_number len v p k q j t) nothing v nothing (renamed v (spot t) q j)
