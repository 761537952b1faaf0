-- Destroy: "entry byte 0 becomes 0, the count falls, all its blocks are freed. A directory never shrinks."
use Rattle.std.specs.Prelude.{ℕ, ◌+◌, ◌-◌, ◌*◌, [], ◌∷◌, Bool, not, eqb}
use Rattle.model.specs.Bytes.{Bytes, put, put_word, ◌and◌}
use Rattle.model.specs.Directory.{at, volume, map_block, active_count, key, access, sort, is_directory, Target}
use Rattle.model.specs.File.{blocks}
use Rattle.model.specs.Refusals.{row, first, Outcome, settle}
use Rattle.model.specs.Calls.{not_prodos, not_sound, bad_path, not_volume, not_directory, not_found, home, spot, target, allows, destroy_bit, given_all, Nothing, nothing}

-- the entry at s of the directory d, a file or an empty directory
unfoldable pub destroyed : ℕ → Bytes → ℕ → ℕ → Bytes
destroyed m v d s = put (put_word (given_all m v (blocks v s)) (key v d * 512 + 0x25) (active_count v (key v d) - 1)) (at s) 0

-- "$4E: access bit missing; destroy of a directory with entries; destroy [..] on the volume"
unfoldable pub may_destroy : Bytes → ℕ → Bool
may_destroy v s =
    not (eqb s volume)
    and allows (access v s) destroy_bit
    and not (is_directory (sort v s) and not (eqb (active_count v (key v s)) 0))

unfoldable pub destroy_number : ℕ → Bytes → Bytes → ℕ → Target → ℕ
destroy_number len v p k t =
    first
    (not_prodos len v
    ∷ not_sound len v
    ∷ bad_path p k
    ∷ not_volume t
    ∷ not_directory t
    ∷ not_found t
    ∷ row (not (may_destroy v (spot t))) 0x4E
    ∷ [])

unfoldable pub destroy : ℕ → Bytes → Bytes → ℕ → Outcome Nothing
destroy len v p k =
    let t = target v p k in
    settle (destroy_number len v p k t) nothing v nothing (destroyed (map_block v) v (home t) (spot t))
