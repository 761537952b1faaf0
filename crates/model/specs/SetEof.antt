-- Set EOF and shrinking. "Keep file blocks below the larger of 1 and EOF/512 rounded up; free the rest, and each index none of whose 256 file
-- blocks is below that (an index of holes only stays otherwise); pointers to freed blocks become 0 in the blocks the file still owns."
use Rattle.std.specs.Prelude.{ℕ, zero, suc, ◌+◌, ◌-◌, ◌*◌, [], ◌∷◌, true, false, not, leb, ltb, eqb}
use Rattle.model.specs.Bytes.{Bytes, clear, gather, run}
use Rattle.model.specs.Map.{room, given}
use Rattle.model.specs.Directory.{map_block, sort, key, eof, access, Target}
use Rattle.model.specs.File.{eof_most, height_for, height, span, pointer, put_pointer, first_below, limb, nodes, blocks_in}
use Rattle.model.specs.Refusals.{row, first, Outcome, settle}
use Rattle.model.specs.Calls.{total, not_prodos, not_sound, bad_path, not_volume, not_directory, not_found, not_data, spot, target, allows, write_bit, given_all, Nothing, nothing}
use Rattle.model.specs.Write.{noted, grown, grown_key}
use Rattle.model.specs.declared.Stamp.{Stamp}

-- "Tree to sapling: index 0 becomes key and the master is freed, or, if pointer 0 was a hole, the master is zeroed and serves. Sapling to
-- seedling likewise." The key k of height h + 1 gives way; what is below its other pointers is freed.
unfoldable pub lowered : ℕ → Bytes → ℕ → ℕ → Bytes
lowered m v h k =
    let f = given_all m v (blocks_in (gather (limb (nodes v h) v 0 k) (run 1 255))) in
    elim (eqb (pointer v k 0) 0) [ true ↦ clear f (k * 512) 512 | false ↦ given m f k ]

unfoldable pub heir : Bytes → ℕ → ℕ
heir v k = elim (eqb (pointer v k 0) 0) [ true ↦ k | false ↦ pointer v k 0 ]

-- c keys give way, down to the height h: the image, and the key
unfoldable pub sunk : ℕ → Bytes → ℕ → ℕ → ℕ → Bytes
sunk m v h k zero = v
sunk m v h k (suc c) = sunk m (lowered m v (c + h) k) h (heir v k) c

unfoldable pub sunk_key : ℕ → Bytes → ℕ → ℕ → ℕ → ℕ
sunk_key m v h k zero = k
sunk_key m v h k (suc c) = sunk_key m (lowered m v (c + h) k) h (heir v k) c

-- a step for each of the first c pointers
unfoldable pub each_pointer : ℕ → (ℕ → Bytes → Bytes) → Bytes → Bytes
each_pointer zero f v = v
each_pointer (suc c) f v = f c (each_pointer c f v)

-- Pointer i of the block k, whose number is q, with blocks of height h below it: where nothing of it is before file block e, what is below it
-- is freed and the pointer becomes 0; else `deeper` goes on below it.
unfoldable pub trimmed : ℕ → (Bytes → ℕ → ℕ → Bytes) → ℕ → ℕ → ℕ → ℕ → ℕ → Bytes → Bytes
trimmed m deeper e h q k i v =
    elim (eqb (pointer v k i) 0) [
      | true ↦ v
      | false ↦
          elim (leb e (first_below h (q * 256 + i))) [
            | true ↦ put_pointer (given_all m v (blocks_in (nodes v h (q * 256 + i) (pointer v k i)))) k i 0
            | false ↦ deeper v (q * 256 + i) (pointer v k i)
          ]
    ]

-- all file blocks from e on
unfoldable pub pruned : ℕ → ℕ → Bytes → ℕ → ℕ → ℕ → Bytes
pruned m e v zero q k = v
pruned m e v (suc h) q k = each_pointer 256 (λ i x. trimmed m (λ y r c. pruned m e y h r c) e h q k i x) v

-- the file at s as EOF falls to e, or stays
unfoldable pub shrunk_key : ℕ → Bytes → ℕ → ℕ → ℕ
shrunk_key m v s e = sunk_key m v (height_for e) (key v s) (height (sort v s) - height_for e)

unfoldable pub shrunk : ℕ → Bytes → ℕ → ℕ → Bytes
shrunk m v s e =
    let f = sunk m v (height_for e) (key v s) (height (sort v s) - height_for e) in
    pruned m (span e) f (height_for e) 0 (shrunk_key m v s e)

-- "Set EOF: stamp and backup bit set, even when EOF is equal."
unfoldable pub eof_set : ℕ → ℕ → Bytes → ℕ → ℕ → Stamp → Bytes
eof_set m n v s e t =
    elim (ltb (eof v s) e) [
      | true ↦ noted (grown m n v s e) s (height_for e) (grown_key m n v s e) e t
      | false ↦ noted (shrunk m v s e) s (height_for e) (shrunk_key m v s e) e t
    ]

unfoldable pub set_eof_number : ℕ → Bytes → Bytes → ℕ → ℕ → Target → ℕ
set_eof_number len v p k e t =
    first
    (not_prodos len v
    ∷ not_sound len v
    ∷ bad_path p k
    ∷ not_volume t
    ∷ not_directory t
    ∷ not_found t
    ∷ not_data v (spot t)
    ∷ row (not (allows (access v (spot t)) write_bit)) 0x4E
    ∷ row (ltb eof_most e) 0x4D
    ∷ row (ltb (room (map_block v) v (total len)) (height_for e - height (sort v (spot t)))) 0x48
    ∷ [])

unfoldable pub set_eof : ℕ → Bytes → Bytes → ℕ → ℕ → Stamp → Outcome Nothing
set_eof len v p k e t =
    let x = target v p k in
    settle (set_eof_number len v p k e x) nothing v nothing (eof_set (map_block v) (total len) v (spot x) e t)
