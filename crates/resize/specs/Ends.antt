-- Set EOF by the place of an entry, and a file whose EOF changes by its height and key.
use Rattle.std.specs.Prelude.{ℕ, ◌-◌, List, [], ◌∷◌, true, false, not, ltb}
use Rattle.model.specs.Bytes.{Bytes}
use Rattle.model.specs.Map.{room}
use Rattle.model.specs.Directory.{map_block, map_place, sort, access}
use Rattle.model.specs.File.{eof_most, height_for, height, span}
use Rattle.model.specs.Refusals.{Row, row, first, Outcome, settle}
use Rattle.model.specs.Calls.{not_data, allows, write_bit, Nothing, nothing}
use Rattle.model.specs.SetEof.{sunk, sunk_key, pruned, eof_set}
use Rattle.model.specs.declared.Stamp.{Stamp}
use Rattle.growth.specs.Growth.{grown_from, grown_key_from}

-- the rows from $4B on, for what stands at s
unfoldable pub end_rows : ℕ → Bytes → ℕ → ℕ → List Row
end_rows n v e s =
    not_data v s
    ∷ row (not (allows (access v s) write_bit)) 0x4E
    ∷ row (ltb eof_most e) 0x4D
    ∷ row (ltb (room (map_block v) v n) (height_for e - height (sort v s))) 0x48
    ∷ []

unfoldable pub end_set : ℕ → Bytes → ℕ → ℕ → Stamp → Outcome Nothing
end_set n v s e t = settle (first (end_rows n v e s)) nothing v nothing (eof_set (map_block v) n v s e t)

-- a file of height h, with the key k and the EOF o, as EOF becomes e: the image, and the key
unfoldable pub resized_key : ℕ → Bytes → ℕ → ℕ → ℕ → ℕ → ℕ
resized_key n v h k o e =
    elim (ltb o e) [ true ↦ grown_key_from map_place n v h k o e | false ↦ sunk_key map_place v (height_for e) k (h - height_for e) ]

unfoldable pub resized : ℕ → Bytes → ℕ → ℕ → ℕ → ℕ → Bytes
resized n v h k o e =
    elim (ltb o e) [
      | true ↦ grown_from map_place n v h k o e
      | false ↦
          pruned map_place (span e) (sunk map_place v (height_for e) k (h - height_for e)) (height_for e) 0
          (sunk_key map_place v (height_for e) k (h - height_for e))
    ]
