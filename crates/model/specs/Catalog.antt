-- What `catalog` prints for an image, as bytes. "First line: name, total, free. Others: kind (hex digit), type (two hex digits), blocks used, EOF,
-- path, other numbers in decimal; directory order, a subdirectory's content straight after it."
use Rattle.std.specs.Prelude.{ℕ, zero, suc, ◌+◌, ◌/◌, ◌%◌, List, [], ◌∷◌, ◌++◌, true, false, ltb, eqb}
use Rattle.model.specs.Bytes.{Bytes, gather}
use Rattle.model.specs.Names.{slash, name_size}
use Rattle.model.specs.Map.{room}
use Rattle.model.specs.Directory.{at, volume, map_block, sort, is_active, ftype, used, eof, kids}
use Rattle.model.specs.Walk.{level_most, Visit, walk}
use Rattle.model.specs.Calls.{total}
use Rattle.model.specs.Info.{space_number}

-- "more than 65,536 bytes prints `TOO LARGE`"
abbrev pub catalog_most : ℕ
catalog_most = 65536

abbrev pub space' : ℕ
space' = 32

abbrev pub newline : ℕ
newline = 10

-- a number in decimal; no number of a listing has more than eight digits
unfoldable pub decimal_before : ℕ → ℕ → List ℕ → List ℕ
decimal_before zero x rest = rest
decimal_before (suc k) x rest = elim (ltb x 10) [ true ↦ (48 + x) ∷ rest | false ↦ decimal_before k (x / 10) ((48 + x % 10) ∷ rest) ]

abbrev pub decimal : ℕ → List ℕ
decimal x = decimal_before 8 x []

unfoldable pub hex_digit : ℕ → ℕ
hex_digit x = elim (ltb x 10) [ true ↦ 48 + x | false ↦ 55 + x ]

abbrev pub hex_byte : ℕ → List ℕ
hex_byte x = hex_digit (x / 16) ∷ hex_digit (x % 16) ∷ []

-- the k bytes of v from a on
unfoldable pub text : Bytes → ℕ → ℕ → List ℕ
text v a zero = []
text v a (suc k) = v a ∷ text v (a + 1) k

abbrev pub name_text : Bytes → ℕ → List ℕ
name_text v s = text v (at s + 1) (name_size v (at s))

-- the path of what is at s, below a directory with the path p
abbrev pub below : Bytes → List ℕ → ℕ → List ℕ
below v p s = p ++ (slash ∷ name_text v s)

unfoldable pub line : Bytes → Visit (List ℕ) → List ℕ
line v w =
    let s = w.slot in
    elim (is_active (sort v s)) [
      | true ↦
          hex_digit (v (at s) / 16)
          ∷ space'
          ∷ hex_byte (ftype v s)
          ++ (space' ∷ decimal (used v s) ++ (space' ∷ decimal (eof v s) ++ (space' ∷ below v w.way s ++ (newline ∷ []))))
      | false ↦ []
    ]

unfoldable pub first_line : ℕ → Bytes → List ℕ
first_line n v = name_text v volume ++ (space' ∷ decimal n ++ (space' ∷ decimal (room (map_block v) v n) ++ (newline ∷ [])))

unfoldable pub listing : ℕ → Bytes → List ℕ
listing n v = first_line n v ++ gather (line v) (walk (kids v) (below v) level_most (below v [] volume) (kids v volume))

-- `REFUSED` and the number, two hex digits
unfoldable pub refused_line : ℕ → List ℕ
refused_line k = 82 ∷ 69 ∷ 70 ∷ 85 ∷ 83 ∷ 69 ∷ 68 ∷ space' ∷ hex_byte k ++ (newline ∷ [])

-- `TOO LARGE`
unfoldable pub too_large_line : List ℕ
too_large_line = 84 ∷ 79 ∷ 79 ∷ space' ∷ 76 ∷ 65 ∷ 82 ∷ 71 ∷ 69 ∷ newline ∷ []

-- an image of len bytes
unfoldable pub catalog : ℕ → Bytes → List ℕ
catalog len v =
    elim (ltb catalog_most len) [
      | true ↦ too_large_line
      | false ↦ elim (eqb (space_number len v) 0) [ true ↦ listing (total len) v | false ↦ refused_line (space_number len v) ]
    ]
