-- The word and the fields of a script's line, in the forms of docs/REPLAY.md. A line is s, of n bytes; a field is the k bytes from a on.
use Rattle.std.specs.Prelude.{ℕ, zero, suc, ◌+◌, ◌-◌, ◌*◌, ◌/◌, ◌%◌, ◌≤◌, ◌<◌, ◌≡◌, List, [], ◌∷◌, length, drop, Bool, true, false, Option, Some, None, leb, ltb, eqb}
use Rattle.std.specs.Char.{is_ascii_hexdigit}
use Rattle.std.specs.Int.{is_in_range}
use Rattle.std.specs.List.{list_all}
use Rattle.std.specs.Option.{unwrap_or}
use Rattle.model.specs.Bytes.{Bytes, view, put, paste, equal_bytes, place_of, ◌and◌, within}
use Rattle.model.specs.Catalog.{space'}

-- "No number in a script is larger."
abbrev pub largest : ℕ
largest = 4294967295

-- the most bytes of a text
abbrev pub text_most : ℕ
text_most = 128

-- the first place from a on in the whole line that has the byte c, or its end
abbrev pub end_at : Bytes → ℕ → ℕ → ℕ → ℕ
end_at s n c a = place_of s c a (n - a)

-- the line's word, which ends at e, is the word w of k bytes
unfoldable pub is_word : Bytes → ℕ → ℕ → Bytes → ℕ → Bool
is_word s n e w k = eqb e k and leb e n and equal_bytes s 0 w 0 e

-- how many bytes a size puts down: none where it is bad
abbrev pub sized : Option ℕ → ℕ
sized x = unwrap_or x 0

-- The bytes of a field: the k from a on.
unfoldable pub field : Bytes → ℕ → ℕ → List ℕ
field s a zero = []
field s a (suc k) = s a ∷ field s (a + 1) k

-- the value of a hex digit
unfoldable pub digit_value : ℕ → Option ℕ
digit_value c =
    elim (within 48 57 c) [
      | true ↦ Some (c - 48)
      | false ↦ elim (within 65 70 c) [ true ↦ Some (c - 55) | false ↦ elim (within 97 102 c) [ true ↦ Some (c - 87) | false ↦ None ] ]
    ]

-- a value that is at most m
unfoldable pub at_most : ℕ → Option ℕ → Option ℕ
at_most m None = None
at_most m (Some x) = elim (leb x m) [ true ↦ Some x | false ↦ None ]

-- the number that decimal digits say, behind those that say x
unfoldable pub decimal_from : ℕ → List ℕ → Option ℕ
decimal_from x [] = Some x
decimal_from x (c ∷ cs) = elim (within 48 57 c) [ true ↦ decimal_from (10 * x + (c - 48)) cs | false ↦ None ]

-- "1 to 10 decimal digits", and "no number in a script is larger"
unfoldable pub number_value : List ℕ → Option ℕ
number_value cs = elim (within 1 10 (length cs)) [ true ↦ at_most largest (decimal_from 0 cs) | false ↦ None ]

-- a number of at most 65,535
unfoldable pub half_value : List ℕ → Option ℕ
half_value cs = at_most 65535 (number_value cs)

-- the byte that two hex digits say
unfoldable pub pair_value : ℕ → ℕ → Option ℕ
pair_value c d = elim (digit_value c) [ Some x ↦ elim (digit_value d) [ Some y ↦ Some (16 * x + y) | None ↦ None ] | None ↦ None ]

-- "exactly two hex digits"
unfoldable pub byte_value : List ℕ → Option ℕ
byte_value cs = elim (eqb (length cs) 2) [ true ↦ pair_value (view cs 0) (view cs 1) | false ↦ None ]

-- hex digits alone, and the bytes that pairs of them say
abbrev pub all_digits : List ℕ → Bool
all_digits cs = list_all is_ascii_hexdigit cs

unfoldable pub pairs : List ℕ → Bytes
pairs cs = λ i. sized (pair_value (view cs (2 * i)) (view cs (2 * i + 1)))

-- how many bytes they say, at most so many, and no larger number
unfoldable pub pairs_size : List ℕ → ℕ → Option ℕ
pairs_size cs most =
    elim (eqb (length cs % 2) 0 and leb (length cs / 2) most and all_digits cs and leb (length cs / 2) largest) [
      | true ↦ Some (length cs / 2)
      | false ↦ None
    ]

-- "its own bytes, each $21 to $7E"
abbrev pub all_plain : List ℕ → Bool
all_plain cs = list_all (λ c. is_in_range 0x21 0x7E c) cs

unfoldable pub plain_size : List ℕ → Option ℕ
plain_size cs = elim (leb (length cs) text_most and all_plain cs) [ true ↦ Some (length cs) | false ↦ None ]

-- "`-` for no bytes"
unfoldable pub is_dash : List ℕ → Bool
is_dash cs = eqb (length cs) 1 and eqb (view cs 0) 45

-- DATA: how many bytes, which are `pairs`
unfoldable pub data_size : List ℕ → ℕ → Option ℕ
data_size cs most = elim (eqb (length cs) 0) [ true ↦ None | false ↦ elim (is_dash cs) [ true ↦ Some 0 | false ↦ pairs_size cs most ] ]

-- A PATH or a NAME: how many bytes, and which. "`=` and an even number of hex digits".
abbrev pub equals : ℕ
equals = 61

unfoldable pub text_size : List ℕ → Option ℕ
text_size cs =
    elim (eqb (length cs) 0) [
      | true ↦ None
      | false ↦
          elim (is_dash cs) [
            | true ↦ Some 0
            | false ↦ elim (eqb (view cs 0) equals) [ true ↦ pairs_size (drop 1 cs) text_most | false ↦ plain_size cs ]
          ]
    ]

unfoldable pub text_bytes : List ℕ → Bytes
text_bytes cs = elim (eqb (view cs 0) equals) [ true ↦ pairs (drop 1 cs) | false ↦ view cs ]

-- text and data put into a room of bytes
abbrev pub put_text : List ℕ → Bytes → ℕ → Bytes
put_text cs room to = paste room to (sized (text_size cs)) (text_bytes cs)

abbrev pub put_data : List ℕ → ℕ → Bytes → Bytes
put_data cs most buffer = paste buffer 0 (sized (data_size cs most)) (pairs cs)

-- A field by its form: N a number, H a number of at most 65,535, B a byte, D data, T a text, S a second text.
unfoldable pub field_value : List ℕ → ℕ → ℕ → Option ℕ
field_value cs most form =
    elim (eqb form 78) [
      | true ↦ number_value cs
      | false ↦
          elim (eqb form 72) [
            | true ↦ half_value cs
            | false ↦
                elim (eqb form 66) [
                  | true ↦ byte_value cs
                  | false ↦
                      elim (eqb form 68) [
                        | true ↦ data_size cs most
                        | false ↦ elim (eqb form 84) [ true ↦ text_size cs | false ↦ elim (eqb form 83) [ true ↦ text_size cs | false ↦ None ] ]
                      ]
                ]
          ]
    ]

-- what it leaves in the room of texts and in the buffer of data
unfoldable pub field_room : List ℕ → ℕ → Bytes → Bytes
field_room cs form room =
    elim (eqb form 84) [ true ↦ put_text cs room 0 | false ↦ elim (eqb form 83) [ true ↦ put_text cs room text_most | false ↦ room ] ]

unfoldable pub field_buffer : List ℕ → ℕ → ℕ → Bytes → Bytes
field_buffer cs most form buffer = elim (eqb form 68) [ true ↦ put_data cs most buffer | false ↦ buffer ]

-- What reading some fields leaves: where the last one ends, their values, the texts and the data.
pub record Fields : Type 0 where
  pub at : ℕ
  pub values : Bytes
  pub room : Bytes
  pub buffer : Bytes

-- no line has a field behind it
abbrev pub nowhere : ℕ
nowhere = 18446744073709551615

-- field i, behind the place where the one before ends; a bad field leads nowhere
abbrev pub valued : List ℕ → ℕ → ℕ → ℕ → ℕ → Fields → Option ℕ → Fields
valued cs most form i e f (Some x) =
    record { at = e; values = put f.values i x; room = field_room cs form f.room; buffer = field_buffer cs most form f.buffer }
valued cs most form i e f None = record { at = nowhere; values = f.values; room = f.room; buffer = f.buffer }

unfoldable pub field_read : List ℕ → ℕ → ℕ → ℕ → ℕ → Fields → Fields
field_read cs most form i e f = valued cs most form i e f (field_value cs most form)

unfoldable pub read_field : Bytes → ℕ → ℕ → ℕ → ℕ → Fields → Fields
read_field s n most form i f =
    let a = f.at + 1 in
    let e = end_at s n space' a in
    elim (ltb f.at n) [
      | true ↦ field_read (field s a (e - a)) most form i e f
      | false ↦ record { at = nowhere; values = f.values; room = f.room; buffer = f.buffer }
    ]

-- what a field leaves, by its value and where it ends
abbrev pub found : ℕ → Bytes → Option (ℕ × ℕ) → Bytes → Bytes → Fields
found i values (Some x) room buffer = record { at = x.1; values = put values i x.0; room = room; buffer = buffer }
found i values None room buffer = record { at = nowhere; values = values; room = room; buffer = buffer }

-- k fields from field i on, each in its form
unfoldable pub read_fields : Bytes → ℕ → ℕ → Bytes → ℕ → ℕ → Fields → Fields
read_fields s n most forms i zero f = f
read_fields s n most forms i (suc k) f = read_fields s n most forms (i + 1) k (read_field s n most (forms i) i f)

-- The lists afterwards are what reading left, and the answer says whether the line of n bytes ends there.
pub record Takes (f : Fields) (n : ℕ) (r : Bool) (vs texts bytes : List ℕ) : Type 0 where
  pub good : r ≡ eqb f.at n
  pub values : view vs ≡ f.values
  pub room : view texts ≡ f.room
  pub buffer : view bytes ≡ f.buffer

-- What a value of a form is at most, where its field is good; m is the buffer's size.
abbrev pub form_most : ℕ → ℕ → ℕ
form_most m form =
    elim (eqb form 72) [
      | true ↦ 65535
      | false ↦
          elim (eqb form 66) [
            | true ↦ 255
            | false ↦ elim (eqb form 68) [ true ↦ m | false ↦ elim (eqb form 84) [ true ↦ text_most | false ↦ elim (eqb form 83) [ true ↦ text_most | false ↦ largest ] ] ]
          ]
    ]

abbrev pub Fits : ℕ → Bytes → ℕ → Bytes → Type 0
Fits m forms k values = (j : ℕ) → j < k → values j ≤ form_most m (forms j)
