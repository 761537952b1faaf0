-- The lines that a script's commands print, as docs/REPLAY.md has them.
use Rattle.std.specs.Prelude.{ℕ, zero, suc, ◌+◌, ◌*◌, ◌/◌, ◌%◌, List, [], ◌∷◌, ◌++◌, true, false, leb, eqb, length}
use Rattle.std.specs.Int.Bits.{bit_xor}
use Rattle.model.specs.Bytes.{Bytes, view}
use Rattle.model.specs.Catalog.{space', newline, decimal, hex_byte, refused_line}
use Rattle.model.specs.declared.Info.{Info}

-- "In what is printed numbers are decimal [..], bytes two hex digits": a space, and a value in its form, B for a byte
unfoldable pub field_text : ℕ → ℕ → List ℕ
field_text form x = elim (eqb form 66) [ true ↦ space' ∷ hex_byte (x % 256) | false ↦ space' ∷ decimal x ]

-- k values from value i on, each in its form
unfoldable pub fields_text : Bytes → Bytes → ℕ → ℕ → List ℕ
fields_text forms values i zero = []
fields_text forms values i (suc k) = field_text (forms i) (values i) ++ fields_text forms values (i + 1) k

-- `OK`
abbrev pub ok_word : List ℕ
ok_word = 79 ∷ 75 ∷ []

-- `OK`, a value for each form, and the end of the line
unfoldable pub ok_line : List ℕ → List ℕ → List ℕ
ok_line forms values = ok_word ++ (fields_text (view forms) (view values) 0 (length forms) ++ (newline ∷ []))

-- `BAD LINE` and its number
unfoldable pub bad_line : ℕ → List ℕ
bad_line x = (66 ∷ 65 ∷ 68 ∷ 32 ∷ 76 ∷ 73 ∷ 78 ∷ 69 ∷ []) ++ ((space' ∷ decimal x) ++ (newline ∷ []))

-- what a call prints whose number is k: what it says where it is done, or its number
unfoldable pub reply : ℕ → List ℕ → List ℕ
reply k said = elim (eqb k 0) [ true ↦ said | false ↦ refused_line k ]

-- the forms of values: so many numbers, and those of get info
abbrev pub number : ℕ
number = 78

abbrev pub info_forms : List ℕ
info_forms = 66 ∷ 66 ∷ 66 ∷ number ∷ number ∷ number ∷ number ∷ number ∷ number ∷ number ∷ []

abbrev pub info_values : Info → List ℕ
info_values i =
    i.kind
    ∷ i.ftype
    ∷ i.access
    ∷ i.aux
    ∷ i.used
    ∷ i.eof
    ∷ i.created.date
    ∷ i.created.time
    ∷ i.modified.date
    ∷ i.modified.time
    ∷ []

-- the hex digits of the k bytes of f from a on
unfoldable pub hex_text : Bytes → ℕ → ℕ → List ℕ
hex_text f a zero = []
hex_text f a (suc k) = hex_byte (f a) ++ hex_text f (a + 1) k

-- "FNV-1a of 32 bits [..]: start with 2166136261; for each byte, exclusive-or it in and multiply by 16777619, modulo 2^32."
unfoldable pub mixed : ℕ → ℕ → ℕ
mixed h x = bit_xor h x * 16777619 % 4294967296

unfoldable pub digest_from : Bytes → ℕ → ℕ → ℕ → ℕ
digest_from f a zero h = h
digest_from f a (suc k) h = digest_from f (a + 1) k (mixed h (f a))

abbrev pub digest : Bytes → ℕ → ℕ
digest f k = digest_from f 0 k 2166136261

-- in eight hex digits
unfoldable pub digest_text : ℕ → List ℕ
digest_text h = hex_byte (h / 16777216) ++ (hex_byte (h / 65536 % 256) ++ (hex_byte (h / 256 % 256) ++ hex_byte (h % 256)))

-- "BUFFER is the whole buffer [..]: `-` for COUNT 0, hex digits for 1 to 1024, above that `#` and the digest of the buffer."
unfoldable pub buffer_text : Bytes → ℕ → List ℕ
buffer_text f k =
    elim (eqb k 0) [
      | true ↦ 45 ∷ []
      | false ↦ elim (leb k 1024) [ true ↦ hex_text f 0 k | false ↦ 35 ∷ digest_text (digest f k) ]
    ]

-- read: how many bytes it transferred, and the buffer of k bytes
unfoldable pub read_line : ℕ → Bytes → ℕ → List ℕ
read_line moved f k = ok_word ++ ((space' ∷ decimal moved) ++ (space' ∷ buffer_text f k ++ (newline ∷ [])))

-- the length and the digest of an image of n bytes
unfoldable pub digest_line : Bytes → ℕ → List ℕ
digest_line v n = ok_word ++ ((space' ∷ decimal n) ++ (space' ∷ digest_text (digest v n) ++ (newline ∷ [])))

-- the k bytes of f
unfoldable pub bytes_line : Bytes → ℕ → List ℕ
bytes_line f k = ok_word ++ (space' ∷ hex_text f 0 k ++ (newline ∷ []))
