-- Names and paths. "A path has 1 to 64 bytes: each part is a slash and a name, with nothing after the last name. A name has 1 to 15 bytes,
-- a letter first, then letters, digits and dots; small letters are read as capitals."
use Rattle.std.specs.Prelude.{ℕ, zero, suc, ◌+◌, ◌-◌, ◌%◌, List, [], ◌∷◌, Bool, true, false, ltb, eqb}
use Rattle.model.specs.Bytes.{Bytes, equal_bytes, place_of, ◌and◌, ◌or◌, within}

abbrev pub name_most : ℕ
name_most = 15

abbrev pub path_most : ℕ
path_most = 64

abbrev pub slash : ℕ
slash = 47

unfoldable pub capital : ℕ → ℕ
capital c = elim (within 97 122 c) [ true ↦ c - 32 | false ↦ c ]

unfoldable pub letter : ℕ → Bool
letter c = within 65 90 (capital c)

unfoldable pub name_byte : ℕ → Bool
name_byte c = letter c or within 48 57 c or eqb c 46

-- k bytes from a on are letters, digits and dots
unfoldable pub name_bytes : Bytes → ℕ → ℕ → Bool
name_bytes p a zero = true
name_bytes p a (suc k) = elim (name_byte (p a)) [ true ↦ name_bytes p (a + 1) k | false ↦ false ]

-- the k bytes of p from a on are a proper name
unfoldable pub proper_name : Bytes → ℕ → ℕ → Bool
proper_name p a k = within 1 name_most k and letter (p a) and name_bytes p a k

-- a path as its capitals
abbrev pub capitals : Bytes → Bytes
capitals p = λ i. capital (p i)

-- A part of a path: a name, where it begins and its size.
pub record Part : Type 0 where
  pub start : ℕ
  pub size : ℕ

abbrev pub part : ℕ → ℕ → Part
part a k = record { start = a; size = k }

-- the first slash among the k bytes from a on, or their end
abbrev pub name_end : Bytes → ℕ → ℕ → ℕ
name_end p a k = place_of p slash a k

-- The parts of a path of n bytes from a on: a byte, which is to be a slash, and a name up to the next slash or the path's end.
-- A part has at least one byte, so k = n parts are enough.
unfoldable pub parts_from : Bytes → ℕ → ℕ → ℕ → List Part
parts_from p n a zero = []
parts_from p n a (suc k) = elim (ltb a n) [
  | true ↦ part (a + 1) (name_end p (a + 1) (n - (a + 1)) - (a + 1)) ∷ parts_from p n (name_end p (a + 1) (n - (a + 1))) k
  | false ↦ []
]

unfoldable pub parts : Bytes → ℕ → List Part
parts p n = parts_from p n 0 n

unfoldable pub proper_parts : Bytes → List Part → Bool
proper_parts p [] = true
proper_parts p (x ∷ xs) = elim (eqb (p (x.start - 1)) slash and proper_name p x.start x.size) [ true ↦ proper_parts p xs | false ↦ false ]

-- p is a proper path of n bytes
unfoldable pub proper_path : Bytes → ℕ → Bool
proper_path p n = within 1 path_most n and proper_parts p (parts p n)

-- Names as they are stored: a byte whose low half is the length, then the name. Header and entry alike.
abbrev pub name_size : Bytes → ℕ → ℕ
name_size v a = v a % 16

-- the name stored at a is proper and in capitals
unfoldable pub capital_name : Bytes → ℕ → Bool
capital_name v a = proper_name v (a + 1) (name_size v a) and equal_bytes v (a + 1) (capitals v) (a + 1) (name_size v a)

-- the name stored at a is the name x of the path p, as capitals
unfoldable pub same_name : Bytes → ℕ → Bytes → Part → Bool
same_name v a p x = eqb (name_size v a) x.size and equal_bytes v (a + 1) (capitals p) x.start x.size

-- the names stored at a and at b are alike
unfoldable pub alike : Bytes → ℕ → ℕ → Bool
alike v a b = eqb (name_size v a) (name_size v b) and equal_bytes v (a + 1) v (b + 1) (name_size v a)
