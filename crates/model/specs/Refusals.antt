-- Refusal numbers: a table in the order of the checks. "The first that applies is given. All other parts of a refused answer are 0 [..].
-- Image and buffers stay byte for byte."
use Rattle.std.specs.Prelude.{ℕ, List, [], ◌∷◌, Bool, true, false, eqb}
use Rattle.model.specs.Bytes.{Bytes}
use Rattle.model.specs.declared.Refusal.{Refusal}
use Rattle.model.specs.declared.Refusal.TheVariants.{NotProdos, NotSound, BadPath, BadKind, BadType, NoVolume, NoDirectory, NotFound, Duplicate, Locked, BadPosition, EndOfFile, DirectoryFull, NoRoom}

-- the number document 01 gives each case
abbrev pub refusal_number : Refusal → ℕ
refusal_number NotProdos = 0x52
refusal_number NotSound = 0x5A
refusal_number BadPath = 0x40
refusal_number BadKind = 0x4B
refusal_number BadType = 0x53
refusal_number NoVolume = 0x45
refusal_number NoDirectory = 0x44
refusal_number NotFound = 0x46
refusal_number Duplicate = 0x47
refusal_number Locked = 0x4E
refusal_number BadPosition = 0x4D
refusal_number EndOfFile = 0x4C
refusal_number DirectoryFull = 0x49
refusal_number NoRoom = 0x48

-- A row of the table: when it applies, and its number.
pub record Row : Type 0 where
  pub applies : Bool
  pub number : ℕ

abbrev pub row : Bool → ℕ → Row
row t k = record { applies = t; number = k }

-- "The first that applies is given": 0 where none does
unfoldable pub first : List Row → ℕ
first [] = 0
first (r ∷ rs) = elim r.applies [ true ↦ r.number | false ↦ first rs ]

-- What a call leaves: its number (0 where it is not refused), the other parts of its answer, and the image.
pub record Outcome (P : Type 0) : Type 0 where
  pub number : ℕ
  pub parts : P
  pub image : Bytes

-- With the number k: what is new where k is 0, else what was there and the parts of a refused answer.
unfoldable pub settle : {P : Type 0} → ℕ → P → Bytes → P → Bytes → Outcome P
settle k refused old done new =
    record {
      number = k;
      parts = elim (eqb k 0) [ true ↦ done | false ↦ refused ];
      image = elim (eqb k 0) [ true ↦ new | false ↦ old ];
    }
