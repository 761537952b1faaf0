-- Directories. "Directory block: previous block at 0, next at 2 (0 for none), 13 slots of 39 bytes from byte 4, counted 1 to 13. Slot 1 of the
-- key (first) block is the header." Headers and entries have name, creation stamp, versions and access at the same places of the slot.
use Rattle.std.specs.Prelude.{ℕ, zero, suc, ◌+◌, ◌-◌, ◌*◌, ◌/◌, ◌%◌, List, [], ◌∷◌, ◌++◌, Bool, true, false, leb, eqb, drop}
use Rattle.std.proofs.Math.Option.{Option, none, some}
use Rattle.model.specs.Bytes.{Bytes, word, long, run, sum, ◌and◌}
use Rattle.model.specs.Names.{Part, same_name}

abbrev pub slot_size : ℕ
slot_size = 39

abbrev pub slots_in_block : ℕ
slots_in_block = 13

abbrev pub directory_type : ℕ
directory_type = 0x0F

-- A place, a block and a slot from 1 to 13, is one number here.
unfoldable pub place : ℕ → ℕ → ℕ
place block slot = block * 13 + slot - 1

abbrev pub block_of : ℕ → ℕ
block_of s = s / 13

abbrev pub slot_of : ℕ → ℕ
slot_of s = s % 13 + 1

-- the address of a place
unfoldable pub at : ℕ → ℕ
at s = s / 13 * 512 + 4 + 39 * (s % 13)

-- The volume itself is known by the place of its header, block 2, slot 1: no entry stands there.
abbrev pub volume_block : ℕ
volume_block = 2

abbrev pub volume : ℕ
volume = 26

-- "The volume directory is blocks 2, 3, 4, 5; the map starts at block 6."
abbrev pub volume_chain : List ℕ
volume_chain = 2 ∷ 3 ∷ 4 ∷ 5 ∷ []

abbrev pub volume_length : Bytes → ℕ
volume_length v = 4

abbrev pub map_place : ℕ
map_place = 6

-- Links of a directory block.
abbrev pub previous : Bytes → ℕ → ℕ
previous v b = word v (b * 512)

abbrev pub next : Bytes → ℕ → ℕ
next v b = word v (b * 512 + 2)

-- Fields of a header, by the directory's key block.
abbrev pub header_kind : Bytes → ℕ → ℕ
header_kind v k = v (k * 512 + 0x04) / 16

abbrev pub header_slot_size : Bytes → ℕ → ℕ
header_slot_size v k = v (k * 512 + 0x23)

abbrev pub header_slots : Bytes → ℕ → ℕ
header_slots v k = v (k * 512 + 0x24)

abbrev pub active_count : Bytes → ℕ → ℕ
active_count v k = word v (k * 512 + 0x25)

abbrev pub map_block : Bytes → ℕ
map_block v = word v (volume_block * 512 + 0x27)

abbrev pub total_blocks : Bytes → ℕ
total_blocks v = word v (volume_block * 512 + 0x29)

abbrev pub parent_block : Bytes → ℕ → ℕ
parent_block v k = word v (k * 512 + 0x27)

abbrev pub parent_slot : Bytes → ℕ → ℕ
parent_slot v k = v (k * 512 + 0x29)

abbrev pub parent_slot_size : Bytes → ℕ → ℕ
parent_slot_size v k = v (k * 512 + 0x2A)

-- What stands in a slot: nothing, a data file of height 0 (seedling), 1 (sapling) or 2 (tree), a directory, or a kind that is none of these.
pub data Sort : Type 0 where
  inactive directory improper : Sort
  file : ℕ → Sort

unfoldable pub sort_of : ℕ → Sort
sort_of kind =
    elim (eqb kind 0) [
      | true ↦ inactive
      | false ↦ elim (leb kind 3) [ true ↦ file (kind - 1) | false ↦ elim (eqb kind 13) [ true ↦ directory | false ↦ improper ] ]
    ]

unfoldable pub sort : Bytes → ℕ → Sort
sort v s = elim (eqb s volume) [ true ↦ directory | false ↦ sort_of (v (at s) / 16) ]

abbrev pub is_active : Sort → Bool
is_active inactive = false
is_active directory = true
is_active improper = true
is_active (file h) = true

abbrev pub is_directory : Sort → Bool
is_directory inactive = false
is_directory directory = true
is_directory improper = false
is_directory (file h) = false

abbrev pub live : Sort → ℕ
live inactive = 0
live directory = 1
live improper = 1
live (file h) = 1

-- Fields of an entry. The volume has r where an entry has the word at o.
unfoldable pub field : Bytes → ℕ → ℕ → ℕ → ℕ
field v s o r = elim (eqb s volume) [ true ↦ r | false ↦ word v (at s + o) ]

unfoldable pub ftype : Bytes → ℕ → ℕ
ftype v s = elim (eqb s volume) [ true ↦ directory_type | false ↦ v (at s + 0x10) ]

abbrev pub key : Bytes → ℕ → ℕ
key v s = field v s 0x11 volume_block

abbrev pub used : Bytes → ℕ → ℕ
used v s = field v s 0x13 (volume_length v)

unfoldable pub eof : Bytes → ℕ → ℕ
eof v s = elim (eqb s volume) [ true ↦ volume_length v * 512 | false ↦ long v (at s + 0x15) ]

abbrev pub access : Bytes → ℕ → ℕ
access v s = v (at s + 0x1E)

abbrev pub directory_key : Bytes → ℕ → ℕ
directory_key v s = field v s 0x25 volume_block

-- the u blocks of a chain from k on
unfoldable pub chain : Bytes → ℕ → ℕ → List ℕ
chain v k zero = []
chain v k (suc u) = k ∷ chain v (next v k) u

-- all slots of blocks, and those of a directory: its header is none of them
unfoldable pub slots : List ℕ → List ℕ
slots [] = []
slots (b ∷ bs) = run (b * 13) 13 ++ slots bs

unfoldable pub slots_below : Sort → Bytes → ℕ → List ℕ
slots_below inactive v s = []
slots_below directory v s = drop 1 (slots (chain v (key v s) (used v s)))
slots_below improper v s = []
slots_below (file h) v s = []

abbrev pub kids : Bytes → ℕ → List ℕ
kids v s = slots_below (sort v s) v s

abbrev pub active : Bytes → List ℕ → ℕ
active v = sum (λ s. live (sort v s))

-- "First inactive slot in chain order."
unfoldable pub vacant : Bytes → List ℕ → Option ℕ
vacant v [] = none
vacant v (s ∷ ss) = elim (is_active (sort v s)) [ true ↦ vacant v ss | false ↦ some s ]

-- Lookup of a path: the first slot of a directory whose entry has a name.
unfoldable pub seek : Bytes → Bytes → Part → List ℕ → Option ℕ
seek v p x [] = none
seek v p x (s ∷ ss) = elim (is_active (sort v s) and same_name v (at s) p x) [ true ↦ some s | false ↦ seek v p x ss ]

-- What a path leads to: its first name is not the volume's, a middle name is missing or no directory, the last name is missing in the
-- directory d, or it is found there at s. The path of the volume alone leads to the volume.
pub data Target : Type 0 where
  no_volume no_directory : Target
  missing : (d : ℕ) → Target
  there : (d s : ℕ) → Target

unfoldable pub last : Option ℕ → ℕ → Target
last none d = missing d
last (some s) d = there d s

-- the names after the first, from the directory d on
unfoldable pub along : Bytes → Bytes → ℕ → List Part → Target
along v p d [] = there d d
along v p d (x ∷ []) = last (seek v p x (kids v d)) d
along v p d (x ∷ y ∷ r) =
    elim (seek v p x (kids v d)) [
      | none ↦ no_directory
      | some s ↦ elim (is_directory (sort v s)) [ true ↦ along v p s (y ∷ r) | false ↦ no_directory ]
    ]

unfoldable pub lookup : Bytes → Bytes → List Part → Target
lookup v p [] = no_volume
lookup v p (x ∷ r) = elim (same_name v (at volume) p x) [ true ↦ along v p volume r | false ↦ no_volume ]
