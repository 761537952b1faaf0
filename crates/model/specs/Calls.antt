-- What the calls share: the rows of the table that several have, the access bits, and the fields that they store.
use Rattle.std.specs.Prelude.{ℕ, ◌+◌, ◌-◌, ◌*◌, ◌/◌, ◌%◌, List, [], ◌∷◌, Bool, true, false, not, eqb}
use Rattle.model.specs.Bytes.{Bytes, put, paste, from, zeros, digit, ◌and◌}
use Rattle.model.specs.Names.{Part, part, parts, proper_path, capitals}
use Rattle.model.specs.Map.{given}
use Rattle.model.specs.Directory.{Target, no_volume, no_directory, missing, there, lookup, sort, is_directory, access}
use Rattle.model.specs.Sound.{whole_blocks, prodos, sound}
use Rattle.model.specs.Refusals.{Row, row}
use Rattle.model.specs.declared.Stamp.{Stamp}

-- the blocks of an image of len bytes
abbrev pub total : ℕ → ℕ
total len = len / 512

-- $52 and $5A, for every call but format
abbrev pub not_prodos : ℕ → Bytes → Row
not_prodos len v = row (not (whole_blocks len and prodos (total len) v)) 0x52

abbrev pub not_sound : ℕ → Bytes → Row
not_sound len v = row (not (sound (total len) v)) 0x5A

-- $40
abbrev pub bad_path : Bytes → ℕ → Row
bad_path p k = row (not (proper_path p k)) 0x40

-- $45, $44, $46, and $4B for what must be a data file
unfoldable pub is_no_volume : Target → Bool
is_no_volume no_volume = true
is_no_volume no_directory = false
is_no_volume (missing d) = false
is_no_volume (there d s) = false

unfoldable pub is_no_directory : Target → Bool
is_no_directory no_volume = false
is_no_directory no_directory = true
is_no_directory (missing d) = false
is_no_directory (there d s) = false

unfoldable pub is_missing : Target → Bool
is_missing no_volume = false
is_missing no_directory = false
is_missing (missing d) = true
is_missing (there d s) = false

unfoldable pub is_there : Target → Bool
is_there no_volume = false
is_there no_directory = false
is_there (missing d) = false
is_there (there d s) = true

abbrev pub not_volume : Target → Row
not_volume t = row (is_no_volume t) 0x45

abbrev pub not_directory : Target → Row
not_directory t = row (is_no_directory t) 0x44

abbrev pub not_found : Target → Row
not_found t = row (is_missing t) 0x46

-- the directory and the place that a path leads to
unfoldable pub home : Target → ℕ
home no_volume = 0
home no_directory = 0
home (missing d) = d
home (there d s) = d

unfoldable pub spot : Target → ℕ
spot no_volume = 0
spot no_directory = 0
spot (missing d) = 0
spot (there d s) = s

abbrev pub target : Bytes → Bytes → ℕ → Target
target v p k = lookup v p (parts p k)

-- the last name of a path
unfoldable pub last_part : List Part → Part
last_part [] = part 0 0
last_part (x ∷ []) = x
last_part (x ∷ y ∷ r) = last_part (y ∷ r)

-- "Access: $80 destroy, $40 rename, $20 backup, $02 write, $01 read."
abbrev pub destroy_bit : ℕ
destroy_bit = 0x80

abbrev pub rename_bit : ℕ
rename_bit = 0x40

abbrev pub backup_bit : ℕ
backup_bit = 0x20

abbrev pub write_bit : ℕ
write_bit = 0x02

abbrev pub read_bit : ℕ
read_bit = 0x01

unfoldable pub allows : ℕ → ℕ → Bool
allows access bit = eqb (access / bit % 2) 1

-- an access with the backup bit set
unfoldable pub backed_up : ℕ → ℕ
backed_up access = access + backup_bit * (1 - access / backup_bit % 2)

-- read, write and set EOF are for data files
abbrev pub not_data : Bytes → ℕ → Row
not_data v s = row (is_directory (sort v s)) 0x4B

-- A stamp as its four bytes, date before time.
unfoldable pub stamp_bytes : Stamp → Bytes
stamp_bytes t = paste (digit t.date) 2 2 (digit t.time)

abbrev pub put_stamp : Bytes → ℕ → Stamp → Bytes
put_stamp f a t = paste f a 4 (stamp_bytes t)

-- A name as it is stored: kind and length, the capitals, spare bytes 0.
unfoldable pub name_field : ℕ → Bytes → Part → Bytes
name_field kind p x = put (paste zeros 1 x.size (from (capitals p) x.start)) 0 (kind * 16 + x.size)

abbrev pub put_name : Bytes → ℕ → ℕ → Bytes → Part → Bytes
put_name f a kind p x = paste f a 16 (name_field kind p x)

-- blocks given back
unfoldable pub given_all : ℕ → Bytes → List ℕ → Bytes
given_all m v [] = v
given_all m v (b ∷ bs) = given_all m (given m v b) bs

-- no other parts of an answer
pub data Nothing : Type 0 where
  nothing : Nothing
