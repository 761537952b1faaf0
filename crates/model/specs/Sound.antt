-- A sound volume: nothing is wrong with any entry on the walk, each block has one owner or is free, and the map's other bits are 0.
-- Faults are counted, so that none is 0.
use Rattle.std.specs.Prelude.{ℕ, zero, suc, ◌+◌, ◌*◌, ◌/◌, ◌%◌, List, [], ◌∷◌, ◌++◌, Bool, true, false, leb, eqb, length}
use Rattle.model.specs.Bytes.{Bytes, run, sum, count, gather, one_if, is, ne, unless, within, ◌and◌}
use Rattle.model.specs.Names.{capital_name, alike}
use Rattle.model.specs.Map.{map_blocks, free, rest_clear}
use Rattle.model.specs.Directory.{Sort, inactive, directory, improper, file, sort, is_active, at, block_of, slot_of, slot_size, slots_in_block, directory_type, volume, volume_block, volume_chain, map_place, map_block, total_blocks, previous, next, header_kind, header_slot_size, header_slots, active_count, parent_block, parent_slot, parent_slot_size, ftype, key, used, eof, directory_key, chain, kids, active}
use Rattle.model.specs.File.{Node, nodes, first_below, height_for, span, blocks}
use Rattle.model.specs.Walk.{visits}

-- "$52: length isn't 512 x n, n in 16..65,535; or [..] block 2 has previous not 0, kind not $F, $23 not 39, $24 not 13, or total not n"
abbrev pub proper_size : ℕ → Bool
proper_size n = within 16 65535 n

unfoldable pub whole_blocks : ℕ → Bool
whole_blocks len = eqb (len % 512) 0 and proper_size (len / 512)

unfoldable pub prodos : ℕ → Bytes → Bool
prodos n v =
    eqb (previous v volume_block) 0
    and eqb (header_kind v volume_block) 0xF
    and eqb (header_slot_size v volume_block) slot_size
    and eqb (header_slots v volume_block) slots_in_block
    and eqb (total_blocks v) n

-- "Every directory chain is linked both ways, ends": a chain of u blocks from k on, which follows p
unfoldable pub links : Bytes → ℕ → ℕ → ℕ → ℕ
links v p k zero = ne k 0
links v p k (suc u) = ne (previous v k) p + links v k (next v k) u

-- "no two alike in a directory": the pairs of active entries with one name
unfoldable pub twins_of : Bytes → ℕ → List ℕ → ℕ
twins_of v s ss = sum (λ t. one_if (is_active (sort v t) and alike v (at s) (at t))) ss

unfoldable pub twins : Bytes → List ℕ → ℕ
twins v [] = 0
twins v (s ∷ ss) = elim (is_active (sort v s)) [ true ↦ twins_of v s ss + twins v ss | false ↦ twins v ss ]

-- "All pointers lie on the volume."
abbrev pub outside : ℕ → List ℕ → ℕ
outside n = sum (λ b. one_if (leb n b))

unfoldable pub differ : List ℕ → List ℕ → ℕ
differ [] [] = 0
differ [] (y ∷ ys) = 1
differ (x ∷ xs) [] = 1
differ (x ∷ xs) (y ∷ ys) = ne x y + differ xs ys

-- "The volume directory is linked 2, 3, 4, 5 both ways; the map block is 6."
unfoldable pub volume_faults : Bytes → ℕ
volume_faults v = differ (chain v (key v volume) (used v volume)) volume_chain + ne (map_block v) map_place

-- "A subdirectory's header repeats its entry's name, points at that entry, and has kind $E, 39, 13 and 39"
unfoldable pub header_faults : Bytes → ℕ → ℕ → ℕ
header_faults v s k =
    ne (header_kind v k) 0xE
    + unless (alike v (k * 512 + 4) (at s))
    + ne (parent_block v k) (block_of s)
    + ne (parent_slot v k) (slot_of s)
    + ne (header_slot_size v k) slot_size
    + ne (header_slots v k) slots_in_block
    + ne (parent_slot_size v k) slot_size

unfoldable pub top_faults : Bytes → ℕ → ℕ
top_faults v s = elim (eqb s volume) [ true ↦ volume_faults v | false ↦ header_faults v s (key v s) ]

-- "Its type is $0F, its blocks used is the chain's length, its EOF 512 times that."
unfoldable pub directory_faults : ℕ → Bytes → ℕ → ℕ
directory_faults n v s =
    ne (ftype v s) directory_type
    + is (used v s) 0
    + ne (eof v s) (used v s * 512)
    + links v 0 (key v s) (used v s)
    + ne (active_count v (key v s)) (active v (kids v s))
    + twins v (kids v s)
    + top_faults v s
    + outside n (blocks v s)

-- "pointers to file blocks at or past EOF (rounded up to a block) are 0, in a tree also pointers to indexes with nothing before EOF"
abbrev pub late : ℕ → List Node → ℕ
late end = sum (λ x. one_if (leb end (first_below x.height x.number)))

-- "Data files have another type. [..] Each file's kind fits its EOF; [..] blocks used counts key, indexes and data."
unfoldable pub file_faults : ℕ → Bytes → ℕ → ℕ → ℕ
file_faults n v h s =
    is (ftype v s) directory_type
    + ne h (height_for (eof v s))
    + ne (used v s) (length (blocks v s))
    + late (span (eof v s)) (nodes v h 0 (key v s))
    + outside n (blocks v s)

-- "Entries are of the four kinds, with proper capital names, [..] and the right directory key at $25."
abbrev pub entry_faults : Bytes → ℕ → ℕ → ℕ
entry_faults v d s = unless (capital_name v (at s)) + ne (directory_key v s) (key v d)

-- what is wrong with the slot s of the directory d, with so many levels left below it
unfoldable pub faults_of : Sort → ℕ → Bytes → ℕ → ℕ → ℕ → ℕ
faults_of inactive n v levels d s = 0
faults_of directory n v levels d s = is levels 0 + entry_faults v d s + directory_faults n v s
faults_of improper n v levels d s = 1
faults_of (file h) n v levels d s = entry_faults v d s + file_faults n v h s

abbrev pub faults : ℕ → Bytes → ℕ → ℕ → ℕ → ℕ
faults n v levels d s = faults_of (sort v s) n v levels d s

-- the blocks that have an owner, each as often as it has one: boot, map, and what the entries on the walk own
unfoldable pub owned : ℕ → Bytes → List ℕ
owned n v = 0 ∷ 1 ∷ run (map_block v) (map_blocks n) ++ gather (λ w. blocks v w.slot) (visits v)

-- "No block has two owners, and the map is right": of the first n blocks each has one owner, or none and is free
unfoldable pub each_once : ℕ → Bytes → List ℕ → ℕ → Bool
each_once m v os zero = true
each_once m v os (suc b) = elim (eqb (count b os + free m v b) 1) [ true ↦ each_once m v os b | false ↦ false ]

unfoldable pub faultless : ℕ → Bytes → Bool
faultless n v = eqb (sum (λ w. faults n v w.levels w.way w.slot) (visits v)) 0

-- a volume of n blocks is sound
unfoldable pub sound : ℕ → Bytes → Bool
sound n v = proper_size n and prodos n v and faultless n v and each_once (map_block v) v (owned n v) n and rest_clear (map_block v) v n
