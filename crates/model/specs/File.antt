-- Files. "An index holds 256 pointers, low bytes in its first half, high bytes in its second. Pointer 0 is a hole. [..] Byte p is in file block
-- p div 512; file block n is pointer n mod 256 of index n div 256." A file of height h: 0 seedling, 1 sapling, 2 tree.
use Rattle.std.specs.Prelude.{ℕ, zero, suc, ◌+◌, ◌-◌, ◌*◌, ◌/◌, ◌%◌, max, List, [], ◌∷◌, map, true, false, eqb}
use Rattle.model.specs.Bytes.{Bytes, put, run, gather}
use Rattle.model.specs.Kinds.{kind_number, kind_for}
use Rattle.model.specs.Directory.{Sort, inactive, directory, improper, file, sort, key, used, chain}

-- "A file has at most 16,777,215 bytes."
abbrev pub eof_most : ℕ
eof_most = 16777215

unfoldable pub height_for : ℕ → ℕ
height_for eof = kind_number (kind_for eof 0) - 1

-- the file blocks below EOF, and at least one: a file always owns its key
unfoldable pub span : ℕ → ℕ
span eof = max 1 ((eof + 511) / 512)

-- pointer i of the index block k
unfoldable pub pointer : Bytes → ℕ → ℕ → ℕ
pointer v k i = v (k * 512 + i) + 256 * v (k * 512 + 256 + i)

unfoldable pub put_pointer : Bytes → ℕ → ℕ → ℕ → Bytes
put_pointer v k i p = put (put v (k * 512 + i) (p % 256)) (k * 512 + 256 + i) (p / 256 % 256)

-- The blocks of a file as a tree of pointers: each has a height (0 is data) and a number among those of its height. The key has the number 0,
-- pointer i of the block with number q leads to number q * 256 + i.
pub record Node : Type 0 where
  pub height : ℕ
  pub number : ℕ
  pub block : ℕ

abbrev pub node : ℕ → ℕ → ℕ → Node
node h q b = record { height = h; number = q; block = b }

-- what lies below pointer i of the block k, whose number is q: nothing below a hole
unfoldable pub limb : (ℕ → ℕ → List Node) → Bytes → ℕ → ℕ → ℕ → List Node
limb tree v q k i = elim (eqb (pointer v k i) 0) [ true ↦ [] | false ↦ tree (q * 256 + i) (pointer v k i) ]

unfoldable pub nodes : Bytes → ℕ → ℕ → ℕ → List Node
nodes v zero q k = node 0 q k ∷ []
nodes v (suc h) q k = node (suc h) q k ∷ gather (limb (λ r p. nodes v h r p) v q k) (run 0 256)

abbrev pub blocks_in : List Node → List ℕ
blocks_in = map (λ x. x.block)

-- the first file block below a node
unfoldable pub first_below : ℕ → ℕ → ℕ
first_below zero q = q
first_below (suc h) q = first_below h (q * 256)

-- the blocks that an entry owns: key, indexes and data of a file, the chain of a directory
unfoldable pub blocks_of : Sort → Bytes → ℕ → List ℕ
blocks_of inactive v s = []
blocks_of directory v s = chain v (key v s) (used v s)
blocks_of improper v s = []
blocks_of (file h) v s = blocks_in (nodes v h 0 (key v s))

abbrev pub blocks : Bytes → ℕ → List ℕ
blocks v s = blocks_of (sort v s) v s

-- the number of the block of height h above file block p: p div 256 for an index
unfoldable pub above : ℕ → ℕ → ℕ
above zero p = p
above (suc h) p = above h p / 256

-- the data block of file block p below the key k, 0 for a hole
unfoldable pub data_block : Bytes → ℕ → ℕ → ℕ → ℕ
data_block v zero k p = k
data_block v (suc h) k p =
    elim (eqb (pointer v k (above h p % 256)) 0) [ true ↦ 0 | false ↦ data_block v h (pointer v k (above h p % 256)) p ]

-- the bytes of a file, holes as zero
unfoldable pub file_byte : Bytes → ℕ → ℕ → Bytes
file_byte v h k =
    λ i. elim (eqb (data_block v h k (i / 512)) 0) [ true ↦ 0 | false ↦ v (data_block v h k (i / 512) * 512 + i % 512) ]

abbrev pub height : Sort → ℕ
height inactive = 0
height directory = 0
height improper = 0
height (file h) = h

-- the bytes of the file whose entry is at s
abbrev pub content : Bytes → ℕ → Bytes
content v s = file_byte v (height (sort v s)) (key v s)
