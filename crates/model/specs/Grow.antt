-- Growing. "First zero every byte the file owns at old EOF and after. Then seedling to sapling takes an index (old key is pointer 0), sapling to
-- tree takes a master (old index is pointer 0). Any write, growing or not, then takes, by rising file block, the missing index and the missing
-- data block. The need for $48 is their total."
use Rattle.std.specs.Prelude.{ℕ, zero, suc, ◌+◌, ◌-◌, ◌*◌, ◌/◌, ◌%◌, ◌^◌, true, false, ltb, eqb}
use Rattle.model.specs.Bytes.{Bytes, clear, sum, run, is}
use Rattle.model.specs.Map.{lowest, taken}
use Rattle.model.specs.File.{pointer, put_pointer, above, data_block, span}

-- A file of height h with the key k on a volume of n blocks.

-- Of a sound file's blocks only the one that holds the position EOF has bytes at EOF and after; at a block's end, none has.
unfoldable pub zeroed_from : Bytes → ℕ → ℕ → ℕ → Bytes
zeroed_from v h k eof =
    elim (ltb eof (span eof * 512)) [
      | true ↦
          elim (eqb (data_block v h k (eof / 512)) 0) [
            | true ↦ v
            | false ↦ clear v (data_block v h k (eof / 512) * 512 + eof % 512) (512 - eof % 512)
          ]
      | false ↦ v
    ]

-- a new key block over k, with k as its pointer 0
abbrev pub topped : ℕ → Bytes → ℕ → ℕ → Bytes
topped m v k z = put_pointer (taken m v z) z 0 k

-- c new key blocks: the image, and the key
unfoldable pub raised : ℕ → ℕ → Bytes → ℕ → ℕ → Bytes
raised m n v k zero = v
raised m n v k (suc c) = let z = lowest m v n in raised m n (topped m v k z) z c

unfoldable pub raised_key : ℕ → ℕ → Bytes → ℕ → ℕ → ℕ
raised_key m n v k zero = k
raised_key m n v k (suc c) = let z = lowest m v n in raised_key m n (topped m v k z) z c

-- what is missing for file block p is taken, the index before the data block, as far as blocks are free
unfoldable pub backed : ℕ → ℕ → Bytes → ℕ → ℕ → ℕ → Bytes
backed m n v zero k p = v
backed m n v (suc h) k p =
    let i = above h p % 256 in
    let z = lowest m v n in
    elim (eqb (pointer v k i) 0) [
      | true ↦ elim (ltb z n) [ true ↦ backed m n (put_pointer (taken m v z) k i z) h z p | false ↦ v ]
      | false ↦ backed m n v h (pointer v k i) p
    ]

-- The need, counted on the image before the call. File block p is missing: past what height h reaches, or a hole.
unfoldable pub lacks_block : Bytes → ℕ → ℕ → ℕ → ℕ
lacks_block v h k p = elim (ltb p (256 ^ h)) [ true ↦ is (data_block v h k p) 0 | false ↦ 1 ]

-- index i of a file that becomes a tree is missing: index 0 is there, or is counted among the new keys
unfoldable pub lacks_index : Bytes → ℕ → ℕ → ℕ → ℕ
lacks_index v h k i = elim (eqb h 2) [ true ↦ is (pointer v k i) 0 | false ↦ 1 - is i 0 ]

-- c file blocks from p on, of a file whose height becomes g: new keys, missing indexes of a tree, missing data blocks
unfoldable pub need : Bytes → ℕ → ℕ → ℕ → ℕ → ℕ → ℕ
need v h k g p c =
    (g - h)
    + elim (eqb g 2) [ true ↦ sum (lacks_index v h k) (run (p / 256) ((p + c - 1) / 256 + 1 - p / 256)) | false ↦ 0 ]
    + sum (lacks_block v h k) (run p c)
