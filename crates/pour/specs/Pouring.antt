-- Pouring with a hint: the lowest free block is looked for from a block on below which none is free.
use Rattle.std.specs.Prelude.{ℕ, zero, suc, ◌+◌, ◌-◌, ◌*◌, ◌%◌, ◌≤◌, ◌<◌, min, max, ◌≡◌, true, false, eqb}
use Rattle.model.specs.Bytes.{Bytes, paste, from}
use Rattle.model.specs.Map.{free, room, lowest, taken}
use Rattle.model.specs.Directory.{map_place}
use Rattle.model.specs.File.{pointer, put_pointer, above, data_block}
use Rattle.model.specs.Grow.{backed}
use Rattle.model.proofs.Laws.Move.{Fit}
use Rattle.model.proofs.Laws.Need.{lacks}
use Rattle.pour.specs.declared.Reached.{Reached}

-- no block of the n blocks is free below the hint
pub record Hinted (n : ℕ) (v : Bytes) (hint : ℕ) : Type 0 where
  pub most : hint ≤ n
  pub none : (b : ℕ) → b < hint → free map_place v b ≡ 0

-- pointer i of the block k leads to a block: where it is a hole, the lowest free block is taken for it
unfoldable pub reached : ℕ → Bytes → ℕ → ℕ → Bytes
reached n v k i =
    let z = lowest map_place v n in
    elim (eqb (pointer v k i) 0) [ true ↦ put_pointer (taken map_place v z) k i z | false ↦ v ]

unfoldable pub reached_by : ℕ → Bytes → ℕ → ℕ → ℕ → Reached
reached_by n v k i hint =
    let z = lowest map_place v n in
    elim (eqb (pointer v k i) 0) [ true ↦ record { block = z; hint = z + 1 } | false ↦ record { block = pointer v k i; hint = hint } ]

-- the blocks that file block p misses below k
unfoldable pub gap : Bytes → ℕ → ℕ → ℕ → ℕ
gap v zero k p = 0
gap v (suc h) k p =
    elim (eqb (pointer v k (above h p % 256)) 0) [ true ↦ suc h | false ↦ gap v h (pointer v k (above h p % 256)) p ]

-- the tree of height h at k, and room for what file block p misses
pub record Roomy (n : ℕ) (v : Bytes) (h k p : ℕ) : Type 0 where
  pub fit : Fit n v h (above h p) k
  pub enough : gap v h k p ≤ room map_place v n

-- what file block p missed is taken: w is the image after it, r tells its data block
pub record Backed (n : ℕ) (v : Bytes) (h k p : ℕ) (w : Bytes) (r : Reached) : Type 0 where
  pub image : w ≡ backed map_place n v h k p
  pub block : r.block ≡ data_block w h k p
  pub hint : Hinted n w r.hint

-- of the data at position pos, what falls into file block p is laid in the block b
unfoldable pub laid_in : Bytes → ℕ → ℕ → ℕ → Bytes → ℕ → Bytes
laid_in v b p pos buffer size =
    let start = max pos (p * 512) in
    let end = min (pos + size) (p * 512 + 512) in
    paste v (b * 512 + (start - p * 512)) (end - start) (from buffer (start - pos))

-- the tree of height h at k, a way to each of the c file blocks from p on, and room for what they miss
pub record Pourable (n : ℕ) (v : Bytes) (h k p c : ℕ) : Type 0 where
  pub low : h ≤ 2
  pub few : p + c ≤ 65536
  pub fit : Fit n v h 0 k
  pub path : (r : ℕ) → r < p + c → 0 ≡ above h r
  pub enough : lacks v h k p c ≤ room map_place v n
