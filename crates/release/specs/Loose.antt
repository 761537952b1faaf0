-- Blocks that can be given back, and the blocks of a file by the height and the key of a part of it.
use Rattle.std.specs.Prelude.{ℕ, ◌-◌, ◌*◌, ◌≤◌, ◌<◌, ◌≡◌, List, length}
use Rattle.model.specs.Bytes.{Bytes, count, gather, run}
use Rattle.model.specs.File.{limb, nodes, blocks_in}
use Rattle.model.proofs.Laws.Move.{Off}

-- an image of n blocks
abbrev pub Whole : ℕ → List ℕ → Type 0
Whole n l = (16 ≤ n) × (n ≤ 65535) × (length l ≡ n * 512)

-- every block is on the volume and holds no part of the map
abbrev pub Loose : ℕ → List ℕ → Type 0
Loose n bs = (b : ℕ) → 1 ≤ count b bs → (b < n) × Off n b

-- the block k and what lies below it
abbrev pub tree : Bytes → ℕ → ℕ → List ℕ
tree v h k = blocks_in (nodes v h 0 k)

-- what lies below pointer i of the block k, and below all its pointers from i on
abbrev pub limb_at : Bytes → ℕ → ℕ → ℕ → List ℕ
limb_at v h k i = blocks_in (limb (nodes v h) v 0 k i)

abbrev pub below : Bytes → ℕ → ℕ → ℕ → List ℕ
below v h k i = blocks_in (gather (limb (nodes v h) v 0 k) (run i (256 - i)))
