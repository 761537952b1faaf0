-- What the callers of the tests have seen before: blocks on the volume, a whole image with a volume's header. And the slots ahead of a place.
use Prim.{Unit}
use Rattle.std.specs.Prelude.{ℕ, ◌+◌, ◌-◌, ◌*◌, ◌≤◌, ◌<◌, ◌≡◌, List, [], ◌∷◌, ◌++◌, length, true, false}
use Rattle.model.specs.Bytes.{Bytes, view, run}
use Rattle.model.specs.Directory.{at, sort, is_active, volume_block, header_kind, next, chain, slots}

-- every block lies on a volume of n blocks
unfoldable pub Inside : ℕ → List ℕ → Type 0
Inside n [] = Unit {0}
Inside n (b ∷ bs) = (b < n) × Inside n bs

-- An image of n blocks whose header is a volume's. So the volume's own slot is active, as its sort says.
abbrev pub Readable : ℕ → List ℕ → Type 0
Readable n img = (length img ≡ n * 512) × (n ≤ 65535) × (header_kind (view img) volume_block ≡ 0xF)

-- the slots from place s on in block b, and those of the blocks after b, of which there are so many
abbrev pub ahead : Bytes → ℕ → ℕ → ℕ → List ℕ
ahead v s b after = run s (b * 13 + 13 - s) ++ slots (chain v (next v b) after)

-- the addresses of the active ones among slots
unfoldable pub actives : Bytes → List ℕ → List ℕ
actives v [] = []
actives v (s ∷ ss) = elim (is_active (sort v s)) [ true ↦ at s ∷ actives v ss | false ↦ actives v ss ]
