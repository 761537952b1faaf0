-- The text of a directory's slots and all that is below them, and what the walk relies on.
use Rattle.std.specs.Prelude.{ℕ, ◌*◌, ◌/◌, ◌<◌, ◌≡◌, true, List, [], ◌∷◌, ◌++◌, length}
use Rattle.model.specs.Bytes.{Bytes, view, word, long, gather}
use Rattle.model.specs.Directory.{volume, chain, kids}
use Rattle.model.specs.Walk.{walk}
use Rattle.model.specs.Sound.{sound}
use Rattle.model.specs.Catalog.{space', newline, decimal, hex_digit, hex_byte, below, line}
use Rattle.facts.specs.Reached.{Met}
use Rattle.directory.specs.Search.{Each, listed}

-- the line of an entry whose slot has the bytes f, with the path p
abbrev pub line_of : Bytes → List ℕ → List ℕ
line_of f p =
    hex_digit (f 0 / 16)
    ∷ space'
    ∷ hex_byte (f 0x10)
    ++ (space' ∷ decimal (word f 0x13) ++ (space' ∷ decimal (long f 0x15) ++ (space' ∷ p ++ (newline ∷ []))))

-- the lines of the slots ss and all that is below them, l levels deep; p is the path of their directory
unfoldable pub walked : Bytes → ℕ → List ℕ → List ℕ → List ℕ
walked v l p ss = gather (line v) (walk (kids v) (below v) l p ss)

-- how many blocks an image has, and an image that is a sound volume
abbrev pub block_count : List ℕ → ℕ
block_count img = length img / 512

pub record Whole (img : List ℕ) : Type 0 where
  pub size : length img ≡ block_count img * 512
  pub safe : sound (block_count img) (view img) ≡ true

-- the walk meets an entry's slot with l levels left below it
pub record Listed (v : Bytes) (l s : ℕ) : Type 0 where
  pub met : (d : ℕ) × Met v l d s
  pub entry : s ≡ volume → ⊥

-- a directory whose slots the walk meets, by its key and the length of its chain; the volume has n blocks
pub record Chained (n : ℕ) (v : Bytes) (l key used : ℕ) : Type 0 where
  pub inside : Each (λ b. b < n) (chain v key used)
  pub entries : Each (Listed v l) (listed v key used)
