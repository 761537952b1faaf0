-- The slots that the walk of a volume meets, as a relation, and lists of blocks that lie on the volume.
use Rattle.std.specs.Prelude.{ℕ, zero, suc, ◌<◌, List, [], ◌∷◌, true, ◌≡◌}
use Rattle.model.specs.Bytes.{Bytes}
use Rattle.model.specs.Directory.{volume, kids, directory, sort, is_active, Target, no_volume, no_directory, missing, there}
use Rattle.model.specs.File.{pointer}
use Rattle.model.specs.Walk.{level_most}

-- a slot stands in a list
pub data Among (s : ℕ) : List ℕ → Type 0 where
  here : {ss : List ℕ} → Among s (s ∷ ss)
  later : {t : ℕ} {ss : List ℕ} → Among s ss → Among s (t ∷ ss)

-- the walk meets the slot s of the directory d with l levels left below it
pub data Met (v : Bytes) : ℕ → ℕ → ℕ → Type 0 where
  top : Met v (suc level_most) volume volume
  down : {l d s t : ℕ} → Met v (suc l) d s → Among t (kids v s) → Met v l s t

-- every block of a list is one of n
abbrev pub Inside : ℕ → List ℕ → Type 0
Inside n [] = Unit {0}
Inside n (b ∷ bs) = (b < n) × Inside n bs

-- the block k of height h of a file, and all that its pointers lead to, is one of n blocks
abbrev pub Deep : ℕ → Bytes → ℕ → ℕ → Type 0
Deep n v zero k = k < n
Deep n v (suc h) k = (k < n) × ((i : ℕ) → i < 256 → (pointer v k i ≡ 0 → ⊥) → Deep n v h (pointer v k i))

-- what a path leads to on a sound volume: a directory that the walk meets, and an entry of it
pub data Led (v : Bytes) : Target → Type 0 where
  led_nowhere : Led v no_volume
  led_astray : Led v no_directory
  led_missing : {l e d : ℕ} → Met v l e d → sort v d ≡ directory → Led v (missing d)
  led_there : {l k e d s : ℕ} → Met v k e d → sort v d ≡ directory → Met v l d s → is_active (sort v s) ≡ true → Led v (there d s)
