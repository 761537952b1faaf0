-- The entry that a path leads to, decoded, on a sound volume of n blocks.
use Rattle.std.specs.Prelude.{ℕ, ◌≡◌, false}
use Rattle.model.specs.Bytes.{Bytes}
use Rattle.model.specs.Kinds.{key_of}
use Rattle.model.specs.Directory.{map_block, map_place, sort, is_directory, key, used, eof, access}
use Rattle.model.specs.declared.Entry.{Entry}
use Rattle.model.specs.declared.Place.{Place}
use Rattle.model.proofs.Laws.Entry.{Ready}
use Rattle.directory.specs.Slots.{place_number, Counted}
use Rattle.opening.specs.Sorts.{is_folder, height_of}

-- the data file at s, and what its decoded entry says
pub record Held (n : ℕ) (v : Bytes) (s : ℕ) (x : Entry) : Type 0 where
  pub home : ℕ
  pub ready : Ready n v s home (height_of x.kind)
  pub keyed : key_of x.kind ≡ key v s
  pub ends : x.eof ≡ eof v s
  pub uses : x.used ≡ used v s

-- the entry at a place
pub record Told (n : ℕ) (v : Bytes) (p : Place) (x : Entry) : Type 0 where
  pub counted : Counted p
  pub planned : map_block v ≡ map_place
  pub folder : is_folder x.kind ≡ is_directory (sort v (place_number p))
  pub allowed : x.access ≡ access v (place_number p)
  pub held : is_folder x.kind ≡ false → Held n v (place_number p) x
