-- What a lookup relies on, and its answer for each target of a path.
use Rattle.model.specs.declared.Refusal.{Refusal}
use Rattle.model.specs.declared.Refusal.TheVariants.{NoVolume, NoDirectory}
use Rattle.std.specs.Prelude.{ℕ, ◌≡◌, true, false, eqb, Option, Some, None, Result, Ok, Err}
use mathlib.Core.List.{Memᴰ}
use Rattle.model.specs.Bytes.{Bytes}
use Rattle.model.specs.Directory.{at, volume, directory, sort, key, used, kids, Target, no_volume, no_directory, missing, there}
use Rattle.model.specs.declared.Kind.{Kind}
use Rattle.model.specs.declared.Kind.TheVariants.{Seedling, Sapling, Tree, Directory}
use Rattle.model.specs.declared.Place.{Place}
use Rattle.directory.specs.Slots.{place_of, entry_of}
use Rattle.directory.specs.Search.{Searchable, Found}
use Rattle.directory.specs.declared.Home.{Home}
use Rattle.directory.specs.declared.Looked.{Looked}
use Rattle.directory.specs.declared.Looked.TheVariants as looked

-- a directory of the volume: the volume itself, or a directory in one
pub data Reached (v : Bytes) : ℕ → Type 0 where
  top : Reached v volume
  below : {d s : ℕ} → Reached v d → Memᴰ s (kids v d) → sort v s ≡ directory → Reached v s

-- every directory of the volume can be searched: what soundness gives
abbrev pub Sane : ℕ → Bytes → Type 0
Sane n v = (d : ℕ) → Reached v d → Searchable n v (key v d) (used v d)

abbrev pub home_of : Bytes → ℕ → Home
home_of v d = record { place = place_of d; key = key v d; used = used v d }

-- what was found as the last name in the directory h, and as a name before others
abbrev pub last_of : Home → Found → Looked
last_of h (Some f) = looked.There h f.0 f.1
last_of h None = looked.Missing h

abbrev pub inner_as : Kind → Place → ℕ → Option Home
inner_as (Directory k) l u = Some (record { place = l; key = k; used = u })
inner_as (Seedling k) l u = None
inner_as (Sapling k) l u = None
inner_as (Tree k) l u = None

abbrev pub inner_of : Found → Option Home
inner_of (Some f) = inner_as f.1.kind f.0 f.1.used
inner_of None = None

-- the answer for a target, with what is known of the directory and of the entry
abbrev pub looked_as : Bytes → Target → Result Looked Refusal
looked_as v no_volume = Err NoVolume
looked_as v no_directory = Err NoDirectory
looked_as v (missing d) = Ok (looked.Missing (home_of v d))
looked_as v (there d s) =
    elim (eqb s volume) [ true ↦ Ok looked.Volume | false ↦ Ok (looked.There (home_of v d) (place_of s) (entry_of v (at s))) ]
