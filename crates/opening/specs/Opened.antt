-- What the calls share before their own work: the volume, and what a path leads to, with the refusals up to $46 in the order of the table.
use Rattle.std.specs.Prelude.{ℕ, Bool, true, false, eqb, Result, Ok, Err}
use Rattle.model.specs.Bytes.{Bytes, ◌and◌}
use Rattle.model.specs.Names.{proper_path}
use Rattle.model.specs.Directory.{at, volume, Target, no_volume, no_directory, missing, there}
use Rattle.model.specs.Sound.{whole_blocks, prodos, sound}
use Rattle.model.specs.Calls.{total, target}
use Rattle.model.specs.declared.Refusal.{Refusal}
use Rattle.model.specs.declared.Refusal.TheVariants.{NotProdos, NotSound, BadPath, NoVolume, NoDirectory, NotFound}
use Rattle.directory.specs.Slots.{place_of, entry_of}
use Rattle.directory.specs.Lookup.{home_of}
use Rattle.opening.specs.declared.Opened.{Opened}
use Rattle.opening.specs.declared.Opened.TheVariants as opened

-- an image of len bytes: a sound volume of so many blocks, or $52, or $5A
unfoldable pub volume_in : ℕ → Bytes → Result ℕ Refusal
volume_in len v =
    elim (whole_blocks len and prodos (total len) v) [
      | true ↦ elim (sound (total len) v) [ true ↦ Ok (total len) | false ↦ Err NotSound ]
      | false ↦ Err NotProdos
    ]

-- what a proper path leads to on a volume of n blocks
unfoldable pub opened_at : ℕ → Bytes → Target → Result Opened Refusal
opened_at n v no_volume = Err NoVolume
opened_at n v no_directory = Err NoDirectory
opened_at n v (missing d) = Err NotFound
opened_at n v (there d s) = elim (eqb s volume) [ true ↦ Ok (opened.Volume n) | false ↦ Ok (opened.Entry n (home_of v d) (place_of s) (entry_of v (at s))) ]

unfoldable pub opened_on : Result ℕ Refusal → Bytes → Bytes → ℕ → Result Opened Refusal
opened_on (Err r) v p k = Err r
opened_on (Ok n) v p k = elim (proper_path p k) [ true ↦ opened_at n v (target v p k) | false ↦ Err BadPath ]

-- the path p of k bytes on an image of len bytes
abbrev pub opened_by : ℕ → Bytes → Bytes → ℕ → Result Opened Refusal
opened_by len v p k = opened_on (volume_in len v) v p k

-- what a path opens on a volume: behind $40, the reason r where the other arguments are not fit
unfoldable pub opened_on_if : Bool → Refusal → Result ℕ Refusal → Bytes → Bytes → ℕ → Result Opened Refusal
opened_on_if fit r (Err why) v p k = Err why
opened_on_if fit r (Ok n) v p k =
    elim (proper_path p k) [ true ↦ elim fit [ true ↦ opened_at n v (target v p k) | false ↦ Err r ] | false ↦ Err BadPath ]

abbrev pub opened_if : Bool → Refusal → ℕ → Bytes → Bytes → ℕ → Result Opened Refusal
opened_if fit r len v p k = opened_on_if fit r (volume_in len v) v p k
