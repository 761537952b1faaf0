-- The directory of a new entry, with the refusals up to $47 in the order of the table.
use Rattle.model.specs.declared.Refusal.{Refusal}
use Rattle.std.specs.Prelude.{ℕ, Bool, true, false, not, eqb, Result, Ok, Err}
use Rattle.model.specs.Bytes.{Bytes, ◌or◌}
use Rattle.model.specs.Names.{proper_path}
use Rattle.model.specs.Directory.{directory_type, Target, no_volume, no_directory, missing, there}
use Rattle.model.specs.Calls.{target}
use Rattle.model.specs.Create.{directory_kind}
use Rattle.model.specs.declared.Refusal.TheVariants.{BadPath, BadKind, BadType, NoVolume, NoDirectory, Duplicate}
use Rattle.directory.specs.Lookup.{home_of}
use Rattle.directory.specs.declared.Home.{Home}
use Rattle.opening.specs.Opened.{volume_in}

-- type $0F for a file, or another for a directory
unfoldable pub wrong_for : ℕ → ℕ → Bool
wrong_for kind ftype = elim (eqb kind directory_kind) [ true ↦ not (eqb ftype directory_type) | false ↦ eqb ftype directory_type ]

unfoldable pub housed_at : ℕ → Bytes → Target → Result (ℕ × Home) Refusal
housed_at n v no_volume = Err NoVolume
housed_at n v no_directory = Err NoDirectory
housed_at n v (missing d) = Ok (n, home_of v d)
housed_at n v (there d s) = Err Duplicate

-- behind $40: $4B, $53, and what the path leads to
abbrev pub kind_or : Bool → Result (ℕ × Home) Refusal → Result (ℕ × Home) Refusal
kind_or true h = h
kind_or false h = Err BadKind

abbrev pub type_or : Bool → Result (ℕ × Home) Refusal → Result (ℕ × Home) Refusal
type_or true h = Err BadType
type_or false h = h

abbrev pub path_or : Bool → Result (ℕ × Home) Refusal → Result (ℕ × Home) Refusal
path_or true h = h
path_or false h = Err BadPath

unfoldable pub housed_on : Result ℕ Refusal → Bytes → Bytes → ℕ → ℕ → ℕ → Result (ℕ × Home) Refusal
housed_on (Err r) v p k kind ftype = Err r
housed_on (Ok n) v p k kind ftype =
    path_or (proper_path p k) (kind_or (eqb kind 1 or eqb kind directory_kind) (type_or (wrong_for kind ftype) (housed_at n v (target v p k))))

-- the path p of k bytes on an image of len bytes
abbrev pub housed_by : ℕ → Bytes → Bytes → ℕ → ℕ → ℕ → Result (ℕ × Home) Refusal
housed_by len v p k kind ftype = housed_on (volume_in len v) v p k kind ftype
