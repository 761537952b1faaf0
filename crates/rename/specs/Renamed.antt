-- The steps of rename: of the volume, and of an entry that was opened.
use Rattle.std.specs.Prelude.{ℕ, ◌+◌, ◌*◌, ◌≤◌, ◌<◌, ◌≡◌, Bool, false, not, [], ◌∷◌, eqb, Some, None}
use Rattle.model.specs.Bytes.{Bytes, put, ◌or◌}
use Rattle.model.specs.Names.{part}
use Rattle.model.specs.Directory.{at, volume, access, seek}
use Rattle.model.specs.Refusals.{row, first, Outcome, settle}
use Rattle.model.specs.Calls.{allows, rename_bit, backed_up, Nothing, nothing}
use Rattle.model.specs.Rename.{named, is_other}
use Rattle.model.specs.declared.Kind.{Kind}
use Rattle.model.specs.declared.Kind.TheVariants.{Seedling, Sapling, Tree, Directory}
use Rattle.model.specs.declared.Entry.{Entry}
use Rattle.model.specs.declared.Place.{Place}
use Rattle.directory.specs.Slots.{place_number, Counted, entry_of}
use Rattle.directory.specs.Search.{Searchable, listed, Found}
use Rattle.directory.specs.declared.Home.{Home}

-- an entry was found, at another place
unfoldable pub is_other_place : Found → Place → Bool
is_other_place None l = false
is_other_place (Some f) l = not (eqb f.0.block l.block) or not (eqb f.0.slot l.slot)

-- a directory's header gets the name of its entry
unfoldable pub named_in : Kind → Bytes → Bytes → ℕ → Bytes
named_in (Seedling k) v q j = v
named_in (Sapling k) v q j = v
named_in (Tree k) v q j = v
named_in (Directory k) v q j = named v (k * 512 + 4) q j

-- a directory's key block is on an image of len bytes
abbrev pub Header : Kind → ℕ → Type 0
Header kind len = (k : ℕ) → kind ≡ Directory k → k * 512 + 512 ≤ len

-- an entry x that was opened: its place l, and its directory h
pub record Held (n len : ℕ) (v : Bytes) (h : Home) (l : Place) (x : Entry) : Type 0 where
  pub most : n ≤ 65535
  pub whole : len ≡ n * 512
  pub search : Searchable n v h.key h.used
  pub counted : Counted l
  pub inside : l.block < n
  pub entry : x ≡ entry_of v (at (place_number l))
  pub header : Header x.kind len

unfoldable pub volume_renamed : Bytes → Bytes → ℕ → Outcome Nothing
volume_renamed v q j =
    settle (first (row (not (allows (access v volume) rename_bit)) 0x4E ∷ [])) nothing v nothing (named v (at volume) q j)

unfoldable pub entry_renamed : Bytes → Home → Place → Entry → Bytes → ℕ → Outcome Nothing
entry_renamed v h l x q j =
    settle
    (first
    (row (is_other (place_number l) (seek v q (part 0 j) (listed v h.key h.used))) 0x47
    ∷ row (not (allows x.access rename_bit)) 0x4E
    ∷ []))
    nothing
    v
    nothing
    (put (named_in x.kind (named v (at (place_number l)) q j) q j) (at (place_number l) + 0x1E) (backed_up x.access))
