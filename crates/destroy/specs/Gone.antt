-- Destroy of a decoded entry, and what the code relies on: a sound volume gives it.
use Rattle.std.specs.Prelude.{ℕ, ◌+◌, ◌-◌, ◌*◌, ◌≤◌, ◌<◌, List, [], ◌∷◌, Bool, true, not, eqb}
use Rattle.model.specs.Bytes.{Bytes, put, put_word, ◌and◌}
use Rattle.model.specs.Kinds.{key_of}
use Rattle.model.specs.Directory.{map_place, active_count, chain}
use Rattle.model.specs.Refusals.{row, first, Outcome, settle}
use Rattle.model.specs.Calls.{allows, destroy_bit, given_all, Nothing, nothing}
use Rattle.model.specs.declared.Kind.{Kind}
use Rattle.model.specs.declared.Kind.TheVariants.{Seedling, Sapling, Tree, Directory}
use Rattle.model.specs.declared.Entry.{Entry}
use Rattle.model.specs.declared.Place.{Place}
use Rattle.directory.specs.Slots.{Counted}
use Rattle.directory.specs.declared.Home.{Home}
use Rattle.release.specs.Loose.{Loose, tree}

-- the blocks of a kind, where a chain has u blocks
abbrev pub kind_blocks : Kind → Bytes → ℕ → List ℕ
kind_blocks (Seedling k) v u = tree v 0 k
kind_blocks (Sapling k) v u = tree v 1 k
kind_blocks (Tree k) v u = tree v 2 k
kind_blocks (Directory k) v u = chain v k u

unfoldable pub entry_blocks : Bytes → Entry → List ℕ
entry_blocks v x = kind_blocks x.kind v x.used

-- no directory with entries
abbrev pub bare : Kind → Bytes → Bool
bare (Seedling k) v = true
bare (Sapling k) v = true
bare (Tree k) v = true
bare (Directory k) v = eqb (active_count v k) 0

unfoldable pub may_go : Bytes → Entry → Bool
may_go v x = allows x.access destroy_bit and bare x.kind v

-- the entry whose slot begins at a, in the directory whose key is k
unfoldable pub entry_gone : Bytes → ℕ → ℕ → Entry → Bytes
entry_gone v k a x = put (put_word (given_all map_place v (entry_blocks v x)) (k * 512 + 0x25) (active_count v k - 1)) a 0

unfoldable pub entry_destroy : Bytes → ℕ → ℕ → Entry → Outcome Nothing
entry_destroy v k a x = settle (first (row (not (may_go v x)) 0x4E ∷ [])) nothing v nothing (entry_gone v k a x)

-- an entry at a place of a directory on a sound volume of n blocks
pub record Goes (n : ℕ) (v : Bytes) (h : Home) (s : Place) (x : Entry) : Type 0 where
  pub headed : h.key < n
  pub counts : 1 ≤ active_count v h.key
  pub counted : Counted s
  pub inside : s.block < n
  pub keyed : key_of x.kind < n
  pub loose : Loose n (entry_blocks v x)
