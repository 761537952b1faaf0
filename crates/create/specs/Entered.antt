-- A new entry, by the key of its directory, and what the code relies on: a sound volume gives it.
use Rattle.std.specs.Prelude.{ℕ, ◌+◌, ◌*◌, ◌≤◌, ◌<◌, ◌≡◌, [], ◌∷◌, true, false, ltb, eqb}
use Rattle.std.proofs.Math.Option.{none, some}
use Rattle.model.specs.Bytes.{Bytes, paste, put_word, put_long, long, ◌and◌}
use Rattle.model.specs.Names.{Part}
use Rattle.model.specs.Map.{room, lowest, taken}
use Rattle.model.specs.Directory.{at, volume, map_place, active_count, key, used, kids, vacant}
use Rattle.model.specs.Refusals.{row, first, Outcome, settle}
use Rattle.model.specs.Calls.{Nothing, nothing}
use Rattle.model.specs.Create.{directory_kind, last_block, gained, entry_bytes, subdirectory_header, created, full, create_need}
use Rattle.model.specs.Create as model
use Rattle.model.specs.declared.Place.{Place}
use Rattle.directory.specs.Slots.{place_number, Counted}
use Rattle.directory.specs.Search.{listed, Searchable}
use Rattle.directory.specs.declared.Home.{Home}
use Rattle.create.specs.declared.Wanted.{Wanted}

abbrev pub asked : Wanted → model.Wanted
asked w = record { kind = w.kind; ftype = w.ftype; aux = w.aux; stamp = w.stamp }

-- the block z of a new file whose entry is at s
unfoldable pub fresh_block : Bytes → ℕ → ℕ → Bytes → Part → model.Wanted → Bytes
fresh_block v z s p x w =
    elim (eqb w.kind directory_kind) [
      | true ↦ paste (taken map_place v z) (z * 512 + 4) 39 (subdirectory_header p x w.stamp s)
      | false ↦ taken map_place v z
    ]

-- the entry at s of the directory whose key is k
unfoldable pub entered_in : Bytes → ℕ → ℕ → ℕ → Bytes → Part → model.Wanted → Bytes
entered_in v k s z p x w =
    paste (put_word (fresh_block v z s p x w) (k * 512 + 0x25) (active_count v k + 1)) (at s) 39 (entry_bytes p x w z k)

-- the directory whose entry begins at a gains the block z, after y
unfoldable pub gained_at : Bytes → ℕ → ℕ → ℕ → ℕ → Bytes
gained_at v a u y z =
    put_long (put_word (put_word (put_word (taken map_place v z) (z * 512) y) (y * 512 + 2) z) (a + 0x13) (u + 1)) (a + 0x15) (long v (a + 0x15) + 512)

-- the rows $49 and $48, and the work, in the directory d of a volume of n blocks
unfoldable pub create_in : ℕ → Bytes → ℕ → Bytes → Part → model.Wanted → Outcome Nothing
create_in n v d p x w =
    settle
    (first (row (eqb d volume and full v d) 0x49 ∷ row (ltb (room map_place v n) (create_need v d)) 0x48 ∷ []))
    nothing
    v
    nothing
    (created map_place n v d p x w)

-- the directory d after it gained a block
abbrev pub grown : ℕ → Bytes → ℕ → Bytes
grown n v d = gained map_place v d (last_block v 0 (key v d) (used v d)) (lowest map_place v n)

-- the directory d of a sound volume of n blocks, as it was found
pub record Houses (n : ℕ) (v : Bytes) (h : Home) (d : ℕ) : Type 0 where
  pub keyed : h.key ≡ key v d
  pub sized : h.used ≡ used v d
  pub head : h.key < n
  pub slots : kids v d ≡ listed v h.key h.used
  pub search : Searchable n v h.key h.used
  pub counted : Counted h.place
  pub inside : h.place.block < n
  -- block 2 is the volume's alone
  pub top : h.key ≡ 2 → d ≡ volume
  pub head_block : d ≡ volume → h.key ≡ 2
  pub behind : last_block v 0 h.key h.used < n
  -- where it is full and there is room, it has its key after it gained a block, and there is room still
  pub key_kept : (d ≡ volume → ⊥) → vacant v (kids v d) ≡ none → 2 ≤ room map_place v n → key (grown n v d) d ≡ h.key
  pub room_kept : (d ≡ volume → ⊥) → vacant v (kids v d) ≡ none → 2 ≤ room map_place v n → lowest map_place (grown n v d) n < n

-- its first inactive slot, or that it has none
abbrev pub Vacant : Bytes → Home → Place → Type 0
Vacant v h s = (vacant v (kids v (place_number h.place)) ≡ some (place_number s)) × Counted s

abbrev pub Packed : Bytes → Home → Type 0
Packed v h = vacant v (kids v (place_number h.place)) ≡ none
