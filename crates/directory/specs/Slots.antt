-- What the 39 bytes of a slot say, and places as a block with a slot.
use Rattle.std.specs.Prelude.{ℕ, zero, suc, ◌+◌, ◌/◌, ◌≤◌}
use Rattle.model.specs.Bytes.{Bytes, word, long}
use Rattle.model.specs.Directory.{place, block_of, slot_of, Sort, inactive, directory, improper, file, sort_of}
use Rattle.model.specs.Info.{stamp_at}
use Rattle.model.specs.declared.Kind.{Kind}
use Rattle.model.specs.declared.Kind.TheVariants.{Seedling, Sapling, Tree, Directory}
use Rattle.model.specs.declared.Entry.{Entry}
use Rattle.model.specs.declared.Place.{Place}
use Rattle.directory.specs.declared.Slot.{Slot}
use Rattle.directory.specs.declared.Slot.TheVariants.{Inactive, Improper, Active}

-- a place as the model's number, and back
abbrev pub place_number : Place → ℕ
place_number p = place p.block p.slot

abbrev pub place_of : ℕ → Place
place_of s = record { block = block_of s; slot = slot_of s }

-- "13 slots [..] counted 1 to 13"
abbrev pub Counted : Place → Type 0
Counted p = (1 ≤ p.slot) × (p.slot ≤ 13)

-- the kind of an active entry, with its key
abbrev pub kind_of : Sort → ℕ → Kind
kind_of (file zero) k = Seedling k
kind_of (file (suc zero)) k = Sapling k
kind_of (file (suc (suc h))) k = Tree k
kind_of directory k = Directory k
kind_of inactive k = Directory k
kind_of improper k = Directory k

-- the entry at the address a, of the given kind
unfoldable pub entry_with : Bytes → ℕ → Kind → Entry
entry_with f a k =
    record {
      kind = k;
      ftype = f (a + 0x10);
      access = f (a + 0x1E);
      aux = word f (a + 0x1F);
      used = word f (a + 0x13);
      eof = long f (a + 0x15);
      created = stamp_at f (a + 0x18);
      modified = stamp_at f (a + 0x21);
    }

unfoldable pub entry_of : Bytes → ℕ → Entry
entry_of f a = entry_with f a (kind_of (sort_of (f a / 16)) (word f (a + 0x11)))

abbrev pub slot_says : Sort → Entry → Slot
slot_says inactive e = Inactive
slot_says improper e = Improper
slot_says directory e = Active e
slot_says (file h) e = Active e

-- a slot whose bytes are counted from 0
unfoldable pub decoded : Bytes → Slot
decoded f = slot_says (sort_of (f 0 / 16)) (entry_of f 0)
