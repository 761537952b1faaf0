-- What a search in a directory relies on, and what it answers.
use Rattle.std.specs.Prelude.{ℕ, ◌-◌, ◌<◌, ◌≡◌, [], ◌∷◌, length, drop, Option, Some, None}
use mathlib.Core.List.{List, Memᴰ}
use Rattle.std.proofs.Math.Option as slot
use Rattle.model.specs.Bytes.{Bytes, view, run}
use Rattle.model.specs.Names.{part}
use Rattle.model.specs.Directory.{place, at, volume, improper, sort, chain, slots, seek}
use Rattle.model.specs.declared.Entry.{Entry}
use Rattle.model.specs.declared.Place.{Place}
use Rattle.directory.specs.Slots.{place_number, place_of, Counted, entry_of}

-- something holds of every number in a list
abbrev pub Each : (ℕ → Type 0) → List ℕ → Type 0
Each P xs = (x : ℕ) → Memᴰ x xs → P x

-- an entry or nothing stands at s: not the volume's header, and no kind that is none of the four
pub record Readable (v : Bytes) (s : ℕ) : Type 0 where
  pub entry : s ≡ volume → ⊥
  pub proper : sort v s ≡ improper → ⊥

-- the slots of a directory, by its key and the length of its chain; the header is none of them
abbrev pub listed : Bytes → ℕ → ℕ → List ℕ
listed v k u = drop 1 (slots (chain v k u))

-- the slots of a block, from slot t on
abbrev pub slots_from : ℕ → ℕ → List ℕ
slots_from b t = run (place b t) (14 - t)

-- a directory that can be searched in n blocks
pub record Searchable (n : ℕ) (v : Bytes) (k u : ℕ) : Type 0 where
  pub inside : Each (λ b. b < n) (chain v k u)
  pub entries : Each (Readable v) (listed v k u)

-- what a search for a name answers: where the entry stands, and the entry
abbrev pub Found : Type 0
Found = Option (Place × Entry)

abbrev pub found_at : Bytes → slot.Option ℕ → Found
found_at v slot.none = None
found_at v (slot.some s) = Some (place_of s, entry_of v (at s))

-- the first of the slots ss whose active entry has the name
abbrev pub found_in : Bytes → List ℕ → List ℕ → Found
found_in v name ss = found_at v (seek v (view name) (part 0 (length name)) ss)

abbrev pub vacancy_at : slot.Option ℕ → Option Place
vacancy_at slot.none = None
vacancy_at (slot.some s) = Some (place_of s)

-- `look` may be asked at each place whose slot is among ss, where `pre` says that it may at a place
abbrev pub LooksAt : (Place → Type 0) → List ℕ → Type 0
LooksAt pre ss = (l : Place) → Counted l → Memᴰ (place_number l) ss → pre l

-- the first answer at the slots ss
unfoldable pub first_of : {A : Type 0} → (ℕ → Option A) → List ℕ → Option A
first_of f [] = None
first_of f (s ∷ ss) = elim (f s) [ Some x ↦ Some x | None ↦ first_of f ss ]

-- f tells what is answered at a place, where `post` says what may be
abbrev pub Tells : {A : Type 0} → (Place → Option A → Type 0) → (ℕ → Option A) → Type 0
Tells {A} post f = (l : Place) (o : Option A) → Counted l → post l o → o ≡ f (place_number l)

-- r is the first answer at the slots ss
abbrev pub FirstAnswer : {A : Type 0} → (Place → Option A → Type 0) → List ℕ → Option A → Type 0
FirstAnswer {A} post ss r = (f : ℕ → Option A) → Tells post f → r ≡ first_of f ss
