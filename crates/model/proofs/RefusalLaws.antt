-- A refused call leaves image and buffer as they were, and the other parts of its answer are 0: one law of the table, used for every call.
use Prim.Native.Nat.{ℕ, ◌<◌}
use mathlib.Core.Path.{◌≡◌, refl}
use mathlib.Core.List.{List, ◌∷◌}
use mathlib.Core.Bool.{Bool, true, false}
use lib.Dec.{eqb}
use native.Mathlib.Omega.{arith}
use borrow.Author.Tests.{eq-eqb, ne_eqb}
use Rattle.model.specs.Bytes.{Bytes}
use Rattle.model.specs.Refusals.{refusal_number, Row, first, Outcome, settle}
use Rattle.model.specs.Calls.{nothing}
use Rattle.model.specs.Format.{format}
use Rattle.model.specs.Create.{Wanted, create}
use Rattle.model.specs.Destroy.{destroy}
use Rattle.model.specs.Rename.{rename}
use Rattle.model.specs.Info.{set_info, get_info, no_info, space, no_space}
use Rattle.model.specs.Read.{filled, read}
use Rattle.model.specs.Write.{write}
use Rattle.model.specs.SetEof.{set_eof}
use Rattle.model.specs.declared.Stamp.{Stamp}
use Rattle.model.specs.declared.Refusal.{Refusal}
use Rattle.model.specs.declared.Refusal.TheVariants.{NotProdos, NotSound, BadPath, BadKind, BadType, NoVolume, NoDirectory, NotFound, Duplicate, Locked, BadPosition, EndOfFile, DirectoryFull, NoRoom}

-- The outcome of a refused call: the image as it was, and the parts that a refused answer has.
abbrev pub Refused : {P : Type 0} → Outcome P → P → Bytes → Type 0
Refused o parts v = (o.number ≡ 0 → ⊥) → (o.parts ≡ parts) × (o.image ≡ v)

-- The outcome of a call that is not refused.
abbrev pub Accepted : {P : Type 0} → Outcome P → P → Bytes → Type 0
Accepted o parts v = o.number ≡ 0 → (o.parts ≡ parts) × (o.image ≡ v)

pub settle_refused : {P : Type 0} (k : ℕ) (r : P) (old : Bytes) (d : P) (new : Bytes) → Refused (settle k r old d new) r old
unfolding settle
settle_refused k r old d new h = (rw (ne_eqb k 0 h, settle) refl, rw (ne_eqb k 0 h, settle) refl)

pub settle_accepted : {P : Type 0} (k : ℕ) (r : P) (old : Bytes) (d : P) (new : Bytes) → Accepted (settle k r old d new) d new
unfolding settle
settle_accepted k r old d new h = (rw (eq-eqb k 0 h, settle) refl, rw (eq-eqb k 0 h, settle) refl)

pub format_refused : (len : ℕ) (v q : Bytes) (j : ℕ) (t : Stamp) → Refused (format len v q j t) nothing v
unfolding format
format_refused len v q j t = settle_refused _ _ _ _ _

pub create_refused : (len : ℕ) (v p : Bytes) (k : ℕ) (w : Wanted) → Refused (create len v p k w) nothing v
unfolding create
create_refused len v p k w = settle_refused _ _ _ _ _

pub destroy_refused : (len : ℕ) (v p : Bytes) (k : ℕ) → Refused (destroy len v p k) nothing v
unfolding destroy
destroy_refused len v p k = settle_refused _ _ _ _ _

pub rename_refused : (len : ℕ) (v p : Bytes) (k : ℕ) (q : Bytes) (j : ℕ) → Refused (rename len v p k q j) nothing v
unfolding rename
rename_refused len v p k q j = settle_refused _ _ _ _ _

pub set_info_refused : (len : ℕ) (v p : Bytes) (k access aux : ℕ) (t : Stamp) → Refused (set_info len v p k access aux t) nothing v
unfolding set_info
set_info_refused len v p k access aux t = settle_refused _ _ _ _ _

pub get_info_refused : (len : ℕ) (v p : Bytes) (k : ℕ) → Refused (get_info len v p k) no_info v
unfolding get_info
get_info_refused len v p k = settle_refused _ _ _ _ _

pub space_refused : (len : ℕ) (v : Bytes) → Refused (space len v) no_space v
unfolding space
space_refused len v = settle_refused _ _ _ _ _

pub read_refused : (len : ℕ) (v p : Bytes) (k pos : ℕ) (buffer : Bytes) (size : ℕ) → Refused (read len v p k pos buffer size) (filled 0 buffer) v
unfolding read
read_refused len v p k pos buffer size = settle_refused _ _ _ _ _

pub write_refused : (len : ℕ) (v p : Bytes) (k pos : ℕ) (buffer : Bytes) (size : ℕ) (t : Stamp) → Refused (write len v p k pos buffer size t) 0 v
unfolding write
write_refused len v p k pos buffer size t = settle_refused _ _ _ _ _

pub set_eof_refused : (len : ℕ) (v p : Bytes) (k e : ℕ) (t : Stamp) → Refused (set_eof len v p k e t) nothing v
unfolding set_eof
set_eof_refused len v p k e t = settle_refused _ _ _ _ _

-- The calls that only tell leave the image be in any case.
pub told : {P : Type 0} (k : ℕ) (r : P) (v : Bytes) (d : P) → (settle k r v d v).image ≡ v
unfolding settle
told k r v d = go (eqb k 0)
  where
    go : (b : Bool) → elim b as (λ _. Bytes) [ true ↦ v | false ↦ v ] ≡ v
    go true = refl
    go false = refl

pub get_info_image : (len : ℕ) (v p : Bytes) (k : ℕ) → (get_info len v p k).image ≡ v
unfolding get_info
get_info_image len v p k = told _ _ _ _

pub space_image : (len : ℕ) (v : Bytes) → (space len v).image ≡ v
unfolding space
space_image len v = told _ _ _ _

pub read_image : (len : ℕ) (v p : Bytes) (k pos : ℕ) (buffer : Bytes) (size : ℕ) → (read len v p k pos buffer size).image ≡ v
unfolding read
read_image len v p k pos buffer size = told _ _ _ _

-- The number of a case is below 256, so it is a byte, and is not 0, which stands for a call that is done.
pub number_small : (r : Refusal) → refusal_number r < 256
number_small NotProdos = omega arith
number_small NotSound = omega arith
number_small BadPath = omega arith
number_small BadKind = omega arith
number_small BadType = omega arith
number_small NoVolume = omega arith
number_small NoDirectory = omega arith
number_small NotFound = omega arith
number_small Duplicate = omega arith
number_small Locked = omega arith
number_small BadPosition = omega arith
number_small EndOfFile = omega arith
number_small DirectoryFull = omega arith
number_small NoRoom = omega arith

pub number_refuses : (r : Refusal) → refusal_number r ≡ 0 → ⊥
number_refuses NotProdos e = omega arith
number_refuses NotSound e = omega arith
number_refuses BadPath e = omega arith
number_refuses BadKind e = omega arith
number_refuses BadType e = omega arith
number_refuses NoVolume e = omega arith
number_refuses NoDirectory e = omega arith
number_refuses NotFound e = omega arith
number_refuses Duplicate e = omega arith
number_refuses Locked e = omega arith
number_refuses BadPosition e = omega arith
number_refuses EndOfFile e = omega arith
number_refuses DirectoryFull e = omega arith
number_refuses NoRoom e = omega arith

-- What the table gives is 0, or the number of a row that applies while none before it does.
pub first_applies : (r : Row) (rs : List Row) → r.applies ≡ true → first (r ∷ rs) ≡ r.number
unfolding first
first_applies r rs h = rw (h, first) refl

pub first_passes : (r : Row) (rs : List Row) → r.applies ≡ false → first (r ∷ rs) ≡ first rs
unfolding first
first_passes r rs h = rw (h, first) refl
