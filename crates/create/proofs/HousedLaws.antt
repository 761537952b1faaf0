-- The rows of the table up to $47 give the number of what houses a new entry, and what it means that a directory does.
use Rattle.std.specs.Prelude.{Result, Ok, Err}
use Prim.Native.Nat.{ℕ, ◌<◌}
use mathlib.Core.Path.{◌≡◌, refl, sym, ap, ◌∙◌}
use mathlib.Core.List.{List, ◌∷◌}
use mathlib.Core.Bool.{Bool, true, false, not, false≢true}
use lib.Dec.{eqb}
use native.Mathlib.Omega.{arith}
use borrow.Author.Tests.{eq-eqb, ne_eqb, eqb-true}
use Rattle.model.specs.Bytes.{Bytes, ◌or◌}
use Rattle.model.specs.Names.{proper_path}
use Rattle.model.specs.Directory.{at, volume, Target, no_volume, no_directory, missing, there}
use Rattle.model.specs.Refusals.{refusal_number, Row, row, first}
use Rattle.model.specs.Calls.{target, not_prodos, not_sound, bad_path, not_volume, not_directory, is_no_volume, is_no_directory, is_there}
use Rattle.model.specs.Create.{Wanted, directory_kind, wrong_type}
use Rattle.model.specs.declared.Refusal.{Refusal}
use Rattle.model.specs.declared.Refusal.TheVariants.{Duplicate}
use Rattle.directory.specs.Slots.{place_of, entry_of}
use Rattle.directory.specs.Lookup.{home_of, looked_as}
use Rattle.directory.specs.declared.Home.{Home}
use Rattle.directory.specs.declared.Looked.{Looked}
use Rattle.directory.specs.declared.Looked.TheVariants as looked
use Rattle.opening.specs.Opened.{volume_in}
use Rattle.opening.proofs.VolumeLaws.{volume_or, volume_first, Fits, volume_sound}
use Rattle.create.specs.Housed.{wrong_for, housed_at, path_or, kind_or, type_or, housed_on, housed_by}

-- $4B in the code
module _ (kind : ℕ) where
  pub kind_file : kind ≡ 1 → true ≡ (eqb kind 1 or eqb kind directory_kind)
  unfolding ◌or◌
  kind_file e = sym (ap (λ (b : Bool). b or eqb kind directory_kind) (eq-eqb kind 1 e))

  pub kind_other : (kind ≡ 1 → ⊥) → eqb kind directory_kind ≡ (eqb kind 1 or eqb kind directory_kind)
  unfolding ◌or◌
  kind_other e = sym (ap (λ (b : Bool). b or eqb kind directory_kind) (ne_eqb kind 1 e))

pub kind_small : (kind : ℕ) → (eqb kind 1 or eqb kind directory_kind) ≡ true → kind < 16
unfolding ◌or◌
kind_small kind e = go (eqb kind 1) (eqb kind directory_kind) refl refl e
  where
    go : (a b : Bool) → eqb kind 1 ≡ a → eqb kind directory_kind ≡ b → (a or b) ≡ true → kind < 16
    go true b f g h = omega (arith, eqb-true kind 1 f)
    go false true f g h = omega (arith, eqb-true kind directory_kind g)
    go false false f g h = absurd (false≢true h)

-- what the code makes of a lookup's answer
abbrev pub housed_from : ℕ → Result Looked Refusal → Result (ℕ × Home) Refusal
housed_from n (Err r) = Err r
housed_from n (Ok (looked.Missing h)) = Ok (n, h)
housed_from n (Ok (looked.There h s x)) = Err Duplicate
housed_from n (Ok looked.Volume) = Err Duplicate

housed_from_law : (n : ℕ) (v : Bytes) (t : Target) → housed_from n (looked_as v t) ≡ housed_at n v t
unfolding housed_at
housed_from_law n v no_volume = refl
housed_from_law n v no_directory = refl
housed_from_law n v (missing d) = refl
housed_from_law n v (there d s) = go (eqb s volume)
  where
    go : (b : Bool) → housed_from n (elim b as (λ _. Result Looked Refusal) [ true ↦ Ok looked.Volume | false ↦ Ok (looked.There (home_of v d) (place_of s) (entry_of v (at s))) ]) ≡ Err Duplicate
    go true = refl
    go false = refl

pub housed_led : (n : ℕ) (v : Bytes) (t : Target) {r : Result Looked Refusal} → r ≡ looked_as v t → housed_from n r ≡ housed_at n v t
housed_led n v t e = ap (housed_from n) e ∙ housed_from_law n v t

-- the rows in the code, by what the image is and by three tests
module _ (len : ℕ) (v p : Bytes) (k kind ftype : ℕ) where
  pub housed_refused : (r : Refusal) → volume_in len v ≡ Err r → housed_by len v p k kind ftype ≡ Err r
  unfolding housed_on
  housed_refused r e = ap (λ o. housed_on o v p k kind ftype) e

  pub housed_on_law : (n : ℕ) (a b c : Bool) → volume_in len v ≡ Ok n → proper_path p k ≡ a → (eqb kind 1 or eqb kind directory_kind) ≡ b → wrong_for kind ftype ≡ c
      → housed_by len v p k kind ftype ≡ path_or a (kind_or b (type_or c (housed_at n v (target v p k))))
  unfolding housed_on
  housed_on_law n a b c e f g h = ap (λ o. housed_on o v p k kind ftype) e ∙ rw (f, g, h) refl

-- the number of a refused answer, or what the rows that follow give
abbrev pub housed_or : Result (ℕ × Home) Refusal → ℕ → ℕ
housed_or (Ok (n, h)) x = x
housed_or (Err r) x = refusal_number r

target_first : (n : ℕ) (v : Bytes) (t : Target) (rest : List Row)
    → first (not_volume t ∷ not_directory t ∷ row (is_there t) 0x47 ∷ rest) ≡ housed_or (housed_at n v t) (first rest)
unfolding first housed_at is_no_volume is_no_directory is_there
target_first n v no_volume rest = refl
target_first n v no_directory rest = refl
target_first n v (missing d) rest = refl
target_first n v (there d s) rest = refl

tests_first : (a b c : Bool) (h : Result (ℕ × Home) Refusal) (rows : List Row) (x : ℕ) → first rows ≡ housed_or h x
    → first (row (not a) 0x40 ∷ row (not b) 0x4B ∷ row c 0x53 ∷ rows) ≡ housed_or (path_or a (kind_or b (type_or c h))) x
unfolding first
tests_first true true true h rows x e = refl
tests_first true true false h rows x e = e
tests_first true false c h rows x e = refl
tests_first false b c h rows x e = refl

-- all rows up to $47
pub housed_first : (len : ℕ) (v p : Bytes) (k : ℕ) (w : Wanted) (rest : List Row)
    → first (not_prodos len v ∷ not_sound len v ∷ bad_path p k ∷ row (not (eqb w.kind 1 or eqb w.kind directory_kind)) 0x4B ∷ row (wrong_type w) 0x53
    ∷ not_volume (target v p k) ∷ not_directory (target v p k) ∷ row (is_there (target v p k)) 0x47 ∷ rest)
    ≡ housed_or (housed_by len v p k w.kind w.ftype) (first rest)
unfolding housed_on wrong_type wrong_for
housed_first len v p k w rest = volume_first len v _ ∙ after (volume_in len v)
  where
    rows : List Row
    rows = not_volume (target v p k) ∷ not_directory (target v p k) ∷ row (is_there (target v p k)) 0x47 ∷ rest

    after : (o : Result ℕ Refusal) → volume_or o (first (bad_path p k ∷ row (not (eqb w.kind 1 or eqb w.kind directory_kind)) 0x4B ∷ row (wrong_type w) 0x53 ∷ rows))
        ≡ housed_or (housed_on o v p k w.kind w.ftype) (first rest)
    after (Ok n) =
        tests_first (proper_path p k) (eqb w.kind 1 or eqb w.kind directory_kind) (wrong_type w) (housed_at n v (target v p k)) rows (first rest)
        (target_first n v (target v p k) rest)
    after (Err r) = refl

-- a new entry has a directory
pub record Home-of (len : ℕ) (v p : Bytes) (k kind : ℕ) (n : ℕ) (h : Home) : Type 0 where
  pub fits : Fits len v n
  pub place : ℕ
  pub led : target v p k ≡ missing place
  pub same : home_of v place ≡ h
  pub proper : proper_path p k ≡ true
  pub known : (eqb kind 1 or eqb kind directory_kind) ≡ true

pub housed_in : (len : ℕ) (v p : Bytes) (k kind ftype n : ℕ) (h : Home) → housed_by len v p k kind ftype ≡ Ok (n, h) → Home-of len v p k kind n h
unfolding housed_on housed_at
housed_in len v p k kind ftype n h e = on (volume_in len v) refl e
  where
    clash : {A : Type 0} {r : Refusal} → ◌≡◌ {A = Result (ℕ × Home) Refusal} (Err r) (Ok (n, h)) → A
    clash q = let z : ◌≡◌ {A = ℕ} 0 1 = cc in absurd (omega arith)

    blocks : Result (ℕ × Home) Refusal → ℕ
    blocks (Ok y) = y.0
    blocks (Err r) = n

    housed : Result (ℕ × Home) Refusal → Home
    housed (Ok y) = y.1
    housed (Err r) = h

    led : (m : ℕ) → Fits len v m → proper_path p k ≡ true → (eqb kind 1 or eqb kind directory_kind) ≡ true → (t : Target) → target v p k ≡ t
        → housed_at m v t ≡ Ok (n, h) → Home-of len v p k kind n h
    led m f a b no_volume t q = clash q
    led m f a b no_directory t q = clash q
    led m f a b (there d s) t q = clash q
    led m f a b (missing d) t q =
        let c : m ≡ n = ap blocks q in
        let g : home_of v d ≡ h = ap housed q in
        record { fits = rw (← c) f; place = d; led = t; same = g; proper = a; known = b }

    tests : (m : ℕ) → Fits len v m → (a b c : Bool) → proper_path p k ≡ a → (eqb kind 1 or eqb kind directory_kind) ≡ b
        → path_or a (kind_or b (type_or c (housed_at m v (target v p k)))) ≡ Ok (n, h) → Home-of len v p k kind n h
    tests m f true true true x y q = clash q
    tests m f true true false x y q = led m f x y (target v p k) refl q
    tests m f true false c x y q = clash q
    tests m f false b c x y q = clash q

    on : (o : Result ℕ Refusal) → volume_in len v ≡ o → housed_on o v p k kind ftype ≡ Ok (n, h) → Home-of len v p k kind n h
    on (Err r) x q = clash q
    on (Ok m) x q =
        tests m (volume_sound len v m x) (proper_path p k) (eqb kind 1 or eqb kind directory_kind) (wrong_for kind ftype) refl refl q
