-- The rows of the table up to $46 give the number of what a path opens.
use Rattle.std.specs.Prelude.{Result, Ok, Err}
use Prim.Native.Nat.{ℕ}
use mathlib.Core.Path.{◌≡◌, refl, ap, ◌∙◌}
use mathlib.Core.List.{List, ◌∷◌}
use mathlib.Core.Bool.{Bool, true, false, not}
use lib.Dec.{eqb}
use borrow.Author.Tests.{eqb-true, eqb-false}
use Rattle.model.specs.Bytes.{Bytes, ◌and◌}
use Rattle.model.specs.Names.{proper_path}
use Rattle.directory.specs.Slots.{place_of, entry_of}
use Rattle.directory.specs.Lookup.{home_of}
use Rattle.model.specs.Directory.{at, volume, Target, no_volume, no_directory, missing, there}
use Rattle.model.specs.Sound.{whole_blocks, prodos, sound}
use Rattle.model.specs.Refusals.{refusal_number, Row, first}
use Rattle.model.specs.Calls.{total, target, not_prodos, not_sound, bad_path, not_volume, not_directory, not_found, is_no_volume, is_no_directory, is_missing}
use Rattle.model.proofs.RefusalLaws.{first_applies, first_passes}
use Rattle.model.specs.declared.Refusal.{Refusal}
use Rattle.model.specs.declared.Refusal.TheVariants.{NotProdos, NotSound, BadPath, NoVolume, NoDirectory, NotFound}
use Rattle.opening.specs.Opened.{volume_in, opened_at, opened_on, opened_by}
use Rattle.opening.specs.declared.Opened.{Opened}
use Rattle.opening.specs.declared.Opened.TheVariants as opened
use Rattle.claims.proofs.TestLaws.{and_true}
use Rattle.opening.proofs.VolumeLaws.{volume_or, volume_first, Fits, fits}

-- the number of a refused answer, or what the rows that follow give
abbrev pub opened_or : Result Opened Refusal → ℕ → ℕ
opened_or (Ok (opened.Volume n)) x = x
opened_or (Ok (opened.Entry n h s e)) x = x
opened_or (Err r) x = refusal_number r

-- $45, $44 and $46
pub target_first : (n : ℕ) (v : Bytes) (t : Target) (rest : List Row) → first (not_volume t ∷ not_directory t ∷ not_found t ∷ rest) ≡ opened_or (opened_at n v t) (first rest)
unfolding first opened_at is_no_volume is_no_directory is_missing
target_first n v no_volume rest = refl
target_first n v no_directory rest = refl
target_first n v (missing d) rest = refl
target_first n v (there d s) rest = go (eqb s volume)
  where
    go : (b : Bool) → first rest ≡ opened_or (elim b as (λ _. Result Opened Refusal) [ true ↦ Ok (opened.Volume n) | false ↦ Ok (opened.Entry n (home_of v d) (place_of s) (entry_of v (at s))) ]) (first rest)
    go true = refl
    go false = refl

-- all rows up to $46
pub opened_first : (len : ℕ) (v p : Bytes) (k : ℕ) (rest : List Row)
    → first (not_prodos len v ∷ not_sound len v ∷ bad_path p k ∷ not_volume (target v p k) ∷ not_directory (target v p k) ∷ not_found (target v p k) ∷ rest)
    ≡ opened_or (opened_by len v p k) (first rest)
unfolding opened_on
opened_first len v p k rest = volume_first len v _ ∙ after (volume_in len v)
  where
    rows : List Row
    rows = not_volume (target v p k) ∷ not_directory (target v p k) ∷ not_found (target v p k) ∷ rest

    path : (n : ℕ) (b : Bool) → proper_path p k ≡ b → first (bad_path p k ∷ rows) ≡ opened_or (elim b as (λ _. Result Opened Refusal) [ true ↦ opened_at n v (target v p k) | false ↦ Err BadPath ]) (first rest)
    path n true e = first_passes (bad_path p k) rows (ap not e) ∙ target_first n v (target v p k) rest
    path n false e = first_applies (bad_path p k) rows (ap not e)

    after : (o : Result ℕ Refusal) → volume_or o (first (bad_path p k ∷ rows)) ≡ opened_or (opened_on o v p k) (first rest)
    after (Ok n) = path n (proper_path p k) refl
    after (Err r) = refl

-- What it means that a path was opened: why it was refused, or where it leads on a sound volume.
pub data Seen (len : ℕ) (v p : Bytes) (k : ℕ) : Result Opened Refusal → Type 0 where
  refused : (r : Refusal) → opened_by len v p k ≡ Err r → Seen len v p k (Err r)
  on_volume : (d : ℕ) → Fits len v (total len) → target v p k ≡ there d volume → Seen len v p k (Ok (opened.Volume (total len)))
  on_entry : (d s : ℕ) → Fits len v (total len) → target v p k ≡ there d s → (s ≡ volume → ⊥) → Seen len v p k (Ok (opened.Entry (total len) (home_of v d) (place_of s) (entry_of v (at s))))

pub seen : (len : ℕ) (v p : Bytes) (k : ℕ) → Seen len v p k (opened_by len v p k)
unfolding opened_on volume_in opened_at
seen len v p k = whole (whole_blocks len and prodos (total len) v) (sound (total len) v) (proper_path p k) refl refl refl
  where
    found : (b : Bool) (d s : ℕ) → Fits len v (total len) → target v p k ≡ there d s → eqb s volume ≡ b
        → (opened_by len v p k ≡ elim b as (λ _. Result Opened Refusal) [ true ↦ Ok (opened.Volume (total len)) | false ↦ Ok (opened.Entry (total len) (home_of v d) (place_of s) (entry_of v (at s))) ])
        → Seen len v p k (elim b as (λ _. Result Opened Refusal) [ true ↦ Ok (opened.Volume (total len)) | false ↦ Ok (opened.Entry (total len) (home_of v d) (place_of s) (entry_of v (at s))) ])
    found true d s h t e q = on_volume d h (t ∙ ap (there d) (eqb-true s volume e))
    found false d s h t e q = on_entry d s h t (eqb-false s volume e)

    led : (t : Target) → Fits len v (total len) → target v p k ≡ t → opened_by len v p k ≡ opened_at (total len) v t → Seen len v p k (opened_at (total len) v t)
    led no_volume h e q = refused NoVolume q
    led no_directory h e q = refused NoDirectory q
    led (missing d) h e q = refused NotFound q
    led (there d s) h e q = found (eqb s volume) d s h e refl q

    chosen : Bool → Bool → Result ℕ Refusal
    chosen a b = elim a [ true ↦ elim b [ true ↦ Ok (total len) | false ↦ Err NotSound ] | false ↦ Err NotProdos ]

    as_volume : (a b : Bool) → whole_blocks len and prodos (total len) v ≡ a → sound (total len) v ≡ b → volume_in len v ≡ chosen a b
    as_volume a b e f = ap (λ x. chosen x (sound (total len) v)) e ∙ ap (chosen a) f

    passed : Bool → Result Opened Refusal
    passed c = elim c [ true ↦ opened_at (total len) v (target v p k) | false ↦ Err BadPath ]

    as_path : (c : Bool) → proper_path p k ≡ c → opened_on (Ok (total len)) v p k ≡ passed c
    as_path c e = ap passed e

    whole : (a b c : Bool) → whole_blocks len and prodos (total len) v ≡ a → sound (total len) v ≡ b → proper_path p k ≡ c → Seen len v p k (opened_by len v p k)
    whole false b c e f g = let q : opened_by len v p k ≡ Err NotProdos = ap (λ o. opened_on o v p k) (as_volume false b e f) in rw q (refused NotProdos q)
    whole true false c e f g = let q : opened_by len v p k ≡ Err NotSound = ap (λ o. opened_on o v p k) (as_volume true false e f) in rw q (refused NotSound q)
    whole true true false e f g = let q : opened_by len v p k ≡ Err BadPath = ap (λ o. opened_on o v p k) (as_volume true true e f) ∙ as_path false g in rw q (refused BadPath q)
    whole true true true e f g = let q : opened_by len v p k ≡ opened_at (total len) v (target v p k) = ap (λ o. opened_on o v p k) (as_volume true true e f) ∙ as_path true g in rw q (led (target v p k) (fits len v ((and_true (whole_blocks len) (prodos (total len) v)).0 e).0 f) refl q)
