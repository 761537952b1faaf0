-- Case 8: DAYS has twelve files and no inactive slot, so the thirteenth makes it gain a block. The path to the first file still leads to it.
use Prim.Native.Nat.{ℕ, zero, suc, ◌+◌}
use mathlib.Core.Path.{◌≡◌, refl, sym, ap, ◌∙◌}
use mathlib.Core.List.{List, [], ◌∷◌}
use mathlib.Core.Bool.{Bool, true}
use native.Mathlib.Omega.{arith}
use Rattle.model.specs.Bytes.{Octets, Bytes, view, zeros, count, ◌and◌}
use Rattle.model.specs.Directory.{sort, is_active, volume, kids, there}
use Rattle.model.specs.Sound.{sound}
use Rattle.model.specs.Calls.{target}
use Rattle.model.specs.Format.{format_number}
use Rattle.model.specs.Create.{full, create}
use Rattle.model.specs.Catalog.{text}
use Rattle.cases.proofs.Cases.{cases, fresh, stamp, site7, days, DAYS, day}
use Rattle.model.proofs.TestLaws.{and_left, and_right}
use Rattle.model.proofs.Laws.Format.{format_sound}
use Rattle.model.proofs.Laws.Octet.{format_octets}
use Rattle.model.proofs.Laws.Sequence.{Call, creating, all_after, AllLent, Unnamed, calls_sound}
use Rattle.cases.proofs.Example.{plain, nested, bytes, bytes_view, names_bytes}
use Rattle.paths.specs.Ways.{Way, Names, stored, holder, path_names}
use Rattle.paths.proofs.PathLaws.{spells_path}
use Rattle.paths.proofs.KeptLaws.{create_path, Unrenamed, calls_path}

-- c files, the first of them number i
abbrev makes : ℕ → ℕ → List Call
makes i zero = []
makes i (suc c) = creating (view (day i)) 14 plain ∷ makes (i + 1) c

days_lent : ℕ → ℕ → Bool
days_lent i zero = true
days_lent i (suc c) = bytes (day i) and days_lent (i + 1) c

makes_lent : (i c : ℕ) → days_lent i c ≡ true → AllLent (makes i c)
unfolding days_lent
makes_lent i zero e = tt
makes_lent i (suc c) e = ((bytes_view (day i) (and_left _ _ e), omega arith), makes_lent (i + 1) c (and_right _ _ e))

makes_unnamed : (i c : ℕ) (v : Bytes) (s : ℕ) → (s ≡ volume → ⊥) → Unnamed 16384 (makes i c) v s
makes_unnamed i zero v s n = tt
makes_unnamed i (suc c) v s n = (n, makes_unnamed (i + 1) c (create 16384 v (view (day i)) 14 plain).image s n)

makes_unrenamed : (i c : ℕ) (v : Bytes) (ws : List ℕ) → Unrenamed 16384 (makes i c) v ws
makes_unrenamed i zero v ws = tt
makes_unrenamed i (suc c) v ws = (tt, makes_unrenamed (i + 1) c (create 16384 v (view (day i)) 14 plain).image ws)

-- DAYS with its first file
abbrev first : List Call
first = creating (view DAYS) 11 nested ∷ makes 0 1

lent : (days_lent 0 1 ≡ true) × (days_lent 1 11 ≡ true)
unfolding bytes ◌and◌ day days_lent
lent = (refl, refl)

fresh_number : format_number 16384 (view site7) 5 ≡ 0
unfolding cases
fresh_number = refl

first_right : (sound 32 (all_after 16384 first (fresh 32)) ≡ true) × Octets (all_after 16384 first (fresh 32))
first_right =
    calls_sound 16384 first (fresh 32) ((bytes_view DAYS names_bytes.2, omega arith), makes_lent 0 1 lent.0)
    (unfold fresh in format_octets 16384 zeros (view site7) 5 stamp (λ i. omega arith) (bytes_view site7 names_bytes.0))
    (unfold fresh in format_sound 16384 zeros (view site7) 5 stamp fresh_number)

unfoldable pub begun : Bytes
begun = all_after 16384 first (fresh 32)

-- with twelve files it is full
unfoldable pub twelve : Bytes
twelve = all_after 16384 (makes 1 11) begun

pub twelve_right : (sound 32 twelve ≡ true) × Octets twelve
unfolding begun twelve
twelve_right = calls_sound 16384 (makes 1 11) begun (makes_lent 1 11 lent.1) first_right.1 first_right.0

record Observed : Type 0 where
  days_in : ℕ
  days_on : Bool
  first_in : ℕ
  first_on : Bool
  names : Names

unfoldable observed : Bytes → Observed
observed v =
    record {
      days_in = count 27 (kids v volume);
      days_on = is_active (sort v 27);
      first_in = count 92 (kids v 27);
      first_on = is_active (sort v 92);
      names = stored v (volume ∷ 27 ∷ 92 ∷ []);
    }

computed : observed begun ≡ record { days_in = 1; days_on = true; first_in = 1; first_on = true; names = site7 ∷ days ∷ (68 ∷ 65 ∷ []) ∷ [] }
unfolding begun observed cases text
computed = refl

spelt : path_names (view (day 0)) 14 ≡ site7 ∷ days ∷ (68 ∷ 65 ∷ []) ∷ []
unfolding cases text
spelt = refl

-- DAYS is in slot 2 of block 2, its first file in slot 2 of block 7.
pub first_way : Way begun volume (27 ∷ 92 ∷ []) 92
unfolding observed
first_way = (
  omega (arith, ap (λ x. x.days_in) computed),
  ap (λ x. x.days_on) computed,
  (omega (arith, ap (λ x. x.first_in) computed), ap (λ x. x.first_on) computed, refl),
)

pub first_path : target begun (view (day 0)) 14 ≡ there 27 92
unfolding observed holder begun
first_path =
    spells_path 32 begun first_right.0 (view (day 0)) 14 27 92
    (record { places = 27 ∷ 92 ∷ []; way = first_way; names = ap (λ x. x.names) computed ∙ sym spelt; held = refl })

-- Eleven files more, and the path leads to the first.
pub twelve_path : target twelve (view (day 0)) 14 ≡ there 27 92
unfolding begun twelve
twelve_path =
    calls_path 16384 (makes 1 11) begun (makes_lent 1 11 lent.1) first_right.1 first_right.0 (view (day 0)) 14 27 92 first_path
    (27 ∷ 92 ∷ []) first_way (makes_unnamed 1 11 begun 92 (λ e. omega arith)) (makes_unrenamed 1 11 begun (volume ∷ 27 ∷ 92 ∷ []))

-- DAYS is full, and the thirteenth is not refused: the path leads to the first again.
record Last : Type 0 where
  full : Bool
  number : ℕ

unfoldable last_of : Bytes → Last
last_of v = record { full = full v 27; number = (create 16384 v (view (day 12)) 14 plain).number }

last_computed : last_of twelve ≡ record { full = true; number = 0 }
unfolding begun twelve cases last_of
last_computed = refl

pub thirteenth : (full twelve 27 ≡ true) × ((create 16384 twelve (view (day 12)) 14 plain).number ≡ 0)
unfolding last_of
thirteenth = (ap (λ x. x.full) last_computed, ap (λ x. x.number) last_computed)

pub thirteen_path : target (create 16384 twelve (view (day 12)) 14 plain).image (view (day 0)) 14 ≡ there 27 92
thirteen_path = create_path 16384 twelve (view (day 12)) 14 plain twelve_right.1 twelve_right.0 (view (day 0)) 14 27 92 twelve_path
