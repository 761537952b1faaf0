-- What an answer says of the slot or the target that it stands for, and that these lie on the volume. Assumes nothing.
use Rattle.model.specs.declared.Refusal.{Refusal}
use Rattle.model.specs.declared.Refusal.TheVariants.{NoVolume, NoDirectory}
use mathlib.Core.Path.{◌≡◌, refl, sym, ap, subst, ◌∙◌}
use mathlib.Core.Bool.{Bool, true, false}
use mathlib.Core.List.{List, [], ◌∷◌, Memᴰ}
use mathlib.Core.Logic.{⊎_elim}
use mathlib.Core.Option.{Option, none, some}
use Rattle.std.specs.Prelude.{Some, None, Result, Ok, Err}
use Prim.Native.Nat.{ℕ, zero, suc, ◌+◌, ◌*◌, ◌/◌, ◌≤◌, ◌<◌}
use lib.ListN.{drop}
use lib.Dec.{eqb}
use native.Mathlib.Omega.{arith}
use borrow.Author.Tests.{eqb-true, eqb-false}
use Rattle.model.specs.Bytes.{Bytes, run}
use Rattle.model.specs.Names.{Part, same_name}
use Rattle.model.specs.Directory.{place, at, block_of, volume, sort, is_active, is_directory, key, used, slots, kids, vacant, seek, Target, no_volume, no_directory, missing, there, last, along, lookup}
use Rattle.model.specs.Calls.{is_there, spot}
use Rattle.model.specs.declared.Entry.{Entry}
use Rattle.model.specs.declared.Place.{Place}
use Rattle.model.proofs.Laws.Lookup.{directory_is}
use Rattle.directory.specs.Slots.{place_number, place_of, Counted, entry_of}
use Rattle.directory.specs.Search.{Each, Readable, Searchable, listed, found_at, vacancy_at}
use Rattle.directory.specs.Lookup.{Reached, top, below, Sane, home_of, looked_as}
use Rattle.directory.specs.declared.Home.{Home}
use Rattle.directory.specs.declared.Looked.{Looked}
use Rattle.directory.specs.declared.Looked.TheVariants as looked
use Rattle.directory.proofs.SlotLaws.{never, place_number_law}
use Rattle.directory.proofs.SearchLaws.{vacant_here, vacant_past}
use Rattle.directory.proofs.LookupLaws.{seek_some, reached_kids, sane_blocks}

-- A place that stands for a slot.
pub place_counted : (s : ℕ) (l : Place) → place_of s ≡ l → Counted l
place_counted s l e = subst Counted e (omega arith, omega arith)

place_is : (s : ℕ) (l : Place) → place_of s ≡ l → s ≡ place_number l
place_is s l e = sym (place_number_law s) ∙ ap place_number e

-- Answers of searches.
pub found_some : (v : Bytes) (o : Option ℕ) (l : Place) (e : Entry) → found_at v o ≡ Some (l, e)
    → (o ≡ some (place_number l)) × (e ≡ entry_of v (at (place_number l))) × Counted l
found_some v none l e h = never (cc)
found_some v (some s) l e h =
    let w : ◌≡◌ {A = Place × Entry} (place_of s, entry_of v (at s)) (l, e) = cc in
    let p : place_of s ≡ l = ap (λ (x : Place × Entry). x.0) w in
    let q : s ≡ place_number l = place_is s l p in
    (ap some q, sym (ap (λ (x : Place × Entry). x.1) w) ∙ ap (λ t. entry_of v (at t)) q, place_counted s l p)

pub found_none : (v : Bytes) (o : Option ℕ) → found_at v o ≡ None → o ≡ none
found_none v none h = refl
found_none v (some s) h = never (cc)

pub vacancy_some : (o : Option ℕ) (l : Place) → vacancy_at o ≡ Some l → (o ≡ some (place_number l)) × Counted l
vacancy_some none l h = never (cc)
vacancy_some (some s) l h = let p : place_of s ≡ l = cc in (ap some (place_is s l p), place_counted s l p)

pub vacancy_none : (o : Option ℕ) → vacancy_at o ≡ None → o ≡ none
vacancy_none none h = refl
vacancy_none (some s) h = never (cc)

-- Answers of lookups.
pub record Stands (v : Bytes) (t : Target) (h : Home) (l : Place) (e : Entry) : Type 0 where
  pub target : t ≡ there (place_number h.place) (place_number l)
  pub home : h ≡ home_of v (place_number h.place)
  pub entry : e ≡ entry_of v (at (place_number l))
  pub counted : Counted l
  pub lower : place_number l ≡ volume → ⊥

module _ (v : Bytes) (d s : ℕ) where
  abbrev answer : Bool → Result Looked Refusal
  answer b = elim b [ true ↦ Ok looked.Volume | false ↦ Ok (looked.There (home_of v d) (place_of s) (entry_of v (at s))) ]

  stands_by : (b : Bool) → eqb s volume ≡ b → (h : Home) (l : Place) (e : Entry) → answer b ≡ Ok (looked.There h l e) → Stands v (there d s) h l e
  stands_by true p h l e q = never (cc)
  stands_by false p h l e q =
      let x : home_of v d ≡ h = cc in
      let y : place_of s ≡ l = cc in
      let z : entry_of v (at s) ≡ e = cc in
      let i : d ≡ place_number h.place = place_is d h.place (ap (λ w. w.place) x) in
      let j : s ≡ place_number l = place_is s l y in
      record {
        target = ap (λ a. there a s) i ∙ ap (there (place_number h.place)) j;
        home = sym x ∙ ap (home_of v) i;
        entry = sym z ∙ ap (λ a. entry_of v (at a)) j;
        counted = place_counted s l y;
        lower = λ k. eqb-false s volume p (j ∙ k);
      }

  volume_by : (b : Bool) → eqb s volume ≡ b → answer b ≡ Ok looked.Volume → s ≡ volume
  volume_by true p q = eqb-true s volume p
  volume_by false p q = never (cc)

  there_not : (b : Bool) → (answer b ≡ Err NoVolume → ⊥) × (answer b ≡ Err NoDirectory → ⊥) × ((h : Home) → answer b ≡ Ok (looked.Missing h) → ⊥)
  there_not true = (λ q. never (cc), λ q. never (cc), λ h q. never (cc))
  there_not false = (λ q. never (cc), λ q. never (cc), λ h q. never (cc))

module _ (v : Bytes) where
  pub looked_there : (t : Target) (h : Home) (l : Place) (e : Entry) → looked_as v t ≡ Ok (looked.There h l e) → Stands v t h l e
  looked_there no_volume h l e q = never (cc)
  looked_there no_directory h l e q = never (cc)
  looked_there (missing d) h l e q = never (cc)
  looked_there (there d s) h l e q = stands_by v d s (eqb s volume) refl h l e q

  pub looked_missing : (t : Target) (h : Home) → looked_as v t ≡ Ok (looked.Missing h)
      → (t ≡ missing (place_number h.place)) × (h ≡ home_of v (place_number h.place))
  looked_missing no_volume h q = never (cc)
  looked_missing no_directory h q = never (cc)
  looked_missing (missing d) h q =
      let x : home_of v d ≡ h = cc in
      let i : d ≡ place_number h.place = place_is d h.place (ap (λ w. w.place) x) in
      (ap missing i, sym x ∙ ap (home_of v) i)
  looked_missing (there d s) h q = absurd ((there_not v d s (eqb s volume)).2 h q)

  pub looked_volume : (t : Target) → looked_as v t ≡ Ok looked.Volume → (is_there t ≡ true) × (spot t ≡ volume)
  unfolding is_there spot
  looked_volume no_volume q = never (cc)
  looked_volume no_directory q = never (cc)
  looked_volume (missing d) q = never (cc)
  looked_volume (there d s) q = (refl, volume_by v d s (eqb s volume) refl q)

  pub looked_no_directory : (t : Target) → looked_as v t ≡ Err NoDirectory → t ≡ no_directory
  looked_no_directory no_volume q = never (cc)
  looked_no_directory no_directory q = refl
  looked_no_directory (missing d) q = never (cc)
  looked_no_directory (there d s) q = absurd ((there_not v d s (eqb s volume)).1 q)

  pub looked_no_volume : (t : Target) → looked_as v t ≡ Err NoVolume → t ≡ no_volume
  looked_no_volume no_volume q = refl
  looked_no_volume no_directory q = never (cc)
  looked_no_volume (missing d) q = never (cc)
  looked_no_volume (there d s) q = absurd ((there_not v d s (eqb s volume)).0 q)

-- A slot that is vacant is one of those searched, and inactive.
module _ (v : Bytes) where
  vacant_by : (t : ℕ) (ss : List ℕ) (s : ℕ) (b : Bool) → is_active (sort v t) ≡ b → vacant v (t ∷ ss) ≡ some s
      → (vacant v ss ≡ some s → Memᴰ s ss × (is_active (sort v s) ≡ false)) → Memᴰ s (t ∷ ss) × (is_active (sort v s) ≡ false)
  vacant_by t ss s false e h go =
      let q : some t ≡ some s = sym (vacant_here v t ss e) ∙ h in
      let r : s ≡ t = cc in
      (mathlib.Core.List.Memᴰ.head r, rw r e)
  vacant_by t ss s true e h go = let w = go (sym (vacant_past v t ss e) ∙ h) in (mathlib.Core.List.Memᴰ.tail w.0, w.1)

  pub vacant_some : (ss : List ℕ) (s : ℕ) → vacant v ss ≡ some s → Memᴰ s ss × (is_active (sort v s) ≡ false)
  unfolding vacant
  vacant_some [] s h = never (cc)
  vacant_some (t ∷ ss) s h = vacant_by t ss s (is_active (sort v t)) refl h (vacant_some ss s)

-- The slots of blocks on the volume lie on it.
run_in_law : (a c s : ℕ) → Memᴰ s (run a c) → (a ≤ s) × (s < a + c)
unfolding run
run_in_law a zero s m = absurd (mathlib.Core.List.Memᴰ.not-nil m)
run_in_law a (suc c) s m =
    ⊎_elim (λ (e : s ≡ a). let z : (a ≤ s) × (s < a + suc c) = (omega arith, omega arith) in z)
    (λ (r : Memᴰ s (run (suc a) c)). let w = run_in_law (suc a) c s r in let z : (a ≤ s) × (s < a + suc c) = (omega arith, omega arith) in z)
    (mathlib.Core.List.Memᴰ.cases_cons m)

slots_inside : (n : ℕ) (bs : List ℕ) (s : ℕ) → Each (λ b. b < n) bs → Memᴰ s (slots bs) → block_of s < n
unfolding slots
slots_inside n [] s h m = absurd (mathlib.Core.List.Memᴰ.not-nil m)
slots_inside n (b ∷ bs) s h m =
    let l : b < n = h b (mathlib.Core.List.Memᴰ.head refl) in
    ⊎_elim (λ (r : Memᴰ s (run (b * 13) 13)). let w = run_in_law (b * 13) 13 s r in let z : s / 13 < n = omega arith in z)
    (λ (r : Memᴰ s (slots bs)). slots_inside n bs s (λ x k. h x (mathlib.Core.List.Memᴰ.tail k)) r)
    (mathlib.Core.List.Memᴰ.append_cases (run (b * 13) 13) m)

in_drop : (xs : List ℕ) (s : ℕ) → Memᴰ s (drop 1 xs) → Memᴰ s xs
in_drop [] s m = m
in_drop (x ∷ xs) s m = mathlib.Core.List.Memᴰ.tail m

pub listed_inside : (n : ℕ) (v : Bytes) (k u s : ℕ) → Searchable n v k u → Memᴰ s (listed v k u) → block_of s < n
listed_inside n v k u s h m = slots_inside n _ s h.inside (in_drop _ s m)

pub place_listed : (n : ℕ) (v : Bytes) (k u : ℕ) (l : Place) → Searchable n v k u → Counted l → Memᴰ (place_number l) (listed v k u)
    → (l.block * 512 + 512 ≤ n * 512) × Readable v (place_number l)
unfolding place
place_listed n v k u l h c m =
    let b : block_of (place_number l) < n = listed_inside n v k u (place_number l) h m in
    (omega (arith, b, c), h.entries (place_number l) m)

pub kids_inside : (n : ℕ) (v : Bytes) (d s : ℕ) → Sane n v → Reached v d → Memᴰ s (kids v d) → block_of s < n
kids_inside n v d s sane r m = listed_inside n v (key v d) (used v d) s (sane d r) (subst (Memᴰ s) (reached_kids v d r) m)

pub reached_inside : (n : ℕ) (v : Bytes) (d : ℕ) → Sane n v → Reached v d → block_of d < n
reached_inside n v d sane top = sane_blocks n v sane
reached_inside n v d sane (below {d = b} r m e) = kids_inside n v b d sane r m

-- Where a path leads: its directory is reached, and an entry that is not the volume is in that directory.
pub record Lands (v : Bytes) (t : Target) : Type 0 where
  pub missing_home : (d : ℕ) → t ≡ missing d → Reached v d
  pub there_home : (d s : ℕ) → t ≡ there d s → Reached v d
  pub there_entry : (d s : ℕ) → t ≡ there d s → (s ≡ volume → ⊥) → Memᴰ s (kids v d)

lands_nowhere : (v : Bytes) → Lands v no_volume × Lands v no_directory
lands_nowhere v = (
  record { missing_home = λ d e. never (cc); there_home = λ d s e. never (cc); there_entry = λ d s e n. never (cc) },
  record { missing_home = λ d e. never (cc); there_home = λ d s e. never (cc); there_entry = λ d s e n. never (cc) },
)

lands_missing : (v : Bytes) (d : ℕ) → Reached v d → Lands v (missing d)
lands_missing v d r =
    record {
      missing_home = λ a e. let q : d ≡ a = cc in subst (Reached v) q r;
      there_home = λ a s e. never (cc);
      there_entry = λ a s e n. never (cc);
    }

lands_there : (v : Bytes) (d s : ℕ) → Reached v d → ((s ≡ volume → ⊥) → Memᴰ s (kids v d)) → Lands v (there d s)
lands_there v d s r m =
    record {
      missing_home = λ a e. never (cc);
      there_home = λ a b e. let q : d ≡ a = cc in subst (Reached v) q r;
      there_entry = λ a b e n. let q : d ≡ a = cc in let w : s ≡ b = cc in
          subst (λ (x : ℕ). Memᴰ b (kids v x)) q (subst (λ (x : ℕ). Memᴰ x (kids v d)) w (m (λ k. n (sym w ∙ k))));
    }

module _ (v p : Bytes) where
  lands_last : (d : ℕ) → Reached v d → (x : Part) (o : Option ℕ) → seek v p x (kids v d) ≡ o → Lands v (last o d)
  unfolding last
  lands_last d r x none e = lands_missing v d r
  lands_last d r x (some s) e = lands_there v d s r (λ n. (seek_some v p x (kids v d) s e).0)

  module _ (d : ℕ) (r : Reached v d) (x y : Part) (ys : List Part) (on : (s : ℕ) → Reached v s → Lands v (along v p s (y ∷ ys))) where
    lands_entry : (s : ℕ) → seek v p x (kids v d) ≡ some s → (b : Bool) → is_directory (sort v s) ≡ b
        → Lands v (elim b [ true ↦ along v p s (y ∷ ys) | false ↦ no_directory ])
    lands_entry s e true i = on s (below r (seek_some v p x (kids v d) s e).0 (directory_is (sort v s) i))
    lands_entry s e false i = (lands_nowhere v).1

    lands_beyond : (o : Option ℕ) → seek v p x (kids v d) ≡ o
        → Lands v (elim o [
          | none ↦ no_directory
          | some s ↦ elim (is_directory (sort v s)) [ true ↦ along v p s (y ∷ ys) | false ↦ no_directory ]
        ])
    lands_beyond none e = (lands_nowhere v).1
    lands_beyond (some s) e = lands_entry s e (is_directory (sort v s)) refl

  along_lands : (x : Part) (xs : List Part) (d : ℕ) → Reached v d → Lands v (along v p d (x ∷ xs))
  unfolding along
  along_lands x [] d r = lands_last d r x (seek v p x (kids v d)) refl
  along_lands x (y ∷ ys) d r = lands_beyond d r x y ys (along_lands y ys) (seek v p x (kids v d)) refl

  below_volume : (xs : List Part) → Lands v (along v p volume xs)
  unfolding along
  below_volume [] = lands_there v volume volume top (λ n. absurd (n refl))
  below_volume (x ∷ xs) = along_lands x xs volume top

  first_lands : (b : Bool) (xs : List Part) → Lands v (elim b [ true ↦ along v p volume xs | false ↦ no_volume ])
  first_lands true xs = below_volume xs
  first_lands false xs = (lands_nowhere v).0

  pub lookup_lands : (xs : List Part) → Lands v (lookup v p xs)
  unfolding lookup
  lookup_lands [] = (lands_nowhere v).0
  lookup_lands (x ∷ xs) = first_lands (same_name v (at volume) p x) xs
