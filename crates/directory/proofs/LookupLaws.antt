-- A lookup goes on name by name, from directory to directory. Assumes nothing.
use Rattle.model.specs.declared.Refusal.TheVariants.{NoDirectory}
use mathlib.Core.Path.{◌≡◌, refl, sym, ap, subst, ◌∙◌}
use mathlib.Core.Bool.{Bool, true, false}
use mathlib.Core.List.{List, [], ◌∷◌, Memᴰ}
use mathlib.Core.Logic.{◌⊎◌, ⊎_elim}
use mathlib.Core.Option.{Option, none, some}
use Rattle.std.specs.Prelude.{Some, None, Ok, Err}
use Prim.Native.Nat.{ℕ, zero, suc, ◌+◌, ◌-◌, ◌≤◌, ◌<◌}
use lib.ListN.{length, take, drop}
use native.Mathlib.Omega.{arith}
use borrow.Author.Tests.{ne_eqb}
use Rattle.model.specs.Bytes.{Bytes, view, ◌and◌}
use Rattle.model.specs.Names.{Part, part, same_name, proper_parts, parts, proper_path}
use Rattle.model.specs.Directory.{at, volume, Sort, inactive, directory, improper, file, sort, is_active, is_directory, field, key, used, chain, slots_below, kids, seek, Target, no_volume, no_directory, last, along, lookup}
use Rattle.model.specs.declared.Place.{Place}
use Rattle.names.specs.declared.Cursor.{Cursor}
use Rattle.names.specs.Steps.{parts_left, step_at, step_end}
use Rattle.names.specs.declared.Step.{Step}
use Rattle.names.specs.declared.Step.TheVariants.{Name, End, Bad}
use Rattle.names.proofs.Laws.{and_left, and_right, within_true}
use Rattle.names.proofs.CursorLaws.{Stepped, stepped_bounds, stepped_left, stepped_proper, left_done, left_more, left_name, left_start}
use Rattle.names.proofs.PartLaws.{same_at}
use Rattle.directory.specs.Slots.{place_number, place_of, kind_of, entry_of}
use Rattle.directory.specs.Search.{Each, Readable, Searchable, listed, Found, found_at, found_in}
use Rattle.directory.specs.Lookup.{Reached, top, below, Sane, home_of, looked_as, last_of, inner_as, inner_of}
use Rattle.directory.specs.declared.Home.{Home}
use Rattle.directory.specs.declared.Looked.TheVariants as looked
use Rattle.directory.proofs.SlotLaws.{never, place_number_law, entry_kind, entry_used, slot_named}
use Rattle.directory.proofs.SearchLaws.{seek_here, seek_past}

-- A slot that a search has found is one of those searched, and active.
module _ (v p : Bytes) (x : Part) where
  some_by : (t : ℕ) (ss : List ℕ) (s : ℕ) (b : Bool) → (is_active (sort v t) and same_name v (at t) p x) ≡ b → seek v p x (t ∷ ss) ≡ some s
      → (seek v p x ss ≡ some s → Memᴰ s ss × (is_active (sort v s) ≡ true)) → Memᴰ s (t ∷ ss) × (is_active (sort v s) ≡ true)
  some_by t ss s true e h go =
      let q : some t ≡ some s = sym (seek_here v p x t ss (and_left _ _ e) (and_right _ _ e)) ∙ h in
      let r : s ≡ t = cc in
      (mathlib.Core.List.Memᴰ.head r, rw r (and_left _ _ e))
  some_by t ss s false e h go =
      let w = go (sym (seek_past v p x t ss e) ∙ h) in
      (mathlib.Core.List.Memᴰ.tail w.0, w.1)

  pub seek_some : (ss : List ℕ) (s : ℕ) → seek v p x ss ≡ some s → Memᴰ s ss × (is_active (sort v s) ≡ true)
  unfolding seek
  seek_some [] s h = never (cc)
  seek_some (t ∷ ss) s h = some_by t ss s (is_active (sort v t) and same_name v (at t) p x) refl h (seek_some ss s)

-- Names that are the same everywhere are found at the same place.
module _ (v p q : Bytes) (x y : Part) (same : (a : ℕ) → same_name v a p x ≡ same_name v a q y) where
  pub seek_cong : (ss : List ℕ) → seek v p x ss ≡ seek v q y ss
  unfolding seek
  seek_cong [] = refl
  seek_cong (s ∷ ss) =
      ap {B = Option ℕ} (λ t. elim (is_active (sort v s) and t) [ true ↦ some s | false ↦ seek v p x ss ]) (same (at s))
      ∙ ap (λ (o : Option ℕ). elim (is_active (sort v s) and same_name v (at s) q y) [ true ↦ some s | false ↦ o ]) (seek_cong ss)

-- a directory that is reached is one
pub reached_directory : (v : Bytes) (d : ℕ) → Reached v d → sort v d ≡ directory
unfolding sort
reached_directory v d top = refl
reached_directory v d (below r m e) = e

pub reached_kids : (v : Bytes) (d : ℕ) → Reached v d → kids v d ≡ listed v (key v d) (used v d)
unfolding slots_below
reached_kids v d r = rw (reached_directory v d r)

-- what an active entry of one of the four kinds is as a middle name
inner_directory : (t : Sort) (k u : ℕ) (l : Place) (h : Home) → is_active t ≡ true → (t ≡ improper → ⊥) → inner_as (kind_of t k) l u ≡ Some h
    → (t ≡ directory) × (h ≡ record { place = l; key = k; used = u })
inner_directory inactive k u l h a i e = never (cc)
inner_directory improper k u l h a i e = absurd (i refl)
inner_directory directory k u l h a i e = (refl, cc)
inner_directory (file zero) k u l h a i e = never (cc)
inner_directory (file (suc zero)) k u l h a i e = never (cc)
inner_directory (file (suc (suc m))) k u l h a i e = never (cc)

inner_other : (t : Sort) (k u : ℕ) (l : Place) → inner_as (kind_of t k) l u ≡ None → is_directory t ≡ false
inner_other inactive k u l e = refl
inner_other improper k u l e = refl
inner_other directory k u l e = never (cc)
inner_other (file m) k u l e = refl

-- One name in the directory d.
module _ (v p : Bytes) (d : ℕ) (r : Reached v d) (good : Each (Readable v) (listed v (key v d) (used v d))) (x : Part) where
  abbrev sought : Option ℕ
  sought = seek v p x (listed v (key v d) (used v d))

  sought_kids : seek v p x (kids v d) ≡ sought
  sought_kids = ap (seek v p x) (reached_kids v d r)

  last_by : (o : Option ℕ) → sought ≡ o → looked_as v (last o d) ≡ Ok (last_of (home_of v d) (found_at v o))
  unfolding last
  last_by none e = refl
  last_by (some s) e = rw (ne_eqb s volume (good s (seek_some v p x _ s e).0).entry, looked_as)

  pub name_last : looked_as v (along v p d (x ∷ [])) ≡ Ok (last_of (home_of v d) (found_at v sought))
  unfolding along
  name_last = ap (λ o. looked_as v (last o d)) sought_kids ∙ last_by sought refl

  module _ (y : Part) (ys : List Part) where
    abbrev beyond : Option ℕ → Target
    beyond o = elim o [
      | none ↦ no_directory
      | some s ↦ elim (is_directory (sort v s)) [ true ↦ along v p s (y ∷ ys) | false ↦ no_directory ]
    ]

    along_beyond : along v p d (x ∷ y ∷ ys) ≡ beyond sought
    unfolding along
    along_beyond = ap beyond sought_kids

    found_kind : (s : ℕ) → sought ≡ some s → inner_of (found_at v (some s)) ≡ inner_as (kind_of (sort v s) (key v s)) (place_of s) (used v s)
    found_kind s e =
        let n = (good s (seek_some v p x _ s e).0).entry in
        ap (λ k. inner_as k (place_of s) (entry_of v (at s)).used) (entry_kind v s n)
        ∙ ap (inner_as (kind_of (sort v s) (key v s)) (place_of s)) (entry_used v s n)

    stop_by : (o : Option ℕ) → sought ≡ o → inner_of (found_at v o) ≡ None → beyond o ≡ no_directory
    stop_by none e h = refl
    stop_by (some s) e h = rw (inner_other (sort v s) (key v s) (used v s) (place_of s) (sym (found_kind s e) ∙ h), beyond)

    pub name_stops : inner_of (found_at v sought) ≡ None → along v p d (x ∷ y ∷ ys) ≡ no_directory
    name_stops h = along_beyond ∙ stop_by sought refl h

    -- the home of the names that follow
    pub record Entered (h : Home) : Type 0 where
      pub reached : Reached v (place_number h.place)
      pub known : h ≡ home_of v (place_number h.place)
      pub same : along v p d (x ∷ y ∷ ys) ≡ along v p (place_number h.place) (y ∷ ys)

    enter_at : (s : ℕ) (h : Home) → sought ≡ some s → sort v s ≡ directory → h ≡ home_of v s → Entered h
    enter_at s h e t k =
        let q : place_number h.place ≡ s = ap (λ w. place_number w.place) k ∙ place_number_law s in
        let m : Memᴰ s (kids v d) = subst (Memᴰ s) (sym (reached_kids v d r)) (seek_some v p x _ s e).0 in
        let b : beyond (some s) ≡ along v p s (y ∷ ys) = rw (t, beyond) in
        record {
          reached = rw q (below r m t);
          known = rw q k;
          same = rw q (along_beyond ∙ ap beyond e ∙ b);
        }

    enter_by : (o : Option ℕ) (h : Home) → sought ≡ o → inner_of (found_at v o) ≡ Some h → Entered h
    enter_by none h e i = never (cc)
    enter_by (some s) h e i =
        let w = seek_some v p x _ s e in
        let q = inner_directory (sort v s) (key v s) (used v s) (place_of s) h w.1 (good s w.0).proper (sym (found_kind s e) ∙ i) in
        enter_at s h e q.0 q.1

    pub name_enters : (h : Home) → inner_of (found_at v sought) ≡ Some h → Entered h
    name_enters h i = enter_by sought h refl i

-- Where proper names are left, a step finds one.
module _ (xs : List ℕ) (a : ℕ) (before : a < length xs) (proper : proper_parts (view xs) (parts_left (view xs) (length xs) a) ≡ true) where
  abbrev first_step : Step
  first_step = Name (a + 1) (step_end (view xs) (length xs) a) (record { at = step_end (view xs) (length xs) a })

  pub no_name : {A : Type 0} (r : Step) → r ≡ step_at (view xs) (length xs) a → (r ≡ End) ⊎ (r ≡ Bad) → A
  no_name r i o =
      let n : r ≡ first_step = i ∙ left_name (view xs) (length xs) a before proper in
      ⊎_elim (λ (e : r ≡ End). never (cc)) (λ (e : r ≡ Bad). never (cc)) o

-- a name that a step has found lies in the path
pub stepped_within : (p : Bytes) (n a s e : ℕ) (c : Cursor) → Stepped p n a s e c → (s ≤ e) × (e ≤ n)
stepped_within p n a s e c q =
    let t = stepped_bounds p n a s e c q in
    let u : s ≡ a + 1 = q.start in
    (omega arith, omega arith)

-- On the way through a path: the names from a on are left, from a home on.
pub record Walking (v : Bytes) (xs : List ℕ) (all : Target) (h : Home) (a : ℕ) : Type 0 where
  pub reached : Reached v (place_number h.place)
  pub known : h ≡ home_of v (place_number h.place)
  pub before : a < length xs
  pub proper : proper_parts (view xs) (parts_left (view xs) (length xs) a) ≡ true
  pub same : all ≡ along v (view xs) (place_number h.place) (parts_left (view xs) (length xs) a)

module _ (n : ℕ) (v : Bytes) (xs : List ℕ) (all : Target) (h : Home) (a : ℕ) (sane : Sane n v) (w : Walking v xs all h a) where
  abbrev home_place : ℕ
  home_place = place_number h.place

  pub walking_searchable : Searchable n v h.key h.used
  walking_searchable =
      subst (λ (g : Home). Searchable n v g.key g.used) (sym w.known) (sane home_place w.reached)

  module _ (s e : ℕ) (c : Cursor) (q : Stepped (view xs) (length xs) a s e c) where
    abbrev name : List ℕ
    name = take (e - s) (drop s xs)

    bounds : (s ≤ e) × (e ≤ length xs)
    bounds = stepped_within (view xs) (length xs) a s e c q

    -- what the search answers, as the definitions have it
    found_known : found_in v name (listed v h.key h.used) ≡ found_at v (seek v (view xs) (part s (e - s)) (listed v (key v home_place) (used v home_place)))
    found_known =
        ap (λ (g : Home). found_in v name (listed v g.key g.used)) w.known
        ∙ ap (found_at v)
        (seek_cong v (view name) (view xs) (part 0 (length name)) (part s (e - s))
        (λ b. same_at v b xs s e bounds.0 bounds.1)
        (listed v (key v home_place) (used v home_place)))

    left : all ≡ along v (view xs) home_place (part s (e - s) ∷ parts_left (view xs) (length xs) e)
    left = w.same ∙ ap (along v (view xs) home_place) (stepped_left (view xs) (length xs) a s e c q)

    entries : Each (Readable v) (listed v (key v home_place) (used v home_place))
    entries = (sane home_place w.reached).entries

    pub turn_last : (f : Found) → f ≡ found_in v name (listed v h.key h.used) → e ≡ length xs → looked_as v all ≡ Ok (last_of h f)
    turn_last f i l =
        ap (looked_as v) (left ∙ ap (λ r. along v (view xs) home_place (part s (e - s) ∷ r)) (left_done (view xs) (length xs) e (omega arith)))
        ∙ name_last v (view xs) home_place w.reached entries (part s (e - s))
        ∙ ap (λ g. Ok (last_of g (found_at v (seek v (view xs) (part s (e - s)) (listed v (key v home_place) (used v home_place)))))) (sym w.known)
        ∙ ap (λ g. Ok (last_of h g)) (sym (i ∙ found_known))

    module _ (more : e < length xs) where
      onward : all ≡ along v (view xs) home_place (part s (e - s) ∷ part (e + 1) (step_end (view xs) (length xs) e - (e + 1)) ∷ parts_left (view xs) (length xs) (step_end (view xs) (length xs) e))
      onward = left ∙ ap (λ r. along v (view xs) home_place (part s (e - s) ∷ r)) (left_more (view xs) (length xs) e more)

      pub turn_stops : (f : Found) → f ≡ found_in v name (listed v h.key h.used) → inner_of f ≡ None → looked_as v all ≡ Err NoDirectory
      turn_stops f i o =
          ap (looked_as v)
          (onward ∙ name_stops v (view xs) home_place w.reached entries (part s (e - s)) _ _ (sym (ap inner_of (i ∙ found_known)) ∙ o))

      pub turn_on : (f : Found) (g : Home) → f ≡ found_in v name (listed v h.key h.used) → inner_of f ≡ Some g → Walking v xs all g e
      turn_on f g i o =
          let t = name_enters v (view xs) home_place w.reached entries (part s (e - s)) _ _ g (sym (ap inner_of (i ∙ found_known)) ∙ o) in
          record {
            reached = t.reached;
            known = t.known;
            before = more;
            proper = sym (stepped_proper (view xs) (length xs) a s e c q) ∙ w.proper;
            same = onward ∙ t.same ∙ ap (along v (view xs) (place_number g.place)) (sym (left_more (view xs) (length xs) e more));
          }

-- The first name of a path, and the volume's header.
pub sane_blocks : (n : ℕ) (v : Bytes) → Sane n v → 2 < n
unfolding field chain
sane_blocks n v sane = (sane volume top).inside 2 (mathlib.Core.List.Memᴰ.head refl)

pub path_before : (xs : List ℕ) → proper_path (view xs) (length xs) ≡ true → 0 < length xs
unfolding proper_path
path_before xs h = (within_true 1 64 (length xs) (and_left _ _ h)).0

pub path_proper : (xs : List ℕ) → proper_path (view xs) (length xs) ≡ true → proper_parts (view xs) (parts_left (view xs) (length xs) 0) ≡ true
unfolding proper_path
path_proper xs h = ap (proper_parts (view xs)) (sym (left_start (view xs) (length xs))) ∙ and_right _ _ h

module _ (img xs : List ℕ) (s e : ℕ) (c : Cursor) (q : Stepped (view xs) (length xs) 0 s e c) where
  name_bounds : (s ≤ e) × (e ≤ length xs)
  name_bounds = stepped_within (view xs) (length xs) 0 s e c q

  first_parts : parts (view xs) (length xs) ≡ part s (e - s) ∷ parts_left (view xs) (length xs) e
  first_parts = left_start (view xs) (length xs) ∙ stepped_left (view xs) (length xs) 0 s e c q

  pub header_same : (name : List ℕ) → name ≡ take (e - s) (drop s xs)
      → same_name (view (take 39 (drop 1028 img))) 0 (view name) (part 0 (length name)) ≡ same_name (view img) (at volume) (view xs) (part s (e - s))
  unfolding at
  header_same name h =
      slot_named img 1028 39 volume refl refl (view name) (part 0 (length name))
      ∙ ap (λ y. same_name (view img) (at volume) (view y) (part 0 (length y))) h
      ∙ same_at (view img) (at volume) xs s e name_bounds.0 name_bounds.1

  pub lookup_other : same_name (view img) (at volume) (view xs) (part s (e - s)) ≡ false → lookup (view img) (view xs) (parts (view xs) (length xs)) ≡ no_volume
  unfolding lookup
  lookup_other h = rw (first_parts, h, lookup)

  pub lookup_names : same_name (view img) (at volume) (view xs) (part s (e - s)) ≡ true
      → lookup (view img) (view xs) (parts (view xs) (length xs)) ≡ along (view img) (view xs) volume (parts_left (view xs) (length xs) e)
  unfolding lookup
  lookup_names h = rw (first_parts, h, lookup)

  pub lookup_volume : same_name (view img) (at volume) (view xs) (part s (e - s)) ≡ true → e ≡ length xs
      → looked_as (view img) (lookup (view img) (view xs) (parts (view xs) (length xs))) ≡ Ok looked.Volume
  unfolding along
  lookup_volume h l =
      ap (looked_as (view img))
      (lookup_names h ∙ ap (along (view img) (view xs) volume) (left_done (view xs) (length xs) e (omega arith)))
