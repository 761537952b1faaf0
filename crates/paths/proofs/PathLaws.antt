-- On a sound volume a path leads to an entry exactly when its names are those along the way to the entry.
use Prim.Native.Nat.{ℕ, ◌+◌, ◌≤◌}
use mathlib.Core.Path.{◌≡◌, refl, ap, ◌∙◌}
use mathlib.Core.List.{List, [], ◌∷◌, map}
use mathlib.Core.Option.{Option, none, some}
use mathlib.Core.Bool.{Bool, true, false}
use native.Mathlib.Omega.{arith}
use Rattle.model.specs.Bytes.{Bytes, sum, count, is}
use Rattle.model.specs.Names.{Part, parts, same_name}
use Rattle.model.specs.Directory.{directory, sort, is_active, is_directory, at, volume, kids, seek, Target, no_volume, no_directory, there, last, along, lookup}
use Rattle.model.specs.Calls.{target}
use Rattle.model.specs.Catalog.{name_text}
use Rattle.model.specs.Sound.{sound}
use Rattle.model.proofs.ByteLaws.{at_or_off}
use Rattle.model.proofs.Laws.Sound.{Sound, sound_facts}
use Rattle.model.proofs.Laws.Facts.{Seen, kid_seen, parent_directory, seen_directory, volume_seen}
use Rattle.model.proofs.Laws.Spelling.{same_bears, bears_alike, twins_two}
use Rattle.model.proofs.Laws.Lookup.{seek_some, seek_none}
use Rattle.model.proofs.Laws.Twice.{passed, passed_from}
use Rattle.paths.specs.Ways.{Way, holder, Names, stored, spelled, path, Spells}
use Rattle.paths.proofs.TextLaws.{same_text_law, text_same}

pub first_name : {x y : List ℕ} {xs ys : Names} → x ∷ xs ≡ y ∷ ys → x ≡ y
first_name e = cc

pub other_names : {x y : List ℕ} {xs ys : Names} → x ∷ xs ≡ y ∷ ys → xs ≡ ys
other_names e = cc

there_both : {d e s t : ℕ} → there d s ≡ there e t → (d ≡ e) × (s ≡ t)
there_both f = (cc, cc)

module _ {n : ℕ} {v : Bytes} (S : Sound n v) (p : Bytes) where
  -- "no two alike in a directory": the entry with a name is the only one, and the one that is found
  pub only_one : (x : Part) (d s t : ℕ) → Seen v d → 1 ≤ count s (kids v d) → is_active (sort v s) ≡ true → same_name v (at s) p x ≡ true
      → 1 ≤ count t (kids v d) → is_active (sort v t) ≡ true → same_name v (at t) p x ≡ true → t ≡ s
  only_one x d s t h c a e c' a' e' =
      let A = same_bears v (at s) p x e in
      let B = same_bears v (at t) p x e' in
      at_or_off t s (λ i. i)
      (λ k. absurd (omega (
        arith,
        twins_two v t s (kids v d) k c' c a' a (bears_alike v (at t) p x (at s) B A) (bears_alike v (at s) p x (at t) A B),
        (seen_directory S d h (parent_directory v d s c)).unlike,
      )))

  pub seek_one : (x : Part) (d s : ℕ) → Seen v d → 1 ≤ count s (kids v d) → is_active (sort v s) ≡ true → same_name v (at s) p x ≡ true
      → seek v p x (kids v d) ≡ some s
  seek_one x d s h c a e = go (seek v p x (kids v d)) refl
    where
      go : (o : Option ℕ) → seek v p x (kids v d) ≡ o → o ≡ some s
      go none f = absurd (seek_none v p x (kids v d) f s c a e)
      go (some t) f = let r = seek_some v p x (kids v d) t f in ap some (only_one x d s t h c a e r.0 r.1 r.2)

  along_step : (x y : Part) (r : List Part) (d s : ℕ) → seek v p x (kids v d) ≡ some s → sort v s ≡ directory
      → along v p d (x ∷ y ∷ r) ≡ along v p s (y ∷ r)
  unfolding along
  along_step x y r d s e f = rw (e, f, along) refl

  -- Where names are those along a way, they lead to its end.
  way_along : (ps : List Part) (xs : List ℕ) (d s : ℕ) → Seen v d → Way v d xs s → stored v xs ≡ map (spelled p) ps
      → along v p d ps ≡ there (holder d xs) s
  way_along [] [] d s h w e = unfold along holder in ap (there d) w
  way_along [] (x ∷ xs) d s h w e = let z : ◌≡◌ {A = ℕ} 0 1 = cc in absurd (omega arith)
  way_along (y ∷ ps) [] d s h w e = let z : ◌≡◌ {A = ℕ} 0 1 = cc in absurd (omega arith)
  way_along (y ∷ []) (x ∷ []) d s h w e =
      let f = seek_one y d x h w.0 w.1 (text_same v x p y (first_name e)) in
      unfold along holder last in rw f (ap (there d) w.2)
  way_along (y ∷ []) (x ∷ x' ∷ xs) d s h w e = let z : ◌≡◌ {A = ℕ} 0 1 = cc in absurd (omega arith)
  way_along (y ∷ y' ∷ ps) (x ∷ []) d s h w e = let z : ◌≡◌ {A = ℕ} 0 1 = cc in absurd (omega arith)
  way_along (y ∷ y' ∷ ps) (x ∷ x' ∷ xs) d s h w e =
      let f = seek_one y d x h w.0 w.1 (text_same v x p y (first_name e)) in
      along_step y y' ps d x f (parent_directory v x x' w.2.0)
      ∙ way_along (y' ∷ ps) (x' ∷ xs) x s (kid_seen S d x h (parent_directory v d x w.0) w.0) w.2 (other_names e)
      ∙ unfold holder in refl

  -- Where names lead to an entry, they are those along a way to it.
  abbrev Along : List Part → ℕ → ℕ → ℕ → Type 0
  Along ps d e s = (xs : List ℕ) × Way v d xs s × (stored v xs ≡ map (spelled p) ps) × (holder d xs ≡ e)

  held : (d t : ℕ) (xs : List ℕ) (y : Part) (r : List Part) → stored v xs ≡ map (spelled p) (y ∷ r) → holder d (t ∷ xs) ≡ holder t xs
  held d t [] y r e = let z : ◌≡◌ {A = ℕ} 0 1 = cc in absurd (omega arith)
  held d t (x ∷ xs) y r e = unfold holder in refl

  along_way : (ps : List Part) (d e s : ℕ) → Seen v d → along v p d ps ≡ there e s → Along ps d e s
  unfolding last
  along_way [] d e s h f = let g : there d d ≡ there e s = unfold along in f in let r = there_both g in ([], r.1, refl, unfold holder in r.0)
  along_way (x ∷ []) d e s h f = go (seek v p x (kids v d)) refl (unfold along in f)
    where
      go : (o : Option ℕ) → seek v p x (kids v d) ≡ o → last o d ≡ there e s → Along (x ∷ []) d e s
      go none g i = let z : ◌≡◌ {A = ℕ} 0 1 = cc in absurd (omega arith)
      go (some t) g i =
          let c = seek_some v p x (kids v d) t g in
          let r = there_both i in
          (t ∷ [], (c.0, c.1, r.1), ap (λ y. y ∷ []) (same_text_law v t p x c.2), unfold holder in r.0)
  along_way (x ∷ y ∷ r) d e s h f = go (seek v p x (kids v d)) refl (unfold along in f) (along_way (y ∷ r))
    where
      go : (o : Option ℕ) → seek v p x (kids v d) ≡ o
          → ◌≡◌ {A = Target} (elim o [
            | none ↦ no_directory
            | some t ↦ elim (is_directory (sort v t)) [ true ↦ along v p t (y ∷ r) | false ↦ no_directory ]
          ]) (there e s)
          → ((d e s : ℕ) → Seen v d → along v p d (y ∷ r) ≡ there e s → Along (y ∷ r) d e s)
          → Along (x ∷ y ∷ r) d e s
      go none g i rec = let z : ◌≡◌ {A = ℕ} 0 1 = cc in absurd (omega arith)
      go (some t) g i rec = into (is_directory (sort v t)) refl i
        where
          into : (b : Bool) → is_directory (sort v t) ≡ b
              → ◌≡◌ {A = Target} (elim b [ true ↦ along v p t (y ∷ r) | false ↦ no_directory ]) (there e s)
              → Along (x ∷ y ∷ r) d e s
          into false j l = let z : ◌≡◌ {A = ℕ} 0 1 = cc in absurd (omega arith)
          into true j l =
              let c = seek_some v p x (kids v d) t g in
              let R = rec t e s (kid_seen S d t h (parent_directory v d t c.0) c.0) l in
              let names : name_text v t ∷ stored v R.0 ≡ spelled p x ∷ map (spelled p) (y ∷ r) =
              λ i. same_text_law v t p x c.2 i ∷ R.2 i in
              (t ∷ R.0, (c.0, c.1, R.1), names, held d t R.0 y r R.2 ∙ R.3)

  lookup_way : (ps : List Part) (d s : ℕ) → lookup v p ps ≡ there d s
      → (xs : List ℕ) × Way v volume xs s × (path v xs ≡ map (spelled p) ps) × (holder volume xs ≡ d)
  lookup_way [] d s e = let z : ◌≡◌ {A = ℕ} 0 1 = unfold lookup in cc in absurd (omega arith)
  lookup_way (x ∷ r) d s e = go (same_name v (at volume) p x) refl (unfold lookup in e)
    where
      go : (b : Bool) → same_name v (at volume) p x ≡ b → ◌≡◌ {A = Target} (elim b [ true ↦ along v p volume r | false ↦ no_volume ]) (there d s)
          → (xs : List ℕ) × Way v volume xs s × (path v xs ≡ spelled p x ∷ map (spelled p) r) × (holder volume xs ≡ d)
      go false f g = let z : ◌≡◌ {A = ℕ} 0 1 = cc in absurd (omega arith)
      go true f g =
          let R = along_way r volume d s (volume_seen S) g in
          (R.0, R.1, λ i. same_text_law v volume p x f i ∷ R.2 i, R.3)

  way_lookup : (ps : List Part) (xs : List ℕ) (s : ℕ) → Way v volume xs s → path v xs ≡ map (spelled p) ps
      → lookup v p ps ≡ there (holder volume xs) s
  way_lookup [] xs s w e = let z : ◌≡◌ {A = ℕ} 0 1 = cc in absurd (omega arith)
  way_lookup (x ∷ r) xs s w e =
      unfold lookup in
      rw (text_same v volume p x (first_name e), lookup) (way_along r xs volume s (volume_seen S) w (other_names e))

  -- What is on such a way the path passes, but for its end.
  passed_step : (x y : Part) (r : List Part) (d s : ℕ) → seek v p x (kids v d) ≡ some s → sort v s ≡ directory
      → passed_from v p d (x ∷ y ∷ r) ≡ d ∷ passed_from v p s (y ∷ r)
  unfolding passed_from
  passed_step x y r d s e f = rw (e, f, passed_from) refl

  way_passed : (ps : List Part) (xs : List ℕ) (d s : ℕ) → Seen v d → Way v d xs s → stored v xs ≡ map (spelled p) ps
      → (a : ℕ) → count a (d ∷ xs) ≤ count a (passed_from v p d ps) + is a s
  unfolding sum
  way_passed [] [] d s h w e a = unfold passed_from in omega arith
  way_passed [] (x ∷ xs) d s h w e a = let z : ◌≡◌ {A = ℕ} 0 1 = cc in absurd (omega arith)
  way_passed (y ∷ ps) [] d s h w e a = let z : ◌≡◌ {A = ℕ} 0 1 = cc in absurd (omega arith)
  way_passed (y ∷ []) (x ∷ []) d s h w e a = unfold passed_from in omega (arith, ap (is a) w.2)
  way_passed (y ∷ []) (x ∷ x' ∷ xs) d s h w e a = let z : ◌≡◌ {A = ℕ} 0 1 = cc in absurd (omega arith)
  way_passed (y ∷ y' ∷ ps) (x ∷ []) d s h w e a = let z : ◌≡◌ {A = ℕ} 0 1 = cc in absurd (omega arith)
  way_passed (y ∷ y' ∷ ps) (x ∷ x' ∷ xs) d s h w e a =
      let f = seek_one y d x h w.0 w.1 (text_same v x p y (first_name e)) in
      let r = way_passed (y' ∷ ps) (x' ∷ xs) x s (kid_seen S d x h (parent_directory v d x w.0) w.0) w.2 (other_names e) a in
      rw (passed_step y y' ps d x f (parent_directory v x x' w.2.0)) (omega (arith, r))

  lookup_passed : (ps : List Part) (xs : List ℕ) (s : ℕ) → Way v volume xs s → path v xs ≡ map (spelled p) ps
      → (a : ℕ) → count a (volume ∷ xs) ≤ count a (passed v p ps) + is a s
  lookup_passed [] xs s w e a = let z : ◌≡◌ {A = ℕ} 0 1 = cc in absurd (omega arith)
  lookup_passed (x ∷ r) xs s w e a =
      unfold passed in
      rw (text_same v volume p x (first_name e), passed) (way_passed r xs volume s (volume_seen S) w (other_names e) a)

-- "The path of an entry": the names along the way to it.
pub path_spells : (n : ℕ) (v : Bytes) → sound n v ≡ true → (p : Bytes) (k d s : ℕ) → target v p k ≡ there d s → Spells v p k d s
path_spells n v S p k d s e =
    let R = lookup_way (sound_facts n v S) p (parts p k) d s e in
    record { places = R.0; way = R.1; names = R.2; held = R.3 }

pub spells_path : (n : ℕ) (v : Bytes) → sound n v ≡ true → (p : Bytes) (k d s : ℕ) → Spells v p k d s → target v p k ≡ there d s
spells_path n v S p k d s W =
    way_lookup (sound_facts n v S) p (parts p k) W.places s W.way W.names ∙ ap (λ e. there e s) W.held

pub spells_passed : (n : ℕ) (v : Bytes) → sound n v ≡ true → (p : Bytes) (k d s : ℕ) (W : Spells v p k d s)
    → (a : ℕ) → count a (volume ∷ W.places) ≤ count a (passed v p (parts p k)) + is a s
spells_passed n v S p k d s W = lookup_passed (sound_facts n v S) p (parts p k) W.places s W.way W.names
