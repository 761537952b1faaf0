-- Where a path leads on a sound volume, how deep that is, and what a call that is not refused knows of it.
use Prim.Native.Nat.{ℕ, zero, suc, ◌+◌, ◌-◌, ◌*◌, ◌≤◌, ◌<◌}
use mathlib.Core.Path.{◌≡◌, refl, sym, ◌∙◌}
use mathlib.Core.List.{List, [], ◌∷◌}
use mathlib.Core.Option.{Option, none, some}
use mathlib.Core.Bool.{Bool, true, false, not, false≢true}
use lib.Dec.{ltb, eqb}
use lib.ListN.{length}
use native.Mathlib.Omega.{arith}
use borrow.Author.Tests.{eqb-true, eqb-false, ltb-true}
use Rattle.model.specs.Bytes.{Bytes, sum, count, is, ◌and◌}
use Rattle.model.specs.Names.{Part, part, slash, name_most, path_most, name_end, parts_from, parts, proper_name, proper_parts, proper_path, same_name}
use Rattle.model.specs.Directory.{Sort, inactive, directory, improper, file, sort, is_active, is_directory, at, volume, kids, seek, Target, no_volume, no_directory, missing, there, last, along, lookup}
use Rattle.model.specs.Refusals.{Row, row, first}
use Rattle.model.specs.Calls.{is_no_volume, is_no_directory, is_missing, is_there, home, spot, target, last_part}
use Rattle.model.proofs.ByteLaws.{place_upto}
use Rattle.model.proofs.RefusalLaws.{first_applies, first_passes}
use Rattle.model.proofs.SumLaws.{is_self}
use Rattle.model.proofs.Laws.Grow.{Way, here, way_step}
use Rattle.model.proofs.TestLaws.{and_left, and_right}
use Rattle.model.proofs.Laws.Sound.{top, Sound}
use Rattle.model.proofs.Laws.Facts.{Seen, kid_seen, volume_seen, volume_directory}
use Rattle.model.proofs.Laws.One.{Place, place}
use Rattle.model.proofs.Laws.Spelling.{within_is}

-- A row of a call that is not refused does not apply.
pub first_zero : (r : Row) (rs : List Row) → first (r ∷ rs) ≡ 0 → (r.number ≡ 0 → ⊥) → (r.applies ≡ false) × (first rs ≡ 0)
first_zero r rs e n = go r.applies refl
  where
    go : (b : Bool) → r.applies ≡ b → (b ≡ false) × (first rs ≡ 0)
    go true f = absurd (n (sym (first_applies r rs f) ∙ e))
    go false f = (refl, sym (first_passes r rs f) ∙ e)

-- all rows at once, by their place in the table
abbrev pub nth : List Row → ℕ → Row
nth [] i = row false 0
nth (r ∷ rs) zero = r
nth (r ∷ rs) (suc i) = nth rs i

abbrev pub numbered : List Row → Bool
numbered [] = true
numbered (r ∷ rs) = elim (eqb r.number 0) [ true ↦ false | false ↦ numbered rs ]

pub rows_off : (rs : List Row) → first rs ≡ 0 → numbered rs ≡ true → (i : ℕ) → (nth rs i).applies ≡ false
rows_off [] e n i = refl
rows_off (r ∷ rs) e n i = go (eqb r.number 0) refl n i (rows_off rs)
  where
    go : (b : Bool) → eqb r.number 0 ≡ b → ◌≡◌ {A = Bool} (elim b [ true ↦ false | false ↦ numbered rs ]) true → (i : ℕ)
        → (first rs ≡ 0 → numbered rs ≡ true → (i : ℕ) → (nth rs i).applies ≡ false) → (nth (r ∷ rs) i).applies ≡ false
    go true f g i h = absurd (false≢true g)
    go false f g zero h = (first_zero r rs e (eqb-false r.number 0 f)).0
    go false f g (suc i) h = h (first_zero r rs e (eqb-false r.number 0 f)).1 g i

pub not_false : (b : Bool) → not b ≡ false → b ≡ true
not_false true e = refl
not_false false e = absurd (false≢true (sym e))

-- The first entry with a name.
pub seek_some : (v p : Bytes) (x : Part) (ss : List ℕ) (s : ℕ) → seek v p x ss ≡ some s
    → (1 ≤ count s ss) × (is_active (sort v s) ≡ true) × (same_name v (at s) p x ≡ true)
unfolding seek sum
seek_some v p x [] s e = let z : ◌≡◌ {A = ℕ} 0 1 = cc in absurd (omega arith)
seek_some v p x (y ∷ ss) s e = go (is_active (sort v y) and same_name v (at y) p x) refl e (seek_some v p x ss s)
  where
    go : (b : Bool) → (is_active (sort v y) and same_name v (at y) p x) ≡ b → elim b as (λ _. Option ℕ) [ true ↦ some y | false ↦ seek v p x ss ] ≡ some s
        → (seek v p x ss ≡ some s → (1 ≤ count s ss) × (is_active (sort v s) ≡ true) × (same_name v (at s) p x ≡ true))
        → (1 ≤ is s y + count s ss) × (is_active (sort v s) ≡ true) × (same_name v (at s) p x ≡ true)
    go true f g r = let i : y ≡ s = cc in rw (← i) (omega (arith, is_self y), and_left _ _ f, and_right _ _ f)
    go false f g r = let h = r g in (omega (arith, h.0), h.1, h.2)

pub seek_none : (v p : Bytes) (x : Part) (ss : List ℕ) → seek v p x ss ≡ none → (s : ℕ) → 1 ≤ count s ss → is_active (sort v s) ≡ true
    → same_name v (at s) p x ≡ true → ⊥
unfolding seek sum ◌and◌
seek_none v p x [] e s c a n = omega arith
seek_none v p x (y ∷ ss) e s c a n = go (eqb s y) refl (is_active (sort v y) and same_name v (at y) p x) refl e (seek_none v p x ss)
  where
    go : (b : Bool) → eqb s y ≡ b → (t : Bool) → (is_active (sort v y) and same_name v (at y) p x) ≡ t
        → ◌≡◌ {A = Option ℕ} (elim t [ true ↦ some y | false ↦ seek v p x ss ]) none
        → (seek v p x ss ≡ none → (s : ℕ) → 1 ≤ count s ss → is_active (sort v s) ≡ true → same_name v (at s) p x ≡ true → ⊥) → ⊥
    go b f true g h r = let z : ◌≡◌ {A = ℕ} 0 1 = cc in omega arith
    go true f false g h r = false≢true (sym g ∙ rw (← eqb-true s y f, a, n) refl)
    go false f false g h r = r h s (omega (arith, sum_tail)) a n
      where
        sum_tail : is s y ≡ 0
        sum_tail = rw f refl

-- A directory on the walk, k steps below the volume.
pub record Home (v : Bytes) (d k : ℕ) : Type 0 where
  pub seen : Seen v d
  pub holds : sort v d ≡ directory
  pub way : Way (kids v) d top k
  pub up : (d ≡ volume → ⊥) → (q : ℕ) × Place v d q

-- What a path leads to: y is its last name, and c names follow its first.
pub data Led (v p : Bytes) (y : Part) (c : ℕ) : Target → Type 0 where
  no_volume_led : Led v p y c no_volume
  no_directory_led : Led v p y c no_directory
  not_there : (d k : ℕ) → Home v d k → k + 1 ≡ c → seek v p y (kids v d) ≡ none → Led v p y c (missing d)
  is_there_law : (d k s : ℕ) → Home v d k → k + 1 ≡ c → seek v p y (kids v d) ≡ some s → Led v p y c (there d s)
  is_volume : Led v p y c (there volume volume)

pub directory_is : (K : Sort) → is_directory K ≡ true → K ≡ directory
directory_is inactive e = absurd (false≢true e)
directory_is directory e = refl
directory_is improper e = absurd (false≢true e)
directory_is (file h) e = absurd (false≢true e)

module _ {n : ℕ} {v : Bytes} (S : Sound n v) (p : Bytes) where
  along_led : (r : List Part) (x : Part) (d k : ℕ) → Home v d k → Led v p (last_part (x ∷ r)) (k + length (x ∷ r)) (along v p d (x ∷ r))
  unfolding along last last_part
  along_led [] x d k H = go (seek v p x (kids v d)) refl
    where
      go : (o : Option ℕ) → seek v p x (kids v d) ≡ o → Led v p x (k + 1) (last o d)
      go none e = not_there d k H refl e
      go (some s) e = is_there_law d k s H refl e
  along_led (y ∷ r) x d k H = go (seek v p x (kids v d)) refl (along_led r y)
    where
      go : (o : Option ℕ) → seek v p x (kids v d) ≡ o
          → ((d k : ℕ) → Home v d k → Led v p (last_part (y ∷ r)) (k + length (y ∷ r)) (along v p d (y ∷ r)))
          → Led v p (last_part (y ∷ r)) (k + suc (length (y ∷ r)))
          (elim o [ none ↦ no_directory | some s ↦ elim (is_directory (sort v s)) [ true ↦ along v p s (y ∷ r) | false ↦ no_directory ] ])
      go none e f = no_directory_led
      go (some s) e f = into (is_directory (sort v s)) refl
        where
          into : (b : Bool) → is_directory (sort v s) ≡ b
              → Led v p (last_part (y ∷ r)) (k + suc (length (y ∷ r))) (elim b [ true ↦ along v p s (y ∷ r) | false ↦ no_directory ])
          into false g = no_directory_led
          into true g =
              let c = (seek_some v p x (kids v d) s e).0 in
              let i : suc k + length (y ∷ r) ≡ k + suc (length (y ∷ r)) = omega arith in
              rw (← i)
              (f s (suc k)
              (record {
                seen = kid_seen S d s H.seen H.holds c;
                holds = directory_is (sort v s) g;
                way = way_step (kids v) s d H.way c;
                up = λ _. (d, place s d S H.seen H.holds c);
              }))

  volume_home : Home v volume 0
  unfolding sum
  volume_home = record { seen = volume_seen S; holds = volume_directory S; way = here {ss = top} (omega arith); up = λ z. absurd (z refl) }

  lookup_led : (ps : List Part) → Led v p (last_part ps) (length ps - 1) (lookup v p ps)
  unfolding lookup along last_part
  lookup_led [] = no_volume_led
  lookup_led (x ∷ []) = go (same_name v (at volume) p x)
    where
      go : (b : Bool) → Led v p x 0 (elim b [ true ↦ there volume volume | false ↦ no_volume ])
      go true = is_volume
      go false = no_volume_led
  lookup_led (x ∷ y ∷ r) = go (same_name v (at volume) p x)
    where
      go : (b : Bool) → Led v p (last_part (y ∷ r)) (length (x ∷ y ∷ r) - 1) (elim b [ true ↦ along v p volume (y ∷ r) | false ↦ no_volume ])
      go true = let i : 0 + length (y ∷ r) ≡ length (x ∷ y ∷ r) - 1 = omega arith in rw (← i) (along_led r y volume 0 volume_home)
      go false = no_volume_led

  pub target_led : (k : ℕ) → Led v p (last_part (parts p k)) (length (parts p k) - 1) (target v p k)
  target_led k = lookup_led (parts p k)

-- "A path has 1 to 64 bytes": and so at most 32 names.
proper_first : (p : Bytes) (x : Part) (xs : List Part) → proper_parts p (x ∷ xs) ≡ true
    → (proper_name p x.start x.size ≡ true) × (proper_parts p xs ≡ true)
unfolding proper_parts
proper_first p x xs e = go (eqb (p (x.start - 1)) slash and proper_name p x.start x.size) refl e
  where
    go : (b : Bool) → (eqb (p (x.start - 1)) slash and proper_name p x.start x.size) ≡ b
        → elim b as (λ _. Bool) [ true ↦ proper_parts p xs | false ↦ false ] ≡ true → (proper_name p x.start x.size ≡ true) × (proper_parts p xs ≡ true)
    go true f g = (and_right _ _ f, g)
    go false f g = absurd (false≢true g)

pub name_some : (p : Bytes) (a k : ℕ) → proper_name p a k ≡ true → (1 ≤ k) × (k ≤ name_most)
unfolding proper_name
name_some p a k e = within_is 1 name_most k (and_left _ _ e)

pub name_size_law : (p : Bytes) (a k : ℕ) → proper_name p a k ≡ true → k < 16
name_size_law p a k e = omega (arith, (name_some p a k e).1)

parts_most : (p : Bytes) (n a k : ℕ) → a ≤ n → proper_parts p (parts_from p n a k) ≡ true → 2 * length (parts_from p n a k) + a ≤ n
unfolding parts_from
parts_most p n a zero l e = omega arith
parts_most p n a (suc k) l e = go (ltb a n) refl e (parts_most p n (name_end p (a + 1) (n - (a + 1))) k)
  where
    go : (b : Bool) → ltb a n ≡ b
        → proper_parts p (elim b [
          | true ↦ part (a + 1) (name_end p (a + 1) (n - (a + 1)) - (a + 1)) ∷ parts_from p n (name_end p (a + 1) (n - (a + 1))) k
          | false ↦ []
        ]) ≡ true
        → (name_end p (a + 1) (n - (a + 1)) ≤ n → proper_parts p (parts_from p n (name_end p (a + 1) (n - (a + 1))) k) ≡ true
        → 2 * length (parts_from p n (name_end p (a + 1) (n - (a + 1))) k) + name_end p (a + 1) (n - (a + 1)) ≤ n)
        → 2 * length {A = Part} (elim b [
          | true ↦ part (a + 1) (name_end p (a + 1) (n - (a + 1)) - (a + 1)) ∷ parts_from p n (name_end p (a + 1) (n - (a + 1))) k
          | false ↦ []
        ]) + a ≤ n
    go true f g r =
        let h = proper_first p _ _ g in
        let t = ltb-true a n f in
        let m = place_upto p slash (a + 1) (n - (a + 1)) in
        let q = (name_some p _ _ h.0).0 in
        let i = r (omega arith) h.1 in
        omega arith
    go false f g r = omega arith

pub path_short : (p : Bytes) (k : ℕ) → proper_path p k ≡ true → 2 * length (parts p k) ≤ 64
unfolding proper_path parts
path_short p k e = omega (arith, (within_is 1 path_most k (and_left _ _ e)).1, parts_most p k 0 k (omega arith) (and_right _ _ e))

last_proper : (p : Bytes) (ps : List Part) → proper_parts p ps ≡ true → 1 ≤ length ps
    → proper_name p (last_part ps).start (last_part ps).size ≡ true
unfolding last_part
last_proper p [] e h = absurd (omega arith)
last_proper p (x ∷ []) e h = (proper_first p x [] e).0
last_proper p (x ∷ y ∷ r) e h = last_proper p (y ∷ r) (proper_first p x (y ∷ r) e).1 (omega arith)

pub path_last : (p : Bytes) (k : ℕ) → proper_path p k ≡ true → 1 ≤ length (parts p k)
    → proper_name p (last_part (parts p k)).start (last_part (parts p k)).size ≡ true
unfolding proper_path
path_last p k e h = last_proper p (parts p k) (and_right _ _ e) h

-- An entry that a path leads to.
pub record Entry (v p : Bytes) (y : Part) (d s : ℕ) : Type 0 where
  pub spot : Place v s d
  pub alive : is_active (sort v s) ≡ true
  pub found : seek v p y (kids v d) ≡ some s

pub entry_led : {n : ℕ} {v : Bytes} {p : Bytes} {y : Part} {c : ℕ} {t : Target} → Sound n v → Led v p y c t
    → is_no_volume t ≡ false → is_no_directory t ≡ false → is_missing t ≡ false → (spot t ≡ volume → ⊥) → Entry v p y (home t) (spot t)
unfolding is_no_volume is_no_directory is_missing spot home
entry_led S no_volume_led e f g z = absurd (false≢true (sym e))
entry_led S no_directory_led e f g z = absurd (false≢true (sym f))
entry_led S (not_there d k H i j) e f g z = absurd (false≢true (sym g))
entry_led {v = v} {p} {y} S (is_there_law d k s H i j) e f g z =
    let r = seek_some v p y (kids v d) s j in
    record { spot = place s d S H.seen H.holds r.0; alive = r.1; found = j }
entry_led S is_volume e f g z = absurd (z refl)

-- A directory in which a name is missing, with a level left below its entries.
pub record Open (v p : Bytes) (y : Part) (c d : ℕ) : Type 0 where
  pub steps : ℕ
  pub home : Home v d steps
  pub depth : steps + 1 ≡ c
  pub lacks : seek v p y (kids v d) ≡ none

pub open_led : {v : Bytes} {p : Bytes} {y : Part} {c : ℕ} {t : Target} → Led v p y c t
    → is_no_volume t ≡ false → is_no_directory t ≡ false → is_there t ≡ false → Open v p y c (home t)
unfolding is_no_volume is_no_directory is_there home
open_led no_volume_led e f g = absurd (false≢true (sym e))
open_led no_directory_led e f g = absurd (false≢true (sym f))
open_led (not_there d k H i j) e f g = record { steps = k; home = H; depth = i; lacks = j }
open_led (is_there_law d k s H i j) e f g = absurd (false≢true (sym g))
open_led is_volume e f g = absurd (false≢true (sym g))
