-- The way of a path: the directories that its names lead through, from the volume to the one that its last name is looked up in.
use Prim.Native.Nat.{ℕ, suc, ◌+◌, ◌-◌, ◌≤◌}
use mathlib.Core.Path.{◌≡◌, refl, sym, ap, ◌∙◌}
use mathlib.Core.List.{List, [], ◌∷◌}
use mathlib.Core.Option.{Option, none, some}
use mathlib.Core.Bool.{Bool, true, false, false≢true}
use lib.ListN.{length}
use native.Mathlib.Omega.{arith}
use Rattle.model.specs.Bytes.{Bytes, count}
use Rattle.model.specs.Names.{Part, same_name}
use Rattle.model.specs.Directory.{directory, sort, is_active, is_directory, at, volume, kids, seek, Target, no_volume, no_directory, missing, there, last, along, lookup}
use Rattle.model.specs.Calls.{is_no_volume, is_no_directory, is_missing, is_there, home, spot, last_part}
use Rattle.model.proofs.Laws.Sound.{Sound}
use Rattle.model.proofs.Laws.Facts.{Seen, kid_seen, kid_proper, one_parent, volume_seen, volume_directory}
use Rattle.model.proofs.Laws.Lookup.{directory_is, seek_some}
use Rattle.paths.proofs.PathLaws.{seek_one}
use Rattle.theorems.proofs.Spelled.{Spelled, AlikeNames, Names, alike_names_law}

-- A slot k steps below the volume.
pub data At (v : Bytes) : ℕ → ℕ → Type 0 where
  start : {s : ℕ} → s ≡ volume → At v s 0
  under : {d s k : ℕ} → At v d k → sort v d ≡ directory → 1 ≤ count s (kids v d) → At v s (suc k)

pub at_seen : {n : ℕ} {v : Bytes} {s k : ℕ} → Sound n v → At v s k → Seen v s
at_seen S (start e) = rw e (volume_seen S)
at_seen S (under {d} {s} a e c) = kid_seen S d s (at_seen S a) e c

-- and so at no other depth
pub at_depth : {n : ℕ} {v : Bytes} {s k j : ℕ} → Sound n v → At v s k → At v s j → k ≡ j
at_depth S (start e) (start f) = refl
at_depth S (start e) (under {d} {s} a f c) = absurd (kid_proper S d s (at_seen S a) c e)
at_depth S (under {d} {s} a f c) (start e) = absurd (kid_proper S d s (at_seen S a) c e)
at_depth {v = v} S (under {d} {s} a e c) (under {d = d'} b f g) =
    let i : d' ≡ d = one_parent S d' d s (at_seen S b) (at_seen S a) g c in
    ap suc (at_depth S a (rw i at b))

-- A name that no entry has.
pub seek_no : (v p : Bytes) (x : Part) (ss : List ℕ)
    → ((u : ℕ) → 1 ≤ count u ss → is_active (sort v u) ≡ true → same_name v (at u) p x ≡ true → ⊥) → seek v p x ss ≡ none
seek_no v p x ss lacks = go (seek v p x ss) refl
  where
    go : (o : Option ℕ) → seek v p x ss ≡ o → o ≡ none
    go none e = refl
    go (some u) e = let r = seek_some v p x ss u e in absurd (lacks u r.0 r.1 r.2)

-- From the directory e the names ps lead to the directory d, in which the last of them, y, is looked up.
pub data Leads (v p : Bytes) : ℕ → List Part → ℕ → Part → Type 0 where
  arrived : {d e : ℕ} {y : Part} → e ≡ d → Leads v p e (y ∷ []) d y
  onward : {e t d : ℕ} {x x' y : Part} {xs : List Part} → 1 ≤ count t (kids v e) → sort v t ≡ directory → same_name v (at t) p x ≡ true
      → Leads v p t (x' ∷ xs) d y → Leads v p e (x ∷ x' ∷ xs) d y

-- what is asked of the way's end
leads_at : {n : ℕ} {v p : Bytes} {e d k : ℕ} {y : Part} {ps : List Part} → Sound n v → At v e k → sort v e ≡ directory → Leads v p e ps d y
    → At v d (k + length ps - 1) × (sort v d ≡ directory)
leads_at {v = v} {k = k} S a h (arrived e) = let i : k + 1 - 1 ≡ k = omega arith in rw (← e, i) (a, h)
leads_at {k = k} S a h (onward {e} {t} {d} {x} {x'} {y} {xs} c f m L) =
    let i : suc k + length (x' ∷ xs) - 1 ≡ k + length (x ∷ x' ∷ xs) - 1 = omega arith in
    rw (← i) (leads_at S (under a h c) f L)

leads_along : {n : ℕ} {v p : Bytes} {e d : ℕ} {y : Part} {ps : List Part} → Sound n v → Seen v e → sort v e ≡ directory → Leads v p e ps d y
    → along v p e ps ≡ last (seek v p y (kids v d)) d
unfolding along
leads_along S s h (arrived e) = rw e refl
leads_along {v = v} {p} S s h (onward {e} {t} {d} {x} {x'} {y} {xs} c f m L) =
    let r = leads_along S (kid_seen S e t s h c) f L in
    rw (seek_one S p x e t s c (rw f refl) m, along) (rw (f, along) r)

along_leads : (v p : Bytes) (e : ℕ) (x : Part) (xs : List Part) → is_no_directory (along v p e (x ∷ xs)) ≡ false
    → Leads v p e (x ∷ xs) (home (along v p e (x ∷ xs))) (last_part (x ∷ xs))
unfolding along last is_no_directory home last_part
along_leads v p e x [] f = arrived (go (seek v p x (kids v e)))
  where
    go : (o : Option ℕ) → e ≡ home (last o e)
    go none = refl
    go (some s) = refl
along_leads v p e x (y ∷ r) f = go (seek v p x (kids v e)) refl f (λ s g. along_leads v p s y r g)
  where
    Deep : Option ℕ → Target
    Deep o = elim o [ none ↦ no_directory | some s ↦ elim (is_directory (sort v s)) [ true ↦ along v p s (y ∷ r) | false ↦ no_directory ] ]

    go : (o : Option ℕ) → seek v p x (kids v e) ≡ o → is_no_directory (Deep o) ≡ false
        → ((s : ℕ) → is_no_directory (along v p s (y ∷ r)) ≡ false → Leads v p s (y ∷ r) (home (along v p s (y ∷ r))) (last_part (y ∷ r)))
        → Leads v p e (x ∷ y ∷ r) (home (Deep o)) (last_part (y ∷ r))
    go none g f rec = absurd (false≢true (sym f))
    go (some s) g f rec = into (is_directory (sort v s)) refl f
      where
        into : (b : Bool) → is_directory (sort v s) ≡ b → is_no_directory (elim b [ true ↦ along v p s (y ∷ r) | false ↦ no_directory ]) ≡ false
            → Leads v p e (x ∷ y ∷ r) (home (elim b [ true ↦ along v p s (y ∷ r) | false ↦ no_directory ])) (last_part (y ∷ r))
        into true i f =
            let q = seek_some v p x (kids v e) s g in
            onward q.0 (directory_is (sort v s) i) q.2 (rec s f)
        into false i f = absurd (false≢true (sym f))

-- The whole path: its first name is the volume's.
pub data Reaches (v p : Bytes) : List Part → ℕ → Part → Type 0 where
  reached : {x x' y : Part} {xs : List Part} {d : ℕ} → same_name v (at volume) p x ≡ true → Leads v p volume (x' ∷ xs) d y
      → Reaches v p (x ∷ x' ∷ xs) d y

reaches_two : (v p : Bytes) (x y : Part) (r : List Part) → is_no_volume (lookup v p (x ∷ y ∷ r)) ≡ false → is_no_directory (lookup v p (x ∷ y ∷ r)) ≡ false
    → Reaches v p (x ∷ y ∷ r) (home (lookup v p (x ∷ y ∷ r))) (last_part (x ∷ y ∷ r))
unfolding lookup is_no_volume last_part
reaches_two v p x y r e f = go (same_name v (at volume) p x) refl e f
  where
    go : (b : Bool) → same_name v (at volume) p x ≡ b → is_no_volume (elim b [ true ↦ along v p volume (y ∷ r) | false ↦ no_volume ]) ≡ false
        → is_no_directory (elim b [ true ↦ along v p volume (y ∷ r) | false ↦ no_volume ]) ≡ false
        → Reaches v p (x ∷ y ∷ r) (home (elim b [ true ↦ along v p volume (y ∷ r) | false ↦ no_volume ])) (last_part (y ∷ r))
    go true h e f = reached h (along_leads v p volume y r f)
    go false h e f = absurd (false≢true (sym e))

pub path_reaches : (v p : Bytes) (ps : List Part) → is_no_volume (lookup v p ps) ≡ false → is_no_directory (lookup v p ps) ≡ false
    → (lookup v p ps ≡ there volume volume → ⊥) → Reaches v p ps (home (lookup v p ps)) (last_part ps)
unfolding lookup is_no_volume last_part
path_reaches v p [] e f g = absurd (false≢true (sym e))
path_reaches v p (x ∷ []) e f g = absurd (go (same_name v (at volume) p x) e g)
  where
    go : (b : Bool) → is_no_volume (elim b [ true ↦ along v p volume [] | false ↦ no_volume ]) ≡ false
        → (elim b [ true ↦ along v p volume [] | false ↦ no_volume ] ≡ there volume volume → ⊥) → ⊥
    go true e g = g (unfold along in refl)
    go false e g = false≢true (sym e)
path_reaches v p (x ∷ y ∷ r) e f g = reaches_two v p x y r e f

pub reaches_at : {n : ℕ} {v p : Bytes} {ps : List Part} {d : ℕ} {y : Part} → Sound n v → Reaches v p ps d y
    → At v d (length ps - 2) × (sort v d ≡ directory)
reaches_at S (reached {x} {x'} {xs = xs} m L) =
    let i : 0 + length (x' ∷ xs) - 1 ≡ length (x ∷ x' ∷ xs) - 2 = omega arith in
    rw (← i) (leads_at S (start refl) (volume_directory S) L)

pub reaches_lookup : {n : ℕ} {v p : Bytes} {ps : List Part} {d : ℕ} {y : Part} → Sound n v → Reaches v p ps d y
    → lookup v p ps ≡ last (seek v p y (kids v d)) d
unfolding lookup
reaches_lookup S (reached m L) = rw (m, lookup) (leads_along S (volume_seen S) (volume_directory S) L)

pub reaches_found : {n : ℕ} {v p : Bytes} {ps : List Part} {d : ℕ} {y : Part} → Sound n v → Reaches v p ps d y → (s : ℕ) → 1 ≤ count s (kids v d)
    → is_active (sort v s) ≡ true → same_name v (at s) p y ≡ true → lookup v p ps ≡ there d s
reaches_found {p = p} {d = d} {y} S R s c f m =
    let A = reaches_at S R in
    reaches_lookup S R ∙ rw (seek_one S p y d s (at_seen S A.0) c f m) (unfold last in refl)

pub reaches_names : {v p q : Bytes} {ps qs : List Part} {d : ℕ} {y : Part} → Reaches v p ps d y → AlikeNames p q ps qs
    → Names p q (λ x y. Spelled p x q y) ps qs
reaches_names (reached m L) N = alike_names_law N

-- a target whose kind is known
pub is_there_law : (t : Target) → is_no_volume t ≡ false → is_no_directory t ≡ false → is_missing t ≡ false → t ≡ there (home t) (spot t)
unfolding is_no_volume is_no_directory is_missing home spot
is_there_law no_volume e f g = absurd (false≢true (sym e))
is_there_law no_directory e f g = absurd (false≢true (sym f))
is_there_law (missing d) e f g = absurd (false≢true (sym g))
is_there_law (there d s) e f g = refl

pub is_missing_law : (t : Target) → is_no_volume t ≡ false → is_no_directory t ≡ false → is_there t ≡ false → t ≡ missing (home t)
unfolding is_no_volume is_no_directory is_there home
is_missing_law no_volume e f g = absurd (false≢true (sym e))
is_missing_law no_directory e f g = absurd (false≢true (sym f))
is_missing_law (missing d) e f g = refl
is_missing_law (there d s) e f g = absurd (false≢true (sym g))
