-- A path on a sound volume leads along slots that the walk meets.
use Prim.Native.Nat.{ℕ, zero, suc, ◌≤◌}
use mathlib.Core.Path.{◌≡◌, refl}
use mathlib.Core.List.{List, [], ◌∷◌}
use mathlib.Core.Option.{Option, none, some}
use mathlib.Core.Bool.{Bool, true, false}
use native.Mathlib.Omega.{arith}
use Rattle.model.specs.Bytes.{Bytes, ◌and◌}
use Rattle.model.specs.Names.{Part, same_name}
use Rattle.model.specs.Directory.{volume, kids, at, directory, sort, is_active, is_directory, seek, last, along, lookup, Target, no_volume, no_directory}
use Rattle.model.specs.Sound.{sound}
use Rattle.model.proofs.Laws.Lookup.{directory_is}
use Rattle.claims.proofs.TestLaws.{and_true}
use Rattle.facts.specs.Reached.{Among, here, later, Met, top, down, Led, led_nowhere, led_astray, led_missing, led_there}
use Rattle.facts.proofs.BlockLaws.{met_directory}

pub seek_among : (v p : Bytes) (x : Part) (ss : List ℕ) (s : ℕ) → seek v p x ss ≡ some s → Among s ss
unfolding seek
seek_among v p x [] s e = let z : ◌≡◌ {A = ℕ} 0 1 = cc in absurd (omega arith)
seek_among v p x (t ∷ ss) s e = go (is_active (sort v t) and same_name v (at t) p x) e (seek_among v p x ss s)
  where
    go : (b : Bool) → elim b as (λ _. Option ℕ) [ true ↦ some t | false ↦ seek v p x ss ] ≡ some s → (seek v p x ss ≡ some s → Among s ss) → Among s (t ∷ ss)
    go true q r = let z : t ≡ s = cc in rw z here
    go false q r = later (r q)

pub seek_active : (v p : Bytes) (x : Part) (ss : List ℕ) (s : ℕ) → seek v p x ss ≡ some s → is_active (sort v s) ≡ true
unfolding seek
seek_active v p x [] s e = let z : ◌≡◌ {A = ℕ} 0 1 = cc in absurd (omega arith)
seek_active v p x (t ∷ ss) s e = go (is_active (sort v t) and same_name v (at t) p x) refl e (seek_active v p x ss s)
  where
    go : (b : Bool) → is_active (sort v t) and same_name v (at t) p x ≡ b → elim b as (λ _. Option ℕ) [ true ↦ some t | false ↦ seek v p x ss ] ≡ some s → (seek v p x ss ≡ some s → is_active (sort v s) ≡ true) → is_active (sort v s) ≡ true
    go true h q r = let z : t ≡ s = cc in rw (← z) ((and_true (is_active (sort v t)) (same_name v (at t) p x)).0 h).0
    go false h q r = r q

pub volume_directory : (v : Bytes) → sort v volume ≡ directory
unfolding sort
volume_directory v = refl

-- an entry of a directory that is met is met
pub met_kid : (n : ℕ) {l e d s : ℕ} {v : Bytes} → sound n v ≡ true → Met v l e d → sort v d ≡ directory → Among s (kids v d) → (k : ℕ) × Met v k d s
met_kid n {l} {e} {d} {s} {v} h m o a = go l m (met_directory h m o).level
  where
    go : (l : ℕ) → Met v l e d → 1 ≤ l → (k : ℕ) × Met v k d s
    go zero m z = absurd (omega arith)
    go (suc l) m z = (l, down m a)

along_led : (n : ℕ) (v p : Bytes) (l e d : ℕ) (x : Part) (xs : List Part) → sound n v ≡ true → Met v l e d → sort v d ≡ directory → Led v (along v p d (x ∷ xs))
unfolding along last
along_led n v p l e d x [] h m o = go (seek v p x (kids v d)) refl
  where
    go : (r : Option ℕ) → seek v p x (kids v d) ≡ r → Led v (last r d)
    go none q = led_missing m o
    go (some s) q = led_there m o (met_kid n h m o (seek_among v p x (kids v d) s q)).1 (seek_active v p x (kids v d) s q)
along_led n v p l e d x (y ∷ r) h m o = go (seek v p x (kids v d)) refl (λ k s. along_led n v p k d s y r h)
  where
    step : (s : ℕ) → Among s (kids v d) → ((k s : ℕ) → Met v k d s → sort v s ≡ directory → Led v (along v p s (y ∷ r))) → (b : Bool) → is_directory (sort v s) ≡ b → Led v (elim b as (λ _. Target) [ true ↦ along v p s (y ∷ r) | false ↦ no_directory ])
    step s a f true q = let k = met_kid n h m o a in f k.0 s k.1 (directory_is (sort v s) q)
    step s a f false q = led_astray

    go : (t : Option ℕ) → seek v p x (kids v d) ≡ t → ((k s : ℕ) → Met v k d s → sort v s ≡ directory → Led v (along v p s (y ∷ r))) → Led v (elim t as (λ _. Target) [ none ↦ no_directory | some s ↦ elim (is_directory (sort v s)) [ true ↦ along v p s (y ∷ r) | false ↦ no_directory ] ])
    go none q f = led_astray
    go (some s) q f = step s (seek_among v p x (kids v d) s q) f (is_directory (sort v s)) refl

pub lookup_led : (n : ℕ) (v p : Bytes) (xs : List Part) → sound n v ≡ true → Led v (lookup v p xs)
unfolding lookup along
lookup_led n v p [] h = led_nowhere
lookup_led n v p (x ∷ xs) h = go (same_name v (at volume) p x) xs
  where
    rest : (xs : List Part) → Led v (along v p volume xs)
    rest [] = led_there top (volume_directory v) top (rw (volume_directory v) refl)
    rest (y ∷ ys) = along_led n v p _ _ volume y ys h top (volume_directory v)

    go : (b : Bool) (xs : List Part) → Led v (elim b as (λ _. Target) [ true ↦ along v p volume xs | false ↦ no_volume ])
    go true xs = rest xs
    go false xs = led_nowhere
