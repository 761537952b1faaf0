-- Where names and places of entries stay, every path leads where it led.
use Prim.Native.Nat.{ℕ, ◌≤◌}
use mathlib.Core.Path.{◌≡◌, refl, ap}
use mathlib.Core.List.{List, [], ◌∷◌}
use mathlib.Core.Option.{Option, none, some}
use mathlib.Core.Bool.{Bool, true, false}
use native.Mathlib.Omega.{arith}
use Rattle.model.specs.Bytes.{Bytes, sum, count, ◌and◌}
use Rattle.model.specs.Names.{Part, parts}
use Rattle.model.specs.Directory.{directory, sort, is_active, is_directory, at, volume, kids, seek, Target, no_volume, no_directory, last, along, lookup}
use Rattle.model.specs.Calls.{target}
use Rattle.model.proofs.SumLaws.{is_self}
use Rattle.model.proofs.Laws.Sound.{Sound}
use Rattle.model.proofs.Laws.Facts.{Seen, kid_seen, volume_seen, volume_directory}
use Rattle.model.proofs.Laws.Lookup.{directory_is, seek_some}
use Rattle.model.proofs.Laws.Near.{Near, same_near}

-- An entry keeps its name, and is a directory, another active entry or none, as it was.
pub record SameEntry (v v' : Bytes) (s : ℕ) : Type 0 where
  pub alive : is_active (sort v' s) ≡ is_active (sort v s)
  pub folder : is_directory (sort v' s) ≡ is_directory (sort v s)
  pub near : Near v v' (at s)

pub record SameNames (v v' : Bytes) : Type 0 where
  pub slots : (d : ℕ) → Seen v d → sort v d ≡ directory → kids v' d ≡ kids v d
  pub entry : (d s : ℕ) → Seen v d → 1 ≤ count s (kids v d) → SameEntry v v' s
  pub top : Near v v' (at volume)

pub names_self : (v : Bytes) → SameNames v v
names_self v =
    let near : (a : ℕ) → Near v v a = λ a. record { sized = refl; rest = λ i l. refl } in
    record {
      slots = λ d h e. refl;
      entry = λ d s h c. record { alive = refl; folder = refl; near = near (at s) };
      top = near (at volume);
    }

seek_same : (v v' p : Bytes) (x : Part) (ss : List ℕ) → ((s : ℕ) → 1 ≤ count s ss → SameEntry v v' s) → seek v' p x ss ≡ seek v p x ss
unfolding seek sum
seek_same v v' p x [] f = refl
seek_same v v' p x (s ∷ ss) f =
    let E = f s (omega (arith, is_self s)) in
    let r = seek_same v v' p x ss (λ t c. f t (omega arith)) in
    let n = same_near p x E.near in
    λ i. elim (E.alive i and n i) [ true ↦ some s | false ↦ r i ]

module _ {n : ℕ} {v : Bytes} (S : Sound n v) {v' : Bytes} (N : SameNames v v') (p : Bytes) where
  found : (x : Part) (d : ℕ) → Seen v d → sort v d ≡ directory → seek v' p x (kids v' d) ≡ seek v p x (kids v d)
  found x d h e = rw (N.slots d h e) (seek_same v v' p x (kids v d) (λ s c. N.entry d s h c))

  along_same : (ps : List Part) (d : ℕ) → Seen v d → sort v d ≡ directory → along v' p d ps ≡ along v p d ps
  unfolding along
  along_same [] d h e = refl
  along_same (x ∷ []) d h e = ap (λ o. last o d) (found x d h e)
  along_same (x ∷ y ∷ r) d h e = go (seek v p x (kids v d)) refl (found x d h e) (along_same (y ∷ r))
    where
      next : Bytes → Option ℕ → Target
      next w o =
          elim o [
            | none ↦ no_directory
            | some s ↦ elim (is_directory (sort w s)) [ true ↦ along w p s (y ∷ r) | false ↦ no_directory ]
          ]

      go : (o : Option ℕ) → seek v p x (kids v d) ≡ o → seek v' p x (kids v' d) ≡ seek v p x (kids v d)
          → ((s : ℕ) → Seen v s → sort v s ≡ directory → along v' p s (y ∷ r) ≡ along v p s (y ∷ r))
          → next v' (seek v' p x (kids v' d)) ≡ next v (seek v p x (kids v d))
      go none f g rec = rw (g, f) refl
      go (some s) f g rec =
          let c = (seek_some v p x (kids v d) s f).0 in
          rw (g, f) (into s (kid_seen S d s h e c) (N.entry d s h c).folder (is_directory (sort v s)) refl (rec s))
        where
          into : (s : ℕ) → Seen v s → is_directory (sort v' s) ≡ is_directory (sort v s) → (b : Bool) → is_directory (sort v s) ≡ b
              → (Seen v s → sort v s ≡ directory → along v' p s (y ∷ r) ≡ along v p s (y ∷ r))
              → next v' (some s) ≡ next v (some s)
          into s k i true j rec = rw (i, j, next) (rec k (directory_is (sort v s) j))
          into s k i false j rec = rw (i, j, next) refl

  lookup_same : (ps : List Part) → lookup v' p ps ≡ lookup v p ps
  unfolding lookup
  lookup_same [] = refl
  lookup_same (x ∷ r) =
      let n = same_near p x N.top in
      let t = along_same r volume (volume_seen S) (volume_directory S) in
      λ i. elim (n i) [ true ↦ t i | false ↦ no_volume ]

  pub target_same : (k : ℕ) → target v' p k ≡ target v p k
  target_same k = lookup_same (parts p k)
