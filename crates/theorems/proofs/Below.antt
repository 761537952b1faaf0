-- Where a set of directories keeps its slots, and their entries stay as they are under their names, all names lead on from there as before.
use Prim.Native.Nat.{ℕ, ◌≤◌}
use mathlib.Core.Path.{◌≡◌, refl, ap, ◌∙◌}
use mathlib.Core.List.{List, [], ◌∷◌}
use mathlib.Core.Option.{Option, none, some}
use mathlib.Core.Bool.{true, false}
use native.Mathlib.Omega.{arith}
use Rattle.model.specs.Bytes.{Bytes, sum, count, ◌and◌}
use Rattle.model.specs.Names.{Part, same_name}
use Rattle.model.specs.Directory.{Sort, inactive, directory, improper, file, sort, is_active, is_directory, at, kids, seek, Target, no_directory, last, along}
use Rattle.model.proofs.SumLaws.{is_self}
use Rattle.model.proofs.Laws.Near.{Near, same_near}
use Rattle.model.proofs.Laws.Lookup.{seek_some}
use Rattle.theorems.proofs.Spelled.{Spelled, same_spelled, AlikeNames, none_left, one_more}

-- the directories of `In`, which has all that is below one of them
pub record Still (v w : Bytes) (In : ℕ → Type 0) : Type 0 where
  pub slots : (d : ℕ) → In d → sort v d ≡ directory → kids w d ≡ kids v d
  pub entry : (d s : ℕ) → In d → sort v d ≡ directory → 1 ≤ count s (kids v d) → (sort w s ≡ sort v s) × Near v w (at s) × In s

module _ {v w : Bytes} {In : ℕ → Type 0} (K : Still v w In) (o q : Bytes) where
  seek_same : {x y : Part} → Spelled o x q y → (ss : List ℕ) → ((s : ℕ) → 1 ≤ count s ss → (sort w s ≡ sort v s) × Near v w (at s))
      → seek w q y ss ≡ seek v o x ss
  unfolding seek sum
  seek_same E [] f = refl
  seek_same {x} {y} E (s ∷ ss) f =
      let A = f s (omega (arith, is_self s)) in
      let alive : is_active (sort w s) ≡ is_active (sort v s) = ap is_active A.0 in
      let name : same_name w (at s) q y ≡ same_name v (at s) o x = same_near q y A.1 ∙ same_spelled v (at s) E in
      let r = seek_same E ss (λ t c. f t (omega arith)) in
      λ i. elim (alive i and name i) [ true ↦ some s | false ↦ r i ]

  found_same : {x y : Part} → Spelled o x q y → (d : ℕ) → In d → sort v d ≡ directory → seek w q y (kids w d) ≡ seek v o x (kids v d)
  found_same E d h e =
      rw (K.slots d h e) (seek_same E (kids v d) (λ s c. let A = K.entry d s h e c in (A.0, A.1)))

  pub along_same : {ps qs : List Part} → AlikeNames o q ps qs → (d : ℕ) → In d → sort v d ≡ directory → along w q d qs ≡ along v o d ps
  unfolding along
  along_same none_left d h e = refl
  along_same (one_more E none_left) d h e = ap (λ x. last x d) (found_same E d h e)
  along_same (one_more {x} E (one_more {x = y} {y = y'} {xs = r} {ys = r'} F N)) d h e =
      go (seek v o x (kids v d)) refl (found_same E d h e) (along_same (one_more F N))
    where
      next : Bytes → Bytes → List Part → Option ℕ → Target
      next u p ps x =
          elim x [
            | none ↦ no_directory
            | some s ↦ elim (is_directory (sort u s)) [ true ↦ along u p s ps | false ↦ no_directory ]
          ]

      go : {f : Option ℕ} (u : Option ℕ) → seek v o x (kids v d) ≡ u → f ≡ seek v o x (kids v d)
          → ((s : ℕ) → In s → sort v s ≡ directory → along w q s (y' ∷ r') ≡ along v o s (y ∷ r))
          → next w q (y' ∷ r') f ≡ next v o (y ∷ r) (seek v o x (kids v d))
      go none f g rec = rw (g, f) refl
      go (some s) f g rec = let A = K.entry d s h e (seek_some v o x (kids v d) s f).0 in rw (g, f) (into A.0 A.2 (sort v s) refl)
        where
          into : sort w s ≡ sort v s → In s → (T : Sort) → sort v s ≡ T → next w q (y' ∷ r') (some s) ≡ next v o (y ∷ r) (some s)
          into a b inactive i = rw (a, i, next) refl
          into a b directory i = rw (a, i, next) (rec s b i)
          into a b improper i = rw (a, i, next) refl
          into a b (file t) i = rw (a, i, next) refl
