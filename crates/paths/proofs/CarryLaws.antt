-- What carries ways from one image to another: each entry on a way stays in its directory and active, and has the name that f says.
use Prim.Native.Nat.{ℕ, ◌≤◌}
use mathlib.Core.Path.{◌≡◌, refl, sym, ap, ◌∙◌}
use mathlib.Core.List.{List, [], ◌∷◌, map}
use mathlib.Core.Bool.{Bool, true, false}
use lib.Dec.{eqb}
use native.Mathlib.Omega.{arith}
use borrow.Author.Tests.{eqb-true, eq-eqb, ne_eqb}
use Rattle.model.specs.Bytes.{Bytes, sum, count, is}
use Rattle.model.specs.Directory.{sort, is_active, at, volume, volume_block, kids}
use Rattle.model.specs.Catalog.{name_text}
use Rattle.model.proofs.ByteLaws.{at_or_off}
use Rattle.model.proofs.SumLaws.{is_self}
use Rattle.model.proofs.Laws.Sound.{Sound}
use Rattle.model.proofs.Laws.Keep.{head_name, kids_same}
use Rattle.model.proofs.Laws.Facts.{Seen, kid_seen, parent_directory, volume_seen}
use Rattle.model.proofs.Laws.One.{Step, one_volume, one_keeps, one_entry}
use Rattle.model.proofs.Laws.Near.{Near, named_near}
use Rattle.model.proofs.Laws.Paths.{SameNames}
use Rattle.paths.specs.Ways.{Way, stored, path, replaced, WaysStay}
use Rattle.paths.proofs.TextLaws.{near_text}

-- the entries that are gone are on no way that is carried
pub record Carries (v v' : Bytes) (gone : ℕ → Type 0) (f : ℕ → List ℕ) : Type 0 where
  pub entry : (x y : ℕ) → Seen v x → 1 ≤ count y (kids v x) → is_active (sort v y) ≡ true → (gone y → ⊥)
      → (1 ≤ count y (kids v' x)) × (is_active (sort v' y) ≡ true) × (name_text v' y ≡ f y)
  pub top : name_text v' volume ≡ f volume

pub carried : {n : ℕ} {v v' : Bytes} {gone : ℕ → Type 0} {f : ℕ → List ℕ} → Sound n v → Carries v v' gone f
    → (xs : List ℕ) (d s : ℕ) → Seen v d → Way v d xs s → ((y : ℕ) → 1 ≤ count y xs → gone y → ⊥)
    → Way v' d xs s × (stored v' xs ≡ map f xs)
carried S C [] d s h w g = (w, refl)
carried {v = v} S C (x ∷ xs) d s h w g =
    let E = C.entry d x h w.0 w.1 (g x (unfold sum in omega (arith, is_self x))) in
    let R = carried S C xs x s (kid_seen S d x h (parent_directory v d x w.0) w.0) w.2 (λ y c. g y (unfold sum in omega arith)) in
    ((E.0, E.1, R.0), λ i. E.2 i ∷ R.1 i)

pub carried_path : {n : ℕ} {v v' : Bytes} {gone : ℕ → Type 0} {f : ℕ → List ℕ} → Sound n v → Carries v v' gone f
    → (xs : List ℕ) (s : ℕ) → Way v volume xs s → ((y : ℕ) → 1 ≤ count y xs → gone y → ⊥)
    → Way v' volume xs s × (path v' xs ≡ map f (volume ∷ xs))
carried_path S C xs s w g = let R = carried S C xs volume s (volume_seen S) w g in (R.0, λ i. C.top i ∷ R.1 i)

pub stay : {n : ℕ} {v w : Bytes} → Sound n v → Carries v w (λ _. ⊥) (name_text v) → WaysStay v w
stay S C xs s way = carried_path S C xs s way (λ y c e. e)

-- Where one entry a of a directory d changes, and what is asked of a itself.
pub step_top : {n : ℕ} {v v' : Bytes} {a d : ℕ} → Step n v v' a d → Near v v' (at volume)
step_top {v = v} {v'} T = named_near (unfold at in head_name v v' volume_block (one_volume T))

module _ {n : ℕ} {v v' : Bytes} {a d : ℕ} {gone : ℕ → Type 0} {f : ℕ → List ℕ} (T : Step n v v' a d)
    (below : (y : ℕ) → 1 ≤ count y (kids v a) → is_active (sort v y) ≡ true → 1 ≤ count y (kids v' a))
    (here : is_active (sort v a) ≡ true → (gone a → ⊥) → (is_active (sort v' a) ≡ true) × (name_text v' a ≡ f a))
    (named : (y : ℕ) → (y ≡ a → ⊥) → f y ≡ name_text v y) where
  pub step_carries : Carries v v' gone f
  step_carries =
      record {
        entry = λ x y h c e g. (inside x y h c e, (still x y h c e g).0, (still x y h c e g).1);
        top = near_text volume (step_top T) ∙ sym (named volume (λ e. T.spot.proper (sym e)));
      }
    where
      inside : (x y : ℕ) → Seen v x → 1 ≤ count y (kids v x) → is_active (sort v y) ≡ true → 1 ≤ count y (kids v' x)
      inside x y h c e =
          at_or_off x a (λ i. rw i (below y (rw i at c) e)) (λ k. rw (kids_same v v' x (one_keeps T x h k)) c)

      still : (x y : ℕ) → Seen v x → 1 ≤ count y (kids v x) → is_active (sort v y) ≡ true → (gone y → ⊥)
          → (is_active (sort v' y) ≡ true) × (name_text v' y ≡ f y)
      still x y h c e g =
          at_or_off y a (λ i. rw i (here (rw i at e) (rw i at g)))
          (λ k. let r = one_entry T x y h c k in (rw r.0 e, near_text y (named_near r.1) ∙ sym (named y k)))

-- Where all names and places stay.
pub names_carry : {v v' : Bytes} → SameNames v v' → Carries v v' (λ _. ⊥) (name_text v)
names_carry {v} N =
    record {
      entry = λ x y h c e _.
          let E = N.entry x y h c in
          (rw (N.slots x h (parent_directory v x y c)) c, E.alive ∙ e, near_text y E.near);
      top = near_text volume N.top;
    }

-- the names of places where a has another
unfoldable pub renamed_at : Bytes → ℕ → List ℕ → ℕ → List ℕ
renamed_at v a q x = elim (eqb x a) [ true ↦ q | false ↦ name_text v x ]

pub given_name : (v : Bytes) (a : ℕ) (q : List ℕ) → renamed_at v a q a ≡ q
unfolding renamed_at
given_name v a q = rw (eq-eqb a a refl, renamed_at) refl

pub other_name : (v : Bytes) (a : ℕ) (q : List ℕ) (y : ℕ) → (y ≡ a → ⊥) → renamed_at v a q y ≡ name_text v y
unfolding renamed_at
other_name v a q y k = rw (ne_eqb y a k, renamed_at) refl

pub renamed_all : (v : Bytes) (a : ℕ) (q : List ℕ) (xs : List ℕ) → map (renamed_at v a q) xs ≡ replaced a q xs (stored v xs)
unfolding replaced renamed_at
renamed_all v a q [] = refl
renamed_all v a q (x ∷ xs) = ap (λ r. elim (eqb x a) [ true ↦ q | false ↦ name_text v x ] ∷ r) (renamed_all v a q xs)

-- a place that is not among them
pub replaced_off : (a : ℕ) (q : List ℕ) (v : Bytes) (xs : List ℕ) → count a xs ≡ 0 → replaced a q xs (stored v xs) ≡ stored v xs
unfolding replaced sum
replaced_off a q v [] e = refl
replaced_off a q v (x ∷ xs) e = go (eqb x a) refl (replaced_off a q v xs (omega arith))
  where
    go : (b : Bool) → eqb x a ≡ b → replaced a q xs (stored v xs) ≡ stored v xs
        → (elim b [ true ↦ q | false ↦ name_text v x ]) ∷ replaced a q xs (stored v xs) ≡ name_text v x ∷ stored v xs
    go true f r = absurd (omega (arith, is_self a, ap (is a) (eqb-true x a f)))
    go false f r = ap (λ t. name_text v x ∷ t) r
