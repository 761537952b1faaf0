-- What calls keep of the paths whose last name is looked up in the directory d: where the way to d stays they lead there as before; and what the last
-- name is after a change of one entry.
use Prim.Native.Nat.{ℕ, suc, ◌+◌, ◌≤◌}
use mathlib.Core.Path.{◌≡◌, refl, sym, ◌∙◌}
use mathlib.Core.List.{List, [], ◌∷◌}
use mathlib.Core.Bool.{true}
use lib.ListN.{length}
use native.Mathlib.Omega.{arith}
use Rattle.model.specs.Bytes.{Bytes, sum, count}
use Rattle.model.specs.Names.{Part, same_name}
use Rattle.model.specs.Directory.{directory, sort, is_active, at, volume, kids, missing, there, last, lookup}
use Rattle.model.specs.Catalog.{name_text}
use Rattle.model.proofs.ByteLaws.{at_or_off}
use Rattle.model.proofs.BitLaws.{is_no}
use Rattle.model.proofs.Laws.Sound.{Sound}
use Rattle.model.proofs.Laws.Facts.{parent_directory}
use Rattle.model.proofs.Laws.Keep.{kids_same}
use Rattle.model.proofs.Laws.Near.{Near, named_near, same_near}
use Rattle.model.proofs.Laws.One.{Step, one_keeps, one_entry, one_apart}
use Rattle.model.proofs.Laws.Spelling.{same_bears, bears_same}
use Rattle.paths.specs.Ways.{Way, stored, WayStays}
use Rattle.paths.proofs.TextLaws.{same_text_law, text_same}
use Rattle.paths.proofs.PathLaws.{first_name, other_names, only_one}
use Rattle.theorems.proofs.Spelled.{Spelled, spelled_sym, spelled_bears, spelled_text, Names, at_last, before}
use Rattle.theorems.proofs.Ways.{At, at_depth, seek_no, Leads, Reaches, reaches_lookup, reaches_found, start, under, arrived, onward, reached}

pub near_same : {v w p q : Bytes} {a : ℕ} {x y : Part} → Near v w a → Spelled p x q y → same_name v a p x ≡ true → same_name w a q y ≡ true
near_same {v} {w} {p} {q} {a} {x} {y} N E m = bears_same w a q y (spelled_bears E (same_bears w a p x (same_near p x N ∙ m)))

near_back : {v w p q : Bytes} {a : ℕ} {x y : Part} → Near v w a → Spelled p x q y → same_name w a q y ≡ true → same_name v a p x ≡ true
near_back {v} {w} {p} {q} {a} {x} {y} N E m =
    bears_same v a p x (spelled_bears (spelled_sym E) (same_bears v a q y (sym (same_near q y N) ∙ m)))

-- The way from e to d: where it stays, with the names along it, the names qs of q lead along it. Of the last name y and the last of qs L holds.
record Onto (v q : Bytes) (L : Part → Part → Type 0) (e : ℕ) (qs : List Part) (d : ℕ) (y : Part) : Type 0 where
  places : List ℕ
  way : Way v e places d
  end : Part
  ended : L y end
  leads : (w : Bytes) → Way w e places d → stored w places ≡ stored v places → sort w d ≡ directory → Leads w q e qs d end

way_directory : (w : Bytes) (t d : ℕ) (xs : List ℕ) → Way w t xs d → sort w d ≡ directory → sort w t ≡ directory
way_directory w t d [] W h = rw W h
way_directory w t d (x ∷ xs) W h = parent_directory w t x W.0

still_same : (v w : Bytes) (t : ℕ) {p q : Bytes} {x y : Part} → name_text w t ≡ name_text v t → same_name v (at t) p x ≡ true → Spelled p x q y
    → same_name w (at t) q y ≡ true
still_same v w t {p} {q} {x} {y} i m E = text_same w t q y (i ∙ same_text_law v t p x m ∙ spelled_text E)

module _ {v p q : Bytes} {L : Part → Part → Type 0} where
  leads_onto : {e d : ℕ} {y : Part} {ps qs : List Part} → Leads v p e ps d y → Names p q L ps qs → Onto v q L e qs d y
  leads_onto (arrived e) (at_last {y = z} l) = record { places = []; way = e; end = z; ended = l; leads = λ w W _ _. arrived W }
  leads_onto (onward {e} {t} {d} c f m W) (before E N) =
      let A = leads_onto W N in
      record {
        places = t ∷ A.places;
        way = (c, rw f refl, A.way);
        end = A.end;
        ended = A.ended;
        leads = λ w K i h.
            onward K.0 (way_directory w t d A.places K.2 h) (still_same v w t (first_name i) m E) (A.leads w K.2 (other_names i) h);
      }

  pub carried : {w : Bytes} {d : ℕ} {y : Part} {ps qs : List Part} → Reaches v p ps d y → Names p q L ps qs
      → ((xs : List ℕ) → Way v volume xs d → WayStays v w xs d) → sort w d ≡ directory → (z : Part) × Reaches w q qs d z × L y z
  carried {w} (reached m W) (before E N) stays h =
      let A = leads_onto W N in
      let K = stays A.places A.way in
      (A.end, reached (still_same v w volume (first_name K.1) m E) (A.leads w K.0 (other_names K.1) h), A.ended)

-- An entry of d is on no way to d.
module _ {v : Bytes} where
  way_at : {d s k : ℕ} → At v d k → (xs : List ℕ) → Way v d xs s → At v s (k + length xs)
  way_at {k = k} A [] W = let i : k + 0 ≡ k = omega arith in rw (← W, i) A
  way_at {d} {k = k} A (x ∷ xs) W =
      let i : suc k + length xs ≡ k + suc (length xs) = omega arith in
      rw (← i) (way_at (under A (parent_directory v d x W.0) W.0) xs W.2)

  way_depth : {d k : ℕ} → At v d k → (s : ℕ) (xs : List ℕ) → Way v d xs s → (a : ℕ) → 1 ≤ count a xs → (j : ℕ) × At v a j × (j ≤ k + length xs)
  unfolding sum
  way_depth A s [] W a c = absurd (omega arith)
  way_depth {d} {k} A s (x ∷ xs) W a c =
      let B = under A (parent_directory v d x W.0) W.0 in
      at_or_off a x (λ e. (suc k, rw e B, omega arith))
      (λ z. let r = way_depth B s xs W.2 a (omega (arith, is_no a x z)) in (r.0, r.1, omega (arith, r.2)))

pub way_off : {n : ℕ} {v : Bytes} → Sound n v → (xs : List ℕ) (d a : ℕ) → Way v volume xs d → 1 ≤ count a (kids v d) → (a ≡ volume → ⊥)
    → count a (volume ∷ xs) ≡ 0
unfolding sum
way_off {v = v} S xs d a W c z =
    at_or_off (count a xs) 0 (λ e. omega (arith, is_no a volume z))
    (λ k.
    let r = way_depth (start refl) d xs W a (omega arith) in
    let f = at_depth S (under (way_at (start refl) xs W) (parent_directory v d a c) c) r.1 in
    absurd (omega (arith, r.2)))

-- The slots of d stay.
pub step_kids : {n : ℕ} {v w : Bytes} {a d : ℕ} → Step n v w a d → kids w d ≡ kids v d
step_kids {v = v} {w} {d = d} T = kids_same v w d (one_keeps T d T.spot.home (one_apart T))

pub step_holds : {n : ℕ} {v w : Bytes} {a d : ℕ} → Step n v w a d → sort w d ≡ directory
step_holds {w = w} {a} {d} T = parent_directory w d a (rw (step_kids T) T.spot.inside)

-- The last name after a change of the entry a in d: it is a's, or it is nobody's.
module _ {n : ℕ} {v w : Bytes} {a d : ℕ} (T : Step n v w a d) (S' : Sound n w) {q : Bytes} {qs : List Part} {z : Part} (R : Reaches w q qs d z) where
  open T use {sound as S, spot as P}

  pub last_found : is_active (sort w a) ≡ true → same_name w (at a) q z ≡ true → lookup w q qs ≡ there d a
  last_found f m = reaches_found S' R a (rw (step_kids T) P.inside) f m

  pub last_gone : {p : Bytes} {y : Part} → is_active (sort v a) ≡ true → same_name v (at a) p y ≡ true → Spelled p y q z
      → (is_active (sort w a) ≡ true → same_name w (at a) q z ≡ true → ⊥) → lookup w q qs ≡ missing d
  last_gone {p} {y} f m E off =
      reaches_lookup S' R ∙ rw (seek_no w q z (kids w d) none_there) (unfold last in refl)
    where
      none_there : (u : ℕ) → 1 ≤ count u (kids w d) → is_active (sort w u) ≡ true → same_name w (at u) q z ≡ true → ⊥
      none_there u c g h =
          at_or_off u a (λ e. off (rw (← e) g) (rw (← e) h))
          (λ k.
          let c' : 1 ≤ count u (kids v d) = rw (step_kids T) at c in
          let O = one_entry T d u P.home c' k in
          k (only_one S p y d a u P.home P.inside f m c' (rw (← O.0) g) (near_back (named_near O.1) E h)))
