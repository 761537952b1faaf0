-- Rename and set info: what they name keeps its sort and its slots, and so all ways stay. Rename gives it the new name.
use Prim.Native.Nat.{ℕ}
use mathlib.Core.Path.{◌≡◌, refl, sym, ◌∙◌}
use mathlib.Core.List.{List}
use mathlib.Core.Bool.{true}
use Rattle.model.specs.Bytes.{Bytes}
use Rattle.model.specs.Names.{part, proper_name, capitals}
use Rattle.model.specs.Directory.{at, volume}
use Rattle.model.specs.Rename.{named, renamed}
use Rattle.model.specs.Info.{info_set}
use Rattle.model.specs.Catalog.{text, name_text}
use Rattle.model.specs.declared.Stamp.{Stamp}
use Rattle.model.proofs.Laws.Sound.{Sound}
use Rattle.model.proofs.Laws.Keep.{kids_same}
use Rattle.model.proofs.Laws.Facts.{kid_placed, placed_proper}
use Rattle.model.proofs.Laws.Spelling.{Bears}
use Rattle.model.proofs.Laws.Relabel.{Relabels, marks_step, relabel_keeps}
use Rattle.model.proofs.Laws.Info.{set_name}
use Rattle.model.proofs.Laws.Rename.{after_bears, after_name, after_keeps}
use Rattle.model.proofs.Laws.Near.{named_near}
use Rattle.paths.proofs.TextLaws.{bears_text, near_text}
use Rattle.paths.proofs.CarryLaws.{Carries, step_carries, renamed_at, given_name, other_name}

module _ {n : ℕ} {v v' : Bytes} {a d : ℕ} (R : Relabels n v v' a d) where
  relabel_carries : {f : ℕ → List ℕ} → name_text v' a ≡ f a → ((y : ℕ) → (y ≡ a → ⊥) → f y ≡ name_text v y) → Carries v v' (λ _. ⊥) f
  relabel_carries e g =
      step_carries (marks_step R.marks) (λ y c _. rw (kids_same v v' a (relabel_keeps R)) c) (λ i _. (rw R.sorted i, e)) g

pub set_carries : {n : ℕ} {v : Bytes} {a d : ℕ} (access aux : ℕ) (t : Stamp) → Relabels n v (info_set v a access aux t) a d
    → Carries v (info_set v a access aux t) (λ _. ⊥) (name_text v)
set_carries {a = a} access aux t R =
    relabel_carries R (near_text a (named_near (set_name access aux t R.marks.sound R.marks.spot a))) (λ y _. refl)

pub now_carries : {n : ℕ} {v : Bytes} {a d : ℕ} (q : Bytes) (j : ℕ) → Relabels n v (renamed v a q j) a d → Bears (renamed v a q j) (at a) q (part 0 j)
    → Carries v (renamed v a q j) (λ _. ⊥) (renamed_at v a (text (capitals q) 0 j))
now_carries {v = v} {a} q j R B =
    relabel_carries R (bears_text (renamed v a q j) a q (part 0 j) B ∙ sym (given_name v a (text (capitals q) 0 j)))
    (other_name v a (text (capitals q) 0 j))

pub after_carries : {n : ℕ} {v : Bytes} (q : Bytes) (j : ℕ) → Sound n v → proper_name q 0 j ≡ true
    → Carries v (named v (at volume) q j) (λ _. ⊥) (renamed_at v volume (text (capitals q) 0 j))
after_carries {v = v} q j S proper =
    record {
      entry = λ x y h c e _.
          let P = kid_placed S x y h c in
          let A = after_name q j S proper y P in (
            rw (kids_same v _ x (after_keeps q j S proper x h)) c,
            rw A.0 e,
            near_text y (named_near A.1) ∙ sym (other_name v volume (text (capitals q) 0 j) y (placed_proper S y P)),
          );
      top = bears_text _ volume q (part 0 j) (after_bears q j S proper).0 ∙ sym (given_name v volume (text (capitals q) 0 j));
    }
