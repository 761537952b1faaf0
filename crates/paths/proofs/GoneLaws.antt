-- Destroy of an entry: every way stays that does not end at it.
use Prim.Native.Nat.{ℕ, ◌≤◌}
use mathlib.Core.Path.{◌≡◌, refl, sym, ◌∙◌}
use mathlib.Core.List.{List, [], ◌∷◌}
use mathlib.Core.Bool.{true, false≢true}
use native.Mathlib.Omega.{arith}
use Rattle.model.specs.Bytes.{Bytes, sum, count}
use Rattle.model.specs.Directory.{sort, is_active, volume, map_place, kids}
use Rattle.model.specs.Destroy.{destroyed}
use Rattle.model.specs.Catalog.{name_text}
use Rattle.model.proofs.ByteLaws.{at_or_off}
use Rattle.model.proofs.BitLaws.{is_no}
use Rattle.model.proofs.SumLaws.{is_eq}
use Rattle.model.proofs.Laws.Destroy.{Destroys, gone_step, gone_bare}
use Rattle.paths.specs.Ways.{Way, WayStays}
use Rattle.paths.proofs.CarryLaws.{Carries, carried_path, step_carries}

module _ {n : ℕ} {v : Bytes} {a d : ℕ} (D : Destroys n v a d) where
  -- a has no active entry below it
  none_below : (y : ℕ) → 1 ≤ count y (kids v a) → is_active (sort v y) ≡ true → ⊥
  none_below y c e = false≢true (rw (gone_bare D y c) at e)

  gone_carries : Carries v (destroyed map_place v d a) (λ y. y ≡ a) (name_text v)
  gone_carries = step_carries (gone_step D) (λ y c e. absurd (none_below y c e)) (λ _ k. absurd (k refl)) (λ y _. refl)

  -- and so a way on which it is ends at it
  gone_off : (xs : List ℕ) (x s : ℕ) → Way v x xs s → (s ≡ a → ⊥) → (y : ℕ) → 1 ≤ count y xs → y ≡ a → ⊥
  unfolding sum
  gone_off [] x s w k y c e = omega arith
  gone_off (z ∷ []) x s w k y c e = k (sym w.2 ∙ sym (is_eq y z (omega arith)) ∙ e)
  gone_off (z ∷ t ∷ xs) x s w k y c e =
      at_or_off y z
      (λ i. let f : z ≡ a = sym i ∙ e in none_below t (rw f at w.2.0) w.2.1)
      (λ m. gone_off (t ∷ xs) z s w.2 k y (omega (arith, is_no y z m)) e)

  pub gone_stays : (xs : List ℕ) (s : ℕ) → (s ≡ a → ⊥) → Way v volume xs s → WayStays v (destroyed map_place v d a) xs s
  gone_stays xs s k w = carried_path D.sound gone_carries xs s w (gone_off xs volume s w k)
