-- Nothing is wrong with a slot that the walk of a sound volume meets.
use Prim.Native.Nat.{ℕ, zero, suc, ◌+◌, ◌≤◌}
use mathlib.Core.Path.{◌≡◌, refl}
use mathlib.Core.List.{List, [], ◌∷◌}
use mathlib.Core.Bool.{true}
use native.Mathlib.Omega.{arith}
use Rattle.model.specs.Bytes.{Bytes, sum, gather}
use Rattle.model.specs.Directory.{volume, kids}
use Rattle.model.specs.Walk.{level_most, Visit, visit, walk}
use Rattle.model.specs.Sound.{faults, sound}
use Rattle.claims.proofs.SoundFacts.{sound_facts}
use Rattle.model.proofs.SumLaws.{sum_append}
use Rattle.facts.specs.Reached.{Among, here, later, Met, top, down}

-- the sum of a weight over the slots ss of a directory and all below them
module _ (f : Visit ℕ → ℕ) (v : Bytes) where
  unfoldable pub below : ℕ → ℕ → List ℕ → ℕ
  below l d ss = sum f (walk (kids v) (λ _ s. s) l d ss)

  pub first_zero : (l d s : ℕ) → f (visit l d s) ≤ below l d (s ∷ [])
  unfolding below walk gather sum
  first_zero zero d s = omega arith
  first_zero (suc l) d s = omega (arith, sum_append f (walk (kids v) (λ _ s. s) l s (kids v s)) [])

  pub then_zero : (l d s : ℕ) → below l s (kids v s) ≤ below (suc l) d (s ∷ [])
  unfolding below walk gather sum
  then_zero l d s = omega (arith, sum_append f (walk (kids v) (λ _ s. s) l s (kids v s)) [])

  pub split : (l d s : ℕ) (ss : List ℕ) → below l d (s ∷ ss) ≡ below l d (s ∷ []) + below l d ss
  unfolding below walk gather sum
  split zero d s ss = omega arith
  split (suc l) d s ss =
      let w = walk (kids v) (λ _ s. s) l s (kids v s) in
      let r = gather (λ s. visit (suc l) d s ∷ walk (kids v) (λ _ s. s) l s (kids v s)) ss in
      omega (arith, sum_append f w r, sum_append f w [])

  pub among_zero : (l d s : ℕ) (ss : List ℕ) → Among s ss → below l d (s ∷ []) ≤ below l d ss
  among_zero l d s ss (here {ss = r}) = omega (arith, split l d s r)
  among_zero l d s ss (later {t = t} {ss = r} a) = omega (arith, split l d t r, among_zero l d s r a)

  -- what is met below a slot weighs no more than the whole
  pub met_below : {l d s : ℕ} → Met v l d s → below l d (s ∷ []) ≤ below (suc level_most) volume (volume ∷ [])
  met_below top = omega arith
  met_below (down {l = l} {d = d} {s = s} {t = t} m a) = omega (arith, met_below m, then_zero l d s, among_zero l s t (kids v s) a)

  top_splits : below (suc level_most) volume (volume ∷ []) ≡ f (visit (suc level_most) volume volume) + below level_most volume (kids v volume)
  unfolding below walk gather sum
  top_splits = omega (arith, sum_append f (walk (kids v) (λ _ s. s) level_most volume (kids v volume)) [])

  -- and what is met below the volume is apart from the volume's own weight
  pub met_apart : {k d s : ℕ} → Met v k d s → (l t : ℕ) → k ≡ suc l → Among t (kids v s)
      → below l s (t ∷ []) + f (visit (suc level_most) volume volume) ≤ below (suc level_most) volume (volume ∷ [])
  met_apart top l t e a = let q : l ≡ level_most = omega arith in rw q (omega (arith, top_splits, among_zero level_most volume t (kids v volume) a))
  met_apart (down {l = k} {d = d} {s = s} {t = u} m b) l t e a =
      omega (arith, met_apart m k u refl b, among_zero l u t (kids v u) a, rw (← e) at (then_zero l s u))

-- the faults of a slot that is met
module _ (n : ℕ) (v : Bytes) where
  weight : Visit ℕ → ℕ
  weight w = faults n v w.levels w.way w.slot

  pub met_faults : {l d s : ℕ} → sound n v ≡ true → Met v l d s → faults n v l d s ≡ 0
  unfolding below weight
  met_faults {l} {d} {s} h m = omega (arith, (sound_facts n v h).faultfree, met_below weight v m, first_zero weight v l d s)
