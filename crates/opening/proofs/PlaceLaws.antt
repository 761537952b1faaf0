-- The slot of the entry that a path leads to lies on the image.
use Prim.Native.Nat.{ℕ, ◌+◌, ◌/◌, ◌≤◌, ◌<◌}
use mathlib.Core.Path.{◌≡◌}
use native.Mathlib.Omega.{arith}
use Rattle.model.specs.Bytes.{Bytes}
use Rattle.model.specs.Names.{parts}
use Rattle.model.specs.Directory.{at, volume, there}
use Rattle.model.specs.Calls.{total, target}
use Rattle.directory.proofs.AnswerLaws.{kids_inside, lookup_lands}
use Rattle.opening.proofs.SaneLaws.{sane}
use Rattle.opening.proofs.VolumeLaws.{Fits}

module _ (len : ℕ) (v p : Bytes) (k d s : ℕ) (f : Fits len v (total len)) (t : target v p k ≡ there d s) (off : s ≡ volume → ⊥) where
  pub entry_inside : s / 13 < total len
  entry_inside =
      let r = lookup_lands v p (parts p k) in
      kids_inside (total len) v d s (sane (total len) v f.sane) (r.there_home d s t) (r.there_entry d s t off)

  pub slot_fits : at s + 39 ≤ len
  unfolding at
  slot_fits = let i = entry_inside in omega (arith, f.whole)
