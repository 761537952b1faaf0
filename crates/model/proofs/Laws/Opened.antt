-- A call on a data file that is not refused so far has a file at hand.
use Prim.Native.Nat.{ℕ}
use mathlib.Core.Path.{◌≡◌, refl, sym, ap, ◌∙◌}
use mathlib.Core.Bool.{true, false, false≢true}
use Rattle.model.specs.Bytes.{Bytes, Octets}
use Rattle.model.specs.Directory.{Sort, inactive, directory, improper, file, sort, is_active, is_directory}
use Rattle.model.specs.Names.{proper_path}
use Rattle.model.specs.Sound.{whole_blocks}
use Rattle.model.specs.Calls.{total, not_prodos, not_sound, bad_path, is_no_volume, is_no_directory, is_missing, home, spot, target}
use Rattle.model.proofs.TestLaws.{and_left}
use Rattle.model.proofs.Laws.Sound.{sound_facts}
use Rattle.model.proofs.Laws.Facts.{seen_proper, volume_directory}
use Rattle.model.proofs.Laws.Lookup.{not_false, entry_led, target_led}
use Rattle.model.proofs.Laws.Entry.{Ready}

-- what is active, no directory and of a proper kind
pub file_is : (K : Sort) → is_active K ≡ true → is_directory K ≡ false → (K ≡ improper → ⊥) → (h : ℕ) × (K ≡ file h)
file_is inactive a d p = absurd (false≢true a)
file_is directory a d p = absurd (false≢true (sym d))
file_is improper a d p = absurd (p refl)
file_is (file h) a d p = (h, refl)

pub record Opened (len : ℕ) (v p : Bytes) (k : ℕ) : Type 0 where
  pub whole : whole_blocks len ≡ true
  pub proper : proper_path p k ≡ true
  pub known : is_no_volume (target v p k) ≡ false
  pub way : is_no_directory (target v p k) ≡ false
  pub found : is_missing (target v p k) ≡ false
  pub tall : ℕ
  pub ready : Ready (total len) v (spot (target v p k)) (home (target v p k)) tall

-- the first seven rows of the tables of read, write and set EOF
pub opened : (len : ℕ) (v p : Bytes) (k : ℕ) → Octets v → (not_prodos len v).applies ≡ false → (not_sound len v).applies ≡ false
    → (bad_path p k).applies ≡ false → is_no_volume (target v p k) ≡ false → is_no_directory (target v p k) ≡ false → is_missing (target v p k) ≡ false
    → is_directory (sort v (spot (target v p k))) ≡ false → Opened len v p k
opened len v p k octets r₀ r₁ r₂ r₃ r₄ r₅ r₆ =
    let S = sound_facts (total len) v (not_false _ r₁) in
    let a = spot (target v p k) in
    let E = entry_led S (target_led S p k) r₃ r₄ r₅ (λ z. false≢true (sym r₆ ∙ rw z (ap is_directory (volume_directory S)))) in
    let h = file_is (sort v a) E.alive r₆ (seen_proper S a E.spot.seen) in
    record {
      whole = and_left _ _ (not_false _ r₀);
      proper = not_false _ r₂;
      known = r₃;
      way = r₄;
      found = r₅;
      tall = h.0;
      ready = record { bytes = octets; sound = S; spot = E.spot; kind = h.1 };
    }
