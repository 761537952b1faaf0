-- Equal results of the public functions of sound.
use mathlib.Core.Path.{refl, sym, ◌∙◌}
use Rattle.determined.proofs.Determined.{Determined, Nothing-seen, none_seen}
use Rattle.sound.proofs.is_sound.Reads as is-sound-reads
use Rattle.sound.proofs.is_sound.Kinds as is-sound-kinds

pub is_sound_one : Determined _ is-sound-kinds.ps is-sound-kinds.r is-sound-reads.Post Nothing-seen (λ _ _ _. none_seen)
is_sound_one κs a r₁ r₂ w₁ w₂ p q = (p ∙ sym q, refl)
