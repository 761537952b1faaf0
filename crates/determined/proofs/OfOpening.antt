-- Equal results of the public functions of opening.
use mathlib.Core.Path.{refl, sym, ◌∙◌}
use Rattle.determined.proofs.Determined.{Determined, Nothing-seen, none_seen}
use Rattle.opening.proofs.volume_in.Reads as volume-in-reads
use Rattle.opening.proofs.volume_in.Kinds as volume-in-kinds
use Rattle.opening.proofs.opened_at.Reads as opened-at-reads
use Rattle.opening.proofs.opened_at.Kinds as opened-at-kinds
use Rattle.opening.proofs.opened_if.Reads as opened-if-reads
use Rattle.opening.proofs.opened_if.Kinds as opened-if-kinds
use Rattle.opening.proofs.opened_by.Reads as opened-by-reads
use Rattle.opening.proofs.opened_by.Kinds as opened-by-kinds
use Rattle.opening.proofs.height_of.Reads as height-of-reads
use Rattle.opening.proofs.height_of.Kinds as height-of-kinds

pub volume_in_one : Determined _ volume-in-kinds.ps volume-in-kinds.r volume-in-reads.Post Nothing-seen (λ _ _ _. none_seen)
volume_in_one κs a r₁ r₂ w₁ w₂ p q = (p ∙ sym q, refl)

pub opened_at_one : Determined _ opened-at-kinds.ps opened-at-kinds.r opened-at-reads.Post Nothing-seen (λ _ _ _. none_seen)
opened_at_one κs a r₁ r₂ w₁ w₂ p q = (p ∙ sym q, refl)

pub opened_by_one : Determined _ opened-by-kinds.ps opened-by-kinds.r opened-by-reads.Post Nothing-seen (λ _ _ _. none_seen)
opened_by_one κs a r₁ r₂ w₁ w₂ p q = (p ∙ sym q, refl)

pub height_of_one : Determined _ height-of-kinds.ps height-of-kinds.r height-of-reads.Post Nothing-seen (λ _ _ _. none_seen)
height_of_one κs a r₁ r₂ w₁ w₂ p q = (p ∙ sym q, refl)

pub opened_if_one : Determined _ opened-if-kinds.ps opened-if-kinds.r opened-if-reads.Post Nothing-seen (λ _ _ _. none_seen)
opened_if_one κs a r₁ r₂ w₁ w₂ p q = (p ∙ sym q, refl)
