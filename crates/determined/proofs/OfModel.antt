-- Equal results of the public functions of model.
use mathlib.Core.Path.{refl, sym, ◌∙◌}
use Rattle.determined.proofs.Determined.{Determined, Nothing-seen, none_seen}
use Rattle.model.proofs.U8FromRefusal.from.Reads as refusal-number-reads
use Rattle.model.proofs.U8FromRefusal.from.Kinds as refusal-number-kinds
use Rattle.model.proofs.U8FromKind.from.Reads as kind-number-reads
use Rattle.model.proofs.U8FromKind.from.Kinds as kind-number-kinds
use Rattle.model.proofs.key_of.Reads as key-of-reads
use Rattle.model.proofs.key_of.Kinds as key-of-kinds
use Rattle.model.proofs.allows.Reads as allows-reads
use Rattle.model.proofs.allows.Kinds as allows-kinds

pub refusal_number_one : Determined _ refusal-number-kinds.ps refusal-number-kinds.r refusal-number-reads.Post Nothing-seen (λ _ _ _. none_seen)
refusal_number_one κs a r₁ r₂ w₁ w₂ p q = (p ∙ sym q, refl)

pub kind_number_one : Determined _ kind-number-kinds.ps kind-number-kinds.r kind-number-reads.Post Nothing-seen (λ _ _ _. none_seen)
kind_number_one κs a r₁ r₂ w₁ w₂ p q = (p ∙ sym q, refl)

pub key_of_one : Determined _ key-of-kinds.ps key-of-kinds.r key-of-reads.Post Nothing-seen (λ _ _ _. none_seen)
key_of_one κs a r₁ r₂ w₁ w₂ p q = (p ∙ sym q, refl)

pub allows_one : Determined _ allows-kinds.ps allows-kinds.r allows-reads.Post Nothing-seen (λ _ _ _. none_seen)
allows_one κs a r₁ r₂ w₁ w₂ p q = (p ∙ sym q, refl)
