-- Equal results of the public functions of pour.
use mathlib.Core.Path.{refl, sym, ◌∙◌}
use Rattle.model.specs.Bytes.{Bytes, view}
use Rattle.determined.proofs.Determined.{Determined, Nothing-seen, none_seen}
use Rattle.pour.proofs.need.Reads as need-reads
use Rattle.pour.proofs.need.Kinds as need-kinds
use Rattle.pour.proofs.pour.Reads as pour-reads
use Rattle.pour.proofs.pour.Kinds as pour-kinds

pub need_one : Determined _ need-kinds.ps need-kinds.r need-reads.Post Nothing-seen (λ _ _ _. none_seen)
need_one κs a r₁ r₂ w₁ w₂ p q = (p ∙ sym q, refl)

pub pour_one : Determined _ pour-kinds.ps pour-kinds.r pour-reads.Post Bytes (λ _ _ w. view w.0)
pour_one κs a r₁ r₂ w₁ w₂ p q = (refl, p ∙ sym q)
