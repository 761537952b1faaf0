-- Equal results of the public functions of shrink.
use mathlib.Core.Path.{sym, ◌∙◌}
use Rattle.model.specs.Bytes.{Bytes, view}
use Rattle.determined.proofs.Determined.{Determined}
use Rattle.shrink.proofs.shrink.Reads as shrink-reads
use Rattle.shrink.proofs.shrink.Kinds as shrink-kinds

pub shrink_one : Determined _ shrink-kinds.ps shrink-kinds.r shrink-reads.Post Bytes (λ _ _ w. view w.0)
shrink_one κs a r₁ r₂ w₁ w₂ p q = (p.1 ∙ sym q.1, p.0 ∙ sym q.0)
