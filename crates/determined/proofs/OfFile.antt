-- Equal results of the public functions of file.
use mathlib.Core.Path.{refl, sym, ◌∙◌}
use Rattle.model.specs.Bytes.{Bytes, view}
use Rattle.determined.proofs.Determined.{Determined, Nothing-seen, none_seen}
use Rattle.file.proofs.data_block.Reads as data-block-reads
use Rattle.file.proofs.data_block.Kinds as data-block-kinds
use Rattle.file.proofs.read_bytes.Reads as read-bytes-reads
use Rattle.file.proofs.read_bytes.Kinds as read-bytes-kinds

pub data_block_one : Determined _ data-block-kinds.ps data-block-kinds.r data-block-reads.Post Nothing-seen (λ _ _ _. none_seen)
data_block_one κs a r₁ r₂ w₁ w₂ p q = (p.0 ∙ sym q.0, refl)

pub read_bytes_one : Determined _ read-bytes-kinds.ps read-bytes-kinds.r read-bytes-reads.Post Bytes (λ _ _ w. view w.1.1.1.1.1.0)
read_bytes_one κs a r₁ r₂ w₁ w₂ p q = (refl, p ∙ sym q)
