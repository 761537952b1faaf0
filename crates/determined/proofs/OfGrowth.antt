-- Equal results of the public functions of growth.
use mathlib.Core.Path.{refl, sym, ◌∙◌}
use Rattle.model.specs.Bytes.{Bytes, view}
use Rattle.determined.proofs.Determined.{Determined}
use Rattle.growth.proofs.put_pointer.Reads as put-pointer-reads
use Rattle.growth.proofs.put_pointer.Kinds as put-pointer-kinds
use Rattle.growth.proofs.zero_tail.Reads as zero-tail-reads
use Rattle.growth.proofs.zero_tail.Kinds as zero-tail-kinds
use Rattle.growth.proofs.raise.Reads as raise-reads
use Rattle.growth.proofs.raise.Kinds as raise-kinds
use Rattle.growth.proofs.grow.Reads as grow-reads
use Rattle.growth.proofs.grow.Kinds as grow-kinds
use Rattle.growth.proofs.note.Reads as note-reads
use Rattle.growth.proofs.note.Kinds as note-kinds

pub put_pointer_one : Determined _ put-pointer-kinds.ps put-pointer-kinds.r put-pointer-reads.Post Bytes (λ _ _ w. view w.0)
put_pointer_one κs a r₁ r₂ w₁ w₂ p q = (refl, p ∙ sym q)

pub zero_tail_one : Determined _ zero-tail-kinds.ps zero-tail-kinds.r zero-tail-reads.Post Bytes (λ _ _ w. view w.0)
zero_tail_one κs a r₁ r₂ w₁ w₂ p q = (refl, p ∙ sym q)

pub raise_one : Determined _ raise-kinds.ps raise-kinds.r raise-reads.Post Bytes (λ _ _ w. view w.0)
raise_one κs a r₁ r₂ w₁ w₂ p q = (p.1 ∙ sym q.1, p.0 ∙ sym q.0)

pub grow_one : Determined _ grow-kinds.ps grow-kinds.r grow-reads.Post Bytes (λ _ _ w. view w.0)
grow_one κs a r₁ r₂ w₁ w₂ p q = (p.1 ∙ sym q.1, p.0 ∙ sym q.0)

pub note_one : Determined _ note-kinds.ps note-kinds.r note-reads.Post Bytes (λ _ _ w. view w.0)
note_one κs a r₁ r₂ w₁ w₂ p q = (refl, p ∙ sym q)
