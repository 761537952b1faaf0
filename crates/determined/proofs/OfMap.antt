-- Equal results of the public functions of map.
use mathlib.Core.Path.{refl, sym, ◌∙◌}
use Rattle.model.specs.Bytes.{Bytes, view}
use Rattle.determined.proofs.Determined.{Determined, Nothing-seen, none_seen}
use Rattle.map.proofs.map_blocks.Reads as map-blocks-reads
use Rattle.map.proofs.map_blocks.Kinds as map-blocks-kinds
use Rattle.map.proofs.is_free.Reads as is-free-reads
use Rattle.map.proofs.is_free.Kinds as is-free-kinds
use Rattle.map.proofs.free_blocks.Reads as free-blocks-reads
use Rattle.map.proofs.free_blocks.Kinds as free-blocks-kinds
use Rattle.map.proofs.first_free.Reads as first-free-reads
use Rattle.map.proofs.first_free.Kinds as first-free-kinds
use Rattle.map.proofs.rest_clear.Reads as rest-clear-reads
use Rattle.map.proofs.rest_clear.Kinds as rest-clear-kinds
use Rattle.map.proofs.give.Reads as give-reads
use Rattle.map.proofs.give.Kinds as give-kinds
use Rattle.map.proofs.take.Reads as take-reads
use Rattle.map.proofs.take.Kinds as take-kinds

pub map_blocks_one : Determined _ map-blocks-kinds.ps map-blocks-kinds.r map-blocks-reads.Post Nothing-seen (λ _ _ _. none_seen)
map_blocks_one κs a r₁ r₂ w₁ w₂ p q = (p ∙ sym q, refl)

pub is_free_one : Determined _ is-free-kinds.ps is-free-kinds.r is-free-reads.Post Nothing-seen (λ _ _ _. none_seen)
is_free_one κs a r₁ r₂ w₁ w₂ p q = (p ∙ sym q, refl)

pub free_blocks_one : Determined _ free-blocks-kinds.ps free-blocks-kinds.r free-blocks-reads.Post Nothing-seen (λ _ _ _. none_seen)
free_blocks_one κs a r₁ r₂ w₁ w₂ p q = (p.0 ∙ sym q.0, refl)

pub first_free_one : Determined _ first-free-kinds.ps first-free-kinds.r first-free-reads.Post Nothing-seen (λ _ _ _. none_seen)
first_free_one κs a r₁ r₂ w₁ w₂ p q = (p.0 ∙ sym q.0, refl)

pub rest_clear_one : Determined _ rest-clear-kinds.ps rest-clear-kinds.r rest-clear-reads.Post Nothing-seen (λ _ _ _. none_seen)
rest_clear_one κs a r₁ r₂ w₁ w₂ p q = (p ∙ sym q, refl)

pub give_one : Determined _ give-kinds.ps give-kinds.r give-reads.Post Bytes (λ _ _ w. view w.0)
give_one κs a r₁ r₂ w₁ w₂ p q = (refl, p ∙ sym q)

pub take_one : Determined _ take-kinds.ps take-kinds.r take-reads.Post Bytes (λ _ _ w. view w.0)
take_one κs a r₁ r₂ w₁ w₂ p q = (refl, p ∙ sym q)
