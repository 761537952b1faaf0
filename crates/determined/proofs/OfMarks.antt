-- Equal results of the public functions of marks. A claim that is refused leaves marks of which its contract says nothing: no caller goes on with them.
use mathlib.Core.Path.{refl, sym, ◌∙◌}
use mathlib.Core.Option.{Option}
use Rattle.claims.specs.Claims.{Seen, outcome}
use Rattle.marks.specs.Marks.{marks, took_all}
use Rattle.determined.proofs.Determined.{Determined, DeterminedAs, Nothing-seen, none_seen}
use Rattle.marks.proofs.claim_block.Reads as claim-block-reads
use Rattle.marks.proofs.claim_block.Kinds as claim-block-kinds
use Rattle.marks.proofs.claim_chain.Reads as claim-chain-reads
use Rattle.marks.proofs.claim_chain.Kinds as claim-chain-kinds
use Rattle.marks.proofs.claim_tree.Reads as claim-tree-reads
use Rattle.marks.proofs.claim_tree.Kinds as claim-tree-kinds
use Rattle.marks.proofs.reserve.Reads as reserve-reads
use Rattle.marks.proofs.reserve.Kinds as reserve-kinds
use Rattle.marks.proofs.map_right.Reads as map-right-reads
use Rattle.marks.proofs.map_right.Kinds as map-right-kinds

pub claim_block_one : DeterminedAs _ claim-block-kinds.ps claim-block-kinds.r claim-block-reads.Post (Option Seen) (λ _ _ r w. outcome r (marks w.0))
claim_block_one κs a r₁ r₂ w₁ w₂ p q = p ∙ sym q

pub claim_chain_one : DeterminedAs _ claim-chain-kinds.ps claim-chain-kinds.r claim-chain-reads.Post (Option Seen) (λ _ _ r w. outcome r (marks w.1.0))
claim_chain_one κs a r₁ r₂ w₁ w₂ p q = p ∙ sym q

pub claim_tree_one : DeterminedAs _ claim-tree-kinds.ps claim-tree-kinds.r claim-tree-reads.Post (Option Seen) (λ _ _ r w. outcome (took_all r) (marks w.1.0))
claim_tree_one κs a r₁ r₂ w₁ w₂ p q = p.0 ∙ sym q.0

pub reserve_one : Determined _ reserve-kinds.ps reserve-kinds.r reserve-reads.Post Seen (λ _ _ w. marks w.0)
reserve_one κs a r₁ r₂ w₁ w₂ p q = (refl, p ∙ sym q)

pub map_right_one : Determined _ map-right-kinds.ps map-right-kinds.r map-right-reads.Post Nothing-seen (λ _ _ _. none_seen)
map_right_one κs a r₁ r₂ w₁ w₂ p q = (p ∙ sym q, refl)
