-- Equal results of the public functions of release.
use mathlib.Core.Path.{refl, sym, ◌∙◌}
use Rattle.model.specs.Bytes.{Bytes, view}
use Rattle.determined.proofs.Determined.{Determined}
use Rattle.release.proofs.give_limbs.Reads as give-limbs-reads
use Rattle.release.proofs.give_limbs.Kinds as give-limbs-kinds
use Rattle.release.proofs.give_tree.Reads as give-tree-reads
use Rattle.release.proofs.give_tree.Kinds as give-tree-kinds
use Rattle.release.proofs.give_chain.Reads as give-chain-reads
use Rattle.release.proofs.give_chain.Kinds as give-chain-kinds

pub give_limbs_one : Determined _ give-limbs-kinds.ps give-limbs-kinds.r give-limbs-reads.Post Bytes (λ _ _ w. view w.0)
give_limbs_one κs a r₁ r₂ w₁ w₂ p q = (refl, p ∙ sym q)

pub give_tree_one : Determined _ give-tree-kinds.ps give-tree-kinds.r give-tree-reads.Post Bytes (λ _ _ w. view w.0)
give_tree_one κs a r₁ r₂ w₁ w₂ p q = (refl, p ∙ sym q)

pub give_chain_one : Determined _ give-chain-kinds.ps give-chain-kinds.r give-chain-reads.Post Bytes (λ _ _ w. view w.0)
give_chain_one κs a r₁ r₂ w₁ w₂ p q = (refl, p ∙ sym q)
