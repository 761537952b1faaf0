-- Equal results of the public functions of directory.
use mathlib.Core.Path.{refl, sym, ◌∙◌}
use Rattle.determined.proofs.Determined.{Determined, Nothing-seen, none_seen}
use Rattle.directory.proofs.kind_for.Reads as kind-for-reads
use Rattle.directory.proofs.kind_for.Kinds as kind-for-kinds
use Rattle.directory.proofs.height_for.Reads as height-for-reads
use Rattle.directory.proofs.height_for.Kinds as height-for-kinds
use Rattle.directory.proofs.stamp_at.Reads as stamp-at-reads
use Rattle.directory.proofs.stamp_at.Kinds as stamp-at-kinds
use Rattle.directory.proofs.decode.Reads as decode-reads
use Rattle.directory.proofs.decode.Kinds as decode-kinds
use Rattle.directory.proofs.slot_at.Reads as slot-at-reads
use Rattle.directory.proofs.slot_at.Kinds as slot-at-kinds
use Rattle.directory.proofs.entry_at.Reads as entry-at-reads
use Rattle.directory.proofs.entry_at.Kinds as entry-at-kinds
use Rattle.directory.proofs.find_in.Reads as find-in-reads
use Rattle.directory.proofs.find_in.Kinds as find-in-kinds
use Rattle.directory.proofs.vacant_in.Reads as vacant-in-reads
use Rattle.directory.proofs.vacant_in.Kinds as vacant-in-kinds
use Rattle.directory.proofs.lookup.Reads as lookup-reads
use Rattle.directory.proofs.lookup.Kinds as lookup-kinds

pub kind_for_one : Determined _ kind-for-kinds.ps kind-for-kinds.r kind-for-reads.Post Nothing-seen (λ _ _ _. none_seen)
kind_for_one κs a r₁ r₂ w₁ w₂ p q = (p ∙ sym q, refl)

pub height_for_one : Determined _ height-for-kinds.ps height-for-kinds.r height-for-reads.Post Nothing-seen (λ _ _ _. none_seen)
height_for_one κs a r₁ r₂ w₁ w₂ p q = (p.0 ∙ sym q.0, refl)

pub stamp_at_one : Determined _ stamp-at-kinds.ps stamp-at-kinds.r stamp-at-reads.Post Nothing-seen (λ _ _ _. none_seen)
stamp_at_one κs a r₁ r₂ w₁ w₂ p q = (p ∙ sym q, refl)

pub decode_one : Determined _ decode-kinds.ps decode-kinds.r decode-reads.Post Nothing-seen (λ _ _ _. none_seen)
decode_one κs a r₁ r₂ w₁ w₂ p q = (p ∙ sym q, refl)

pub slot_at_one : Determined _ slot-at-kinds.ps slot-at-kinds.r slot-at-reads.Post Nothing-seen (λ _ _ _. none_seen)
slot_at_one κs a r₁ r₂ w₁ w₂ p q = (p ∙ sym q, refl)

pub entry_at_one : Determined _ entry-at-kinds.ps entry-at-kinds.r entry-at-reads.Post Nothing-seen (λ _ _ _. none_seen)
entry_at_one κs a r₁ r₂ w₁ w₂ p q = (p ∙ sym q, refl)

pub find_in_one : Determined _ find-in-kinds.ps find-in-kinds.r find-in-reads.Post Nothing-seen (λ _ _ _. none_seen)
find_in_one κs a r₁ r₂ w₁ w₂ p q = (p ∙ sym q, refl)

pub vacant_in_one : Determined _ vacant-in-kinds.ps vacant-in-kinds.r vacant-in-reads.Post Nothing-seen (λ _ _ _. none_seen)
vacant_in_one κs a r₁ r₂ w₁ w₂ p q = (p ∙ sym q, refl)

pub lookup_one : Determined _ lookup-kinds.ps lookup-kinds.r lookup-reads.Post Nothing-seen (λ _ _ _. none_seen)
lookup_one κs a r₁ r₂ w₁ w₂ p q = (p ∙ sym q, refl)
