-- Equal results of the public functions of entries.
use mathlib.Core.Path.{refl, sym, ◌∙◌}
use Rattle.model.specs.Bytes.{Bytes, view}
use Rattle.determined.proofs.Determined.{Determined, Nothing-seen, none_seen}
use Rattle.entries.proofs.backed_up.Reads as backed-up-reads
use Rattle.entries.proofs.backed_up.Kinds as backed-up-kinds
use Rattle.entries.proofs.put_stamp.Reads as put-stamp-reads
use Rattle.entries.proofs.put_stamp.Kinds as put-stamp-kinds
use Rattle.entries.proofs.put_name.Reads as put-name-reads
use Rattle.entries.proofs.put_name.Kinds as put-name-kinds
use Rattle.entries.proofs.write_header.Reads as write-header-reads
use Rattle.entries.proofs.write_header.Kinds as write-header-kinds
use Rattle.entries.proofs.write_subdirectory_header.Reads as write-subdirectory-header-reads
use Rattle.entries.proofs.write_subdirectory_header.Kinds as write-subdirectory-header-kinds
use Rattle.entries.proofs.write_volume_header.Reads as write-volume-header-reads
use Rattle.entries.proofs.write_volume_header.Kinds as write-volume-header-kinds
use Rattle.entries.proofs.write_entry.Reads as write-entry-reads
use Rattle.entries.proofs.write_entry.Kinds as write-entry-kinds

pub backed_up_one : Determined _ backed-up-kinds.ps backed-up-kinds.r backed-up-reads.Post Nothing-seen (λ _ _ _. none_seen)
backed_up_one κs a r₁ r₂ w₁ w₂ p q = (p ∙ sym q, refl)

pub put_stamp_one : Determined _ put-stamp-kinds.ps put-stamp-kinds.r put-stamp-reads.Post Bytes (λ _ _ w. view w.0)
put_stamp_one κs a r₁ r₂ w₁ w₂ p q = (refl, p ∙ sym q)

pub put_name_one : Determined _ put-name-kinds.ps put-name-kinds.r put-name-reads.Post Bytes (λ _ _ w. view w.0)
put_name_one κs a r₁ r₂ w₁ w₂ p q = (refl, p ∙ sym q)

pub write_header_one : Determined _ write-header-kinds.ps write-header-kinds.r write-header-reads.Post Bytes (λ _ _ w. view w.0)
write_header_one κs a r₁ r₂ w₁ w₂ p q = (refl, p ∙ sym q)

pub write_subdirectory_header_one : Determined _ write-subdirectory-header-kinds.ps write-subdirectory-header-kinds.r write-subdirectory-header-reads.Post Bytes (λ _ _ w. view w.0)
write_subdirectory_header_one κs a r₁ r₂ w₁ w₂ p q = (refl, p ∙ sym q)

pub write_volume_header_one : Determined _ write-volume-header-kinds.ps write-volume-header-kinds.r write-volume-header-reads.Post Bytes (λ _ _ w. view w.0)
write_volume_header_one κs a r₁ r₂ w₁ w₂ p q = (refl, p ∙ sym q)

pub write_entry_one : Determined _ write-entry-kinds.ps write-entry-kinds.r write-entry-reads.Post Bytes (λ _ _ w. view w.0)
write_entry_one κs a r₁ r₂ w₁ w₂ p q = (refl, p ∙ sym q)
