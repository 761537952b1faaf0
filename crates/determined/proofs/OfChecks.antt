-- Equal results of the public functions of twins and checks.
use mathlib.Core.Path.{refl, sym, ◌∙◌}
use Rattle.determined.proofs.Determined.{Determined, Nothing-seen, none_seen}
use Rattle.twins.proofs.alike_at.Reads as alike-at-reads
use Rattle.twins.proofs.alike_at.Kinds as alike-at-kinds
use Rattle.twins.proofs.no_twins.Reads as no-twins-reads
use Rattle.twins.proofs.no_twins.Kinds as no-twins-kinds
use Rattle.checks.proofs.address.Reads as address-reads
use Rattle.checks.proofs.address.Kinds as address-kinds
use Rattle.checks.proofs.name_right.Reads as name-right-reads
use Rattle.checks.proofs.name_right.Kinds as name-right-kinds
use Rattle.checks.proofs.is_prodos.Reads as is-prodos-reads
use Rattle.checks.proofs.is_prodos.Kinds as is-prodos-kinds
use Rattle.checks.proofs.volume_right.Reads as volume-right-reads
use Rattle.checks.proofs.volume_right.Kinds as volume-right-kinds
use Rattle.checks.proofs.header_right.Reads as header-right-reads
use Rattle.checks.proofs.header_right.Kinds as header-right-kinds
use Rattle.checks.proofs.count_active.Reads as count-active-reads
use Rattle.checks.proofs.count_active.Kinds as count-active-kinds
use Rattle.checks.proofs.unlike.Reads as unlike-reads
use Rattle.checks.proofs.unlike.Kinds as unlike-kinds

pub alike_at_one : Determined _ alike-at-kinds.ps alike-at-kinds.r alike-at-reads.Post Nothing-seen (λ _ _ _. none_seen)
alike_at_one κs a r₁ r₂ w₁ w₂ p q = (p ∙ sym q, refl)

pub no_twins_one : Determined _ no-twins-kinds.ps no-twins-kinds.r no-twins-reads.Post Nothing-seen (λ _ _ _. none_seen)
no_twins_one κs a r₁ r₂ w₁ w₂ p q = (p ∙ sym q, refl)

pub address_one : Determined _ address-kinds.ps address-kinds.r address-reads.Post Nothing-seen (λ _ _ _. none_seen)
address_one κs a r₁ r₂ w₁ w₂ p q = (p ∙ sym q, refl)

pub name_right_one : Determined _ name-right-kinds.ps name-right-kinds.r name-right-reads.Post Nothing-seen (λ _ _ _. none_seen)
name_right_one κs a r₁ r₂ w₁ w₂ p q = (p ∙ sym q, refl)

pub is_prodos_one : Determined _ is-prodos-kinds.ps is-prodos-kinds.r is-prodos-reads.Post Nothing-seen (λ _ _ _. none_seen)
is_prodos_one κs a r₁ r₂ w₁ w₂ p q = (p ∙ sym q, refl)

pub volume_right_one : Determined _ volume-right-kinds.ps volume-right-kinds.r volume-right-reads.Post Nothing-seen (λ _ _ _. none_seen)
volume_right_one κs a r₁ r₂ w₁ w₂ p q = (p ∙ sym q, refl)

pub header_right_one : Determined _ header-right-kinds.ps header-right-kinds.r header-right-reads.Post Nothing-seen (λ _ _ _. none_seen)
header_right_one κs a r₁ r₂ w₁ w₂ p q = (p ∙ sym q, refl)

pub count_active_one : Determined _ count-active-kinds.ps count-active-kinds.r count-active-reads.Post Nothing-seen (λ _ _ _. none_seen)
count_active_one κs a r₁ r₂ w₁ w₂ p q = (p ∙ sym q, refl)

pub unlike_one : Determined _ unlike-kinds.ps unlike-kinds.r unlike-reads.Post Nothing-seen (λ _ _ _. none_seen)
unlike_one κs a r₁ r₂ w₁ w₂ p q = (p ∙ sym q, refl)
