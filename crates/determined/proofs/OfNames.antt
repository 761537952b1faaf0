-- Equal results of the public functions of names.
use Prim.Native.Nat.{ℕ}
use mathlib.Core.Path.{refl, sym, ◌∙◌}
use mathlib.Core.List.{List}
use Rattle.determined.proofs.Determined.{Determined, DeterminedAs, Nothing-seen, none_seen}
use Rattle.names.proofs.capital_of.Reads as capital-of-reads
use Rattle.names.proofs.capital_of.Kinds as capital-of-kinds
use Rattle.names.proofs.is_letter.Reads as is-letter-reads
use Rattle.names.proofs.is_letter.Kinds as is-letter-kinds
use Rattle.names.proofs.is_name_byte.Reads as is-name-byte-reads
use Rattle.names.proofs.is_name_byte.Kinds as is-name-byte-kinds
use Rattle.names.proofs.is_proper_between.Reads as is-proper-between-reads
use Rattle.names.proofs.is_proper_between.Kinds as is-proper-between-kinds
use Rattle.names.proofs.is_proper_name.Reads as is-proper-name-reads
use Rattle.names.proofs.is_proper_name.Kinds as is-proper-name-kinds
use Rattle.names.proofs.is_capital_name.Reads as is-capital-name-reads
use Rattle.names.proofs.is_capital_name.Kinds as is-capital-name-kinds
use Rattle.names.proofs.same_name.Reads as same-name-reads
use Rattle.names.proofs.same_name.Kinds as same-name-kinds
use Rattle.names.proofs.alike.Reads as alike-reads
use Rattle.names.proofs.alike.Kinds as alike-kinds
use Rattle.names.proofs.Cursor.new.Reads as cursor-new-reads
use Rattle.names.proofs.Cursor.new.Kinds as cursor-new-kinds
use Rattle.names.proofs.Cursor.step.Reads as cursor-step-reads
use Rattle.names.proofs.Cursor.step.Kinds as cursor-step-kinds
use Rattle.names.proofs.is_proper_path.Reads as is-proper-path-reads
use Rattle.names.proofs.is_proper_path.Kinds as is-proper-path-kinds
use Rattle.names.proofs.last_name.Reads as last-name-reads
use Rattle.names.proofs.last_name.Kinds as last-name-kinds
use Rattle.names.proofs.name_at.Reads as name-at-reads
use Rattle.names.proofs.name_at.Kinds as name-at-kinds

pub capital_of_one : Determined _ capital-of-kinds.ps capital-of-kinds.r capital-of-reads.Post Nothing-seen (λ _ _ _. none_seen)
capital_of_one κs a r₁ r₂ w₁ w₂ p q = (p ∙ sym q, refl)

pub is_letter_one : Determined _ is-letter-kinds.ps is-letter-kinds.r is-letter-reads.Post Nothing-seen (λ _ _ _. none_seen)
is_letter_one κs a r₁ r₂ w₁ w₂ p q = (p ∙ sym q, refl)

pub is_name_byte_one : Determined _ is-name-byte-kinds.ps is-name-byte-kinds.r is-name-byte-reads.Post Nothing-seen (λ _ _ _. none_seen)
is_name_byte_one κs a r₁ r₂ w₁ w₂ p q = (p ∙ sym q, refl)

pub is_proper_between_one : Determined _ is-proper-between-kinds.ps is-proper-between-kinds.r is-proper-between-reads.Post Nothing-seen (λ _ _ _. none_seen)
is_proper_between_one κs a r₁ r₂ w₁ w₂ p q = (p ∙ sym q, refl)

pub is_proper_name_one : Determined _ is-proper-name-kinds.ps is-proper-name-kinds.r is-proper-name-reads.Post Nothing-seen (λ _ _ _. none_seen)
is_proper_name_one κs a r₁ r₂ w₁ w₂ p q = (p ∙ sym q, refl)

pub is_capital_name_one : Determined _ is-capital-name-kinds.ps is-capital-name-kinds.r is-capital-name-reads.Post Nothing-seen (λ _ _ _. none_seen)
is_capital_name_one κs a r₁ r₂ w₁ w₂ p q = (p ∙ sym q, refl)

pub same_name_one : Determined _ same-name-kinds.ps same-name-kinds.r same-name-reads.Post Nothing-seen (λ _ _ _. none_seen)
same_name_one κs a r₁ r₂ w₁ w₂ p q = (p ∙ sym q, refl)

pub alike_one : Determined _ alike-kinds.ps alike-kinds.r alike-reads.Post Nothing-seen (λ _ _ _. none_seen)
alike_one κs a r₁ r₂ w₁ w₂ p q = (p ∙ sym q, refl)

pub cursor_new_one : Determined _ cursor-new-kinds.ps cursor-new-kinds.r cursor-new-reads.Post Nothing-seen (λ _ _ _. none_seen)
cursor_new_one κs a r₁ r₂ w₁ w₂ p q = (p ∙ sym q, refl)

pub cursor_step_one : Determined _ cursor-step-kinds.ps cursor-step-kinds.r cursor-step-reads.Post Nothing-seen (λ _ _ _. none_seen)
cursor_step_one κs a r₁ r₂ w₁ w₂ p q = (p ∙ sym q, refl)

pub is_proper_path_one : Determined _ is-proper-path-kinds.ps is-proper-path-kinds.r is-proper-path-reads.Post Nothing-seen (λ _ _ _. none_seen)
is_proper_path_one κs a r₁ r₂ w₁ w₂ p q = (p ∙ sym q, refl)

pub last_name_one : DeterminedAs _ last-name-kinds.ps last-name-kinds.r last-name-reads.Post (List ℕ) (λ _ _ r _. r.now)
last_name_one κs a r₁ r₂ w₁ w₂ p q = p ∙ sym q

pub name_at_one : DeterminedAs _ name-at-kinds.ps name-at-kinds.r name-at-reads.Post (List ℕ) (λ _ _ r _. r.now)
name_at_one κs a r₁ r₂ w₁ w₂ p q = p ∙ sym q
