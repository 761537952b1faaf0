-- Equal results of the ten calls: the answer in all its parts, and every byte of image or buffer.
use Rattle.std.specs.Prelude.{Result}
use Rattle.model.specs.declared.Refusal.{Refusal}
use Prim.Native.Nat.{ℕ}
use mathlib.Core.Path.{◌≡◌, refl, sym, ◌∙◌}
use mathlib.Core.List.{List}
use Rattle.model.specs.Refusals.{Outcome}
use Rattle.model.specs.Calls.{Nothing}
use Rattle.model.specs.Answers.{Does}
use Rattle.determined.proofs.Determined.{Determined, Nothing-seen, none_seen, same_list}
use Rattle.determined.proofs.Numbers.{done_known, transfer_known, info_known, space_known}
use Rattle.info.proofs.space.Reads as space-reads
use Rattle.info.proofs.space.Kinds as space-kinds
use Rattle.info.proofs.get_info.Reads as get-info-reads
use Rattle.info.proofs.get_info.Kinds as get-info-kinds
use Rattle.read.proofs.read.Reads as read-reads
use Rattle.read.proofs.read.Kinds as read-kinds
use Rattle.format.proofs.format.Reads as format-reads
use Rattle.format.proofs.format.Kinds as format-kinds
use Rattle.set_info.proofs.set_info.Reads as set-info-reads
use Rattle.set_info.proofs.set_info.Kinds as set-info-kinds
use Rattle.rename.proofs.rename.Reads as rename-reads
use Rattle.rename.proofs.rename.Kinds as rename-kinds
use Rattle.destroy.proofs.destroy.Reads as destroy-reads
use Rattle.destroy.proofs.destroy.Kinds as destroy-kinds
use Rattle.create.proofs.create.Reads as create-reads
use Rattle.create.proofs.create.Kinds as create-kinds
use Rattle.resize.proofs.set_eof.Reads as set_eof_reads
use Rattle.resize.proofs.set_eof.Kinds as set-eof-kinds
use Rattle.write.proofs.write.Reads as write-reads
use Rattle.write.proofs.write.Kinds as write-kinds

-- a call that answers whether it was done, and leaves an image
does_same : (o : Outcome Nothing) (n : ℕ) (r₁ r₂ : Result (Unit {0}) Refusal) (l₁ l₂ : List ℕ) → Does o n r₁ l₁ → Does o n r₂ l₂ → (r₁ ≡ r₂) × (l₁ ≡ l₂)
does_same o n r₁ r₂ l₁ l₂ p q = (done_known r₁ r₂ (p.said ∙ sym q.said), same_list l₁ l₂ n o.image p.size q.size p.bytes q.bytes)

pub format_one : Determined _ format-kinds.ps format-kinds.r format-reads.Post (List ℕ) (λ _ _ w. w.0)
format_one κs a r₁ r₂ w₁ w₂ p q = does_same _ _ r₁ r₂ w₁.0 w₂.0 p q

pub set_info_one : Determined _ set-info-kinds.ps set-info-kinds.r set-info-reads.Post (List ℕ) (λ _ _ w. w.0)
set_info_one κs a r₁ r₂ w₁ w₂ p q = does_same _ _ r₁ r₂ w₁.0 w₂.0 p q

pub rename_one : Determined _ rename-kinds.ps rename-kinds.r rename-reads.Post (List ℕ) (λ _ _ w. w.0)
rename_one κs a r₁ r₂ w₁ w₂ p q = does_same _ _ r₁ r₂ w₁.0 w₂.0 p q

pub destroy_one : Determined _ destroy-kinds.ps destroy-kinds.r destroy-reads.Post (List ℕ) (λ _ _ w. w.0)
destroy_one κs a r₁ r₂ w₁ w₂ p q = does_same _ _ r₁ r₂ w₁.0 w₂.0 p q

pub create_one : Determined _ create-kinds.ps create-kinds.r create-reads.Post (List ℕ) (λ _ _ w. w.0)
create_one κs a r₁ r₂ w₁ w₂ p q = does_same _ _ r₁ r₂ w₁.0 w₂.0 p q

pub set_eof_one : Determined _ set-eof-kinds.ps set-eof-kinds.r set_eof_reads.Post (List ℕ) (λ _ _ w. w.0)
set_eof_one κs a r₁ r₂ w₁ w₂ p q = does_same _ _ r₁ r₂ w₁.0 w₂.0 p q

pub write_one : Determined _ write-kinds.ps write-kinds.r write-reads.Post (List ℕ) (λ _ _ w. w.0)
write_one κs a r₁ r₂ w₁ w₂ p q =
    (transfer_known r₁ r₂ (p.said ∙ sym q.said) (p.moved ∙ sym q.moved), same_list w₁.0 w₂.0 _ _ p.size q.size p.bytes q.bytes)

pub space_one : Determined _ space-kinds.ps space-kinds.r space-reads.Post Nothing-seen (λ _ _ _. none_seen)
space_one κs a r₁ r₂ w₁ w₂ p q = (space_known r₁ r₂ (p.said ∙ sym q.said) (p.told ∙ sym q.told), refl)

pub get_info_one : Determined _ get-info-kinds.ps get-info-kinds.r get-info-reads.Post Nothing-seen (λ _ _ _. none_seen)
get_info_one κs a r₁ r₂ w₁ w₂ p q = (info_known r₁ r₂ (p.said ∙ sym q.said) (p.told ∙ sym q.told), refl)

pub read_one : Determined _ read-kinds.ps read-kinds.r read-reads.Post (List ℕ) (λ _ _ w. w.1.1.1.0)
read_one κs a r₁ r₂ w₁ w₂ p q =
    (transfer_known r₁ r₂ (p.said ∙ sym q.said) (p.moved ∙ sym q.moved), same_list w₁.1.1.1.0 w₂.1.1.1.0 _ _ p.size q.size p.bytes q.bytes)
