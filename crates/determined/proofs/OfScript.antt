-- Equal results of the functions that take a script's line apart.
use mathlib.Core.Path.{◌≡◌, refl, sym, ap, ◌∙◌}
use Rattle.model.specs.Bytes.{Bytes, view}
use Rattle.script.specs.Fields.{Fields}
use Rattle.lines.specs.declared.BadFields.{BadFields}
use Rattle.lines.specs.Commands.{named_by}
use Rattle.std.specs.Prelude.{Result, Ok, Err}
use Rattle.std.specs.Result.{is_ok}
use Rattle.lines.specs.declared.Command.{Command}
use Rattle.determined.proofs.Determined.{Determined, Nothing-seen, none_seen}
use Rattle.script.proofs.line_end.Reads as line-end-reads
use Rattle.script.proofs.line_end.Kinds as line-end-kinds
use Rattle.script.proofs.word_end.Reads as word-end-reads
use Rattle.script.proofs.word_end.Kinds as word-end-kinds
use Rattle.script.proofs.is_word.Reads as is-word-reads
use Rattle.script.proofs.is_word.Kinds as is-word-kinds
use Rattle.script.proofs.read_fields.Reads as read-fields-reads
use Rattle.script.proofs.read_fields.Kinds as read-fields-kinds
use Rattle.lines.proofs.read_line.Reads as read-line-reads
use Rattle.lines.proofs.read_line.Kinds as read-line-kinds

pub line_end_one : Determined _ line-end-kinds.ps line-end-kinds.r line-end-reads.Post Nothing-seen (λ _ _ _. none_seen)
line_end_one κs a r₁ r₂ w₁ w₂ p q = (p.0 ∙ sym q.0, refl)

pub word_end_one : Determined _ word-end-kinds.ps word-end-kinds.r word-end-reads.Post Nothing-seen (λ _ _ _. none_seen)
word_end_one κs a r₁ r₂ w₁ w₂ p q = (p ∙ sym q, refl)

pub is_word_one : Determined _ is-word-kinds.ps is-word-kinds.r is-word-reads.Post Nothing-seen (λ _ _ _. none_seen)
is_word_one κs a r₁ r₂ w₁ w₂ p q = (p ∙ sym q, refl)

-- values, texts and data
abbrev kept : Bytes → Bytes → Bytes → Fields
kept values room buffer = record { at = 0; values = values; room = room; buffer = buffer }

kept_same : {f₁ f₂ g₁ g₂ h₁ h₂ : Bytes} → f₁ ≡ f₂ → g₁ ≡ g₂ → h₁ ≡ h₂ → kept f₁ g₁ h₁ ≡ kept f₂ g₂ h₂
kept_same p q r = rw (p, q, r)

pub read_fields_one : Determined _ read-fields-kinds.ps read-fields-kinds.r read-fields-reads.Post Fields
    (λ _ _ w. kept (view w.1.1.1.0) (view w.1.1.1.1.0) (view w.1.1.1.1.1.0))
read_fields_one κs a r₁ r₂ w₁ w₂ p q =
    (p.0.good ∙ sym q.0.good, kept_same (p.0.values ∙ sym q.0.values) (p.0.room ∙ sym q.0.room) (p.0.buffer ∙ sym q.0.buffer))

pub read_line_one : Determined _ read-line-kinds.ps read-line-kinds.r read-line-reads.Post Fields
    (λ _ _ w. kept (view w.1.0) (view w.1.1.0) (view w.1.1.1.0))
read_line_one κs a r₁ r₂ w₁ w₂ p q = (
  line_same r₁ r₂ (p.0 ∙ sym q.0) (p.1.0.good ∙ sym q.1.0.good),
  kept_same (p.1.0.values ∙ sym q.1.0.values) (p.1.0.room ∙ sym q.1.0.room) (p.1.0.buffer ∙ sym q.1.0.buffer),
)
  where
    bad : Command → BadFields
    bad k = record { command = k }

    line_same : (r₁ r₂ : Result Command BadFields) → named_by r₁ ≡ named_by r₂ → is_ok r₁ ≡ is_ok r₂ → r₁ ≡ r₂
    line_same (Ok j) (Ok k) p q = ap (λ (c : Command). Ok c) p
    line_same (Ok j) (Err e) p q = cc
    line_same (Err d) (Ok k) p q = cc
    line_same (Err d) (Err e) p q = ap (λ (c : Command). Err (bad c)) p
