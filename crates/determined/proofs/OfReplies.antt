-- Equal results of the lines that a script's commands print.
use mathlib.Core.Path.{refl}
use mathlib.Core.List.{List}
use Prim.Native.Nat.{ℕ}
use Rattle.ink.specs.declared.Ink.{Ink}
use Rattle.determined.proofs.Determined.{Determined}
use Rattle.determined.proofs.OfInk.{inked_same}
use Rattle.replies.proofs.say_ok.Reads as say-ok-reads
use Rattle.replies.proofs.say_ok.Kinds as say-ok-kinds
use Rattle.replies.proofs.say_refused.Reads as say-refused-reads
use Rattle.replies.proofs.say_refused.Kinds as say-refused-kinds
use Rattle.replies.proofs.say_bad_line.Reads as say-bad-line-reads
use Rattle.replies.proofs.say_bad_line.Kinds as say-bad-line-kinds
use Rattle.replies.proofs.say_answer.Reads as say-answer-reads
use Rattle.replies.proofs.say_answer.Kinds as say-answer-kinds
use Rattle.replies.proofs.say_transfer.Reads as say-transfer-reads
use Rattle.replies.proofs.say_transfer.Kinds as say-transfer-kinds
use Rattle.replies.proofs.say_space.Reads as say-space-reads
use Rattle.replies.proofs.say_space.Kinds as say-space-kinds
use Rattle.replies.proofs.say_info.Reads as say-info-reads
use Rattle.replies.proofs.say_info.Kinds as say-info-kinds
use Rattle.replies.proofs.say_read.Reads as say-read-reads
use Rattle.replies.proofs.say_read.Kinds as say-read-kinds
use Rattle.replies.proofs.say_digest.Reads as say-digest-reads
use Rattle.replies.proofs.say_digest.Kinds as say-digest-kinds
use Rattle.replies.proofs.say_bytes.Reads as say-bytes-reads
use Rattle.replies.proofs.say_bytes.Kinds as say-bytes-kinds

pub say_ok_one : Determined _ say-ok-kinds.ps say-ok-kinds.r say-ok-reads.Post (Ink × List ℕ) (λ _ _ w. (w.1.0, w.0))
say_ok_one κs a r₁ r₂ w₁ w₂ p q = (refl, inked_same _ _ w₁.1.0 w₂.1.0 w₁.0 w₂.0 p q)

pub say_refused_one : Determined _ say-refused-kinds.ps say-refused-kinds.r say-refused-reads.Post (Ink × List ℕ) (λ _ _ w. (w.1.0, w.0))
say_refused_one κs a r₁ r₂ w₁ w₂ p q = (refl, inked_same _ _ w₁.1.0 w₂.1.0 w₁.0 w₂.0 p q)

pub say_bad_line_one : Determined _ say-bad-line-kinds.ps say-bad-line-kinds.r say-bad-line-reads.Post (Ink × List ℕ) (λ _ _ w. (w.1.0, w.0))
say_bad_line_one κs a r₁ r₂ w₁ w₂ p q = (refl, inked_same _ _ w₁.1.0 w₂.1.0 w₁.0 w₂.0 p q)

pub say_answer_one : Determined _ say-answer-kinds.ps say-answer-kinds.r say-answer-reads.Post (Ink × List ℕ) (λ _ _ w. (w.1.0, w.0))
say_answer_one κs a r₁ r₂ w₁ w₂ p q = (refl, inked_same _ _ w₁.1.0 w₂.1.0 w₁.0 w₂.0 p q)

pub say_transfer_one : Determined _ say-transfer-kinds.ps say-transfer-kinds.r say-transfer-reads.Post (Ink × List ℕ) (λ _ _ w. (w.1.0, w.0))
say_transfer_one κs a r₁ r₂ w₁ w₂ p q = (refl, inked_same _ _ w₁.1.0 w₂.1.0 w₁.0 w₂.0 p q)

pub say_space_one : Determined _ say-space-kinds.ps say-space-kinds.r say-space-reads.Post (Ink × List ℕ) (λ _ _ w. (w.1.0, w.0))
say_space_one κs a r₁ r₂ w₁ w₂ p q = (refl, inked_same _ _ w₁.1.0 w₂.1.0 w₁.0 w₂.0 p q)

pub say_info_one : Determined _ say-info-kinds.ps say-info-kinds.r say-info-reads.Post (Ink × List ℕ) (λ _ _ w. (w.1.0, w.0))
say_info_one κs a r₁ r₂ w₁ w₂ p q = (refl, inked_same _ _ w₁.1.0 w₂.1.0 w₁.0 w₂.0 p q)

pub say_read_one : Determined _ say-read-kinds.ps say-read-kinds.r say-read-reads.Post (Ink × List ℕ) (λ _ _ w. (w.1.0, w.0))
say_read_one κs a r₁ r₂ w₁ w₂ p q = (refl, inked_same _ _ w₁.1.0 w₂.1.0 w₁.0 w₂.0 p q)

pub say_digest_one : Determined _ say-digest-kinds.ps say-digest-kinds.r say-digest-reads.Post (Ink × List ℕ) (λ _ _ w. (w.1.0, w.0))
say_digest_one κs a r₁ r₂ w₁ w₂ p q = (refl, inked_same _ _ w₁.1.0 w₂.1.0 w₁.0 w₂.0 p q)

pub say_bytes_one : Determined _ say-bytes-kinds.ps say-bytes-kinds.r say-bytes-reads.Post (Ink × List ℕ) (λ _ _ w. (w.1.0, w.0))
say_bytes_one κs a r₁ r₂ w₁ w₂ p q = (refl, inked_same _ _ w₁.1.0 w₂.1.0 w₁.0 w₂.0 p q)
