-- Equal results of the public functions of store.
use mathlib.Core.Path.{refl, sym, ◌∙◌}
use Rattle.model.specs.Bytes.{Bytes, view}
use Rattle.determined.proofs.Determined.{Determined, Nothing-seen, none_seen}
use Rattle.store.proofs.least.Reads as least-reads
use Rattle.store.proofs.least.Kinds as least-kinds
use Rattle.store.proofs.largest.Reads as largest-reads
use Rattle.store.proofs.largest.Kinds as largest-kinds
use Rattle.store.proofs.get_word.Reads as get-word-reads
use Rattle.store.proofs.get_word.Kinds as get-word-kinds
use Rattle.store.proofs.get_long.Reads as get-long-reads
use Rattle.store.proofs.get_long.Kinds as get-long-kinds
use Rattle.store.proofs.get_pointer.Reads as get-pointer-reads
use Rattle.store.proofs.get_pointer.Kinds as get-pointer-kinds
use Rattle.store.proofs.same_bytes.Reads as same-bytes-reads
use Rattle.store.proofs.same_bytes.Kinds as same-bytes-kinds
use Rattle.store.proofs.all_zero.Reads as all-zero-reads
use Rattle.store.proofs.all_zero.Kinds as all-zero-kinds
use Rattle.store.proofs.put_byte.Reads as put-byte-reads
use Rattle.store.proofs.put_byte.Kinds as put-byte-kinds
use Rattle.store.proofs.put_word.Reads as put-word-reads
use Rattle.store.proofs.put_word.Kinds as put-word-kinds
use Rattle.store.proofs.put_long.Reads as put-long-reads
use Rattle.store.proofs.put_long.Kinds as put-long-kinds
use Rattle.store.proofs.copy_run.Reads as copy-run-reads
use Rattle.store.proofs.copy_run.Kinds as copy-run-kinds
use Rattle.store.proofs.place_of.Reads as place-of-reads
use Rattle.store.proofs.place_of.Kinds as place-of-kinds
use Rattle.store.proofs.fill_run.Reads as fill-run-reads
use Rattle.store.proofs.fill_run.Kinds as fill-run-kinds
use Rattle.store.proofs.clear_run.Reads as clear-run-reads
use Rattle.store.proofs.clear_run.Kinds as clear-run-kinds

pub least_one : Determined _ least-kinds.ps least-kinds.r least-reads.Post Nothing-seen (λ _ _ _. none_seen)
least_one κs a r₁ r₂ w₁ w₂ p q = (p ∙ sym q, refl)

pub largest_one : Determined _ largest-kinds.ps largest-kinds.r largest-reads.Post Nothing-seen (λ _ _ _. none_seen)
largest_one κs a r₁ r₂ w₁ w₂ p q = (p ∙ sym q, refl)

pub get_word_one : Determined _ get-word-kinds.ps get-word-kinds.r get-word-reads.Post Nothing-seen (λ _ _ _. none_seen)
get_word_one κs a r₁ r₂ w₁ w₂ p q = (p.0 ∙ sym q.0, refl)

pub get_long_one : Determined _ get-long-kinds.ps get-long-kinds.r get-long-reads.Post Nothing-seen (λ _ _ _. none_seen)
get_long_one κs a r₁ r₂ w₁ w₂ p q = (p.0 ∙ sym q.0, refl)

pub get_pointer_one : Determined _ get-pointer-kinds.ps get-pointer-kinds.r get-pointer-reads.Post Nothing-seen (λ _ _ _. none_seen)
get_pointer_one κs a r₁ r₂ w₁ w₂ p q = (p.0 ∙ sym q.0, refl)

pub same_bytes_one : Determined _ same-bytes-kinds.ps same-bytes-kinds.r same-bytes-reads.Post Nothing-seen (λ _ _ _. none_seen)
same_bytes_one κs a r₁ r₂ w₁ w₂ p q = (p ∙ sym q, refl)

pub all_zero_one : Determined _ all-zero-kinds.ps all-zero-kinds.r all-zero-reads.Post Nothing-seen (λ _ _ _. none_seen)
all_zero_one κs a r₁ r₂ w₁ w₂ p q = (p ∙ sym q, refl)

pub put_byte_one : Determined _ put-byte-kinds.ps put-byte-kinds.r put-byte-reads.Post Bytes (λ _ _ w. view w.0)
put_byte_one κs a r₁ r₂ w₁ w₂ p q = (refl, p ∙ sym q)

pub put_word_one : Determined _ put-word-kinds.ps put-word-kinds.r put-word-reads.Post Bytes (λ _ _ w. view w.0)
put_word_one κs a r₁ r₂ w₁ w₂ p q = (refl, p ∙ sym q)

pub put_long_one : Determined _ put-long-kinds.ps put-long-kinds.r put-long-reads.Post Bytes (λ _ _ w. view w.0)
put_long_one κs a r₁ r₂ w₁ w₂ p q = (refl, p ∙ sym q)

pub copy_run_one : Determined _ copy-run-kinds.ps copy-run-kinds.r copy-run-reads.Post Bytes (λ _ _ w. view w.0)
copy_run_one κs a r₁ r₂ w₁ w₂ p q = (refl, p ∙ sym q)

pub place_of_one : Determined _ place-of-kinds.ps place-of-kinds.r place-of-reads.Post Nothing-seen (λ _ _ _. none_seen)
place_of_one κs a r₁ r₂ w₁ w₂ p q = (p.0 ∙ sym q.0, refl)

pub fill_run_one : Determined _ fill-run-kinds.ps fill-run-kinds.r fill-run-reads.Post Bytes (λ _ _ w. view w.0)
fill_run_one κs a r₁ r₂ w₁ w₂ p q = (refl, p ∙ sym q)

pub clear_run_one : Determined _ clear-run-kinds.ps clear-run-kinds.r clear-run-reads.Post Bytes (λ _ _ w. view w.0)
clear_run_one κs a r₁ r₂ w₁ w₂ p q = (refl, p ∙ sym q)
