-- Equal results of the functions that lay text on a page.
use mathlib.Core.Path.{◌≡◌, refl, sym, ap, ◌∙◌}
use mathlib.Core.List.{List}
use Prim.Native.Nat.{ℕ}
use lib.ListN.{length}
use Rattle.ink.specs.Ink.{Sheet, sheet, Prints}
use Rattle.ink.specs.declared.Ink.{Ink}
use Rattle.determined.proofs.Determined.{Determined, Nothing-seen, none_seen, same_list}
use Rattle.ink.proofs.Ink.byte.Reads as byte-reads
use Rattle.ink.proofs.Ink.byte.Kinds as byte-kinds
use Rattle.ink.proofs.Ink.run.Reads as run-reads
use Rattle.ink.proofs.Ink.run.Kinds as run-kinds
use Rattle.ink.proofs.Ink.number.Reads as number-reads
use Rattle.ink.proofs.Ink.number.Kinds as number-kinds
use Rattle.ink.proofs.Ink.decimal.Reads as decimal-reads
use Rattle.ink.proofs.Ink.decimal.Kinds as decimal-kinds
use Rattle.ink.proofs.Ink.hex_byte.Reads as hex-byte-reads
use Rattle.ink.proofs.Ink.hex_byte.Kinds as hex-byte-kinds
use Rattle.ink.proofs.hex_digit.Reads as hex-digit-reads
use Rattle.ink.proofs.hex_digit.Kinds as hex-digit-kinds

-- one text on one page
pub prints_same : (text : List ℕ) (s : Sheet) (r₁ r₂ : Ink) (l₁ l₂ : List ℕ) → Prints text s (sheet r₁ l₁) → Prints text s (sheet r₂ l₂) → (r₁ ≡ r₂) × (l₁ ≡ l₂)
prints_same text s r₁ r₂ l₁ l₂ p q =
    let e : sheet r₁ l₁ ≡ sheet r₂ l₂ = p.same ∙ sym q.same in
    (ap ink e, same_list l₁ l₂ (length l₂) _ (ap (λ t. t.size) e) refl (ap (λ t. t.bytes) e) refl)
  where
    ink : Sheet → Ink
    ink t = record { skip = t.skip; at = t.at }

-- the ink and its page
pub inked_same : (text : List ℕ) (s : Sheet) (i₁ i₂ : Ink) (l₁ l₂ : List ℕ) → Prints text s (sheet i₁ l₁) → Prints text s (sheet i₂ l₂) → ◌≡◌ {A = Ink × List ℕ} (i₁, l₁) (i₂, l₂)
inked_same text s i₁ i₂ l₁ l₂ p q = let e = prints_same text s i₁ i₂ l₁ l₂ p q in rw (e.0, e.1)

pub byte_one : Determined _ byte-kinds.ps byte-kinds.r byte-reads.Post (Ink × List ℕ) (λ _ _ w. (w.0, w.1.0))
byte_one κs a r₁ r₂ w₁ w₂ p q = (refl, inked_same _ _ w₁.0 w₂.0 w₁.1.0 w₂.1.0 p q)

pub run_one : Determined _ run-kinds.ps run-kinds.r run-reads.Post (Ink × List ℕ) (λ _ _ w. (w.0, w.1.0))
run_one κs a r₁ r₂ w₁ w₂ p q = (refl, inked_same _ _ w₁.0 w₂.0 w₁.1.0 w₂.1.0 p q)

pub number_one : Determined _ number-kinds.ps number-kinds.r number-reads.Post (Ink × List ℕ) (λ _ _ w. (w.0, w.1.0))
number_one κs a r₁ r₂ w₁ w₂ p q = (refl, inked_same _ _ w₁.0 w₂.0 w₁.1.0 w₂.1.0 p q)

pub decimal_one : Determined _ decimal-kinds.ps decimal-kinds.r decimal-reads.Post (Ink × List ℕ) (λ _ _ w. (w.0, w.1.0))
decimal_one κs a r₁ r₂ w₁ w₂ p q = (refl, inked_same _ _ w₁.0 w₂.0 w₁.1.0 w₂.1.0 p q)

pub hex_byte_one : Determined _ hex-byte-kinds.ps hex-byte-kinds.r hex-byte-reads.Post (Ink × List ℕ) (λ _ _ w. (w.0, w.1.0))
hex_byte_one κs a r₁ r₂ w₁ w₂ p q = (refl, inked_same _ _ w₁.0 w₂.0 w₁.1.0 w₂.1.0 p q)

pub hex_digit_one : Determined _ hex-digit-kinds.ps hex-digit-kinds.r hex-digit-reads.Post Nothing-seen (λ _ _ _. none_seen)
hex_digit_one κs a r₁ r₂ w₁ w₂ p q = (p ∙ sym q, refl)
