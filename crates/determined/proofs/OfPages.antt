-- Equal results of the functions that show a page of text.
use Prim.Native.Nat.{ℕ}
use mathlib.Core.Path.{◌≡◌, sym, ap, ◌∙◌}
use mathlib.Core.List.{List}
use lib.ListN.{length}
use Rattle.model.specs.Bytes.{view, paste, from}
use Rattle.ink.specs.Ink.{Shows}
use Rattle.determined.proofs.Determined.{Determined, same_list}
use Rattle.listing.proofs.page_of_volume.Reads as page-of-volume-reads
use Rattle.listing.proofs.page_of_volume.Kinds as page-of-volume-kinds
use Rattle.listing.proofs.page_of_refusal.Reads as page-of-refusal-reads
use Rattle.listing.proofs.page_of_refusal.Kinds as page-of-refusal-kinds
use Rattle.listing.proofs.page_of_too_large.Reads as page-of-too-large-reads
use Rattle.listing.proofs.page_of_too_large.Kinds as page-of-too-large-kinds
use Rattle.pages.proofs.catalog_page.Reads as catalog-page-reads
use Rattle.pages.proofs.catalog_page.Kinds as catalog-page-kinds

page_same : (text : List ℕ) (offset : ℕ) (old : List ℕ) (r₁ r₂ : ℕ) (l₁ l₂ : List ℕ) → Shows text offset old r₁ l₁ → Shows text offset old r₂ l₂ → (r₁ ≡ r₂) × (l₁ ≡ l₂)
page_same text offset old r₁ r₂ l₁ l₂ p q =
    let e : r₁ ≡ r₂ = p.shown ∙ sym q.shown in
    (e, same_list l₁ l₂ (length old) (paste (view old) 0 r₂ (from (view text) offset)) p.size q.size (p.bytes ∙ ap (λ r. paste (view old) 0 r (from (view text) offset)) e) q.bytes)

pub page_of_volume_one : Determined _ page-of-volume-kinds.ps page-of-volume-kinds.r page-of-volume-reads.Post (List ℕ) (λ _ _ w. w.1.1.1.0)
page_of_volume_one κs a r₁ r₂ w₁ w₂ p q = page_same _ _ _ r₁ r₂ w₁.1.1.1.0 w₂.1.1.1.0 p q

pub page_of_refusal_one : Determined _ page-of-refusal-kinds.ps page-of-refusal-kinds.r page-of-refusal-reads.Post (List ℕ) (λ _ _ w. w.1.1.0)
page_of_refusal_one κs a r₁ r₂ w₁ w₂ p q = page_same _ _ _ r₁ r₂ w₁.1.1.0 w₂.1.1.0 p q

pub page_of_too_large_one : Determined _ page-of-too-large-kinds.ps page-of-too-large-kinds.r page-of-too-large-reads.Post (List ℕ) (λ _ _ w. w.1.0)
page_of_too_large_one κs a r₁ r₂ w₁ w₂ p q = page_same _ _ _ r₁ r₂ w₁.1.0 w₂.1.0 p q

pub catalog_page_one : Determined _ catalog-page-kinds.ps catalog-page-kinds.r catalog-page-reads.Post (List ℕ) (λ _ _ w. w.1.1.0)
catalog_page_one κs a r₁ r₂ w₁ w₂ p q = page_same _ _ _ r₁ r₂ w₁.1.1.0 w₂.1.1.0 p q
