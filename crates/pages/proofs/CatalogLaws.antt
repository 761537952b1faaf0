-- What `catalog` prints, by the size of the image and by what it is.
use Rattle.std.specs.Prelude.{Ok, Err}
use Prim.Native.Nat.{ℕ, ◌≤◌, ◌<◌}
use mathlib.Core.Path.{◌≡◌, refl, sym, ap, ◌∙◌}
use mathlib.Core.List.{[]}
use borrow.Author.Tests.{lt-ltb, le-ltb, eq-eqb, ne_eqb}
use Rattle.model.specs.Bytes.{Bytes}
use Rattle.model.specs.Refusals.{refusal_number, first}
use Rattle.model.specs.Info.{space_number}
use Rattle.model.specs.Catalog.{catalog, catalog_most, listing, refused_line, too_large_line}
use Rattle.model.specs.declared.Refusal.{Refusal}
use Rattle.model.proofs.RefusalLaws.{number_refuses}
use Rattle.opening.specs.Opened.{volume_in}
use Rattle.opening.proofs.VolumeLaws.{volume_or, volume_first, volume_sound}

pub too_large : (len : ℕ) (v : Bytes) → catalog_most < len → catalog len v ≡ too_large_line
unfolding catalog
too_large len v h = rw (lt-ltb catalog_most len h, catalog) refl

number : (len : ℕ) (v : Bytes) → space_number len v ≡ volume_or (volume_in len v) 0
unfolding space_number first
number len v = volume_first len v []

pub refused_line_law : (len : ℕ) (v : Bytes) (r : Refusal) → len ≤ catalog_most → volume_in len v ≡ Err r → catalog len v ≡ refused_line (refusal_number r)
unfolding catalog
refused_line_law len v r h e =
    let k : space_number len v ≡ refusal_number r = number len v ∙ ap (λ o. volume_or o 0) e in
    rw (le-ltb catalog_most len h, ne_eqb (space_number len v) 0 (λ z. number_refuses r (sym k ∙ z)), catalog) (ap refused_line k)

pub listed : (len : ℕ) (v : Bytes) (n : ℕ) → len ≤ catalog_most → volume_in len v ≡ Ok n → catalog len v ≡ listing n v
unfolding catalog
listed len v n h e =
    let k : space_number len v ≡ 0 = number len v ∙ ap (λ o. volume_or o 0) e in
    rw (le-ltb catalog_most len h, eq-eqb (space_number len v) 0 k, catalog) (ap (λ m. listing m v) (sym (volume_sound len v n e).size))
