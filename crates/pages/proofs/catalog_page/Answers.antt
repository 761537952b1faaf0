-- `pages::catalog_page` meets its contract.
use Prim.Native.Nat.{◌≤◌, ◌<◌}
use mathlib.Core.Path.{sym, ◌∙◌}
use lib.ListN.{length}
use native.Mathlib.Omega.{arith}
use Rattle.model.specs.Bytes.{view}
use Rattle.model.specs.Catalog.{catalog_most}
use Rattle.opening.proofs.VolumeLaws.{volume_sound}
use Rattle.pages.proofs.CatalogLaws.{too_large, refused_line_law, listed}
use Rattle.pages.proofs.catalog_page.Goals as goal

pub returns-then-img-gt-MOST : goal.returns-then-img-gt-MOST
returns-then-img-gt-MOST c =
    let l = c.args.img.now in
    let h : catalog_most < length l = omega arith in
    rw (too_large (length l) (view l) h) c.page_of_too_large.ensures

pub page_of_volume-requires : goal.page_of_volume-requires
page_of_volume-requires c =
    let l = c.args.img.now in
    let f = volume_sound (length l) (view l) _ (sym c.volume_in.ensures ∙ c.in-Ok.is) in
    (f.whole, f.sane)

pub returns-in-Err : goal.returns-in-Err
returns-in-Err c =
    let l = c.args.img.now in
    let h : length l ≤ catalog_most = omega arith in
    rw (refused_line_law (length l) (view l) _ h (sym c.volume_in.ensures ∙ c.in-Err.is)) (rw (← c.from-number.ensures) c.page_of_refusal.ensures)

pub returns-in-Ok : goal.returns-in-Ok
returns-in-Ok c =
    let l = c.args.img.now in
    let h : length l ≤ catalog_most = omega arith in
    rw (listed (length l) (view l) _ h (sym c.volume_in.ensures ∙ c.in-Ok.is)) c.page_of_volume.ensures
