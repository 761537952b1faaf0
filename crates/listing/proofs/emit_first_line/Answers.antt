-- `listing::emit_first_line` meets its contract. On a sound volume the header and the map lie inside the image.
use native.Mathlib.Omega.{arith}
use mathlib.Core.Path.{refl, ap, ◌∙◌}
use mathlib.Core.List.{◌∷◌}
use Rattle.model.specs.Bytes.{view}
use Rattle.model.specs.Map.{room}
use Rattle.model.specs.Directory.{at}
use Rattle.model.specs.Catalog.{space', decimal, first_line}
use Rattle.ink.proofs.InkLaws.{prints_as, ◌then◌}
use Rattle.ink.proofs.TextLaws.{text_slice}
use Rattle.listing.proofs.WalkLaws.{map_inside, volume_large}
use Rattle.listing.proofs.emit_first_line.Goals as goal

pub free_blocks-free-requires : goal.free_blocks-free-requires
free_blocks-free-requires c = omega (arith, map_inside _ _ _ c.requires.1 c.get_word.ensures.value)

pub returns : goal.returns
unfolding first_line at
returns c =
    let a = c.args in
    let large = volume_large a.n a.img.now c.requires.1 c.requires.0 in
    prints_as (text_slice a.img.now 1029 _ _ refl (omega arith)) c.run.ensures
    then c.decimal.ensures
    then prints_as (ap (λ x. space' ∷ decimal x) (c.free_blocks-free.ensures.0 ∙ ap (λ m. room m (view a.img.now) a.n) c.get_word.ensures.value)) c.decimal-2.ensures
    then c.byte.ensures
