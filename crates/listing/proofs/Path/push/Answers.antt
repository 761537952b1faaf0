-- `Path::push` meets its contract. The path's bytes, then the slash, then the name.
use native.Mathlib.Omega.{arith}
use mathlib.Core.Path.{◌≡◌, refl, sym, ap, ◌∙◌}
use mathlib.Core.List.{◌∷◌, ◌++◌}
use Prim.Native.Nat.{◌+◌}
use lib.ListN.{length}
use Rattle.std.proofs.lemmas.List.{length-take-le}
use Rattle.model.specs.Bytes.{view}
use Rattle.model.specs.Names.{slash, name_size}
use Rattle.model.specs.Catalog.{text}
use Rattle.ink.proofs.TextLaws.{text_slice}
use Rattle.listing.proofs.PathLaws.{put_behind}
use Rattle.listing.proofs.Path.push.Goals as goal

pub returns-clause-longer : goal.returns-clause-longer
returns-clause-longer c =
    let a = c.args in
    let p = c.self.inside in
    let held : length a.self.now ≡ p.len = ap length (sym c.self.view_is) ∙ length-take-le p.len p.bytes (omega arith) in
    let name : c.copy_from_slice.new.self ≡ text (view a.img.now) (a.at + 1) (name_size (view a.img.now) a.at) = c.copy_from_slice.ensures.after ∙ text_slice a.img.now _ _ _ refl (omega arith) in
    put_behind p.bytes p.len slash _ _ _ (omega arith) (omega arith)
    ∙ ap (λ l. l ++ (slash ∷ c.copy_from_slice.new.self)) c.self.view_is
    ∙ ap (λ l. a.self.now ++ (slash ∷ l)) name
