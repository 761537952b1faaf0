-- `checks::Volume::unlike_by_tree` meets its contract: no twins among the gathered names.
use mathlib.Core.Path.{◌≡◌, sym, ap, ◌∙◌}
use Prim.Native.Nat.{◌-◌}
use native.Mathlib.Omega.{arith}
use lib.ListN.{take, drop, length-take}
use Rattle.model.specs.Bytes.{view}
use Rattle.model.specs.Directory.{chain, slots}
use Rattle.checks.specs.Inside.{actives}
use Rattle.twins.specs.Twins.{no_twins}
use Rattle.checks.proofs.Gathered.{twins_actives, entries_stored, few_active}
use Rattle.checks.proofs.Volume.unlike_by_tree.Goals as goal

pub no_twins-requires : goal.no_twins-requires
no_twins-requires c =
    let a = c.args in
    let self = a.self.now in
    let v = view self.img.now in
    let g = c.gather_entries-count in
    let z : g.result - 0 ≡ g.result = omega arith in
    let e : take (g.result - 0) g.new.list ≡ actives v (drop 1 (slots (chain v a.key a.used))) = rw z g.ensures.list_after in
    let few = few_active v a.key a.used c.requires.few in record {
      places_in_bounds = (simp length-take (omega arith), simp length-take (omega (arith, few)));
      stored = rw (e, self.readable.0) (entries_stored v self.n (chain v a.key a.used) c.requires.inside);
    }

pub returns : goal.returns
returns c =
    let a = c.args in
    let self = a.self.now in
    let v = view self.img.now in
    let g = c.gather_entries-count in
    let z : g.result - 0 ≡ g.result = omega arith in
    let e : take (g.result - 0) g.new.list ≡ actives v (drop 1 (slots (chain v a.key a.used))) = rw z g.ensures.list_after in
    c.no_twins.ensures ∙ ap (no_twins v) e ∙ sym (twins_actives v (drop 1 (slots (chain v a.key a.used))))
