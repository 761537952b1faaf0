-- `twins::attach` meets its contract: the new node is stored, and then a child on one side or on the other.
use mathlib.Core.Path.{refl, ap, ◌∙◌}
use native.Mathlib.Omega.{arith}
use lib.ListN.{set, length-set}
use Rattle.model.specs.Bytes.{Bytes, put}
use Rattle.twins.specs.Twins.{leaf, attached}
use Rattle.twins.proofs.NodeLaws.{lefts_set, rights_set, lefts_kept, rights_kept}
use Rattle.twins.proofs.attach.Goals as goal

pub returns-then-spot : goal.returns-then-spot
unfolding attached
returns-then-spot c =
    let s = c.args in
    let ns = set s.nodes.now s.k leaf in
    rw (c.if-spot.true, attached) record {
      left_after = lefts_kept ns s.spot.node _ (simp length-set (omega arith)) refl ∙ lefts_set s.nodes.now s.k leaf (omega arith);
      right_after = rights_set ns s.spot.node _ (simp length-set (omega arith)) ∙ ap (λ (g : Bytes). put g s.spot.node s.k) (rights_set s.nodes.now s.k leaf (omega arith));
    }

pub returns-else-spot : goal.returns-else-spot
unfolding attached
returns-else-spot c =
    let s = c.args in
    let ns = set s.nodes.now s.k leaf in
    rw (c.if-spot.false, attached) record {
      left_after = lefts_set ns s.spot.node _ (simp length-set (omega arith)) ∙ ap (λ (g : Bytes). put g s.spot.node s.k) (lefts_set s.nodes.now s.k leaf (omega arith));
      right_after = rights_kept ns s.spot.node _ (simp length-set (omega arith)) refl ∙ rights_set s.nodes.now s.k leaf (omega arith);
    }
