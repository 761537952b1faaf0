-- `checks::count_active` meets its contract. The slots behind the header, and those of the blocks after the first.
use mathlib.Core.Path.{ap, ◌∙◌}
use Prim.Native.Nat.{◌+◌, ◌-◌, ◌*◌}
use native.Mathlib.Omega.{arith}
use Rattle.model.specs.Bytes.{view}
use Rattle.model.specs.Directory.{active, chain, slots}
use Rattle.checks.proofs.Laws.{inside_chain, entries_chain, active_ahead}
use Rattle.checks.proofs.count_active.Goals as goal

pub active_in_blocks-requires : goal.active_in_blocks-requires
active_in_blocks-requires c =
    let a = c.args in
    let after = (inside_chain (view a.img.now) a.n a.key a.used (omega arith) c.requires.inside).1 in record { few = omega arith; inside = rw c.next_of.ensures after }

pub returns : goal.returns
returns c =
    let a = c.args in
    let v = view a.img.now in
    let all = ap (active v) (entries_chain v a.key a.used (omega arith)) ∙ active_ahead v (a.key * 13 + 1) a.key (a.used - 1) in
    let after = c.active_in_blocks.ensures.0 ∙ ap (λ b. active v (slots (chain v b (a.used - 1)))) c.next_of.ensures in
    omega arith
