-- `checks::Volume::gather_entries` meets its contract. The slots behind the header, and those of the blocks after the first.
use mathlib.Core.Path.{◌≡◌, sym, ap, ◌∙◌}
use mathlib.Core.List.{◌++◌}
use Prim.Native.Nat.{◌+◌, ◌-◌, ◌*◌}
use native.Mathlib.Omega.{arith}
use Rattle.model.specs.Bytes.{view, run}
use Rattle.model.specs.Directory.{active, next, chain, slots}
use Rattle.checks.specs.Inside.{actives}
use Rattle.checks.proofs.Laws.{inside_chain, entries_chain, active_ahead}
use Rattle.checks.proofs.Gathered.{actives_ahead}
use Rattle.checks.proofs.Volume.gather_entries.Goals as goal

pub gather_between-count-requires : goal.gather_between-count-requires
gather_between-count-requires c =
    let a = c.args in
    let self = a.self.now in
    let v = view self.img.now in
    let on = (inside_chain v self.n a.key a.used (omega arith) c.requires.inside).0 in
    let all = ap (active v) (entries_chain v a.key a.used (omega arith)) ∙ active_ahead v (a.key * 13 + 1) a.key (a.used - 1) in record { slots = (omega arith, omega arith); start_in_bounds = omega arith }

pub gather_in_blocks-requires : goal.gather_in_blocks-requires
gather_in_blocks-requires c =
    let a = c.args in
    let self = a.self.now in
    let v = view self.img.now in
    let after = (inside_chain v self.n a.key a.used (omega arith) c.requires.inside).1 in
    let all = ap (active v) (entries_chain v a.key a.used (omega arith)) ∙ active_ahead v (a.key * 13 + 1) a.key (a.used - 1) in
    rw c.next_of.ensures record { inside = after; blocks_in_bounds = omega arith }

pub returns : goal.returns
returns c =
    let a = c.args in
    let self = a.self.now in
    let v = view self.img.now in
    let b = c.next_of.result in
    let first = entries_chain v a.key a.used (omega arith) in
    let all = ap (active v) first ∙ active_ahead v (a.key * 13 + 1) a.key (a.used - 1) in
    let gathered = ap (actives v) first ∙ actives_ahead v (a.key * 13 + 1) a.key (a.used - 1) in
    let after : active v (slots (chain v b (a.used - 1))) ≡ active v (slots (chain v (next v a.key) (a.used - 1))) =
    ap (λ b. active v (slots (chain v b (a.used - 1)))) c.next_of.ensures in record {
      value = omega arith;
      list_after = c.gather_in_blocks.ensures.list_after
          ∙ ap (λ z. z ++ actives v (slots (chain v b (a.used - 1)))) c.gather_between-count.ensures.list_after
          ∙ ap (λ b. actives v (run (a.key * 13 + 1) (a.key * 13 + 13 - (a.key * 13 + 1))) ++ actives v (slots (chain v b (a.used - 1)))) c.next_of.ensures
          ∙ sym gathered;
    }
