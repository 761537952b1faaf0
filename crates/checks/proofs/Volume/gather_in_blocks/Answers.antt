-- `checks::Volume::gather_in_blocks` meets its contract. What was gathered and what is still to be gathered are the whole.
use mathlib.Core.List.{append_assoc, ◌++◌}
use mathlib.Core.Path.{◌≡◌, refl, sym, ap, ◌∙◌}
use Prim.Native.Nat.{◌+◌, ◌-◌}
use native.Mathlib.Omega.{arith}
use lib.ListN.{take}
use Rattle.model.specs.Bytes.{view}
use Rattle.model.specs.Directory.{chain, slots}
use Rattle.checks.specs.Inside.{actives}
use Rattle.checks.proofs.Laws.{coming, coming_next, active_next, active_none}
use Rattle.checks.proofs.Gathered.{actives_next, gathered_none}
use Rattle.checks.proofs.Volume.gather_in_blocks.Goals as goal

pub loop-done-init : goal.loop-done-init
loop-done-init c =
    let a = c.args in
    let self = a.self.now in
    let z : a.blocks - 0 ≡ a.blocks = omega arith in
    (coming (view self.img.now) self.n a.first a.blocks _ z c.requires.inside, rw z refl, rw z refl)

pub gather_between-count-requires : goal.gather_between-count-requires
gather_between-count-requires c =
    let a = c.args in
    let self = a.self.now in
    let l = c.loop-done in
    let counted = active_next (view self.img.now) self.n l.block (a.blocks - l._done) _ _ refl refl (omega arith) in
    record { slots = (omega arith, omega arith); start_in_bounds = omega arith }

pub loop-done-preserved : goal.loop-done-preserved
loop-done-preserved c =
    let a = c.args in
    let self = a.self.now in
    let v = view self.img.now in
    let l = c.loop-done in
    let b = c.next_of-block in
    let left = a.blocks - l._done in
    let k = a.blocks - (l._done + 1) in
    let counted = active_next v self.n l.block left b.result k b.ensures (omega arith) (omega arith) in
    let gathered = actives_next v self.n l.block left b.result k b.ensures (omega arith) (omega arith) in (
      coming_next v self.n l.block left _ _ b.ensures (omega arith) (omega arith) l.invariant.0.inside,
      omega arith,
      ap (λ z. z ++ actives v (slots (chain v b.result k))) c.gather_between-count.ensures.list_after
          ∙ append_assoc (take l.count l.list) _ _
          ∙ ap (λ z. take l.count l.list ++ z) (sym gathered)
          ∙ l.invariant.2,
    )

pub returns : goal.returns
returns c =
    let a = c.args in
    let self = a.self.now in
    let v = view self.img.now in
    let l = c.loop-done in
    let none = active_none v l.block (a.blocks - l._done) (omega arith) in
    record { value = omega arith; list_after = sym (gathered_none v l.block (a.blocks - l._done) (omega arith) (take l.count l.list)) ∙ l.invariant.2 }
