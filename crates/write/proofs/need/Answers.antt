-- `write::need` meets its contract: the need of the file blocks touched.
use Prim.Native.Nat.{◌/◌}
use mathlib.Core.Path.{ap, ◌∙◌}
use Rattle.model.specs.Bytes.{view}
use Rattle.model.specs.Kinds.{key_of}
use Rattle.model.specs.File.{height_for}
use Rattle.model.specs.Grow.{need as needs-of}
use Rattle.model.specs.Write.{touched}
use Rattle.growth.proofs.Laws.{fit_deep}
use Rattle.opening.specs.Sorts.{height_of}
use Rattle.held.proofs.HeldLaws.{held_fit, held_tall}
use Rattle.write.proofs.WorkLaws.{goal_tall}
use native.Mathlib.Omega.{arith}
use Rattle.write.proofs.need.Goals as goal

pub need-requires : goal.need-requires
need-requires c =
    let a = c.args in
    let H = c.requires.img_len.1 in
    let hh = c.requires.height_value in
    let g = c.height_for-goal.ensures in record { n_bound = ((held_fit H).small, c.requires.img_len.0, rw (hh, g.0) (goal_tall a.file.entry.eof _ (height_of a.file.entry.kind) a.position a.size (held_tall H) c.largest-end.ensures), omega (arith, g.1), rw (hh, c.key_of-key.ensures) (fit_deep (height_of a.file.entry.kind) (held_fit H))); p_lt_end = (omega arith, omega arith) }

pub returns : goal.returns
returns c =
    let a = c.args in
    let v = view a.img.now in
    let p = a.position / 512 in
    let t = touched a.position a.size in
    c.need.ensures
    ∙ ap (λ h. needs-of v h c.key_of-key.result c.height_for-goal.result p t) c.requires.height_value
    ∙ ap (λ k. needs-of v (height_of a.file.entry.kind) k c.height_for-goal.result p t) c.key_of-key.ensures
    ∙ ap (λ g. needs-of v (height_of a.file.entry.kind) (key_of a.file.entry.kind) g p t) (c.height_for-goal.ensures.0 ∙ ap height_for c.largest-end.ensures)
