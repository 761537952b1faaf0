-- `names::Cursor::step` meets its contract: by the laws of a step: at the end, at a proper name, and else.
use native.Mathlib.Omega.{arith}
use mathlib.Core.Path.{sym}
use Prim.Native.Nat.{◌≤◌, ◌+◌}
use lib.ListN.{length}
use Rattle.std.proofs.lemmas.Grind.{common_steps}
use Rattle.model.specs.Bytes.{view, ◌and◌}
use Rattle.names.specs.Steps.{step_end, step_at, proper_step}
use Rattle.names.proofs.CursorLaws.{step_end_law, step_after, step_fits}
use Rattle.names.proofs.Cursor.step.Goals as goal

pub returns-then-path-self : goal.returns-then-path-self
returns-then-path-self c = sym (step_end_law _ _ _ c.if-path-self.true)

pub is_proper_between-requires : goal.is_proper_between-requires
is_proper_between-requires c =
    let s = c.args in
    let x : step_end (view s.path.now) (length s.path.now) s.self.at ≤ length s.path.now = step_fits _ _ _ (omega arith) in
    let y : s.self.at + 1 ≤ step_end (view s.path.now) (length s.path.now) s.self.at = step_after _ _ _ in
    (omega arith, omega arith)

pub returns-then-is_proper_between : goal.returns-then-is_proper_between
unfolding step_at proper_step ◌and◌
returns-then-is_proper_between c = grind (arith, common_steps)

pub returns-else-is_proper_between : goal.returns-else-is_proper_between
unfolding step_at proper_step ◌and◌
returns-else-is_proper_between c = grind (arith, common_steps)

pub returns-else-path-self-eq-SLASH : goal.returns-else-path-self-eq-SLASH
unfolding step_at proper_step ◌and◌
returns-else-path-self-eq-SLASH c = grind (arith, common_steps)
