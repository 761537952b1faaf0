-- `names::last_start` meets its contract: behind the last slash, or at the start where there is none.
use Rattle.std.proofs.Common.{rules, arith, sym, ◌<◌, length}
use Rattle.model.specs.Bytes.{view}
use Rattle.names.proofs.Laws.{last_at, last_nowhere}
use Rattle.names.proofs.last_start.Goals as goal

pub returns-in-Some : goal.returns-in-Some
returns-in-Some c =
    let s = c.args.path.now in
    let l : c.in-Some.at < length s = search rules in
    (sym (last_at (view s) _ _ l (search rules) (search rules)), omega (arith, l))

pub returns-in-None : goal.returns-in-None
returns-in-None c = let s = c.args.path.now in (sym (last_nowhere (view s) _ (search rules)), omega arith)
