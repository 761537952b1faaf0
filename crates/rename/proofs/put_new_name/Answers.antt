-- `rename::put_new_name` meets its contract. The kind is the one that stands there.
use native.Mathlib.Omega.{arith}
use borrow.Author.Rules.{rules}
use Rattle.rename.proofs.put_new_name.Goals as goal

pub overflow_cast-kind : goal.overflow_cast-kind
overflow_cast-kind c = omega (arith, c.slice_known-1.given c.args.at)

pub put_name-requires : goal.put_name-requires
put_name-requires c = (search rules, search rules, omega (arith, c.slice_known-1.given c.args.at))
