-- `names::are_capitals` meets its contract: each byte of the one part is the capital of the other's, or one is not.
use Rattle.std.proofs.Common.{rules}
use Rattle.names.proofs.PartLaws.{capitals_decided}
use Rattle.names.proofs.are_capitals.Goals as goal

pub returns : goal.returns
returns c = let a = c.args in capitals_decided a.slot.now 1 a.n a.s.now a.start c.all.result (search rules)
