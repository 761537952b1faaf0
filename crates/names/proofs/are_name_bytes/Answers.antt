-- `names::are_name_bytes` meets its contract: each byte of the part is a name's, or one is not.
use Rattle.std.proofs.Common.{rules, ◌-◌}
use Rattle.names.proofs.PartLaws.{bytes_decided}
use Rattle.names.proofs.are_name_bytes.Goals as goal

pub returns : goal.returns
returns c = let a = c.args in bytes_decided a.s.now a.start (a.end - a.start) c.all.result (search rules)
