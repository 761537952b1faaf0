-- `info::entry_info` meets its contract: the kind as its number, all else as it stands in the entry.
use mathlib.Core.Path.{ap}
use Rattle.info.proofs.entry_info.Goals as goal

pub returns : goal.returns
returns c =
    let x = c.args.entry in
    ap (λ k. record { kind = k; ftype = x.ftype; access = x.access; aux = x.aux; used = x.used; eof = x.eof; created = x.created; modified = x.modified }) c.from.ensures
