-- What get info tells, from the decoded entry.
use Rattle.model.specs.Kinds.{kind_number}
use Rattle.model.specs.declared.Info.{Info}
use Rattle.model.specs.declared.Entry.{Entry}

-- what get info tells of an entry, from the decoded entry
abbrev pub told : Entry → Info
told x = record { kind = kind_number x.kind; ftype = x.ftype; access = x.access; aux = x.aux; used = x.used; eof = x.eof; created = x.created; modified = x.modified }
