-- `Ink::run` meets its contract. The invariant says what has been printed.
use Rattle.std.specs.Prelude.{take}
use Rattle.ink.specs.Ink.{sheet, Prints}
use Rattle.ink.proofs.Ink.run.Given as goal

abbrev pub invariant-loop-byte : goal.invariant-loop-byte
invariant-loop-byte l = Prints (take l.byte-index l.bytes) (sheet l.initial.self l.initial.page) (sheet l.self l.page)
