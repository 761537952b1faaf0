-- `script::number_value` meets its contract: the digits left, behind those passed, say the whole number, which stays below a power of ten.
use mathlib.Core.Path.{◌≡◌}
use Prim.Native.Nat.{◌^◌, ◌<◌}
use lib.ListN.{drop}
use Rattle.script.specs.Fields.{decimal_from}
use Rattle.script.proofs.number_value.Given as goal

abbrev pub invariant-loop-c : goal.invariant-loop-c
invariant-loop-c l = (l.value < 10 ^ l.c-index) × (decimal_from l.value (drop l.c-index l.field) ≡ decimal_from 0 l.field)
