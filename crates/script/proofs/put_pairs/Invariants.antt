-- `script::put_pairs` meets its contract: the bytes of the pairs passed are pasted.
use mathlib.Core.Path.{◌≡◌}
use Prim.Native.Nat.{◌*◌, ◌≤◌}
use lib.ListN.{length, drop}
use Rattle.model.specs.Bytes.{view, paste}
use Rattle.script.specs.Fields.{pairs}
use Rattle.script.proofs.put_pairs.Given as goal

abbrev pub invariant-loop-i : goal.invariant-loop-i
invariant-loop-i l =
    (l.i-iterator.iter.size ≡ 2)
    × (2 * l.i-iterator.count ≤ length l.digits)
    × (l.i-iterator.iter.rest.now ≡ drop (2 * l.i-iterator.count) l.digits)
    × (view l.room ≡ paste (view l.initial.room) 0 l.i-iterator.count (pairs l.digits))
