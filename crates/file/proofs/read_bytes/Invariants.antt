-- `file::read_bytes` meets its contract. After each turn the first bytes of the buffer are the file's, as many as are done.
use mathlib.Core.Path.{◌≡◌}
use Prim.Native.Nat.{◌-◌, ◌≤◌}
use Rattle.model.specs.Bytes.{view, paste, from}
use Rattle.model.specs.File.{file_byte}
use Rattle.file.proofs.read_bytes.Given as goal

abbrev pub invariant-loop-done : goal.invariant-loop-done
invariant-loop-done l =
    (l.done ≤ l.count) × (view l.buffer ≡ paste (view l.initial.buffer) 0 l.done (from (file_byte (view l.img) l.height l.key) l.position))

abbrev pub decreases-loop-done : goal.decreases-loop-done
decreases-loop-done l = l.count - l.done
