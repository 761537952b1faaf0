-- `looks::blocks_read` meets its contract.
use Prim.Native.Nat.{◌-◌, ◌≤◌, max}
use mathlib.Core.Path.{◌≡◌}
use lib.ListN.{length}
use Rattle.model.specs.Bytes.{view}
use Rattle.looks.specs.Looks.{read_until, blocks_read}
use Rattle.looks.proofs.blocks_read.Given as goal

abbrev pub invariant-loop-read : goal.invariant-loop-read
invariant-loop-read l =
    (l.read ≤ max l.most 1)
    × (read_until (view l.img) l.most l.goal (l.most - l.read) l.block l.read ≡ blocks_read (length l.img) (view l.img) l.key l.goal)
