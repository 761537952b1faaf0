-- `replies::digest` meets its contract. The invariant says what is left to be mixed in.
use Prim.Native.Nat.{◌-◌}
use mathlib.Core.Path.{◌≡◌}
use lib.ListN.{length}
use Rattle.model.specs.Bytes.{view}
use Rattle.replies.specs.Lines.{digest_from, digest}
use Rattle.replies.proofs.digest.Given as goal

abbrev pub invariant-loop-byte : goal.invariant-loop-byte
invariant-loop-byte l = (digest_from (view l.run) l.byte-index (length l.run - l.byte-index) l.hash ≡ digest (view l.run) (length l.run))
