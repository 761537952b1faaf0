-- `release::give_chain` meets its contract. The loop's invariant: the chain from b on is left to give back.
use Prim.Native.Nat.{◌-◌}
use mathlib.Core.Path.{◌≡◌}
use lib.ListN.{length}
use Rattle.model.specs.Bytes.{view}
use Rattle.release.proofs.Laws.{Chaining}
use Rattle.release.proofs.give_chain.Given as goal

abbrev pub invariant-loop : goal.invariant-loop
invariant-loop l = (length l.img ≡ length l.initial.img) × Chaining l.n (view l.initial.img) l.key l.used (view l.img) l.b (l.used - l.counter)
