-- `directory::first_in` meets its contract: what is left of the chain decides, and may be looked at.
use mathlib.Core.Path.{◌≡◌}
use Prim.Native.Nat.{◌-◌}
use Rattle.model.specs.Bytes.{view}
use Rattle.directory.specs.Search.{listed, LooksAt, Tells, first_of}
use Rattle.directory.proofs.SearchLaws.{rest, Searching}
use Rattle.directory.proofs.first_in.Given as goal

abbrev pub invariant-loop : goal.invariant-loop
invariant-loop g l =
    Searching l.n (view l.img) l.block (l.used - l.counter) l.first
    × LooksAt (goal.F-pre g l.look) (rest (view l.img) l.block (l.used - l.counter) l.first)
    × ((f : _) → Tells (goal.F-post g l.look) f → first_of f (listed (view l.img) l.key l.used) ≡ first_of f (rest (view l.img) l.block (l.used - l.counter) l.first))
