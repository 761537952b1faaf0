-- `growth::raise` meets its contract: what is left to take gives the same file.
use Prim.Native.Nat.{◌-◌, ◌*◌, ◌≤◌}
use mathlib.Core.Path.{◌≡◌}
use lib.ListN.{length}
use Rattle.model.specs.Bytes.{view}
use Rattle.model.specs.Map.{room}
use Rattle.model.specs.Directory.{map_place}
use Rattle.model.specs.Grow.{raised, raised_key}
use Rattle.model.proofs.Laws.Move.{Fit}
use Rattle.growth.proofs.raise.Given as goal

abbrev pub invariant-loop : goal.invariant-loop
invariant-loop l =
    (length l.img ≡ l.n * 512)
    × Fit l.n (view l.img) l.counter 0 l.above
    × (l.goal - l.counter ≤ room map_place (view l.img) l.n)
    × (raised map_place l.n (view l.img) l.above (l.goal - l.counter) ≡ raised map_place l.n (view l.initial.img) l.key (l.goal - l.height))
    × (raised_key map_place l.n (view l.img) l.above (l.goal - l.counter) ≡ raised_key map_place l.n (view l.initial.img) l.key (l.goal - l.height))
