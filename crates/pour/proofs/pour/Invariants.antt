-- `pour::pour` meets its contract: what is left to pour gives the same image, and the hint stays below every free block.
use Prim.Native.Nat.{◌-◌, ◌*◌, ◌/◌}
use mathlib.Core.Path.{◌≡◌}
use lib.ListN.{length}
use Rattle.model.specs.Bytes.{view}
use Rattle.model.specs.Directory.{map_place}
use Rattle.model.specs.Write.{poured}
use Rattle.pour.specs.Pouring.{Hinted, Pourable}
use Rattle.pour.proofs.pour.Given as goal

abbrev pub invariant-loop-p : goal.invariant-loop-p
invariant-loop-p l =
    (length l.img ≡ l.n * 512)
    × Pourable l.n (view l.img) l.height l.key l.p (l.end - l.p)
    × Hinted l.n (view l.img) l.hint
    × (poured map_place l.n (view l.img) l.height l.key l.p (l.end - l.p) l.position (view l.buffer) (length l.buffer)
    ≡ poured map_place l.n (view l.initial.img) l.height l.key (l.position / 512) (l.end - l.position / 512) l.position (view l.buffer) (length l.buffer))
