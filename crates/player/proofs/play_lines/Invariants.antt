-- `player::play_lines` meets its contract. The loop's invariant: the lines that are left, played on the stage of now, are the whole script played.
--
use Rattle.player.proofs.PlayedLaws.{rest}
use Rattle.player.specs.Played.{rooms, stage, played_all}
use Rattle.model.specs.Bytes.{view}
use lib.ListN.{length}
use mathlib.Core.Path.{◌≡◌}
use Prim.Native.Nat.{◌-◌, ◌≤◌}
use Rattle.player.proofs.play_lines.Given as goal

abbrev pub invariant-loop-at : goal.invariant-loop-at
invariant-loop-at g l =
    (l.at ≤ length l.text)
    × (l.number ≤ l.at)
    × (length l.image ≡ length l.initial.image)
    × (length l.buffer ≡ length l.initial.buffer)
    × (length l.page ≡ length l.initial.page)
    × (l.state.size ≤ length l.image)
    × (rest (rooms l.initial.image l.initial.buffer l.initial.page) (view l.text) (length l.text) l.at l.number (stage l.state.size l.state.used l.image l.buffer l.page)
    ≡ played_all (rooms l.initial.image l.initial.buffer l.initial.page) (view l.text) (length l.text) (view l.initial.image) (view l.initial.buffer) (view l.initial.page))

abbrev pub decreases-loop-at : goal.decreases-loop-at
decreases-loop-at g l = length l.text - l.at
