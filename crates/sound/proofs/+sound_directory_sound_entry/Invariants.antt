-- `sound::Volume::sound_directory` and `sound::Turn::sound_entry`, which call each other, meet their contracts. An entry's measure is twice its levels, a directory's
-- one more. Both loops keep what is still to be claimed: the entries ahead.
use Prim.Native.Nat.{◌+◌, ◌-◌, ◌*◌, ◌<◌, ◌≤◌}
use mathlib.Core.Path.{◌≡◌}
use Rattle.model.specs.Bytes.{view, gather}
use Rattle.claims.specs.Claims.{claim}
use Rattle.marks.specs.Marks.{marks}
use Rattle.checks.specs.Inside.{ahead}
use Rattle.checks.proofs.Laws.{Coming}
use Rattle.sound.specs.Work.{entry_work, list_work}
use Rattle.sound.proofs.WorkLaws.{still}
use Rattle.sound.proofs.+sound_directory_sound_entry.Given as goal

abbrev pub decreases-Volume::sound_directory : goal.decreases-Volume::sound_directory
decreases-Volume::sound_directory l = 2 * l.levels + 1

abbrev pub decreases-Turn::sound_entry : goal.decreases-Turn::sound_entry
decreases-Turn::sound_entry l = 2 * l.self.now.levels

abbrev pub invariant-Volume::sound_directory-loop-place : goal.invariant-Volume::sound_directory-loop-place
invariant-Volume::sound_directory-loop-place l =
    let v = view l.self.img.now in
    claim l.self.n (gather (entry_work v l.levels l.key) (ahead v l.place l.block (l.used - (l._done + 1)))) (marks l.seen)
    ≡ claim l.self.n (gather (entry_work v l.levels l.key) (ahead v l.first l.block (l.used - (l._done + 1)))) (marks l.initial.seen)

abbrev pub invariant-Volume::sound_directory-loop-done : goal.invariant-Volume::sound_directory-loop-done
invariant-Volume::sound_directory-loop-done l =
    let v = view l.self.img.now in
    Coming v l.self.n l.block (l.used - l._done)
    × (0 < l.used - l._done → l.first ≤ l.block * 13 + 13)
    × (claim l.self.n (gather (entry_work v l.levels l.key) (still v l.first l.block (l.used - l._done))) (marks l.seen)
    ≡ claim l.self.n (list_work v l.levels l.key l.used) (marks l.initial.seen))
