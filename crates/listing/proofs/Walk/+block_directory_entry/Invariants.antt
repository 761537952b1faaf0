-- `Walk::block`, `directory` and `entry` meet their contracts: levels fall from an entry to its directory.
-- The invariants say what is left to be printed, and that the path is the directory's again.
use mathlib.Core.Path.{◌≡◌}
use lib.ListN.{length}
use Rattle.model.specs.Bytes.{view}
use Rattle.directory.specs.Search.{Each, slots_from, listed}
use Rattle.directory.proofs.SearchLaws.{rest}
use Rattle.ink.specs.Ink.{sheet, emit}
use Rattle.listing.specs.Walked.{walked, block_count, Listed}
use Rattle.listing.proofs.WalkLaws.{Pending}
use Prim.Native.Nat.{◌+◌, ◌-◌, ◌*◌, ◌<◌}
use Rattle.listing.proofs.Walk.+block_directory_entry.Given as goal

abbrev pub decreases-block : goal.decreases-block
decreases-block l = 3 * l.levels + 1

abbrev pub decreases-directory : goal.decreases-directory
decreases-directory l = 3 * l.levels + 2

abbrev pub decreases-entry : goal.decreases-entry
decreases-entry l = 3 * l.levels

abbrev pub invariant-block-loop-slot : goal.invariant-block-loop-slot
invariant-block-loop-slot l =
    (length l.page ≡ length l.initial.page)
    × Each (Listed (view l.img) l.levels) (slots_from l.block l.slot)
    × (l.self.path ≡ l.initial.self.path)
    × (emit (walked (view l.img) l.levels l.initial.self.path (slots_from l.block l.slot)) (sheet l.self.ink l.page) ≡ emit (walked (view l.img) l.levels l.initial.self.path (slots_from l.block l.first)) (sheet l.initial.self.ink l.initial.page))

abbrev pub invariant-directory-loop : goal.invariant-directory-loop
invariant-directory-loop l =
    (length l.page ≡ length l.initial.page)
    × (l.counter < l.used → l.block < block_count l.img)
    × Pending (block_count l.img) (view l.img) l.levels l.block (l.used - l.counter) l.first
    × (l.self.path ≡ l.initial.self.path)
    × (emit (walked (view l.img) l.levels l.initial.self.path (rest (view l.img) l.block (l.used - l.counter) l.first)) (sheet l.self.ink l.page) ≡ emit (walked (view l.img) l.levels l.initial.self.path (listed (view l.img) l.key l.used)) (sheet l.initial.self.ink l.initial.page))
