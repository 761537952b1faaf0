-- `Walk::block`, `directory` and `entry` meet their contracts: levels fall from an entry to its directory.
-- The invariants say what is left to be printed, and that the path is the directory's again.
use mathlib.Core.Path.{◌≡◌, refl, sym, ap, ◌∙◌}
use mathlib.Core.List.{[], ◌∷◌}
use Rattle.model.specs.Bytes.{view}
use Rattle.model.specs.Directory.{place}
use Rattle.directory.specs.Search.{slots_from}
use Rattle.directory.proofs.SearchLaws.{rest_done, slots_more, slots_done, each_head, each_tail}
use Rattle.listing.specs.Walked.{walked, Listed}
use Rattle.ink.proofs.InkLaws.{prints_as, emit_rest, emit_done, ◌then◌}
use Rattle.listing.proofs.WalkLaws.{block_text, chain_text, empty_text, pending, pending_block, pending_slots, pending_next, slot_leaf, directory_level, directory_chained, directory_text}
use native.Mathlib.Omega.{arith}
use Prim.Native.Nat.{◌+◌, ◌-◌, ◌*◌, ◌/◌, ◌≤◌, ◌<◌}
use lib.ListN.{length, take}
use Rattle.std.proofs.lemmas.List.{take_at}
use Rattle.listing.specs.declared.Walk.{Walk}
use Rattle.listing.proofs.Walk.+block_directory_entry.Goals.{entry-then-kind-eq-DIRECTORY, entry-else-kind-eq-DIRECTORY}
use Rattle.listing.proofs.Walk.+block_directory_entry.Goals as goal

pub block-entry-requires : goal.block-entry-requires
unfolding place
block-entry-requires t c =
    let a = c.args in
    let l = c.loop-slot in
    let e : (a.block * 13 + l.slot - 1) / 13 ≡ a.block = omega arith in (
      omega arith,
      (
        c.requires.whole.0,
        omega arith,
        omega (arith, ap length l.invariant.2),
        each_head (Listed (view a.img.now) a.levels) (place a.block l.slot) _ _ (slots_more a.block l.slot (omega arith) (omega arith)) l.invariant.1,
      ),
    )

pub block-loop-slot-preserved : goal.block-loop-slot-preserved
unfolding place
block-loop-slot-preserved t c =
    let a = c.args in
    let l = c.loop-slot in
    let e = c.entry in
    let low : 1 ≤ l.slot = omega arith in
    let high : l.slot ≤ 13 = omega arith in (
      omega arith,
      each_tail (Listed (view a.img.now) a.levels) (place a.block l.slot) _ _ (slots_more a.block l.slot low high) l.invariant.1,
      e.ensures.path_kept ∙ l.invariant.2,
      emit_rest _ _ _ (block_text (view a.img.now) a.levels _ a.block l.slot low high)
          (prints_as (ap (λ p. walked (view a.img.now) a.levels p (place a.block l.slot ∷ [])) l.invariant.2) e.ensures.prints)
          l.invariant.3,
    )

pub block-returns-clause-prints : goal.block-returns-clause-prints
block-returns-clause-prints t c =
    let a = c.args in
    let l = c.loop-slot in
    emit_done _ _ _ _ (empty_text (view a.img.now) a.levels _ _ (slots_done a.block l.slot (omega arith))) l.invariant.3

pub directory-loop-init : goal.directory-loop-init
directory-loop-init t c =
    let all : c.args.used - 0 ≡ c.args.used = omega arith in
    let start = pending c.requires.2 in
    rw all (refl, λ more. pending_block more start, start, refl, refl)

pub directory-block-requires : goal.directory-block-requires
directory-block-requires t c =
    let l = c.loop in
    let more : 0 < c.args.used - l.counter = omega arith in (
      omega arith,
      (
        (c.requires.0, l.invariant.1 c.loop-test.true, l.invariant.2.low, omega (arith, ap length l.invariant.3)),
        pending_slots more l.invariant.2,
      ),
    )

pub directory-loop-preserved : goal.directory-loop-preserved
directory-loop-preserved t c =
    let a = c.args in
    let l = c.loop in
    let e = c.block in
    let more : 0 < a.used - l.counter = omega arith in
    let less : a.used - (l.counter + 1) ≡ a.used - l.counter - 1 = omega arith in
    let after = pending_next more l.invariant.2 in
    rw (c.get_word-block.ensures.value, less) (
      omega arith,
      λ left. pending_block (omega arith) after,
      after,
      e.ensures.path_kept ∙ l.invariant.3,
      emit_rest _ _ _ (chain_text (view a.img.now) a.levels _ l.block (a.used - l.counter) l.first more l.invariant.2.low l.invariant.2.high)
          (prints_as (ap (λ p. walked (view a.img.now) a.levels p (slots_from l.block l.first)) l.invariant.3) e.ensures.prints)
          l.invariant.4,
    )

pub directory-returns-clause-prints : goal.directory-returns-clause-prints
directory-returns-clause-prints t c =
    let a = c.args in
    let l = c.loop in
    emit_done _ _ _ _ (empty_text (view a.img.now) a.levels _ _ (rest_done (view a.img.now) l.block (a.used - l.counter) l.first (omega arith))) l.invariant.4

pub entry-overflow_sub-levels : goal.entry-overflow_sub-levels
entry-overflow_sub-levels t c =
    directory_level c.args.img.now c.args.levels c.args.slot _ c.requires.0 c.requires.3 c.address_of-at.ensures.value c.if-kind-eq-DIRECTORY.true

pub entry-directory-requires : goal.entry-directory-requires
entry-directory-requires t c =
    let level = directory_level c.args.img.now c.args.levels c.args.slot _ c.requires.0 c.requires.3 c.address_of-at.ensures.value c.if-kind-eq-DIRECTORY.true in (
      omega arith,
      (
        c.requires.0,
        omega (arith, ap length c.line.ensures.path_kept),
        directory_chained c.args.img.now c.args.levels c.args.slot _ c.requires.0 c.requires.3 c.address_of-at.ensures.value c.if-kind-eq-DIRECTORY.true _ _ c.get_word-key.ensures.value c.get_word-used.ensures.value,
      ),
    )

pub entry-returns-clause-prints : goal.entry-returns-clause-prints
entry-returns-clause-prints t c =
    let a = c.args in
    let length : c.address_of-at.result + 39 - c.address_of-at.result ≡ 39 = omega arith in
    elim c.if-kind-eq-DIRECTORY.branch [
      | entry-then-kind-eq-DIRECTORY w ↦ rw (w.self-is, w.page-is) (prints_as
          (directory_text a.img.now a.levels a.slot _ c.requires.0 c.requires.3 c.address_of-at.ensures.value w.if-kind-eq-DIRECTORY.true _ _ w.get_word-key.ensures.value w.get_word-used.ensures.value _ _ _ length c.push.ensures.longer)
          (c.line.ensures.prints then (rw c.line.ensures.path_kept at w.directory.ensures.prints)))
      | entry-else-kind-eq-DIRECTORY w ↦ rw (w.self-is, w.page-is) (prints_as
          (slot_leaf a.img.now a.levels a.slot _ c.requires.0 c.requires.3 c.address_of-at.ensures.value _ _ _ length c.push.ensures.longer c.if-kind-eq0.false w.if-kind-eq-DIRECTORY.false)
          c.line.ensures.prints)
    ]

pub entry-returns-clause-path_kept : goal.entry-returns-clause-path_kept
entry-returns-clause-path_kept t c =
    let a = c.args in
    let pushed : c.if-kind-eq-DIRECTORY.self.path ≡ c.line.new.self.path = elim c.if-kind-eq-DIRECTORY.branch [
      | entry-then-kind-eq-DIRECTORY w ↦ ap (λ (s : Walk). s.path) w.self-is ∙ w.directory.ensures.path_kept
      | entry-else-kind-eq-DIRECTORY w ↦ ap (λ (s : Walk). s.path) w.self-is
    ] in
    c.truncate.ensures
    ∙ ap (take c.len-len.result) (pushed ∙ c.line.ensures.path_kept ∙ c.push.ensures.longer)
    ∙ take_at a.self.now.path _ _ (sym c.len-len.ensures)
