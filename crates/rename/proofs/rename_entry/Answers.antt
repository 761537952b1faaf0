-- `rename::rename_entry` meets its contract. The refusals, then the names, then the backup bit.
use mathlib.Core.Path.{sym, ap, ◌∙◌}
use Prim.Native.Nat.{◌+◌, ◌≤◌}
use native.Mathlib.Omega.{arith}
use lib.ListN.{length}
use Rattle.model.specs.Bytes.{view, put}
use Rattle.model.specs.Rename.{named}
use Rattle.rename.specs.Renamed.{named_in}
use Rattle.rename.proofs.EntryLaws.{held_fits}
use Rattle.rename.proofs.RenameLaws.{found_other, entry_duplicate, entry_locked, entry_done}
use Rattle.rename.proofs.rename_entry.Goals as goal

pub returns-then-is_other : goal.returns-then-is_other
returns-then-is_other c =
    let a = c.args in
    let l = a.img.now in
    let q = a.name.now in
    entry_duplicate l a.home a.place a.entry (view q) (length q) (found_other (view l) q a.home a.place c.requires.1.counted _ _ c.find_in-found.ensures c.is_other.ensures ∙ c.if-is_other.true)

pub returns-then-not-allows : goal.returns-then-not-allows
returns-then-not-allows c =
    let a = c.args in
    let l = a.img.now in
    let q = a.name.now in
    entry_locked l a.home a.place a.entry (view q) (length q) (found_other (view l) q a.home a.place c.requires.1.counted _ _ c.find_in-found.ensures c.is_other.ensures ∙ c.if-is_other.false)
    (sym c.allows.ensures ∙ c.if-not-allows.true)

pub put_names-requires : goal.put_names-requires
put_names-requires c =
    (rw c.slot_at-start.ensures (held_fits c.requires.1), c.requires.0, c.requires.1.header)

pub overflow_add-start : goal.overflow_add-start
overflow_add-start c =
    let t : c.slot_at-start.result + 39 ≤ length c.args.img.now = rw c.slot_at-start.ensures (held_fits c.requires.1) in
    omega arith

pub put_byte-requires : goal.put_byte-requires
put_byte-requires c =
    let t : c.slot_at-start.result + 39 ≤ length c.args.img.now = rw c.slot_at-start.ensures (held_fits c.requires.1) in
    omega arith

pub returns : goal.returns
returns c =
    let s = c in
    let a = c.args in
    let l = a.img.now in
    let q = a.name.now in
    let start = c.slot_at-start in
    let backed = c.backed_up in
    entry_done l a.home a.place a.entry (view q) (length q) _ (found_other (view l) q a.home a.place c.requires.1.counted _ _ c.find_in-found.ensures c.is_other.ensures ∙ c.if-is_other.false)
    (sym c.allows.ensures ∙ c.if-not-allows.false)
    (c.put_byte.auto.img ∙ c.put_names.auto.img)
    (c.put_byte.ensures
    ∙ ap (λ f. put f (start.result + 0x1E) backed.result) c.put_names.ensures
    ∙ ap (λ s. put (named_in a.entry.kind (named (view l) s (view q) (length q)) (view q) (length q)) (s + 0x1E) backed.result) start.ensures
    ∙ ap (put _ _) backed.ensures)
