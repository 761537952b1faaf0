-- `resize::set_entry` meets its contract: each refusal is one row of the table, in its order; then the new EOF.
use mathlib.Core.Path.{sym, ◌∙◌}
use native.Mathlib.Omega.{arith}
use Prim.Native.Nat.{◌<◌}
use Rattle.model.specs.declared.Refusal.TheVariants.{BadKind, Locked, BadPosition, NoRoom}
use Rattle.directory.specs.Slots.{place_number}
use Rattle.growth.proofs.Laws.{map_fits}
use Rattle.opening.specs.Sorts.{height_of}
use Rattle.opening.proofs.EntryLaws.{folder, plain, height_small}
use Rattle.held.proofs.HeldLaws.{held_tall}
use Rattle.resize.proofs.EndLaws.{number_folder, told_held, number_locked, number_far, number_full, number_none, end_no, end_done}
use borrow.Author.Rules.{rules}
use Rattle.resize.proofs.set_entry.Goals as goal

pub returns-in_default : goal.returns-in_default
returns-in_default c =
    let a = c.args in
    let T = c.requires.1 in
    end_no a.n (place_number a.place) a.eof a.stamp a.img.now BadKind
    (number_folder T a.eof (folder a.entry.kind (sym c.height_of.ensures ∙ c.in_default.is)))

pub returns-then-not-allows : goal.returns-then-not-allows
returns-then-not-allows c =
    let a = c.args in
    let f = plain a.entry.kind _ (sym c.height_of.ensures ∙ c.in-Some.is) in
    let T = c.requires.1 in
    end_no a.n (place_number a.place) a.eof a.stamp a.img.now Locked
    (number_locked T a.eof f.0 (sym c.allows.ensures ∙ c.if-not-allows.true))

pub returns-then-eof-gt-EOF_MOST : goal.returns-then-eof-gt-EOF_MOST
returns-then-eof-gt-EOF_MOST c =
    let a = c.args in
    let f = plain a.entry.kind _ (sym c.height_of.ensures ∙ c.in-Some.is) in
    let T = c.requires.1 in
    end_no a.n (place_number a.place) a.eof a.stamp a.img.now BadPosition
    (number_far T a.eof f.0 (sym c.allows.ensures ∙ c.if-not-allows.false) c.if-eof-gt-EOF_MOST.true)

pub free_blocks-free-requires : goal.free_blocks-free-requires
free_blocks-free-requires c =
    let a = c.args in
    let f = plain a.entry.kind _ (sym c.height_of.ensures ∙ c.in-Some.is) in
    let p = c.requires in
    let H = told_held p.1 a.eof f.0 in
    (H.ready.sound.small, omega (arith, p.0, map_fits a.n H.ready.sound.large))

pub overflow_add-free : goal.overflow_add-free
overflow_add-free c =
    let a = c.args in
    let f = plain a.entry.kind _ (sym c.height_of.ensures ∙ c.in-Some.is) in
    let H = told_held c.requires.1 a.eof f.0 in
    let low : height_of a.entry.kind < 3 = rw (held_tall H) (height_small a.entry.eof) in
    let small = H.ready.sound.small in
    search rules

pub returns-then-free-height : goal.returns-then-free-height
returns-then-free-height c =
    let a = c.args in
    let f = plain a.entry.kind _ (sym c.height_of.ensures ∙ c.in-Some.is) in
    let T = c.requires.1 in
    end_no a.n (place_number a.place) a.eof a.stamp a.img.now NoRoom
    (number_full T a.eof f.0 (sym c.allows.ensures ∙ c.if-not-allows.false) (omega arith) c.free_blocks-free.result c.free_blocks-free.ensures.0
    (omega (arith, c.if-free-height.true, f.1, c.height_for.ensures.0)))

pub set_end-requires : goal.set_end-requires
set_end-requires c =
    let a = c.args in
    let f = plain a.entry.kind _ (sym c.height_of.ensures ∙ c.in-Some.is) in
    let p = c.requires in
    let H = told_held p.1 a.eof f.0 in record { img_len = (p.0, omega arith, p.1.counted, H); height_value = f.1; free_value = (c.free_blocks-free.ensures.0, omega (arith, c.if-free-height.false, f.1, c.height_for.ensures.0)) }

pub returns : goal.returns
returns c =
    let a = c.args in
    let f = plain a.entry.kind _ (sym c.height_of.ensures ∙ c.in-Some.is) in
    let T = c.requires.1 in
    end_done a.n (place_number a.place) a.eof a.stamp a.img.now _
    (number_none T a.eof f.0 (sym c.allows.ensures ∙ c.if-not-allows.false) (omega arith) c.free_blocks-free.result c.free_blocks-free.ensures.0
    (omega (arith, c.if-free-height.false, f.1, c.height_for.ensures.0)))
    T.planned c.set_end.auto.img c.set_end.ensures
