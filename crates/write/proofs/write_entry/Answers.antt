-- `write::write_entry` meets its contract: each refusal is one row of the table, in its order; then the data.
use mathlib.Core.Path.{sym, ◌∙◌}
use lib.ListN.{length}
use Rattle.model.specs.Bytes.{view}
use Rattle.model.specs.declared.Refusal.TheVariants.{BadKind, Locked, BadPosition, NoRoom}
use Rattle.growth.proofs.Laws.{map_fits}
use Rattle.directory.specs.Slots.{place_number}
use Rattle.opening.proofs.EntryLaws.{folder, plain}
use Rattle.write.proofs.RowLaws.{near_is, told_held, number_folder, number_locked, number_far, number_nothing, number_full, number_none, place_no, place_nothing, place_done}
use native.Mathlib.Omega.{arith}
use Rattle.write.proofs.write_entry.Goals as goal

pub returns-in_default : goal.returns-in_default
returns-in_default c =
    let a = c.args in
    let b = a.buffer.now in
    place_no a.n (place_number a.place) a.position (view b) (length b) a.stamp a.img.now BadKind
    (number_folder c.requires.3 a.position (length b) (folder a.entry.kind (sym c.height_of.ensures ∙ c.in_default.is)))

pub returns-then-not-allows : goal.returns-then-not-allows
returns-then-not-allows c =
    let a = c.args in
    let g = plain a.entry.kind _ (sym c.height_of.ensures ∙ c.in-Some.is) in
    let b = a.buffer.now in
    place_no a.n (place_number a.place) a.position (view b) (length b) a.stamp a.img.now Locked
    (number_locked c.requires.3 a.position (length b) g.0 (sym c.allows.ensures ∙ c.if-not-allows.true))

pub returns-then-is_too_far : goal.returns-then-is_too_far
returns-then-is_too_far c =
    let a = c.args in
    let g = plain a.entry.kind _ (sym c.height_of.ensures ∙ c.in-Some.is) in
    let b = a.buffer.now in
    place_no a.n (place_number a.place) a.position (view b) (length b) a.stamp a.img.now BadPosition
    (number_far c.requires.3 a.position (length b) g.0 (sym c.allows.ensures ∙ c.if-not-allows.false) (sym c.if-is_too_far.true ∙ c.is_too_far.ensures))

pub returns-then-size-eq0 : goal.returns-then-size-eq0
returns-then-size-eq0 c =
    let a = c.args in
    let g = plain a.entry.kind _ (sym c.height_of.ensures ∙ c.in-Some.is) in
    let b = a.buffer.now in
    place_nothing a.n (place_number a.place) a.position (view b) (length b) a.stamp a.img.now
    (number_nothing c.requires.3 a.position (length b) g.0 (sym c.allows.ensures ∙ c.if-not-allows.false) (sym c.if-is_too_far.false ∙ c.is_too_far.ensures) c.if-size-eq0.true) c.if-size-eq0.true

pub free_blocks-free-requires : goal.free_blocks-free-requires
free_blocks-free-requires c = (c.requires.1, omega (arith, map_fits c.args.n c.requires.0, c.requires.2))

pub need-requires : goal.need-requires
need-requires c =
    let a = c.args in
    let g = plain a.entry.kind _ (sym c.height_of.ensures ∙ c.in-Some.is) in
    let f = near_is a.entry.eof a.position (length a.buffer.now) (sym c.if-is_too_far.false ∙ c.is_too_far.ensures) in record { img_len = (c.requires.2, told_held c.requires.3 a.position (length a.buffer.now) g.0); height_value = g.1; size_nonzero = (omega arith, omega (arith, f.1)) }

pub returns-then-free-need : goal.returns-then-free-need
returns-then-free-need c =
    let a = c.args in
    let g = plain a.entry.kind _ (sym c.height_of.ensures ∙ c.in-Some.is) in
    let b = a.buffer.now in
    place_no a.n (place_number a.place) a.position (view b) (length b) a.stamp a.img.now NoRoom
    (number_full c.requires.3 a.position (length b) g.0 (sym c.allows.ensures ∙ c.if-not-allows.false) (sym c.if-is_too_far.false ∙ c.is_too_far.ensures) c.if-size-eq0.false _ c.free_blocks-free.ensures.0 (rw c.need.ensures at c.if-free-need.true))

pub put_data-requires : goal.put_data-requires
put_data-requires c =
    let a = c.args in
    let g = plain a.entry.kind _ (sym c.height_of.ensures ∙ c.in-Some.is) in
    let f = near_is a.entry.eof a.position (length a.buffer.now) (sym c.if-is_too_far.false ∙ c.is_too_far.ensures) in record { img_len = (c.requires.2, c.requires.3.counted, told_held c.requires.3 a.position (length a.buffer.now) g.0); height_value = g.1; buffer_nonzero = (omega arith, omega (arith, f.1)); free_value = (c.free_blocks-free.ensures.0, omega (arith, c.need.ensures)) }

pub returns : goal.returns
returns c =
    let a = c.args in
    let g = plain a.entry.kind _ (sym c.height_of.ensures ∙ c.in-Some.is) in
    let b = a.buffer.now in
    place_done a.n (place_number a.place) a.position (view b) (length b) a.stamp a.img.now _
    (number_none c.requires.3 a.position (length b) g.0 (sym c.allows.ensures ∙ c.if-not-allows.false) (sym c.if-is_too_far.false ∙ c.is_too_far.ensures) c.if-size-eq0.false _ c.free_blocks-free.ensures.0 (omega (arith, c.need.ensures)))
    c.if-size-eq0.false c.requires.3.planned (omega arith) c.put_data.ensures
