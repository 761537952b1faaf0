-- `read::read_file` meets its contract: each refusal is one row of the table, in its order; then the file's bytes.
use mathlib.Core.Path.{sym, ap, ◌∙◌}
use lib.ListN.{length}
use native.Mathlib.Omega.{arith}
use Rattle.model.specs.Bytes.{view, paste, from}
use Rattle.model.specs.File.{file_byte}
use Rattle.model.specs.declared.Refusal.TheVariants.{BadKind, Locked, BadPosition, EndOfFile}
use Rattle.opening.specs.Sorts.{height_of}
use Rattle.read.proofs.ReadLaws.{folder_number}
use Rattle.opening.proofs.EntryLaws.{folder, plain}
use Rattle.read.proofs.CodeLaws.{number_locked, number_far, number_end, number_none, entry_no, entry_moved}
use Rattle.read.proofs.read_file.Goals as goal
use Rattle.read.proofs.read_file.Goals.{else-size-ge1-via-then-size-ge1+else-position-eof, else-size-ge1-via-else-size-ge1}

pub returns-in_default : goal.returns-in_default
returns-in_default c =
    let a = c.args in
    let l = a.buffer.now in
    entry_no (view a.img.now) a.entry a.position l BadKind (folder_number a.entry a.position (length l) (folder a.entry.kind (sym c.height_of.ensures ∙ c.in_default.is)))

pub returns-then-not-allows : goal.returns-then-not-allows
returns-then-not-allows c =
    let a = c.args in
    let l = a.buffer.now in
    let f = (plain a.entry.kind _ (sym c.height_of.ensures ∙ c.in-Some.is)).0 in
    entry_no (view a.img.now) a.entry a.position l Locked (number_locked a.entry a.position (length l) f (sym c.allows.ensures ∙ c.if-not-allows.true))

pub returns-then-eof-position : goal.returns-then-eof-position
returns-then-eof-position c =
    let a = c.args in
    let l = a.buffer.now in
    let f = (plain a.entry.kind _ (sym c.height_of.ensures ∙ c.in-Some.is)).0 in
    entry_no (view a.img.now) a.entry a.position l BadPosition (number_far a.entry a.position (length l) f (sym c.allows.ensures ∙ c.if-not-allows.false) c.if-eof-position.true)

pub returns-then-position-eof : goal.returns-then-position-eof
returns-then-position-eof c =
    let a = c.args in
    let l = a.buffer.now in
    let f = (plain a.entry.kind _ (sym c.height_of.ensures ∙ c.in-Some.is)).0 in
    entry_no (view a.img.now) a.entry a.position l EndOfFile (number_end a.entry a.position (length l) f (sym c.allows.ensures ∙ c.if-not-allows.false) c.if-eof-position.false c.if-size-ge1.true c.if-position-eof.true)

pub read_bytes-requires : goal.read_bytes-requires
read_bytes-requires c =
    let f = plain c.args.entry.kind _ (sym c.height_of.ensures ∙ c.in-Some.is) in
    let r = c.requires.2 f.0 in record { n_bound = (c.requires.0, c.requires.1, rw f.1 r.low, rw (f.1, c.key_of-key.ensures) r.backed); count_in_bounds = (omega arith, omega arith) }

pub returns : goal.returns
returns c =
    let a = c.args in
    let l = a.buffer.now in
    let v = view a.img.now in
    let f = plain a.entry.kind _ (sym c.height_of.ensures ∙ c.in-Some.is) in
    let z = number_none a.entry a.position (length l) f.0 (sym c.allows.ensures ∙ c.if-not-allows.false) c.if-eof-position.false (λ s p. elim c.else-size-ge1.branch [ else-size-ge1-via-then-size-ge1+else-position-eof w ↦ w.if-position-eof.false p | else-size-ge1-via-else-size-ge1 w ↦ omega arith ]) in
    let k = c.least-count.result in
    let b =
    c.read_bytes.ensures
    ∙ ap (λ h. paste (view l) 0 k (from (file_byte v h c.key_of-key.result) a.position)) f.1
    ∙ ap (λ y. paste (view l) 0 k (from (file_byte v (height_of a.entry.kind) y) a.position)) c.key_of-key.ensures in
    entry_moved v a.entry a.position l k _ z c.least-count.ensures c.read_bytes.auto.buffer b
