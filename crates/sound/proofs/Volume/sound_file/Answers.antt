-- `sound::Volume::sound_file` meets its contract. A test that holds leaves the claims after it.
use mathlib.Core.Path.{sym, ap, ◌∙◌}
use Rattle.model.specs.Bytes.{view}
use Rattle.marks.specs.Marks.{marks, took_all, took_count}
use Rattle.sound.proofs.WorkLaws.{file_type, file_height, file_refused, file_counted}
use Rattle.sound.proofs.Volume.sound_file.Goals as goal

pub returns-then-entry-eq-DIRECTORY_TYPE : goal.returns-then-entry-eq-DIRECTORY_TYPE
returns-then-entry-eq-DIRECTORY_TYPE c =
    let a = c.args in
    let self = a.self.now in
    let e = a.entry in
    file_type self.n (view self.img.now) a.height e.ftype e.eof a.key e.used (marks a.seen.now) c.if-entry-eq-DIRECTORY_TYPE.true

pub returns-then-height-height_of : goal.returns-then-height-height_of
returns-then-height-height_of c =
    let a = c.args in
    let self = a.self.now in
    let e = a.entry in
    file_height self.n (view self.img.now) a.height e.ftype e.eof a.key e.used (marks a.seen.now) c.if-entry-eq-DIRECTORY_TYPE.false
    (λ q. c.if-height-height_of.true (q ∙ sym c.height_of.ensures))

pub returns-in_default : goal.returns-in_default
returns-in_default c =
    let a = c.args in
    let self = a.self.now in
    let e = a.entry in
    let v = view self.img.now in
    let s = marks a.seen.now in
    let k = c.claim_tree in
    let spanned = c.file_blocks-blocks.ensures in
    file_refused self.n v a.height e.ftype e.eof a.key e.used s (marks k.new.seen) (took_all k.result) _ spanned k.ensures.seen_after c.if-entry-eq-DIRECTORY_TYPE.false
    (c.if-height-height_of.false ∙ c.height_of.ensures) (ap took_all c.in_default.is)

pub returns : goal.returns
returns c =
    let a = c.args in
    let self = a.self.now in
    let e = a.entry in
    let v = view self.img.now in
    let s = marks a.seen.now in
    let k = c.claim_tree in
    let spanned = c.file_blocks-blocks.ensures in
    let all = ap took_all c.in-Some.is in
    file_counted self.n v a.height e.ftype e.eof a.key e.used s (marks k.new.seen) (took_all k.result) _ spanned k.ensures.seen_after c.if-entry-eq-DIRECTORY_TYPE.false
    (c.if-height-height_of.false ∙ c.height_of.ensures) _ all (sym (ap took_count c.in-Some.is) ∙ k.ensures.result_value.0 all)
