-- `player::play_lines` meets its contract. The loop's invariant: the lines that are left, played on the stage of now, are the whole script played.
--
use Rattle.player.proofs.PlayedLaws.{rest_none, rest_all, turn_last, turn_again, holds}
use Rattle.player.specs.Played.{rooms, stage}
use Rattle.model.specs.Bytes.{view}
use lib.ListN.{length}
use borrow.Author.Rules.{rules}
use native.Mathlib.Omega.{arith}
use mathlib.Core.Path.{refl, sym, ap, ◌∙◌}
use Rattle.player.proofs.play_lines.Goals as goal

pub loop-at-init : goal.loop-at-init
loop-at-init g c = let a = c.args in
    (omega arith, omega arith, refl, refl, refl, omega arith, rest_all (rooms a.image.now a.buffer.now a.page.now) (view a.text.now) (length a.text.now) (stage 0 0 a.image.now a.buffer.now a.page.now))

pub returns-then-end-text : goal.returns-then-end-text
returns-then-end-text g c = let a = c.args in
    let l = c.loop-at in
    let e = c.line_end-end in
    let r = c.play_line-state in
    let i = r.new.image in
    let b = r.new.buffer in
    let p = r.new.page in
    let done = turn_last a.text.now a.image.now a.buffer.now a.page.now l.image l.buffer l.page l.at e.result l.number (stage l.state.size l.state.used l.image l.buffer l.page) (stage r.result.size r.result.used i b p) l.invariant.2 l.invariant.3 l.invariant.4 e.ensures.lower_bound.0 e.ensures.lower_bound.1 r.ensures.page_after _ c.loop-at-test.true l.invariant.1 e.ensures.value l.invariant.6 c.if-end-text.true in record { holds = holds _ _ _ i b p done; value = ap (λ t. t.used) done }

pub loop-at-preserved : goal.loop-at-preserved
loop-at-preserved g c = let a = c.args in
    let l = c.loop-at in
    let e = c.line_end-end in
    let r = c.play_line-state in
    let i = r.new.image in
    let b = r.new.buffer in
    let p = r.new.page in
    (search rules, search rules, r.auto.image ∙ l.invariant.2, r.auto.buffer ∙ l.invariant.3, r.auto.page ∙ l.invariant.4, omega (arith, r.ensures.size_in_bounds), turn_again a.text.now a.image.now a.buffer.now a.page.now l.image l.buffer l.page l.at e.result l.number (stage l.state.size l.state.used l.image l.buffer l.page) (stage r.result.size r.result.used i b p) l.invariant.2 l.invariant.3 l.invariant.4 e.ensures.lower_bound.0 e.ensures.lower_bound.1 r.ensures.page_after _ c.loop-at-test.true l.invariant.1 e.ensures.value l.invariant.6 c.if-end-text.false)

pub returns : goal.returns
returns g c = let l = c.loop-at in
    let done = sym (rest_none _ _ _ _ _ _ c.loop-at-test.false (omega arith)) ∙ l.invariant.6 in record { holds = holds _ _ _ l.image l.buffer l.page done; value = ap (λ t. t.used) done }
