-- `player::play_line` meets its contract. What a bad line prints is printed behind what its command printed.
use Rattle.player.proofs.PlayedLaws.{played_silent, line_good, line_bad}
use mathlib.Core.Path.{refl, sym, ◌∙◌}
use Rattle.player.proofs.play_line.Goals as goal

pub returns-then-is_silent-clause-page_after : goal.returns-then-is_silent-clause-page_after
returns-then-is_silent-clause-page_after g c = played_silent _ _ _ _ _ (sym c.if-is_silent.true ∙ c.is_silent.ensures)

pub returns-in-Ok-clause-page_after : goal.returns-in-Ok-clause-page_after
returns-in-Ok-clause-page_after g c = let a = c.args in
    line_good a.line.now a.image.now a.buffer.now a.page.now a.number a.state.size a.state.used c.ready-ink.result _ _ _ _ _ (sym c.if-is_silent.false ∙ c.is_silent.ensures) c.ready-ink.ensures c.in-Ok.ensures.leaves c.in-Ok.size refl

pub returns-in-Err-clause-page_after : goal.returns-in-Err-clause-page_after
returns-in-Err-clause-page_after g c = let a = c.args in
    line_bad a.line.now a.image.now a.buffer.now a.page.now a.number a.state.size a.state.used c.ready-ink.result _ _ _ _ _ (sym c.if-is_silent.false ∙ c.is_silent.ensures) c.ready-ink.ensures c.in-Err.ensures.leaves _ c.say_bad_line.new.ink c.say_bad_line.new.page refl c.say_bad_line.ensures
