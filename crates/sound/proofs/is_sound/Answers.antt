-- `sound::is_sound` meets its contract. The walk and the map decide soundness (claims, Agreement).
use mathlib.Core.Path.{sym, ◌∙◌}
use Rattle.model.specs.Bytes.{view}
use Rattle.claims.proofs.SoundFacts.{not_prodos_law, not_placed}
use Rattle.claims.proofs.Agreement.{decided}
use Rattle.marks.proofs.Laws.{blank}
use Rattle.sound.proofs.WorkLaws.{size_right, volume_header_law}
use Rattle.sound.proofs.is_sound.Goals as goal
use Rattle.sound.proofs.is_sound.Goals.{then-not-is_prodos-via-then-not-is_prodos, then-not-is_prodos-via-else-not-is_prodos+then-get_word-ne-MAP_BLOCK}

pub returns-then-not-is_prodos : goal.returns-then-not-is_prodos
returns-then-not-is_prodos c =
    let a = c.args in
    let v = view a.img.now in
    elim c.then-not-is_prodos.branch [
      | then-not-is_prodos-via-then-not-is_prodos w ↦ sym (not_prodos_law a.n v (sym c.is_prodos.ensures ∙ w.if-not-is_prodos.true))
      | then-not-is_prodos-via-else-not-is_prodos+then-get_word-ne-MAP_BLOCK w ↦ sym (not_placed a.n v (λ e. w.if-get_word-ne-MAP_BLOCK.true (w.get_word.ensures.value ∙ e)))
    ]

pub invariant_of-walk : goal.invariant_of-walk
invariant_of-walk c =
    let a = c.args in
    let p = c.requires in
    let prodos = sym c.is_prodos.ensures ∙ c.if-not-is_prodos.false in
    record { readable = (p.0, (p.2, p.1, volume_header_law a.n (view a.img.now) prodos)) }

pub walk-requires : goal.walk-requires
walk-requires c = blank 8192

pub returns : goal.returns
returns c =
    let a = c.args in
    let p = c.requires in
    let prodos = sym c.is_prodos.ensures ∙ c.if-not-is_prodos.false in
    c.walk.ensures
    ∙ decided a.n (view a.img.now) (size_right a.n p.0 p.1) prodos (sym c.get_word.ensures.value ∙ c.if-get_word-ne-MAP_BLOCK.false)
