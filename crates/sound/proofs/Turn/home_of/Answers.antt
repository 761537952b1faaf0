-- `sound::Turn::home_of` meets its contract.
use mathlib.Core.Path.{sym, ap, ◌∙◌}
use Prim.Native.Nat.{ℕ, ◌+◌}
use Rattle.model.specs.Bytes.{view, word}
use Rattle.model.proofs.Laws.Keep.{field_at}
use Rattle.sound.proofs.WorkLaws.{field_volume}
use Rattle.sound.proofs.Turn.home_of.Goals as goal

pub returns-then-self-eq-VOLUME : goal.returns-then-self-eq-VOLUME
returns-then-self-eq-VOLUME c = field_volume (view c.args.self.now.volume.img.now) c.args.self.now.place 0x25 2 c.if-self-eq-VOLUME.true

pub returns : goal.returns
returns c =
    let self = c.args.self.now in
    let v = view self.volume.img.now in
    c.get_word.ensures.value
    ∙ ap (λ (x : ℕ). word v (x + 0x25)) c.address.ensures
    ∙ sym (field_at v self.place 0x25 2 c.if-self-eq-VOLUME.false)
