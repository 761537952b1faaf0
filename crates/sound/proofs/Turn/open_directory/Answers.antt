-- `sound::Turn::open_directory` meets its contract. A chain that was claimed lies on the volume, so its blocks can be read.
use mathlib.Core.Path.{◌≡◌, sym, ap, ◌∙◌}
use mathlib.Core.Bool.{Bool, true}
use Rattle.model.specs.Bytes.{view}
use Rattle.claims.specs.Claims.{outcome}
use Rattle.marks.specs.Marks.{marks}
use Rattle.checks.proofs.Laws.{first_inside, second_if, second_not, third_if, third_not}
use Rattle.sound.proofs.WorkLaws.{chain_claimed, chain_is}
use Rattle.sound.proofs.Turn.open_directory.Goals as goal
use Rattle.sound.proofs.Turn.open_directory.Goals.{then-claim_chain, else-claim_chain}

pub top_right-requires : goal.top_right-requires
top_right-requires c =
    let a = c.args in
    let self = a.self.now in
    let p = c.requires in
    let v = view self.volume.img.now in
    let k = c.claim_chain in
    let inside = chain_claimed self.volume.n v a.key a.used (marks a.seen.now) (marks k.new.seen) k.result k.ensures c.if-claim_chain.true in
    (first_inside v self.volume.n a.key a.used inside p.0, p.2)

pub count_right-requires : goal.count_right-requires
count_right-requires c =
    let a = c.args in
    let self = a.self.now in
    let p = c.requires in
    let v = view self.volume.img.now in
    let k = c.claim_chain in
    let claimed : k.result ≡ true = elim c.if-claim_chain.branch [ then-claim_chain w ↦ w.if-claim_chain.true | else-claim_chain w ↦ sym w.value-is ∙ c.if-top_right.true ] in
    let inside = chain_claimed self.volume.n v a.key a.used (marks a.seen.now) (marks k.new.seen) k.result k.ensures claimed in record {
      readable = (first_inside v self.volume.n a.key a.used inside p.0, p.1);
      inside = inside;
    }

pub returns-then-top_right : goal.returns-then-top_right
returns-then-top_right c =
    let a = c.args in
    let self = a.self.now in
    let v = view self.volume.img.now in
    let k = c.claim_chain in
    let claimed : k.result ≡ true = elim c.if-claim_chain.branch [ then-claim_chain w ↦ w.if-claim_chain.true | else-claim_chain w ↦ sym w.value-is ∙ c.if-top_right.true ] in record {
      seen_after = ap (λ (r : Bool). outcome r (marks k.new.seen)) (c.count_right.ensures
          ∙ third_if c.if-claim_chain.value _ _ _
          (elim c.if-claim_chain.branch [ then-claim_chain w ↦ second_if _ _ _ w.if-claim_chain.true (w.value-is ∙ w.top_right.ensures) | else-claim_chain w ↦ second_not _ _ _ w.if-claim_chain.false w.value-is ])
          c.if-top_right.true)
          ∙ chain_is self.volume.n v self.place a.key a.used (marks a.seen.now) (marks k.new.seen) k.result k.ensures;
      inside = (λ z. chain_claimed self.volume.n v a.key a.used (marks a.seen.now) (marks k.new.seen) k.result k.ensures claimed);
    }

pub returns-else-top_right-clause-seen_after : goal.returns-else-top_right-clause-seen_after
returns-else-top_right-clause-seen_after c =
    let a = c.args in
    let self = a.self.now in
    let k = c.claim_chain in
    ap (λ (r : Bool). outcome r (marks k.new.seen)) (third_not c.if-claim_chain.value _ _ _
    (elim c.if-claim_chain.branch [ then-claim_chain w ↦ second_if _ _ _ w.if-claim_chain.true (w.value-is ∙ w.top_right.ensures) | else-claim_chain w ↦ second_not _ _ _ w.if-claim_chain.false w.value-is ])
    c.if-top_right.false)
    ∙ chain_is self.volume.n (view self.volume.img.now) self.place a.key a.used (marks a.seen.now) (marks k.new.seen) k.result k.ensures
