-- `script::put_pairs` meets its contract: the bytes of the pairs passed are pasted.
use mathlib.Core.Path.{◌≡◌, refl, sym, ap, subst, ◌∙◌}
use Prim.Native.Nat.{◌+◌, ◌*◌, ◌/◌}
use native.Mathlib.Omega.{arith}
use mathlib.Core.List.{◌++◌}
use lib.ListN.{length, drop, set, length-drop}
use Rattle.std.proofs.Common.{rules}
use Rattle.std.specs.Option.{IsSome}
use Rattle.model.specs.Bytes.{view, put, paste}
use Rattle.model.proofs.ByteLaws.{view_set, paste_none, paste_more}
use Rattle.script.specs.Fields.{pairs, sized}
use Rattle.script.proofs.FieldLaws.{pair_fits, pair_next, pair_known, pair_says}
use Rattle.script.proofs.put_pairs.Goals as goal

pub loop-i-init : goal.loop-i-init
loop-i-init c =
    let i = c.into_iter-i-iterator.result in
    let z : i.count ≡ 0 = search rules in
    let s : i.iter.size ≡ 2 = search rules in
    let r : i.iter.rest.now ≡ c.args.digits.now = search rules in
    let t : 2 * i.count ≡ 0 = omega (arith, z) in
    (s, omega (arith, z), r ∙ ap (λ n. drop n c.args.digits.now) (sym t), sym (rw z (paste_none (view c.args.room.now) 0 (pairs c.args.digits.now))))

pub unwrap-requires : goal.unwrap-requires
unwrap-requires c =
    let l = c.loop-i in
    let n = c.in-Some.ensures.steps in
    let e : drop (2 * l.i-iterator.count) c.args.digits.now ≡ c.in-Some.pair.now ++ c.next.new.self.iter.rest.now = sym l.invariant.2 ∙ n.0.1.0 in
    let k = pair_known c.args.digits.now l.i-iterator.count _ _ e (n.0.1.1 ∙ l.invariant.0) l.invariant.1 c.requires.2 in
    subst IsSome (k.1 ∙ sym c.pair_value.ensures) refl

pub loop-i-preserved : goal.loop-i-preserved
loop-i-preserved c =
    let l = c.loop-i in
    let n = c.in-Some.ensures.steps in
    let i = l.i-iterator.count in
    let digits = c.args.digits.now in
    let x = c.in-Some.pair.now in
    let t = c.next.new.self.iter.rest.now in
    let e : drop (2 * i) digits ≡ x ++ t = sym l.invariant.2 ∙ n.0.1.0 in
    let two : length x ≡ 2 = n.0.1.1 ∙ l.invariant.0 in
    let k : c.next.new.self.count ≡ i + 1 = n.2 in
    let fits = pair_fits digits i x t e two l.invariant.1 in
    let p = pairs digits in
    let u = c.unwrap.result in
    let f = view c.args.room.now in
    let v : u ≡ p i = ap sized (sym c.unwrap.ensures) ∙ ap sized c.pair_value.ensures ∙ pair_says digits i x t e two l.invariant.1 in
    let z : i ≡ 0 + i = omega arith in
    let pasted =
    ap (λ a. view (set l.room a u)) n.1
    ∙ view_set l.room i u (omega (arith, fits))
    ∙ ap (λ h. put h i u) l.invariant.3
    ∙ ap (put (paste f 0 i p) i) v
    ∙ ap (λ a. put (paste f 0 i p) a (p i)) z
    ∙ paste_more f 0 p i
    ∙ ap (λ m. paste f 0 m p) (sym k) in
    (n.0.0 ∙ l.invariant.0, rw k fits, rw k (pair_next digits i x t e two l.invariant.1), pasted)

pub returns : goal.returns
returns c =
    let l = c.loop-i in
    let n = c.in-None.ensures.steps in
    let k : l.i-iterator.count ≡ length c.args.digits.now / 2 = omega (arith, n.0.1.0, l.invariant.0, ap length l.invariant.2, length-drop (2 * l.i-iterator.count) c.args.digits.now) in
    l.invariant.3 ∙ ap (λ m. paste (view c.args.room.now) 0 m (pairs c.args.digits.now)) k
