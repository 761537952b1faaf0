-- `map::free_blocks` meets its contract. Whole bytes are counted by their bits, the blocks behind them one by one.
use mathlib.Core.Path.{◌≡◌, refl, ap}
use Prim.Native.Nat.{ℕ, ◌+◌, ◌-◌, ◌*◌, ◌/◌, ◌≤◌, ◌<◌}
use lib.Dec.{eqb}
use lib.ListN.{length}
use native.Mathlib.Omega.{arith}
use borrow.Author.Rules.{rules}
use borrow.Author.Tests.{tests}
use Rattle.std.proofs.lemmas.Iterator.{serves_from_Range, YieldsList-from_range}
use Rattle.std.proofs.lemmas.Iterator.Consumers.{YieldsList-from_filter, count_from_yields_List}
use Rattle.model.specs.Bytes.{view}
use Rattle.model.specs.Map.{room, free, map_at, map_blocks}
use Rattle.model.proofs.BitLaws.{map_at_in, room_le}
use Rattle.map.proofs.Laws.{room_total}
use Rattle.map.proofs.free_blocks.Goals as goal

pub count-rest-requires-clause-can : goal.count-rest-requires-clause-can
count-rest-requires-clause-can c =
    let a = c.args in
    let e : c.filter.result.iter.end ≡ a.n = ap (λ r. r.end) c.filter.ensures.source in
    let within = λ (x : ℕ) (high : x < c.filter.result.iter.end). map_at_in a.m a.n x (omega arith) in
    (tt, tt, serves_from_Range (λ x q k. search (rules, tests)) (λ x low high. let h : map_at a.m x < length a.img.now = omega (arith, within x high) in search rules))

pub returns : goal.returns
returns c =
    let a = c.args in
    let v = view a.img.now in
    let d : a.m * 512 + a.n / 8 - a.m * 512 ≡ a.n / 8 = omega arith in
    let whole = rw d at c.ones_in.ensures in
    let rest =
    count_from_yields_List _ _ c.count-rest.ensures.ran
    (YieldsList-from_filter _ (λ b. eqb (free a.m v b) 1) (YieldsList-from_range (a.n / 8 * 8) a.n (a.n - a.n / 8 * 8) c.filter.ensures.source refl)
    c.filter.ensures.closure (λ x b q k. search (rules, tests))) in
    let fits : a.m * 512 + a.n / 8 ≤ length a.img.now = unfold map_blocks in omega arith in
    let e : c.ones_in.result + c.count-rest.result ≡ room a.m v a.n = rw (whole, rest) (room_total a.img.now a.m a.n fits (λ i. omega (arith, c.type_inv.img i))) in
    (e, rw e (room_le a.m v a.n))
