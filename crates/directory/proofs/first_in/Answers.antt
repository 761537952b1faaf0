-- `directory::first_in` meets its contract: what is left of the chain decides, and may be looked at.
use mathlib.Core.Path.{◌≡◌, refl, sym, ap, ◌∙◌}
use Prim.Native.Nat.{◌-◌, ◌+◌}
use native.Mathlib.Omega.{arith}
use Rattle.model.specs.Bytes.{view}
use Rattle.directory.specs.Search.{first_of}
use Rattle.directory.proofs.SearchLaws.{rest_done, rest_more, searching, searching_block, searching_next, looks_front, looks_back, walk_ends, walk_goes_on}
use Rattle.directory.proofs.first_in.Goals as goal

pub loop-init : goal.loop-init
loop-init g c =
    let a = c.args in
    let e : a.used - 0 ≡ a.used = omega arith in
    rw e (searching a.n (view a.img.now) a.key a.used c.requires.bounds.2, c.requires.callable, λ f t. refl)

pub first_in_block-answer-requires : goal.first_in_block-answer-requires
first_in_block-answer-requires g c =
    let v = view c.args.img.now in
    let l = c.loop in
    let u = c.args.used - l.counter in
    let b = searching_block v l.block u l.first (omega arith) c.args.n l.invariant.0 in
    record {
      block_bound = (omega arith, l.invariant.0.low);
      callable = looks_front _ _ _ _ (rest_more v l.block u l.first (omega arith) l.invariant.0.low l.invariant.0.high) l.invariant.1;
    }

pub returns-then-is_some : goal.returns-then-is_some
returns-then-is_some g c = λ f t.
    let v = view c.args.img.now in
    let l = c.loop in
    let m = rest_more v l.block (c.args.used - l.counter) l.first (omega arith) l.invariant.0.low l.invariant.0.high in
    walk_ends f _ _ _ m _ _ (l.invariant.2 f t) (c.first_in_block-answer.ensures f t) (sym c.is_some.ensures ∙ c.if-is_some.true)

pub overflow_mul-block : goal.overflow_mul-block
overflow_mul-block g c =
    let l = c.loop in
    let b = searching_block (view c.args.img.now) l.block (c.args.used - l.counter) l.first (omega arith) c.args.n l.invariant.0 in
    omega arith

pub overflow_add-block : goal.overflow_add-block
overflow_add-block g c =
    let l = c.loop in
    let b = searching_block (view c.args.img.now) l.block (c.args.used - l.counter) l.first (omega arith) c.args.n l.invariant.0 in
    omega arith

pub get_word-block-requires : goal.get_word-block-requires
get_word-block-requires g c =
    let l = c.loop in
    let b = searching_block (view c.args.img.now) l.block (c.args.used - l.counter) l.first (omega arith) c.args.n l.invariant.0 in
    omega arith

pub loop-preserved : goal.loop-preserved
loop-preserved g c =
    let v = view c.args.img.now in
    let l = c.loop in
    let u = c.args.used - l.counter in
    let i = l.invariant.0 in
    let m = rest_more v l.block u l.first (omega arith) i.low i.high in
    let e : c.args.used - (l.counter + 1) ≡ c.args.used - l.counter - 1 = omega arith in
    rw (c.get_word-block.ensures.value, e) (
      searching_next v l.block u l.first (omega arith) c.args.n i,
      looks_back _ _ _ _ m l.invariant.1,
      λ f t. walk_goes_on f _ _ _ m _ _ (l.invariant.2 f t) (c.first_in_block-answer.ensures f t) (sym c.is_some.ensures ∙ c.if-is_some.false),
    )

pub returns : goal.returns
unfolding first_of
returns g c = λ f t.
    let l = c.loop in
    sym (l.invariant.2 f t ∙ ap (first_of f) (rest_done (view c.args.img.now) l.block (c.args.used - l.counter) l.first (omega arith)))
