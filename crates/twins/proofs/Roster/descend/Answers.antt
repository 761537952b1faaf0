-- `twins::Roster::descend` meets its contract. Each turn stands at the node to which so many bits lead, and no node on the way has the name.
use mathlib.Core.Path.{◌≡◌, refl, sym, ◌∙◌}
use mathlib.Core.List.{List}
use mathlib.Core.Bool.{Bool, false}
use Prim.Native.Nat.{ℕ, ◌+◌, ◌<◌}
use native.Mathlib.Numerals.{add-one}
use native.Mathlib.Omega.{arith}
use lib.ListN.{get_or}
use Rattle.model.specs.Bytes.{Bytes, view}
use Rattle.model.specs.Names.{alike}
use Rattle.model.proofs.ByteLaws.{at_or_off}
use Rattle.twins.specs.Twins.{key_of, child, lefts, rights, walk, Tree, Lands}
use Rattle.twins.proofs.TreeLaws.{none_before}
use Rattle.twins.proofs.Roster.descend.Invariants.{On}
use Rattle.twins.proofs.Roster.descend.Goals as goal

module _ (f : Bytes) (xs : List ℕ) (k : ℕ) (l r : Bytes) where
  starts : 0 < k → On f xs k l r 0 0
  unfolding walk
  starts h = record {
    inside = h;
    late = omega arith;
    alive = λ i l. absurd (let w : ⊥ = omega arith in w);
    there = refl;
    unlike = λ e l. absurd (let w : ⊥ = omega arith in w);
  }

module _ (f : Bytes) (xs : List ℕ) (k : ℕ) (l r : Bytes) (node i : ℕ) (o : On f xs k l r node i) where
  -- it has another name, the next bit is b, and next is the child on that side
  module _ (t : Bool) (other : t ≡ alike f (get_or xs node 0) (get_or xs k 0)) (no : t ≡ false) (tree : Tree f xs k l r)
      (b : Bool) (side : b ≡ key_of f xs k i) (next : ℕ) (is : next ≡ child l r b node) where
    so_far : (e : ℕ) → e < i + 1 → alike f (get_or xs (walk l r (key_of f xs k) e) 0) (get_or xs k 0) ≡ false
    so_far e h = at_or_off e i (λ p. rw (p, o.there) (sym other ∙ no)) (λ q. o.unlike e (omega (arith, q)))

    child_at : {e : ℕ} → e ≡ i → child l r (key_of f xs k e) (walk l r (key_of f xs k) e) ≡ next
    child_at u = rw (u, o.there, ← side) (sym is)

    ends : next ≡ 0 → Lands f xs k l r record { node = node; bit = b }
    ends z = record {
      inside = o.inside;
      alone = none_before f xs k l r i tree (child_at refl ∙ z) (λ e h. so_far e (omega arith));
      way = (i, o.alive, o.there, sym side);
      free = sym is ∙ z;
    }

    goes : (next ≡ 0 → ⊥) → On f xs k l r next (i + 1)
    unfolding walk
    goes z = record {
      inside = step.1;
      late = omega (arith, o.late, step.0);
      alive = λ e h w. at_or_off e i (λ u. z (sym (child_at u) ∙ w)) (λ v. o.alive e (omega (arith, v)) w);
      there = rw add-one (child_at refl);
      unlike = so_far;
    }
      where
        step : (node < next) × (next < k)
        step = rw is (tree.later b node o.inside (rw is at z))

pub loop-i-init : goal.loop-i-init
loop-i-init c =
    starts (view c.args.self.now.img.now) c.args.self.now.places.now c.args.k (lefts c.args.nodes.now) (rights c.args.nodes.now) c.requires.k_nonzero.0

pub returns-then-next-eq0 : goal.returns-then-next-eq0
returns-then-next-eq0 c =
    let s = c.args in
    let o = c.loop-i in
    ends (view s.self.now.img.now) s.self.now.places.now s.k (lefts s.nodes.now) (rights s.nodes.now) o.node o.i o.invariant _ c.same_at.ensures c.if-same_at.false
    c.requires.tree _ c.bit_at-bit.ensures _ c.child_of-next.ensures c.if-next-eq0.true

pub loop-i-preserved : goal.loop-i-preserved
loop-i-preserved c =
    let s = c.args in
    let o = c.loop-i in
    goes (view s.self.now.img.now) s.self.now.places.now s.k (lefts s.nodes.now) (rights s.nodes.now) o.node o.i o.invariant _ c.same_at.ensures c.if-same_at.false
    c.requires.tree _ c.bit_at-bit.ensures _ c.child_of-next.ensures c.if-next-eq0.false
