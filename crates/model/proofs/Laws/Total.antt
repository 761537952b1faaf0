-- Sums over the walk of a tree of slots. A weight is a number for each level, parent and slot.
use Prim.Native.Nat.{ℕ, zero, suc, ◌+◌, ◌*◌, ◌≤◌}
use mathlib.Core.Path.{◌≡◌, refl, sym, ap, ◌∙◌, subst}
use mathlib.Core.List.{List, [], ◌∷◌}
use mathlib.Core.Bool.{Bool, true, false}
use lib.Dec.{eqb}
use borrow.Author.Tests.{eqb-true, eqb-false}
use native.Mathlib.Omega.{arith}
use native.Mathlib.Nat.{add-mul, mul-le-mul_right}
use Rattle.model.specs.Bytes.{sum, count, is, one_if}
use Rattle.model.specs.Walk.{visit, walk}
use Rattle.model.proofs.BitLaws.{is_no}
use Rattle.model.proofs.SumLaws.{is_self, sum_add, sum_scale, sum_ext, sum_map, sum_gather, sum_le, sum_zero, sum_mem, sum_none}

abbrev pub Weight : Type 0
Weight = ℕ → ℕ → ℕ → ℕ

unfoldable pub total : (ℕ → List ℕ) → Weight → ℕ → ℕ → List ℕ → ℕ
total kids w zero p ss = sum (λ s. w 0 p s) ss
total kids w (suc l) p ss = sum (λ s. w (suc l) p s + total kids w l s (kids s)) ss

-- how often x is met
abbrev pub reach : (ℕ → List ℕ) → ℕ → ℕ → ℕ → List ℕ → ℕ
reach kids x = total kids (λ _ _ s. is x s)

-- a sum over the visits is such a total
pub visits_total : (kids : ℕ → List ℕ) (w : Weight) (l p : ℕ) (ss : List ℕ)
    → sum (λ x. w x.levels x.way x.slot) (walk kids (λ _ s. s) l p ss) ≡ total kids w l p ss
unfolding total walk sum
visits_total kids w zero p ss = sum_map (λ x. w x.levels x.way x.slot) (visit 0 p) ss
visits_total kids w (suc l) p ss =
    sum_gather (λ x. w x.levels x.way x.slot) (λ s. visit (suc l) p s ∷ walk kids (λ _ s. s) l s (kids s)) ss
    ∙ sum_ext _ _ ss (λ s. ap (λ n. w (suc l) p s + n) (visits_total kids w l s (kids s)))

-- Totals.
pub reach_down : (kids : ℕ → List ℕ) (w : Weight) (l p s : ℕ) (ss : List ℕ) → 1 ≤ count s ss
    → w (suc l) p s + total kids w l s (kids s) ≤ total kids w (suc l) p ss
unfolding total
reach_down kids w l p s ss k = sum_mem (λ x. w (suc l) p x + total kids w l x (kids x)) s ss k

-- x was met in q: at the start, or below a slot that was met
pub data Edge (kids : ℕ → List ℕ) (l p : ℕ) (ss : List ℕ) (q x : ℕ) : Type 0 where
  root : q ≡ p → 1 ≤ count x ss → Edge kids l p ss q x
  child : 1 ≤ reach kids q l p ss → 1 ≤ count x (kids q) → Edge kids l p ss q x

-- The law of all walks: where a new volume has the same slots below each slot met, and no larger weights, its total is no larger.
pub total_le : (kids kids' : ℕ → List ℕ) (w w' : Weight) (l p : ℕ) (ss : List ℕ)
    → ((m q x : ℕ) → 1 ≤ reach kids x l p ss → Edge kids l p ss q x → (kids' x ≡ kids x) × (w' m q x ≤ w m q x))
    → total kids' w' l p ss ≤ total kids w l p ss
unfolding total
total_le kids kids' w w' zero p ss f = sum_le _ _ ss (λ s k. (f 0 p s k (root refl k)).1)
total_le kids kids' w w' (suc l) p ss f =
    sum_le _ _ ss
    (λ s k.
    let down : (x : ℕ) → is x s + reach kids x l s (kids s) ≤ reach kids x (suc l) p ss = λ x. reach_down kids (λ _ _ y. is x y) l p s ss k in
    let met : 1 ≤ reach kids s (suc l) p ss = omega (arith, is_self s, down s) in
    let edge : (q x : ℕ) → Edge kids l s (kids s) q x → Edge kids (suc l) p ss q x =
    λ q x. elim [ root e c ↦ child (subst (λ z. 1 ≤ reach kids z (suc l) p ss) (sym e) met) (subst (λ z. 1 ≤ count x (kids z)) (sym e) c) | child r c ↦ child (omega (arith, down q)) c ] in
    let here = f (suc l) p s met (root refl k) in
    let below = total_le kids kids' w w' l s (kids s) (λ m q x h e. f m q x (omega (arith, down x)) (edge q x e)) in
    rw here.0 (omega (arith, here.1, below)))

-- the same slots below each slot, and no larger weights
pub weight_le : (kids : ℕ → List ℕ) (w w' : Weight) (l p : ℕ) (ss : List ℕ) → ((m q x : ℕ) → w' m q x ≤ w m q x)
    → total kids w' l p ss ≤ total kids w l p ss
weight_le kids w w' l p ss f = total_le kids kids w w' l p ss (λ m q x h e. (refl, f m q x))

pub total_eq : (kids kids' : ℕ → List ℕ) (w w' : Weight) (l p : ℕ) (ss : List ℕ)
    → ((m q x : ℕ) → 1 ≤ reach kids x l p ss → (kids' x ≡ kids x) × (w' m q x ≡ w m q x))
    → total kids' w' l p ss ≡ total kids w l p ss
total_eq kids kids' w w' l p ss f =
    let same : (x : ℕ) → reach kids' x l p ss ≤ reach kids x l p ss =
    λ x. total_le kids kids' _ _ l p ss (λ m q y h e. ((f m q y h).0, omega arith)) in
    omega (
      arith,
      total_le kids kids' w w' l p ss (λ m q x h e. ((f m q x h).0, omega (arith, (f m q x h).1))),
      total_le kids' kids w' w l p ss (λ m q x h e. let g = f m q x (omega (arith, same x)) in (sym g.0, omega (arith, g.1))),
    )

pub total_add : (kids : ℕ → List ℕ) (u w : Weight) (l p : ℕ) (ss : List ℕ)
    → total kids (λ m q x. u m q x + w m q x) l p ss ≡ total kids u l p ss + total kids w l p ss
unfolding total
total_add kids u w zero p ss = sum_add _ _ ss
total_add kids u w (suc l) p ss =
    sum_ext _ (λ s. (u (suc l) p s + total kids u l s (kids s)) + (w (suc l) p s + total kids w l s (kids s))) ss
    (λ s. omega (arith, total_add kids u w l s (kids s)))
    ∙ sum_add _ _ ss

pub total_scale : (kids : ℕ → List ℕ) (w : Weight) (c l p : ℕ) (ss : List ℕ)
    → total kids (λ m q x. w m q x * c) l p ss ≡ total kids w l p ss * c
unfolding total
total_scale kids w c zero p ss = sum_scale _ c ss
total_scale kids w c (suc l) p ss =
    sum_ext _ (λ s. (w (suc l) p s + total kids w l s (kids s)) * c) ss (λ s. rw (total_scale kids w c l s (kids s), add-mul) refl)
    ∙ sum_scale _ c ss

pub total_none : (kids : ℕ → List ℕ) (l p : ℕ) (ss : List ℕ) → total kids (λ _ _ _. 0) l p ss ≡ 0
unfolding total
total_none kids zero p ss = sum_none ss
total_none kids (suc l) p ss = sum_zero _ ss (λ s k. omega (arith, total_none kids l s (kids s)))

-- sums in either order
pub total_swap : (kids : ℕ → List ℕ) (g : ℕ → ℕ → ℕ) (l p : ℕ) (ss bs : List ℕ)
    → sum (λ b. total kids (λ _ _ s. g b s) l p ss) bs ≡ total kids (λ _ _ s. sum (λ b. g b s) bs) l p ss
unfolding sum
total_swap kids g l p ss [] = sym (total_none kids l p ss)
total_swap kids g l p ss (b ∷ bs) =
    omega (arith, total_swap kids g l p ss bs, total_add kids (λ _ _ s. g b s) (λ _ _ s. sum (λ c. g c s) bs) l p ss)

-- A slot is met no more often than the blocks that hold it.
pub reach_le : (kids : ℕ → List ℕ) (c : Weight) (x l p : ℕ) (ss : List ℕ)
    → ((m q s : ℕ) → count x (kids s) ≤ c m q s) → reach kids x l p ss ≤ count x ss + total kids c l p ss
unfolding total
reach_le kids c x zero p ss f = omega arith
reach_le kids c x (suc l) p ss f =
    omega (
      arith,
      sum_add (is x) (λ s. c (suc l) p s + total kids c l s (kids s)) ss,
      sum_le (λ s. is x s + reach kids x l s (kids s)) (λ s. is x s + (c (suc l) p s + total kids c l s (kids s))) ss
          (λ s k. omega (arith, f (suc l) p s, reach_le kids c x l s (kids s) f)),
    )

is_mul : (x y : ℕ) (w : ℕ → ℕ) → is x y * w x ≤ w y
is_mul x y w = go (eqb x y) refl
  where
    go : (b : Bool) → eqb x y ≡ b → is x y * w x ≤ w y
    go true e = rw (eqb-true x y e, is_self y) (omega arith)
    go false e = rw e (omega arith)

-- one visited slot, and two
pub total_one : (kids : ℕ → List ℕ) (w : ℕ → ℕ) (x l p : ℕ) (ss : List ℕ) → 1 ≤ reach kids x l p ss → w x ≤ total kids (λ _ _ s. w s) l p ss
total_one kids w x l p ss h =
    let k : 1 * w x ≤ total kids (λ _ _ s. is x s) l p ss * w x = mul-le-mul_right (w x) h in
    omega
    (arith, total_scale kids (λ _ _ s. is x s) (w x) l p ss, weight_le kids (λ _ _ s. w s) (λ _ _ s. is x s * w x) l p ss (λ m q y. is_mul x y w))

pub total_two : (kids : ℕ → List ℕ) (w : ℕ → ℕ) (x y l p : ℕ) (ss : List ℕ) → (x ≡ y → ⊥) → 1 ≤ reach kids x l p ss → 1 ≤ reach kids y l p ss
    → w x + w y ≤ total kids (λ _ _ s. w s) l p ss
total_two kids w x y l p ss n h k =
    let hx : 1 * w x ≤ total kids (λ _ _ s. is x s) l p ss * w x = mul-le-mul_right (w x) h in
    let hy : 1 * w y ≤ total kids (λ _ _ s. is y s) l p ss * w y = mul-le-mul_right (w y) k in
    omega (
      arith,
      total_scale kids (λ _ _ s. is x s) (w x) l p ss,
      total_scale kids (λ _ _ s. is y s) (w y) l p ss,
      total_add kids (λ _ _ s. is x s * w x) (λ _ _ s. is y s * w y) l p ss,
      weight_le kids (λ _ _ s. w s) (λ _ _ s. is x s * w x + is y s * w y) l p ss (λ m q z. two_mul_le z),
    )
  where
    two_mul_le : (z : ℕ) → is x z * w x + is y z * w y ≤ w z
    two_mul_le z = go (eqb x z) refl
      where
        go : (b : Bool) → eqb x z ≡ b → is x z * w x + is y z * w y ≤ w z
        go true e = rw (is_no y z (λ q. n (eqb-true x z e ∙ sym q))) (omega (arith, is_mul x z w))
        go false e = rw (is_no x z (eqb-false x z e)) (omega (arith, is_mul y z w))

-- one slot, met once, has another weight
pub total_change : (kids kids' : ℕ → List ℕ) (w w' : ℕ → ℕ) (a l p : ℕ) (ss : List ℕ) → reach kids a l p ss ≡ 1
    → ((x : ℕ) → 1 ≤ reach kids x l p ss → kids' x ≡ kids x) → ((x : ℕ) → 1 ≤ reach kids x l p ss → (x ≡ a → ⊥) → w' x ≡ w x)
    → total kids' (λ _ _ s. w' s) l p ss + w a ≡ total kids (λ _ _ s. w s) l p ss + w' a
total_change kids kids' w w' a l p ss once f g =
    let once' : reach kids' a l p ss ≡ 1 = total_eq kids kids' (λ _ _ s. is a s) (λ _ _ s. is a s) l p ss (λ m q x h. (f x h, refl)) ∙ once in
    omega (
      arith,
      total_eq kids kids' (λ _ _ s. w s + is a s * w' a) (λ _ _ s. w' s + is a s * w a) l p ss (λ m q x h. (f x h, at_a x h (eqb a x) refl)),
      total_add kids (λ _ _ s. w s) (λ _ _ s. is a s * w' a) l p ss,
      total_add kids' (λ _ _ s. w' s) (λ _ _ s. is a s * w a) l p ss,
      rw once at (total_scale kids (λ _ _ s. is a s) (w' a) l p ss),
      rw once' at (total_scale kids' (λ _ _ s. is a s) (w a) l p ss),
    )
  where
    at_a : (x : ℕ) → 1 ≤ reach kids x l p ss → (b : Bool) → eqb a x ≡ b → w' x + one_if b * w a ≡ w x + one_if b * w' a
    at_a x h true e = rw (eqb-true a x e) (omega arith)
    at_a x h false e = omega (arith, g x h (λ q. eqb-false a x e (sym q)))
