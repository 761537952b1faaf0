-- Walks where one slot a gains or loses inert slots: the core is the walk without them. And what is met below what is met.
use Prim.Native.Nat.{ℕ, zero, suc, ◌+◌, ◌-◌, ◌*◌, ◌≤◌}
use mathlib.Core.Path.{◌≡◌, refl, sym}
use mathlib.Core.List.{List, [], ◌++◌}
use mathlib.Core.Bool.{Bool, true, false}
use lib.Dec.{eqb}
use native.Mathlib.Omega.{arith}
use native.Mathlib.Nat.{zero-mul}
use borrow.Author.Tests.{eqb-true, eqb-false}
use Rattle.model.specs.Bytes.{sum, count, is, one_if}
use Rattle.model.proofs.BitLaws.{is_no, is_most}
use Rattle.model.proofs.SumLaws.{is_self, sum_append, sum_add, sum_le, sum_eq, sum_zero, sum_mem}
use Rattle.model.proofs.Laws.Total.{Weight, total, reach, reach_down, total_le, total_add}

total_append : (kids : ℕ → List ℕ) (w : Weight) (l p : ℕ) (ss tt : List ℕ)
    → total kids w l p (ss ++ tt) ≡ total kids w l p ss + total kids w l p tt
unfolding total
total_append kids w zero p ss tt = sum_append _ ss tt
total_append kids w (suc l) p ss tt = sum_append _ ss tt

total_nil : (kids : ℕ → List ℕ) (w : Weight) (l p : ℕ) → total kids w l p [] ≡ 0
unfolding total sum
total_nil kids w zero p = refl
total_nil kids w (suc l) p = refl

pub total_inert : (kids : ℕ → List ℕ) (w : Weight) (l p : ℕ) (ss : List ℕ)
    → ((m s : ℕ) → 1 ≤ count s ss → (kids s ≡ []) × (w m p s ≡ 0)) → total kids w l p ss ≡ 0
unfolding total
total_inert kids w zero p ss f = sum_zero _ ss (λ s k. (f 0 s k).1)
total_inert kids w (suc l) p ss f = sum_zero _ ss (λ s k. rw (f (suc l) s k).0 (omega (arith, (f (suc l) s k).1, total_nil kids w l s)))

-- kids are the core's but at a, which has the slots e besides
pub core_le : (kids core : ℕ → List ℕ) (a : ℕ) (e : List ℕ) (w : Weight) (l p : ℕ) (ss : List ℕ)
    → ((x : ℕ) → (x ≡ a → ⊥) → kids x ≡ core x) → kids a ≡ core a ++ e → total core w l p ss ≤ total kids w l p ss
unfolding total
core_le kids core a e w zero p ss f g = omega arith
core_le kids core a e w (suc l) p ss f g =
    sum_le _ _ ss (λ s k. omega (arith, core_le kids core a e w l s (core s) f g, more s (eqb s a) refl))
  where
    more : (s : ℕ) (b : Bool) → eqb s a ≡ b → total kids w l s (core s) ≤ total kids w l s (kids s)
    more s true h = rw (eqb-true s a h, g, total_append kids w l a (core a) e) (omega arith)
    more s false h = rw (f s (eqb-false s a h)) (omega arith)

pub core_eq : (kids core : ℕ → List ℕ) (a : ℕ) (e : List ℕ) (w : Weight) (l p : ℕ) (ss : List ℕ)
    → ((x : ℕ) → 1 ≤ reach core x l p ss → (x ≡ a → ⊥) → kids x ≡ core x) → kids a ≡ core a ++ e
    → ((m s : ℕ) → 1 ≤ count s e → (kids s ≡ []) × (w m a s ≡ 0)) → total kids w l p ss ≡ total core w l p ss
unfolding total
core_eq kids core a e w zero p ss f g h = refl
core_eq kids core a e w (suc l) p ss f g h =
    sum_eq _ _ ss
    (λ s k.
    let down : (x : ℕ) → is x s + reach core x l s (core s) ≤ reach core x (suc l) p ss = λ x. reach_down core (λ _ _ y. is x y) l p s ss k in
    omega (
      arith,
      core_eq kids core a e w l s (core s) (λ x r. f x (omega (arith, down x))) g h,
      same s (f s (omega (arith, is_self s, down s))) (eqb s a) refl,
    ))
  where
    same : (s : ℕ) → ((s ≡ a → ⊥) → kids s ≡ core s) → (b : Bool) → eqb s a ≡ b → total kids w l s (kids s) ≡ total kids w l s (core s)
    same s r true i = rw (eqb-true s a i, g, total_append kids w l a (core a) e) (omega (arith, total_inert kids w l a e h))
    same s r false i = rw (r (eqb-false s a i)) refl

-- a slot that only itself holds is never met
pub never : (kids : ℕ → List ℕ) (a l p : ℕ) (ss : List ℕ)
    → ((x : ℕ) → 1 ≤ reach kids x l p ss → (x ≡ a → ⊥) → count a (kids x) ≡ 0) → count a ss ≡ 0 → reach kids a l p ss ≡ 0
unfolding total
never kids a zero p ss f z = z
never kids a (suc l) p ss f z =
    sum_zero _ ss
    (λ s k.
    let down : (x : ℕ) → is x s + reach kids x l s (kids s) ≤ reach kids x (suc l) p ss = λ x. reach_down kids (λ _ _ y. is x y) l p s ss k in
    let no : s ≡ a → ⊥ = λ e. omega (arith, z, rw e at k) in
    omega (
      arith,
      is_no a s (λ e. no (sym e)),
      never kids a l s (kids s) (λ x r. f x (omega (arith, down x))) (f s (omega (arith, is_self s, down s)) no),
    ))

-- the slots below those met are met, each in its directory
pub parents : (kids : ℕ → List ℕ) (w : ℕ → ℕ → ℕ) (l p : ℕ) (ss : List ℕ)
    → sum (w p) ss + total kids (λ m _ s. (1 - is m 0) * sum (w s) (kids s)) l p ss ≤ total kids (λ _ q s. w q s) l p ss
unfolding total
parents kids w zero p ss = omega (arith, sum_zero (λ s. (1 - is 0 0) * sum (w s) (kids s)) ss (λ s k. zero-mul (sum (w s) (kids s))))
parents kids w (suc l) p ss =
    omega (
      arith,
      sum_add (w p) (λ s. (1 - is (suc l) 0) * sum (w s) (kids s) + total kids (λ m _ s. (1 - is m 0) * sum (w s) (kids s)) l s (kids s)) ss,
      sum_le
          (λ s. w p s + ((1 - is (suc l) 0) * sum (w s) (kids s) + total kids (λ m _ s. (1 - is m 0) * sum (w s) (kids s)) l s (kids s)))
          (λ s. w p s + total kids (λ _ q s. w q s) l s (kids s))
          ss
          (λ s k. rw (is_no (suc l) 0 (λ e. omega arith)) (omega (arith, parents kids w l s (kids s)))),
    )

-- A way of k steps: what is met once and so is met at the level that its way says.
pub data Way (kids : ℕ → List ℕ) (x : ℕ) : List ℕ → ℕ → Type 0 where
  here : {ss : List ℕ} → 1 ≤ count x ss → Way kids x ss 0
  down : {ss : List ℕ} {k : ℕ} (q : ℕ) → 1 ≤ count q ss → Way kids x (kids q) k → Way kids x ss (suc k)

pub way_step : (kids : ℕ → List ℕ) (x d : ℕ) {ss : List ℕ} {k : ℕ} → Way kids d ss k → 1 ≤ count x (kids d) → Way kids x ss (suc k)
way_step kids x d (here c) h = down d c (here h)
way_step kids x d (down q c w) h = down q c (way_step kids x d w h)

-- a way stays where each slot that is met keeps the slots below it
pub way_more : (kids kids' : ℕ → List ℕ) (good : ℕ → Type 0)
    → ((q : ℕ) → good q → (y : ℕ) → 1 ≤ count y (kids q) → good y × (1 ≤ count y (kids' q)))
    → (x : ℕ) {ss : List ℕ} {k : ℕ} → Way kids x ss k → (ss' : List ℕ) → ((y : ℕ) → 1 ≤ count y ss → good y × (1 ≤ count y ss'))
    → Way kids' x ss' k
way_more kids kids' good f x (here c) ss' h = here (h x c).1
way_more kids kids' good f x (down q c w) ss' h = down q (h q c).1 (way_more kids kids' good f x w (kids' q) (f q (h q c).0))

total_mem : (kids : ℕ → List ℕ) (w : Weight) (l p s : ℕ) (ss : List ℕ) → 1 ≤ count s ss → w l p s ≤ total kids w l p ss
unfolding total
total_mem kids w zero p s ss k = sum_mem (w 0 p) s ss k
total_mem kids w (suc l) p s ss k = omega (arith, reach_down kids w l p s ss k)

way_met : (kids : ℕ → List ℕ) (x j l p : ℕ) {ss : List ℕ} {k : ℕ} → Way kids x ss k → l ≡ k + j
    → 1 ≤ total kids (λ m _ s. is x s * is m j) l p ss
way_met kids x j l p {ss} (here c) e =
    let f : l ≡ j = omega arith in
    rw f (omega (arith, rw (is_self x, is_self j) at (total_mem kids (λ m _ s. is x s * is m j) j p x ss c)))
way_met kids x j l p {ss} (down {k = k} q c w) e = go l e (λ i h. way_met kids x j i q w h)
  where
    go : (l : ℕ) → l ≡ suc k + j → ((i : ℕ) → i ≡ k + j → 1 ≤ total kids (λ m _ s. is x s * is m j) i q (kids q))
        → 1 ≤ total kids (λ m _ s. is x s * is m j) l p ss
    go zero e f = absurd (omega arith)
    go (suc i) e f = omega (arith, f i (omega arith), reach_down kids (λ m _ s. is x s * is m j) i p q ss c)

pub way_level : (kids : ℕ → List ℕ) (x j l p : ℕ) {ss : List ℕ} {k : ℕ} → reach kids x l p ss ≡ 1 → Way kids x ss k → l ≡ k + suc j
    → total kids (λ m _ s. is x s * is m 0) l p ss ≡ 0
way_level kids x j l p {ss} once w e =
    omega (
      arith,
      way_met kids x (suc j) l p w e,
      total_add kids (λ m _ s. is x s * is m 0) (λ m _ s. is x s * is m (suc j)) l p ss,
      total_le kids kids (λ _ _ s. is x s) (λ m _ s. is x s * is m 0 + is x s * is m (suc j)) l p ss (λ m q s r g. (refl, two m (eqb x s))),
    )
  where
    two : (m : ℕ) (b : Bool) → one_if b * is m 0 + one_if b * is m (suc j) ≤ one_if b
    two m false = omega arith
    two zero true = rw (is_no 0 (suc j) (λ h. omega arith)) (omega arith)
    two (suc m) true = rw (is_no (suc m) 0 (λ h. omega arith)) (omega (arith, is_most (suc m) (suc j)))
