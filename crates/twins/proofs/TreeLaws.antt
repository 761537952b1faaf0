-- A tree of names: where a name's bits lead, and what attaching a node keeps. Assumes nothing.
use Prim.Native.Nat.{ℕ, zero, suc, ◌+◌, ◌≤◌, ◌<◌}
use mathlib.Core.Path.{◌≡◌, refl, sym, ap, ◌∙◌, subst}
use mathlib.Core.List.{List}
use mathlib.Core.Bool.{Bool, true, false, false≢true}
use native.Mathlib.Omega.{arith}
use native.Mathlib.Decide.{dec_lt}
use lib.ListN.{length, get_or}
use borrow.Author.Count.{below_more}
use Rattle.model.specs.Bytes.{Bytes}
use Rattle.model.specs.Names.{alike}
use Rattle.model.proofs.ByteLaws.{at_or_off, put_at, put_off}
use Rattle.twins.specs.declared.Spot.{Spot}
use Rattle.twins.specs.Twins.{no_twins, key_of, child, walk, Alive, attached, Met, Tree, Apart, HasTwin, Lands}
use Rattle.twins.proofs.NameLaws.{alike_bits, none_all, found}

-- a walk stays among the nodes
pub walk_below : (f : Bytes) (xs : List ℕ) (k : ℕ) (l r : Bytes) (key : ℕ → Bool) (d : ℕ) → 0 < k → Tree f xs k l r → Alive l r key d → walk l r key d < k
unfolding walk
walk_below f xs k l r key zero h t a = h
walk_below f xs k l r key (suc d) h t a =
    (t.later (key d) (walk l r key d) (walk_below f xs k l r key d h t (λ i m. a i (omega arith))) (a d (omega arith))).1

-- Where the bits of name k lead to no node, and no node on the way has its name, none of the tree has.
pub none_before : (f : Bytes) (xs : List ℕ) (k : ℕ) (l r : Bytes) (d : ℕ) → Tree f xs k l r → child l r (key_of f xs k d) (walk l r (key_of f xs k) d) ≡ 0
    → ((i : ℕ) → i ≤ d → alike f (get_or xs (walk l r (key_of f xs k) i) 0) (get_or xs k 0) ≡ false)
    → (j : ℕ) → j < k → alike f (get_or xs j 0) (get_or xs k 0) ≡ false
unfolding walk
none_before f xs k l r d t e n j h = go (alike f (get_or xs j 0) (get_or xs k 0)) refl
  where
    -- on the way of name k
    meets : alike f (get_or xs j 0) (get_or xs k 0) ≡ true → (c : ℕ) → Alive l r (key_of f xs k) c → walk l r (key_of f xs k) c ≡ j → ⊥
    meets p c a w = elim (dec_lt d c) [ yes u ↦ a d u e | no u ↦ false≢true (sym (rw w at (n c (omega arith))) ∙ p) ]

    go : (b : Bool) → alike f (get_or xs j 0) (get_or xs k 0) ≡ b → alike f (get_or xs j 0) (get_or xs k 0) ≡ false
    go true p =
        let q : (c : ℕ) × Alive l r (key_of f xs k) c × (walk l r (key_of f xs k) c ≡ j) = subst (λ b. (c : ℕ) × Alive l r b c × (walk l r b c ≡ j)) (alike_bits f (get_or xs j 0) (get_or xs k 0) p) (t.met j h) in
        absurd (meets p q.0 q.1 q.2)
    go false p = p

-- the root alone
pub tree_one : (f : Bytes) (xs : List ℕ) (l r : Bytes) → l 0 ≡ 0 → r 0 ≡ 0 → Tree f xs 1 l r
unfolding walk
tree_one f xs l r p q = record {
  later = λ b m h n. let e : m ≡ 0 = omega arith in absurd (n (rw e (none b)));
  met = λ j h. (0, (λ i m. absurd (let w : ⊥ = omega arith in w)), omega arith);
}
  where
    none : (b : Bool) → child l r b 0 ≡ 0
    none true = q
    none false = p

pub apart_one : (f : Bytes) (xs : List ℕ) → Apart f xs 1
apart_one f xs i j h l = absurd (let w : ⊥ = omega arith in w)

-- The children of a node once k is attached: as before, but for the one that k is now, and k has none.
module _ (l r : Bytes) (node k : ℕ) where
  abbrev grown : Bool → Bool → ℕ → ℕ
  grown bit b m = child (attached l bit false node k) (attached r bit true node k) b m

  grown_at : (bit : Bool) → grown bit bit node ≡ k
  unfolding attached
  grown_at true = put_at _ node k
  grown_at false = put_at _ node k

  grown_new : (bit b : Bool) → (k ≡ node → ⊥) → grown bit b k ≡ 0
  unfolding attached
  grown_new true true n = put_off _ node k k n ∙ put_at r k 0
  grown_new true false n = put_at l k 0
  grown_new false true n = put_at r k 0
  grown_new false false n = put_off _ node k k n ∙ put_at l k 0

  -- at another node
  grown_or : {P : Type 0} (bit b : Bool) (m : ℕ) → (m ≡ k → ⊥) → (grown bit b m ≡ child l r b m → P) → (m ≡ node → b ≡ bit → P) → P
  unfolding attached
  grown_or true true m n old new = at_or_off m node (λ e. new e refl) (λ o. old (put_off _ node k m o ∙ put_off r k 0 m n))
  grown_or true false m n old new = old (put_off l k 0 m n)
  grown_or false true m n old new = old (put_off r k 0 m n)
  grown_or false false m n old new = at_or_off m node (λ e. new e refl) (λ o. old (put_off _ node k m o ∙ put_off l k 0 m n))

-- the children on each side then, and a node's child
abbrev left : Bytes → Spot → ℕ → Bytes
left l s k = attached l s.bit false s.node k

abbrev right : Bytes → Spot → ℕ → Bytes
right r s k = attached r s.bit true s.node k

abbrev next : Bytes → Bytes → Spot → ℕ → Bool → ℕ → ℕ
next l r s k b m = child (left l s k) (right r s k) b m

-- Name k is attached where its walk landed.
module _ (f : Bytes) (xs : List ℕ) (k : ℕ) (l r : Bytes) (s : Spot) (lands : Lands f xs k l r s) where
  module _ (t : Tree f xs k l r) where
    -- a child that was there is there
    kept : (b : Bool) (m : ℕ) → m < k → (child l r b m ≡ 0 → ⊥) → next l r s k b m ≡ child l r b m
    kept b m h n =
        grown_or l r s.node k s.bit b m (λ p. omega arith) (λ p. p)
        (λ p q. absurd (n (ap (λ c. child l r c m) q ∙ ap (child l r s.bit) p ∙ lands.free)))

    -- and so is a walk
    module _ (key : ℕ → Bool) where
      kept_walk : (d : ℕ) → Alive l r key d → walk (left l s k) (right r s k) key d ≡ walk l r key d
      unfolding walk
      kept_walk zero a = refl
      kept_walk (suc d) a =
          let below : Alive l r key d = λ i m. a i (omega arith) in
          let h : 0 < k = omega (arith, lands.inside) in
          ap (next l r s k (key d)) (kept_walk d below)
          ∙ kept (key d) (walk l r key d) (walk_below f xs k l r key d h t below) (a d (omega arith))

      kept_alive : (d : ℕ) → Alive l r key d → Alive (left l s k) (right r s k) key d
      kept_alive d a i h z = a i h (sym (kept_walk (suc i) (λ j m. a j (omega arith))) ∙ z)

    -- a child is later
    Later : Bool → ℕ → Type 0
    Later b m = (m < next l r s k b m) × (next l r s k b m < k + 1)

    later_old : (b : Bool) (m : ℕ) → m < k → (next l r s k b m ≡ 0 → ⊥) → next l r s k b m ≡ child l r b m → Later b m
    unfolding Later
    later_old b m h n p = let q = t.later b m h (λ z. n (p ∙ z)) in (omega arith, omega arith)

    later_new : (b : Bool) (m : ℕ) → m ≡ s.node → b ≡ s.bit → Later b m
    unfolding Later
    later_new b m p q =
        let c : next l r s k b m ≡ k = ap (λ b. next l r s k b m) q ∙ ap (next l r s k s.bit) p ∙ grown_at l r s.node k s.bit in
        let h : s.node < k = lands.inside in
        (omega arith, omega arith)

    later_more : (b : Bool) (m : ℕ) → m < k + 1 → (next l r s k b m ≡ 0 → ⊥) → Later b m
    later_more b m h n =
        at_or_off m k (λ p. absurd (n (ap (next l r s k b) p ∙ grown_new l r s.node k s.bit b (λ q. omega (arith, lands.inside)))))
        (λ o. grown_or l r s.node k s.bit b m o (later_old b m (omega (arith, o)) n) (later_new b m))

    -- the names are met where they were, and k at its node
    met_old : (j : ℕ) → Met f xs l r j → Met f xs (left l s k) (right r s k) j
    met_old j (d, a, w) = (d, kept_alive (key_of f xs j) d a, kept_walk (key_of f xs j) d a ∙ w)

    met_new : (d : ℕ) → Alive l r (key_of f xs k) d → walk l r (key_of f xs k) d ≡ s.node → key_of f xs k d ≡ s.bit → Met f xs (left l s k) (right r s k) k
    unfolding walk
    met_new d a w b = (suc d, alive, there)
      where
        there : walk (left l s k) (right r s k) (key_of f xs k) (suc d) ≡ k
        there =
            ap (next l r s k (key_of f xs k d)) (kept_walk (key_of f xs k) d a ∙ w)
            ∙ ap (λ c. next l r s k c s.node) b
            ∙ grown_at l r s.node k s.bit

        alive : Alive (left l s k) (right r s k) (key_of f xs k) (suc d)
        alive i h z =
            at_or_off i d (λ p. let c : k ≡ 0 = sym there ∙ ap (λ n. walk (left l s k) (right r s k) (key_of f xs k) (suc n)) (sym p) ∙ z in omega (arith, lands.inside))
            (λ o. kept_alive (key_of f xs k) d a i (omega (arith, o)) z)

    pub tree_more : Tree f xs (k + 1) (attached l s.bit false s.node k) (attached r s.bit true s.node k)
    unfolding Later
    tree_more =
        let (d, a, w, b) = lands.way in
        record { later = later_more; met = below_more _ k (λ j h. met_old j (t.met j h)) (met_new d a w b) }

  pub apart_more : Apart f xs k → Apart f xs (k + 1)
  apart_more a i j h m = at_or_off j k (λ p. rw p (lands.alone i (omega arith))) (λ o. a i j h (omega (arith, o)))

-- or it has a twin
pub some_twins : (f : Bytes) (xs : List ℕ) (k : ℕ) → k < length xs → HasTwin f xs k → false ≡ no_twins f xs
some_twins f xs k h t = sym (found f xs t.0 k t.1 h t.2)

pub none_twins : (f : Bytes) (xs : List ℕ) → Apart f xs (length xs) → true ≡ no_twins f xs
none_twins f xs a = sym (none_all f xs a)
