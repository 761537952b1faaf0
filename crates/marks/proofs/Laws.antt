-- Marks set in a slice, and what a step of the code leaves to claim, to count and to compare. Assumes nothing.
use mathlib.Core.Path.{◌≡◌, refl, sym, ap, ◌∙◌, fun_ext}
use mathlib.Core.List.{List, [], ◌∷◌, ◌++◌}
use mathlib.Core.Bool.{Bool, true, false, not, beq}
use mathlib.Core.Option.{none, some}
use Prim.Native.Nat.{ℕ, zero, suc, ◌+◌, ◌-◌, ◌*◌, ◌/◌, ◌%◌, ◌≤◌, ◌<◌}
use native.Mathlib.Omega.{arith}
use borrow.Author.Tests.{eqb-true, eqb-false, eq-eqb, ne_eqb, ltb-true, ltb-false, lt-ltb, le-ltb, le-leb, leb-true}
use lib.Dec.{eqb, leb, ltb}
use lib.ListN.{length, length-append, get_or, replicate}
use Rattle.model.specs.Bytes.{Bytes, view, Octets, is, gather, run, ◌and◌, ◌or◌}
use Rattle.model.specs.Map.{bit, map_at, free, given, map_blocks}
use Rattle.model.specs.Directory.{map_place, previous, next}
use Rattle.model.specs.File.{Node, pointer, limb, nodes, first_below}
use Rattle.model.proofs.ByteLaws.{at_or_off}
use Rattle.model.proofs.BitLaws.{bit_zero, is_yes, is_no, free_most, given_free}
use Rattle.claims.specs.Claims.{Claim, block, must, Seen, with, claim, outcome, chain_claims, limb_claims, tree_claims, reserved, map_right}
use Rattle.claims.proofs.TestLaws.{decide}
use Rattle.claims.proofs.SumLaws.{gather_step, gather_end}
use Rattle.claims.proofs.ClaimLaws.{taken, refused, must_on, must_off, block_on, block_outside, chain_step, chain_end, limb_hole, limb_held}
use Rattle.claims.proofs.Agreement.{map_step, map_wrong}
use Rattle.marks.specs.Marks.{marks, nothing, took_all, took_count}
use Rattle.std.specs.Prelude.{Option as Answer, Some, None}
use Rattle.std.specs.Bool.{MatchBool}
use Rattle.std.specs.List.{AllWithin, HoldsAt, range_with_len}
use Rattle.std.proofs.lemmas.List.FromFn.{get_or-range_with_len, length-range_with_len}

-- A slice of marks is a map that starts at block 0: to mark a block is to give it there.
pub marks_free : (l : List ℕ) (b : ℕ) → marks l b ≡ eqb (free 0 (view l) b) 1
unfolding marks free map_at
marks_free l b =
    let e : b / 8 ≡ 0 * 512 + b / 8 = omega arith in
    ap (λ (i : ℕ). eqb (bit (get_or l i 0) (b % 8)) 1) e

module _ (l l' : List ℕ) (b : ℕ) (octets : Octets (view l)) (gave : view l' ≡ given 0 (view l) b) where
  mark_at : (x : ℕ) (t : Bool) → eqb x b ≡ t
      → eqb (free 0 (view l) x + is b x * (1 - free 0 (view l) b)) 1 ≡ (t or marks l x)
  unfolding ◌or◌
  mark_at x true p =
      let q : b ≡ x = sym (eqb-true x b p) in
      let z : free 0 (view l) x + is b x * (1 - free 0 (view l) b) ≡ 1 =
      rw (is_yes b x q) (omega (arith, free_most 0 (view l) b, ap (free 0 (view l)) q)) in
      eq-eqb _ 1 z
  mark_at x false p =
      let z : free 0 (view l) x + is b x * (1 - free 0 (view l) b) ≡ free 0 (view l) x =
      rw (is_no b x (λ q. eqb-false x b p (sym q))) (omega arith) in
      ap (λ (k : ℕ). eqb k 1) z ∙ sym (marks_free l x)

  pub marked : marks l' ≡ with b (marks l)
  unfolding with
  marked =
      fun_ext (λ x. marks_free l' x ∙ ap (λ (f : Bytes). eqb (free 0 f x) 1) gave
      ∙ ap (λ (k : ℕ). eqb k 1) (given_free 0 (view l) b x octets) ∙ mark_at x (eqb x b) refl)

-- zeros mark nothing
pub blank : (m : ℕ) → marks (replicate {A = ℕ} m 0) ≡ nothing
unfolding marks nothing
blank m = fun_ext (λ b. rw (zeros m (b / 8), bit_zero (b % 8)))
  where
    zeros : (m i : ℕ) → get_or {A = ℕ} (replicate m 0) i 0 ≡ 0
    zeros zero i = refl
    zeros (suc m) zero = refl
    zeros (suc m) (suc i) = zeros m i

-- The boot blocks, and the map's up to e.
unfoldable pub reserved_to : ℕ → Seen
reserved_to e = λ b. ltb b 2 or (leb 6 b and ltb b e)

pub reserve_start : with 1 (with 0 nothing) ≡ reserved_to 6
unfolding with nothing reserved_to ◌or◌ ◌and◌
reserve_start = fun_ext (λ x. decide (ltb x 2) (low x) (high x))
  where
    low : (x : ℕ) → ltb x 2 ≡ true → (eqb x 1 or (eqb x 0 or false)) ≡ (ltb x 2 or (leb 6 x and ltb x 6))
    low x p =
        at_or_off x 1 (λ e. rw (eq-eqb x 1 e, p))
        (λ n. let z : x ≡ 0 = omega (arith, ltb-true x 2 p) in rw (ne_eqb x 1 n, eq-eqb x 0 z, p))

    empty : (x : ℕ) → false ≡ (leb 6 x and ltb x 6)
    empty x = decide (leb 6 x) (λ g. rw (g, le-ltb x 6 (leb-true 6 x g))) (λ g. rw g)

    high : (x : ℕ) → ltb x 2 ≡ false → (eqb x 1 or (eqb x 0 or false)) ≡ (ltb x 2 or (leb 6 x and ltb x 6))
    high x p =
        let l = ltb-false x 2 p in
        rw (ne_eqb x 1 (λ e. omega arith), ne_eqb x 0 (λ e. omega arith), p) (empty x)

pub reserve_step : (b : ℕ) → 6 ≤ b → with b (reserved_to b) ≡ reserved_to (b + 1)
unfolding with reserved_to ◌or◌ ◌and◌
reserve_step b h = fun_ext (λ x. at_or_off x b (same x) (other x))
  where
    same : (x : ℕ) → x ≡ b → (eqb x b or (ltb x 2 or (leb 6 x and ltb x b))) ≡ (ltb x 2 or (leb 6 x and ltb x (b + 1)))
    same x e = rw (eq-eqb x b e, le-ltb x 2 (omega arith), le-leb 6 x (omega arith), lt-ltb x (b + 1) (omega arith))

    more : (x : ℕ) → (x ≡ b → ⊥) → ltb x b ≡ ltb x (b + 1)
    more x n =
        decide (ltb x b) (λ p. p ∙ sym (lt-ltb x (b + 1) (omega (arith, ltb-true x b p))))
        (λ p. p ∙ sym (le-ltb x (b + 1) (omega (arith, ltb-false x b p))))

    other : (x : ℕ) → (x ≡ b → ⊥) → (eqb x b or (ltb x 2 or (leb 6 x and ltb x b))) ≡ (ltb x 2 or (leb 6 x and ltb x (b + 1)))
    other x n = rw (ne_eqb x b n) (ap (λ (t : Bool). ltb x 2 or (leb 6 x and t)) (more x n))

pub reserve_end : (n e : ℕ) → e ≡ 6 + map_blocks n → reserved_to e ≡ reserved n
unfolding reserved_to reserved
reserve_end n e h = ap (λ (e : ℕ). λ (b : ℕ). ltb b 2 or (leb 6 b and ltb b e)) h

-- One claim.
pub block_marked : (n b : ℕ) (s s' : Seen) → b < n → s b ≡ false → s' ≡ with b s → some s' ≡ claim n (block b ∷ []) s
unfolding claim
block_marked n b s s' h f e = ap some e ∙ sym (block_on n [] s b h f)

must_alone : (n : ℕ) (s : Seen) (t : Bool) → outcome t s ≡ claim n (must t ∷ []) s
unfolding claim
must_alone n s true = refl
must_alone n s false = refl

no_outcome : (s : Seen) (r : Bool) → r ≡ true → outcome r s ≡ none → ⊥
no_outcome s r q e =
    let w : some s ≡ none = sym (ap (λ (r : Bool). outcome r s) q) ∙ e in
    let z : ◌≡◌ {A = ℕ} 0 1 = cc in
    omega arith

-- a block that was claimed is on the volume
pub on_volume : (n b : ℕ) (s s' : Seen) (r : Bool) → r ≡ true → outcome r s' ≡ claim n (block b ∷ []) s → b < n
on_volume n b s s' r q e =
    decide (ltb b n) (ltb-true b n) (λ p. absurd (no_outcome s' r q (e ∙ block_outside n [] s b (ltb-false b n p))))

pub node_on_volume : (n b : ℕ) (t : Bool) (s s' : Seen) (r : Bool) → r ≡ true → outcome r s' ≡ claim n (must t ∷ block b ∷ []) s → b < n
node_on_volume n b t s s' r q e =
    decide t (λ p. on_volume n b s s' r q (e ∙ must_on n (block b ∷ []) s t p))
    (λ p. absurd (no_outcome s' r q (e ∙ must_off n (block b ∷ []) s t p)))

-- A chain: the block b, which follows p, was claimed or refused.
module _ (n : ℕ) (v : Bytes) (p b u : ℕ) (s s' : Seen) (r : Bool) (more : 0 < u) (answer : outcome r s' ≡ claim n (block b ∷ []) s) where
  rest : List Claim
  rest = must (eqb (previous v b) p) ∷ chain_claims v b (next v b) (u - 1)

  whole : claim n (block b ∷ rest) s ≡ claim n (chain_claims v p b u) s
  unfolding rest
  whole = ap (λ (cs : List Claim). claim n cs s) (sym (chain_step v p b u more))

  pub chain_refused : r ≡ false → none ≡ claim n (chain_claims v p b u) s
  chain_refused q = sym (refused n (block b ∷ []) rest s s' r q answer) ∙ whole

  pub chain_broken : (w : ℕ) → w ≡ previous v b → (w ≡ p → ⊥) → r ≡ true → none ≡ claim n (chain_claims v p b u) s
  unfolding rest
  chain_broken w e d q =
      let f : eqb (previous v b) p ≡ false = rw (← e) (ne_eqb w p d) in
      sym (taken n (block b ∷ []) rest s s' r q answer ∙ must_off n (chain_claims v b (next v b) (u - 1)) s' _ f) ∙ whole

  pub chain_on : (w x : ℕ) → w ≡ previous v b → w ≡ p → x ≡ next v b → r ≡ true
      → claim n (chain_claims v b x (u - 1)) s' ≡ claim n (chain_claims v p b u) s
  unfolding rest
  chain_on w x e d g q =
      let f : eqb (previous v b) p ≡ true = rw (← e) (eq-eqb w p d) in
      ap (λ (x : ℕ). claim n (chain_claims v b x (u - 1)) s') g
      ∙ sym (taken n (block b ∷ []) rest s s' r q answer ∙ must_on n (chain_claims v b (next v b) (u - 1)) s' _ f) ∙ whole

pub chain_done : (n : ℕ) (v : Bytes) (p b u : ℕ) (s : Seen) → u ≤ 0 → outcome (eqb b 0) s ≡ claim n (chain_claims v p b u) s
chain_done n v p b u s h =
    must_alone n s (eqb b 0) ∙ ap (λ (cs : List Claim). claim n cs s) (sym (chain_end v p b u (omega arith)))

-- What the pointers of an index from i on lead to.
abbrev left : {B : Type 0} → (ℕ → List B) → ℕ → List B
left g i = gather g (run i (256 - i))

left_step : {B : Type 0} (g : ℕ → List B) (i : ℕ) → i < 256 → left g i ≡ g i ++ left g (i + 1)
left_step g i h =
    let d : 256 - i - 1 ≡ 256 - (i + 1) = omega arith in
    gather_step g i (256 - i) (omega arith) ∙ ap (λ (c : ℕ). g i ++ gather g (run (i + 1) c)) d

left_none : {B : Type 0} (g : ℕ → List B) (i : ℕ) → 256 ≤ i → left g i ≡ []
left_none g i h = gather_end g i (256 - i) (omega arith)

-- The block of a tree was claimed or refused, and what is below it is left.
below_claims : Bytes → ℕ → ℕ → ℕ → ℕ → List Claim
below_claims v e zero q k = []
below_claims v e (suc h) q k = left (limb_claims (tree_claims v e h) v q k) 0

tree_parts : (v : Bytes) (e h q k : ℕ) → must (ltb (first_below h q) e) ∷ block k ∷ below_claims v e h q k ≡ tree_claims v e h q k
unfolding below_claims tree_claims
tree_parts v e zero q k = refl
tree_parts v e (suc h) q k = refl

module _ (n : ℕ) (v : Bytes) (e h q k f : ℕ) (first : f ≡ first_below h q) (s s' : Seen) (r : Bool)
    (answer : outcome r s' ≡ claim n (must (ltb f e) ∷ block k ∷ []) s) where
  tree : claim n (must (ltb f e) ∷ block k ∷ below_claims v e h q k) s ≡ claim n (tree_claims v e h q k) s
  tree = rw first (ap (λ (cs : List Claim). claim n cs s) (tree_parts v e h q k))

  pub tree_refused : r ≡ false → none ≡ claim n (tree_claims v e h q k) s
  tree_refused p = sym (refused n (must (ltb f e) ∷ block k ∷ []) (below_claims v e h q k) s s' r p answer) ∙ tree

  on : r ≡ true → claim n (below_claims v e h q k) s' ≡ claim n (tree_claims v e h q k) s
  on p = sym (taken n (must (ltb f e) ∷ block k ∷ []) (below_claims v e h q k) s s' r p answer) ∙ tree

  pub tree_flat : r ≡ true → h ≡ 0 → some s' ≡ claim n (tree_claims v e h q k) s
  unfolding below_claims claim
  tree_flat p z = ap (λ (h : ℕ). claim n (below_claims v e h q k) s') (sym z) ∙ on p

  pub tree_on : r ≡ true → (d : ℕ) → h ≡ suc d → claim n (left (limb_claims (tree_claims v e d) v q k) 0) s' ≡ claim n (tree_claims v e h q k) s
  unfolding below_claims
  tree_on p d z = ap (λ (h : ℕ). claim n (below_claims v e h q k) s') (sym z) ∙ on p

pub flat_first : (h q : ℕ) → h ≡ 0 → q ≡ first_below h q
unfolding first_below
flat_first h q z = sym (ap (λ (h : ℕ). first_below h q) z)

pub flat_count : (v : Bytes) (h q k : ℕ) → h ≡ 0 → 1 ≡ length (nodes v h q k)
unfolding nodes
flat_count v h q k z = sym (ap (λ (h : ℕ). length (nodes v h q k)) z)

-- How many blocks a tree has at most.
unfoldable most : ℕ → ℕ
most zero = 1
most (suc h) = 1 + 256 * most h

module _ (g : ℕ → List Node) (m : ℕ) (few : (i : ℕ) → length (g i) ≤ m) where
  gather_most : (a c : ℕ) → length (gather g (run a c)) ≤ c * m
  unfolding gather run
  gather_most a zero = omega arith
  gather_most a (suc c) = omega (arith, few a, gather_most (suc a) c, length-append (g a) (gather g (run (suc a) c)))

module _ (tree : ℕ → ℕ → List Node) (v : Bytes) (q k i : ℕ) where
  limb_none : pointer v k i ≡ 0 → limb tree v q k i ≡ []
  unfolding limb
  limb_none z = rw (eq-eqb (pointer v k i) 0 z, limb) refl

  limb_some : (pointer v k i ≡ 0 → ⊥) → limb tree v q k i ≡ tree (q * 256 + i) (pointer v k i)
  unfolding limb
  limb_some z = rw (ne_eqb (pointer v k i) 0 z, limb) refl

  limb_most : (m : ℕ) → length (tree (q * 256 + i) (pointer v k i)) ≤ m → length (limb tree v q k i) ≤ m
  limb_most m few =
      at_or_off (pointer v k i) 0 (λ z. omega (arith, ap length (limb_none z))) (λ z. omega (arith, ap length (limb_some z)))

nodes_most : (v : Bytes) (h q k : ℕ) → length (nodes v h q k) ≤ most h
unfolding nodes most
nodes_most v zero q k = omega arith
nodes_most v (suc h) q k =
    omega (
      arith,
      gather_most (limb (λ r p. nodes v h r p) v q k) (most h)
          (λ i. limb_most (λ r p. nodes v h r p) v q k i (most h) (nodes_most v h (q * 256 + i) (pointer v k i))) 0 256,
    )

pub nodes_few : (v : Bytes) (h q k : ℕ) → h < 3 → length (nodes v h q k) ≤ 65793
unfolding most
nodes_few v zero q k l = omega (arith, nodes_most v 0 q k)
nodes_few v (suc zero) q k l = omega (arith, nodes_most v 1 q k)
nodes_few v (suc (suc zero)) q k l = omega (arith, nodes_most v 2 q k)
nodes_few v (suc (suc (suc h))) q k l = absurd (omega arith)

pub took_few : (o : Answer ℕ) (m : ℕ) → (took_all o ≡ true → took_count o ≡ m) → m ≤ 65793 → took_count o ≤ 65793
took_few None m f l = omega arith
took_few (Some k) m f l = omega (arith, f refl)

-- A loop over the pointers of an index, which began at what s₀ has: those from i on are left to claim, and `count` blocks were found.
module _ (n : ℕ) (v : Bytes) (e h q k : ℕ) (s₀ : Seen) where
  abbrev claims_of : ℕ → List Claim
  claims_of = limb_claims (tree_claims v e h) v q k

  abbrev nodes_of : ℕ → List Node
  nodes_of = limb (nodes v h) v q k

  abbrev pub Below : Seen → ℕ → ℕ → Type 0
  Below s i count =
      (claim n (left claims_of i) s ≡ claim n (left claims_of 0) s₀) × (count + length (left nodes_of i) ≡ length (nodes v (suc h) q k))

  pub below_start : Below s₀ 0 1
  unfolding nodes
  below_start = (refl, omega arith)

  module _ (s : Seen) (i count : ℕ) (below : Below s i count) where
    pub below_done : 256 ≤ i → (some s ≡ claim n (left (limb_claims (tree_claims v e h) v q k) 0) s₀) × (count ≡ length (nodes v (suc h) q k))
    unfolding claim
    below_done l =
        (sym (ap (λ (cs : List Claim). claim n cs s) (left_none claims_of i l)) ∙ below.0, omega (arith, below.1, ap length (left_none nodes_of i l)))

    pub below_few : h < 2 → count ≤ 65793
    below_few l = omega (arith, below.1, nodes_few v (suc h) q k (omega arith))

    module _ (more : i < 256) (p : ℕ) (is_pointer : p ≡ pointer v k i) where
      step : claim n (claims_of i ++ left claims_of (i + 1)) s ≡ claim n (left claims_of 0) s₀
      step = ap (λ (cs : List Claim). claim n cs s) (sym (left_step claims_of i more)) ∙ below.0

      count_step : count + (length (nodes_of i) + length (left nodes_of (i + 1))) ≡ length (nodes v (suc h) q k)
      count_step = omega (arith, below.1, ap length (left_step nodes_of i more) ∙ length-append (nodes_of i) (left nodes_of (i + 1)))

      pub below_over : p ≡ 0 → Below s (i + 1) count
      below_over z =
          let hole = sym is_pointer ∙ z in
          let no_claim : claims_of i ≡ [] = limb_hole (tree_claims v e h) v q k i hole in
          (rw no_claim at step, omega (arith, count_step, ap length (limb_none (nodes v h) v q k i hole)))

      module _ (held : p ≡ 0 → ⊥) (s' : Seen) (r : Bool) (answer : outcome r s' ≡ claim n (tree_claims v e h (q * 256 + i) p) s) where
        there : pointer v k i ≡ 0 → ⊥
        there z = held (is_pointer ∙ z)

        limb_answer : outcome r s' ≡ claim n (claims_of i) s
        limb_answer = answer ∙ rw is_pointer (ap (λ (cs : List Claim). claim n cs s) (sym (limb_held (tree_claims v e h) v q k i there)))

        limb_nodes : nodes_of i ≡ nodes v h (q * 256 + i) p
        limb_nodes = rw is_pointer (limb_some (nodes v h) v q k i there)

        pub below_refused : r ≡ false → none ≡ claim n (left (limb_claims (tree_claims v e h) v q k) 0) s₀
        below_refused z = sym (refused n (claims_of i) (left claims_of (i + 1)) s s' r z limb_answer) ∙ step

        pub below_on : r ≡ true → (x : ℕ) → x ≡ length (nodes v h (q * 256 + i) p) → Below s' (i + 1) (count + x)
        below_on z x e =
            (sym (taken n (claims_of i) (left claims_of (i + 1)) s s' r z limb_answer) ∙ step, omega (arith, count_step, e, ap length limb_nodes))

-- The map: a block's bit and its mark must differ.
apart : (p q : Bool) → beq p (not q) ≡ not (beq p q)
apart true true = refl
apart true false = refl
apart false true = refl
apart false false = refl

module _ (v : Bytes) (l : List ℕ) where
  bit_test : (b : ℕ) → beq (eqb (free map_place v b) 1) (not (marks l b)) ≡ not (beq (eqb (free map_place v b) 1) (eqb (free 0 (view l) b) 1))
  bit_test b = rw (marks_free l b) (apart (eqb (free map_place v b) 1) (eqb (free 0 (view l) b) 1))

  all_right : (n : ℕ) → ((b : ℕ) → b < n → beq (eqb (free map_place v b) 1) (eqb (free 0 (view l) b) 1) ≡ false) → map_right v (marks l) n ≡ true
  unfolding map_right
  all_right zero f = refl
  all_right (suc n) f =
      let step = map_step v (marks l) n (bit_test n ∙ ap not (f n (omega arith))) in
      let e : suc n ≡ n + 1 = omega arith in
      ap (map_right v (marks l)) e ∙ step ∙ all_right n (λ b h. f b (omega arith))

  in_range : (n b : ℕ) → b < n → get_or (range_with_len 0 n) b 0 ≡ b
  in_range n b m = omega (arith, get_or-range_with_len 0 n b 0 m)

  -- the answer of a look at each of the first n blocks
  pub map_looked : (n : ℕ) (r : Bool)
      → MatchBool r
      (AllWithin (λ (b : ℕ). beq (eqb (free map_place v b) 1) (eqb (free 0 (view l) b) 1) ≡ false) (range_with_len 0 n) 0 (length (range_with_len 0 n)))
      ((k : ℕ) × (k < length (range_with_len 0 n))
      × HoldsAt (λ (b : ℕ). beq (eqb (free map_place v b) 1) (eqb (free 0 (view l) b) 1) ≡ true) (range_with_len 0 n) k)
      → r ≡ map_right v (marks l) n
  map_looked n true h = sym (all_right n (λ b m. rw (in_range n b m) at (h b 0 (omega arith) (omega (arith, length-range_with_len 0 n)))))
  map_looked n false h =
      let m : h.0 < n = omega (arith, h.1, length-range_with_len 0 n) in
      sym (map_wrong v (marks l) h.0 n m (bit_test h.0 ∙ ap not (rw (in_range n h.0 m) at (h.2 0))))
