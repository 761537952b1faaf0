-- Laws for code that claims step by step: what is left after a part, and what a loop's next step claims. Assumes nothing.
use mathlib.Core.Path.{◌≡◌, refl, sym, ap, ◌∙◌}
use mathlib.Core.List.{List, [], ◌∷◌, ◌++◌, map-append}
use mathlib.Core.Bool.{Bool, true, false, not, true≢false}
use mathlib.Core.Option.{Option, none, some}
use Prim.Native.Nat.{ℕ, zero, suc, ◌+◌, ◌-◌, ◌*◌, ◌≤◌, ◌<◌}
use native.Mathlib.Nat.{not-suc-le-zero}
use native.Mathlib.Numerals.{sub-one}
use borrow.Author.Tests.{lt-ltb, le-ltb, eq-eqb, ne_eqb, not-true}
use lib.Dec.{eqb, ltb}
use Rattle.model.specs.Bytes.{Bytes, gather, ◌and◌}
use Rattle.model.specs.Directory.{previous, next, kids}
use Rattle.model.specs.File.{pointer}
use Rattle.model.specs.Walk.{walk, visit}
use Rattle.claims.specs.Claims.{Claim, block, must, Seen, with, claim, outcome, chain_claims, limb_claims, claims_at, claims}
use Rattle.claims.proofs.SumLaws.{gather_append}
use Rattle.claims.proofs.TestLaws.{and_false}

-- what follows a first outcome
abbrev pub then : Option Seen → (Seen → Option Seen) → Option Seen
then none k = none
then (some s) k = k s

module _ (n : ℕ) where
  pub claim_append : (xs ys : List Claim) (s : Seen) → claim n (xs ++ ys) s ≡ then (claim n xs s) (claim n ys)
  unfolding claim
  claim_append [] ys s = refl
  claim_append (block b ∷ xs) ys s = go (ltb b n and not (s b)) (claim_append xs ys (with b s))
    where
      go : (t : Bool) → claim n (xs ++ ys) (with b s) ≡ then (claim n xs (with b s)) (claim n ys)
          → elim t [ true ↦ claim n (xs ++ ys) (with b s) | false ↦ none ]
          ≡ then (elim t [ true ↦ claim n xs (with b s) | false ↦ none ]) (claim n ys)
      go true e = e
      go false e = refl
  claim_append (must true ∷ xs) ys s = claim_append xs ys s
  claim_append (must false ∷ xs) ys s = refl

  -- a part that was taken leaves the rest, from what is seen then; a part that was refused refuses the whole
  pub taken : (xs ys : List Claim) (s s' : Seen) (r : Bool) → r ≡ true → outcome r s' ≡ claim n xs s
      → claim n (xs ++ ys) s ≡ claim n ys s'
  taken xs ys s s' r q e = claim_append xs ys s ∙ ap (λ o. then o (claim n ys)) (sym e ∙ ap (λ r. outcome r s') q)

  pub refused : (xs ys : List Claim) (s s' : Seen) (r : Bool) → r ≡ false → outcome r s' ≡ claim n xs s → claim n (xs ++ ys) s ≡ none
  refused xs ys s s' r q e = claim_append xs ys s ∙ ap (λ o. then o (claim n ys)) (sym e ∙ ap (λ r. outcome r s') q)

  -- the first of some claims
  module _ (cs : List Claim) (s : Seen) where
    pub must_on : (t : Bool) → t ≡ true → claim n (must t ∷ cs) s ≡ claim n cs s
    unfolding claim
    must_on t e = rw e

    pub must_off : (t : Bool) → t ≡ false → claim n (must t ∷ cs) s ≡ none
    unfolding claim
    must_off t e = rw e

    block_test : (b : ℕ) (t : Bool) → (ltb b n and not (s b)) ≡ t
        → claim n (block b ∷ cs) s ≡ elim t [ true ↦ claim n cs (with b s) | false ↦ none ]
    unfolding claim
    block_test b t e = ap (λ (t : Bool). elim t [ true ↦ claim n cs (with b s) | false ↦ none ]) e

    pub block_on : (b : ℕ) → b < n → s b ≡ false → claim n (block b ∷ cs) s ≡ claim n cs (with b s)
    unfolding ◌and◌
    block_on b h e = block_test b true (rw (lt-ltb b n h, e))

    pub block_outside : (b : ℕ) → n ≤ b → claim n (block b ∷ cs) s ≡ none
    unfolding ◌and◌
    block_outside b h = block_test b false (rw (le-ltb b n h))

    pub block_seen : (b : ℕ) → s b ≡ true → claim n (block b ∷ cs) s ≡ none
    block_seen b e = block_test b false (and_false (ltb b n) (not (s b)) (λ l u. true≢false (sym e ∙ not-true (s b) u)))

-- a chain, block by block
pub chain_step : (v : Bytes) (p k u : ℕ) → 0 < u
    → chain_claims v p k u ≡ block k ∷ must (eqb (previous v k) p) ∷ chain_claims v k (next v k) (u - 1)
unfolding chain_claims
chain_step v p k zero h = absurd (not-suc-le-zero h)
chain_step v p k (suc u) h = rw sub-one

pub chain_end : (v : Bytes) (p k u : ℕ) → u ≡ 0 → chain_claims v p k u ≡ must (eqb k 0) ∷ []
unfolding chain_claims
chain_end v p k u h = rw h

-- what is below a pointer of an index: nothing below a hole
module _ (tree : ℕ → ℕ → List Claim) (v : Bytes) (q k i : ℕ) where
  pub limb_hole : pointer v k i ≡ 0 → limb_claims tree v q k i ≡ []
  unfolding limb_claims
  limb_hole e = rw (eq-eqb (pointer v k i) 0 e, limb_claims)

  pub limb_held : (pointer v k i ≡ 0 → ⊥) → limb_claims tree v q k i ≡ tree (q * 256 + i) (pointer v k i)
  unfolding limb_claims
  limb_held h = rw (ne_eqb (pointer v k i) 0 h, limb_claims)

-- the walk, slot by slot
pub walk_append : {A : Type 0} (below : ℕ → List ℕ) (step : A → ℕ → A) (l : ℕ) (a : A) (xs ys : List ℕ)
    → walk below step l a (xs ++ ys) ≡ walk below step l a xs ++ walk below step l a ys
unfolding walk
walk_append below step zero a xs ys = map-append (visit 0 a) xs ys
walk_append below step (suc l) a xs ys = gather_append _ xs ys

module _ (v : Bytes) where
  pub claims_append : (l d : ℕ) (xs ys : List ℕ) → claims v l d (xs ++ ys) ≡ claims v l d xs ++ claims v l d ys
  claims_append l d xs ys =
      ap (gather (claims_at v)) (walk_append (kids v) (λ _ s. s) l d xs ys) ∙ gather_append (claims_at v) _ _

  pub claims_deep : (l d s : ℕ) (ss : List ℕ)
      → claims v (suc l) d (s ∷ ss) ≡ claims_at v (visit (suc l) d s) ++ (claims v l s (kids v s) ++ claims v (suc l) d ss)
  unfolding walk gather
  claims_deep l d s ss =
      ap (λ (k : List Claim). claims_at v (visit (suc l) d s) ++ k)
      (gather_append (claims_at v) (walk (kids v) (λ _ s. s) l s (kids v s)) (walk (kids v) (λ _ s. s) (suc l) d ss))

  pub claims_flat : (d s : ℕ) (ss : List ℕ) → claims v 0 d (s ∷ ss) ≡ claims_at v (visit 0 d s) ++ claims v 0 d ss
  unfolding walk gather
  claims_flat d s ss = refl

  pub claims_none : (l d : ℕ) → claims v l d [] ≡ []
  unfolding walk gather
  claims_none zero d = refl
  claims_none (suc l) d = refl
