-- Blocks given back one after another leave all but the map as it was: what is left to give back is read from the present image as from the
-- old one. Assumes nothing.
use mathlib.Core.Path.{◌≡◌, refl, sym, ap, ◌∙◌}
use mathlib.Core.List.{List, [], ◌∷◌, ◌++◌, map-append}
use mathlib.Core.Bool.{Bool, true, false}
use Prim.Native.Nat.{ℕ, zero, suc, ◌+◌, ◌-◌, ◌*◌, ◌≤◌, ◌<◌}
use native.Mathlib.Omega.{arith}
use native.Mathlib.Nat.{add_assoc}
use borrow.Author.Tests.{eqb-true, eqb-false, eq-eqb, ne_eqb}
use lib.Dec.{eqb}
use Rattle.model.specs.Bytes.{Bytes, sum, is, count, gather, run, word}
use Rattle.model.specs.Map.{given}
use Rattle.model.specs.Directory.{map_place, next, chain}
use Rattle.model.specs.File.{Node, pointer, limb, nodes, blocks_in}
use Rattle.model.specs.Calls.{given_all}
use Rattle.model.proofs.SumLaws.{is_self, sum_append}
use Rattle.model.proofs.Laws.Frame.{Alike, holds, pointer_in, nodes_same}
use Rattle.model.proofs.Laws.Weigh.{each, weigh_nodes}
use Rattle.model.proofs.Laws.Move.{Off, given_alike, Fit, fit_off}
use Rattle.claims.proofs.SumLaws.{gather_step, gather_end}
use Rattle.release.specs.Loose.{Loose, tree, limb_at, below}

-- only the map differs
abbrev pub Kept : ℕ → Bytes → Bytes → Type 0
Kept n v w = (b : ℕ) → Off n b → Alike 512 v w b

pub kept_none : (n : ℕ) (v : Bytes) → Kept n v v
kept_none n v b o j l = refl

pub kept_then : (n : ℕ) (v w w' : Bytes) → Kept n v w → Kept n w w' → Kept n v w'
kept_then n v w w' f g b o j l = g b o j l ∙ f b o j l

-- Lists of blocks.
pub all_append : (m : ℕ) (v : Bytes) (bs cs : List ℕ) → given_all m v (bs ++ cs) ≡ given_all m (given_all m v bs) cs
unfolding given_all
all_append m v [] cs = refl
all_append m v (b ∷ bs) cs = all_append m (given m v b) bs cs

pub kept_all : (n : ℕ) (v : Bytes) (bs : List ℕ) → Loose n bs → Kept n v (given_all map_place v bs)
unfolding given_all sum
kept_all n v [] f = kept_none n v
kept_all n v (b ∷ bs) f =
    kept_then n v (given map_place v b) (given_all map_place (given map_place v b) bs) (given_alike n v b (f b (omega (arith, is_self b))).0) (kept_all n (given map_place v b) bs (λ c h. f c (omega arith)))

module _ (n : ℕ) where
  pub loose_left : (bs cs : List ℕ) → Loose n (bs ++ cs) → Loose n bs
  loose_left bs cs f b h = f b (omega (arith, sum_append (is b) bs cs))

  pub loose_right : (bs cs : List ℕ) → Loose n (bs ++ cs) → Loose n cs
  loose_right bs cs f b h = f b (omega (arith, sum_append (is b) bs cs))

  pub loose_head : (b : ℕ) (bs : List ℕ) → Loose n (b ∷ bs) → (b < n) × Off n b
  unfolding sum
  loose_head b bs f = f b (omega (arith, is_self b))

  pub loose_tail : (b : ℕ) (bs : List ℕ) → Loose n (b ∷ bs) → Loose n bs
  unfolding sum
  loose_tail b bs f c h = f c (omega arith)

  pub loose_cons : (b : ℕ) (bs cs : List ℕ) → Loose n (b ∷ bs) → Loose n cs → Loose n (b ∷ cs)
  unfolding sum
  loose_cons b bs cs f g c h = go (count c cs) refl
    where
      go : (x : ℕ) → count c cs ≡ x → (c < n) × Off n c
      go zero e = f c (omega arith)
      go (suc x) e = g c (omega arith)

-- the blocks of a tree that fits can be given back
pub fit_loose : (n : ℕ) (v : Bytes) (h q k : ℕ) → Fit n v h q k → Loose n (blocks_in (nodes v h q k))
fit_loose n v h q k F b m =
    let e = holds b (nodes v h q k) ∙ weigh_nodes (each (is b)) v h q k in
    let o = rw e at m in
    (F.range b o, fit_off F b o)

-- The blocks of a tree do not depend on its number.
module _ {A : Type 0} (f g : A → List Node) where
  gather_blocks : (l : List A) → ((x : A) → blocks_in (f x) ≡ blocks_in (g x)) → blocks_in (gather f l) ≡ blocks_in (gather g l)
  unfolding gather
  gather_blocks [] h = refl
  gather_blocks (x ∷ l) h =
      map-append _ (f x) (gather f l) ∙ rw (h x, gather_blocks l h) (sym (map-append _ (g x) (gather g l)))

pub number_free : (v : Bytes) (h q r k : ℕ) → blocks_in (nodes v h q k) ≡ blocks_in (nodes v h r k)
unfolding nodes
number_free v zero q r k = refl
number_free v (suc h) q r k =
    ap (λ (bs : List ℕ). k ∷ bs)
    (gather_blocks (limb (λ s p. nodes v h s p) v q k) (limb (λ s p. nodes v h s p) v r k) (run 0 256)
    (λ i. one i (eqb (pointer v k i) 0) refl (number_free v h (q * 256 + i) (r * 256 + i) (pointer v k i))))
  where
    one : (i : ℕ) (z : Bool) → eqb (pointer v k i) 0 ≡ z
        → blocks_in (nodes v h (q * 256 + i) (pointer v k i)) ≡ blocks_in (nodes v h (r * 256 + i) (pointer v k i))
        → blocks_in (limb (λ s p. nodes v h s p) v q k i) ≡ blocks_in (limb (λ s p. nodes v h s p) v r k i)
    one i true z e = unfold limb in rw (z, limb) refl
    one i false z e = unfold limb in rw (z, limb) e

-- Below a pointer p: nothing where it is 0.
module _ (v : Bytes) (h k i p : ℕ) (is_pointer : p ≡ pointer v k i) where
  pub limb_hole : p ≡ 0 → limb_at v h k i ≡ []
  unfolding limb
  limb_hole z = rw (eq-eqb (pointer v k i) 0 (sym is_pointer ∙ z), limb) refl

  pub limb_held : (p ≡ 0 → ⊥) → limb_at v h k i ≡ tree v h p
  unfolding limb
  limb_held z =
      rw (is_pointer, ne_eqb (pointer v k i) 0 (λ e. z (is_pointer ∙ e)), limb) (number_free v h (0 * 256 + i) 0 (pointer v k i))

pub tree_leaf : (v : Bytes) (k : ℕ) → tree v 0 k ≡ k ∷ []
unfolding nodes
tree_leaf v k = refl

pub tree_more : (v : Bytes) (h k : ℕ) → tree v (suc h) k ≡ k ∷ below v h k 0
unfolding nodes
tree_more v h k = refl

pub tree_key : (n : ℕ) (v : Bytes) (h k : ℕ) → Loose n (tree v h k) → k < n
unfolding nodes
tree_key n v zero k f = (loose_head n k [] f).0
tree_key n v (suc h) k f = (loose_head n k (below v h k 0) f).0

-- Pointers from i on.
pub below_step : (v : Bytes) (h k i : ℕ) → i < 256 → below v h k i ≡ limb_at v h k i ++ below v h k (i + 1)
below_step v h k i l =
    let d : 256 - i - 1 ≡ 256 - (i + 1) = omega arith in
    ap blocks_in (gather_step (limb (nodes v h) v 0 k) i (256 - i) (omega arith))
    ∙ map-append _ (limb (nodes v h) v 0 k i) _
    ∙ ap (λ (c : ℕ). limb_at v h k i ++ blocks_in (gather (limb (nodes v h) v 0 k) (run (i + 1) c))) d

pub below_end : (v : Bytes) (h k i : ℕ) → 256 ≤ i → below v h k i ≡ []
below_end v h k i l = ap blocks_in (gather_end (limb (nodes v h) v 0 k) i (256 - i) (omega arith))

-- What is read from an image that differs in the map only.
module _ (n : ℕ) (v w : Bytes) (same : Kept n v w) where
  pub tree_kept : (h k : ℕ) → Loose n (tree v h k) → tree w h k ≡ tree v h k
  tree_kept h k f = ap blocks_in (nodes_same v w h 0 k (λ b m. same b (f b m).1))

  pub limb_kept : (h k i : ℕ) → i < 256 → Loose n (k ∷ limb_at v h k i) → limb_at w h k i ≡ limb_at v h k i
  limb_kept h k i l f = go (eqb (pointer v k i) 0) refl
    where
      p : pointer w k i ≡ pointer v k i
      p = pointer_in v w k i (same k (loose_head n k (limb_at v h k i) f).1) l

      go : (z : Bool) → eqb (pointer v k i) 0 ≡ z → limb_at w h k i ≡ limb_at v h k i
      go true z =
          let e = eqb-true (pointer v k i) 0 z in
          limb_hole w h k i (pointer v k i) (sym p) e ∙ sym (limb_hole v h k i (pointer v k i) refl e)
      go false z =
          let e = eqb-false (pointer v k i) 0 z in
          let held = limb_held v h k i (pointer v k i) refl e in
          let loose : Loose n (tree v h (pointer v k i)) = rw held at (loose_tail n k (limb_at v h k i) f) in
          limb_held w h k i (pointer v k i) (sym p) e ∙ tree_kept h (pointer v k i) loose ∙ sym held

  pub below_kept : (h k c i : ℕ) → i + c ≡ 256 → Loose n (k ∷ below v h k i) → below w h k i ≡ below v h k i
  below_kept h k zero i e f = below_end w h k i (omega arith) ∙ sym (below_end v h k i (omega arith))
  below_kept h k (suc c) i e f =
      let step = below_step v h k i (omega arith) in
      let all : Loose n (limb_at v h k i ++ below v h k (i + 1)) = rw step at (loose_tail n k (below v h k i) f) in
      let here = loose_cons n k (below v h k i) (limb_at v h k i) f (loose_left n (limb_at v h k i) (below v h k (i + 1)) all) in
      let rest = loose_cons n k (below v h k i) (below v h k (i + 1)) f (loose_right n (limb_at v h k i) (below v h k (i + 1)) all) in
      below_step w h k i (omega arith)
      ∙ rw (limb_kept h k i (omega arith) here, below_kept h k c (i + 1) (omega arith) rest) (sym step)

  pub next_kept : (b : ℕ) → Off n b → next w b ≡ next v b
  unfolding word
  next_kept b o = rw (same b o 2 (omega arith), add_assoc (b * 512) 2 1, same b o 3 (omega arith)) refl

-- A loop over the pointers of the block k, from f on: those from i on are left.
pub record Giving (n : ℕ) (v : Bytes) (h k f : ℕ) (w : Bytes) (i : ℕ) : Type 0 where
  pub same : Kept n v w
  pub rest : given_all map_place w (below v h k i) ≡ given_all map_place v (below v h k f)
  pub loose : Loose n (k ∷ below v h k i)
  pub on_volume : k < n

module _ (n : ℕ) (v : Bytes) (h k f : ℕ) where
  pub giving_start : Loose n (k ∷ below v h k f) → Giving n v h k f v f
  giving_start g = record { same = kept_none n v; rest = refl; loose = g; on_volume = (loose_head n k (below v h k f) g).0 }

  module _ (w : Bytes) (i : ℕ) (G : Giving n v h k f w i) where
    pub giving_done : 256 ≤ i → w ≡ given_all map_place v (below v h k f)
    unfolding given_all
    giving_done l = ap (given_all map_place w) (sym (below_end v h k i l)) ∙ G.rest

    module _ (l : i < 256) where
      both : Loose n (limb_at v h k i ++ below v h k (i + 1))
      both = rw (below_step v h k i l) at (loose_tail n k (below v h k i) G.loose)

      here : Loose n (k ∷ limb_at v h k i)
      here = loose_cons n k (below v h k i) (limb_at v h k i) G.loose (loose_left n (limb_at v h k i) (below v h k (i + 1)) both)

      limb_same : limb_at w h k i ≡ limb_at v h k i
      limb_same = limb_kept n v w G.same h k i l here

      pub giving_limb : Loose n (k ∷ limb_at w h k i)
      giving_limb = rw limb_same here

      pub giving_on_limb : (w' : Bytes) → w' ≡ given_all map_place w (limb_at w h k i) → Giving n v h k f w' (i + 1)
      giving_on_limb w' e =
          let e' : w' ≡ given_all map_place w (limb_at v h k i) = e ∙ ap (given_all map_place w) limb_same in
          let kept = kept_all n w (limb_at v h k i) (loose_left n (limb_at v h k i) (below v h k (i + 1)) both) in
          record {
            same = rw e' (kept_then n v w (given_all map_place w (limb_at v h k i)) G.same kept);
            rest = rw e' (sym (all_append map_place w (limb_at v h k i) (below v h k (i + 1)))
                ∙ ap (given_all map_place w) (sym (below_step v h k i l)) ∙ G.rest);
            loose = loose_cons n k (below v h k i) (below v h k (i + 1)) G.loose (loose_right n (limb_at v h k i) (below v h k (i + 1)) both);
            on_volume = G.on_volume;
          }

      module _ (p : ℕ) (is_pointer : p ≡ pointer w k i) where
        pub giving_hole : p ≡ 0 → Giving n v h k f w (i + 1)
        unfolding given_all
        giving_hole z = giving_on_limb w (sym (ap (given_all map_place w) (limb_hole w h k i p is_pointer z)))

        pub giving_tree : (p ≡ 0 → ⊥) → Loose n (tree w h p)
        giving_tree z = rw (limb_held w h k i p is_pointer z) at (loose_tail n k (limb_at w h k i) giving_limb)

        pub giving_on : (p ≡ 0 → ⊥) → (w' : Bytes) → w' ≡ given_all map_place w (tree w h p) → Giving n v h k f w' (i + 1)
        giving_on z w' e = giving_on_limb w' (e ∙ sym (ap (given_all map_place w) (limb_held w h k i p is_pointer z)))

-- A block, then what lies below it.
module _ (n : ℕ) (v : Bytes) (h k : ℕ) (f : Loose n (tree v (suc h) k)) (w : Bytes) (gave : w ≡ given map_place v k) where
  all : Loose n (k ∷ below v h k 0)
  all = rw (tree_more v h k) at f

  kept : Kept n v w
  kept = rw gave (given_alike n v k (loose_head n k (below v h k 0) all).0)

  same_below : below w h k 0 ≡ below v h k 0
  same_below = below_kept n v w kept h k 256 0 refl all

  pub key_loose : Loose n (k ∷ below w h k 0)
  key_loose = rw same_below all

  pub key_done : (w' : Bytes) → w' ≡ given_all map_place w (below w h k 0) → w' ≡ given_all map_place v (tree v (suc h) k)
  unfolding given_all
  key_done w' e = e ∙ ap (given_all map_place w) same_below ∙ rw gave (sym (ap (given_all map_place v) (tree_more v h k)))

-- A loop over a chain: the u blocks from b on are left.
pub record Chaining (n : ℕ) (v : Bytes) (k u₀ : ℕ) (w : Bytes) (b u : ℕ) : Type 0 where
  pub same : Kept n v w
  pub rest : given_all map_place w (chain v b u) ≡ given_all map_place v (chain v k u₀)
  pub loose : Loose n (chain v b u)
  pub on_volume : 0 < u → b < n

pub chain_step : (v : Bytes) (b u : ℕ) → 0 < u → chain v b u ≡ b ∷ chain v (next v b) (u - 1)
unfolding chain
chain_step v b zero l = absurd (omega arith)
chain_step v b (suc u) l = let e : suc u - 1 ≡ u = omega arith in rw e refl

pub chain_end : (v : Bytes) (b u : ℕ) → u ≤ 0 → chain v b u ≡ []
unfolding chain
chain_end v b zero l = refl
chain_end v b (suc u) l = absurd (omega arith)

chain_low : (n : ℕ) (v : Bytes) (b u : ℕ) → Loose n (chain v b u) → 0 < u → b < n
chain_low n v b u g l = (loose_head n b (chain v (next v b) (u - 1)) (rw (chain_step v b u l) at g)).0

module _ (n : ℕ) (v : Bytes) (k u₀ : ℕ) where
  pub chaining_start : Loose n (chain v k u₀) → Chaining n v k u₀ v k u₀
  chaining_start g = record { same = kept_none n v; rest = refl; loose = g; on_volume = chain_low n v k u₀ g }

  module _ (w : Bytes) (b u : ℕ) (C : Chaining n v k u₀ w b u) where
    pub chaining_done : u ≤ 0 → w ≡ given_all map_place v (chain v k u₀)
    unfolding given_all
    chaining_done l = ap (given_all map_place w) (sym (chain_end v b u l)) ∙ C.rest

    module _ (l : 0 < u) where
      link : Loose n (b ∷ chain v (next v b) (u - 1))
      link = rw (chain_step v b u l) at C.loose

      pub chaining_on : (x : ℕ) (w' : Bytes) → x ≡ next w b → w' ≡ given map_place w b → Chaining n v k u₀ w' x (u - 1)
      unfolding given_all
      chaining_on x w' e g =
          let ok = loose_head n b (chain v (next v b) (u - 1)) link in
          let e' : x ≡ next v b = e ∙ next_kept n v w C.same b ok.1 in
          let rest : Loose n (chain v x (u - 1)) = rw e' (loose_tail n b (chain v (next v b) (u - 1)) link) in
          record {
            same = rw g (kept_then n v w (given map_place w b) C.same (given_alike n w b ok.0));
            rest = rw (e', g) (ap (given_all map_place w) (sym (chain_step v b u l)) ∙ C.rest);
            loose = rest;
            on_volume = chain_low n v x (u - 1) rest;
          }
