-- Where slots and blocks lie, and what chains, trees, names and twins are read from.
use Prim.Native.Nat.{ℕ, zero, suc, ◌+◌, ◌*◌, ◌≤◌, ◌<◌, ◌/◌, ◌%◌}
use mathlib.Core.Path.{◌≡◌, refl, sym, ap, ◌∙◌, fun_ext, subst}
use mathlib.Core.List.{List, [], ◌∷◌, ◌++◌, append_assoc}
use mathlib.Core.Bool.{Bool, true, false}
use lib.Dec.{ltb, eqb}
use lib.ListN.{drop, length}
use native.Mathlib.Omega.{arith}
use native.Mathlib.Nat.{add-zero, add_assoc}
use borrow.Author.Tests.{eqb-false, ltb-true, ltb-false}
use Rattle.model.specs.Bytes.{Bytes, sum, count, gather, run, is, one_if, word}
use Rattle.model.specs.Names.{name_byte, name_bytes, proper_name, capital, capital_name, alike}
use Rattle.model.specs.Directory.{at, previous, next, chain, slots, sort, is_active}
use Rattle.model.specs.File.{Node, node, pointer, limb, nodes, blocks_in, above, data_block, file_byte}
use Rattle.model.specs.Sound.{links, twins_of, twins}
use Rattle.model.specs.Create.{last_block}
use Rattle.model.proofs.BitLaws.{is_no}
use Rattle.model.proofs.ByteLaws.{equal_cong}
use Rattle.model.proofs.SumLaws.{is_self, sum_append, sum_map, sum_gather, sum_mem, run_low, run_high, run_in_law, run_most, run_has}

-- Places.
pub at_inj : (s a o r : ℕ) → o < 39 → r < 39 → at s + o ≡ at a + r → s ≡ a
unfolding at
at_inj s a o r h k e = let q : s / 13 ≡ a / 13 = omega arith in let t : s % 13 ≡ a % 13 = omega arith in omega arith

pub at_off : (s a o r : ℕ) → o < 39 → r < 39 → at s + o ≡ at a + r → o ≡ r
unfolding at
at_off s a o r h k e = let q : s / 13 ≡ a / 13 = omega arith in let t : s % 13 ≡ a % 13 = omega arith in omega arith

pub at_link : (a b o r : ℕ) → o < 39 → r < 4 → b * 512 + r ≡ at a + o → ⊥
unfolding at
at_link a b o r h k e = let q : b ≡ a / 13 = omega arith in omega arith

pub at_block : (s b o j : ℕ) → o < 39 → j < 512 → at s + o ≡ b * 512 + j → s / 13 ≡ b
unfolding at
at_block s b o j h k e = omega arith

pub at_place : (x o : ℕ) → at x + o ≡ x / 13 * 512 + (4 + 39 * (x % 13) + o)
unfolding at
at_place x o = omega arith

pub at_head : (b o : ℕ) → at (b * 13) + o ≡ b * 512 + 4 + o
unfolding at
at_head b o = omega arith

-- Slots of blocks.
pub run_le : (b x : ℕ) → count x (run (b * 13) 13) ≤ is (x / 13) b
run_le b x = go (eqb (x / 13) b) refl
  where
    go : (c : Bool) → eqb (x / 13) b ≡ c → count x (run (b * 13) 13) ≤ one_if c
    go true e = run_most 13 (b * 13) x
    go false e = side (ltb x (b * 13)) refl
      where
        side : (c : Bool) → ltb x (b * 13) ≡ c → count x (run (b * 13) 13) ≤ 0
        side true f = omega (arith, run_low 13 (b * 13) x (ltb-true x (b * 13) f))
        side false f =
            omega (arith, run_high 13 (b * 13) x (let g = ltb-false x (b * 13) f in let h = eqb-false (x / 13) b e in omega arith))

pub slots_le : (x : ℕ) (bs : List ℕ) → count x (slots bs) ≤ count (x / 13) bs
unfolding slots sum
slots_le x [] = omega arith
slots_le x (b ∷ bs) = omega (arith, sum_append (is x) (run (b * 13) 13) (slots bs), run_le b x, slots_le x bs)

pub slots_head : (x k : ℕ) (ks : List ℕ) → is x (k * 13) + count x (drop 1 (slots (k ∷ ks))) ≡ count x (slots (k ∷ ks))
unfolding slots run sum
slots_head x k ks = refl

-- the slots of one block, and of a last one
pub slots_one : (z s : ℕ) → 1 ≤ count s (drop 1 (slots (z ∷ []))) → (z * 13 < s) × (s < z * 13 + 13)
slots_one z s h = let r = run_in_law 12 (suc (z * 13)) s (go h) in (r.0, omega (arith, r.1))
  where
    go : 1 ≤ count s (drop 1 (slots (z ∷ []))) → 1 ≤ count s (run (suc (z * 13)) 12)
    go k = unfold slots run sum in k

pub slots_append : (bs cs : List ℕ) → slots (bs ++ cs) ≡ slots bs ++ slots cs
unfolding slots
slots_append [] cs = refl
slots_append (b ∷ bs) cs = rw (slots_append bs cs) (sym (append_assoc (run (b * 13) 13) (slots bs) (slots cs)))

pub slots_more : (v : Bytes) (k u : ℕ) (cs : List ℕ) → 1 ≤ u → drop 1 (slots (chain v k u ++ cs)) ≡ drop 1 (slots (chain v k u)) ++ slots cs
unfolding chain slots run
slots_more v k zero cs h = absurd (omega arith)
slots_more v k (suc u) cs h = ap (drop 1) (slots_append (k ∷ chain v (next v k) u) cs)

pub slots_last : (z s : ℕ) → 1 ≤ count s (slots (z ∷ [])) → (z * 13 ≤ s) × (s < z * 13 + 13)
slots_last z s h = run_in_law 13 (z * 13) s (go h)
  where
    go : 1 ≤ count s (slots (z ∷ [])) → 1 ≤ count s (run (z * 13) 13)
    go k = unfold slots run sum in k

pub slots_first : (z : ℕ) → 1 ≤ count (z * 13) (slots (z ∷ []))
unfolding slots run sum
slots_first z = omega (arith, is_self (z * 13))

-- The bytes of a block up to k are the same.
abbrev pub Alike : ℕ → Bytes → Bytes → ℕ → Type 0
Alike k v v' b = (j : ℕ) → j < k → v' (b * 512 + j) ≡ v (b * 512 + j)

pub word_in : (v v' : Bytes) (b o k : ℕ) → Alike k v v' b → o + 1 < k → word v' (b * 512 + o) ≡ word v (b * 512 + o)
unfolding word
word_in v v' b o k f h = let e : b * 512 + o + 1 ≡ b * 512 + (o + 1) = omega arith in rw (e, f o (omega arith), f (o + 1) h) refl

pub next_in : (v v' : Bytes) (b : ℕ) → Alike 4 v v' b → next v' b ≡ next v b
next_in v v' b f = word_in v v' b 2 4 f (omega arith)

pub previous_in : (v v' : Bytes) (b : ℕ) → Alike 4 v v' b → previous v' b ≡ previous v b
previous_in v v' b f = rw add-zero at (word_in v v' b 0 4 f (omega arith))

-- Chains.
pub chain_same : (v v' : Bytes) (k u : ℕ) → ((b : ℕ) → 1 ≤ count b (chain v k u) → next v' b ≡ next v b) → chain v' k u ≡ chain v k u
unfolding chain sum
chain_same v v' k zero f = refl
chain_same v v' k (suc u) f = rw (f k (omega (arith, is_self k)), chain_same v v' (next v k) u (λ b h. f b (omega arith))) refl

pub links_same : (v v' : Bytes) (p k u : ℕ)
    → ((b : ℕ) → 1 ≤ count b (chain v k u) → (next v' b ≡ next v b) × (previous v' b ≡ previous v b)) → links v' p k u ≡ links v p k u
unfolding chain links sum
links_same v v' p k zero f = refl
links_same v v' p k (suc u) f =
    let h = f k (omega (arith, is_self k)) in
    rw (h.0, h.1, links_same v v' k (next v k) u (λ b h. f b (omega arith))) refl

pub chain_length : (v : Bytes) (k u : ℕ) → length (chain v k u) ≡ u
unfolding chain
chain_length v k zero = refl
chain_length v k (suc u) = ap suc (chain_length v (next v k) u)

pub chain_first : (v : Bytes) (k u : ℕ) → 1 ≤ u → 1 ≤ count k (chain v k u)
unfolding chain sum
chain_first v k zero h = absurd (omega arith)
chain_first v k (suc u) h = omega (arith, is_self k)

pub last_in : (v : Bytes) (p k u : ℕ) → 1 ≤ u → 1 ≤ count (last_block v p k u) (chain v k u)
unfolding last_block chain sum
last_in v p k zero h = absurd (omega arith)
last_in v p k (suc zero) h = omega (arith, is_self k)
last_in v p k (suc (suc u)) h = omega (arith, last_in v k (next v k) (suc u) (omega arith))

-- a chain whose last block y gets the next block z
pub chain_more : (v v' : Bytes) (z y p k u : ℕ) → 1 ≤ u → y ≡ last_block v p k u → count y (chain v k u) ≡ 1
    → ((b : ℕ) → 1 ≤ count b (chain v k u) → ((b ≡ y → ⊥) → next v' b ≡ next v b) × (previous v' b ≡ previous v b))
    → next v' y ≡ z → previous v' z ≡ y → next v' z ≡ 0
    → (chain v' k (suc u) ≡ chain v k u ++ (z ∷ [])) × (links v' p k (suc u) ≤ links v p k u)
unfolding last_block chain links sum
chain_more v v' z y p k zero h e c f g i j = absurd (omega arith)
chain_more v v' z y p k (suc zero) h e c f g i j =
    let n : next v' k ≡ z = rw e at g in
    let q : previous v' z ≡ k = i ∙ e in
    (rw n refl, rw (n, q, j, (f k (omega (arith, is_self k))).1, is_self k) (omega arith))
chain_more v v' z y p k (suc (suc u)) h e c f g i j =
    let more : 1 ≤ count y (chain v (next v k) (suc u)) = subst (λ b. 1 ≤ count b (chain v (next v k) (suc u))) (sym e) (last_in v k (next v k) (suc u) (omega arith)) in
    let other : k ≡ y → ⊥ = λ q. omega (arith, ap (is y) q, is_self y) in
    let rest = chain_more v v' z y k (next v k) (suc u) (omega arith) e (omega (arith, is_no y k (λ q. other (sym q)))) (λ b l. f b (omega arith)) g i j in
    let here = f k (omega (arith, is_self k)) in
    (rw (here.0 other, rest.0) refl, rw (here.0 other, here.1) (omega (arith, rest.1)))

pub slots_length : (bs : List ℕ) → length (slots bs) ≡ length bs * 13
unfolding slots run
slots_length [] = refl
slots_length (b ∷ bs) = omega (arith, slots_length bs)

-- Trees: the blocks in a list of nodes.
pub holds : (b : ℕ) (ns : List Node) → count b (blocks_in ns) ≡ sum (λ x. is b x.block) ns
holds b ns = sum_map (is b) (λ x. x.block) ns

gather_same : {A : Type 0} (f g : ℕ → List A) (l : List ℕ) → ((x : ℕ) → 1 ≤ count x l → f x ≡ g x) → gather f l ≡ gather g l
unfolding gather sum
gather_same f g [] h = refl
gather_same f g (x ∷ l) h = rw (h x (omega (arith, is_self x)), gather_same f g l (λ y k. h y (omega arith))) refl

pub pointer_in : (v v' : Bytes) (k i : ℕ) → Alike 512 v v' k → i < 256 → pointer v' k i ≡ pointer v k i
unfolding pointer
pointer_in v v' k i f h = rw (f i (omega arith), add_assoc (k * 512) 256 i, f (256 + i) (omega arith)) refl

-- what is below a pointer is in the tree
pub limb_in : (v : Bytes) (h q k i b : ℕ) → i < 256 → eqb (pointer v k i) 0 ≡ false
    → 1 ≤ count b (blocks_in (nodes v h (q * 256 + i) (pointer v k i))) → 1 ≤ count b (blocks_in (nodes v (suc h) q k))
unfolding nodes sum
limb_in v h q k i b l z c =
    omega (
      arith,
      holds b (gather t (run 0 256)),
      sum_gather (λ x. is b x.block) t (run 0 256),
      sum_mem (λ x. sum (λ y. is b y.block) (t x)) i (run 0 256) (run_has 256 0 i (omega arith) (omega arith)),
      holds b (t i),
      limb_at_law,
    )
  where
    t : ℕ → List Node
    t = limb (λ r p. nodes v h r p) v q k

    limb_at_law : count b (blocks_in (t i)) ≡ count b (blocks_in (nodes v h (q * 256 + i) (pointer v k i)))
    limb_at_law = unfold limb in rw (z, limb) refl

key_in : (v : Bytes) (h q k : ℕ) → 1 ≤ count k (blocks_in (nodes v h q k))
unfolding nodes sum
key_in v zero q k = omega (arith, is_self k)
key_in v (suc h) q k = omega (arith, is_self k)

pub nodes_same : (v v' : Bytes) (h q k : ℕ) → ((b : ℕ) → 1 ≤ count b (blocks_in (nodes v h q k)) → Alike 512 v v' b) → nodes v' h q k ≡ nodes v h q k
unfolding nodes
nodes_same v v' zero q k f = refl
nodes_same v v' (suc h) q k f =
    ap (λ ns. node (suc h) q k ∷ ns)
    (gather_same _ _ (run 0 256) (λ i c.
    let l : i < 256 = omega (arith, (run_in_law 256 0 i c).1) in
    one i l (pointer_in v v' k i (f k (key_in v (suc h) q k)) l) (eqb (pointer v k i) 0) refl (nodes_same v v' h (q * 256 + i) (pointer v k i))))
  where
    one : (i : ℕ) → i < 256 → pointer v' k i ≡ pointer v k i → (z : Bool) → eqb (pointer v k i) 0 ≡ z
        → (((b : ℕ) → 1 ≤ count b (blocks_in (nodes v h (q * 256 + i) (pointer v k i))) → Alike 512 v v' b)
        → nodes v' h (q * 256 + i) (pointer v k i) ≡ nodes v h (q * 256 + i) (pointer v k i))
        → limb (λ r p. nodes v' h r p) v' q k i ≡ limb (λ r p. nodes v h r p) v q k i
    one i l e true z g = unfold limb in rw (e, z, limb) refl
    one i l e false z g = unfold limb in rw (e, z, limb) (rw e (g (λ b d. f b (limb_in v h q k i b l z d))))

-- the data block of a file block is in the tree, or there is none
pub data_in : (v : Bytes) (h q k p : ℕ) → (data_block v h k p ≡ 0 → ⊥) → 1 ≤ count (data_block v h k p) (blocks_in (nodes v h q k))
unfolding data_block
data_in v zero q k p n = key_in v 0 q k
data_in v (suc h) q k p n = go (eqb (pointer v k i) 0) refl (data_in v h (q * 256 + i) (pointer v k i) p) n
  where
    i : ℕ
    i = above h p % 256

    go : (z : Bool) → eqb (pointer v k i) 0 ≡ z
        → ((data_block v h (pointer v k i) p ≡ 0 → ⊥) → 1 ≤ count (data_block v h (pointer v k i) p) (blocks_in (nodes v h (q * 256 + i) (pointer v k i))))
        → (◌≡◌ {A = ℕ} (elim z [ true ↦ 0 | false ↦ data_block v h (pointer v k i) p ]) 0 → ⊥)
        → 1 ≤ count (elim z [ true ↦ 0 | false ↦ data_block v h (pointer v k i) p ]) (blocks_in (nodes v (suc h) q k))
    go true z g n = absurd (n refl)
    go false z g n = limb_in v h q k i (data_block v h (pointer v k i) p) (omega arith) z (g n)

pub data_same : (v v' : Bytes) (h q k p : ℕ) → ((b : ℕ) → 1 ≤ count b (blocks_in (nodes v h q k)) → Alike 512 v v' b) → data_block v' h k p ≡ data_block v h k p
unfolding data_block
data_same v v' zero q k p f = refl
data_same v v' (suc h) q k p f =
    go (pointer_in v v' k i (f k (key_in v (suc h) q k)) (omega arith)) (eqb (pointer v k i) 0) refl (data_same v v' h (q * 256 + i) (pointer v k i) p)
  where
    i : ℕ
    i = above h p % 256

    go : pointer v' k i ≡ pointer v k i → (z : Bool) → eqb (pointer v k i) 0 ≡ z
        → (((b : ℕ) → 1 ≤ count b (blocks_in (nodes v h (q * 256 + i) (pointer v k i))) → Alike 512 v v' b)
        → data_block v' h (pointer v k i) p ≡ data_block v h (pointer v k i) p)
        → data_block v' (suc h) k p ≡ data_block v (suc h) k p
    go e true z g = rw (e, z, data_block) refl
    go e false z g = rw (e, z, data_block) (rw e (g (λ b c. f b (limb_in v h q k i b (omega arith) z c))))

pub file_byte_same : (v v' : Bytes) (h k : ℕ) → ((b : ℕ) → 1 ≤ count b (blocks_in (nodes v h 0 k)) → Alike 512 v v' b) → file_byte v' h k ≡ file_byte v h k
unfolding file_byte
file_byte_same v v' h k f = fun_ext (λ i. go i (data_block v' h k (i / 512)) (data_same v v' h 0 k (i / 512) f) (eqb (data_block v h k (i / 512)) 0) refl)
  where
    go : (i d : ℕ) → d ≡ data_block v h k (i / 512) → (z : Bool) → eqb (data_block v h k (i / 512)) 0 ≡ z
        → ◌≡◌ {A = ℕ} (elim (eqb d 0) [ true ↦ 0 | false ↦ v' (d * 512 + i % 512) ])
        (elim (eqb (data_block v h k (i / 512)) 0) [ true ↦ 0 | false ↦ v (data_block v h k (i / 512) * 512 + i % 512) ])
    go i d e true z = rw (e, z) refl
    go i d e false z = rw (e, z) (rw e (f (data_block v h k (i / 512)) (data_in v h 0 k (i / 512) (eqb-false _ 0 z)) (i % 512) (omega arith)))

-- Names: 16 bytes, the size first.
abbrev pub Named : Bytes → Bytes → ℕ → Type 0
Named v v' a = (i : ℕ) → i < 16 → v' (a + i) ≡ v (a + i)

pub name_bytes_same : (v v' : Bytes) (a k : ℕ) → ((i : ℕ) → i < k → v' (a + i) ≡ v (a + i)) → name_bytes v' a k ≡ name_bytes v a k
unfolding name_bytes
name_bytes_same v v' a zero f = refl
name_bytes_same v v' a (suc k) f =
    let h : v' a ≡ v a = rw add-zero at (f 0 (omega arith)) in
    let r = name_bytes_same v v' (a + 1) k (λ i l. rw (add_assoc a 1 i) (f (1 + i) (omega arith))) in
    λ i. elim (name_byte (h i)) [ true ↦ r i | false ↦ false ]

pub capital_name_same : (v v' : Bytes) (a : ℕ) → Named v v' a → capital_name v' a ≡ capital_name v a
unfolding capital_name proper_name
capital_name_same v v' a f =
    let z : v' a ≡ v a = rw add-zero at (f 0 (omega arith)) in
    let k = v a % 16 in
    let g : (i : ℕ) → i < k → v' (a + 1 + i) ≡ v (a + 1 + i) = λ i l. rw (add_assoc a 1 i) (f (1 + i) (omega arith)) in
    rw (
      z,
      f 1 (omega arith),
      name_bytes_same v v' (a + 1) k g,
      equal_cong v' (a + 1) (λ i. capital (v' i)) (a + 1) k v (a + 1) (λ i. capital (v i)) (a + 1) g (λ i l. ap capital (g i l)),
    )
    refl

pub alike_same : (v v' : Bytes) (a b : ℕ) → Named v v' a → Named v v' b → alike v' a b ≡ alike v a b
unfolding alike
alike_same v v' a b f g =
    let z : v' a ≡ v a = rw add-zero at (f 0 (omega arith)) in
    let y : v' b ≡ v b = rw add-zero at (g 0 (omega arith)) in
    rw (
      z,
      y,
      equal_cong v' (a + 1) v' (b + 1) (v a % 16) v (a + 1) v (b + 1)
          (λ i l. rw (add_assoc a 1 i) (f (1 + i) (omega arith))) (λ i l. rw (add_assoc b 1 i) (g (1 + i) (omega arith))),
    )
    refl

twins_of_same : (v v' : Bytes) (s : ℕ) (ss : List ℕ) → Named v v' (at s)
    → ((t : ℕ) → 1 ≤ count t ss → (sort v' t ≡ sort v t) × Named v v' (at t)) → twins_of v' s ss ≡ twins_of v s ss
unfolding twins_of sum
twins_of_same v v' s [] f g = refl
twins_of_same v v' s (t ∷ ss) f g =
    let h = g t (omega (arith, is_self t)) in
    rw (h.0, alike_same v v' (at s) (at t) f h.1, twins_of_same v v' s ss f (λ x k. g x (omega arith))) refl

pub twins_same : (v v' : Bytes) (ss : List ℕ) → ((t : ℕ) → 1 ≤ count t ss → (sort v' t ≡ sort v t) × Named v v' (at t))
    → twins v' ss ≡ twins v ss
unfolding twins sum
twins_same v v' [] g = refl
twins_same v v' (s ∷ ss) g =
    let h = g s (omega (arith, is_self s)) in
    let rest : (t : ℕ) → 1 ≤ count t ss → (sort v' t ≡ sort v t) × Named v v' (at t) = λ t k. g t (omega arith) in
    let x = twins_of_same v v' s ss h.1 rest in
    let y = twins_same v v' ss rest in
    λ i. elim (is_active (h.0 i)) [ true ↦ x i + y i | false ↦ y i ]
