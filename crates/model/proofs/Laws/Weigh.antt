-- Sums over a file's tree of pointers: a gauge is a number for each height, file number and block. The nodes of a file are read as such sums.
use Prim.Native.Nat.{ℕ, zero, suc, ◌+◌, ◌*◌, ◌≤◌, ◌<◌}
use mathlib.Core.Path.{◌≡◌, refl, sym, ap, ◌∙◌}
use mathlib.Core.Bool.{Bool, true, false}
use lib.Dec.{leb, eqb}
use lib.ListN.{length}
use native.Mathlib.Omega.{arith}
use native.Mathlib.Nat.{add-zero, add_assoc}
use borrow.Author.Tests.{eqb-true, eqb-false, eq-eqb, ne_eqb}
use Rattle.model.specs.Bytes.{Bytes, sum, count, run, is, one_if}
use Rattle.model.specs.File.{Node, pointer, limb, nodes, blocks_in, first_below}
use Rattle.model.specs.Sound.{outside, late}
use Rattle.model.proofs.SumLaws.{is_self, sum_eq, sum_gather, sum_map, sum_ones}
use Rattle.model.proofs.Laws.Frame.{Alike, holds, pointer_in}

-- Sums over the numbers below c.
unfoldable pub upto : ℕ → (ℕ → ℕ) → ℕ
upto zero f = 0
upto (suc c) f = upto c f + f c

upto_le : (c : ℕ) (f g : ℕ → ℕ) → ((i : ℕ) → i < c → f i ≤ g i) → upto c f ≤ upto c g
unfolding upto
upto_le zero f g h = omega arith
upto_le (suc c) f g h = omega (arith, h c (omega arith), upto_le c f g (λ i l. h i (omega arith)))

pub upto_eq : (c : ℕ) (f g : ℕ → ℕ) → ((i : ℕ) → i < c → f i ≡ g i) → upto c f ≡ upto c g
upto_eq c f g h = omega (arith, upto_le c f g (λ i l. omega (arith, h i l)), upto_le c g f (λ i l. omega (arith, h i l)))

pub upto_add : (c : ℕ) (f g : ℕ → ℕ) → upto c (λ i. f i + g i) ≡ upto c f + upto c g
unfolding upto
upto_add zero f g = refl
upto_add (suc c) f g = omega (arith, upto_add c f g)

pub upto_zero : (c : ℕ) (f : ℕ → ℕ) → ((i : ℕ) → i < c → f i ≡ 0) → upto c f ≡ 0
unfolding upto
upto_zero zero f t = refl
upto_zero (suc c) f t = omega (arith, upto_zero c f (λ i l. t i (omega arith)), t c (omega arith))

pub upto_ones : (c : ℕ) (f : ℕ → ℕ) → ((i : ℕ) → i < c → f i ≤ 1) → upto c f ≤ c
unfolding upto
upto_ones zero f t = omega arith
upto_ones (suc c) f t = omega (arith, upto_ones c f (λ i l. t i (omega arith)), t c (omega arith))

-- one term differs
pub upto_one : (c i : ℕ) (f g : ℕ → ℕ) → i < c → ((j : ℕ) → j < c → (j ≡ i → ⊥) → f j ≡ g j) → upto c f + g i ≡ upto c g + f i
unfolding upto
upto_one zero i f g l h = absurd (omega arith)
upto_one (suc c) i f g l h = go (eqb i c) refl (upto_one c i f g)
  where
    go : (b : Bool) → eqb i c ≡ b → (i < c → ((j : ℕ) → j < c → (j ≡ i → ⊥) → f j ≡ g j) → upto c f + g i ≡ upto c g + f i)
        → upto c f + f c + g i ≡ upto c g + g c + f i
    go true e r = let p = eqb-true i c e in rw p (omega (arith, upto_eq c f g (λ j k. h j (omega arith) (λ q. omega arith))))
    go false e r =
        let p = eqb-false i c e in
        omega (arith, r (omega arith) (λ j k. h j (omega arith)), h c (omega arith) (λ q. p (sym q)))

upto_mem : (c i : ℕ) (f : ℕ → ℕ) → i < c → f i ≤ upto c f
unfolding upto
upto_mem zero i f l = absurd (omega arith)
upto_mem (suc c) i f l = go (eqb i c) refl (upto_mem c i f)
  where
    go : (b : Bool) → eqb i c ≡ b → (i < c → f i ≤ upto c f) → f i ≤ upto c f + f c
    go true e r = rw (eqb-true i c e) (omega arith)
    go false e r = let p = eqb-false i c e in omega (arith, r (omega arith))

upto_two : (c i j : ℕ) (f : ℕ → ℕ) → i < c → j < c → (i ≡ j → ⊥) → f i + f j ≤ upto c f
unfolding upto
upto_two zero i j f k l n = absurd (omega arith)
upto_two (suc c) i j f k l n = go (eqb i c) refl (eqb j c) refl (upto_two c i j f)
  where
    go : (b : Bool) → eqb i c ≡ b → (d : Bool) → eqb j c ≡ d → (i < c → j < c → (i ≡ j → ⊥) → f i + f j ≤ upto c f) → f i + f j ≤ upto c f + f c
    go true e d g r = let p = eqb-true i c e in rw p (omega (arith, upto_mem c j f (omega arith)))
    go false e true g r = let p = eqb-false i c e in rw (eqb-true j c g) (omega (arith, upto_mem c i f (omega arith)))
    go false e false g r =
        let p = eqb-false i c e in
        let o = eqb-false j c g in
        omega (arith, r (omega arith) (omega arith) n)

run_last : (f : ℕ → ℕ) (c a : ℕ) → sum f (run a (suc c)) ≡ sum f (run a c) + f (a + c)
unfolding run sum
run_last f zero a = rw (add-zero a) (omega arith)
run_last f (suc c) a = let e : a + suc c ≡ suc a + c = omega arith in rw e (omega (arith, run_last f c (suc a)))

pub run_upto : (f : ℕ → ℕ) (c a : ℕ) → sum f (run a c) ≡ upto c (λ i. f (a + i))
unfolding upto
run_upto f zero a = unfold run sum in refl
run_upto f (suc c) a = omega (arith, run_last f c a, run_upto f c a)

-- Gauges.
abbrev pub Gauge : Type 0
Gauge = ℕ → ℕ → ℕ → ℕ

-- what lies below pointer i
unfoldable pub arm : (ℕ → ℕ → ℕ) → Bytes → ℕ → ℕ → ℕ → ℕ
arm x v q k i = elim (eqb (pointer v k i) 0) [ true ↦ 0 | false ↦ x (q * 256 + i) (pointer v k i) ]

unfoldable pub weigh : Gauge → Bytes → ℕ → ℕ → ℕ → ℕ
weigh g v zero q k = g 0 q k
weigh g v (suc h) q k = g (suc h) q k + upto 256 (arm (λ r p. weigh g v h r p) v q k)

-- the same for all numbers; of nodes that begin at e or later
abbrev pub each : (ℕ → ℕ) → Gauge
each g _ _ b = g b

abbrev pub tardy : ℕ → Gauge
tardy e h q k = one_if (leb e (first_below h q))

-- how often a tree holds the block b
abbrev pub has : Bytes → ℕ → ℕ → ℕ → ℕ → ℕ
has v h q k b = weigh (each (is b)) v h q k

abbrev pub size : Bytes → ℕ → ℕ → ℕ → ℕ
size v h q k = weigh (each (λ _. 1)) v h q k

module _ (x : ℕ → ℕ → ℕ) (v : Bytes) (q k i : ℕ) where
  pub arm_hole : pointer v k i ≡ 0 → arm x v q k i ≡ 0
  unfolding arm
  arm_hole e = rw (eq-eqb (pointer v k i) 0 e, arm) refl

  pub arm_full : (pointer v k i ≡ 0 → ⊥) → arm x v q k i ≡ x (q * 256 + i) (pointer v k i)
  unfolding arm
  arm_full e = rw (ne_eqb (pointer v k i) 0 e, arm) refl

-- the part of a tree below pointer i
abbrev pub part : Gauge → Bytes → ℕ → ℕ → ℕ → ℕ → ℕ
part g v h q k i = arm (λ r p. weigh g v h r p) v q k i

-- A sum over the nodes of a file is such a sum.
pub weigh_nodes : (g : Gauge) (v : Bytes) (h q k : ℕ) → sum (λ x. g x.height x.number x.block) (nodes v h q k) ≡ weigh g v h q k
unfolding nodes weigh sum
weigh_nodes g v zero q k = add-zero (g 0 q k)
weigh_nodes g v (suc h) q k =
    ap (λ (n : ℕ). g (suc h) q k + n)
    (sum_gather (λ x. g x.height x.number x.block) (limb (λ r p. nodes v h r p) v q k) (run 0 256)
    ∙ sum_eq _ _ (run 0 256) (λ i c. one i (eqb (pointer v k i) 0) refl (weigh_nodes g v h (q * 256 + i) (pointer v k i)))
    ∙ run_upto (part g v h q k) 256 0
    ∙ upto_eq 256 _ _ (λ i l. let e : 0 + i ≡ i = omega arith in rw e refl))
  where
    one : (i : ℕ) (b : Bool) → eqb (pointer v k i) 0 ≡ b
        → sum (λ x. g x.height x.number x.block) (nodes v h (q * 256 + i) (pointer v k i)) ≡ weigh g v h (q * 256 + i) (pointer v k i)
        → sum (λ x. g x.height x.number x.block) (limb (λ r p. nodes v h r p) v q k i) ≡ part g v h q k i
    one i true e r = unfold limb in rw (e, limb) (sym (arm_hole _ v q k i (eqb-true (pointer v k i) 0 e)))
    one i false e r = unfold limb in rw (e, limb) (r ∙ sym (arm_full _ v q k i (eqb-false (pointer v k i) 0 e)))

module _ (v : Bytes) (h q k : ℕ) where
  pub nodes_count : (b : ℕ) → count b (blocks_in (nodes v h q k)) ≡ has v h q k b
  nodes_count b = holds b (nodes v h q k) ∙ weigh_nodes (each (is b)) v h q k

  pub nodes_length : length (nodes v h q k) ≡ size v h q k
  nodes_length = sym (sum_ones (nodes v h q k)) ∙ weigh_nodes (each (λ _. 1)) v h q k

  pub blocks_length : length (blocks_in (nodes v h q k)) ≡ size v h q k
  blocks_length =
      sym (sum_ones (blocks_in (nodes v h q k)))
      ∙ sum_map (λ _. 1) (λ (x : Node). x.block) (nodes v h q k)
      ∙ weigh_nodes (each (λ _. 1)) v h q k

  pub nodes_late : (e : ℕ) → late e (nodes v h q k) ≡ weigh (tardy e) v h q k
  nodes_late e = weigh_nodes (tardy e) v h q k

  pub nodes_outside : (n : ℕ) → outside n (blocks_in (nodes v h q k)) ≡ weigh (each (λ b. one_if (leb n b))) v h q k
  nodes_outside n =
      sum_map (λ b. one_if (leb n b)) (λ (x : Node). x.block) (nodes v h q k)
      ∙ weigh_nodes (each (λ b. one_if (leb n b))) v h q k

-- Parts and the whole.
arm_le : (f g : Gauge) (v : Bytes) (h q k i : ℕ)
    → ((pointer v k i ≡ 0 → ⊥) → weigh f v h (q * 256 + i) (pointer v k i) ≤ weigh g v h (q * 256 + i) (pointer v k i))
    → part f v h q k i ≤ part g v h q k i
arm_le f g v h q k i t = go (eqb (pointer v k i) 0) refl
  where
    go : (b : Bool) → eqb (pointer v k i) 0 ≡ b → part f v h q k i ≤ part g v h q k i
    go true e = omega (arith, arm_hole (λ r p. weigh f v h r p) v q k i (eqb-true (pointer v k i) 0 e))
    go false e =
        let z = eqb-false (pointer v k i) 0 e in
        omega (arith, arm_full (λ r p. weigh f v h r p) v q k i z, arm_full (λ r p. weigh g v h r p) v q k i z, t z)

pub part_le : (g : Gauge) (v : Bytes) (h q k i : ℕ) → i < 256 → g (suc h) q k + part g v h q k i ≤ weigh g v (suc h) q k
unfolding weigh
part_le g v h q k i l = omega (arith, upto_mem 256 i (arm (λ r p. weigh g v h r p) v q k) l)

pub has_key : (v : Bytes) (h q k : ℕ) → 1 ≤ has v h q k k
unfolding weigh
has_key v zero q k = omega (arith, is_self k)
has_key v (suc h) q k = omega (arith, is_self k)

pub part_has : (v : Bytes) (h q k i b : ℕ) → i < 256 → (pointer v k i ≡ 0 → ⊥)
    → is b k + has v h (q * 256 + i) (pointer v k i) b ≤ has v (suc h) q k b
part_has v h q k i b l z = omega (arith, part_le (each (is b)) v h q k i l, arm_full (λ r p. has v h r p b) v q k i z)

pub part_two : (v : Bytes) (h q k i j b : ℕ) → i < 256 → j < 256 → (i ≡ j → ⊥)
    → is b k + part (each (is b)) v h q k i + part (each (is b)) v h q k j ≤ has v (suc h) q k b
unfolding weigh
part_two v h q k i j b l m e = omega (arith, upto_two 256 i j (arm (λ r p. has v h r p b) v q k) l m e)

-- one part differs
pub weigh_one : (g : Gauge) (v v' : Bytes) (h q k i : ℕ) → i < 256
    → ((j : ℕ) → j < 256 → (j ≡ i → ⊥) → part g v' h q k j ≡ part g v h q k j)
    → weigh g v' (suc h) q k + part g v h q k i ≡ weigh g v (suc h) q k + part g v' h q k i
unfolding weigh
weigh_one g v v' h q k i l f =
    omega (arith, upto_one 256 i (arm (λ r p. weigh g v' h r p) v' q k) (arm (λ r p. weigh g v h r p) v q k) l f)

-- gauges that are no larger at the blocks of a tree
pub weigh_le : (f g : Gauge) (v : Bytes) (h q k : ℕ) → ((l r b : ℕ) → 1 ≤ has v h q k b → f l r b ≤ g l r b) → weigh f v h q k ≤ weigh g v h q k
unfolding weigh
weigh_le f g v zero q k t = t 0 q k (has_key v 0 q k)
weigh_le f g v (suc h) q k t =
    omega (
      arith,
      t (suc h) q k (has_key v (suc h) q k),
      upto_le 256 _ _ (λ i l. arm_le f g v h q k i
          (λ z. weigh_le f g v h (q * 256 + i) (pointer v k i) (λ m r b s. t m r b (omega (arith, part_has v h q k i b l z))))),
    )

-- what the reading of a tree depends on
pub part_same : (g : Gauge) (v v' : Bytes) (h q k i : ℕ) → pointer v' k i ≡ pointer v k i
    → ((pointer v k i ≡ 0 → ⊥) → weigh g v' h (q * 256 + i) (pointer v k i) ≡ weigh g v h (q * 256 + i) (pointer v k i))
    → part g v' h q k i ≡ part g v h q k i
part_same g v v' h q k i e f = go (eqb (pointer v k i) 0) refl
  where
    go : (b : Bool) → eqb (pointer v k i) 0 ≡ b → part g v' h q k i ≡ part g v h q k i
    go true t = let z = eqb-true (pointer v k i) 0 t in arm_hole _ v' q k i (e ∙ z) ∙ sym (arm_hole _ v q k i z)
    go false t =
        let z = eqb-false (pointer v k i) 0 t in
        arm_full _ v' q k i (λ y. z (sym e ∙ y)) ∙ rw e (f z) ∙ sym (arm_full _ v q k i z)

pub weigh_same : (g : Gauge) (v v' : Bytes) (h q k : ℕ) → ((b : ℕ) → 1 ≤ has v h q k b → Alike 512 v v' b) → weigh g v' h q k ≡ weigh g v h q k
unfolding weigh
weigh_same g v v' zero q k f = refl
weigh_same g v v' (suc h) q k f =
    ap (λ (x : ℕ). g (suc h) q k + x)
    (upto_eq 256 _ _ (λ i l.
    part_same g v v' h q k i (pointer_in v v' k i (f k (has_key v (suc h) q k)) l)
    (λ z. weigh_same g v v' h (q * 256 + i) (pointer v k i) (λ b t. f b (omega (arith, part_has v h q k i b l z))))))

-- a gauge with no share in any block
pub part_zero : (g : Gauge) (v : Bytes) (h q k i : ℕ)
    → ((pointer v k i ≡ 0 → ⊥) → weigh g v h (q * 256 + i) (pointer v k i) ≡ 0) → part g v h q k i ≡ 0
part_zero g v h q k i t = go (eqb (pointer v k i) 0) refl
  where
    go : (b : Bool) → eqb (pointer v k i) 0 ≡ b → part g v h q k i ≡ 0
    go true e = arm_hole _ v q k i (eqb-true (pointer v k i) 0 e)
    go false e = let z = eqb-false (pointer v k i) 0 e in arm_full _ v q k i z ∙ t z

weigh_none : (v : Bytes) (h q k : ℕ) → weigh (each (λ _. 0)) v h q k ≡ 0
unfolding weigh
weigh_none v zero q k = refl
weigh_none v (suc h) q k =
    omega (arith, upto_zero 256 _ (λ i l. part_zero (each (λ _. 0)) v h q k i (λ z. weigh_none v h (q * 256 + i) (pointer v k i))))

pub weigh_zero : (g : Gauge) (v : Bytes) (h q k : ℕ) → ((l r b : ℕ) → 1 ≤ has v h q k b → g l r b ≡ 0) → weigh g v h q k ≡ 0
weigh_zero g v h q k t = omega (arith, weigh_le g (each (λ _. 0)) v h q k (λ l r b s. omega (arith, t l r b s)), weigh_none v h q k)

-- an index of holes
abbrev pub Blank : Bytes → ℕ → Type 0
Blank v k = (j : ℕ) → j < 512 → v (k * 512 + j) ≡ 0

pub pointer_blank : (v : Bytes) (k i : ℕ) → Blank v k → i < 256 → pointer v k i ≡ 0
unfolding pointer
pointer_blank v k i t l = rw (t i (omega arith), add_assoc (k * 512) 256 i, t (256 + i) (omega arith)) refl

pub weigh_blank : (g : Gauge) (v : Bytes) (h q k : ℕ) → Blank v k → weigh g v h q k ≡ g h q k
unfolding weigh
weigh_blank g v zero q k t = refl
weigh_blank g v (suc h) q k t = omega (arith, upto_zero 256 _ (λ i l. arm_hole (λ r p. weigh g v h r p) v q k i (pointer_blank v k i t l)))

pub weigh_add : (f g : Gauge) (v : Bytes) (h q k : ℕ) → weigh (λ l r b. f l r b + g l r b) v h q k ≡ weigh f v h q k + weigh g v h q k
unfolding weigh
weigh_add f g v zero q k = refl
weigh_add f g v (suc h) q k =
    omega (
      arith,
      upto_add 256 (arm (λ r p. weigh f v h r p) v q k) (arm (λ r p. weigh g v h r p) v q k),
      upto_eq 256 (arm (λ r p. weigh (λ l s b. f l s b + g l s b) v h r p) v q k) (λ i. part f v h q k i + part g v h q k i)
          (λ i l. both i (eqb (pointer v k i) 0) refl (weigh_add f g v h (q * 256 + i) (pointer v k i))),
    )
  where
    both : (i : ℕ) (b : Bool) → eqb (pointer v k i) 0 ≡ b
        → weigh (λ l s c. f l s c + g l s c) v h (q * 256 + i) (pointer v k i)
        ≡ weigh f v h (q * 256 + i) (pointer v k i) + weigh g v h (q * 256 + i) (pointer v k i)
        → part (λ l s c. f l s c + g l s c) v h q k i ≡ part f v h q k i + part g v h q k i
    both i true e r =
        let z = eqb-true (pointer v k i) 0 e in
        omega (
          arith,
          arm_hole (λ r p. weigh (λ l s c. f l s c + g l s c) v h r p) v q k i z,
          arm_hole (λ r p. weigh f v h r p) v q k i z,
          arm_hole (λ r p. weigh g v h r p) v q k i z,
        )
    both i false e r =
        let z = eqb-false (pointer v k i) 0 e in
        omega (
          arith,
          r,
          arm_full (λ r p. weigh (λ l s c. f l s c + g l s c) v h r p) v q k i z,
          arm_full (λ r p. weigh f v h r p) v q k i z,
          arm_full (λ r p. weigh g v h r p) v q k i z,
        )

-- the data blocks of a tree, and its indexes
abbrev pub leaves : ℕ → Gauge
leaves b zero q x = is b x
leaves b (suc l) q x = 0

abbrev pub indexes : ℕ → Gauge
indexes b zero q x = 0
indexes b (suc l) q x = is b x

pub has_split : (v : Bytes) (h q k b : ℕ) → has v h q k b ≡ weigh (leaves b) v h q k + weigh (indexes b) v h q k
has_split v h q k b =
    omega (
      arith,
      weigh_add (leaves b) (indexes b) v h q k,
      weigh_le (each (is b)) (λ l s x. leaves b l s x + indexes b l s x) v h q k (λ l s x _. omega (arith, both l s x)),
      weigh_le (λ l s x. leaves b l s x + indexes b l s x) (each (is b)) v h q k (λ l s x _. omega (arith, both l s x)),
    )
  where
    both : (l s x : ℕ) → is b x ≡ leaves b l s x + indexes b l s x
    both zero s x = omega arith
    both (suc l) s x = omega arith

-- an index is no data block
pub key_index : (v : Bytes) (h q k : ℕ) → 1 ≤ weigh (indexes k) v (suc h) q k
unfolding weigh
key_index v h q k = omega (arith, is_self k)
