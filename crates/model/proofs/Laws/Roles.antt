-- "One place only": on a sound volume each block has exactly one role, the map calls free just the blocks with no other role, and its bits past
-- the volume are 0.
use Prim.Native.Nat.{ℕ, zero, suc, ◌+◌, ◌-◌, ◌*◌, ◌^◌, ◌≤◌, ◌<◌, ◌/◌, ◌%◌}
use mathlib.Core.Path.{◌≡◌, refl, sym, subst, ap, ◌∙◌}
use mathlib.Core.Logic.{◌↔◌}
use mathlib.Core.List.{List, [], ◌∷◌}
use mathlib.Core.Bool.{Bool, true, false}
use lib.Dec.{leb, ltb, eqb}
use native.Mathlib.Omega.{arith}
use native.Mathlib.Nat.{mod-add-div, mul_assoc, zero-add, mul-div_right, mul-mod_right, pow-suc}
use borrow.Author.Tests.{eqb-true, eqb-false, leb-true, leb-false, ltb-true, ltb-false}
use Rattle.model.specs.Bytes.{Bytes, sum, count, run, is}
use Rattle.model.specs.Map.{map_blocks, weight, bit, map_at, free}
use Rattle.model.specs.Directory.{Sort, inactive, directory, improper, file, sort, volume, map_place, key, used, chain, kids}
use Rattle.model.specs.File.{Node, nodes, blocks_in, blocks_of, blocks}
use Rattle.model.specs.Sound.{sound}
use Rattle.model.proofs.BitLaws.{is_yes, is_no, zero_free, free_most, map_at_same, rest_low, rest_tail}
use Rattle.model.proofs.SumLaws.{sum_some, run_has, run_in_law, count_none}
use Rattle.model.proofs.Laws.Total.{total, reach, reach_down, total_one, total_add, weight_le}
use Rattle.model.proofs.Laws.Sound.{deep, top, sums, mine, Sound, sound_facts}
use Rattle.model.proofs.Laws.Facts.{Seen, own_mine, mine_once, mine_apart}

-- the blocks of the nodes of height 1 or more, and of those of height 0
abbrev pub indexes : List Node → List ℕ
indexes [] = []
indexes (x ∷ xs) = elim (eqb x.height 0) [ true ↦ indexes xs | false ↦ x.block ∷ indexes xs ]

abbrev pub leaves : List Node → List ℕ
leaves [] = []
leaves (x ∷ xs) = elim (eqb x.height 0) [ true ↦ x.block ∷ leaves xs | false ↦ leaves xs ]

-- What a block serves for.
pub data Role : Type 0 where
  boot bitmap folder index body unused : Role

abbrev pub HasRole : Bytes → ℕ → ℕ → Role → Type 0
-- the first two blocks
HasRole v n b boot = b < 2
-- a block of the map
HasRole v n b bitmap = (map_place ≤ b) × (b < map_place + map_blocks n)
-- in the chain of a directory on the walk
HasRole v n b folder = (d : ℕ) × Seen v d × (sort v d ≡ directory) × (1 ≤ count b (chain v (key v d) (used v d)))
-- an index of a data file on the walk
HasRole v n b index = (s : ℕ) × (h : ℕ) × Seen v s × (sort v s ≡ file h) × (1 ≤ count b (indexes (nodes v h 0 (key v s))))
-- data of a data file on the walk
HasRole v n b body = (s : ℕ) × (h : ℕ) × Seen v s × (sort v s ≡ file h) × (1 ≤ count b (leaves (nodes v h 0 (key v s))))
-- free in the map
HasRole v n b unused = free map_place v b ≡ 1

-- a sum over the walk that is not 0 has a slot on the walk whose part is not
pub total_some : (kids : ℕ → List ℕ) (w : ℕ → ℕ) (l p : ℕ) (ss : List ℕ) → 1 ≤ total kids (λ _ _ s. w s) l p ss
    → (x : ℕ) × (1 ≤ reach kids x l p ss) × (1 ≤ w x)
unfolding total
total_some kids w zero p ss h = sum_some w ss h
total_some kids w (suc l) p ss h =
    let r = sum_some (λ s. w s + total kids (λ _ _ x. w x) l s (kids s)) ss h in
    go r.0 r.1 r.2 (ltb 0 (w r.0)) refl (λ s. total_some kids w l s (kids s))
  where
    go : (s : ℕ) → 1 ≤ count s ss → 1 ≤ w s + total kids (λ _ _ x. w x) l s (kids s) → (b : Bool) → ltb 0 (w s) ≡ b
        → ((s : ℕ) → 1 ≤ total kids (λ _ _ x. w x) l s (kids s) → (x : ℕ) × (1 ≤ reach kids x l s (kids s)) × (1 ≤ w x))
        → (x : ℕ) × (1 ≤ reach kids x (suc l) p ss) × (1 ≤ w x)
    go s c k true e f = (s, omega (arith, is_yes s s refl, reach_down kids (λ _ _ y. is s y) l p s ss c), ltb-true 0 (w s) e)
    go s c k false e f =
        let r = f s (omega (arith, ltb-false 0 (w s) e)) in
        (r.0, omega (arith, r.1, reach_down kids (λ _ _ y. is r.0 y) l p s ss c), r.2)

-- the blocks of an entry, by what they serve for
chain_in : Sort → Bytes → ℕ → List ℕ
chain_in inactive v s = []
chain_in directory v s = chain v (key v s) (used v s)
chain_in improper v s = []
chain_in (file h) v s = []

index_in : Sort → Bytes → ℕ → List ℕ
index_in inactive v s = []
index_in directory v s = []
index_in improper v s = []
index_in (file h) v s = indexes (nodes v h 0 (key v s))

body_in : Sort → Bytes → ℕ → List ℕ
body_in inactive v s = []
body_in directory v s = []
body_in improper v s = []
body_in (file h) v s = leaves (nodes v h 0 (key v s))

both_kinds : (b : ℕ) (ns : List Node) → count b (blocks_in ns) ≡ count b (indexes ns) + count b (leaves ns)
unfolding sum
both_kinds b [] = refl
both_kinds b (x ∷ xs) = go (eqb x.height 0) (both_kinds b xs)
  where
    go : (t : Bool) → count b (blocks_in xs) ≡ count b (indexes xs) + count b (leaves xs)
        → is b x.block + count b (blocks_in xs)
        ≡ count b (elim t [ true ↦ indexes xs | false ↦ x.block ∷ indexes xs ]) + count b (elim t [ true ↦ x.block ∷ leaves xs | false ↦ leaves xs ])
    go true e = omega arith
    go false e = omega arith

parted : (b : ℕ) (v : Bytes) (s : ℕ) (K : Sort)
    → count b (blocks_of K v s) ≡ count b (chain_in K v s) + count b (index_in K v s) + count b (body_in K v s)
unfolding blocks_of chain_in index_in body_in sum
parted b v s inactive = refl
parted b v s directory = omega arith
parted b v s improper = refl
parted b v s (file h) = omega (arith, both_kinds b (nodes v h 0 (key v s)))

-- how often a block has a role
share : Bytes → ℕ → ℕ → Role → ℕ
share v n b boot = is b 0 + is b 1
share v n b bitmap = count b (run map_place (map_blocks n))
share v n b folder = sums v (λ _ _ s. count b (chain_in (sort v s) v s))
share v n b index = sums v (λ _ _ s. count b (index_in (sort v s) v s))
share v n b body = sums v (λ _ _ s. count b (body_in (sort v s) v s))
share v n b unused = free map_place v b

abbrev all : (Role → ℕ) → ℕ
all f = f boot + f bitmap + f folder + f index + f body + f unused

mine_parts : (v : Bytes) (n b : ℕ) → mine v b ≡ share v n b folder + share v n b index + share v n b body
unfolding share
mine_parts v n b =
    let C : ℕ → ℕ → ℕ → ℕ = λ _ _ s. count b (chain_in (sort v s) v s) in
    let I : ℕ → ℕ → ℕ → ℕ = λ _ _ s. count b (index_in (sort v s) v s) in
    let B : ℕ → ℕ → ℕ → ℕ = λ _ _ s. count b (body_in (sort v s) v s) in
    omega (
      arith,
      total_add (kids v) C I deep volume top,
      total_add (kids v) (λ m q s. C m q s + I m q s) B deep volume top,
      weight_le (kids v) (λ m q s. C m q s + I m q s + B m q s) (λ _ _ s. count b (blocks v s)) deep volume top
          (λ m q s. omega (arith, parted b v s (sort v s))),
      weight_le (kids v) (λ _ _ s. count b (blocks v s)) (λ m q s. C m q s + I m q s + B m q s) deep volume top
          (λ m q s. omega (arith, parted b v s (sort v s))),
    )

shares_one : {n : ℕ} {v : Bytes} → Sound n v → (b : ℕ) → b < n → all (share v n b) ≡ 1
unfolding share sum
shares_one {n} {v} S b l = omega (arith, S.once b l, mine_parts v n b)

-- a block has a role just where its share is not 0
chain_of : (b : ℕ) (v : Bytes) (s : ℕ) (K : Sort) → 1 ≤ count b (chain_in K v s) → (K ≡ directory) × (1 ≤ count b (chain v (key v s) (used v s)))
unfolding chain_in
chain_of b v s inactive h = absurd (count_none b h)
chain_of b v s directory h = (refl, h)
chain_of b v s improper h = absurd (count_none b h)
chain_of b v s (file k) h = absurd (count_none b h)

index_of : (b : ℕ) (v : Bytes) (s : ℕ) (K : Sort) → 1 ≤ count b (index_in K v s)
    → (h : ℕ) × (K ≡ file h) × (1 ≤ count b (indexes (nodes v h 0 (key v s))))
unfolding index_in
index_of b v s inactive h = absurd (count_none b h)
index_of b v s directory h = absurd (count_none b h)
index_of b v s improper h = absurd (count_none b h)
index_of b v s (file k) h = (k, refl, h)

body_of : (b : ℕ) (v : Bytes) (s : ℕ) (K : Sort) → 1 ≤ count b (body_in K v s)
    → (h : ℕ) × (K ≡ file h) × (1 ≤ count b (leaves (nodes v h 0 (key v s))))
unfolding body_in
body_of b v s inactive h = absurd (count_none b h)
body_of b v s directory h = absurd (count_none b h)
body_of b v s improper h = absurd (count_none b h)
body_of b v s (file k) h = (k, refl, h)

two_first : (b : ℕ) → 1 ≤ is b 0 + is b 1 → b < 2
two_first zero h = omega arith
two_first (suc zero) h = omega arith
two_first (suc (suc b)) h = absurd (omega (arith, is_no (suc (suc b)) 0 (λ e. omega arith), is_no (suc (suc b)) 1 (λ e. omega arith)))

first_two : (b : ℕ) → b < 2 → 1 ≤ is b 0 + is b 1
first_two zero h = omega arith
first_two (suc zero) h = omega arith
first_two (suc (suc b)) h = absurd (omega arith)

share_role : (v : Bytes) (n b : ℕ) (r : Role) → 1 ≤ share v n b r → HasRole v n b r
unfolding share
share_role v n b boot h = two_first b h
share_role v n b bitmap h = run_in_law (map_blocks n) map_place b h
share_role v n b folder h =
    let x = total_some (kids v) (λ s. count b (chain_in (sort v s) v s)) deep volume top h in
    let y = chain_of b v x.0 (sort v x.0) x.2 in
    (x.0, x.1, y.0, y.1)
share_role v n b index h =
    let x = total_some (kids v) (λ s. count b (index_in (sort v s) v s)) deep volume top h in
    let y = index_of b v x.0 (sort v x.0) x.2 in
    (x.0, y.0, x.1, y.1, y.2)
share_role v n b body h =
    let x = total_some (kids v) (λ s. count b (body_in (sort v s) v s)) deep volume top h in
    let y = body_of b v x.0 (sort v x.0) x.2 in
    (x.0, y.0, x.1, y.1, y.2)
share_role v n b unused h = omega (arith, free_most map_place v b)

role_share : (v : Bytes) (n b : ℕ) (r : Role) → HasRole v n b r → 1 ≤ share v n b r
unfolding share chain_in index_in body_in
role_share v n b boot h = first_two b h
role_share v n b bitmap h = run_has (map_blocks n) map_place b h.0 h.1
role_share v n b folder h =
    let c : 1 ≤ count b (chain_in (sort v h.0) v h.0) = rw h.2 h.3 in
    omega (arith, c, total_one (kids v) (λ s. count b (chain_in (sort v s) v s)) h.0 deep volume top h.1)
role_share v n b index h =
    let c : 1 ≤ count b (index_in (sort v h.0) v h.0) = rw h.3 h.4 in
    omega (arith, c, total_one (kids v) (λ s. count b (index_in (sort v s) v s)) h.0 deep volume top h.2)
role_share v n b body h =
    let c : 1 ≤ count b (body_in (sort v h.0) v h.0) = rw h.3 h.4 in
    omega (arith, c, total_one (kids v) (λ s. count b (body_in (sort v s) v s)) h.0 deep volume top h.2)
role_share v n b unused h = omega arith

-- Of shares that are 1 together, one is 1.
code : Role → ℕ
code boot = 0
code bitmap = 1
code folder = 2
code index = 3
code body = 4
code unused = 5

decode : ℕ → Role
decode zero = boot
decode (suc zero) = bitmap
decode (suc (suc zero)) = folder
decode (suc (suc (suc zero))) = index
decode (suc (suc (suc (suc zero)))) = body
decode (suc (suc (suc (suc (suc k))))) = unused

decoded : (r : Role) → decode (code r) ≡ r
unfolding code decode
decoded boot = refl
decoded bitmap = refl
decoded folder = refl
decoded index = refl
decoded body = refl
decoded unused = refl

coded : (f : Role → ℕ) (r : Role) → all f ≡ 1 → 1 ≤ f r → f bitmap + 2 * f folder + 3 * f index + 4 * f body + 5 * f unused ≡ code r
unfolding code
coded f boot e h = omega arith
coded f bitmap e h = omega arith
coded f folder e h = omega arith
coded f index e h = omega arith
coded f body e h = omega arith
coded f unused e h = omega arith

some_share : (f : Role → ℕ) → all f ≡ 1 → (r : Role) × (1 ≤ f r)
some_share f e =
    go (ltb 0 (f boot)) refl (ltb 0 (f bitmap)) refl (ltb 0 (f folder)) refl (ltb 0 (f index)) refl (ltb 0 (f body)) refl
  where
    go : (a : Bool) → ltb 0 (f boot) ≡ a → (b : Bool) → ltb 0 (f bitmap) ≡ b → (c : Bool) → ltb 0 (f folder) ≡ c → (d : Bool)
        → ltb 0 (f index) ≡ d → (g : Bool) → ltb 0 (f body) ≡ g → (r : Role) × (1 ≤ f r)
    go true p b q c s d t g u = (boot, ltb-true 0 (f boot) p)
    go false p true q c s d t g u = (bitmap, ltb-true 0 (f bitmap) q)
    go false p false q true s d t g u = (folder, ltb-true 0 (f folder) s)
    go false p false q false s true t g u = (index, ltb-true 0 (f index) t)
    go false p false q false s false t true u = (body, ltb-true 0 (f body) u)
    go false p false q false s false t false u = (
      unused,
      omega (arith, ltb-false 0 (f boot) p, ltb-false 0 (f bitmap) q, ltb-false 0 (f folder) s, ltb-false 0 (f index) t, ltb-false 0 (f body) u),
    )

-- The three theorems: a block has a role, no two roles, and the map is right.
pub some_role : (n : ℕ) (v : Bytes) → sound n v ≡ true → (b : ℕ) → b < n → (r : Role) × HasRole v n b r
some_role n v s b l =
    let r = some_share (share v n b) (shares_one (sound_facts n v s) b l) in
    (r.0, share_role v n b r.0 r.1)

pub one_role : (n : ℕ) (v : Bytes) → sound n v ≡ true → (b : ℕ) → b < n → (r t : Role) → HasRole v n b r → HasRole v n b t → r ≡ t
one_role n v s b l r t h k =
    let e = shares_one (sound_facts n v s) b l in
    let c : code r ≡ code t = sym (coded (share v n b) r e (role_share v n b r h)) ∙ coded (share v n b) t e (role_share v n b t k) in
    sym (decoded r) ∙ (ap decode c ∙ decoded t)

pub free_role : (n : ℕ) (v : Bytes) → sound n v ≡ true → (b : ℕ) → b < n
    → (free map_place v b ≡ 1) ↔ ((r : Role) → HasRole v n b r → r ≡ unused)
free_role n v s b l = (
  λ e r h. one_role n v s b l r unused h e,
  λ f. let x = some_role n v s b l in subst (HasRole v n b) (f x.0 x.1) x.1,
)

-- Bits past the volume.
even_of : (m q : ℕ) → 0 < m → (m * (2 * q) % m ≡ 0) × (m * (2 * q) / m % 2 ≡ 0)
even_of m q p = (mul-mod_right m (2 * q), rw (mul-div_right (2 * q) p) (omega arith))

even : (m x : ℕ) → 0 < m → x % (m * 2) ≡ 0 → (x % m ≡ 0) × (x / m % 2 ≡ 0)
even m x p e =
    let f : m * (2 * (x / (m * 2))) ≡ x =
    sym (mul_assoc m 2 (x / (m * 2))) ∙ (sym (zero-add (m * 2 * (x / (m * 2)))) ∙ (ap (λ y. y + m * 2 * (x / (m * 2))) (sym e) ∙ mod-add-div x (m * 2))) in
    subst (λ (y : ℕ). (y % m ≡ 0) × (y / m % 2 ≡ 0)) f (even_of m (x / (m * 2)) p)

power_some : (k : ℕ) → 0 < 2 ^ k
power_some zero = omega arith
power_some (suc k) = rw (pow-suc 2 k) (omega (arith, power_some k))

low_bit : (k j x : ℕ) → k < j → x % 2 ^ j ≡ 0 → x / 2 ^ k % 2 ≡ 0
low_bit k zero x l e = absurd (omega arith)
low_bit k (suc j) x l e = go (eqb k j) refl (low_bit k j x)
  where
    parts : (x % 2 ^ j ≡ 0) × (x / 2 ^ j % 2 ≡ 0)
    parts = even (2 ^ j) x (power_some j) (rw pow-suc at e)

    go : (b : Bool) → eqb k j ≡ b → (k < j → x % 2 ^ j ≡ 0 → x / 2 ^ k % 2 ≡ 0) → x / 2 ^ k % 2 ≡ 0
    go true f r = rw (eqb-true k j f) parts.1
    go false f r = let z = eqb-false k j f in r (omega arith) parts.0

free_bit : (m : ℕ) (v : Bytes) (x : ℕ) → free m v x ≡ v (map_at m x) / 2 ^ (7 - x % 8) % 2
unfolding free bit weight
free_bit m v x = refl

pub past_free : (n : ℕ) (v : Bytes) → sound n v ≡ true → (x : ℕ) → n ≤ x → x < 4096 * map_blocks n → free map_place v x ≡ 0
past_free n v s x h l = go (leb ((n + 7) / 8) (x / 8)) refl
  where
    go : (b : Bool) → leb ((n + 7) / 8) (x / 8) ≡ b → free map_place v x ≡ 0
    go true e =
        zero_free map_place v x (unfold map_at in rest_tail map_place v n (sound_facts n v s).rest (x / 8) (leb-true _ _ e) (omega arith))
    go false e =
        let f : x / 8 < (n + 7) / 8 = leb-false ((n + 7) / 8) (x / 8) e in
        let q : n / 8 ≡ x / 8 = omega arith in
        let z : v (map_at map_place x) % 2 ^ (8 - n % 8) ≡ 0 =
        rw (map_at_same map_place x n (sym q)) (rest_low map_place v n (sound_facts n v s).rest (λ i. omega arith)) in
        free_bit map_place v x ∙ low_bit (7 - x % 8) (8 - n % 8) (v (map_at map_place x)) (omega arith) z

-- A block that entries of the walk own has one owner, which has it once.
pub one_owner : (n : ℕ) (v : Bytes) → sound n v ≡ true → (x y b : ℕ) → Seen v x → Seen v y → 1 ≤ count b (blocks v x) → 1 ≤ count b (blocks v y)
    → (x ≡ y) × (count b (blocks v x) ≡ 1)
one_owner n v s x y b h k f g =
    let S = sound_facts n v s in (
      mine_apart S x y b h k f g,
      omega (arith, (mine_once S b (own_mine S x b h f)).0, total_one (kids v) (λ s. count b (blocks v s)) x deep volume top h),
    )
