-- What holds of a sound volume: visited slots lie in owned blocks, no block is owned twice, and every visited entry is right.
use Prim.Native.Nat.{ℕ, zero, suc, ◌+◌, ◌-◌, ◌*◌, ◌≤◌, ◌<◌, ◌/◌}
use mathlib.Core.Path.{◌≡◌, refl, sym, ap, ◌∙◌}
use mathlib.Core.List.{List, [], ◌∷◌}
use mathlib.Core.Bool.{Bool, true, false}
use lib.Dec.{leb, ltb, eqb}
use lib.ListN.{drop, length}
use native.Mathlib.Omega.{arith}
use native.Mathlib.Nat.{mul-le-mul_right}
use borrow.Author.Tests.{eqb-true, eqb-false, le-leb, ltb-true, ltb-false}
use Rattle.model.specs.Bytes.{Bytes, sum, count, is, one_if, unless}
use Rattle.model.specs.Names.{capital_name}
use Rattle.model.specs.Map.{map_blocks, free}
use Rattle.model.specs.Directory.{Sort, inactive, directory, improper, file, sort, is_active, at, directory_type, map_place, volume, volume_block, active_count, ftype, key, used, eof, field, directory_key, next, chain, slots, slots_below, kids, active}
use Rattle.model.specs.File.{nodes, height_for, span, blocks_of, blocks}
use Rattle.model.specs.Walk.{level_most}
use Rattle.model.specs.Sound.{links, twins, outside, header_faults, top_faults, directory_faults, late, file_faults, entry_faults, faults_of, faults}
use Rattle.model.proofs.BitLaws.{is_yes, is_no, is_most}
use Rattle.model.proofs.SumLaws.{is_eq, sum_le, sum_mem, run_has}
use Rattle.model.proofs.Laws.Total.{reach, reach_down, weight_le, total_le, total_add, total_scale, reach_le, total_one, total_two}
use Rattle.model.proofs.Laws.Grow.{parents}
use Rattle.model.proofs.Laws.Frame.{slots_le, slots_head, chain_first}
use Rattle.model.proofs.Laws.Sound.{deep, top, sums, fixed, mine, Sound}
use Rattle.model.proofs.Laws.Keep.{directory_blocks, top_at}

-- A slot on the walk.
abbrev pub Seen : Bytes → ℕ → Type 0
Seen v x = 1 ≤ reach (kids v) x deep volume top

abbrev pub placed : Bytes → ℕ → ℕ
placed v x = sums v (λ _ _ s. count x (kids v s))

-- a slot of a visited directory
abbrev pub Placed : Bytes → ℕ → Type 0
Placed v x = 1 ≤ placed v x

-- the faults that concern the entry alone
inner_of : Sort → ℕ → Bytes → ℕ → ℕ
inner_of inactive n v s = 0
inner_of directory n v s = unless (capital_name v (at s)) + directory_faults n v s
inner_of improper n v s = 1
inner_of (file h) n v s = unless (capital_name v (at s)) + file_faults n v h s

inner_le : (K : Sort) (n : ℕ) (v : Bytes) (m q s : ℕ) → inner_of K n v s ≤ faults_of K n v m q s
unfolding inner_of faults_of
inner_le inactive n v m q s = omega arith
inner_le directory n v m q s = omega arith
inner_le improper n v m q s = omega arith
inner_le (file h) n v m q s = omega arith

-- with a level left, they are fewest
level_one : (K : Sort) (n : ℕ) (v : Bytes) (m q s : ℕ) → faults_of K n v 1 q s ≤ faults_of K n v m q s
unfolding faults_of
level_one inactive n v m q s = omega arith
level_one directory n v m q s = omega arith
level_one improper n v m q s = omega arith
level_one (file h) n v m q s = omega arith

pub level_le : (n : ℕ) (v : Bytes) (m q s : ℕ) → sort v s ≡ directory → is m 0 ≤ faults n v m q s
unfolding faults_of
level_le n v m q s e = rw e (omega arith)

pub kid_block : (v : Bytes) (x d : ℕ) → count x (kids v d) ≤ count (x / 13) (blocks v d)
kid_block v x d = go (sort v d)
  where
    go : (K : Sort) → count x (slots_below K v d) ≤ count (x / 13) (blocks_of K v d)
    go inactive = unfold slots_below sum in omega arith
    go improper = unfold slots_below sum in omega arith
    go (file h) = unfold slots_below sum in omega arith
    go directory = unfold slots_below blocks_of in all (chain v (key v d) (used v d))
      where
        all : (bs : List ℕ) → count x (drop 1 (slots bs)) ≤ count (x / 13) bs
        all [] = unfold slots sum in omega arith
        all (b ∷ bs) = omega (arith, slots_head x b bs, slots_le x (b ∷ bs))

pub parent_directory : (v : Bytes) (d x : ℕ) → 1 ≤ count x (kids v d) → sort v d ≡ directory
parent_directory v d x = go (sort v d)
  where
    go : (K : Sort) → 1 ≤ count x (slots_below K v d) → K ≡ directory
    go inactive c = absurd (unfold slots_below sum in omega arith)
    go directory c = refl
    go improper c = absurd (unfold slots_below sum in omega arith)
    go (file h) c = absurd (unfold slots_below sum in omega arith)

pub outside_le : (n : ℕ) (v : Bytes) (m q s : ℕ) → outside n (blocks v s) ≤ faults n v m q s
outside_le n v m q s = go (sort v s) refl
  where
    go : (K : Sort) → sort v s ≡ K → outside n (blocks v s) ≤ faults_of K n v m q s
    go inactive e = rw e (unfold blocks_of sum in omega arith)
    go directory e = unfold faults_of directory_faults in omega arith
    go improper e = rw e (unfold blocks_of sum in omega arith)
    go (file h) e = unfold faults_of file_faults in omega arith

is_outside : (n b s : ℕ) → n ≤ b → is b s ≤ one_if (leb n s)
is_outside n b s h = go (eqb b s) refl
  where
    go : (c : Bool) → eqb b s ≡ c → one_if c ≤ one_if (leb n s)
    go true e = rw (le-leb n s (omega (arith, eqb-true b s e))) (omega arith)
    go false e = omega arith

pub pos : (u : ℕ) → is u 0 ≡ 0 → 1 ≤ u
pos zero p = absurd (omega arith)
pos (suc u) p = omega arith

unless_true : (t : Bool) → unless t ≡ 0 → t ≡ true
unless_true true e = refl
unless_true false e = absurd (omega arith)

-- a directory's own header is none of its slots
head_of : Sort → ℕ → ℕ
head_of inactive i = 0
head_of directory i = i
head_of improper i = 0
head_of (file h) i = 0

kids_head : (v : Bytes) (x k u : ℕ) → 1 ≤ u → count x (drop 1 (slots (chain v k u))) + is x (k * 13) ≤ count (x / 13) (chain v k u)
unfolding chain
kids_head v x k zero h = absurd (omega arith)
kids_head v x k (suc u) h = omega (arith, slots_head x k (chain v (next v k) u), slots_le x (k ∷ chain v (next v k) u))

head_le : (n x : ℕ) (v : Bytes) (s : ℕ) → inner_of (sort v s) n v s ≡ 0
    → count x (kids v s) + head_of (sort v s) (is x (key v s * 13)) ≤ count (x / 13) (blocks v s)
head_le n x v s f = go (sort v s) refl f
  where
    go : (K : Sort) → sort v s ≡ K → inner_of K n v s ≡ 0 → count x (kids v s) + head_of K (is x (key v s * 13)) ≤ count (x / 13) (blocks v s)
    go inactive e f = unfold head_of in omega (arith, kid_block v x s)
    go improper e f = unfold head_of in omega (arith, kid_block v x s)
    go (file h) e f = unfold head_of in omega (arith, kid_block v x s)
    go directory e f = rw e (unfold head_of slots_below blocks_of in kids_head v x (key v s) (used v s) (pos (used v s) (unfold inner_of directory_faults in omega arith)))

-- A visited directory, and a visited file, that are right.
pub record DirectoryRight (n : ℕ) (v : Bytes) (d : ℕ) : Type 0 where
  pub name : capital_name v (at d) ≡ true
  pub typed : ftype v d ≡ directory_type
  pub some : 1 ≤ used v d
  pub sized : eof v d ≡ used v d * 512
  pub linked : links v 0 (key v d) (used v d) ≡ 0
  pub counted : active_count v (key v d) ≡ active v (kids v d)
  pub unlike : twins v (kids v d) ≡ 0
  pub topped : top_faults v d ≡ 0
  pub inside : outside n (blocks v d) ≡ 0

pub record FileRight (n : ℕ) (v : Bytes) (h s : ℕ) : Type 0 where
  pub name : capital_name v (at s) ≡ true
  pub typed : ftype v s ≡ directory_type → ⊥
  pub tall : h ≡ height_for (eof v s)
  pub counted : used v s ≡ length (blocks v s)
  pub ended : late (span (eof v s)) (nodes v h 0 (key v s)) ≡ 0
  pub inside : outside n (blocks v s) ≡ 0

directory_right : (n : ℕ) (v : Bytes) (d : ℕ) → inner_of directory n v d ≡ 0 → DirectoryRight n v d
unfolding inner_of directory_faults
directory_right n v d e =
    record {
      name = unless_true (capital_name v (at d)) (omega arith);
      typed = is_eq (ftype v d) directory_type (omega arith);
      some = pos (used v d) (omega arith);
      sized = is_eq (eof v d) (used v d * 512) (omega arith);
      linked = omega arith;
      counted = is_eq (active_count v (key v d)) (active v (kids v d)) (omega arith);
      unlike = omega arith;
      topped = omega arith;
      inside = omega arith;
    }

file_right : (n : ℕ) (v : Bytes) (h s : ℕ) → inner_of (file h) n v s ≡ 0 → FileRight n v h s
unfolding inner_of file_faults
file_right n v h s e =
    record {
      name = unless_true (capital_name v (at s)) (omega arith);
      typed = λ f. omega (arith, is_yes (ftype v s) directory_type f);
      tall = is_eq h (height_for (eof v s)) (omega arith);
      counted = is_eq (used v s) (length (blocks v s)) (omega arith);
      ended = omega arith;
      inside = omega arith;
    }

-- An active entry of a directory: its name, and where its directory starts.
pub record EntryRight (v : Bytes) (d s : ℕ) : Type 0 where
  pub name : capital_name v (at s) ≡ true
  pub up : directory_key v s ≡ key v d

entry_right : (n : ℕ) (v : Bytes) (d s : ℕ) → faults n v 1 d s ≡ 0 → is_active (sort v s) ≡ true → EntryRight v d s
entry_right n v d s e f = go (sort v s) e f
  where
    made : entry_faults v d s ≡ 0 → EntryRight v d s
    made g = record { name = unless_true (capital_name v (at s)) (omega arith); up = is_eq (directory_key v s) (key v d) (omega arith) }

    go : (K : Sort) → faults_of K n v 1 d s ≡ 0 → is_active K ≡ true → EntryRight v d s
    go inactive g h = let z : ◌≡◌ {A = ℕ} 0 1 = ap one_if h in absurd (omega arith)
    go directory g h = made (unfold faults_of in omega arith)
    go improper g h = absurd (unfold faults_of in omega arith)
    go (file k) g h = made (unfold faults_of in omega arith)

-- A block on the volume that is not boot or map.
pub record Inside (n b : ℕ) : Type 0 where
  pub fits : b < n
  pub high : 2 ≤ b
  pub off : map_place ≤ b → b < map_place + map_blocks n → ⊥

module _ {n : ℕ} {v : Bytes} (S : Sound n v) where
  seen_inner : (x : ℕ) → Seen v x → inner_of (sort v x) n v x ≡ 0
  seen_inner x h =
      omega (
        arith,
        S.right,
        total_one (kids v) (λ s. inner_of (sort v s) n v s) x deep volume top h,
        weight_le (kids v) (faults n v) (λ _ _ s. inner_of (sort v s) n v s) deep volume top (λ m q s. inner_le (sort v s) n v m q s),
      )

  pub seen_directory : (d : ℕ) → Seen v d → sort v d ≡ directory → DirectoryRight n v d
  seen_directory d h e = directory_right n v d (rw e at (seen_inner d h))

  pub seen_file : (x h : ℕ) → Seen v x → sort v x ≡ file h → FileRight n v h x
  seen_file x h s e = file_right n v h x (rw e at (seen_inner x s))

  pub seen_proper : (x : ℕ) → Seen v x → sort v x ≡ improper → ⊥
  unfolding inner_of
  seen_proper x h e = let f = rw e at (seen_inner x h) in omega arith

  -- a subdirectory's header
  pub seen_header : (d : ℕ) → Seen v d → sort v d ≡ directory → (d ≡ volume → ⊥) → header_faults v d (key v d) ≡ 0
  seen_header d h e z = sym (top_at v d z) ∙ (seen_directory d h e).topped

  -- the volume itself
  pub volume_seen : Seen v volume
  unfolding sum
  volume_seen = omega (arith, reach_down (kids v) (λ _ _ s. is volume s) level_most volume volume top (omega arith))

  pub volume_directory : sort v volume ≡ directory
  unfolding sort
  volume_directory = refl

  -- slots lie in blocks that are owned
  pub kid_placed : (x s : ℕ) → Seen v x → 1 ≤ count s (kids v x) → Placed v s
  kid_placed x s h k = omega (arith, total_one (kids v) (λ y. count s (kids v y)) x deep volume top h)

  placed_le : (x : ℕ) → placed v x ≤ mine v (x / 13)
  placed_le x = weight_le (kids v) (λ _ _ s. count (x / 13) (blocks v s)) (λ _ _ s. count x (kids v s)) deep volume top (λ m q s. kid_block v x s)

  pub placed_mine : (x : ℕ) → Placed v x → 1 ≤ mine v (x / 13)
  placed_mine x h = omega (arith, placed_le x)

  pub own_mine : (x b : ℕ) → Seen v x → 1 ≤ count b (blocks v x) → 1 ≤ mine v b
  own_mine x b h k = omega (arith, total_one (kids v) (λ s. count b (blocks v s)) x deep volume top h)

  pub mine_in : (b : ℕ) → 1 ≤ mine v b → b < n
  mine_in b h = go (ltb b n) refl
    where
      go : (c : Bool) → ltb b n ≡ c → b < n
      go true e = ltb-true b n e
      go false e =
          absurd
          (omega (
            arith,
            S.right,
            weight_le (kids v) (faults n v) (λ _ _ s. count b (blocks v s)) deep volume top
                (λ m q s.
                omega (arith, sum_le (is b) (λ c. one_if (leb n c)) (blocks v s) (λ c _. is_outside n b c (ltb-false b n e)), outside_le n v m q s)),
          ))

  pub mine_once : (b : ℕ) → 1 ≤ mine v b → (mine v b ≡ 1) × (count b (fixed n) ≡ 0) × (free map_place v b ≡ 0)
  mine_once b h = let o = S.once b (mine_in b h) in (omega arith, omega arith, omega arith)

  pub mine_low : (b : ℕ) → 1 ≤ mine v b → 2 ≤ b
  unfolding sum
  mine_low b h = let f = (mine_once b h).1 in go b (omega arith) (omega arith)
    where
      go : (b : ℕ) → is b 0 ≡ 0 → is b 1 ≡ 0 → 2 ≤ b
      go zero p q = absurd (omega arith)
      go (suc zero) p q = absurd (omega arith)
      go (suc (suc b)) p q = omega arith

  pub mine_map : (b : ℕ) → 1 ≤ mine v b → map_place ≤ b → b < map_place + map_blocks n → ⊥
  unfolding sum
  mine_map b h p q = omega (arith, mine_once b h, run_has (map_blocks n) map_place b p q)

  pub mine_off : (b j : ℕ) → 1 ≤ mine v b → j < 512 → map_place * 512 ≤ b * 512 + j → b * 512 + j < map_place * 512 + map_blocks n * 512 → ⊥
  mine_off b j h l p q = mine_map b h (omega arith) (omega arith)

  -- the blocks of visited entries lie on the volume
  pub block_inside : (x b : ℕ) → Seen v x → 1 ≤ count b (blocks v x) → Inside n b
  block_inside x b h c = let m = own_mine x b h c in record { fits = mine_in b m; high = mine_low b m; off = mine_map b m }

  pub chain_inside : (d b : ℕ) → Seen v d → sort v d ≡ directory → 1 ≤ count b (chain v (key v d) (used v d)) → Inside n b
  chain_inside d b h e c = block_inside d b h (rw (directory_blocks v d e) c)

  pub slot_inside : (d s : ℕ) → Seen v d → 1 ≤ count s (kids v d) → Inside n (s / 13)
  slot_inside d s h c = block_inside d (s / 13) h (omega (arith, kid_block v s d))

  pub directory_key_law : (d : ℕ) → Seen v d → sort v d ≡ directory → 1 ≤ count (key v d) (blocks v d)
  directory_key_law d h e = rw (directory_blocks v d e) (chain_first v (key v d) (used v d) (seen_directory d h e).some)

  pub volume_mine : 1 ≤ mine v volume_block
  unfolding field
  volume_mine = own_mine volume volume_block volume_seen (directory_key_law volume volume_seen volume_directory)

  -- the header is no entry
  pub placed_head : (x d : ℕ) → Placed v x → Seen v d → sort v d ≡ directory → x ≡ key v d * 13 → ⊥
  unfolding head_of
  placed_head x d h k e f =
      let one : 1 ≤ head_of (sort v d) (is x (key v d * 13)) = rw e (omega (arith, is_yes x (key v d * 13) f)) in
      omega (
        arith,
        mine_once (x / 13) (placed_mine x h),
        total_one (kids v) (λ s. head_of (sort v s) (is x (key v s * 13))) d deep volume top k,
        total_add (kids v) (λ _ _ s. count x (kids v s)) (λ _ _ s. head_of (sort v s) (is x (key v s * 13))) deep volume top,
        total_le (kids v) (kids v) (λ _ _ s. count (x / 13) (blocks v s)) (λ _ _ s. count x (kids v s) + head_of (sort v s) (is x (key v s * 13)))
            deep volume top (λ m q s r j. (refl, head_le n x v s (seen_inner s r))),
      )

  pub placed_proper : (x : ℕ) → Placed v x → x ≡ volume → ⊥
  unfolding field
  placed_proper x h e = placed_head x volume h volume_seen volume_directory e

  pub kid_proper : (d s : ℕ) → Seen v d → 1 ≤ count s (kids v d) → s ≡ volume → ⊥
  kid_proper d s h c e = placed_proper s (kid_placed d s h c) e

  reach_placed : (x : ℕ) → reach (kids v) x deep volume top ≤ is x volume + placed v x
  unfolding sum
  reach_placed x = omega (arith, reach_le (kids v) (λ _ _ s. count x (kids v s)) x deep volume top (λ m q s. omega arith))

  pub seen_placed : (x : ℕ) → Seen v x → (x ≡ volume → ⊥) → Placed v x
  seen_placed x h z = omega (arith, is_no x volume z, reach_placed x)

  -- each slot is met once
  pub seen_once : (x : ℕ) → Seen v x → reach (kids v) x deep volume top ≡ 1
  seen_once x h = go (eqb x volume) refl
    where
      go : (b : Bool) → eqb x volume ≡ b → reach (kids v) x deep volume top ≡ 1
      go true e = none (ltb 0 (placed v x)) refl
        where
          none : (b : Bool) → ltb 0 (placed v x) ≡ b → reach (kids v) x deep volume top ≡ 1
          none true f = absurd (placed_proper x (ltb-true 0 (placed v x) f) (eqb-true x volume e))
          none false f = omega (arith, ltb-false 0 (placed v x) f, reach_placed x, is_most x volume)
      go false e =
          let z = eqb-false x volume e in
          omega (arith, is_no x volume z, reach_placed x, placed_le x, mine_once (x / 13) (placed_mine x (seen_placed x h z)))

  pub kid_once : (x s : ℕ) → Seen v x → 1 ≤ count s (kids v x) → count s (kids v x) ≡ 1
  kid_once x s h k =
      omega
      (arith, total_one (kids v) (λ y. count s (kids v y)) x deep volume top h, placed_le s, mine_once (s / 13) (placed_mine s (kid_placed x s h k)))

  -- no block has two owners, no slot is in two directories
  pub mine_apart : (x y b : ℕ) → Seen v x → Seen v y → 1 ≤ count b (blocks v x) → 1 ≤ count b (blocks v y) → x ≡ y
  mine_apart x y b h k f g = go (eqb x y) refl
    where
      go : (c : Bool) → eqb x y ≡ c → x ≡ y
      go true e = eqb-true x y e
      go false e =
          absurd (omega (arith, mine_once b (own_mine x b h f), total_two (kids v) (λ s. count b (blocks v s)) x y deep volume top (eqb-false x y e) h k))

  pub one_parent : (x y s : ℕ) → Seen v x → Seen v y → 1 ≤ count s (kids v x) → 1 ≤ count s (kids v y) → x ≡ y
  one_parent x y s h k f g = mine_apart x y (s / 13) h k (omega (arith, kid_block v s x)) (omega (arith, kid_block v s y))

  -- the blocks of an entry with no slots below it hold no slots
  pub placed_apart : (x a : ℕ) → Placed v x → Seen v a → kids v a ≡ [] → count (x / 13) (blocks v a) ≡ 0
  placed_apart x a h k e =
      let c : ℕ = count (x / 13) (blocks v a) in
      let one : 1 * c ≤ reach (kids v) a deep volume top * c = mul-le-mul_right c k in
      omega (
        arith,
        mine_once (x / 13) (placed_mine x h),
        total_scale (kids v) (λ _ _ s. is a s) c deep volume top,
        total_add (kids v) (λ _ _ s. count x (kids v s)) (λ _ _ s. is a s * c) deep volume top,
        weight_le (kids v) (λ _ _ s. count (x / 13) (blocks v s)) (λ _ _ s. count x (kids v s) + is a s * c) deep volume top
            (λ m q s. apart s (eqb a s) refl),
      )
    where
      apart : (s : ℕ) (b : Bool) → eqb a s ≡ b → count x (kids v s) + one_if b * count (x / 13) (blocks v a) ≤ count (x / 13) (blocks v s)
      apart s true f = rw (← eqb-true a s f, e) (unfold sum in omega arith)
      apart s false f = omega (arith, kid_block v x s)

  -- what lies below a visited directory is visited, and in it
  pub below : (w : ℕ → ℕ → ℕ) (d : ℕ) → Seen v d → sort v d ≡ directory
      → sum (w volume) top + sum (w d) (kids v d) ≤ sums v (λ _ q s. w q s)
  below w d h e =
      let x : ℕ = sum (w d) (kids v d) in
      let hx : 1 * x ≤ reach (kids v) d deep volume top * x = mul-le-mul_right x h in
      omega (
        arith,
        hx,
        parents (kids v) w deep volume top,
        total_scale (kids v) (λ _ _ s. is d s) x deep volume top,
        weight_le (kids v) (λ m q s. (1 - is m 0) * sum (w s) (kids v s) + faults n v m q s * x) (λ _ _ s. is d s * x) deep volume top
            (λ m q s. go m q s (eqb d s) refl),
        total_add (kids v) (λ m _ s. (1 - is m 0) * sum (w s) (kids v s)) (λ m q s. faults n v m q s * x) deep volume top,
        rw S.right at (total_scale (kids v) (faults n v) x deep volume top),
      )
    where
      low : (m q : ℕ) (b : Bool) → one_if b ≤ faults n v m q d
          → sum (w d) (kids v d) ≤ (1 - one_if b) * sum (w d) (kids v d) + faults n v m q d * sum (w d) (kids v d)
      low m q true g = omega (arith, mul-le-mul_right (sum (w d) (kids v d)) g)
      low m q false g = omega arith

      go : (m q s : ℕ) (b : Bool) → eqb d s ≡ b
          → one_if b * sum (w d) (kids v d) ≤ (1 - is m 0) * sum (w s) (kids v s) + faults n v m q s * sum (w d) (kids v d)
      go m q s true f = rw (← eqb-true d s f) (omega (arith, low m q (eqb m 0) (level_le n v m q d e)))
      go m q s false f = omega arith

  pub kid_seen : (d s : ℕ) → Seen v d → sort v d ≡ directory → 1 ≤ count s (kids v d) → Seen v s
  kid_seen d s h e c = omega (arith, below (λ _. is s) d h e)

  pub kid_right : (d s : ℕ) → Seen v d → sort v d ≡ directory → 1 ≤ count s (kids v d) → is_active (sort v s) ≡ true → EntryRight v d s
  kid_right d s h e c =
      entry_right n v d s
      (omega (
        arith,
        S.right,
        below (faults n v 1) d h e,
        sum_mem (faults n v 1 d) s (kids v d) c,
        weight_le (kids v) (faults n v) (λ _ q s. faults n v 1 q s) deep volume top (λ m q s. level_one (sort v s) n v m q s),
      ))

  -- a free block
  module _ (z : ℕ) (zn : z < n) (zf : free map_place v z ≡ 1) where
    pub free_mine : (b : ℕ) → 1 ≤ mine v b → b ≡ z → ⊥
    free_mine b m e = omega (arith, S.once z zn, rw e at m)

    pub free_fixed : count z (fixed n) ≡ 0
    free_fixed = omega (arith, S.once z zn)

    pub free_map : map_place ≤ z → z < map_place + map_blocks n → ⊥
    unfolding sum
    free_map p q = omega (arith, free_fixed, run_has (map_blocks n) map_place z p q)

    pub free_volume : z ≡ volume_block → ⊥
    free_volume e = free_mine volume_block volume_mine (sym e)
