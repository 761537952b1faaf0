-- The master law. One entry a of a directory d is replaced by another, each a file, a directory or nothing; the slots below a may change
-- by inactive ones. The volume stays sound, and every other file keeps its place, fields, blocks and bytes.
use Prim.Native.Nat.{ℕ, ◌+◌, ◌-◌, ◌*◌, ◌≤◌, ◌<◌, ◌/◌, ◌%◌}
use mathlib.Core.Path.{◌≡◌, refl, sym, ap, ◌∙◌}
use mathlib.Core.List.{List, [], ◌++◌}
use mathlib.Core.Bool.{Bool, true, false}
use lib.Dec.{ltb, eqb}
use native.Mathlib.Omega.{arith}
use native.Mathlib.Nat.{add_assoc}
use borrow.Author.Tests.{eqb-true, eqb-false, eq-eqb, ne_eqb, ltb-true, ltb-false}
use Rattle.model.specs.Bytes.{Bytes, sum, count, is, ne}
use Rattle.model.specs.Map.{map_blocks, free, rest_clear}
use Rattle.model.specs.Directory.{Sort, inactive, directory, improper, file, sort, live, at, volume, volume_block, map_place, active_count, key, field, slots_below, kids, active}
use Rattle.model.specs.File.{blocks_of, blocks, content}
use Rattle.model.specs.Sound.{prodos, twins, faults_of, faults}
use Rattle.model.proofs.BitLaws.{is_no}
use Rattle.model.proofs.ByteLaws.{word_same}
use Rattle.model.proofs.SumLaws.{is_self, is_eq, sum_append, sum_eq, count_none}
use Rattle.model.proofs.Laws.Total.{Weight, total, reach, total_le, total_change, total_add, total_scale, Edge, root, child}
use Rattle.model.proofs.Laws.Grow.{core_le, core_eq, never, Way, way_step, way_level}
use Rattle.model.proofs.Laws.Frame.{at_inj, at_link, at_block, at_place, at_head, Alike, Named, previous_in, twins_same}
use Rattle.model.proofs.Laws.Sound.{deep, top, sums, mine, Sound}
use Rattle.model.proofs.Laws.Keep.{Fields, Head, Keeps, head_word, head_late, map_same, misnamed_same, badge_same, sort_named, key_same, blocks_same, content_same, kids_same, faults_same}
use Rattle.model.proofs.Laws.Facts.{kid_seen, kid_proper, kid_block, Seen, Placed, seen_placed, kid_placed, kid_once, placed_mine, placed_head, placed_apart, own_mine, seen_once, mine_off, mine_apart, one_parent, directory_key_law, seen_directory, volume_seen, volume_directory}

-- an entry with no slots below it
pub leaf : (v : Bytes) (s : ℕ) → (sort v s ≡ directory → ⊥) → kids v s ≡ []
leaf v s f = go (sort v s) f
  where
    go : (K : Sort) → (K ≡ directory → ⊥) → slots_below K v s ≡ []
    go inactive g = unfold slots_below in refl
    go directory g = absurd (g refl)
    go improper g = unfold slots_below in refl
    go (file h) g = unfold slots_below in refl

pub file_directory : {h : ℕ} → file h ≡ directory → ⊥
file_directory e = let z : ◌≡◌ {A = ℕ} 0 1 = cc in omega arith

pub inactive_directory : inactive ≡ directory → ⊥
inactive_directory e = let z : ◌≡◌ {A = ℕ} 0 1 = cc in omega arith

pub inactive_file : {h : ℕ} → inactive ≡ file h → ⊥
inactive_file e = let z : ◌≡◌ {A = ℕ} 0 1 = cc in omega arith

-- an entry a of a directory d, both on the walk
pub record Place (v : Bytes) (a d : ℕ) : Type 0 where
  pub seen : Seen v a
  pub proper : a ≡ volume → ⊥
  pub home : Seen v d
  pub holds : sort v d ≡ directory
  pub inside : 1 ≤ count a (kids v d)

pub place : {n : ℕ} {v : Bytes} (a d : ℕ) → Sound n v → Seen v d → sort v d ≡ directory → 1 ≤ count a (kids v d) → Place v a d
place a d S h e c = record { seen = kid_seen S d a h e c; proper = kid_proper S d a h c; home = h; holds = e; inside = c }

-- the slot a and the headers are apart
module _ {n : ℕ} {v : Bytes} {a d : ℕ} (S : Sound n v) (P : Place v a d) where
  pub slot_placed : Placed v a
  slot_placed = seen_placed S a P.seen P.proper

  pub slot_mine : 1 ≤ mine v (a / 13)
  slot_mine = placed_mine S a slot_placed

  pub head_mine : 1 ≤ mine v (key v d)
  head_mine = own_mine S d (key v d) P.home (directory_key_law S d P.home P.holds)

  pub slot_head : (x j : ℕ) → Seen v x → sort v x ≡ directory → 4 ≤ j → j < 43 → at a ≤ key v x * 512 + j → key v x * 512 + j < at a + 39 → ⊥
  slot_head x j k e g h p q =
      placed_head S a x slot_placed k e
      (at_inj a (key v x * 13) (key v x * 512 + j - at a) (j - 4) (omega arith) (omega arith) (omega (arith, at_head (key v x) (j - 4))))

  -- a byte of the map is in no slot
  pub slot_map : (i : ℕ) → map_place * 512 ≤ i → i < map_place * 512 + map_blocks n * 512 → at a ≤ i → i < at a + 39 → ⊥
  slot_map i g h p q =
      let o : ℕ = i - at a in
      let e : i ≡ a / 13 * 512 + (4 + 39 * (a % 13) + o) = omega (arith, at_place a o) in
      mine_off S (a / 13) (4 + 39 * (a % 13) + o) slot_mine (omega arith) (rw e at g) (rw e at h)

-- The bytes of owned blocks that may change: the slot a, the count of d; of a's own blocks all if a is no directory, else links and header.
pub data Touch (v : Bytes) (a d b j : ℕ) : Type 0 where
  in_slot : at a ≤ b * 512 + j → b * 512 + j < at a + 39 → Touch v a d b j
  in_count : b ≡ key v d → 37 ≤ j → j < 39 → Touch v a d b j
  in_file : 1 ≤ count b (blocks v a) → (sort v a ≡ directory → ⊥) → Touch v a d b j
  in_link : 1 ≤ count b (blocks v a) → j < 4 → Touch v a d b j
  in_head : sort v a ≡ directory → b ≡ key v a → j < 43 → Touch v a d b j

abbrev pub Apart : Bytes → Bytes → ℕ → ℕ → Type 0
Apart v v' a d = (b j : ℕ) → 1 ≤ mine v b → j < 512 → (Touch v a d b j → ⊥) → v' (b * 512 + j) ≡ v (b * 512 + j)

-- a file x that keeps its place, its entry, its blocks, their bytes, and so its own
pub record Kept (v v' : Bytes) (x : ℕ) : Type 0 where
  pub seen : Seen v' x
  pub entry : (o : ℕ) → o < 39 → v' (at x + o) ≡ v (at x + o)
  pub sorted : sort v' x ≡ sort v x
  pub owns : blocks v' x ≡ blocks v x
  pub bytes : (b : ℕ) → 1 ≤ count b (blocks v x) → Alike 512 v v' b
  pub reads : content v' x ≡ content v x

abbrev pub Others : Bytes → Bytes → ℕ → Type 0
Others v v' a = (x h : ℕ) → Seen v x → (x ≡ a → ⊥) → sort v x ≡ file h → Kept v v' x

-- how often a is met with no level left below it
abbrev pub bottom : Bytes → ℕ → ℕ
bottom v a = sums v (λ m _ s. is a s * is m 0)

-- The path limit gives the level: d is named by the volume's and k more names of a path, a by one more, each of two bytes or more with its slash.
pub way_bottom : {n : ℕ} {v : Bytes} {a d : ℕ} (k : ℕ) → Sound n v → Place v a d → Way (kids v) d top k → 2 * (k + 2) ≤ 64 → bottom v a ≡ 0
way_bottom {v = v} {a} {d} k S P w h =
    way_level (kids v) a (30 - k) deep volume (seen_once S a P.seen) (way_step (kids v) a d w P.inside) (omega arith)

prodos_same : (n : ℕ) (v v' : Bytes) → Alike 4 v v' volume_block → Head v v' volume_block → prodos n v' ≡ prodos n v
unfolding prodos
prodos_same n v v' f g =
    let one : (j : ℕ) → 4 ≤ j → j < 43 → (37 ≤ j → j < 39 → ⊥) → v' (volume_block * 512 + j) ≡ v (volume_block * 512 + j) = g in
    rw (
      previous_in v v' volume_block f,
      one 0x04 (omega arith) (omega arith) (λ p q. omega arith),
      one 0x23 (omega arith) (omega arith) (λ p q. omega arith),
      one 0x24 (omega arith) (omega arith) (λ p q. omega arith),
      head_word v v' volume_block 0x29 (head_late v v' volume_block g) (omega arith) (omega arith) (λ p q. omega arith),
    )
    refl

-- a change of a in d
pub record Step (n : ℕ) (v v' : Bytes) (a d : ℕ) : Type 0 where
  pub sound : Sound n v
  pub spot : Place v a d
  pub out : Apart v v' a d

module _ {n : ℕ} {v v' : Bytes} {a d : ℕ} (T : Step n v v' a d) where
  open T use {sound as S, spot as P, out}

  -- the slots of visited directories
  pub one_slot : (x : ℕ) → Placed v x → (x ≡ a → ⊥) → (o : ℕ) → o < 39 → v' (at x + o) ≡ v (at x + o)
  one_slot x h k o l =
      rw (at_place x o)
      (out (x / 13) (4 + 39 * (x % 13) + o) (placed_mine S x h) (omega arith) no)
    where
      no : Touch v a d (x / 13) (4 + 39 * (x % 13) + o) → ⊥
      no (in_slot p q) = k (at_inj x a o (at x + o - at a) l (omega (arith, at_place x o)) (omega (arith, at_place x o)))
      no (in_count e p q) = placed_head S x d h P.home P.holds (omega arith)
      no (in_file c i) = omega (arith, placed_apart S x a h P.seen (leaf v a i))
      no (in_link c i) = omega arith
      no (in_head f e i) = placed_head S x a h P.seen f (omega arith)

  -- the blocks of other entries
  pub one_block : (x : ℕ) → Seen v x → (x ≡ a → ⊥) → (b : ℕ) → 1 ≤ count b (blocks v x) → 1 ≤ count b (blocks v a) → ⊥
  one_block x h k b f g = k (mine_apart S x a b h P.seen f g)

  own_byte : (x : ℕ) → Seen v x → (x ≡ a → ⊥) → (b j : ℕ) → 1 ≤ count b (blocks v x) → j < 512
      → (at a ≤ b * 512 + j → b * 512 + j < at a + 39 → ⊥) → (b ≡ key v d → 37 ≤ j → j < 39 → ⊥) → v' (b * 512 + j) ≡ v (b * 512 + j)
  own_byte x h k b j c l s t = out b j (own_mine S x b h c) l no
    where
      no : Touch v a d b j → ⊥
      no (in_slot p q) = s p q
      no (in_count e p q) = t e p q
      no (in_file i f) = one_block x h k b c i
      no (in_link i f) = one_block x h k b c i
      no (in_head f e i) = one_block x h k b c (rw e (directory_key_law S a P.seen f))

  -- the headers of other directories, and their counts
  pub one_head : (x : ℕ) → Seen v x → (x ≡ a → ⊥) → sort v x ≡ directory → Head v v' (key v x)
  one_head x h k e j g l t =
      own_byte x h k (key v x) j (directory_key_law S x h e) (omega arith) (slot_head S P x j h e g l) (λ _ p q. t p q)

  pub one_count : (x : ℕ) → Seen v x → (x ≡ a → ⊥) → sort v x ≡ directory → (x ≡ d → ⊥) → active_count v' (key v x) ≡ active_count v (key v x)
  one_count x h k e z =
      let one : (j : ℕ) → 37 ≤ j → j < 39 → v' (key v x * 512 + j) ≡ v (key v x * 512 + j) =
      λ j p q. own_byte x h k (key v x) j (directory_key_law S x h e) (omega arith) (slot_head S P x j h e (omega arith) (omega arith))
      (λ f _ _. z (mine_apart S x d (key v x) h P.home (directory_key_law S x h e) (rw f (directory_key_law S d P.home P.holds)))) in
      word_same v' v (key v x * 512 + 0x25) (key v x * 512 + 0x25) (one 37 (omega arith) (omega arith))
      (rw (add_assoc (key v x * 512) 37 1) (one 38 (omega arith) (omega arith)))

  pub one_volume : Head v v' volume_block
  unfolding field
  one_volume = one_head volume (volume_seen S) (λ e. P.proper (sym e)) (volume_directory S)

  one_fields : (x : ℕ) → Seen v x → (x ≡ a → ⊥) → Fields v v' x
  one_fields x h k z o g l _ = one_slot x (seen_placed S x h z) k o l

  one_name : (x : ℕ) → Seen v x → (x ≡ a → ⊥) → Named v v' (at x)
  one_name x h k o l = go (eqb x volume) refl
    where
      go : (b : Bool) → eqb x volume ≡ b → v' (at x + o) ≡ v (at x + o)
      go true e =
          let f : at x + o ≡ volume_block * 512 + (4 + o) = rw (eqb-true x volume e) (omega (arith, at_head volume_block o)) in
          rw f (one_volume (4 + o) (omega arith) (omega arith) (λ p q. omega arith))
      go false e = one_slot x (seen_placed S x h (eqb-false x volume e)) k o (omega arith)

  not_home : (x h b : ℕ) → Seen v x → sort v x ≡ file h → 1 ≤ count b (blocks v x) → 1 ≤ count b (blocks v d) → ⊥
  not_home x h b s e f g = file_directory (sym e ∙ rw (mine_apart S x d b s P.home f g) P.holds)

  file_byte_law : (x h : ℕ) → Seen v x → (x ≡ a → ⊥) → sort v x ≡ file h → (b : ℕ) → 1 ≤ count b (blocks v x) → Alike 512 v v' b
  file_byte_law x h s k e b c j l =
      own_byte x s k b j c l
      (λ p q. not_home x h b s e c
      (rw (← at_block a b (b * 512 + j - at a) j (omega arith) l (omega arith)) (omega (arith, kid_block v a d, P.inside))))
      (λ f p q. not_home x h b s e c (rw f (directory_key_law S d P.home P.holds)))

  pub one_keeps : (x : ℕ) → Seen v x → (x ≡ a → ⊥) → Keeps v v' x
  one_keeps x h k =
      record {
        sorted = sort_named v v' x (one_name x h k);
        slot = one_fields x h k;
        chains = λ e b c j l. own_byte x h k b j c (omega arith)
            (λ p q. at_link a b (b * 512 + j - at a) j (omega arith) l (omega arith)) (λ _ p q. omega arith);
        head = λ e. head_late v v' (key v x) (one_head x h k e);
        trees = λ g e. file_byte_law x g h k e;
      }

  -- no directory holds itself
  pub one_apart : d ≡ a → ⊥
  one_apart e =
      omega (
        arith,
        P.seen,
        never (kids v) a deep volume top (λ x r k. go x r k (ltb 0 (count a (kids v x))) refl)
            (unfold sum in omega (arith, is_no a volume P.proper)),
      )
    where
      go : (x : ℕ) → Seen v x → (x ≡ a → ⊥) → (b : Bool) → ltb 0 (count a (kids v x)) ≡ b → count a (kids v x) ≡ 0
      go x r k true f = absurd (k (one_parent S x d a r P.home (ltb-true 0 (count a (kids v x)) f) P.inside ∙ e))
      go x r k false f = omega (arith, ltb-false 0 (count a (kids v x)) f)

  pub one_key : (q : ℕ) → Seen v q → (q ≡ a → ⊥) → key v' q ≡ key v q
  one_key q h k = key_same v v' q (one_fields q h k)

  pub one_directory : key v' d ≡ key v d
  one_directory = one_key d P.home one_apart

  -- the entries of a directory but a
  pub one_entry : (x s : ℕ) → Seen v x → 1 ≤ count s (kids v x) → (s ≡ a → ⊥) → (sort v' s ≡ sort v s) × Named v v' (at s)
  one_entry x s h c k =
      let f : Named v v' (at s) = λ i l. one_slot s (kid_placed S x s h c) k i (omega arith) in
      (sort_named v v' s f, f)

  -- those of a directory that is not d
  pub one_inside : (x : ℕ) → Seen v x → (x ≡ d → ⊥) → (s : ℕ) → 1 ≤ count s (kids v x) → (sort v' s ≡ sort v s) × Named v v' (at s)
  one_inside x h k s c = one_entry x s h c (λ e. k (one_parent S x d a h P.home (rw (← e) c) P.inside))

  pub one_active : (x : ℕ) → Seen v x → (x ≡ d → ⊥) → active v' (kids v x) ≡ active v (kids v x)
  one_active x h k = sum_eq (λ s. live (sort v' s)) (λ s. live (sort v s)) (kids v x) (λ s c. ap live (one_inside x h k s c).0)

  pub one_twins : (x : ℕ) → Seen v x → (x ≡ d → ⊥) → twins v' (kids v x) ≡ twins v (kids v x)
  one_twins x h k = twins_same v v' (kids v x) (one_inside x h k)

  -- the count of active entries moves with a
  one_live : active v' (kids v d) + live (sort v a) ≡ active v (kids v d) + live (sort v' a)
  one_live =
      unfold total in
      total_change (λ _. []) (λ _. []) (λ s. live (sort v s)) (λ s. live (sort v' s)) a 0 0 (kids v d) (kid_once S d a P.home P.inside)
      (λ x h. refl) (λ x h k. ap live (one_entry d x P.home h k).0)

-- What is to be shown of a change: below a the slots c stay, the inactive slots e go and the inactive slots e' come.
-- t is 1 where a becomes a directory, which needs a level left.
pub record Change (n : ℕ) (v v' : Bytes) (a d t : ℕ) (c e e' : List ℕ) : Type 0 where
  pub step : Step n v v' a d
  pub old : kids v a ≡ c ++ e
  pub new : kids v' a ≡ c ++ e'
  pub off : (s : ℕ) → 1 ≤ count s e → sort v s ≡ inactive
  pub off' : (s : ℕ) → 1 ≤ count s e' → sort v' s ≡ inactive
  pub held : (x : ℕ) → 1 ≤ count x c → key v' a ≡ key v a
  pub level : bottom v a * t ≡ 0
  pub entry : (m : ℕ) → faults n v' m d a ≤ faults n v m d a + is m 0 * t
  pub counted : active_count v' (key v d) + live (sort v a) ≡ active_count v (key v d) + live (sort v' a)
  pub unlike : twins v' (kids v d) ≡ 0
  pub balance : (b : ℕ) → b < n → count b (blocks v' a) + free map_place v' b ≡ count b (blocks v a) + free map_place v b
  pub rest : rest_clear map_place v' n ≡ true

off_kids : (v : Bytes) (s : ℕ) → sort v s ≡ inactive → kids v s ≡ []
off_kids v s e = leaf v s (λ f. inactive_directory (sym e ∙ f))

pub off_blocks : (v : Bytes) (s b : ℕ) → sort v s ≡ inactive → count b (blocks v s) ≡ 0
off_blocks v s b e = rw e (unfold blocks_of sum in refl)

off_faults : (n : ℕ) (v : Bytes) (m q s : ℕ) → sort v s ≡ inactive → faults n v m q s ≡ 0
off_faults n v m q s e = rw e (unfold faults_of in refl)

module _ {n : ℕ} {v v' : Bytes} {a d t : ℕ} {c e e' : List ℕ} (C : Change n v v' a d t c e e') where
  open C use {step as T}
  open T use {sound as S, spot as P}

  core : ℕ → List ℕ
  core x = elim (eqb x a) [ true ↦ c | false ↦ kids v x ]

  core_a : core a ≡ c
  unfolding core
  core_a = rw (eq-eqb a a refl, core) refl

  core_x : (x : ℕ) → (x ≡ a → ⊥) → kids v x ≡ core x
  unfolding core
  core_x x k = rw (ne_eqb x a k, core) refl

  core_old : kids v a ≡ core a ++ e
  core_old = rw core_a C.old

  core_new : kids v' a ≡ core a ++ e'
  core_new = rw core_a C.new

  core_seen : (w : Weight) → total core w deep volume top ≤ sums v w
  core_seen w = core_le (kids v) core a e w deep volume top core_x core_old

  met : (x : ℕ) → 1 ≤ reach core x deep volume top → Seen v x
  met x h = omega (arith, core_seen (λ _ _ y. is x y))

  core_kids : (x : ℕ) → 1 ≤ reach core x deep volume top → (x ≡ a → ⊥) → kids v' x ≡ core x
  core_kids x h k = kids_same v v' x (one_keeps T x (met x h) k) ∙ core_x x k

  -- what inactive slots weigh nothing for
  old_total : (w : Weight) → ((m s : ℕ) → sort v s ≡ inactive → 1 ≤ count s e → w m a s ≡ 0) → sums v w ≡ total core w deep volume top
  old_total w f =
      core_eq (kids v) core a e w deep volume top (λ x _ k. core_x x k) core_old (λ m s h. (off_kids v s (C.off s h), f m s (C.off s h) h))

  new_total : (w : Weight) → ((m s : ℕ) → sort v' s ≡ inactive → 1 ≤ count s e' → w m a s ≡ 0) → sums v' w ≡ total core w deep volume top
  new_total w f =
      core_eq (kids v') core a e' w deep volume top core_kids core_new (λ m s h. (off_kids v' s (C.off' s h), f m s (C.off' s h) h))

  core_once : reach core a deep volume top ≡ 1
  core_once =
      sym
      (old_total (λ _ _ s. is a s) (λ m s o h. is_no a s (λ q.
      count_none s (omega (arith, sum_append (is s) c e, ap (count s) (sym C.old ∙ off_kids v a (rw q o)))))))
      ∙ seen_once S a P.seen

  core_part : (q x : ℕ) → count x (core q) ≤ count x (kids v q)
  core_part q x = go (eqb q a) refl
    where
      go : (b : Bool) → eqb q a ≡ b → count x (core q) ≤ count x (kids v q)
      go true f = rw (eqb-true q a f, core_old) (omega (arith, sum_append (is x) (core a) e))
      go false f = rw (core_x q (eqb-false q a f)) (omega arith)

  core_count : active v' (kids v d) ≡ active_count v' (key v d)
  core_count = omega (arith, one_live T, C.counted, (seen_directory S d P.home P.holds).counted)

  core_key : (q x : ℕ) → Edge core deep volume top q x → key v' q ≡ key v q
  core_key q x (root f g) = rw f (unfold field in refl)
  core_key q x (child r g) = go (eqb q a) refl
    where
      go : (b : Bool) → eqb q a ≡ b → key v' q ≡ key v q
      go true f = rw (eqb-true q a f) (C.held x (rw (eqb-true q a f, core_a) at g))
      go false f = one_key T q (met q r) (eqb-false q a f)

  core_faults : (m q x : ℕ) → 1 ≤ reach core x deep volume top → Edge core deep volume top q x
      → faults n v' m q x ≤ faults n v m q x + is a x * is m 0 * t
  core_faults m q x h j = go (eqb x a) refl
    where
      s : Seen v x
      s = met x h

      parent : x ≡ a → Edge core deep volume top q x → q ≡ d
      parent f (root g k) = unfold sum in absurd (P.proper (sym f ∙ is_eq x volume (omega arith)))
      parent f (child r k) = one_parent S q d a (met q r) P.home (rw (← f) (omega (arith, core_part q x))) P.inside

      right : (b : Bool) → eqb x d ≡ b → (x ≡ a → ⊥) → sort v x ≡ directory
          → ne (active_count v' (key v x)) (active v' (kids v x)) + twins v' (kids v x)
          ≤ ne (active_count v (key v x)) (active v (kids v x)) + twins v (kids v x)
      right true f k g = rw (eqb-true x d f, core_count, is_self (active_count v' (key v d)), C.unlike) (omega arith)
      right false f k g =
          let z = eqb-false x d f in
          rw (one_active T x s z, one_twins T x s z, one_count T x s k g z) (omega arith)

      go : (b : Bool) → eqb x a ≡ b → faults n v' m q x ≤ faults n v m q x + is a x * is m 0 * t
      go true f = rw (eqb-true x a f, parent (eqb-true x a f) j, is_self a) (omega (arith, C.entry m))
      go false f =
          let k = eqb-false x a f in
          omega (
            arith,
            faults_same v v' x (one_keeps T x s k) n m q (core_key q x j) (omega (arith, misnamed_same v v' x (one_name T x s k)))
                (λ g _. omega (arith, badge_same v v' x (key v x) (one_name T x s k) (one_head T x s k g)))
                (right (eqb x d) refl k),
          )

  core_right : sums v' (faults n v') ≡ 0
  core_right =
      omega (
        arith,
        S.right,
        C.level,
        new_total (faults n v') (λ m s o h. off_faults n v' m a s o),
        total_le core core (λ m q x. faults n v m q x + is a x * is m 0 * t) (faults n v') deep volume top
            (λ m q x r j. (refl, core_faults m q x r j)),
        total_add core (faults n v) (λ m _ x. is a x * is m 0 * t) deep volume top,
        core_seen (faults n v),
        core_seen (λ m _ x. is a x * is m 0 * t),
        total_scale (kids v) (λ m _ x. is a x * is m 0) t deep volume top,
      )

  core_owners : (b : ℕ) → mine v' b + count b (blocks v a) ≡ mine v b + count b (blocks v' a)
  core_owners b =
      omega (
        arith,
        old_total (λ _ _ s. count b (blocks v s)) (λ m s o h. off_blocks v s b o),
        new_total (λ _ _ s. count b (blocks v' s)) (λ m s o h. off_blocks v' s b o),
        total_change core core (λ s. count b (blocks v s)) (λ s. count b (blocks v' s)) a deep volume top core_once (λ x h. refl)
            (λ x h k. ap (count b) (blocks_same v v' x (one_keeps T x (met x h) k))),
      )

  pub one_sound : Sound n v'
  unfolding field
  one_sound =
      record {
        large = S.large;
        small = S.small;
        sign = prodos_same n v v' (λ j l. (one_keeps T volume (volume_seen S) (λ f. P.proper (sym f))).chains (volume_directory S) volume_block
            (directory_key_law S volume (volume_seen S) (volume_directory S)) j l) (one_volume T)
            ∙ S.sign;
        place = map_same v v' (head_late v v' volume_block (one_volume T)) ∙ S.place;
        right = core_right;
        once = λ b h. omega (arith, core_owners b, S.once b h, C.balance b h);
        rest = C.rest;
      }

  pub one_seen : (x : ℕ) → Seen v x → (sort v x ≡ inactive → ⊥) → (sort v' x ≡ inactive → ⊥) → Seen v' x
  one_seen x h f g =
      omega (
        arith,
        h,
        old_total (λ _ _ s. is x s) (λ m s o _. is_no x s (λ q. f (rw q o))),
        new_total (λ _ _ s. is x s) (λ m s o _. is_no x s (λ q. g (rw q o))),
      )

  pub one_others : Others v v' a
  one_others x h s k f =
      let r = one_keeps T x s k in
      let same = r.sorted in
      record {
        seen = one_seen x s (λ q. inactive_file (sym q ∙ f)) (λ q. inactive_file (sym q ∙ same ∙ f));
        entry = one_slot T x (seen_placed S x s (λ q. not_volume_law q)) k;
        sorted = same;
        owns = blocks_same v v' x r;
        bytes = r.trees h f;
        reads = content_same v v' x r h f;
      }
    where
      not_volume_law : x ≡ volume → ⊥
      not_volume_law q = file_directory (sym f ∙ rw q (volume_directory S))
