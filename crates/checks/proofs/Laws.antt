-- Slots one at a time and block by block: which are ahead, how many are active, which names are alike. No fault in a sum is none in each part. Assumes nothing.
use mathlib.Core.Path.{◌≡◌, refl, sym, ap, ◌∙◌}
use mathlib.Core.List.{List, [], ◌∷◌, ◌++◌}
use mathlib.Core.Bool.{Bool, true, false, not, false≢true}
use Prim.Native.Nat.{ℕ, zero, suc, ◌+◌, ◌-◌, ◌*◌, ◌/◌, ◌≤◌, ◌<◌}
use native.Mathlib.Numerals.{add-one}
use native.Mathlib.Omega.{arith}
use lib.Dec.{eqb, leb}
use lib.ListN.{drop}
use borrow.Author.Tests.{eqb-true, ne_eqb}
use Rattle.model.specs.Bytes.{Bytes, run, sum, one_if, ne, unless, ◌and◌}
use Rattle.model.specs.Names.{alike}
use Rattle.model.specs.Directory.{Sort, inactive, directory, improper, file, sort_of, sort, is_active, live, at, block_of, slot_of, previous, next, header_kind, header_slot_size, header_slots, total_blocks, map_block, parent_block, parent_slot, parent_slot_size, field, active, chain, slots}
use Rattle.model.specs.Sound.{prodos, differ, volume_faults, header_faults, twins_of, twins}
use Rattle.checks.specs.Inside.{Inside, ahead}

-- A place of the volume has its slot in the image.
pub slot_in : (n s : ℕ) → s < n * 13 → at s + 39 ≤ n * 512
unfolding at
slot_in n s l = omega arith

-- Tests put together.
pub and_false : (t : Bool) → t and false ≡ false
unfolding ◌and◌
and_false true = refl
and_false false = refl

-- Tests one after the other: v is two of them, the second made only if the first holds.
pub second_if : (v a b : Bool) → a ≡ true → v ≡ b → v ≡ (a and b)
unfolding ◌and◌
second_if v a b h e = rw h e

pub second_not : (v a b : Bool) → a ≡ false → v ≡ a → v ≡ (a and b)
unfolding ◌and◌
second_not v a b h e = rw (e, h)

-- v is two or three of them; then comes one more
pub third_if : (v a b c : Bool) → v ≡ (a and b) → v ≡ true → c ≡ (a and b and c)
unfolding ◌and◌
third_if v true true c e h = refl
third_if v true false c e h = absurd (false≢true (sym e ∙ h))
third_if v false b c e h = absurd (false≢true (sym e ∙ h))

pub third_not : (v a b c : Bool) → v ≡ (a and b) → v ≡ false → v ≡ (a and b and c)
unfolding ◌and◌
third_not v true true c e h = absurd (false≢true (sym h ∙ e))
third_not v true false c e h = h
third_not v false b c e h = h

pub fourth_if : (v a b c d : Bool) → v ≡ (a and b and c) → v ≡ true → d ≡ (a and b and c and d)
unfolding ◌and◌
fourth_if v true b c d e h = third_if v b c d e h
fourth_if v false b c d e h = absurd (false≢true (sym e ∙ h))

pub fourth_not : (v a b c d : Bool) → v ≡ (a and b and c) → v ≡ false → v ≡ (a and b and c and d)
unfolding ◌and◌
fourth_not v true b c d e h = third_not v b c d e h
fourth_not v false b c d e h = h

pub none_in : (a b : ℕ) → eqb (a + b) 0 ≡ (eqb a 0 and eqb b 0)
unfolding ◌and◌
none_in zero b = let e : 0 + b ≡ b = omega arith in rw e
none_in (suc a) b = rw (ne_eqb (suc a + b) 0 (λ e. omega arith), ne_eqb (suc a) 0 (λ e. omega arith))

-- Sums over slots.
pub sum_append : (g : ℕ → ℕ) (xs ys : List ℕ) → sum g (xs ++ ys) ≡ sum g xs + sum g ys
unfolding sum
sum_append g [] ys = omega arith
sum_append g (x ∷ xs) ys = let h = sum_append g xs ys in omega arith

-- from place s up to e
pub run_step : (s e : ℕ) → s < e → run s (e - s) ≡ s ∷ run (s + 1) (e - (s + 1))
unfolding run
run_step s e l = let k : e - s ≡ suc (e - suc s) = omega arith in rw (add-one s, k)

pub run_end : (s e : ℕ) → e ≤ s → run s (e - s) ≡ []
unfolding run
run_end s e l = let k : e - s ≡ 0 = omega arith in rw k

module _ (v : Bytes) where
  -- the slots ahead of a place, and those of a chain
  pub ahead_step : (s b after : ℕ) → s < b * 13 + 13 → ahead v s b after ≡ s ∷ ahead v (s + 1) b after
  ahead_step s b after l = ap (λ l. l ++ slots (chain v (next v b) after)) (run_step s (b * 13 + 13) l)

  pub ahead_end : (s b after : ℕ) → b * 13 + 13 ≤ s → ahead v s b after ≡ slots (chain v (next v b) after)
  ahead_end s b after l = ap (λ l. l ++ slots (chain v (next v b) after)) (run_end s (b * 13 + 13) l)

  chain_step : (b left : ℕ) → 0 < left → chain v b left ≡ b ∷ chain v (next v b) (left - 1)
  unfolding chain
  chain_step b left l = let e : left ≡ suc (left - 1) = omega arith in ap (chain v b) e

  pub slots_chain : (b left : ℕ) → 0 < left → slots (chain v b left) ≡ ahead v (b * 13) b (left - 1)
  unfolding slots
  slots_chain b left l = let k : b * 13 + 13 - b * 13 ≡ 13 = omega arith in rw k (ap slots (chain_step b left l))

  pub entries_chain : (b left : ℕ) → 0 < left → drop 1 (slots (chain v b left)) ≡ ahead v (b * 13 + 1) b (left - 1)
  unfolding slots run
  entries_chain b left l =
      let k : b * 13 + 13 - (b * 13 + 1) ≡ 12 = omega arith in
      rw (k, add-one (b * 13)) (ap (λ l. drop 1 (slots l)) (chain_step b left l))

  pub no_slots : (b left : ℕ) → left ≡ 0 → slots (chain v b left) ≡ []
  unfolding slots chain
  no_slots b left e = rw e

  pub inside_chain : (n b left : ℕ) → 0 < left → Inside n (chain v b left) → (b < n) × Inside n (chain v (next v b) (left - 1))
  unfolding Inside
  inside_chain n b left l h = rw (chain_step b left l) at h

-- the first block of a chain that has one
pub first_inside : (v : Bytes) (n b left : ℕ) → Inside n (chain v b left) → 0 < left → b < n
first_inside v n b left h l = (inside_chain v n b left l h).0

-- A slot is active where its kind is not 0.
sorted : (k : ℕ) (t u w : Bool) → eqb k 0 ≡ t → leb k 3 ≡ u → eqb k 13 ≡ w → is_active (sort_of k) ≡ not t
unfolding sort_of
sorted k true u w d e f = rw (d, sort_of)
sorted k false true w d e f = rw (d, e, sort_of)
sorted k false false true d e f = rw (d, e, f, sort_of)
sorted k false false false d e f = rw (d, e, f, sort_of)

-- The volume's own slot is active by its definition, and its kind is 15.
active_at : (v : Bytes) (s : ℕ) (t : Bool) → eqb s 26 ≡ t → header_kind v 2 ≡ 15 → is_active (sort v s) ≡ not (eqb (v (at s) / 16) 0)
unfolding sort at
active_at v s true e h =
    let a : at s ≡ 1028 = ap at (eqb-true s 26 e) in
    rw (e, sort, a, h)
active_at v s false e h = rw (e, sort) (sorted (v (at s) / 16) (eqb (v (at s) / 16) 0) _ _ refl refl refl)

pub active_is : (v : Bytes) (s : ℕ) → header_kind v 2 ≡ 15 → is_active (sort v s) ≡ not (eqb (v (at s) / 16) 0)
active_is v s h = active_at v s (eqb s 26) refl h

live_is : (k : Sort) → live k ≡ one_if (is_active k)
live_is inactive = refl
live_is directory = refl
live_is improper = refl
live_is (file h) = refl

module _ (v : Bytes) (s : ℕ) (ss : List ℕ) where
  active_on : is_active (sort v s) ≡ true → active v (s ∷ ss) ≡ 1 + active v ss
  unfolding sum
  active_on h = rw (live_is (sort v s), h)

  active_off : is_active (sort v s) ≡ false → active v (s ∷ ss) ≡ active v ss
  unfolding sum
  active_off h = rw (live_is (sort v s), h) (omega arith)

  -- names alike: the slot s and those behind it
  unlike_off : is_active (sort v s) ≡ false → eqb (twins v (s ∷ ss)) 0 ≡ eqb (twins v ss) 0
  unfolding twins
  unlike_off h = rw (twins, h)

  unlike_on : is_active (sort v s) ≡ true → eqb (twins v (s ∷ ss)) 0 ≡ (eqb (twins_of v s ss) 0 and eqb (twins v ss) 0)
  unfolding twins
  unlike_on h = rw (twins, h) (none_in (twins_of v s ss) (twins v ss))

-- the slots from s up to e
module _ (v : Bytes) (s e : ℕ) where
  pub active_more : s < e → is_active (sort v s) ≡ true → active v (run s (e - s)) ≡ 1 + active v (run (s + 1) (e - (s + 1)))
  active_more l h = ap (active v) (run_step s e l) ∙ active_on v s _ h

  pub active_same : s < e → is_active (sort v s) ≡ false → active v (run s (e - s)) ≡ active v (run (s + 1) (e - (s + 1)))
  active_same l h = ap (active v) (run_step s e l) ∙ active_off v s _ h

  pub active_end : e ≤ s → active v (run s (e - s)) ≡ 0
  unfolding sum
  active_end l = ap (active v) (run_end s e l)

pub active_ahead : (v : Bytes) (s b after : ℕ)
    → active v (ahead v s b after) ≡ active v (run s (b * 13 + 13 - s)) + active v (slots (chain v (next v b) after))
active_ahead v s b after = sum_append _ _ _

pub active_none : (v : Bytes) (b left : ℕ) → left ≡ 0 → active v (slots (chain v b left)) ≡ 0
unfolding sum
active_none v b left e = ap (active v) (no_slots v b left e)

-- the slot s and those of which t is the first
module _ (v : Bytes) (s t : ℕ) (ts : List ℕ) where
  alone_sum : twins_of v s (t ∷ ts) ≡ one_if (is_active (sort v t) and alike v (at s) (at t)) + twins_of v s ts
  unfolding twins_of sum
  alone_sum = refl

  alone_other : (is_active (sort v t) and alike v (at s) (at t)) ≡ false → eqb (twins_of v s (t ∷ ts)) 0 ≡ eqb (twins_of v s ts) 0
  unfolding ◌and◌
  alone_other h = rw (alone_sum, h) (none_in 0 (twins_of v s ts))

  alone_twin : (is_active (sort v t) and alike v (at s) (at t)) ≡ true → eqb (twins_of v s (t ∷ ts)) 0 ≡ false
  unfolding ◌and◌
  alone_twin h = rw (alone_sum, h) (none_in 1 (twins_of v s ts))

-- the slot s and those from t up to e
module _ (v : Bytes) (s t e : ℕ) where
  pub alone_off : t < e → is_active (sort v t) ≡ false → eqb (twins_of v s (run t (e - t))) 0 ≡ eqb (twins_of v s (run (t + 1) (e - (t + 1)))) 0
  unfolding ◌and◌
  alone_off l h = rw (run_step t e l) (alone_other v s t _ (rw h))

  pub alone_next : t < e → alike v (at s) (at t) ≡ false → eqb (twins_of v s (run t (e - t))) 0 ≡ eqb (twins_of v s (run (t + 1) (e - (t + 1)))) 0
  alone_next l h = rw (run_step t e l) (alone_other v s t _ (rw h (and_false (is_active (sort v t)))))

  pub alone_not : t < e → is_active (sort v t) ≡ true → alike v (at s) (at t) ≡ true → eqb (twins_of v s (run t (e - t))) 0 ≡ false
  unfolding ◌and◌
  alone_not l h k = rw (run_step t e l) (alone_twin v s t _ (rw (h, k)))

  pub alone_end : e ≤ t → eqb (twins_of v s (run t (e - t))) 0 ≡ true
  unfolding twins_of sum
  alone_end l = rw (run_end t e l)

pub alone_append : (v : Bytes) (s : ℕ) (xs ys : List ℕ)
    → eqb (twins_of v s (xs ++ ys)) 0 ≡ (eqb (twins_of v s xs) 0 and eqb (twins_of v s ys) 0)
unfolding twins_of
alone_append v s xs ys = rw (sum_append _ xs ys) (none_in (twins_of v s xs) (twins_of v s ys))

-- The first block, where there is one, and those that follow lie on the volume.
pub record Coming (v : Bytes) (n b left : ℕ) : Type 0 where
  pub here : 0 < left → b < n
  pub inside : Inside n (chain v b left)

module _ (v : Bytes) (n b left : ℕ) where
  pub coming : (k : ℕ) → k ≡ left → Inside n (chain v b left) → Coming v n b k
  coming k e h = rw e record { here = λ l. (inside_chain v n b left l h).0; inside = h }

  -- once the first is done
  pub coming_next : (c k : ℕ) → c ≡ next v b → k ≡ left - 1 → 0 < left → Inside n (chain v b left) → Coming v n c k
  coming_next c k p q l h =
      let i = (inside_chain v n b left l h).1 in
      rw (p, q) record { here = λ m. (inside_chain v n (next v b) (left - 1) m i).0; inside = i }

  -- and what its slots come to
  module _ (c k : ℕ) (p : c ≡ next v b) (q : k ≡ left - 1) (l : 0 < left) where
    pub slots_next : slots (chain v b left) ≡ run (b * 13) (b * 13 + 13 - b * 13) ++ slots (chain v c k)
    slots_next = rw (p, q) (slots_chain v b left l)

    pub active_next : active v (slots (chain v b left)) ≡ active v (run (b * 13) (b * 13 + 13 - b * 13)) + active v (slots (chain v c k))
    active_next = rw slots_next (sum_append _ (run (b * 13) (b * 13 + 13 - b * 13)) (slots (chain v c k)))

    pub alone_next_block : (s : ℕ) → eqb (twins_of v s (slots (chain v b left))) 0
        ≡ (eqb (twins_of v s (run (b * 13) (b * 13 + 13 - b * 13))) 0 and eqb (twins_of v s (slots (chain v c k))) 0)
    alone_next_block s = rw slots_next (alone_append v s (run (b * 13) (b * 13 + 13 - b * 13)) (slots (chain v c k)))

pub alone_none : (v : Bytes) (s b left : ℕ) → left ≡ 0 → eqb (twins_of v s (slots (chain v b left))) 0 ≡ true
unfolding twins_of sum
alone_none v s b left e = rw (no_slots v b left e)

pub unlike_none : (v : Bytes) (b left : ℕ) → left ≡ 0 → eqb (twins v (slots (chain v b left))) 0 ≡ true
unfolding twins
unlike_none v b left e = rw (no_slots v b left e)

-- a directory of no block has no entry
pub entries_none : (v : Bytes) (b left : ℕ) → left ≡ 0 → active v (drop 1 (slots (chain v b left))) ≡ 0
unfolding sum
entries_none v b left e = ap (λ l. active v (drop 1 l)) (no_slots v b left e)

pub entries_unlike : (v : Bytes) (b left : ℕ) → left ≡ 0 → eqb (twins v (drop 1 (slots (chain v b left)))) 0 ≡ true
unfolding twins
entries_unlike v b left e = ap (λ l. eqb (twins v (drop 1 l)) 0) (no_slots v b left e)

-- the slots from s on in block b and in the blocks after it
module _ (v : Bytes) (s b after : ℕ) (l : s < b * 13 + 13) where
  pub unlike_skip : is_active (sort v s) ≡ false → eqb (twins v (ahead v s b after)) 0 ≡ eqb (twins v (ahead v (s + 1) b after)) 0
  unlike_skip h = rw (ahead_step v s b after l) (unlike_off v s _ h)

  pub unlike_more : is_active (sort v s) ≡ true → eqb (twins_of v s (ahead v (s + 1) b after)) 0 ≡ true
      → eqb (twins v (ahead v s b after)) 0 ≡ eqb (twins v (ahead v (s + 1) b after)) 0
  unfolding ◌and◌
  unlike_more h k = rw (ahead_step v s b after l) (unlike_on v s _ h ∙ rw k)

  pub unlike_not : is_active (sort v s) ≡ true → eqb (twins_of v s (ahead v (s + 1) b after)) 0 ≡ false
      → eqb (twins v (ahead v s b after)) 0 ≡ false
  unfolding ◌and◌
  unlike_not h k = rw (ahead_step v s b after l) (unlike_on v s _ h ∙ rw k)

-- Faults that are sums of tests are none where every test holds.
pub none_unless : (t : Bool) → eqb (unless t) 0 ≡ t
none_unless true = refl
none_unless false = refl

and_three : (a b c d : Bool) → (a and b and c and d) ≡ ((a and b and c) and d)
unfolding ◌and◌
and_three true true c d = refl
and_three true false c d = refl
and_three false b c d = refl

pub prodos_is : (n : ℕ) (v : Bytes)
    → prodos n v ≡ (eqb (previous v 2) 0 and (eqb (header_kind v 2) 0xF and eqb (header_slot_size v 2) 39 and eqb (header_slots v 2) 13) and eqb (total_blocks v) n)
unfolding prodos
prodos_is n v = ap (λ t. eqb (previous v 2) 0 and t) (and_three _ _ _ _)

pub volume_is : (v : Bytes)
    → eqb (volume_faults v) 0 ≡ (eqb (next v 2) 3 and eqb (next v 3) 4 and eqb (next v 4) 5 and eqb (map_block v) 6)
unfolding volume_faults differ chain field ◌and◌
volume_is v =
    let a = ne (next v 2) 3 in
    let b = ne (next v (next v 2)) 4 in
    let c = ne (next v (next v (next v 2))) 5 in
    let d = ne (map_block v) 6 in
    let e : volume_faults v ≡ a + (b + (c + d)) = omega arith in
    rw e (simp (none_in, none_unless) (links (eqb (next v 2) 3) refl))
  where
    -- each link that is right names the next block of the chain
    second : (t : Bool) → eqb (next v 3) 4 ≡ t
        → (eqb (next v 3) 4 and eqb (next v (next v 3)) 5 and eqb (map_block v) 6) ≡ (eqb (next v 3) 4 and eqb (next v 4) 5 and eqb (map_block v) 6)
    second true h = rw (eqb-true _ _ h) refl
    second false h = rw h refl

    links : (t : Bool) → eqb (next v 2) 3 ≡ t
        → (eqb (next v 2) 3 and eqb (next v (next v 2)) 4 and eqb (next v (next v (next v 2))) 5 and eqb (map_block v) 6)
        ≡ (eqb (next v 2) 3 and eqb (next v 3) 4 and eqb (next v 4) 5 and eqb (map_block v) 6)
    links true h = rw (eqb-true _ _ h) (second (eqb (next v 3) 4) refl)
    links false h = rw h refl

pub header_is : (v : Bytes) (s k : ℕ)
    → eqb (header_faults v s k) 0
    ≡ ((eqb (header_kind v k) 0xE and eqb (header_slot_size v k) 39 and eqb (header_slots v k) 13)
    and (eqb (parent_block v k) (block_of s) and eqb (parent_slot v k) (slot_of s) and eqb (parent_slot_size v k) 39)
    and alike v (k * 512 + 4) (at s))
unfolding header_faults
header_is v s k =
    let own = ne (header_kind v k) 0xE + (ne (header_slot_size v k) 39 + ne (header_slots v k) 13) in
    let entry = ne (parent_block v k) (block_of s) + (ne (parent_slot v k) (slot_of s) + ne (parent_slot_size v k) 39) in
    let e : header_faults v s k ≡ own + (entry + unless (alike v (k * 512 + 4) (at s))) = omega arith in
    rw e (simp (none_in, none_unless))
