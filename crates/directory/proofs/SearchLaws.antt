-- A search goes on slot by slot in a block, and block by block in a chain. Assumes nothing.
use mathlib.Core.Path.{◌≡◌, refl, sym, ap, subst, ◌∙◌}
use mathlib.Core.Bool.{Bool, true, false}
use mathlib.Core.List.Memᴰ
use mathlib.Core.List.{List, [], ◌∷◌, ◌++◌, Memᴰ}
use mathlib.Core.Option.{Option, some}
use Rattle.std.specs.Prelude as std
use Rattle.std.specs.Prelude.{Some, None, is_some}
use Prim.Native.Nat.{ℕ, zero, suc, ◌+◌, ◌-◌, ◌≤◌, ◌<◌}
use lib.ListN.{length, drop}
use lib.Seq.{drop-nil}
use native.Mathlib.Omega.{arith}
use Rattle.model.specs.Bytes.{Bytes, view, run, ◌and◌}
use Rattle.model.specs.Names.{Part, part, same_name}
use Rattle.model.specs.Directory.{place, at, next, sort, is_active, chain, slots, seek, vacant}
use Rattle.model.specs.declared.Entry.{Entry}
use Rattle.model.specs.declared.Place.{Place}
use Rattle.model.proofs.TestLaws.{and_off, and_left, and_right}
use Rattle.directory.specs.Slots.{place_number, place_of, Counted, entry_of, slot_says}
use Rattle.directory.specs.declared.Slot.TheVariants.{Active}
use Rattle.directory.specs.Search.{Each, Searchable, slots_from, Found, found_at, found_in, vacancy_at, first_of, LooksAt}
use Rattle.directory.proofs.SlotLaws.{never, place_one, place_two, place_next, place_of_law, says_active}

-- What holds of every number in a list.
module _ (P : ℕ → Type 0) where
  pub each_head : (x : ℕ) (xs ys : List ℕ) → ys ≡ x ∷ xs → Each P ys → P x
  each_head x xs ys e h = subst (λ (l : List ℕ). Each P l) e h x (Memᴰ.head refl)

  pub each_tail : (x : ℕ) (xs ys : List ℕ) → ys ≡ x ∷ xs → Each P ys → Each P xs
  each_tail x xs ys e h y m = subst (λ (l : List ℕ). Each P l) e h y (Memᴰ.tail m)

  pub each_front : (xs ys zs : List ℕ) → zs ≡ xs ++ ys → Each P zs → Each P xs
  each_front xs ys zs e h y m = subst (λ (l : List ℕ). Each P l) e h y (Memᴰ.append_left ys m)

  pub each_back : (xs ys zs : List ℕ) → zs ≡ xs ++ ys → Each P zs → Each P ys
  each_back xs ys zs e h y m = subst (λ (l : List ℕ). Each P l) e h y (Memᴰ.append_right xs m)

-- The first answer at a list of slots.
module _ {A : Type 0} (f : ℕ → std.Option A) where
  first_here : (s : ℕ) (ss : List ℕ) (o : std.Option A) → o ≡ f s → is_some o ≡ true → first_of f (s ∷ ss) ≡ o
  unfolding first_of
  first_here s ss None e h = never (cc)
  first_here s ss (Some x) e h = rw (← e, first_of)

  first_past : (s : ℕ) (ss : List ℕ) (o : std.Option A) → o ≡ f s → is_some o ≡ false → first_of f (s ∷ ss) ≡ first_of f ss
  unfolding first_of
  first_past s ss None e h = rw (← e, first_of)
  first_past s ss (Some x) e h = never (cc)

  front_by : (s : ℕ) (ss ys : List ℕ) (o r : std.Option A) → o ≡ f s → r ≡ first_of f (s ∷ ss) → is_some r ≡ true
      → ((r : std.Option A) → r ≡ first_of f ss → is_some r ≡ true → first_of f (ss ++ ys) ≡ r) → first_of f (s ∷ ss ++ ys) ≡ r
  front_by s ss ys None r e g h go = first_past s (ss ++ ys) None e refl ∙ go r (g ∙ first_past s ss None e refl) h
  front_by s ss ys (Some x) r e g h go = first_here s (ss ++ ys) (Some x) e refl ∙ sym (g ∙ first_here s ss (Some x) e refl)

  first_front : (xs ys : List ℕ) (r : std.Option A) → r ≡ first_of f xs → is_some r ≡ true → first_of f (xs ++ ys) ≡ r
  unfolding first_of
  first_front [] ys r e h = never (cc)
  first_front (s ∷ ss) ys r e h = front_by s ss ys (f s) r refl e h (first_front ss ys)

  back_by : (s : ℕ) (ss ys : List ℕ) (o r : std.Option A) → o ≡ f s → r ≡ first_of f (s ∷ ss) → is_some r ≡ false
      → ((r : std.Option A) → r ≡ first_of f ss → is_some r ≡ false → first_of f (ss ++ ys) ≡ first_of f ys) → first_of f (s ∷ ss ++ ys) ≡ first_of f ys
  back_by s ss ys None r e g h go = first_past s (ss ++ ys) None e refl ∙ go r (g ∙ first_past s ss None e refl) h
  back_by s ss ys (Some x) r e g h go = let w : r ≡ Some x = g ∙ first_here s ss (Some x) e refl in never (cc)

  first_back : (xs ys : List ℕ) (r : std.Option A) → r ≡ first_of f xs → is_some r ≡ false → first_of f (xs ++ ys) ≡ first_of f ys
  first_back [] ys r e h = refl
  first_back (s ∷ ss) ys r e h = back_by s ss ys (f s) r refl e h (first_back ss ys)

pub first_one : {A : Type 0} (f : ℕ → std.Option A) (s : ℕ) (o : std.Option A) → o ≡ f s → o ≡ first_of f (s ∷ [])
unfolding first_of
first_one f s None e = sym (first_past f s [] None e refl)
first_one f s (Some x) e = sym (first_here f s [] (Some x) e refl)

-- A walk that has looked at the slots xs, of zs, and was answered o: it ends with o, or goes on at the others.
module _ {A : Type 0} (f : ℕ → std.Option A) (xs ys zs : List ℕ) (e : zs ≡ xs ++ ys) (all o : std.Option A) (same : all ≡ first_of f zs) (asked : o ≡ first_of f xs) where
  pub walk_ends : is_some o ≡ true → o ≡ all
  walk_ends h = sym (same ∙ ap (first_of f) e ∙ first_front f xs ys o asked h)

  pub walk_goes_on : is_some o ≡ false → all ≡ first_of f ys
  walk_goes_on h = same ∙ ap (first_of f) e ∙ first_back f xs ys o asked h

module _ (v p : Bytes) (x : Part) where
  pub seek_here : (s : ℕ) (ss : List ℕ) → is_active (sort v s) ≡ true → same_name v (at s) p x ≡ true → seek v p x (s ∷ ss) ≡ some s
  unfolding seek ◌and◌
  seek_here s ss a h = rw (a, h, seek)

  pub seek_past : (s : ℕ) (ss : List ℕ) → (is_active (sort v s) and same_name v (at s) p x) ≡ false → seek v p x (s ∷ ss) ≡ seek v p x ss
  unfolding seek
  seek_past s ss h = rw (h, seek)

pub false_and : (b : Bool) → (false and b) ≡ false
unfolding ◌and◌
false_and b = refl

module _ (v : Bytes) where
  pub vacant_here : (s : ℕ) (ss : List ℕ) → is_active (sort v s) ≡ false → vacant v (s ∷ ss) ≡ some s
  unfolding vacant
  vacant_here s ss h = rw (h, vacant)

  pub vacant_past : (s : ℕ) (ss : List ℕ) → is_active (sort v s) ≡ true → vacant v (s ∷ ss) ≡ vacant v ss
  unfolding vacant
  vacant_past s ss h = rw (h, vacant)

-- One slot.
module _ (v p : Bytes) (x : Part) (l : Place) where
  pub found_here : (f : Entry) → Counted l → slot_says (sort v (place_number l)) (entry_of v (at (place_number l))) ≡ Active f
      → same_name v (at (place_number l)) p x ≡ true → Some (l, f) ≡ found_at v (seek v p x (place_number l ∷ []))
  found_here f h w m =
      let q = says_active (sort v (place_number l)) (entry_of v (at (place_number l))) f w in
      sym
      (ap (found_at v) (seek_here v p x (place_number l) [] q.0 m)
      ∙ ap (λ y. Some (place_of (place_number l), y)) q.1
      ∙ ap (λ y. Some (y, f)) (place_of_law l h))

  found_past : (is_active (sort v (place_number l)) and same_name v (at (place_number l)) p x) ≡ false → None ≡ found_at v (seek v p x (place_number l ∷ []))
  unfolding seek
  found_past h = sym (ap (found_at v) (seek_past v p x (place_number l) [] h))

  pub found_other : same_name v (at (place_number l)) p x ≡ false → None ≡ found_at v (seek v p x (place_number l ∷ []))
  found_other m = found_past (rw m (and_off (is_active (sort v (place_number l)))))

  pub found_inactive : is_active (sort v (place_number l)) ≡ false → None ≡ found_at v (seek v p x (place_number l ∷ []))
  found_inactive a = found_past (rw a (false_and (same_name v (at (place_number l)) p x)))

module _ (v : Bytes) (l : Place) where
  pub vacancy_here : Counted l → is_active (sort v (place_number l)) ≡ false → Some l ≡ vacancy_at (vacant v (place_number l ∷ []))
  vacancy_here h a = sym (ap vacancy_at (vacant_here v (place_number l) [] a) ∙ ap Some (place_of_law l h))

  pub vacancy_past : is_active (sort v (place_number l)) ≡ true → None ≡ vacancy_at (vacant v (place_number l ∷ []))
  unfolding vacant
  vacancy_past a = sym (ap vacancy_at (vacant_past v (place_number l) [] a))

-- The slots of a block, one after the other.
module _ (b t : ℕ) where
  pub slots_more : 1 ≤ t → t ≤ 13 → slots_from b t ≡ place b t ∷ slots_from b (t + 1)
  unfolding run
  slots_more h l =
      let e : 14 - t ≡ suc (14 - (t + 1)) = omega arith in
      ap (run (place b t)) e ∙ ap (λ s. place b t ∷ run s (14 - (t + 1))) (place_next b t h)

  pub slots_done : 13 < t → slots_from b t ≡ []
  unfolding run
  slots_done h = let e : 14 - t ≡ 0 = omega arith in ap (run (place b t)) e

-- no slot is left
pub seek_none : (v p : Bytes) (x : Part) (all : Option ℕ) (ss : List ℕ) → ss ≡ [] → all ≡ seek v p x ss → None ≡ found_at v all
unfolding seek
seek_none v p x all ss e h = sym (ap (found_at v) (h ∙ ap (seek v p x) e))

run_among : (a c i : ℕ) → i < c → Memᴰ (a + i) (run a c)
unfolding run
run_among a zero i l = never (omega arith)
run_among a (suc c) zero l = let e : a + 0 ≡ a = omega arith in Memᴰ.head e
run_among a (suc c) (suc i) l =
    let e : a + suc i ≡ suc a + i = omega arith in
    Memᴰ.tail (subst (λ (x : ℕ). Memᴰ x (run (suc a) c)) (sym e) (run_among (suc a) c i (omega arith)))

pub slot_among : (b t s : ℕ) → 1 ≤ t → t ≤ s → s ≤ 13 → Memᴰ (place b s) (slots_from b t)
unfolding place
slot_among b t s h i l =
    let e : place b t + (s - t) ≡ place b s = omega arith in
    subst (λ (x : ℕ). Memᴰ x (slots_from b t)) e (run_among (place b t) (14 - t) (s - t) (omega arith))

-- The places that may be looked at, in a part of the slots.
module _ (pre : Place → Type 0) (xs ys zs : List ℕ) (e : zs ≡ xs ++ ys) (h : LooksAt pre zs) where
  pub looks_front : LooksAt pre xs
  looks_front l k m = h l k (subst (Memᴰ (place_number l)) (sym e) (Memᴰ.append_left ys m))

  pub looks_back : LooksAt pre ys
  looks_back l k m = h l k (subst (Memᴰ (place_number l)) (sym e) (Memᴰ.append_right xs m))

-- A search by name, and one for an inactive slot, as the first answers of their slots.
module _ (v : Bytes) (name : List ℕ) where
  abbrev named : ℕ → Found
  named s = found_in v name (s ∷ [])

  found_by : (s : ℕ) (ss : List ℕ) (b : Bool) → (is_active (sort v s) and same_name v (at s) (view name) (part 0 (length name))) ≡ b
      → first_of named ss ≡ found_in v name ss → first_of named (s ∷ ss) ≡ found_in v name (s ∷ ss)
  unfolding seek
  found_by s ss true e h =
      let x = λ (ys : List ℕ). ap (found_at v) (seek_here v (view name) (part 0 (length name)) s ys (and_left _ _ e) (and_right _ _ e)) in
      first_here named s ss _ (sym (x [])) refl ∙ sym (x ss)
  found_by s ss false e h =
      let x = λ (ys : List ℕ). ap (found_at v) (seek_past v (view name) (part 0 (length name)) s ys e) in
      first_past named s ss _ (sym (x [])) refl ∙ h ∙ sym (x ss)

  pub first_found : (ss : List ℕ) → first_of named ss ≡ found_in v name ss
  unfolding seek first_of
  first_found [] = refl
  first_found (s ∷ ss) = found_by s ss _ refl (first_found ss)

module _ (v : Bytes) where
  abbrev free : ℕ → std.Option Place
  free s = vacancy_at (vacant v (s ∷ []))

  vacant_by : (s : ℕ) (ss : List ℕ) (b : Bool) → is_active (sort v s) ≡ b
      → first_of free ss ≡ vacancy_at (vacant v ss) → first_of free (s ∷ ss) ≡ vacancy_at (vacant v (s ∷ ss))
  unfolding vacant
  vacant_by s ss false e h =
      let x = λ (ys : List ℕ). ap vacancy_at (vacant_here v s ys e) in
      first_here free s ss _ (sym (x [])) refl ∙ sym (x ss)
  vacant_by s ss true e h =
      let x = λ (ys : List ℕ). ap vacancy_at (vacant_past v s ys e) in
      first_past free s ss _ (sym (x [])) refl ∙ h ∙ sym (x ss)

  pub first_vacant : (ss : List ℕ) → first_of free ss ≡ vacancy_at (vacant v ss)
  unfolding vacant first_of
  first_vacant [] = refl
  first_vacant (s ∷ ss) = vacant_by s ss _ refl (first_vacant ss)

-- What is left of a chain: u blocks from b on, of which the first has slots from t on.
abbrev pub rest : Bytes → ℕ → ℕ → ℕ → List ℕ
rest v b u t = drop (t - 1) (slots (chain v b u))

first_slots : (b t : ℕ) (bs : List ℕ) → 1 ≤ t → t ≤ 2 → drop (t - 1) (slots (b ∷ bs)) ≡ slots_from b t ++ slots bs
unfolding slots run
first_slots b zero bs h l = never (omega arith)
first_slots b (suc zero) bs h l = ap (λ s. run s 13 ++ slots bs) (sym (place_one b))
first_slots b (suc (suc zero)) bs h l = ap (λ s. run s 12 ++ slots bs) (sym (place_two b))
first_slots b (suc (suc (suc t))) bs h l = never (omega arith)

-- a search at a block of a chain
pub record Searching (n : ℕ) (v : Bytes) (b u t : ℕ) : Type 0 where
  pub low : 1 ≤ t
  pub high : t ≤ 2
  pub inside : Each (λ x. x < n) (chain v b u)

pub searching : (n : ℕ) (v : Bytes) (k u : ℕ) → Searchable n v k u → Searching n v k u 2
searching n v k u h = record { low = omega arith; high = omega arith; inside = h.inside }

pub rest_done : (v : Bytes) (b u t : ℕ) → u ≤ 0 → rest v b u t ≡ []
unfolding chain slots
rest_done v b zero t h = drop-nil (t - 1)
rest_done v b (suc u) t h = never (omega arith)

module _ (v : Bytes) (b u t : ℕ) (more : 0 < u) where
  chain_more : chain v b u ≡ b ∷ chain v (next v b) (u - 1)
  unfolding chain
  chain_more = let e : u ≡ suc (u - 1) = omega arith in ap (chain v b) e

  pub rest_more : 1 ≤ t → t ≤ 2 → rest v b u t ≡ slots_from b t ++ rest v (next v b) (u - 1) 1
  rest_more h l = ap (λ bs. drop (t - 1) (slots bs)) chain_more ∙ first_slots b t (chain v (next v b) (u - 1)) h l

  module _ (n : ℕ) (w : Searching n v b u t) where
    pub searching_block : b < n
    searching_block = each_head (λ x. x < n) b _ _ chain_more w.inside

    pub searching_next : Searching n v (next v b) (u - 1) 1
    searching_next =
        record {
          low = omega arith;
          high = omega arith;
          inside = each_tail (λ x. x < n) b _ _ chain_more w.inside;
        }
