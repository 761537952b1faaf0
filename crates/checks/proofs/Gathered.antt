-- The addresses of active slots, gathered: how many they are, that they lie in the image, and that no two of their names are alike
-- exactly where there are no twins. Assumes nothing.
use mathlib.Core.Path.{◌≡◌, refl, ap}
use mathlib.Core.List.{List, [], ◌∷◌, ◌++◌, append_assoc, append-nil}
use mathlib.Core.Bool.{Bool, true, false, not}
use Prim.Native.Nat.{ℕ, zero, suc, ◌+◌, ◌-◌, ◌*◌, ◌≤◌, ◌<◌}
use native.Mathlib.Numerals.{add-one}
use native.Mathlib.Omega.{arith}
use lib.Dec.{eqb}
use lib.ListN.{length, take, drop, set, length-drop}
use lib.Seq.{take-suc-set, take-set-le}
use Rattle.model.specs.Bytes.{Bytes, run, sum, one_if, ◌and◌}
use Rattle.model.specs.Directory.{Sort, inactive, directory, improper, file, live, active, sort, is_active, at, next, chain, slots}
use Rattle.model.specs.Sound.{twins_of, twins}
use Rattle.model.proofs.Laws.Frame.{chain_length, slots_length}
use Rattle.twins.specs.Twins.{Stored, alone, no_twins}
use Rattle.checks.specs.Inside.{Inside, ahead, actives}
use Rattle.checks.proofs.Laws.{none_in, run_step, run_end, slot_in, no_slots, slots_next}

none_if : (t : Bool) → eqb (one_if t) 0 ≡ not t
none_if true = refl
none_if false = refl

module _ (v : Bytes) where
  actives_on : (s : ℕ) (ss : List ℕ) → is_active (sort v s) ≡ true → actives v (s ∷ ss) ≡ at s ∷ actives v ss
  unfolding actives
  actives_on s ss h = rw (actives, h)

  actives_off : (s : ℕ) (ss : List ℕ) → is_active (sort v s) ≡ false → actives v (s ∷ ss) ≡ actives v ss
  unfolding actives
  actives_off s ss h = rw (actives, h)

  append_by : (s : ℕ) (ss ts : List ℕ) (t : Bool) → is_active (sort v s) ≡ t → actives v (ss ++ ts) ≡ actives v ss ++ actives v ts
      → actives v (s ∷ (ss ++ ts)) ≡ actives v (s ∷ ss) ++ actives v ts
  append_by s ss ts true h e = rw (actives_on s (ss ++ ts) h, actives_on s ss h) (ap (λ l. at s ∷ l) e)
  append_by s ss ts false h e = rw (actives_off s (ss ++ ts) h, actives_off s ss h) e

  pub actives_append : (ss ts : List ℕ) → actives v (ss ++ ts) ≡ actives v ss ++ actives v ts
  unfolding actives
  actives_append [] ts = refl
  actives_append (s ∷ ss) ts = append_by s ss ts (is_active (sort v s)) refl (actives_append ss ts)

  -- no twins
  alone_by : (s t : ℕ) (ts : List ℕ) (b : Bool) → is_active (sort v t) ≡ b → eqb (twins_of v s ts) 0 ≡ alone v (at s) (actives v ts)
      → eqb (twins_of v s (t ∷ ts)) 0 ≡ alone v (at s) (actives v (t ∷ ts))
  unfolding twins_of sum alone ◌and◌
  alone_by s t ts true h e = rw (actives_on t ts h, h, none_in, none_if, e)
  alone_by s t ts false h e = rw (actives_off t ts h, h, none_in) e

  alone_actives : (s : ℕ) (ts : List ℕ) → eqb (twins_of v s ts) 0 ≡ alone v (at s) (actives v ts)
  unfolding twins_of sum alone actives
  alone_actives s [] = refl
  alone_actives s (t ∷ ts) = alone_by s t ts (is_active (sort v t)) refl (alone_actives s ts)

  twins_by : (s : ℕ) (ss : List ℕ) (b : Bool) → is_active (sort v s) ≡ b → eqb (twins v ss) 0 ≡ no_twins v (actives v ss)
      → eqb (twins v (s ∷ ss)) 0 ≡ no_twins v (actives v (s ∷ ss))
  unfolding twins no_twins
  twins_by s ss true h e = rw (actives_on s ss h, twins, h, none_in, alone_actives s ss, e)
  twins_by s ss false h e = rw (actives_off s ss h, twins, h) e

  pub twins_actives : (ss : List ℕ) → eqb (twins v ss) 0 ≡ no_twins v (actives v ss)
  unfolding twins no_twins actives
  twins_actives [] = refl
  twins_actives (s ∷ ss) = twins_by s ss (is_active (sort v s)) refl (twins_actives ss)

  -- one slot more is looked at: its address was stored behind the first k of the list
  module _ (s e : ℕ) (l : s < e) (list : List ℕ) (k : ℕ) (m : k < length list) where
    pub stored_on : is_active (sort v s) ≡ true
        → take (k + 1) (set list k (at s)) ++ actives v (run (s + 1) (e - (s + 1))) ≡ take k list ++ actives v (run s (e - s))
    stored_on h =
        rw (run_step s e l, actives_on s _ h, add-one k, take-suc-set list k (at s) m)
        (append_assoc (take k list) (at s ∷ []) (actives v (run (s + 1) (e - (s + 1)))))

    pub stored_off : is_active (sort v s) ≡ false
        → take k (set list k (at s)) ++ actives v (run (s + 1) (e - (s + 1))) ≡ take k list ++ actives v (run s (e - s))
    stored_off h = let q : k ≤ k = omega arith in rw (run_step s e l, actives_off s _ h, take-set-le k list k (at s) q)

  pub stored_end : (s e : ℕ) → e ≤ s → (xs : List ℕ) → xs ++ actives v (run s (e - s)) ≡ xs
  unfolding actives
  stored_end s e l xs = rw (run_end s e l) (append-nil xs)

  pub gathered_none : (b left : ℕ) → left ≡ 0 → (xs : List ℕ) → xs ++ actives v (slots (chain v b left)) ≡ xs
  unfolding actives
  gathered_none b left e xs = rw (no_slots v b left e) (append-nil xs)

  pub actives_ahead : (s b after : ℕ)
      → actives v (ahead v s b after) ≡ actives v (run s (b * 13 + 13 - s)) ++ actives v (slots (chain v (next v b) after))
  actives_ahead s b after = actives_append (run s (b * 13 + 13 - s)) (slots (chain v (next v b) after))

  -- those of a chain's first block, and of the blocks that follow
  pub actives_next : (n b left c k : ℕ) → c ≡ next v b → k ≡ left - 1 → 0 < left
      → actives v (slots (chain v b left)) ≡ actives v (run (b * 13) (b * 13 + 13 - b * 13)) ++ actives v (slots (chain v c k))
  actives_next n b left c k p q l = rw (slots_next v n b left c k p q l) (actives_append (run (b * 13) (b * 13 + 13 - b * 13)) (slots (chain v c k)))

-- Their slots lie in the image.
stored_append : (z : ℕ) (xs ys : List ℕ) → Stored z xs → Stored z ys → Stored z (xs ++ ys)
stored_append z [] ys h t i l = t i l
stored_append z (x ∷ xs) ys h t zero l = h 0 (omega arith)
stored_append z (x ∷ xs) ys h t (suc i) l = stored_append z xs ys (λ j m. h (suc j) (omega arith)) t i (omega arith)

stored_cons : (z x : ℕ) (xs : List ℕ) → x + 39 ≤ z → Stored z xs → Stored z (x ∷ xs)
stored_cons z x xs h t zero l = h
stored_cons z x xs h t (suc i) l = t i (omega arith)

module _ (v : Bytes) (n : ℕ) where
  run_by : (s k : ℕ) (b : Bool) → is_active (sort v s) ≡ b → s < n * 13 → Stored (n * 512) (actives v (run (suc s) k))
      → Stored (n * 512) (actives v (s ∷ run (suc s) k))
  run_by s k true h l r =
      let i : at s + 39 ≤ n * 512 = slot_in n s l in
      rw (actives_on v s (run (suc s) k) h) (stored_cons (n * 512) (at s) (actives v (run (suc s) k)) (omega arith) r)
  run_by s k false h l r = rw (actives_off v s (run (suc s) k) h) r

  run_stored : (s k : ℕ) → s + k ≤ n * 13 → Stored (n * 512) (actives v (run s k))
  unfolding run actives
  run_stored s zero l = λ i m. absurd (let w : ⊥ = omega arith in w)
  run_stored s (suc k) l = run_by s k (is_active (sort v s)) refl (omega arith) (run_stored (suc s) k (omega arith))

  slots_stored : (bs : List ℕ) → Inside n bs → Stored (n * 512) (actives v (slots bs))
  unfolding slots actives Inside
  slots_stored [] h = λ i m. absurd (let w : ⊥ = omega arith in w)
  slots_stored (b ∷ bs) h =
      let l : b < n = h.0 in
      rw (actives_append v (run (b * 13) 13) (slots bs))
      (stored_append (n * 512) (actives v (run (b * 13) 13)) (actives v (slots bs)) (run_stored (b * 13) 13 (omega arith)) (slots_stored bs h.1))

  pub entries_stored : (bs : List ℕ) → Inside n bs → Stored (n * 512) (actives v (drop 1 (slots bs)))
  unfolding slots actives Inside run
  entries_stored [] h = λ i m. absurd (let w : ⊥ = omega arith in w)
  entries_stored (b ∷ bs) h =
      let l : b < n = h.0 in
      rw (actives_append v (run (suc (b * 13)) 12) (slots bs))
      (stored_append (n * 512) (actives v (run (suc (b * 13)) 12)) (actives v (slots bs)) (run_stored (suc (b * 13)) 12 (omega arith)) (slots_stored bs h.1))

-- A directory's active entries are few enough to be counted in 32 bits.
pub few_active : (v : Bytes) (key used : ℕ) → used ≤ 65535 → active v (drop 1 (slots (chain v key used))) ≤ 1000000
unfolding sum
few_active v key used h =
    let m = active_most v (drop 1 (slots (chain v key used))) in
    let n = length-drop 1 (slots (chain v key used)) in
    let o = slots_length (chain v key used) in
    let p = chain_length v key used in
    omega arith
  where
    live_most : (t : Sort) → live t ≤ 1
    live_most inactive = omega arith
    live_most directory = omega arith
    live_most improper = omega arith
    live_most (file h) = omega arith

    active_most : (v : Bytes) (ss : List ℕ) → active v ss ≤ length ss
    active_most v [] = omega arith
    active_most v (s ∷ ss) = let h = active_most v ss in let l = live_most (sort v s) in omega arith
