-- What is missing for a file block is taken where there is room for it; what is missing for a range of file blocks is counted before.
use Prim.Native.Nat.{ℕ, zero, suc, ◌+◌, ◌-◌, ◌*◌, ◌≤◌, ◌<◌, ◌/◌, ◌%◌, ◌^◌}
use mathlib.Core.Path.{◌≡◌, refl, sym, ap, ◌∙◌}
use mathlib.Core.Bool.{Bool, true, false}
use lib.Dec.{ltb, eqb}
use native.Mathlib.Omega.{arith}
use native.Mathlib.Numerals.{add-one}
use borrow.Author.Tests.{eqb-true, eqb-false, eq-eqb, ne_eqb, ltb-true, ltb-false, lt-ltb, le-ltb}
use Rattle.model.specs.Bytes.{Bytes, sum, run, is}
use Rattle.model.specs.Map.{room, lowest, taken}
use Rattle.model.specs.Directory.{map_place}
use Rattle.model.specs.File.{pointer, put_pointer, above, data_block}
use Rattle.model.specs.Grow.{backed, lacks_block, lacks_index, need}
use Rattle.model.proofs.ByteLaws.{at_or_off}
use Rattle.model.proofs.BitLaws.{is_yes, is_no, is_most, lowest_free, room_lowest}
use Rattle.model.proofs.SumLaws.{is_self, sum_eq, run_in_law}
use Rattle.model.proofs.Laws.Weigh.{upto_one, upto_zero, Gauge, arm, weigh, each, size, arm_hole, arm_full, part_zero, has_key, Blank, pointer_blank}
use Rattle.model.proofs.Laws.Move.{by_zero, by_lt, Fit, move_fit, fit_some, free_some, fit_below, lift_weigh, lift_pointer}
use Rattle.model.proofs.Laws.Take.{hung_move, hung_work, hung_weigh, hung_at, hung_blank, first_above, backed_work}
use Rattle.model.proofs.Laws.Room.{move_room, Keyed}
use Rattle.model.proofs.Laws.Data.{spot, spot_off, spot_is, same_data}

pub data_hole : (h k p : ℕ) (w : Bytes) → pointer w k (above h p % 256) ≡ 0 → data_block w (suc h) k p ≡ 0
unfolding data_block
data_hole h k p w e = rw (eq-eqb (pointer w k (above h p % 256)) 0 e, data_block) refl

pub data_at : (h k p c : ℕ) (w : Bytes) → pointer w k (above h p % 256) ≡ c → (c ≡ 0 → ⊥) → data_block w (suc h) k p ≡ data_block w h c p
unfolding data_block
data_at h k p c w e z = rw (ne_eqb (pointer w k (above h p % 256)) 0 (λ y. z (sym e ∙ y)), data_block) (rw e refl)

-- the blocks missing for the file block p
pub miss : Bytes → ℕ → ℕ → ℕ → ℕ
miss w zero k p = 0
miss w (suc h) k p = elim (eqb (pointer w k (above h p % 256)) 0) [ true ↦ suc h | false ↦ miss w h (pointer w k (above h p % 256)) p ]

pub miss_hole : (h k p : ℕ) (w : Bytes) → pointer w k (above h p % 256) ≡ 0 → miss w (suc h) k p ≡ suc h
unfolding miss
miss_hole h k p w e = rw (eq-eqb (pointer w k (above h p % 256)) 0 e, miss) refl

miss_full : (h k p : ℕ) (w : Bytes) → (pointer w k (above h p % 256) ≡ 0 → ⊥) → miss w (suc h) k p ≡ miss w h (pointer w k (above h p % 256)) p
unfolding miss
miss_full h k p w e = rw (ne_eqb (pointer w k (above h p % 256)) 0 e, miss) refl

miss_blank : (h k p : ℕ) (w : Bytes) → Blank w k → miss w h k p ≡ h
miss_blank zero k p w f = unfold miss in refl
miss_blank (suc h) k p w f = miss_hole h k p w (pointer_blank w k (above h p % 256) f (omega arith))

-- with room enough the file block p is there, and as many blocks as were missing are taken
pub record Complete (h q k p : ℕ) (w w' : Bytes) : Type 0 where
  pub more : size w' h q k ≡ size w h q k + miss w h k p
  pub there : data_block w' h k p ≡ 0 → ⊥

pub backed_complete : (n e h q k p : ℕ) (w : Bytes) → q ≡ above h p → p < e → Fit n w h q k → miss w h k p ≤ room map_place w n
    → Complete h q k p w (backed map_place n w h k p)
unfolding backed above miss
backed_complete n e zero q k p w s l F m =
    record { more = omega arith; there = λ z. fit_some F k (has_key w 0 q k) (unfold data_block in z) }
backed_complete n e (suc h) q k p w s l F m =
    go (eqb (pointer w k i) 0) refl (ltb z n) refl m (λ r c x t G o. backed_complete n e h r c p x t l G o)
  where
    i : ℕ
    i = above h p % 256

    z : ℕ
    z = lowest map_place w n

    num : q * 256 + i ≡ above h p
    num = omega arith

    -- what is completed below the pointer i of x
    up_from : (x : Bytes) (G : Fit n x (suc h) q k) (full : pointer x k i ≡ 0 → ⊥)
        → Complete h (q * 256 + i) (pointer x k i) p x (backed map_place n x h (pointer x k i) p)
        → (size (backed map_place n x h (pointer x k i) p) (suc h) q k ≡ size x (suc h) q k + miss x h (pointer x k i) p)
        × (data_block (backed map_place n x h (pointer x k i) p) (suc h) k p ≡ 0 → ⊥)
    up_from x G full C =
        let y = backed map_place n x h (pointer x k i) p in
        let T = (backed_work n e h (q * 256 + i) (pointer x k i) p x num l (fit_below G (omega arith) full)).move in (
          omega (arith, C.more, lift_weigh G (omega arith) full T (each (λ _. 1))),
          λ o. C.there (sym (data_at h k p (pointer x k i) y (lift_pointer G (omega arith) full T i (omega arith)) full) ∙ o),
        )

    go : (b : Bool) → eqb (pointer w k i) 0 ≡ b → (c : Bool) → ltb z n ≡ c
        → elim b as (λ _. ℕ) [ true ↦ suc h | false ↦ miss w h (pointer w k i) p ] ≤ room map_place w n
        → ((r c : ℕ) (x : Bytes) → r ≡ above h p → Fit n x h r c → miss x h c p ≤ room map_place x n → Complete h r c p x (backed map_place n x h c p))
        → Complete (suc h) q k p w
        (elim b [
          | true ↦ elim c [ true ↦ backed map_place n (put_pointer (taken map_place w z) k i z) h z p | false ↦ w ]
          | false ↦ backed map_place n w h (pointer w k i) p
        ])
    go false t c u o rec =
        let full = eqb-false (pointer w k i) 0 t in
        let r = up_from w F full (rec (q * 256 + i) (pointer w k i) w num (fit_below F (omega arith) full) o) in
        record { more = rw (miss_full h k p w full) r.0; there = r.1 }
    go true t false u o rec = absurd (omega (arith, room_lowest map_place w n (omega arith), ltb-false z n u))
    go true t true u o rec =
        let hole = eqb-true (pointer w k i) 0 t in
        let zn = ltb-true z n u in
        let zf = lowest_free map_place w n zn in
        let x = put_pointer (taken map_place w z) k i z in
        let A = hung_work e F i z (omega arith) hole zn zf (rw num (omega (arith, first_above h p))) in
        let one = hung_weigh F i z (omega arith) hole zn zf (each (λ _. 1)) in
        let G = move_fit F A.move in
        let place : pointer x k i ≡ z = hung_at F i z (omega arith) hole zn zf in
        let full : pointer x k i ≡ 0 → ⊥ = λ y. free_some F z zn zf (sym place ∙ y) in
        let all : miss x h (pointer x k i) p ≡ h = rw place (miss_blank h z p x (hung_blank F i z (omega arith) hole zn zf)) in
        let r = up_from x G full (rec (q * 256 + i) (pointer x k i) x num (fit_below G (omega arith) full) (omega (arith, all, one, move_room F A.move))) in
        let r0 = r.0 in
        let done : Complete (suc h) q k p w (backed map_place n x h (pointer x k i) p) =
        record { more = rw (miss_hole h k p w hole) (omega (arith, r0, one, all)); there = r.1 } in
        rw place at done

-- a gauge with no share in the nodes above p
abbrev pub Aside : Gauge → ℕ → Type 0
Aside g p = (l x : ℕ) → g l (above l p) x ≡ 0

pub backed_aside : (g : Gauge) (n e h q k p : ℕ) (w : Bytes) → Aside g p → q ≡ above h p → p < e → Fit n w h q k
    → weigh g (backed map_place n w h k p) h q k ≡ weigh g w h q k
unfolding backed above
backed_aside g n e zero q k p w o s l F = refl
backed_aside g n e (suc h) q k p w o s l F =
    go (eqb (pointer w k i) 0) refl (ltb z n) refl (λ r c x t G. backed_aside g n e h r c p x o t l G)
  where
    i : ℕ
    i = above h p % 256

    z : ℕ
    z = lowest map_place w n

    num : q * 256 + i ≡ above h p
    num = omega arith

    Same : ℕ → ℕ → Bytes → Type 0
    Same r c x = weigh g (backed map_place n x h c p) h r c ≡ weigh g x h r c

    up : (x : Bytes) (G : Fit n x (suc h) q k) (full : pointer x k i ≡ 0 → ⊥) → Same (q * 256 + i) (pointer x k i) x
        → weigh g (backed map_place n x h (pointer x k i) p) (suc h) q k ≡ weigh g x (suc h) q k
    up x G full e' =
        let T = (backed_work n e h (q * 256 + i) (pointer x k i) p x num l (fit_below G (omega arith) full)).move in
        omega (arith, e', lift_weigh G (omega arith) full T g)

    go : (b : Bool) → eqb (pointer w k i) 0 ≡ b → (c : Bool) → ltb z n ≡ c
        → ((r c : ℕ) (x : Bytes) → r ≡ above h p → Fit n x h r c → Same r c x)
        → weigh g (elim b [
          | true ↦ elim c [ true ↦ backed map_place n (put_pointer (taken map_place w z) k i z) h z p | false ↦ w ]
          | false ↦ backed map_place n w h (pointer w k i) p
        ]) (suc h) q k
        ≡ weigh g w (suc h) q k
    go false t c u rec =
        let full = eqb-false (pointer w k i) 0 t in
        up w F full (rec (q * 256 + i) (pointer w k i) w num (fit_below F (omega arith) full))
    go true t false u rec = refl
    go true t true u rec =
        let hole = eqb-true (pointer w k i) 0 t in
        let zn = ltb-true z n u in
        let zf = lowest_free map_place w n zn in
        let x = put_pointer (taken map_place w z) k i z in
        let G = move_fit F (hung_move F i z (omega arith) hole zn zf) in
        let place : pointer x k i ≡ z = hung_at F i z (omega arith) hole zn zf in
        let full : pointer x k i ≡ 0 → ⊥ = λ y. free_some F z zn zf (sym place ∙ y) in
        rw place at (up x G full (rec (q * 256 + i) (pointer x k i) x num (fit_below G (omega arith) full)))
        ∙ hung_weigh F i z (omega arith) hole zn zf g
        ∙ rw (num, o h z) (omega arith)

-- Indexes of a tree by their numbers.
abbrev mark : ℕ → Gauge
mark i zero s x = 0
mark i (suc zero) s x = is i s
mark i (suc (suc l)) s x = 0

mark_low : (i s c : ℕ) (w : Bytes) → weigh (mark i) w 1 s c ≡ is i s
unfolding weigh
mark_low i s c w = omega (arith, upto_zero 256 _ (λ j l. part_zero (mark i) w 0 s c j (λ z. refl)))

mark_is : (i k : ℕ) (w : Bytes) → i < 256 → weigh (mark i) w 2 0 k + is (pointer w k i) 0 ≡ 1
unfolding weigh
mark_is i k w l =
    let alone =
    upto_one 256 i (arm (λ s p. weigh (mark i) w 1 s p) w 0 k) (λ _. 0) l
    (λ j m d. part_zero (mark i) w 1 0 k j (λ y. mark_low i (0 * 256 + j) (pointer w k j) w ∙ is_no i (0 * 256 + j) (λ t. d (omega arith)))) in
    let rest = upto_zero 256 (λ _. 0) (λ _ _. refl) in
    at_or_off (pointer w k i) 0
    (λ e. omega (arith, alone, rest, arm_hole (λ s p. weigh (mark i) w 1 s p) w 0 k i e, is_yes (pointer w k i) 0 e))
    (λ e.
    let z : 0 * 256 + i ≡ i = omega arith in
    omega (
      arith,
      alone,
      rest,
      arm_full (λ s p. weigh (mark i) w 1 s p) w 0 k i e,
      is_no (pointer w k i) 0 e,
      mark_low i (0 * 256 + i) (pointer w k i) w,
      is_yes i (0 * 256 + i) (sym z),
    ))

spot_aside : (r b p : ℕ) → (r ≡ p → ⊥) → Aside (spot r b) p
unfolding above
spot_aside r b p d zero x = rw (ne_eqb r p d) refl
spot_aside r b p d (suc l) x = refl

mark_aside : (i p : ℕ) → (i ≡ p / 256 → ⊥) → Aside (mark i) p
unfolding above
mark_aside i p d zero x = refl
mark_aside i p d (suc zero) x = is_no i (p / 256) d
mark_aside i p d (suc (suc l)) x = refl

-- what is missing for the file blocks p to p + c - 1 of a file of height g: indexes of a tree, and data blocks
holes : Bytes → ℕ → ℕ → ℕ → ℕ
holes w k p c = sum (λ i. is (pointer w k i) 0) (run (p / 256) ((p + c - 1) / 256 + 1 - p / 256))

gaps : Bytes → ℕ → ℕ → ℕ → ℕ → ℕ
gaps w g k p c = sum (λ r. is (data_block w g k r) 0) (run p c)

pub lacks : Bytes → ℕ → ℕ → ℕ → ℕ → ℕ
lacks w g k p c = elim (eqb g 2) [ true ↦ holes w k p c | false ↦ 0 ] + gaps w g k p c

lacks_low : (w : Bytes) (g k p c : ℕ) → (g ≡ 2 → ⊥) → lacks w g k p c ≡ gaps w g k p c
unfolding lacks
lacks_low w g k p c d = rw (ne_eqb g 2 d, lacks) (omega arith)

lacks_tree : (w : Bytes) (k p c : ℕ) → lacks w 2 k p c ≡ holes w k p c + gaps w 2 k p c
unfolding lacks
lacks_tree w k p c = refl

miss_none : (w : Bytes) (k p : ℕ) → (k ≡ 0 → ⊥) → miss w 0 k p ≡ is (data_block w 0 k p) 0
unfolding miss data_block
miss_none w k p some = sym (is_no k 0 some)

miss_one : (w : Bytes) (k p : ℕ) → miss w 1 k p ≡ is (data_block w 1 k p) 0
miss_one w k p =
    at_or_off (pointer w k (above 0 p % 256)) 0
    (λ e. rw (miss_hole 0 k p w e, data_hole 0 k p w e) (sym (is_self 0)))
    (λ d.
    let c = pointer w k (above 0 p % 256) in
    let e : data_block w 1 k p ≡ c = data_at 0 k p c w refl d ∙ (unfold data_block in refl) in
    rw (miss_full 0 k p w d, e, is_no c 0 d) (unfold miss in refl))

miss_two : (w : Bytes) (k p : ℕ) → miss w 2 k p ≡ is (pointer w k (above 1 p % 256)) 0 + is (data_block w 2 k p) 0
miss_two w k p =
    at_or_off (pointer w k (above 1 p % 256)) 0
    (λ e. rw (miss_hole 1 k p w e, data_hole 1 k p w e, is_yes (pointer w k (above 1 p % 256)) 0 e) (omega (arith, is_self 0)))
    (λ d.
    let c = pointer w k (above 1 p % 256) in
    rw (miss_full 1 k p w d, data_at 1 k p c w refl d, is_no c 0 d, miss_one w c p) (omega arith))

-- one file block in hand, and the rest as it was
module _ (w w' : Bytes) (g k e p c : ℕ) (path : (r : ℕ) → r < e → 0 ≡ above g r) (pe : p + suc c ≤ e)
    (same : (x : Gauge) → Aside x p → weigh x w' g 0 k ≡ weigh x w g 0 k) where
  gaps_step : gaps w' g k (p + 1) c + is (data_block w g k p) 0 ≡ gaps w g k p (suc c)
  unfolding gaps run sum
  gaps_step =
      rw (add-one p)
      (omega (
        arith,
        sum_eq (λ r. is (data_block w' g k r) 0) (λ r. is (data_block w g k r) 0) (run (suc p) c)
            (λ r m.
            let i = run_in_law c (suc p) r m in
            let l : r < e = omega (arith, i.1) in
            let d : r ≡ p → ⊥ = λ t. omega (arith, i.0) in
            ap (λ b. is b 0) (same_data w g 0 k w' g 0 k r (λ b. same (spot r b) (spot_aside r b p d)) (path r l) (path r l))),
      ))

run_first : (f : ℕ → ℕ) (a m : ℕ) → sum f (run a (suc m)) ≡ f a + sum f (run (suc a) m)
unfolding run sum
run_first f a m = refl

holes_step : (w w' : Bytes) (k p c : ℕ) → p + suc c ≤ 65536 → ((x : Gauge) → Aside x p → weigh x w' 2 0 k ≡ weigh x w 2 0 k)
    → (pointer w' k (p / 256) ≡ 0 → ⊥) → holes w' k (p + 1) c + is (pointer w k (p / 256)) 0 ≡ holes w k p (suc c)
unfolding holes
holes_step w w' k p c pe same d =
    let m : ℕ = (p + c) / 256 - p / 256 in
    let e : (p + suc c - 1) / 256 + 1 - p / 256 ≡ suc m = omega arith in
    let rest : sum (λ i. is (pointer w' k i) 0) (run (suc (p / 256)) m) ≡ sum (λ i. is (pointer w k i) 0) (run (suc (p / 256)) m) =
    sum_eq _ _ (run (suc (p / 256)) m) (λ i o.
    let r = run_in_law m (suc (p / 256)) i o in
    let il : i < 256 = omega (arith, r.1) in
    omega (arith, same (mark i) (mark_aside i p (λ t. omega (arith, r.0))), mark_is i k w il, mark_is i k w' il)) in
    let old = run_first (λ i. is (pointer w k i) 0) (p / 256) m in
    let new = run_first (λ i. is (pointer w' k i) 0) (p / 256) m in
    rw e
    (at_or_off ((p + 1) / 256) (p / 256)
    (λ f.
    let e' : (p + 1 + c - 1) / 256 + 1 - (p + 1) / 256 ≡ suc m = omega arith in
    rw (e', f) (omega (arith, old, new, rest, is_no (pointer w' k (p / 256)) 0 d)))
    (λ f.
    let f' : (p + 1) / 256 ≡ suc (p / 256) = omega arith in
    let e' : (p + 1 + c - 1) / 256 + 1 - (p + 1) / 256 ≡ m = omega arith in
    rw (e', f') (omega (arith, old, rest))))

pub lacks_step : (w w' : Bytes) (g k e p c : ℕ) → g ≤ 2 → e ≤ 65536 → ((r : ℕ) → r < e → 0 ≡ above g r) → p + suc c ≤ e → (k ≡ 0 → ⊥)
    → ((x : Gauge) → Aside x p → weigh x w' g 0 k ≡ weigh x w g 0 k) → (data_block w' g k p ≡ 0 → ⊥)
    → lacks w' g k (p + 1) c + miss w g k p ≡ lacks w g k p (suc c)
lacks_step w w' zero k e p c gl el path pe some same d =
    rw (lacks_low w' 0 k (p + 1) c (λ t. omega arith), lacks_low w 0 k p (suc c) (λ t. omega arith))
    (omega (arith, miss_none w k p some, gaps_step w w' 0 k e p c path pe same))
lacks_step w w' (suc zero) k e p c gl el path pe some same d =
    rw (lacks_low w' 1 k (p + 1) c (λ t. omega arith), lacks_low w 1 k p (suc c) (λ t. omega arith))
    (omega (arith, gaps_step w w' 1 k e p c path pe same, miss_one w k p))
lacks_step w w' (suc (suc zero)) k e p c gl el path pe some same d =
    let i : above 1 p % 256 ≡ p / 256 = unfold above in omega arith in
    rw (lacks_tree w' k (p + 1) c, lacks_tree w k p (suc c))
    (omega (
      arith,
      gaps_step w w' 2 k e p c path pe same,
      rw i at (miss_two w k p),
      holes_step w w' k p c (omega arith) same (λ z. d (data_hole 1 k p w' (rw i z))),
    ))
lacks_step w w' (suc (suc (suc g))) k e p c gl el path pe some same d = absurd (omega arith)

-- at the end nothing is missing
pub lacks_none : (w : Bytes) (g k p : ℕ) → g ≤ 2 → p < 65536 → (data_block w g k p ≡ 0 → ⊥) → lacks w g k (p + 1) 0 ≡ 0
lacks_none w zero k p gl pl d = rw (lacks_low w 0 k (p + 1) 0 (λ t. omega arith)) (unfold gaps run sum in refl)
lacks_none w (suc zero) k p gl pl d = rw (lacks_low w 1 k (p + 1) 0 (λ t. omega arith)) (unfold gaps run sum in refl)
lacks_none w (suc (suc zero)) k p gl pl d = rw (lacks_tree w k (p + 1) 0) (omega (arith, none, unused))
  where
    unused : gaps w 2 k (p + 1) 0 ≡ 0
    unused = unfold gaps run sum in refl

    there : pointer w k (p / 256) ≡ 0 → ⊥
    there z = let i : above 1 p % 256 ≡ p / 256 = unfold above in omega arith in d (data_hole 1 k p w (rw i z))

    none : holes w k (p + 1) 0 ≡ 0
    none =
        unfold holes in
        at_or_off ((p + 1) / 256) (p / 256)
        (λ f.
        let e : (p + 1 + 0 - 1) / 256 + 1 - (p + 1) / 256 ≡ 1 = omega arith in
        rw (e, f) (unfold run sum in omega (arith, is_no (pointer w k (p / 256)) 0 there)))
        (λ f.
        let e : (p + 1 + 0 - 1) / 256 + 1 - (p + 1) / 256 ≡ 0 = omega arith in
        rw e (unfold run sum in refl))
lacks_none w (suc (suc (suc g))) k p gl pl d = absurd (omega arith)

-- The need, counted before the new keys are taken.
above_low : (h r : ℕ) → h ≤ 2 → r < 256 ^ h → 0 ≡ above h r
unfolding above
above_low zero r l m = omega arith
above_low (suc zero) r l m = omega arith
above_low (suc (suc zero)) r l m = omega arith
above_low (suc (suc (suc h))) r l m = absurd (omega arith)

above_high : (h r : ℕ) → h ≤ 2 → 256 ^ h ≤ r → 0 ≡ above h r → ⊥
unfolding above
above_high zero r l m e = omega arith
above_high (suc zero) r l m e = omega arith
above_high (suc (suc zero)) r l m e = omega arith
above_high (suc (suc (suc h))) r l m e = omega arith

gap_need : (v : Bytes) (h k : ℕ) (w : Bytes) (g l : ℕ) → h ≤ 2 → Keyed v h k w g l → (r : ℕ) → 0 ≡ above g r
    → is (data_block w g l r) 0 ≡ lacks_block v h k r
unfolding lacks_block
gap_need v h k w g l hl keyed r t =
    by_lt r (256 ^ h)
    (λ m. rw (lt-ltb r (256 ^ h) m, lacks_block)
    (ap (λ b. is b 0) (same_data v h 0 k w g 0 l r (λ b. keyed (spot r b) (λ m c _. refl)) (above_low h r hl m) t)))
    (λ m. rw (le-ltb r (256 ^ h) m, lacks_block)
    (is_yes (data_block w g l r) 0 (by_zero (data_block w g l r) (λ z. z) (λ y.
    let b = data_block w g l r in
    let d : b ≡ 0 → ⊥ = λ z. omega arith in
    absurd
    (omega (
      arith,
      spot_is r b w g 0 l d t,
      is_self b,
      keyed (spot r b) (λ m c _. refl),
      spot_off r b v h 0 k (above_high h r hl m),
    ))))))

mark_key : (h i : ℕ) → (h ≡ 0 → i ≡ 0 → ⊥) → (m b : ℕ) → h ≤ m → mark i (suc m) 0 b ≡ 0
mark_key h i d zero b l = is_no i 0 (d (omega arith))
mark_key h i d (suc m) b l = refl

mark_none : (i k : ℕ) (w : Bytes) → weigh (mark i) w 0 0 k ≡ 0
unfolding weigh
mark_none i k w = refl

index_low : (v : Bytes) (h k i : ℕ) → (h ≡ 2 → ⊥) → lacks_index v h k i ≡ 1 - is i 0
unfolding lacks_index
index_low v h k i d = rw (ne_eqb h 2 d, lacks_index) refl

-- the key of a seedling stays, below pointer 0
key_there : (v : Bytes) (k : ℕ) (w : Bytes) (l : ℕ) → (k ≡ 0 → ⊥) → Keyed v 0 k w 2 l → pointer w l 0 ≡ 0 → ⊥
unfolding above data_block
key_there v k w l some keyed z =
    some (sym (same_data v 0 0 k w 2 0 l 0 (λ b. keyed (spot 0 b) (λ m c _. refl)) refl refl) ∙ data_hole 1 l 0 w z)

index_need : (v : Bytes) (h k : ℕ) (w : Bytes) (l : ℕ) → h ≤ 2 → (k ≡ 0 → ⊥) → Keyed v h k w 2 l → (i : ℕ) → i < 256
    → is (pointer w l i) 0 ≡ lacks_index v h k i
index_need v zero k w l hl some keyed i il =
    at_or_off i 0
    (λ e. rw e (omega (arith, index_low v 0 k 0 (λ z. omega arith), is_self 0, is_no (pointer w l 0) 0 (key_there v k w l some keyed))))
    (λ d. omega (arith, index_low v 0 k i (λ z. omega arith), is_no i 0 d, mark_none i k v, mark_is i l w il, keyed (mark i) (mark_key 0 i (λ _. d))))
index_need v (suc zero) k w l hl some keyed i il =
    omega (arith, index_low v 1 k i (λ z. omega arith), keyed (mark i) (mark_key 1 i (λ z _. omega arith)), mark_low i 0 k v, mark_is i l w il, is_most i 0)
index_need v (suc (suc zero)) k w l hl some keyed i il =
    unfold lacks_index in
    omega (arith, keyed (mark i) (mark_key 2 i (λ z _. omega arith)), mark_is i k v il, mark_is i l w il)
index_need v (suc (suc (suc h))) k w l hl some keyed i il = absurd (omega arith)

pub need_lacks : (v : Bytes) (h k : ℕ) (w : Bytes) (g l e p c : ℕ) → h ≤ 2 → (k ≡ 0 → ⊥) → Keyed v h k w g l
    → e ≤ 65536 → ((r : ℕ) → r < e → 0 ≡ above g r) → p + c ≤ e → 1 ≤ c → (g - h) + lacks w g l p c ≡ need v h k g p c
unfolding need
need_lacks v h k w g l e p c hl some keyed el path pe cl =
    let blocks : gaps w g l p c ≡ sum (lacks_block v h k) (run p c) =
    unfold gaps in
    sum_eq _ _ (run p c) (λ r m. let i = run_in_law c p r m in gap_need v h k w g l hl keyed r (path r (omega (arith, i.1)))) in
    at_or_off g 2
    (λ t. rw t
    (let more : Keyed v h k w 2 l = rw t at keyed in
    let indexes : holes w l p c ≡ sum (lacks_index v h k) (run (p / 256) ((p + c - 1) / 256 + 1 - p / 256)) =
    unfold holes in
    sum_eq _ _ (run (p / 256) ((p + c - 1) / 256 + 1 - p / 256)) (λ i m.
    let r = run_in_law ((p + c - 1) / 256 + 1 - p / 256) (p / 256) i m in
    index_need v h k w l hl some more i (omega (arith, r.1))) in
    rw (lacks_tree w l p c) (omega (arith, indexes, rw t at blocks))))
    (λ t. rw (lacks_low w g l p c t, ne_eqb g 2 t, need) (omega (arith, blocks)))

-- what one file block misses is among it
gaps_first : (w : Bytes) (g k p c : ℕ) → is (data_block w g k p) 0 ≤ gaps w g k p (suc c)
unfolding gaps run sum
gaps_first w g k p c = omega arith

holes_first : (w : Bytes) (k p c : ℕ) → is (pointer w k (p / 256)) 0 ≤ holes w k p (suc c)
unfolding holes
holes_first w k p c =
    let f : (p + suc c - 1) / 256 + 1 - p / 256 ≡ suc ((p + c) / 256 - p / 256) = omega arith in
    rw f (unfold run sum in omega arith)

pub miss_lacks : (w : Bytes) (g k p c : ℕ) → g ≤ 2 → p < 65536 → miss w g k p ≤ lacks w g k p (suc c)
miss_lacks w zero k p c gl pl = unfold miss in omega arith
miss_lacks w (suc zero) k p c gl pl =
    rw (lacks_low w 1 k p (suc c) (λ t. omega arith)) (omega (arith, miss_one w k p, gaps_first w 1 k p c))
miss_lacks w (suc (suc zero)) k p c gl pl =
    let i : above 1 p % 256 ≡ p / 256 = unfold above in omega arith in
    rw (lacks_tree w k p (suc c)) (omega (arith, rw i at (miss_two w k p), holes_first w k p c, gaps_first w 2 k p c))
miss_lacks w (suc (suc (suc g))) k p c gl pl = absurd (omega arith)

pub need_keys : (v : Bytes) (h k g p c : ℕ) → g - h ≤ need v h k g p c
unfolding need
need_keys v h k g p c = omega arith
