-- Blocks taken: a missing block below a pointer, a new key, and what is missing for a file block. Data laid in a data block.
use Prim.Native.Nat.{ℕ, zero, suc, ◌+◌, ◌*◌, ◌≤◌, ◌<◌, ◌/◌, ◌%◌}
use mathlib.Core.Path.{◌≡◌, refl, sym, ◌∙◌}
use mathlib.Core.Bool.{Bool, true, false}
use lib.Dec.{ltb, eqb}
use native.Mathlib.Omega.{arith}
use borrow.Author.Tests.{eqb-true, eqb-false, lt-leb, ltb-true}
use Rattle.model.specs.Bytes.{Bytes, Octets, is}
use Rattle.model.specs.Map.{map_blocks, free, lowest, taken, rest_clear}
use Rattle.model.specs.Directory.{map_place}
use Rattle.model.specs.File.{pointer, put_pointer, first_below, above, data_block}
use Rattle.model.specs.Grow.{topped, backed}
use Rattle.model.proofs.ByteLaws.{at_or_off}
use Rattle.model.proofs.BitLaws.{is_yes, is_no, is_both, taken_octets, rest_taken, same_free, same_rest, lowest_free}
use Rattle.model.proofs.SumLaws.{is_eq}
use Rattle.model.proofs.Laws.Frame.{Alike, pointer_in}
use Rattle.model.proofs.Laws.Weigh.{Gauge, weigh, each, tardy, has, part, arm_hole, arm_full, part_le, has_key, part_has, part_same, weigh_same, weigh_one, Blank, pointer_blank, weigh_blank, leaves, indexes, has_split, key_index}
use Rattle.model.proofs.Laws.Move.{by_zero, Off, map_alike, pointer_off, pointer_at, pointer_other, octets_pointer, taken_alike, taken_blank, taken_level, Fit, Move, move_none, move_fit, fit_off, fit_some, fit_key, free_off, free_some, free_out, move_then, fit_below, lift, lift_kept, lift_weigh}

-- z is taken, and p stored as pointer i of the block c
module _ {n : ℕ} {w : Bytes} {h q k : ℕ} (F : Fit n w h q k) (z : ℕ) (zn : z < n) (zf : free map_place w z ≡ 1) (c i p : ℕ) (il : i < 256) where
  abbrev tied : Bytes
  tied = put_pointer (taken map_place w z) c i p

  tied_bytes : Octets tied
  tied_bytes = octets_pointer (taken map_place w z) c i p (taken_octets map_place w z F.bytes)

  tied_kept : (b : ℕ) → (b ≡ z → ⊥) → Off n b → (b ≡ c → ⊥) → Alike 512 w tied b
  tied_kept b e m d j l = pointer_off (taken map_place w z) c i p b il d j l ∙ taken_alike n w z zn b e m j l

  tied_map : Off n c → (b : ℕ) → map_place ≤ b → b < map_place + map_blocks n → Alike 512 (taken map_place w z) tied b
  tied_map d b l m = pointer_off (taken map_place w z) c i p b il (λ e. d (rw (← e) l) (rw (← e) m))

  tied_rest : Off n c → rest_clear map_place tied n ≡ true
  tied_rest d =
      same_rest map_place n (taken map_place w z) tied (map_alike n _ _ (tied_map d)) (rest_taken map_place w z n F.bytes zn F.rest)

  tied_free : Off n c → (b : ℕ) → b < n → free map_place w b ≡ free map_place tied b + is z b
  tied_free d b l =
      rw (same_free map_place n (taken map_place w z) tied (map_alike n _ _ (tied_map d)) b l)
      (taken_level n w z zn F.bytes (free_off F z zn zf) zf b l)

-- pointer i of k, a hole, gets z
module _ {n : ℕ} {w : Bytes} {h q k : ℕ} (F : Fit n w (suc h) q k) (i z : ℕ) (il : i < 256) (hole : pointer w k i ≡ 0) (zn : z < n) (zf : free map_place w z ≡ 1) where
  abbrev hung : Bytes
  hung = put_pointer (taken map_place w z) k i z

  hung_kept : (b : ℕ) → (b ≡ z → ⊥) → Off n b → (b ≡ k → ⊥) → Alike 512 w hung b
  hung_kept = tied_kept F z zn zf k i z il

  key_z : k ≡ z → ⊥
  key_z = free_out F z zn zf k (has_key w (suc h) q k)

  key_off : Off n k
  key_off = fit_off F k (has_key w (suc h) q k)

  hung_pointer : (j : ℕ) → j < 256 → (j ≡ i → ⊥) → pointer hung k j ≡ pointer w k j
  hung_pointer j l d =
      pointer_other (taken map_place w z) k i z j il l d
      ∙ pointer_in w (taken map_place w z) k j (taken_alike n w z zn k key_z key_off) l

  pub hung_at : pointer hung k i ≡ z
  hung_at = pointer_at (taken map_place w z) k i z (omega (arith, F.small))

  pub hung_blank : Blank hung z
  hung_blank j l = pointer_off (taken map_place w z) k i z z il (λ e. key_z (sym e)) j l ∙ taken_blank n w z zn j l

  hung_new : (g : Gauge) → part g hung h q k i ≡ g h (q * 256 + i) z
  hung_new g =
      arm_full _ hung q k i (λ e. free_some F z zn zf (sym hung_at ∙ e))
      ∙ rw hung_at (weigh_blank g hung h (q * 256 + i) z hung_blank)

  pub hung_weigh : (g : Gauge) → weigh g hung (suc h) q k ≡ weigh g w (suc h) q k + g h (q * 256 + i) z
  hung_weigh g =
      omega (
        arith,
        hung_new g,
        arm_hole (λ r p. weigh g w h r p) w q k i hole,
        weigh_one g w hung h q k i il (λ j l d.
            part_same g w hung h q k j (hung_pointer j l d) (λ y. weigh_same g w hung h (q * 256 + j) (pointer w k j) (λ b t.
            let more = part_has w h q k j b l y in
            let some : 1 ≤ has w (suc h) q k b = omega arith in
            hung_kept b (free_out F z zn zf b some) (fit_off F b some) (λ e. omega (arith, F.apart b (F.range b some), is_yes b k e))))),
      )

  pub hung_move : Move n w (suc h) q k hung (suc h) q k
  hung_move =
      record {
        bytes = tied_bytes F z zn zf k i z il;
        rest = tied_rest F z zn zf k i z il key_off;
        range = λ b m. at_or_off b z (λ e. rw e zn) (λ e. F.range b (omega (arith, hung_weigh (each (is b)), is_no b z e)));
        level = λ b l. omega (arith, hung_weigh (each (is b)), tied_free F z zn zf k i z il key_off b l, is_both b z z b sym sym);
        same = λ b l e m. hung_kept b (λ s. omega (arith, rw s at e)) m (λ s. omega (arith, has_key w (suc h) q k, rw s at e));
      }

-- a new key z over the tree of k
module _ {n : ℕ} {w : Bytes} {h k : ℕ} (F : Fit n w h 0 k) (z : ℕ) (zn : z < n) (zf : free map_place w z ≡ 1) where
  abbrev risen : Bytes
  risen = topped map_place w k z

  pub topped_kept : (b : ℕ) → (b ≡ z → ⊥) → Off n b → Alike 512 w risen b
  topped_kept b e m = tied_kept F z zn zf z 0 k (omega arith) b e m e

  topped_at : pointer risen z 0 ≡ k
  topped_at = pointer_at (taken map_place w z) z 0 k (omega (arith, fit_key F, F.small))

  topped_other : (j : ℕ) → j < 256 → (j ≡ 0 → ⊥) → pointer risen z j ≡ 0
  topped_other j l d =
      pointer_other (taken map_place w z) z 0 k j (omega arith) l d ∙ pointer_blank (taken map_place w z) z j (taken_blank n w z zn) l

  topped_full : pointer risen z 0 ≡ 0 → ⊥
  topped_full e = fit_some F k (has_key w h 0 k) (sym topped_at ∙ e)

  topped_below : (g : Gauge) → weigh g risen h 0 k ≡ weigh g w h 0 k
  topped_below g = weigh_same g w risen h 0 k (λ b t. topped_kept b (free_out F z zn zf b t) (fit_off F b t))

  pub topped_weigh : (g : Gauge) → weigh g risen (suc h) 0 z ≡ g (suc h) 0 z + weigh g w h 0 k
  topped_weigh g =
      let blank = taken_blank n w z zn in
      let old : part g risen h 0 z 0 ≡ weigh g w h 0 k = arm_full _ risen 0 z 0 topped_full ∙ rw topped_at (topped_below g) in
      omega (
        arith,
        old,
        arm_hole (λ r p. weigh g (taken map_place w z) h r p) (taken map_place w z) 0 z 0 (pointer_blank (taken map_place w z) z 0 blank (omega arith)),
        weigh_blank g (taken map_place w z) (suc h) 0 z blank,
        weigh_one g (taken map_place w z) risen h 0 z 0 (omega arith) (λ j l d.
            arm_hole _ risen 0 z j (topped_other j l d)
            ∙ sym (arm_hole _ (taken map_place w z) 0 z j (pointer_blank (taken map_place w z) z j blank l))),
      )

  pub topped_move : Move n w h 0 k risen (suc h) 0 z
  topped_move =
      record {
        bytes = tied_bytes F z zn zf z 0 k (omega arith);
        rest = tied_rest F z zn zf z 0 k (omega arith) (free_off F z zn zf);
        range = λ b m. at_or_off b z (λ e. rw e zn) (λ e. F.range b (omega (arith, topped_weigh (each (is b)), is_no b z e)));
        level = λ b l. omega (arith, topped_weigh (each (is b)), tied_free F z zn zf z 0 k (omega arith) (free_off F z zn zf) b l, is_both b z z b sym sym);
        same = λ b l e m. topped_kept b (λ s. omega (arith, rw s at e)) m;
      }

-- A tree that grows: nodes before the file block e are added, nodes and data bytes stay, new data blocks are zero.
pub record Work (n e : ℕ) (w : Bytes) (h q k : ℕ) (w' : Bytes) (h' q' k' : ℕ) : Type 0 where
  pub move : Move n w h q k w' h' q' k'
  pub timely : weigh (tardy e) w h q k ≡ 0 → weigh (tardy e) w' h' q' k' ≡ 0
  pub grows : (g : Gauge) → weigh g w h q k ≤ weigh g w' h' q' k'
  pub data_kept : (b : ℕ) → 1 ≤ weigh (leaves b) w h q k → Alike 512 w w' b
  pub fresh : (b : ℕ) → 1 ≤ weigh (leaves b) w' h' q' k' → weigh (leaves b) w h q k ≡ 0 → Blank w' b

pub work_none : {n : ℕ} {w : Bytes} {h q k : ℕ} (e : ℕ) → Fit n w h q k → Work n e w h q k w h q k
work_none e F =
    record { move = move_none F; timely = λ t. t; grows = λ g. omega arith; data_kept = λ b m j l. refl; fresh = λ b m z. absurd (omega arith) }

pub work_then : {n e : ℕ} {w : Bytes} {h q k : ℕ} {w' : Bytes} {h' q' k' : ℕ} {w'' : Bytes} {h'' q'' k'' : ℕ}
    → Work n e w h q k w' h' q' k' → Work n e w' h' q' k' w'' h'' q'' k'' → Work n e w h q k w'' h'' q'' k''
work_then {w' = w'} {h'} {q'} {k'} A B =
    record {
      move = move_then A.move B.move;
      timely = λ t. B.timely (A.timely t);
      grows = λ g. omega (arith, A.grows g, B.grows g);
      data_kept = λ b m j l. B.data_kept b (omega (arith, A.grows (leaves b))) j l ∙ A.data_kept b m j l;
      fresh = λ b m z. by_zero (weigh (leaves b) w' h' q' k') (B.fresh b m) (λ y j l. B.data_kept b y j l ∙ A.fresh b y z j l);
    }

new_leaf : (b h s z : ℕ) → 1 ≤ leaves b h s z → b ≡ z
new_leaf b zero s z m = is_eq b z m
new_leaf b (suc h) s z m = absurd (omega arith)

-- a block taken before the end
pub hung_work : {n : ℕ} {w : Bytes} {h q k : ℕ} (e : ℕ) (F : Fit n w (suc h) q k) (i z : ℕ) → i < 256 → pointer w k i ≡ 0 → z < n
    → free map_place w z ≡ 1 → first_below h (q * 256 + i) < e → Work n e w (suc h) q k (put_pointer (taken map_place w z) k i z) (suc h) q k
hung_work {w = w} {h} {q} {k} e F i z il hole zn zf l =
    record {
      move = hung_move F i z il hole zn zf;
      timely = λ t. hung_weigh F i z il hole zn zf (tardy e) ∙ rw (t, lt-leb e (first_below h (q * 256 + i)) l) refl;
      grows = λ g. omega (arith, hung_weigh F i z il hole zn zf g);
      data_kept = λ b m.
          let some : 1 ≤ has w (suc h) q k b = omega (arith, has_split w (suc h) q k b) in
          hung_kept F i z il hole zn zf b (free_out F z zn zf b some) (fit_off F b some)
          (λ s. omega (arith, rw s at m, key_index w h q k, has_split w (suc h) q k k, F.apart k (fit_key F)));
      fresh = λ b m y.
          rw (new_leaf b h (q * 256 + i) z (omega (arith, hung_weigh F i z il hole zn zf (leaves b)))) (hung_blank F i z il hole zn zf);
    }

-- below a pointer
work_lift : {n : ℕ} {w : Bytes} {h q k i : ℕ} {e : ℕ} {w' : Bytes} (F : Fit n w (suc h) q k) (il : i < 256) (full : pointer w k i ≡ 0 → ⊥)
    → Work n e w h (q * 256 + i) (pointer w k i) w' h (q * 256 + i) (pointer w k i) → Work n e w (suc h) q k w' (suc h) q k
work_lift {w = w} {h} {q} {k} {i} {e} F il full A =
    record {
      move = lift F il full A.move;
      timely = λ t.
          let sum = lift_weigh F il full A.move (tardy e) in
          omega (arith, A.timely (omega (arith, part_le (tardy e) w h q k i il, arm_full (λ r p. weigh (tardy e) w h r p) w q k i full)));
      grows = λ g. omega (arith, A.grows g, lift_weigh F il full A.move g);
      data_kept = λ b m.
          let more = has_split w (suc h) q k b in
          let some : 1 ≤ has w (suc h) q k b = omega arith in
          by_zero (has w h (q * 256 + i) (pointer w k i) b) (λ z. lift_kept F il full A.move b some z)
          (λ z. A.data_kept b (omega (
            arith,
            has_split w h (q * 256 + i) (pointer w k i) b,
            F.apart b (F.range b some),
            part_le (indexes b) w h q k i il,
            arm_full (λ r c. weigh (indexes b) w h r c) w q k i full,
          )));
      fresh = λ b m z.
          let sum = lift_weigh F il full A.move (leaves b) in
          let below = part_le (leaves b) w h q k i il in
          let here = arm_full (λ r p. weigh (leaves b) w h r p) w q k i full in
          A.fresh b (omega arith) (omega arith);
    }

-- Numbers of nodes above a file block.
pub first_le : (h q r : ℕ) → q ≤ r → first_below h q ≤ first_below h r
unfolding first_below
first_le zero q r l = l
first_le (suc h) q r l = first_le h (q * 256) (r * 256) (omega arith)

pub first_above : (h p : ℕ) → first_below h (above h p) ≤ p
unfolding first_below above
first_above zero p = omega arith
first_above (suc h) p = omega (arith, first_le h (above h p / 256 * 256) (above h p) (omega arith), first_above h p)

-- what is missing for the file block p is taken
pub backed_work : (n e h q k p : ℕ) (w : Bytes) → q ≡ above h p → p < e → Fit n w h q k
    → Work n e w h q k (backed map_place n w h k p) h q k
unfolding backed above
backed_work n e zero q k p w s l F = work_none e F
backed_work n e (suc h) q k p w s l F =
    go (eqb (pointer w k i) 0) refl (ltb z n) refl (λ r c x t G. backed_work n e h r c p x t l G)
  where
    i : ℕ
    i = above h p % 256

    z : ℕ
    z = lowest map_place w n

    num : q * 256 + i ≡ above h p
    num = omega arith

    go : (b : Bool) → eqb (pointer w k i) 0 ≡ b → (c : Bool) → ltb z n ≡ c
        → ((r c : ℕ) (x : Bytes) → r ≡ above h p → Fit n x h r c → Work n e x h r c (backed map_place n x h c p) h r c)
        → Work n e w (suc h) q k
        (elim b [
          | true ↦ elim c [ true ↦ backed map_place n (put_pointer (taken map_place w z) k i z) h z p | false ↦ w ]
          | false ↦ backed map_place n w h (pointer w k i) p
        ]) (suc h) q k
    go false t c u rec =
        let full = eqb-false (pointer w k i) 0 t in
        work_lift F (omega arith) full (rec (q * 256 + i) (pointer w k i) w num (fit_below F (omega arith) full))
    go true t false u rec = work_none e F
    go true t true u rec =
        let hole = eqb-true (pointer w k i) 0 t in
        let zn = ltb-true z n u in
        let zf = lowest_free map_place w n zn in
        let x = put_pointer (taken map_place w z) k i z in
        let A = hung_work e F i z (omega arith) hole zn zf (rw num (omega (arith, first_above h p))) in
        let G = move_fit F A.move in
        let place : pointer x k i ≡ z = hung_at F i z (omega arith) hole zn zf in
        let full : pointer x k i ≡ 0 → ⊥ = λ y. free_some F z zn zf (sym place ∙ y) in
        work_then A
        (rw place at (work_lift {e = e} G (omega arith) full (rec (q * 256 + i) (pointer x k i) x num (fit_below G (omega arith) full))))

-- Data bytes change: a move that keeps every sum.
pub record Still (n : ℕ) (w : Bytes) (h q k : ℕ) (w' : Bytes) : Type 0 where
  pub move : Move n w h q k w' h q k
  pub weights : (g : Gauge) → weigh g w' h q k ≡ weigh g w h q k

pub still_none : {n : ℕ} {w : Bytes} {h q k : ℕ} → Fit n w h q k → Still n w h q k w
still_none F = record { move = move_none F; weights = λ g. refl }

still_base : {n : ℕ} {w : Bytes} {q k : ℕ} (w' : Bytes) → Fit n w 0 q k → Octets w' → ((b : ℕ) → (b ≡ k → ⊥) → Alike 512 w w' b) → Still n w 0 q k w'
unfolding weigh
still_base {n} {w} {q} {k} w' F s f =
    let same = map_alike n w w' (λ b p r. f b (λ t. omega (arith, F.plan b p r, is_yes b k t))) in
    record {
      move =
          record {
            bytes = s;
            rest = same_rest map_place n w w' same F.rest;
            range = F.range;
            level = λ b l. rw (same_free map_place n w w' same b l) refl;
            same = λ b l z m. f b (λ t. omega (arith, is_yes b k t));
          };
      weights = λ g. refl;
    }

still_lift : {n : ℕ} {w : Bytes} {h q k i : ℕ} {w' : Bytes} → Fit n w (suc h) q k → i < 256 → (pointer w k i ≡ 0 → ⊥)
    → Still n w h (q * 256 + i) (pointer w k i) w' → Still n w (suc h) q k w'
still_lift F il full A =
    record {
      move = lift F il full A.move;
      weights = λ g. omega (arith, A.weights g, lift_weigh F il full A.move g);
    }

-- only the data block of the file block p changes
pub data_still : (n h q k p : ℕ) (w w' : Bytes) → Fit n w h q k → Octets w' → (data_block w h k p ≡ 0 → ⊥)
    → ((b : ℕ) → (b ≡ data_block w h k p → ⊥) → Alike 512 w w' b) → Still n w h q k w'
unfolding data_block
data_still n zero q k p w w' F s d f = still_base w' F s f
data_still n (suc h) q k p w w' F s d f = go (eqb (pointer w k i) 0) refl d f (data_still n h (q * 256 + i) (pointer w k i) p w w')
  where
    i : ℕ
    i = above h p % 256

    leaf : Bool → ℕ
    leaf b = elim b [ true ↦ 0 | false ↦ data_block w h (pointer w k i) p ]

    go : (b : Bool) → eqb (pointer w k i) 0 ≡ b → (leaf b ≡ 0 → ⊥) → ((x : ℕ) → (x ≡ leaf b → ⊥) → Alike 512 w w' x)
        → (Fit n w h (q * 256 + i) (pointer w k i) → Octets w' → (data_block w h (pointer w k i) p ≡ 0 → ⊥)
        → ((x : ℕ) → (x ≡ data_block w h (pointer w k i) p → ⊥) → Alike 512 w w' x) → Still n w h (q * 256 + i) (pointer w k i) w')
        → Still n w (suc h) q k w'
    go true t u v rec = absurd (u refl)
    go false t u v rec =
        let full = eqb-false (pointer w k i) 0 t in
        still_lift F (omega arith) full (rec (fit_below F (omega arith) full) s u v)
