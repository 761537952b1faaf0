-- What is late is cut off: exactly the nodes before the end stay. The bytes before the new end stay as keys give way and late parts go.
use Prim.Native.Nat.{ℕ, zero, suc, ◌+◌, ◌*◌, ◌≤◌, ◌<◌, ◌/◌, ◌%◌}
use mathlib.Core.Path.{◌≡◌, refl, sym, ◌∙◌}
use mathlib.Core.Bool.{Bool, true, false}
use lib.Dec.{leb, eqb}
use native.Mathlib.Omega.{arith}
use borrow.Author.Tests.{eqb-true, eqb-false, leb-true, leb-false, le-leb, lt-leb}
use Rattle.model.specs.Bytes.{Bytes, count, is, one_if}
use Rattle.model.specs.Directory.{map_place}
use Rattle.model.specs.File.{pointer, put_pointer, first_below, nodes, blocks_in, above, data_block, file_byte}
use Rattle.model.specs.Calls.{given_all}
use Rattle.model.specs.SetEof.{lowered, heir, sunk, sunk_key, each_pointer, trimmed, pruned}
use Rattle.model.proofs.ByteLaws.{at_or_off}
use Rattle.model.proofs.BitLaws.{is_yes, same_free, same_rest}
use Rattle.model.proofs.Laws.Frame.{Alike, pointer_in}
use Rattle.model.proofs.Laws.Weigh.{upto_eq, upto_zero, Gauge, arm, weigh, each, tardy, has, part, arm_hole, arm_full, nodes_count, part_le, has_key, part_has, weigh_le, weigh_one, part_same, weigh_same, part_zero, weigh_zero, Blank, pointer_blank, leaves, indexes, has_split, key_index}
use Rattle.model.proofs.Laws.Move.{by_zero, Off, map_alike, pointer_off, pointer_at, pointer_other, octets_pointer, Fit, Move, move_none, move_fit, fit_off, fit_key, move_then, fit_below, lift, lift_kept, lift_part, lift_full, lift_weigh}
use Rattle.model.proofs.Laws.Take.{first_le}
use Rattle.model.proofs.Laws.Data.{when, spot, data_leaf, data_has, same_data, file_hole, file_full, file_same}
use Rattle.model.proofs.Laws.Need.{data_hole, data_at}
use Rattle.model.proofs.Laws.Give.{Freed, freed_all, lowered_move, lowered_hole, lowered_full, heir_hole, heir_full, cleared_blank, heir_in}

-- a gauge at the nodes before the end e
abbrev pub early : ℕ → Gauge → Gauge
early e g l s x = when (leb e (first_below l s)) 0 (g l s x)

-- A late part cut off.
module _ {n : ℕ} {w : Bytes} {h q k i : ℕ} (F : Fit n w (suc h) q k) (il : i < 256) (full : pointer w k i ≡ 0 → ⊥) where
  abbrev pub bare : Bytes
  bare = given_all map_place w (blocks_in (nodes w h (q * 256 + i) (pointer w k i)))

  abbrev pub cut : Bytes
  cut = put_pointer bare k i 0

  gone : Freed n w (λ b. count b (blocks_in (nodes w h (q * 256 + i) (pointer w k i)))) bare
  gone =
      freed_all F (blocks_in (nodes w h (q * 256 + i) (pointer w k i)))
      (λ b. omega (arith, nodes_count w h (q * 256 + i) (pointer w k i) b, part_has w h q k i b il full))

  cut_key : Off n k
  cut_key = fit_off F k (has_key w (suc h) q k)

  cut_kept : (b : ℕ) → Off n b → (b ≡ k → ⊥) → Alike 512 w cut b
  cut_kept b m d j l = pointer_off bare k i 0 b il d j l ∙ gone.kept b m j l

  cut_part : (g : Gauge) (j : ℕ) → j < 256 → (j ≡ i → ⊥) → part g cut h q k j ≡ part g w h q k j
  cut_part g j m d =
      part_same g w cut h q k j (pointer_other bare k i 0 j il m d ∙ pointer_in w bare k j (gone.kept k cut_key) m)
      (λ z. weigh_same g w cut h (q * 256 + j) (pointer w k j) (λ b t.
      let more = part_has w h q k j b m z in
      let some : 1 ≤ has w (suc h) q k b = omega arith in
      cut_kept b (fit_off F b some) (λ e. omega (arith, F.apart b (F.range b some), is_yes b k e))))

  cut_none : (g : Gauge) → part g cut h q k i ≡ 0
  cut_none g = arm_hole _ cut q k i (pointer_at bare k i 0 (omega arith))

  pub cut_move : Move n w (suc h) q k cut (suc h) q k
  cut_move =
      let less : (b : ℕ) → has cut (suc h) q k b + has w h (q * 256 + i) (pointer w k i) b ≡ has w (suc h) q k b =
      λ b. omega (arith, cut_none (each (is b)), arm_full (λ r p. has w h r p b) w q k i full, weigh_one (each (is b)) w cut h q k i il (cut_part (each (is b)))) in
      let same = map_alike n bare cut (λ b p r. pointer_off bare k i 0 b il (λ e. cut_key (rw (← e) p) (rw (← e) r))) in
      record {
        bytes = octets_pointer bare k i 0 gone.bytes;
        rest = same_rest map_place n bare cut same gone.rest;
        range = λ b m. F.range b (omega (arith, less b));
        level = λ b l.
            omega
            (arith, less b, gone.freed b, nodes_count w h (q * 256 + i) (pointer w k i) b, same_free map_place n bare cut same b l);
        same = λ b l z m. cut_kept b m (λ e. omega (arith, has_key w (suc h) q k, rw e at z));
      }

-- what is late is below what is late
late_all : (g : Gauge) (e h r p : ℕ) (w : Bytes) → e ≤ first_below h r → weigh (early e g) w h r p ≡ 0
unfolding weigh first_below
late_all g e zero r p w l = rw (le-leb e r l) refl
late_all g e (suc h) r p w l =
    rw (le-leb e (first_below h (r * 256)) l)
    (omega (
      arith,
      upto_zero 256 _ (λ i m. part_zero (early e g) w h r p i
          (λ z. late_all g e h (r * 256 + i) (pointer w p i) w (omega (arith, first_le h (r * 256) (r * 256 + i) (omega arith))))),
    ))

-- A tree that shrinks in place: surviving data blocks keep their bytes.
pub record Less (n : ℕ) (w : Bytes) (h q k : ℕ) (w' : Bytes) : Type 0 where
  pub move : Move n w h q k w' h q k
  pub shrinks : (g : Gauge) → weigh g w' h q k ≤ weigh g w h q k
  pub data_kept : (b : ℕ) → 1 ≤ weigh (leaves b) w' h q k → Alike 512 w w' b

less_none : {n : ℕ} {w : Bytes} {h q k : ℕ} → Fit n w h q k → Less n w h q k w
less_none F = record { move = move_none F; shrinks = λ g. omega arith; data_kept = λ b m j l. refl }

less_then : {n : ℕ} {w : Bytes} {h q k : ℕ} {w' w'' : Bytes} → Less n w h q k w' → Less n w' h q k w'' → Less n w h q k w''
less_then A B =
    record {
      move = move_then A.move B.move;
      shrinks = λ g. omega (arith, A.shrinks g, B.shrinks g);
      data_kept = λ b m j l. B.data_kept b m j l ∙ A.data_kept b (omega (arith, B.shrinks (leaves b))) j l;
    }

module _ {n : ℕ} {w : Bytes} {h q k i : ℕ} (F : Fit n w (suc h) q k) (il : i < 256) (full : pointer w k i ≡ 0 → ⊥) where
  less_cut : Less n w (suc h) q k (cut F il full)
  less_cut =
      let w' : Bytes = cut F il full in
      let T = cut_move F il full in
      let G = move_fit F T in
      record {
        move = T;
        shrinks = λ g. omega (arith, cut_none F il full g, weigh_one g w w' h q k i il (cut_part F il full g));
        data_kept = λ b m.
            let all = has_split w' (suc h) q k b in
            cut_kept F il full b (fit_off G b (omega arith))
            (λ s. omega (arith, rw s at m, has_split w' (suc h) q k k, key_index w' h q k, G.apart k (fit_key G)));
      }

  less_lift : {w' : Bytes} → Less n w h (q * 256 + i) (pointer w k i) w' → Less n w (suc h) q k w'
  less_lift {w'} A =
      let T = lift F il full A.move in
      let G = move_fit F T in
      let shift = lift_weigh F il full A.move in
      record {
        move = T;
        shrinks = λ g. omega (arith, A.shrinks g, shift g);
        data_kept = λ b m.
            let all = has_split w' (suc h) q k b in
            let bn = G.range b (omega arith) in
            let sum = shift (each (is b)) in
            let one = F.apart b bn in
            let one' = G.apart b bn in
            by_zero (has w' h (q * 256 + i) (pointer w k i) b)
            (λ z. lift_kept F il full A.move b (omega arith) (omega (arith, part_has w h q k i b il full)))
            (λ z. A.data_kept b (omega
            (arith, has_split w' h (q * 256 + i) (pointer w k i) b, part_le (indexes b) w' h q k i il, lift_full F il full A.move (indexes b))));
      }

-- A tree cut at the end e: exactly the early nodes stay.
pub record Pruned (n e : ℕ) (w : Bytes) (h q k : ℕ) (w' : Bytes) : Type 0 where
  pub less : Less n w h q k w'
  pub stays : (g : Gauge) → weigh g w' h q k ≡ weigh (early e g) w h q k

-- one pointer
record Trimmed (n e : ℕ) (w : Bytes) (h q k i : ℕ) (w' : Bytes) : Type 0 where
  less : Less n w (suc h) q k w'
  rest : (g : Gauge) (j : ℕ) → j < 256 → (j ≡ i → ⊥) → part g w' h q k j ≡ part g w h q k j
  here : (g : Gauge) → part g w' h q k i ≡ part (early e g) w h q k i

-- what the pruning of the trees of height h does
abbrev Prunes : ℕ → ℕ → ℕ → (Bytes → ℕ → ℕ → Bytes) → Type 0
Prunes n e h P = (r p : ℕ) (x : Bytes) → Fit n x h r p → first_below h r < e → Pruned n e x h r p (P x r p)

trim_one : (n e h q k i : ℕ) (P : Bytes → ℕ → ℕ → Bytes) (w : Bytes) → Prunes n e h P → Fit n w (suc h) q k → i < 256
    → Trimmed n e w h q k i (trimmed map_place P e h q k i w)
unfolding trimmed
trim_one n e h q k i P w rec F il = go (eqb (pointer w k i) 0) refl (leb e (first_below h (q * 256 + i))) refl
  where
    go : (b : Bool) → eqb (pointer w k i) 0 ≡ b → (c : Bool) → leb e (first_below h (q * 256 + i)) ≡ c
        → Trimmed n e w h q k i
        (elim b [
          | true ↦ w
          | false ↦
              elim c [
                | true ↦ put_pointer (given_all map_place w (blocks_in (nodes w h (q * 256 + i) (pointer w k i)))) k i 0
                | false ↦ P w (q * 256 + i) (pointer w k i)
              ]
        ])
    go true s c t =
        let z = eqb-true (pointer w k i) 0 s in
        record { less = less_none F; rest = λ g j m d. refl; here = λ g. arm_hole _ w q k i z ∙ sym (arm_hole _ w q k i z) }
    go false s true t =
        let full = eqb-false (pointer w k i) 0 s in
        record {
          less = less_cut F il full;
          rest = cut_part F il full;
          here = λ g.
              cut_none F il full g
              ∙ sym (part_zero (early e g) w h q k i (λ z. late_all g e h (q * 256 + i) (pointer w k i) w (leb-true e (first_below h (q * 256 + i)) t)));
        }
    go false s false t =
        let full = eqb-false (pointer w k i) 0 s in
        let A = rec (q * 256 + i) (pointer w k i) w (fit_below F il full) (leb-false e (first_below h (q * 256 + i)) t) in
        record {
          less = less_lift F il full A.less;
          rest = lift_part F il full A.less.move;
          here = λ g. lift_full F il full A.less.move g ∙ A.stays g ∙ sym (arm_full _ w q k i full);
        }

-- the pointers below c
record Shorn (n e : ℕ) (w : Bytes) (h q k c : ℕ) (w' : Bytes) : Type 0 where
  less : Less n w (suc h) q k w'
  done : (g : Gauge) (i : ℕ) → i < c → part g w' h q k i ≡ part (early e g) w h q k i
  todo : (g : Gauge) (i : ℕ) → c ≤ i → i < 256 → part g w' h q k i ≡ part g w h q k i

trim_all : (n e h q k c : ℕ) (P : Bytes → ℕ → ℕ → Bytes) (w : Bytes) → Prunes n e h P → Fit n w (suc h) q k → c ≤ 256
    → Shorn n e w h q k c (each_pointer c (λ i x. trimmed map_place P e h q k i x) w)
unfolding each_pointer
trim_all n e h q k zero P w rec F l = record { less = less_none F; done = λ g i m. absurd (omega arith); todo = λ g i m o. refl }
trim_all n e h q k (suc c) P w rec F l =
    let x = each_pointer c (λ i y. trimmed map_place P e h q k i y) w in
    let A = trim_all n e h q k c P w rec F (omega arith) in
    let B = trim_one n e h q k c P x rec (move_fit F A.less.move) (omega arith) in
    record {
      less = less_then A.less B.less;
      done = λ g i m. at_or_off i c (λ s. rw s (B.here g ∙ A.todo (early e g) c (omega arith) (omega arith)))
          (λ s. B.rest g i (omega arith) s ∙ A.done g i (omega arith));
      todo = λ g i m o. B.rest g i o (λ s. omega arith) ∙ A.todo g i (omega arith) o;
    }

weigh_parts : (f g : Gauge) (w w' : Bytes) (h q k : ℕ) → f (suc h) q k ≡ g (suc h) q k → ((i : ℕ) → i < 256 → part f w' h q k i ≡ part g w h q k i)
    → weigh f w' (suc h) q k ≡ weigh g w (suc h) q k
unfolding weigh
weigh_parts f g w w' h q k e t = omega (arith, e, upto_eq 256 (arm (λ r p. weigh f w' h r p) w' q k) (arm (λ r p. weigh g w h r p) w q k) t)

pub prune : (n e h q k : ℕ) (w : Bytes) → Fit n w h q k → first_below h q < e → Pruned n e w h q k (pruned map_place e w h q k)
unfolding pruned
prune n e zero q k w F l = record { less = less_none F; stays = λ g. unfold weigh in rw (lt-leb e (first_below 0 q) l) refl }
prune n e (suc h) q k w F l =
    let A = trim_all n e h q k 256 (λ y r c. pruned map_place e y h r c) w (λ r p x G m. prune n e h r p x G m) F (omega arith) in
    record { less = A.less; stays = λ g. weigh_parts g (early e g) w _ h q k (rw (lt-leb e (first_below (suc h) q) l) refl) (A.done g) }

pub prune_move : {n e : ℕ} {w : Bytes} {h q k : ℕ} {w' : Bytes} → Pruned n e w h q k w' → Move n w h q k w' h q k
prune_move A = A.less.move

pub prune_late : {n e : ℕ} {w : Bytes} {h q k : ℕ} {w' : Bytes} → Pruned n e w h q k w' → weigh (tardy e) w' h q k ≡ 0
prune_late {e = e} {w} {h} {q} {k} A = A.stays (tardy e) ∙ weigh_zero (early e (tardy e)) w h q k (λ l r b _. go (leb e (first_below l r)))
  where
    go : (t : Bool) → when t 0 (one_if t) ≡ 0
    go true = refl
    go false = refl

-- Bytes before the end.
early_spot : (e r b l s x : ℕ) → r < e → early e (spot r b) l s x ≡ spot r b l s x
unfolding first_below
early_spot e r b zero s x m = go (eqb r s) refl (leb e s) refl
  where
    go : (t : Bool) → eqb r s ≡ t → (u : Bool) → leb e s ≡ u → when u 0 (when t (is b x) 0) ≡ when t (is b x) 0
    go true p true q = absurd (let y = eqb-true r s p in let z = leb-true e s q in omega arith)
    go true p false q = refl
    go false p true q = refl
    go false p false q = refl
early_spot e r b (suc l) s x m = go (leb e (first_below l (s * 256)))
  where
    go : (u : Bool) → when u 0 0 ≡ 0
    go true = refl
    go false = refl

pub prune_byte : {n e : ℕ} {w : Bytes} {h q k : ℕ} {w' : Bytes} → Pruned n e w h q k w' → (i : ℕ) → q ≡ above h (i / 512) → i / 512 < e
    → file_byte w' h k i ≡ file_byte w h k i
prune_byte {e = e} {w} {h} {q} {k} {w'} A i s m =
    let r = i / 512 in
    let same : data_block w' h k r ≡ data_block w h k r =
    same_data w h q k w' h q k r (λ b. A.stays (spot r b) ∙ omega (
      arith,
      weigh_le (early e (spot r b)) (spot r b) w h q k (λ l t x _. omega (arith, early_spot e r b l t x m)),
      weigh_le (spot r b) (early e (spot r b)) w h q k (λ l t x _. omega (arith, early_spot e r b l t x m)),
    )) s s in
    file_same w h k w' h k i same (λ d. rw same at (A.less.data_kept (data_block w' h k r) (data_leaf w' h q k r s (λ t. d (sym same ∙ t)))))

blank_byte : (h k i : ℕ) (w : Bytes) → Blank w k → file_byte w h k i ≡ 0
blank_byte zero k i w f =
    by_zero k (λ z. file_hole w 0 k i (unfold data_block in z))
    (λ p. file_full w 0 k i (λ t. unfold data_block in omega arith) ∙ (unfold data_block in f (i % 512) (omega arith)))
blank_byte (suc h) k i w f =
    file_hole w (suc h) k i (data_hole h k (i / 512) w (pointer_blank w k (above h (i / 512) % 256) f (omega arith)))

lowered_byte : {n : ℕ} {w : Bytes} {h k : ℕ} → Fit n w (suc h) 0 k → (i : ℕ) → 0 ≡ above h (i / 512)
    → file_byte (lowered map_place w h k) h (heir w k) i ≡ file_byte w (suc h) k i
lowered_byte {w = w} {h} {k} F i s =
    at_or_off (pointer w k 0) 0
    (λ z. rw (lowered_hole F z, heir_hole F z)
    (blank_byte h k i _ (cleared_blank F z) ∙ sym (file_hole w (suc h) k i (data_hole h k r w (rw digit z)))))
    (λ full.
    let c = pointer w k 0 in
    let down : data_block w (suc h) k r ≡ data_block w h c r = data_at h k r c w (rw digit refl) full in
    rw (lowered_full F full, heir_full F full)
    (let same = same_data w h 0 c _ h 0 c r (λ b. weigh_same (spot r b) w _ h 0 c (heir_in F full)) s s in
    file_same w (suc h) k _ h c i (same ∙ sym down)
    (λ d. rw down (heir_in F full (data_block w h c r) (data_has w h 0 c r s (λ t. d (down ∙ t)))))))
  where
    r : ℕ
    r = i / 512

    digit : above h r % 256 ≡ 0
    digit = omega arith

above_suc : (h r : ℕ) → above (suc h) r ≡ above h r / 256
unfolding above
above_suc h r = refl

above_up : (m h r : ℕ) → 0 ≡ above h r → 0 ≡ above (m + h) r
above_up zero h r e = let t : 0 + h ≡ h = omega arith in rw t e
above_up (suc m) h r e =
    let t : suc m + h ≡ suc (m + h) = omega arith in
    let u = above_up m h r e in
    rw (t, above_suc (m + h) r) (omega arith)

pub sunk_byte : (n c l h k i : ℕ) (w : Bytes) → l ≡ c + h → Fit n w l 0 k → 0 ≡ above h (i / 512)
    → file_byte (sunk map_place w h k c) h (sunk_key map_place w h k c) i ≡ file_byte w l k i
unfolding sunk sunk_key
sunk_byte n zero l h k i w e F s = let t : l ≡ h = omega arith in rw t refl
sunk_byte n (suc c) l h k i w e F s =
    let t : l ≡ suc (c + h) = omega arith in
    let G : Fit n w (suc (c + h)) 0 k = rw t at F in
    rw t
    (sunk_byte n c (c + h) h (heir w k) i (lowered map_place w (c + h) k) refl (move_fit G (lowered_move G)) s
    ∙ lowered_byte G i (above_up c h (i / 512) s))
