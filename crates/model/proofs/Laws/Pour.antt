-- Data laid block by block, and the bytes at EOF and after zeroed: the tree, and the bytes that are read.
use Prim.Native.Nat.{ℕ, zero, suc, ◌+◌, ◌-◌, ◌*◌, ◌≤◌, ◌<◌, ◌/◌, ◌%◌, min, max}
use mathlib.Core.Path.{◌≡◌, refl, sym, ◌∙◌}
use mathlib.Core.Bool.{Bool, true, false}
use lib.Dec.{ltb, eqb}
use native.Mathlib.Omega.{arith}
use native.Mathlib.Nat.{add-zero, zero-add}
use borrow.Author.Tests.{eqb-true, eqb-false, ltb-true, ltb-false}
use Rattle.model.specs.Bytes.{Bytes, Octets, clear}
use Rattle.model.specs.Map.{room, lowest}
use Rattle.model.specs.Directory.{map_place}
use Rattle.model.specs.File.{span, pointer, above, data_block, file_byte}
use Rattle.model.specs.Grow.{zeroed_from, backed}
use Rattle.model.specs.Write.{laid, poured}
use Rattle.model.proofs.ByteLaws.{at_or_off, paste_in, paste_out, octets_paste, clear_in, clear_out, octets_clear}
use Rattle.model.proofs.BitLaws.{room_lowest}
use Rattle.model.proofs.Laws.Frame.{Alike}
use Rattle.model.proofs.Laws.Weigh.{Gauge, weigh, each, tardy, size as blocks, has_key}
use Rattle.model.proofs.Laws.Move.{Fit, Move, move_none, move_fit, move_then, fit_some}
use Rattle.model.proofs.Laws.Take.{Work, backed_work, Still, still_none, data_still}
use Rattle.model.proofs.Laws.Room.{move_room}
use Rattle.model.proofs.Laws.Data.{still_data, grown_data, data_apart, file_hole, file_full, file_same, work_byte}
use Rattle.model.proofs.Laws.Need.{miss, miss_hole, backed_complete, backed_aside, lacks, lacks_step, miss_lacks}

-- the place of byte i in its block, where s is the first byte laid and e the end
record InBlock (b p pos s e i : ℕ) : Type 0 where
  low : b * 512 + (s - p * 512) ≤ b * 512 + i % 512
  high : b * 512 + i % 512 < b * 512 + (s - p * 512) + (e - s)
  back : i - pos ≡ s - pos + (b * 512 + i % 512 - (b * 512 + (s - p * 512)))

in_block : (b p pos s e i : ℕ) → i / 512 ≡ p → pos ≤ s → p * 512 ≤ s → s ≤ i → i < e → InBlock b p pos s e i
in_block b p pos s e i t a c l m =
    let x : s - p * 512 ≤ i % 512 = omega arith in
    record { low = omega arith; high = omega arith; back = omega arith }

-- The data of one file block.
module _ {n : ℕ} {w : Bytes} {h q k : ℕ} (F : Fit n w h q k) (p pos size : ℕ) (buffer : Bytes) (octets : Octets buffer)
    (there : data_block w h k p ≡ 0 → ⊥) where
  abbrev new : Bytes
  new = laid w h k p pos buffer size

  laid_out : (i : ℕ) → (p * 512 ≤ i → i < p * 512 + 512 → pos ≤ i → i < pos + size → ⊥) → p * 512 ≤ i → i < p * 512 + 512
      → new (data_block w h k p * 512 + (i - p * 512)) ≡ w (data_block w h k p * 512 + (i - p * 512))
  unfolding laid
  laid_out i o l m = paste_out w _ _ _ _ (λ x y. o l m (omega arith) (omega arith))

  laid_alike : (b : ℕ) → (b ≡ data_block w h k p → ⊥) → Alike 512 w new b
  unfolding laid
  laid_alike b d j l = paste_out w _ _ _ _ (λ x y. d (omega arith))

  laid_still : Still n w h q k new
  laid_still = data_still n h q k p w new F (unfold laid in octets_paste w _ _ _ F.bytes (λ i l. octets _)) there laid_alike

  module _ (i : ℕ) (t : q ≡ above h p) where
    laid_in_law : i / 512 ≡ p → pos ≤ i → i < pos + size → file_byte new h k i ≡ buffer (i - pos)
    laid_in_law e l m =
        let same : data_block new h k (i / 512) ≡ data_block w h k p = rw e (still_data laid_still p t) in
        let x =
        in_block (data_block w h k p) p pos (max pos (p * 512)) (min (pos + size) (p * 512 + 512)) i e (omega arith) (omega arith) (omega arith) (omega arith) in
        file_full new h k i (λ z. there (sym same ∙ z))
        ∙ rw (same, x.back) (unfold laid in paste_in w _ _ _ (data_block w h k p * 512 + i % 512) x.low x.high)

    laid_off : q ≡ above h (i / 512) → (i / 512 ≡ p → pos ≤ i → i < pos + size → ⊥) → file_byte new h k i ≡ file_byte w h k i
    laid_off s o =
        let same = still_data laid_still (i / 512) s in
        at_or_off (i / 512) p
        (λ e.
        let d : data_block w h k (i / 512) ≡ 0 → ⊥ = rw e there in
        let x : i % 512 ≡ i - p * 512 = omega arith in
        file_full new h k i (λ z. d (sym same ∙ z))
        ∙ rw (same, e, x) (laid_out i (λ _ _. o e) (omega arith) (omega arith))
        ∙ sym (rw (e, x) at (file_full w h k i d)))
        (λ e. file_same w h k new h k i same (λ d. laid_alike (data_block w h k (i / 512)) (λ z. data_apart F p (i / 512) t s (λ y. e (sym y)) there z)))

-- The data of c file blocks from p on.
pub record Poured (n e : ℕ) (w : Bytes) (h k : ℕ) (w' : Bytes) (p c pos : ℕ) (buffer : Bytes) (size : ℕ) : Type 0 where
  pub move : Move n w h 0 k w' h 0 k
  pub timely : weigh (tardy e) w h 0 k ≡ 0 → weigh (tardy e) w' h 0 k ≡ 0
  pub grows : (g : Gauge) → weigh g w h 0 k ≤ weigh g w' h 0 k
  pub full : (r : ℕ) → p ≤ r → r < p + c → data_block w' h k r ≡ 0 → ⊥
  pub more : blocks w' h 0 k + lacks w' h k (p + c) 0 ≡ blocks w h 0 k + lacks w h k p c
  pub inside : (i : ℕ) → p ≤ i / 512 → i / 512 < p + c → pos ≤ i → i < pos + size → file_byte w' h k i ≡ buffer (i - pos)
  pub outside : (i : ℕ) → i / 512 < e → (p ≤ i / 512 → i / 512 < p + c → pos ≤ i → i < pos + size → ⊥) → file_byte w' h k i ≡ file_byte w h k i

-- one file block of them: what it misses is taken, and c more miss just the rest
record Advances (n e : ℕ) (w : Bytes) (h k p c : ℕ) (x y : Bytes) : Type 0 where
  work : Work n e w h 0 k x h 0 k
  there : data_block x h k p ≡ 0 → ⊥
  still : Still n x h 0 k y
  more : blocks y h 0 k + lacks y h k (p + 1) c ≡ blocks w h 0 k + lacks w h k p (suc c)

module _ (n e h k pos size : ℕ) (buffer : Bytes) (octets : Octets buffer) (hl : h ≤ 2) (el : e ≤ 65536)
    (path : (r : ℕ) → r < e → 0 ≡ above h r) where
  advance : (p c : ℕ) (w : Bytes) → p + suc c ≤ e → Fit n w h 0 k → lacks w h k p (suc c) ≤ room map_place w n
      → Advances n e w h k p c (backed map_place n w h k p) (laid (backed map_place n w h k p) h k p pos buffer size)
  advance p c w pe F m =
      let pl : p < e = omega arith in
      let A = backed_work n e h 0 k p w (path p pl) pl F in
      let G = move_fit F A.move in
      let C = backed_complete n e h 0 k p w (path p pl) pl F (omega (arith, m, miss_lacks w h k p c hl (omega arith))) in
      let y = laid (backed map_place n w h k p) h k p pos buffer size in
      let B : Still n (backed map_place n w h k p) h 0 k y = laid_still G p pos size buffer octets C.there in
      let less =
      lacks_step w y h k e p c hl el path pe (fit_some F k (has_key w h 0 k))
      (λ g o. B.weights g ∙ backed_aside g n e h 0 k p w o (path p pl) pl F) (λ z. C.there (sym (still_data B p (path p pl)) ∙ z)) in
      record { work = A; there = C.there; still = B; more = omega (arith, less, C.more, B.weights (each (λ _. 1))) }

  left : {p c : ℕ} {w x y : Bytes} → Fit n w h 0 k → lacks w h k p (suc c) ≤ room map_place w n → Advances n e w h k p c x y
      → lacks y h k (p + 1) c ≤ room map_place y n
  left F m A = omega (arith, m, A.more, move_room F (move_then A.work.move A.still.move))

  pub pour : (p c : ℕ) (w : Bytes) → p + c ≤ e → Fit n w h 0 k → lacks w h k p c ≤ room map_place w n
      → Poured n e w h k (poured map_place n w h k p c pos buffer size) p c pos buffer size
  unfolding poured
  pour p zero w pe F m =
      record {
        move = move_none F;
        timely = λ t. t;
        grows = λ g. omega arith;
        full = λ r a b. absurd (omega arith);
        more = rw (add-zero p) refl;
        inside = λ i a b. absurd (omega arith);
        outside = λ i l o. refl;
      }
  pour p (suc c) w pe F m =
      let at_p : 0 ≡ above h p = path p (omega arith) in
      let A = advance p c w pe F m in
      let G = move_fit F A.work.move in
      let D = pour (p + 1) c _ (omega arith) (move_fit G A.still.move) (left F m A) in
      let s : p + suc c ≡ p + 1 + c = omega arith in
      record {
        move = move_then A.work.move (move_then A.still.move D.move);
        timely = λ t. D.timely (A.still.weights (tardy e) ∙ A.work.timely t);
        grows = λ g. omega (arith, A.work.grows g, A.still.weights g, D.grows g);
        full = λ r a b z. at_or_off r p
            (λ t.
            let there : data_block (laid (backed map_place n w h k p) h k p pos buffer size) h k p ≡ 0 → ⊥ =
            λ y. A.there (sym (still_data A.still p at_p) ∙ y) in
            there (sym (grown_data _ h 0 k _ h 0 k p D.grows at_p at_p there) ∙ rw t at z))
            (λ t. D.full r (omega arith) (omega arith) z);
        more = rw s (D.more ∙ A.more);
        inside = λ i a b u v. at_or_off (i / 512) p
            (λ t. D.outside i (omega arith) (λ f g _ _. omega arith) ∙ laid_in_law G p pos size buffer octets A.there i at_p t u v)
            (λ t. D.inside i (omega arith) (omega arith) u v);
        outside = λ i l o.
            D.outside i l (λ a b. o (omega arith) (omega arith))
            ∙ laid_off G p pos size buffer octets A.there i at_p (path (i / 512) l) (λ t. o (omega arith) (omega arith))
            ∙ work_byte A.work G i (path (i / 512) l) (path (i / 512) l);
      }

  -- after each file block the tree is fit, and there is room for all that is still missing
  pub on_way : (j p c : ℕ) (w : Bytes) → p + (j + c) ≤ e → Fit n w h 0 k → lacks w h k p (j + c) ≤ room map_place w n
      → let x = poured map_place n w h k p j pos buffer size in Fit n x h 0 k × (lacks x h k (p + j) c ≤ room map_place x n)
  unfolding poured
  on_way zero p c w pe F m = (F, rw (add-zero p) (rw (zero-add c) at m))
  on_way (suc j) p c w pe F m =
      let s : suc j + c ≡ suc (j + c) = omega arith in
      let t : p + suc j ≡ p + 1 + j = omega arith in
      let A = advance p (j + c) w (rw s at pe) F (rw s at m) in
      rw t (on_way j (p + 1) c _ (omega arith) (move_fit (move_fit F A.work.move) A.still.move) (left F (rw s at m) A))

-- what is missing is found: every block that is taken is on the volume
pub missing_found : (n h k p : ℕ) (w : Bytes) → pointer w k (above h p % 256) ≡ 0 → miss w (suc h) k p ≤ room map_place w n → lowest map_place w n < n
missing_found n h k p w e m = room_lowest map_place w n (omega (arith, rw (miss_hole h k p w e) at m))

-- The bytes at EOF and after.
span_next : (e : ℕ) → span e ≤ e / 512 + 1
unfolding span
span_next e = omega arith

pub record Zeroed (n e : ℕ) (w : Bytes) (h q k : ℕ) (w' : Bytes) : Type 0 where
  pub still : Still n w h q k w'
  pub below : (i : ℕ) → i < e → q ≡ above h (i / 512) → file_byte w' h k i ≡ file_byte w h k i
  pub past : (i : ℕ) → e ≤ i → i / 512 < span e → file_byte w' h k i ≡ 0

pub zeroed : {n : ℕ} {w : Bytes} {h q k : ℕ} → Fit n w h q k → (e : ℕ) → ((r : ℕ) → r < span e → q ≡ above h r)
    → Zeroed n e w h q k (zeroed_from w h k e)
unfolding zeroed_from
zeroed {n} {w} {h} {q} {k} F e path = go (ltb e (span e * 512)) refl (eqb z 0) refl
  where
    z : ℕ
    z = data_block w h k (e / 512)

    here : (i : ℕ) → e ≤ i → i / 512 < span e → i / 512 ≡ e / 512
    here i a b = omega (arith, span_next e)

    go : (b : Bool) → ltb e (span e * 512) ≡ b → (c : Bool) → eqb z 0 ≡ c
        → Zeroed n e w h q k
        (elim b [ true ↦ elim c [ true ↦ w | false ↦ clear w (z * 512 + e % 512) (512 - e % 512) ] | false ↦ w ])
    go false s c t = let l = ltb-false e (span e * 512) s in record { still = still_none F; below = λ i m o. refl; past = λ i a b. absurd (omega arith) }
    go true s true t =
        record {
          still = still_none F;
          below = λ i m o. refl;
          past = λ i a b. file_hole w h k i (rw (here i a b) (eqb-true z 0 t));
        }
    go true s false t =
        let l = ltb-true e (span e * 512) s in
        let there = eqb-false z 0 t in
        let num : q ≡ above h (e / 512) = path (e / 512) (omega arith) in
        let x = clear w (z * 512 + e % 512) (512 - e % 512) in
        let alike : (b : ℕ) → (b ≡ z → ⊥) → Alike 512 w x b = λ b d j m. clear_out w _ _ _ (λ u y. d (omega arith)) in
        let A : Still n w h q k x = data_still n h q k (e / 512) w x F (octets_clear w _ _ F.bytes) there alike in
        record {
          still = A;
          below = λ i m o.
              let same = still_data A (i / 512) o in
              at_or_off (i / 512) (e / 512)
              (λ f.
              let d : data_block w h k (i / 512) ≡ 0 → ⊥ = rw f there in
              file_full x h k i (λ y. d (sym same ∙ y))
              ∙ rw (same, f) (clear_out w _ _ _ (λ u y. omega arith))
              ∙ sym (rw f at (file_full w h k i d)))
              (λ f. file_same w h k x h k i same (λ d. alike (data_block w h k (i / 512)) (λ y. data_apart F (e / 512) (i / 512) num o (λ g. f (sym g)) there y)));
          past = λ i a b.
              let f = here i a b in
              let same : data_block x h k (i / 512) ≡ z = rw f (still_data A (e / 512) num) in
              file_full x h k i (λ y. there (sym same ∙ y)) ∙ rw same (clear_in w _ _ _ (omega arith) (omega arith));
        }
