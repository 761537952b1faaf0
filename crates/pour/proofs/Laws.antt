-- Blocks reached with a hint and data poured: each step is the plain one, and keeps what the next needs.
use Prim.Native.Nat.{ℕ, zero, suc, ◌+◌, ◌-◌, ◌*◌, ◌≤◌, ◌<◌, ◌/◌, ◌%◌, ◌^◌}
use mathlib.Core.Path.{◌≡◌, refl, sym, ◌∙◌}
use mathlib.Core.Bool.{Bool, true, false}
use lib.Dec.{eqb}
use native.Mathlib.Omega.{arith}
use borrow.Author.Tests.{eqb-true, eqb-false, eq-eqb, ne_eqb, lt-ltb}
use Rattle.model.specs.Bytes.{Bytes, Octets, sum, run, is}
use Rattle.model.specs.Map.{free, room, lowest, first_free, taken}
use Rattle.model.specs.Directory.{map_place}
use Rattle.model.specs.File.{pointer, put_pointer, above, data_block}
use Rattle.model.specs.Grow.{backed, lacks_block, lacks_index, need}
use Rattle.model.specs.Write.{laid, poured}
use Rattle.model.proofs.ByteLaws.{at_or_off, paste_out, octets_paste}
use Rattle.model.proofs.BitLaws.{is_yes, lowest_from, lowest_free, lowest_below, room_lowest}
use Rattle.model.proofs.Laws.Frame.{Alike}
use Rattle.model.proofs.Laws.Weigh.{each, has_key, Blank, pointer_blank}
use Rattle.model.proofs.Laws.Move.{Fit, Move, move_fit, fit_key, fit_some, free_some, fit_below, lift_pointer}
use Rattle.model.proofs.Laws.Take.{hung_move, hung_weigh, hung_at, hung_blank, backed_work, Still, data_still}
use Rattle.model.proofs.Laws.Room.{move_room}
use Rattle.model.proofs.Laws.Need.{data_hole, data_at, backed_complete, lacks, need_lacks, miss_lacks}
use Rattle.model.proofs.Laws.Pour.{on_way}
use Rattle.pour.specs.Pouring.{Hinted, reached, reached_by, gap, Roomy, Backed, laid_in, Pourable}
use Rattle.pour.specs.declared.Reached.{Reached}
use Rattle.pour.proofs.CountLaws.{block_hole, index_hole}

-- The hint finds the lowest free block.
pub low_is : (n : ℕ) (v : Bytes) (hint : ℕ) → Hinted n v hint → first_free map_place v hint (n - hint) ≡ lowest map_place v n
low_is n v hint H = sym (lowest_from map_place v n hint H.most H.none)

-- What a file block misses.
gap_hole : (h k p : ℕ) (w : Bytes) → pointer w k (above h p % 256) ≡ 0 → gap w (suc h) k p ≡ suc h
unfolding gap
gap_hole h k p w e = rw (eq-eqb (pointer w k (above h p % 256)) 0 e, gap) refl

gap_full : (h k p : ℕ) (w : Bytes) → (pointer w k (above h p % 256) ≡ 0 → ⊥) → gap w (suc h) k p ≡ gap w h (pointer w k (above h p % 256)) p
unfolding gap
gap_full h k p w e = rw (ne_eqb (pointer w k (above h p % 256)) 0 e, gap) refl

gap_blank : (h k p : ℕ) (w : Bytes) → Blank w k → gap w h k p ≡ h
gap_blank zero k p w f = unfold gap in refl
gap_blank (suc h) k p w f = gap_hole h k p w (pointer_blank w k (above h p % 256) f (omega arith))

pub gap_found : (n h k p : ℕ) (w : Bytes) → gap w (suc h) k p ≤ room map_place w n → pointer w k (above h p % 256) ≡ 0 → lowest map_place w n < n
gap_found n h k p w m e = room_lowest map_place w n (omega (arith, rw (gap_hole h k p w e) at m))

-- One pointer down: the block r is reached, x is the image then.
pub record Stepped (n : ℕ) (w : Bytes) (h k p : ℕ) (x : Bytes) (r : Reached) : Type 0 where
  pub roomy : Roomy n x h r.block p
  pub hint : Hinted n x r.hint
  pub image : backed map_place n x h r.block p ≡ backed map_place n w (suc h) k p
  pub down : data_block (backed map_place n x h r.block p) (suc h) k p ≡ data_block (backed map_place n x h r.block p) h r.block p

module _ {n : ℕ} {w : Bytes} {h k p hint : ℕ} (R : Roomy n w (suc h) k p) (H : Hinted n w hint) where
  i : ℕ
  i = above h p % 256

  q : ℕ
  q = above (suc h) p

  z : ℕ
  z = lowest map_place w n

  num : q * 256 + i ≡ above h p
  unfolding above i q
  num = omega arith

  il : i < 256
  unfolding i
  il = omega arith

  F : Fit n w (suc h) q k
  unfolding q
  F = R.fit

  -- what is taken below the pointer i of x leaves the pointer
  down_from : (x : Bytes) → Fit n x (suc h) q k → (full : pointer x k i ≡ 0 → ⊥)
      → data_block (backed map_place n x h (pointer x k i) p) (suc h) k p ≡ data_block (backed map_place n x h (pointer x k i) p) h (pointer x k i) p
  unfolding i
  down_from x G full =
      let T = (backed_work n (p + 1) h (q * 256 + i) (pointer x k i) p x num (omega arith) (fit_below G il full)).move in
      data_at h k p (pointer x k i) _ (lift_pointer G il full T i il) full

  below : (x : Bytes) → Fit n x (suc h) q k → (pointer x k i ≡ 0 → ⊥) → Fit n x h (above h p) (pointer x k i)
  below x G full = rw num at (fit_below G il full)

  step_full : (pointer w k i ≡ 0 → ⊥) → Stepped n w h k p w (record { block = pointer w k i; hint = hint })
  unfolding i backed
  step_full full =
      record {
        roomy = record { fit = below w F full; enough = rw (gap_full h k p w full) at R.enough };
        hint = H;
        image = rw (ne_eqb (pointer w k i) 0 full, backed) refl;
        down = down_from w F full;
      }

  module _ (hole : pointer w k i ≡ 0) where
    zn : z < n
    unfolding i z
    zn = gap_found n h k p w R.enough hole

    zf : free map_place w z ≡ 1
    unfolding z
    zf = lowest_free map_place w n zn

    x : Bytes
    x = put_pointer (taken map_place w z) k i z

    T : Move n w (suc h) q k x (suc h) q k
    unfolding x
    T = hung_move F i z il hole zn zf

    G : Fit n x (suc h) q k
    G = move_fit F T

    place : pointer x k i ≡ z
    unfolding x
    place = hung_at F i z il hole zn zf

    full : pointer x k i ≡ 0 → ⊥
    full e = free_some F z zn zf (sym place ∙ e)

    none : (b : ℕ) → b < z + 1 → free map_place x b ≡ 0
    unfolding x
    none b l =
        let level = T.level b (omega (arith, zn)) in
        let more = hung_weigh F i z il hole zn zf (each (is b)) in
        at_or_off b z
        (λ e. let f : free map_place w b ≡ 1 = rw e zf in omega (arith, level, more, is_yes b z e))
        (λ e. let f : free map_place w b ≡ 0 = unfold z in lowest_below map_place w n b (omega arith) in omega (arith, level, more))

    few : gap x h z p ≤ room map_place x n
    unfolding x
    few =
        omega (
          arith,
          gap_blank h z p x (hung_blank F i z il hole zn zf),
          rw (gap_hole h k p w (unfold i in hole)) at R.enough,
          hung_weigh F i z il hole zn zf (each (λ _. 1)),
          move_room F T,
        )

    step_hole : Stepped n w h k p x (record { block = z; hint = z + 1 })
    unfolding x i z backed
    step_hole =
        record {
          roomy = record { fit = rw place at (below x G full); enough = few };
          hint = record { most = omega (arith, zn); none = none };
          image = rw (eq-eqb (pointer w k i) 0 hole, lt-ltb z n zn, backed) refl;
          down = rw place at (down_from x G full);
        }

  pub step : (j : ℕ) → j ≡ above h p % 256 → Stepped n w h k p (reached n w k j) (reached_by n w k j hint)
  unfolding reached reached_by i x z
  step j e = rw e (go (eqb (pointer w k i) 0) refl)
    where
      go : (b : Bool) → eqb (pointer w k i) 0 ≡ b
          → Stepped n w h k p (elim b [ true ↦ put_pointer (taken map_place w z) k i z | false ↦ w ])
          (elim b [ true ↦ record { block = z; hint = z + 1 } | false ↦ record { block = pointer w k i; hint = hint } ])
      go true t = step_hole (eqb-true (pointer w k i) 0 t)
      go false t = step_full (eqb-false (pointer w k i) 0 t)

-- Below an index, below a master index, and in a seedling.
pub backed_index : {n : ℕ} {w : Bytes} {k p hint : ℕ} → Roomy n w 1 k p → Hinted n w hint → (x : Bytes) (r : Reached)
    → x ≡ reached n w k (p % 256) → r ≡ reached_by n w k (p % 256) hint → Backed n w 1 k p x r
unfolding backed data_block
backed_index {n} {w} {k} {p} {hint} R H x r ex er =
    let S = step R H (p % 256) (unfold above in refl) in
    rw (ex, er) (record { image = S.image; block = sym S.down; hint = S.hint })

pub backed_next : {n : ℕ} {w : Bytes} {k p hint : ℕ} → Roomy n w 2 k p → Hinted n w hint → (x : Bytes) (r : Reached)
    → x ≡ reached n w k (p / 256 % 256) → r ≡ reached_by n w k (p / 256 % 256) hint → Stepped n w 1 k p x r
backed_next {n} {w} {k} {p} R H x r ex er = rw (ex, er) (step R H (p / 256 % 256) (unfold above in refl))

pub backed_master : {n : ℕ} {w : Bytes} {k p : ℕ} {x : Bytes} {s : Reached} → Stepped n w 1 k p x s → (y : Bytes) (r : Reached)
    → Backed n x 1 s.block p y r → Backed n w 2 k p y r
backed_master {n} {w} {k} {p} {x} {s} S y r B =
    record {
      image = B.image ∙ S.image;
      block = B.block ∙ sym (rw B.image S.down);
      hint = B.hint;
    }

pub backed_seedling : {n : ℕ} {w : Bytes} {k p hint : ℕ} → Hinted n w hint → Backed n w 0 k p w (record { block = k; hint = hint })
unfolding backed data_block
backed_seedling H = record { image = refl; block = refl; hint = H }

-- The first file block is among those that are counted.
path_in : (h p : ℕ) → h ≤ 2 → 0 ≡ above h p → p < 256 ^ h
unfolding above
path_in zero p l e = omega arith
path_in (suc zero) p l e = omega arith
path_in (suc (suc zero)) p l e = omega arith
path_in (suc (suc (suc h))) p l e = absurd (omega arith)

first_of : (f : ℕ → ℕ) (a m : ℕ) → f a ≤ sum f (run a (suc m))
unfolding run sum
first_of f a m = omega arith

need_blocks : (w : Bytes) (h k g p c : ℕ) → sum (lacks_block w h k) (run p c) ≤ need w h k g p c
unfolding need
need_blocks w h k g p c = omega arith

need_both : (w : Bytes) (k p c : ℕ) → lacks_index w 2 k (p / 256) + lacks_block w 2 k p ≤ need w 2 k 2 p (suc c)
unfolding need
need_both w k p c =
    let e : (p + suc c - 1) / 256 + 1 - p / 256 ≡ suc ((p + c) / 256 - p / 256) = omega arith in
    rw e (omega (arith, first_of (lacks_index w 2 k) (p / 256) ((p + c) / 256 - p / 256), first_of (lacks_block w 2 k) p c))

one_missing : (w : Bytes) (h k p c : ℕ) → p < 256 ^ h → data_block w h k p ≡ 0 → 1 ≤ need w h k h p (suc c)
one_missing w h k p c m e = omega (arith, block_hole w h k p m e, first_of (lacks_block w h k) p c, need_blocks w h k h p (suc c))

first_gap : (w : Bytes) (h k p c : ℕ) → h ≤ 2 → p < 256 ^ h → gap w h k p ≤ need w h k h p (suc c)
first_gap w zero k p c l m = unfold gap in omega arith
first_gap w (suc zero) k p c l m =
    at_or_off (pointer w k (above 0 p % 256)) 0
    (λ e. omega (arith, gap_hole 0 k p w e, one_missing w 1 k p c m (data_hole 0 k p w e)))
    (λ d. rw (gap_full 0 k p w d) (unfold gap in omega arith))
first_gap w (suc (suc zero)) k p c l m =
    at_or_off (pointer w k (above 1 p % 256)) 0
    (λ e.
    let i : above 1 p % 256 ≡ p / 256 = unfold above in omega arith in
    omega (arith, gap_hole 1 k p w e, need_both w k p c, block_hole w 2 k p m (data_hole 1 k p w e), index_hole w 2 k (p / 256) refl (rw i at e)))
    (λ d. rw (gap_full 1 k p w d) (at_or_off (pointer w (pointer w k (above 1 p % 256)) (above 0 p % 256)) 0
    (λ e. omega (
      arith,
      gap_hole 0 (pointer w k (above 1 p % 256)) p w e,
      one_missing w 2 k p c m (data_at 1 k p _ w refl d ∙ data_hole 0 (pointer w k (above 1 p % 256)) p w e),
    ))
    (λ f. rw (gap_full 0 (pointer w k (above 1 p % 256)) p w f) (unfold gap in omega arith))))
first_gap w (suc (suc (suc h))) k p c l m = absurd (omega arith)

data_in : {n : ℕ} {w : Bytes} (h : ℕ) {q k : ℕ} (p : ℕ) → Fit n w h q k → data_block w h k p < n
data_in zero p F = unfold data_block in fit_key F
data_in {n} {w} (suc h) {q} {k} p F =
    at_or_off (pointer w k (above h p % 256)) 0
    (λ e. rw (data_hole h k p w e) (omega (arith, F.large)))
    (λ d. rw (data_at h k p _ w refl d) (data_in h p (fit_below F (omega arith) d)))

-- One file block poured: p, with the end in file blocks ahead.
module _ {n : ℕ} {v : Bytes} {h k p end : ℕ} (P : Pourable n v h k p (end - p)) (l : p < end) where
  c : ℕ
  c = end - (p + 1)

  more : end - p ≡ suc c
  unfolding c
  more = omega arith

  at_p : 0 ≡ above h p
  at_p = P.path p (omega arith)

  counted : lacks v h k p (suc c) ≡ need v h k h p (suc c)
  counted =
      omega (
        arith,
        need_lacks v h k v h k (p + (end - p)) p (suc c) P.low (fit_some P.fit k (has_key v h 0 k)) (λ x o. refl) P.few P.path
            (omega (arith, more)) (omega arith),
      )

  some : lacks v h k p (suc c) ≤ room map_place v n
  some = rw more at P.enough

  pub pour_roomy : Roomy n v h k p
  pour_roomy =
      record {
        fit = rw (← at_p) P.fit;
        enough = omega (arith, first_gap v h k p c P.low (path_in h p P.low at_p), counted, some);
      }

  grown : Fit n (backed map_place n v h k p) h 0 k
  grown = move_fit P.fit (backed_work n (p + 1) h 0 k p v at_p (omega arith) P.fit).move

  there : data_block (backed map_place n v h k p) h k p ≡ 0 → ⊥
  there =
      (backed_complete n (p + 1) h 0 k p v at_p (omega arith) P.fit
      (omega (arith, miss_lacks v h k p c P.low (omega (arith, P.few)), some))).there

  pub pour_block : (w : Bytes) → w ≡ backed map_place n v h k p → (b : ℕ) → b ≡ data_block w h k p → b < n
  pour_block w ew b eb = rw eb (rw ew (data_in h p grown))

  module _ (pos size : ℕ) (buffer : Bytes) (octets : Octets buffer) where
    -- what is laid in a data block leaves the map
    laid_free : (b : ℕ) → b < n
        → free map_place (laid (backed map_place n v h k p) h k p pos buffer size) b ≡ free map_place (backed map_place n v h k p) b
    laid_free b m =
        let w = backed map_place n v h k p in
        let y = laid w h k p pos buffer size in
        let alike : (b : ℕ) → (b ≡ data_block w h k p → ⊥) → Alike 512 w y b = λ b d j o. unfold laid in paste_out w _ _ _ _ (λ x u. d (omega arith)) in
        let S : Still n w h 0 k y =
        data_still n h 0 k p w y grown (unfold laid in octets_paste w _ _ _ grown.bytes (λ i o. octets _)) there alike in
        omega (arith, S.move.level b m, S.weights (each (is b)))

    module _ (w : Bytes) (ew : w ≡ backed map_place n v h k p) (b : ℕ) (eb : b ≡ data_block w h k p) (y : Bytes) (ey : y ≡ laid_in w b p pos buffer size) where
      is_laid : y ≡ laid (backed map_place n v h k p) h k p pos buffer size
      is_laid = ey ∙ rw (eb, ew) (unfold laid_in laid in refl)

      pub pour_hint : (hint : ℕ) → Hinted n w hint → Hinted n y hint
      pour_hint hint H =
          record {
            most = H.most;
            none = λ x m. rw is_laid (laid_free x (omega (arith, H.most)) ∙ rw ew at (H.none x m));
          }

      pub pour_more : poured map_place n y h k (p + 1) (end - (p + 1)) pos buffer size ≡ poured map_place n v h k p (end - p) pos buffer size
      unfolding poured c
      pour_more = rw (is_laid, more, poured) refl

      pub pour_on : Pourable n y h k (p + 1) (end - (p + 1))
      unfolding c
      pour_on =
          let s : 1 + c ≡ suc c = omega arith in
          let W = on_way n (p + suc c) h k pos size buffer octets P.low (omega (arith, P.few)) (λ r m. P.path r (omega arith))
          1 p c v (omega arith) P.fit (rw s some) in
          record {
            low = P.low;
            few = omega (arith, P.few);
            fit = rw is_laid (unfold poured in W.0);
            path = λ r m. P.path r (omega arith);
            enough = rw is_laid (unfold poured in W.1);
          }

pub pour_none : (n : ℕ) (v : Bytes) (h k p end pos size : ℕ) (buffer : Bytes) → end ≤ p → poured map_place n v h k p (end - p) pos buffer size ≡ v
unfolding poured
pour_none n v h k p end pos size buffer l = let e : end - p ≡ 0 = omega arith in rw (e, poured) refl
