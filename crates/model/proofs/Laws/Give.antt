-- Blocks given back: a key gives way, a late part is cut off.
use Prim.Native.Nat.{ℕ, zero, suc, ◌+◌, ◌*◌, ◌≤◌, ◌<◌}
use mathlib.Core.Path.{◌≡◌, refl, sym, ◌∙◌}
use mathlib.Core.List.{List}
use mathlib.Core.Bool.{Bool, true, false}
use lib.Dec.{eqb}
use native.Mathlib.Omega.{arith}
use borrow.Author.Tests.{eqb-true, eqb-false, eq-eqb, ne_eqb}
use Rattle.model.specs.Bytes.{Bytes, Octets, sum, count, gather, run, is, clear}
use Rattle.model.specs.Map.{map_at, free, given, rest_clear}
use Rattle.model.specs.Directory.{map_place}
use Rattle.model.specs.File.{pointer, limb, nodes, blocks_in}
use Rattle.model.specs.Calls.{given_all}
use Rattle.model.specs.SetEof.{lowered, heir, sunk, sunk_key}
use Rattle.model.proofs.ByteLaws.{at_or_off, clear_in, clear_out, octets_clear}
use Rattle.model.proofs.BitLaws.{is_both, free_most, map_at_in, given_free, given_octets, rest_given, same_free, same_rest}
use Rattle.model.proofs.SumLaws.{is_self, is_eq, sum_gather, sum_eq}
use Rattle.model.proofs.Laws.Frame.{Alike, holds}
use Rattle.model.proofs.Laws.Destroy.{all_out, all_octets, all_free, all_rest}
use Rattle.model.proofs.Laws.Weigh.{upto, run_upto, Gauge, arm, weigh, each, has, part, arm_hole, arm_full, weigh_nodes, has_key, part_has, weigh_same, Blank, weigh_blank}
use Rattle.model.proofs.Laws.Move.{by_zero, Off, map_alike, given_alike, Fit, Move, move_none, move_fit, fit_off, fit_key, move_then}

-- the blocks counted by o are given back, and only the map is written
pub record Freed (n : ℕ) (w : Bytes) (o : ℕ → ℕ) (w' : Bytes) : Type 0 where
  pub bytes : Octets w'
  pub rest : rest_clear map_place w' n ≡ true
  pub kept : (b : ℕ) → Off n b → Alike 512 w w' b
  pub freed : (b : ℕ) → free map_place w' b ≡ free map_place w b + o b

-- blocks of a tree
pub freed_all : {n : ℕ} {w : Bytes} {h q k : ℕ} → Fit n w h q k → (bs : List ℕ) → ((b : ℕ) → count b bs ≤ has w h q k b)
    → Freed n w (λ b. count b bs) (given_all map_place w bs)
freed_all {n} {w} {h} {q} {k} F bs f =
    record {
      bytes = all_octets map_place w bs F.bytes;
      rest = all_rest map_place n w bs F.bytes (λ c m. F.range c (omega (arith, f c))) F.rest;
      kept = λ b o j l. all_out map_place w bs (b * 512 + j) (λ c m e. in_map_law b o j l c (F.range c (omega (arith, f c))) e);
      freed = all_free map_place w bs F.bytes (λ c. by_zero (count c bs) (λ z. omega (arith, free_most map_place w c))
          (λ m. omega (arith, f c, F.apart c (F.range c (omega (arith, f c))))));
    }
  where
    in_map_law : (b : ℕ) → Off n b → (j : ℕ) → j < 512 → (c : ℕ) → c < n → b * 512 + j ≡ map_at map_place c → ⊥
    in_map_law b o j l c cn e = unfold map_at in (let m = map_at_in map_place n c cn in o (omega arith) (omega arith))

-- Parts of sums: the first pointer and the others.
upto_split : (o c : ℕ) (f : ℕ → ℕ) → upto o f + upto c (λ i. f (o + i)) ≡ upto (o + c) f
unfolding upto
upto_split o zero f = let e : o + 0 ≡ o = omega arith in rw e (omega arith)
upto_split o (suc c) f = let e : o + suc c ≡ suc (o + c) = omega arith in rw e (omega (arith, upto_split o c f))

-- what lies below all pointers but the first
others : Gauge → ℕ → ℕ → ℕ → Bytes → ℕ
others g h q k w = upto 255 (λ i. part g w h q k (1 + i))

key_split : (g : Gauge) (h q k : ℕ) (w : Bytes) → weigh g w (suc h) q k ≡ g (suc h) q k + part g w h q k 0 + others g h q k w
unfolding weigh others
key_split g h q k w =
    omega (arith, one (arm (λ r p. weigh g w h r p) w q k), upto_split 1 255 (arm (λ r p. weigh g w h r p) w q k))
  where
    one : (f : ℕ → ℕ) → upto 1 f ≡ f 0
    one f = unfold upto in omega arith

others_count : (h q k b : ℕ) (w : Bytes) → count b (blocks_in (gather (limb (nodes w h) w q k) (run 1 255))) ≡ others (each (is b)) h q k w
unfolding others
others_count h q k b w =
    holds b (gather (limb (nodes w h) w q k) (run 1 255))
    ∙ sum_gather (λ x. is b x.block) (limb (nodes w h) w q k) (run 1 255)
    ∙ sum_eq _ _ (run 1 255) (λ i c. one i (eqb (pointer w k i) 0) refl)
    ∙ run_upto (part (each (is b)) w h q k) 255 1
  where
    one : (i : ℕ) (t : Bool) → eqb (pointer w k i) 0 ≡ t → sum (λ x. is b x.block) (limb (nodes w h) w q k i) ≡ part (each (is b)) w h q k i
    one i true e = unfold limb sum in rw (e, limb) (sym (arm_hole _ w q k i (eqb-true (pointer w k i) 0 e)))
    one i false e =
        unfold limb in
        rw (e, limb)
        (weigh_nodes (each (is b)) w h (q * 256 + i) (pointer w k i) ∙ sym (arm_full _ w q k i (eqb-false (pointer w k i) 0 e)))

-- A key gives way.
module _ {n : ℕ} {w : Bytes} {h k : ℕ} (F : Fit n w (suc h) 0 k) where
  abbrev shorn : Bytes
  shorn = given_all map_place w (blocks_in (gather (limb (nodes w h) w 0 k) (run 1 255)))

  shorn_freed : Freed n w (λ b. count b (blocks_in (gather (limb (nodes w h) w 0 k) (run 1 255)))) shorn
  shorn_freed =
      freed_all F (blocks_in (gather (limb (nodes w h) w 0 k) (run 1 255)))
      (λ b. omega (arith, others_count h 0 k b w, key_split (each (is b)) h 0 k w))

  shorn_free : (b : ℕ) → free map_place shorn b ≡ free map_place w b + others (each (is b)) h 0 k w
  shorn_free b = omega (arith, shorn_freed.freed b, others_count h 0 k b w)

  key_off : Off n k
  key_off = fit_off F k (has_key w (suc h) 0 k)

  key_none : free map_place shorn k ≡ 0
  key_none = omega (arith, shorn_free k, F.apart k (fit_key F), key_split (each (is k)) h 0 k w, is_self k)

  -- a hole at pointer 0: the key is zeroed and serves
  module _ (hole : pointer w k 0 ≡ 0) where
    pub lowered_hole : lowered map_place w h k ≡ clear shorn (k * 512) 512
    unfolding lowered
    lowered_hole = rw (eq-eqb (pointer w k 0) 0 hole, lowered) refl

    pub heir_hole : heir w k ≡ k
    unfolding heir
    heir_hole = rw (eq-eqb (pointer w k 0) 0 hole, heir) refl

    pub cleared_blank : Blank (clear shorn (k * 512) 512) k
    cleared_blank j l = clear_in shorn (k * 512) 512 (k * 512 + j) (omega arith) (omega arith)

    cleared_alike : (b : ℕ) → (b ≡ k → ⊥) → Alike 512 shorn (clear shorn (k * 512) 512) b
    cleared_alike b d j l = clear_out shorn (k * 512) 512 (b * 512 + j) (λ p q. d (omega arith))

    cleared_move : Move n w (suc h) 0 k (clear shorn (k * 512) 512) h 0 k
    cleared_move =
        let alone : (b : ℕ) → has (clear shorn (k * 512) 512) h 0 k b ≡ is b k = λ b. weigh_blank (each (is b)) _ h 0 k cleared_blank in
        let same = map_alike n shorn (clear shorn (k * 512) 512) (λ b p q. cleared_alike b (λ e. key_off (rw (← e) p) (rw (← e) q))) in
        record {
          bytes = octets_clear shorn (k * 512) 512 shorn_freed.bytes;
          rest = same_rest map_place n shorn _ same shorn_freed.rest;
          range = λ b m. rw (is_eq b k (omega (arith, alone b))) (fit_key F);
          level = λ b l.
              omega (
                arith,
                alone b,
                key_split (each (is b)) h 0 k w,
                arm_hole (λ r p. has w h r p b) w 0 k 0 hole,
                shorn_free b,
                same_free map_place n shorn (clear shorn (k * 512) 512) same b l,
              );
          same = λ b l z m j q. cleared_alike b (λ e. omega (arith, has_key w (suc h) 0 k, rw e at z)) j q ∙ shorn_freed.kept b m j q;
        }

  -- else what is below pointer 0 is the heir
  module _ (full : pointer w k 0 ≡ 0 → ⊥) where
    pub lowered_full : lowered map_place w h k ≡ given map_place shorn k
    unfolding lowered
    lowered_full = rw (ne_eqb (pointer w k 0) 0 full, lowered) refl

    pub heir_full : heir w k ≡ pointer w k 0
    unfolding heir
    heir_full = rw (ne_eqb (pointer w k 0) 0 full, heir) refl

    left_kept : (b : ℕ) → Off n b → Alike 512 w (given map_place shorn k) b
    left_kept b o j l = given_alike n shorn k (fit_key F) b o j l ∙ shorn_freed.kept b o j l

    pub heir_in : (b : ℕ) → 1 ≤ has w h 0 (pointer w k 0) b → Alike 512 w (given map_place shorn k) b
    heir_in b m = left_kept b (fit_off F b (omega (arith, part_has w h 0 k 0 b (omega arith) full)))

    left_move : Move n w (suc h) 0 k (given map_place shorn k) h 0 (pointer w k 0)
    left_move =
        let same : (b : ℕ) → has (given map_place shorn k) h 0 (pointer w k 0) b ≡ has w h 0 (pointer w k 0) b =
        λ b. weigh_same (each (is b)) w _ h 0 (pointer w k 0) heir_in in
        record {
          bytes = given_octets map_place shorn k shorn_freed.bytes;
          rest = rest_given map_place shorn k n shorn_freed.bytes (fit_key F) shorn_freed.rest;
          range = λ b m. F.range b (omega (arith, same b, part_has w h 0 k 0 b (omega arith) full));
          level = λ b l.
              let back = given_free map_place shorn k b shorn_freed.bytes in
              omega (
                arith,
                same b,
                key_split (each (is b)) h 0 k w,
                arm_full (λ r p. has w h r p b) w 0 k 0 full,
                shorn_free b,
                rw key_none at back,
                is_both k b b k sym sym,
              );
          same = λ b l z m. left_kept b m;
        }

  pub lowered_move : Move n w (suc h) 0 k (lowered map_place w h k) h 0 (heir w k)
  lowered_move =
      at_or_off (pointer w k 0) 0 (λ e. rw (lowered_hole e, heir_hole e) (cleared_move e)) (λ e. rw (lowered_full e, heir_full e) (left_move e))

-- c keys give way
pub sunk_move : (n c l h k : ℕ) (w : Bytes) → l ≡ c + h → Fit n w l 0 k → Move n w l 0 k (sunk map_place w h k c) h 0 (sunk_key map_place w h k c)
unfolding sunk sunk_key
sunk_move n zero l h k w e F = let t : l ≡ h = omega arith in rw t (move_none (rw t at F))
sunk_move n (suc c) l h k w e F =
    let t : l ≡ suc (c + h) = omega arith in
    let G : Fit n w (suc (c + h)) 0 k = rw t at F in
    let T = lowered_move G in
    rw t (move_then T (sunk_move n c (c + h) h (heir w k) (lowered map_place w (c + h) k) refl (move_fit G T)))
