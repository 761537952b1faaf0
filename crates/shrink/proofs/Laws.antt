-- Shrinking step by step: each step leaves a tree that fits, and is one unfolding of its definition. Assumes nothing.
use Prim.Native.Nat.{ℕ, suc, ◌+◌, ◌-◌, ◌*◌, ◌≤◌, ◌<◌}
use mathlib.Core.Path.{◌≡◌, refl, sym, ap, ◌∙◌}
use mathlib.Core.List.{◌∷◌, ◌++◌}
use mathlib.Core.Bool.{Bool, true, false}
use lib.Dec.{eqb, leb}
use native.Mathlib.Omega.{arith}
use borrow.Author.Tests.{eqb-true, eqb-false, eq-eqb, ne_eqb, leb-true, leb-false, le-leb, lt-leb}
use Rattle.model.specs.Bytes.{Bytes}
use Rattle.model.specs.Directory.{map_place}
use Rattle.model.specs.File.{pointer, put_pointer, first_below, nodes, blocks_in}
use Rattle.model.specs.Calls.{given_all}
use Rattle.model.specs.SetEof.{lowered, heir, sunk, sunk_key, each_pointer, trimmed, pruned}
use Rattle.model.proofs.Laws.Move.{Fit, move_fit, fit_key, fit_below, lift}
use Rattle.model.proofs.Laws.Give.{lowered_move, sunk_move}
use Rattle.model.proofs.Laws.Prune.{prune, prune_move, cut_move}
use Rattle.release.specs.Loose.{Loose, tree, limb_at, below}
use Rattle.release.proofs.Laws.{loose_right, loose_tail, loose_cons, fit_loose, number_free, tree_more, below_step}

-- what is given back: below all pointers but the first, and below one pointer
pub limbs_loose : (n : ℕ) (v : Bytes) (h k : ℕ) → Fit n v (suc h) 0 k → Loose n (k ∷ below v h k 1)
limbs_loose n v h k F =
    let all : Loose n (k ∷ below v h k 0) = rw tree_more at (fit_loose n v (suc h) 0 k F) in
    let parts : Loose n (limb_at v h k 0 ++ below v h k 1) = rw (below_step v h k 0 (omega arith)) at (loose_tail n k (below v h k 0) all) in
    loose_cons n k (below v h k 0) (below v h k 1) all (loose_right n (limb_at v h k 0) (below v h k 1) parts)

pub tree_loose : (n : ℕ) (v : Bytes) (h q k : ℕ) → Fit n v h q k → Loose n (tree v h k)
tree_loose n v h q k F = rw (number_free v h q 0 k) at (fit_loose n v h q k F)

-- Keys that give way: of c keys d are left, and the file has now the key l.
pub record Sinking (n : ℕ) (v : Bytes) (h k c : ℕ) (w : Bytes) (l d : ℕ) : Type 0 where
  pub image : sunk map_place w h l d ≡ sunk map_place v h k c
  pub last : sunk_key map_place w h l d ≡ sunk_key map_place v h k c
  pub fits : Fit n w (d + h) 0 l

module _ (n : ℕ) (v : Bytes) (h k c : ℕ) where
  module _ (w : Bytes) (l d : ℕ) (S : Sinking n v h k c w l d) where
    pub sink_fit : 0 < d → Fit n w (suc (d - 1 + h)) 0 l
    sink_fit p = let e : suc (d - 1 + h) ≡ d + h = omega arith in rw e S.fits

    pub sink_on : (w' : Bytes) (l' : ℕ) → 0 < d → w' ≡ lowered map_place w (d - 1 + h) l → l' ≡ heir w l → Sinking n v h k c w' l' (d - 1)
    unfolding sunk sunk_key
    sink_on w' l' p e f =
        let step : d ≡ suc (d - 1) = omega arith in
        let F = sink_fit p in
        rw (e, f) (record { image = rw step at S.image; last = rw step at S.last; fits = move_fit F (lowered_move F) })

    pub sink_end : d ≡ 0 → (w ≡ sunk map_place v h k c) × (l ≡ sunk_key map_place v h k c)
    unfolding sunk sunk_key
    sink_end z = (rw z at S.image, rw z at S.last)

pub sunk_fit : (n : ℕ) (v : Bytes) (l k h : ℕ) → Fit n v l 0 k → h ≤ l → (w : Bytes) (x : ℕ) → w ≡ sunk map_place v h k (l - h)
    → x ≡ sunk_key map_place v h k (l - h) → Fit n w h 0 x
sunk_fit n v l k h F low w x e f = rw (e, f) (move_fit F (sunk_move n (l - h) l h k v (omega arith) F))

-- The three cases of a pointer.
module _ (P : Bytes → ℕ → ℕ → Bytes) (e h q k i : ℕ) (v : Bytes) where
  pub trim_hole : pointer v k i ≡ 0 → trimmed map_place P e h q k i v ≡ v
  unfolding trimmed
  trim_hole z = rw (eq-eqb (pointer v k i) 0 z, trimmed) refl

  module _ (full : pointer v k i ≡ 0 → ⊥) where
    pub trim_late : e ≤ first_below h (q * 256 + i)
        → trimmed map_place P e h q k i v ≡ put_pointer (given_all map_place v (blocks_in (nodes v h (q * 256 + i) (pointer v k i)))) k i 0
    unfolding trimmed
    trim_late l = rw (ne_eqb (pointer v k i) 0 full, le-leb e (first_below h (q * 256 + i)) l, trimmed) refl

    pub trim_early : first_below h (q * 256 + i) < e → trimmed map_place P e h q k i v ≡ P v (q * 256 + i) (pointer v k i)
    unfolding trimmed
    trim_early l = rw (ne_eqb (pointer v k i) 0 full, lt-leb e (first_below h (q * 256 + i)) l, trimmed) refl

-- a pointer that is trimmed leaves a tree that fits
pub trim_fit : (n e h q k i : ℕ) (v : Bytes) → Fit n v (suc h) q k → i < 256
    → Fit n (trimmed map_place (λ y r c. pruned map_place e y h r c) e h q k i v) (suc h) q k
trim_fit n e h q k i v F il = go (eqb (pointer v k i) 0) refl (leb e (first_below h (q * 256 + i))) refl
  where
    P : Bytes → ℕ → ℕ → Bytes
    P y r c = pruned map_place e y h r c

    go : (b : Bool) → eqb (pointer v k i) 0 ≡ b → (c : Bool) → leb e (first_below h (q * 256 + i)) ≡ c
        → Fit n (trimmed map_place P e h q k i v) (suc h) q k
    go true s c t = rw (trim_hole P e h q k i v (eqb-true (pointer v k i) 0 s)) F
    go false s true t =
        let full = eqb-false (pointer v k i) 0 s in
        rw (trim_late P e h q k i v full (leb-true e (first_below h (q * 256 + i)) t)) (move_fit F (cut_move F il full))
    go false s false t =
        let full = eqb-false (pointer v k i) 0 s in
        let early = leb-false e (first_below h (q * 256 + i)) t in
        rw (trim_early P e h q k i v full early)
        (move_fit F (lift F il full (prune_move (prune n e h (q * 256 + i) (pointer v k i) v (fit_below F il full) early))))

-- The loop over the pointers: those below i are done.
pub record Trimming (n e h q k : ℕ) (v : Bytes) (i : ℕ) (w : Bytes) : Type 0 where
  pub done : w ≡ each_pointer i (λ i x. trimmed map_place (λ y r c. pruned map_place e y h r c) e h q k i x) v
  pub fits : Fit n w (suc h) q k
  pub on_volume : k < n

module _ (n e h q k : ℕ) (v : Bytes) where
  pub trim_start : Fit n v (suc h) q k → Trimming n e h q k v 0 v
  unfolding each_pointer
  trim_start F = record { done = refl; fits = F; on_volume = fit_key F }

  module _ (i : ℕ) (w : Bytes) (T : Trimming n e h q k v i w) where
    pub trim_end : 256 ≤ i → i ≤ 256 → w ≡ pruned map_place e v (suc h) q k
    unfolding pruned
    trim_end m l = let s : i ≡ 256 = omega arith in rw s at T.done

    module _ (l : i < 256) (p : ℕ) (is_pointer : p ≡ pointer w k i) where
      P : Bytes → ℕ → ℕ → Bytes
      P y r c = pruned map_place e y h r c

      on : (w' : Bytes) → w' ≡ trimmed map_place P e h q k i w → Trimming n e h q k v (i + 1) w'
      unfolding P each_pointer
      on w' t =
          let s : i + 1 ≡ suc i = omega arith in
          record {
            done = rw s (t ∙ ap (trimmed map_place P e h q k i) T.done);
            fits = rw t (trim_fit n e h q k i w T.fits l);
            on_volume = T.on_volume;
          }

      pub trim_over : p ≡ 0 → Trimming n e h q k v (i + 1) w
      trim_over z = on w (sym (trim_hole P e h q k i w (sym is_pointer ∙ z)))

      module _ (full : p ≡ 0 → ⊥) where
        there : pointer w k i ≡ 0 → ⊥
        there z = full (is_pointer ∙ z)

        pub part_fit : Fit n w h (q * 256 + i) p
        part_fit = rw is_pointer (fit_below T.fits l there)

        pub part_loose : Loose n (tree w h p)
        part_loose = tree_loose n w h (q * 256 + i) p part_fit

        pub trim_freed : e ≤ first_below h (q * 256 + i) → (x w' : Bytes) → x ≡ given_all map_place w (tree w h p) → w' ≡ put_pointer x k i 0
            → Trimming n e h q k v (i + 1) w'
        trim_freed b x w' g c =
            on w' (c ∙ ap (λ (f : Bytes). put_pointer f k i 0)
            (g ∙ ap (given_all map_place w) (number_free w h 0 (q * 256 + i) p)
            ∙ ap (λ (p : ℕ). given_all map_place w (blocks_in (nodes w h (q * 256 + i) p))) is_pointer)
            ∙ sym (trim_late P e h q k i w there b))

        pub trim_deeper : first_below h (q * 256 + i) < e → (w' : Bytes) → w' ≡ pruned map_place e w h (q * 256 + i) p → Trimming n e h q k v (i + 1) w'
        unfolding P
        trim_deeper b w' g = on w' (g ∙ ap (pruned map_place e w h (q * 256 + i)) is_pointer ∙ sym (trim_early P e h q k i w there b))
