-- "No block twice": on a sound volume the walk meets every slot at most once, and the way along any path enters no directory twice and no block of
-- a directory twice.
use Prim.Native.Nat.{ℕ, zero, suc, ◌≤◌}
use mathlib.Core.Path.{◌≡◌, refl, sym}
use mathlib.Core.List.{List, [], ◌∷◌}
use mathlib.Core.Option.{Option, none, some}
use mathlib.Core.Bool.{Bool, true, false, false≢true}
use lib.Dec.{ltb}
use native.Mathlib.Omega.{arith}
use borrow.Author.Tests.{ltb-true, ltb-false}
use Rattle.model.specs.Bytes.{Bytes, sum, count, gather, is}
use Rattle.model.specs.Names.{Part, same_name}
use Rattle.model.specs.Directory.{directory, sort, is_directory, at, volume, key, used, chain, kids, seek, Target, no_volume, no_directory, last, along, lookup}
use Rattle.model.specs.File.{blocks}
use Rattle.model.specs.Walk.{visits}
use Rattle.model.specs.Sound.{faults, sound}
use Rattle.model.specs.Calls.{is_no_volume, is_no_directory, home}
use Rattle.model.proofs.SumLaws.{is_self, sum_gather, sum_mem}
use Rattle.model.proofs.Laws.Total.{total, reach, reach_down, visits_total}
use Rattle.model.proofs.Laws.Sound.{deep, top, sums, mine, Sound, sound_facts}
use Rattle.model.proofs.Laws.Keep.{directory_blocks}
use Rattle.model.proofs.Laws.Facts.{seen_once, mine_once, volume_directory, level_le}
use Rattle.model.proofs.Laws.Lookup.{directory_is, seek_some}

-- The slots of the walk.
pub reach_once : (n : ℕ) (v : Bytes) → sound n v ≡ true → (x : ℕ) → reach (kids v) x deep volume top ≤ 1
reach_once n v s x = go (ltb 0 (reach (kids v) x deep volume top)) refl
  where
    go : (b : Bool) → ltb 0 (reach (kids v) x deep volume top) ≡ b → reach (kids v) x deep volume top ≤ 1
    go true f = omega (arith, seen_once (sound_facts n v s) x (ltb-true 0 (reach (kids v) x deep volume top) f))
    go false f = omega (arith, ltb-false 0 (reach (kids v) x deep volume top) f)

pub slot_once : (n : ℕ) (v : Bytes) → sound n v ≡ true → (x : ℕ) → sum (λ w. is x w.slot) (visits v) ≤ 1
slot_once n v s x = omega (arith, reach_once n v s x, visits_total (kids v) (λ _ _ y. is x y) deep volume top)

-- The directories that the names ps, from the directory d on, are looked up in: d, and where a name but the last is a directory's, that one.
unfoldable pub passed_from : Bytes → Bytes → ℕ → List Part → List ℕ
passed_from v p d [] = d ∷ []
passed_from v p d (x ∷ []) = d ∷ []
passed_from v p d (x ∷ y ∷ r) =
    elim (seek v p x (kids v d)) [
      | none ↦ d ∷ []
      | some s ↦ elim (is_directory (sort v s)) [ true ↦ d ∷ passed_from v p s (y ∷ r) | false ↦ d ∷ [] ]
    ]

-- the directories that `lookup` enters
unfoldable pub passed : Bytes → Bytes → List Part → List ℕ
passed v p [] = []
passed v p (x ∷ r) = elim (same_name v (at volume) p x) [ true ↦ passed_from v p volume r | false ↦ [] ]

-- the directory that the names lead to is among them
passed_along : (v p : Bytes) (ps : List Part) (d : ℕ) → is_no_volume (along v p d ps) ≡ false → is_no_directory (along v p d ps) ≡ false
    → 1 ≤ count (home (along v p d ps)) (passed_from v p d ps)
unfolding along last is_no_volume is_no_directory home passed_from sum
passed_along v p [] d e f = omega (arith, is_self d)
passed_along v p (x ∷ []) d e f = go (seek v p x (kids v d))
  where
    go : (o : Option ℕ) → 1 ≤ count (home (last o d)) (d ∷ [])
    go none = omega (arith, is_self d)
    go (some s) = omega (arith, is_self d)
passed_along v p (x ∷ y ∷ r) d e f = go (seek v p x (kids v d)) e f (passed_along v p (y ∷ r))
  where
    Deep : Option ℕ → Target
    Deep o = elim o [ none ↦ no_directory | some s ↦ elim (is_directory (sort v s)) [ true ↦ along v p s (y ∷ r) | false ↦ no_directory ] ]

    Into : Option ℕ → List ℕ
    Into o = elim o [ none ↦ d ∷ [] | some s ↦ elim (is_directory (sort v s)) [ true ↦ d ∷ passed_from v p s (y ∷ r) | false ↦ d ∷ [] ] ]

    go : (o : Option ℕ) → is_no_volume (Deep o) ≡ false → is_no_directory (Deep o) ≡ false
        → ((s : ℕ) → is_no_volume (along v p s (y ∷ r)) ≡ false → is_no_directory (along v p s (y ∷ r)) ≡ false
        → 1 ≤ count (home (along v p s (y ∷ r))) (passed_from v p s (y ∷ r)))
        → 1 ≤ count (home (Deep o)) (Into o)
    go none e f g = absurd (false≢true (sym f))
    go (some s) e f g = more (is_directory (sort v s)) e f
      where
        more : (b : Bool) → is_no_volume (elim b [ true ↦ along v p s (y ∷ r) | false ↦ no_directory ]) ≡ false
            → is_no_directory (elim b [ true ↦ along v p s (y ∷ r) | false ↦ no_directory ]) ≡ false
            → 1 ≤ count (home (elim b [ true ↦ along v p s (y ∷ r) | false ↦ no_directory ])) (elim b [ true ↦ d ∷ passed_from v p s (y ∷ r) | false ↦ d ∷ [] ])
        more true e f = omega (arith, g s e f)
        more false e f = absurd (false≢true (sym f))

-- A sum over the directories that are passed is no larger than that over the walk.
module _ (n : ℕ) (v p : Bytes) (u w : ℕ → ℕ) (le : (s : ℕ) → sort v s ≡ directory → u s ≤ w s) where
  one_le : (l q d : ℕ) (ss : List ℕ) → 1 ≤ count d ss → sort v d ≡ directory → sum u (d ∷ []) ≤ total (kids v) (λ _ _ s. w s) (suc l) q ss
  unfolding sum
  one_le l q d ss c e = omega (arith, le d e, reach_down (kids v) (λ _ _ s. w s) l q d ss c)

  passed_le : (ps : List Part) (l q d : ℕ) (ss : List ℕ) → 1 ≤ count d ss → sort v d ≡ directory → total (kids v) (faults n v) l q ss ≡ 0
      → sum u (passed_from v p d ps) ≤ total (kids v) (λ _ _ s. w s) l q ss
  unfolding passed_from total
  passed_le ps zero q d ss c e f = absurd (omega (arith, sum_mem (λ s. faults n v 0 q s) d ss c, level_le n v 0 q d e))
  passed_le [] (suc l) q d ss c e f = one_le l q d ss c e
  passed_le (x ∷ []) (suc l) q d ss c e f = one_le l q d ss c e
  passed_le (x ∷ y ∷ r) (suc l) q d ss c e f =
      go (seek v p x (kids v d)) refl
      (λ s k i. passed_le (y ∷ r) l d s (kids v d) k i (omega (arith, reach_down (kids v) (faults n v) l q d ss c)))
    where
      into : (s : ℕ) (b : Bool) → is_directory (sort v s) ≡ b → 1 ≤ count s (kids v d)
          → ((s : ℕ) → 1 ≤ count s (kids v d) → sort v s ≡ directory
          → sum u (passed_from v p s (y ∷ r)) ≤ total (kids v) (λ _ _ s. w s) l d (kids v d))
          → sum u (elim b as (λ _. List ℕ) [ true ↦ d ∷ passed_from v p s (y ∷ r) | false ↦ d ∷ [] ]) ≤ total (kids v) (λ _ _ s. w s) (suc l) q ss
      into s true i k g =
          unfold sum in omega (arith, le d e, reach_down (kids v) (λ _ _ s. w s) l q d ss c, g s k (directory_is (sort v s) i))
      into s false i k g = one_le l q d ss c e

      go : (o : Option ℕ) → seek v p x (kids v d) ≡ o
          → ((s : ℕ) → 1 ≤ count s (kids v d) → sort v s ≡ directory
          → sum u (passed_from v p s (y ∷ r)) ≤ total (kids v) (λ _ _ s. w s) l d (kids v d))
          → sum u (elim o as (λ _. List ℕ) [
            | none ↦ d ∷ []
            | some s ↦ elim (is_directory (sort v s)) [ true ↦ d ∷ passed_from v p s (y ∷ r) | false ↦ d ∷ [] ]
          ]) ≤ total (kids v) (λ _ _ s. w s) (suc l) q ss
      go none h g = one_le l q d ss c e
      go (some s) h g = into s (is_directory (sort v s)) refl (seek_some v p x (kids v d) s h).0 g

  path_le : (ps : List Part) → Sound n v → sum u (passed v p ps) ≤ sums v (λ _ _ s. w s)
  unfolding passed sum
  path_le [] S = omega arith
  path_le (x ∷ r) S = go (same_name v (at volume) p x)
    where
      go : (b : Bool) → sum u (elim b as (λ _. List ℕ) [ true ↦ passed_from v p volume r | false ↦ [] ]) ≤ sums v (λ _ _ s. w s)
      go true = passed_le r deep volume volume top (omega arith) (volume_directory S) S.right
      go false = omega arith

-- the blocks of those directories, chain after chain
abbrev pub passed_blocks : Bytes → Bytes → List Part → List ℕ
passed_blocks v p ps = gather (λ d. chain v (key v d) (used v d)) (passed v p ps)

chain_le : (v : Bytes) (b s : ℕ) → sort v s ≡ directory → count b (chain v (key v s) (used v s)) ≤ count b (blocks v s)
chain_le v b s e = rw (directory_blocks v s e) (omega arith)

-- A path leads through no directory twice, and through no block of a directory twice.
pub directory_once : (n : ℕ) (v : Bytes) → sound n v ≡ true → (p : Bytes) (ps : List Part) (d : ℕ) → count d (passed v p ps) ≤ 1
directory_once n v s p ps d =
    omega (
      arith,
      path_le n v p (is d) (is d) (λ x e. omega arith) ps (sound_facts n v s),
      reach_once n v s d,
    )

pub block_once : (n : ℕ) (v : Bytes) → sound n v ≡ true → (p : Bytes) (ps : List Part) (b : ℕ) → count b (passed_blocks v p ps) ≤ 1
block_once n v s p ps b = go (ltb 0 (mine v b)) refl
  where
    all : count b (passed_blocks v p ps) ≤ mine v b
    all =
        omega (
          arith,
          sum_gather (is b) (λ d. chain v (key v d) (used v d)) (passed v p ps),
          path_le n v p (λ d. count b (chain v (key v d) (used v d))) (λ d. count b (blocks v d)) (chain_le v b) ps (sound_facts n v s),
        )

    go : (t : Bool) → ltb 0 (mine v b) ≡ t → count b (passed_blocks v p ps) ≤ 1
    go true f = omega (arith, all, (mine_once (sound_facts n v s) b (ltb-true 0 (mine v b) f)).0)
    go false f = omega (arith, all, ltb-false 0 (mine v b) f)

-- The directory that a path leads to is among those.
pub home_passed : (v p : Bytes) (ps : List Part) → is_no_volume (lookup v p ps) ≡ false → is_no_directory (lookup v p ps) ≡ false
    → 1 ≤ count (home (lookup v p ps)) (passed v p ps)
unfolding lookup passed is_no_volume
home_passed v p [] e f = absurd (false≢true (sym e))
home_passed v p (x ∷ r) e f = go (same_name v (at volume) p x) e f
  where
    go : (b : Bool) → is_no_volume (elim b [ true ↦ along v p volume r | false ↦ no_volume ]) ≡ false
        → is_no_directory (elim b [ true ↦ along v p volume r | false ↦ no_volume ]) ≡ false
        → 1 ≤ count (home (elim b [ true ↦ along v p volume r | false ↦ no_volume ])) (elim b [ true ↦ passed_from v p volume r | false ↦ [] ])
    go true e f = passed_along v p r volume e f
    go false e f = absurd (false≢true (sym e))
