-- The blocks of an entry that the walk of a sound volume meets lie on the volume.
use Prim.Native.Nat.{ℕ, zero, suc, ◌+◌, ◌-◌, ◌*◌, ◌≤◌, ◌<◌}
use mathlib.Core.Path.{◌≡◌, refl, ap}
use mathlib.Core.List.{List, [], ◌∷◌, ◌++◌}
use mathlib.Core.Bool.{Bool, true, false}
use lib.Dec.{leb, eqb}
use native.Mathlib.Omega.{arith}
use borrow.Author.Tests.{eqb-true, eqb-false, ne_eqb, leb-false}
use Rattle.model.specs.Bytes.{Bytes, sum, gather, run, is, one_if}
use Rattle.model.specs.Directory.{directory, file, sort, key, used, eof, chain}
use Rattle.model.specs.File.{pointer, Node, limb, nodes, blocks, blocks_of, blocks_in, height_for}
use Rattle.model.specs.Sound.{outside, faults_of, directory_faults, file_faults, sound}
use Rattle.model.proofs.Laws.Facts.{pos}
use Rattle.facts.specs.Reached.{Met, Inside, Deep}
use Rattle.facts.proofs.MetLaws.{met_faults}

pub inside : (n : ℕ) (bs : List ℕ) → outside n bs ≡ 0 → Inside n bs
unfolding sum
inside n [] h = tt
inside n (b ∷ bs) h = go (leb n b) refl h (inside n bs)
  where
    go : (t : Bool) → leb n b ≡ t → one_if t + outside n bs ≡ 0 → (outside n bs ≡ 0 → Inside n bs) → (b < n) × Inside n bs
    go true e k r = absurd (omega arith)
    go false e k r = (leb-false n b e, r (omega arith))

inside_left : (n : ℕ) (xs ys : List ℕ) → Inside n (xs ++ ys) → Inside n xs
inside_left n [] ys h = tt
inside_left n (x ∷ xs) ys h = (h.0, inside_left n xs ys h.1)

inside_right : (n : ℕ) (xs ys : List ℕ) → Inside n (xs ++ ys) → Inside n ys
inside_right n [] ys h = h
inside_right n (x ∷ xs) ys h = inside_right n xs ys h.1

map_append : (xs ys : List Node) → blocks_in (xs ++ ys) ≡ blocks_in xs ++ blocks_in ys
map_append [] ys = refl
map_append (x ∷ xs) ys = ap (λ r. x.block ∷ r) (map_append xs ys)

-- what lies below pointer j, of the pointers from i on
below_pointer : (n : ℕ) (f : ℕ → List Node) (i c j : ℕ) → i ≤ j → j < i + c → Inside n (blocks_in (gather f (run i c))) → Inside n (blocks_in (f j))
unfolding run gather
below_pointer n f i zero j l h k = absurd (omega arith)
below_pointer n f i (suc c) j l h k = go (eqb i j) refl (below_pointer n f (suc i) c j)
  where
    split : Inside n (blocks_in (f i) ++ blocks_in (gather f (run (suc i) c)))
    split = rw map_append at k

    go : (t : Bool) → eqb i j ≡ t → (suc i ≤ j → j < suc i + c → Inside n (blocks_in (gather f (run (suc i) c))) → Inside n (blocks_in (f j))) → Inside n (blocks_in (f j))
    go true e r = rw (← eqb-true i j e) (inside_left n (blocks_in (f i)) (blocks_in (gather f (run (suc i) c))) split)
    go false e r = let d = eqb-false i j e in r (omega arith) (omega arith) (inside_right n (blocks_in (f i)) (blocks_in (gather f (run (suc i) c))) split)

pub deep : (n : ℕ) (v : Bytes) (h q k : ℕ) → Inside n (blocks_in (nodes v h q k)) → Deep n v h k
unfolding nodes limb
deep n v zero q k h = h.0
deep n v (suc l) q k h =
    (h.0, λ i b z. deep n v l (q * 256 + i) (pointer v k i) (limb_inside i z (below_pointer n (limb (λ r p. nodes v l r p) v q k) 0 256 i (omega arith) (omega arith) h.1)))
  where
    limb_inside : (i : ℕ) → (pointer v k i ≡ 0 → ⊥) → Inside n (blocks_in (limb (λ r p. nodes v l r p) v q k i)) → Inside n (blocks_in (nodes v l (q * 256 + i) (pointer v k i)))
    limb_inside i z t = rw (ne_eqb (pointer v k i) 0 z, limb) at t

-- a directory that is met has a level left below it, blocks, and a chain on the volume
pub record DirectoryFacts (n : ℕ) (v : Bytes) (l s : ℕ) : Type 0 where
  pub level : 1 ≤ l
  pub some : 1 ≤ used v s
  pub chained : Inside n (chain v (key v s) (used v s))

pub met_directory : {n l d s : ℕ} {v : Bytes} → sound n v ≡ true → Met v l d s → sort v s ≡ directory → DirectoryFacts n v l s
unfolding faults_of directory_faults blocks_of
met_directory {n} {l} {d} {s} {v} h m e =
    let f : faults_of directory n v l d s ≡ 0 = rw e at (met_faults n v h m) in
    let o : outside n (blocks v s) ≡ 0 = omega arith in
    record {
      level = pos l (omega arith);
      some = pos (used v s) (omega arith);
      chained = inside n (chain v (key v s) (used v s)) (rw e at o);
    }

-- a data file that is met has the height of its EOF, and all its blocks are on the volume
pub record FileFacts (n : ℕ) (v : Bytes) (h s : ℕ) : Type 0 where
  pub tall : h ≡ height_for (eof v s)
  pub backed : Deep n v h (key v s)

is_eq : (a b : ℕ) → 1 - is a b ≡ 0 → a ≡ b
is_eq a b e = go (eqb a b) refl e
  where
    go : (t : Bool) → eqb a b ≡ t → 1 - one_if t ≡ 0 → a ≡ b
    go true p q = eqb-true a b p
    go false p q = absurd (omega arith)

pub met_file : {n l d s h : ℕ} {v : Bytes} → sound n v ≡ true → Met v l d s → sort v s ≡ file h → FileFacts n v h s
unfolding faults_of file_faults blocks_of
met_file {n} {l} {d} {s} {h} {v} g m e =
    let f : faults_of (file h) n v l d s ≡ 0 = rw e at (met_faults n v g m) in
    let o : outside n (blocks v s) ≡ 0 = omega arith in
    record {
      tall = is_eq h (height_for (eof v s)) (omega arith);
      backed = deep n v h 0 (key v s) (inside n (blocks_in (nodes v h 0 (key v s))) (rw e at o));
    }
