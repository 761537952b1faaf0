-- The slots of a directory that the walk of a sound volume meets: each is proper, and none is the volume's own header.
use Prim.Native.Nat.{ℕ, zero, suc, ◌+◌, ◌*◌, ◌/◌, ◌≤◌, ◌<◌}
use mathlib.Core.Path.{◌≡◌, refl}
use mathlib.Core.List.{List, [], ◌∷◌, ◌++◌}
use mathlib.Core.Bool.{true}
use lib.ListN.{drop}
use native.Mathlib.Omega.{arith}
use Rattle.model.specs.Bytes.{Bytes, sum, count, run, is, gather}
use Rattle.model.specs.Map.{map_blocks}
use Rattle.model.specs.Directory.{volume, volume_block, volume_chain, map_block, kids, directory, improper, sort, key, used, chain, slots, slots_below}
use Rattle.model.specs.File.{blocks, blocks_of}
use Rattle.model.specs.Walk.{level_most, Visit, visits}
use Rattle.model.specs.Sound.{volume_faults, top_faults, directory_faults, faults_of, owned, sound}
use Rattle.claims.proofs.SoundFacts.{sound_facts}
use Rattle.model.proofs.BitLaws.{is_yes}
use Rattle.model.proofs.Laws.Sound.{differ_none}
use Rattle.model.proofs.SumLaws.{sum_gather, sum_append}
use Rattle.facts.specs.Reached.{Among, here, later, Met, top, down}
use Rattle.facts.proofs.MetLaws.{met_faults, below, first_zero, met_apart}
use Rattle.facts.proofs.LookupLaws.{volume_directory}

pub improper_fault : (n : ℕ) {l d s : ℕ} {v : Bytes} → sound n v ≡ true → Met v l d s → sort v s ≡ improper → ⊥
unfolding faults_of
improper_fault n {l} {d} {s} {v} h m e =
    let f : faults_of improper n v l d s ≡ 0 = rw e at (met_faults n v h m) in
    omega arith

-- where a slot stands in a list of slots
among_append : (s : ℕ) (xs ys : List ℕ) {P : Type 0} → Among s (xs ++ ys) → (Among s xs → P) → (Among s ys → P) → P
among_append s [] ys a f g = g a
among_append s (x ∷ xs) ys here f g = f here
among_append s (x ∷ xs) ys (later a) f g = among_append s xs ys a (λ b. f (later b)) g

among_run : (s a c : ℕ) → Among s (run a c) → (a ≤ s) × (s < a + c)
unfolding run
among_run s a zero x = elim x [ ]
among_run s a (suc c) here = (omega arith, omega arith)
among_run s a (suc c) (later m) = let r = among_run s (suc a) c m in (omega arith, omega arith)

among_drop : (s : ℕ) (xs : List ℕ) → Among s (drop 1 xs) → Among s xs
among_drop s [] a = elim a [ ]
among_drop s (x ∷ xs) a = later a

pub among_block : (s : ℕ) (bs : List ℕ) → Among s (slots bs) → 1 ≤ count (s / 13) bs
unfolding slots sum
among_block s [] a = elim a [ ]
among_block s (b ∷ bs) a = among_append s (run (b * 13) 13) (slots bs) a
    (λ m. let r = among_run s (b * 13) 13 m in let e : s / 13 ≡ b = omega arith in omega (arith, is_yes (s / 13) b e))
    (λ m. omega (arith, among_block s bs m))

-- a slot of a directory stands in one of its blocks
pub kid_block : (v : Bytes) (d s : ℕ) → sort v d ≡ directory → Among s (kids v d) → 1 ≤ count (s / 13) (blocks v d)
unfolding slots_below blocks_of
kid_block v d s e a = rw e (among_block s (chain v (key v d) (used v d)) (among_drop s (slots (chain v (key v d) (used v d))) (rw e at a)))

-- the volume directory of a sound volume is blocks 2, 3, 4, 5
pub volume_chain_law : (n : ℕ) (v : Bytes) → sound n v ≡ true → chain v (key v volume) (used v volume) ≡ volume_chain
unfolding faults_of directory_faults top_faults volume_faults
volume_chain_law n v h =
    let f : faults_of directory n v (suc level_most) volume volume ≡ 0 = rw volume_directory at (met_faults n v h top) in
    differ_none _ volume_chain (omega arith)

owns : ℕ → Bytes → Visit ℕ → ℕ
owns b v w = count b (blocks v w.slot)

owns_owned : (n : ℕ) (v : Bytes) (b : ℕ) → below (owns b v) v (suc level_most) volume (volume ∷ []) ≤ count b (owned n v)
unfolding owns below owned sum
owns_owned n v b = omega (arith, sum_append (is b) (run (map_block v) (map_blocks n)) (gather (λ w. blocks v w.slot) (visits v)), sum_gather (is b) (λ w. blocks v w.slot) (visits v))

volume_owns : (n : ℕ) (v : Bytes) → sound n v ≡ true → 1 ≤ count volume_block (blocks v volume)
unfolding blocks_of sum
volume_owns n v h = rw (volume_directory v, volume_chain_law n v h) (omega arith)

-- block 2 is the volume directory's, and no other entry's
apart : (n : ℕ) {k e d : ℕ} {v : Bytes} → sound n v ≡ true → Met v k e d → (m : ℕ) (t : ℕ) → k ≡ suc m → Among t (kids v d) → count volume_block (blocks v t) ≡ 0
unfolding owns
apart n {k} {e} {d} {v} h m l t q a =
    let facts = sound_facts n v h in
    let mine = volume_owns n v h in
    omega (arith, facts.once volume_block (omega (arith, facts.least)), owns_owned n v volume_block, met_apart (owns volume_block v) v m l t q a, first_zero (owns volume_block v) v l d t)

among_volume : Among volume (drop 1 (slots volume_chain)) → ⊥
unfolding slots run
among_volume a =
    among_append volume (run 27 12) (slots (3 ∷ 4 ∷ 5 ∷ [])) a
    (λ m. let r = among_run volume 27 12 m in omega arith)
    (λ m. let r = among_block volume (3 ∷ 4 ∷ 5 ∷ []) m in none_there r)
  where
    none_there : 1 ≤ count (volume / 13) (3 ∷ 4 ∷ 5 ∷ []) → ⊥
    none_there r = unfold sum in omega arith

-- no slot of a directory is the volume's header
pub kid_entry : (n : ℕ) {k e d : ℕ} {v : Bytes} → sound n v ≡ true → Met v k e d → sort v d ≡ directory → (s : ℕ) → Among s (kids v d) → s ≡ volume → ⊥
unfolding slots_below
kid_entry n {v = v} h top o s a q = among_volume (rw (q, volume_directory v, volume_chain_law n v h) at a)
kid_entry n {v = v} h (down {l = l} {d = c} {s = e} {t = d} m b) o s a q =
    let here : 1 ≤ count (s / 13) (blocks v d) = kid_block v d s o a in
    omega (arith, rw q at here, apart n h m l d refl b)
