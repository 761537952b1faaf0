-- Soundness as a record of plain facts, and that the record and the test `sound` say the same.
use Prim.Native.Nat.{ℕ, zero, suc, ◌+◌, ◌≤◌, ◌<◌}
use mathlib.Core.Path.{◌≡◌, refl, sym, ◌∙◌}
use mathlib.Core.List.{List, [], ◌∷◌}
use mathlib.Core.Bool.{Bool, true, false, false≢true}
use lib.Dec.{eqb}
use native.Mathlib.Omega.{arith}
use borrow.Author.Tests.{eqb-true, eqb-false, eq-eqb, leb-true, le-leb}
use Rattle.model.specs.Bytes.{Bytes, sum, count, gather, run, is, within}
use Rattle.model.specs.Map.{map_blocks, free, rest_clear}
use Rattle.model.specs.Directory.{directory, sort, map_block, map_place, volume, volume_chain, key, used, chain, kids}
use Rattle.model.specs.File.{blocks}
use Rattle.model.specs.Walk.{level_most, visits}
use Rattle.model.specs.Sound.{prodos, differ, volume_faults, top_faults, directory_faults, faults_of, faults, owned, each_once, faultless, sound}
use Rattle.model.proofs.TestLaws.{and_left, and_right, and_both}
use Rattle.model.proofs.SumLaws.{is_eq, sum_append, sum_gather}
use Rattle.model.proofs.Laws.Total.{Weight, total, visits_total, reach_down}

-- The sum of a weight over the walk of a volume.
abbrev pub deep : ℕ
deep = suc level_most

abbrev pub top : List ℕ
top = volume ∷ []

abbrev pub sums : Bytes → Weight → ℕ
sums v w = total (kids v) w deep volume top

-- boot and map blocks, and how often the entries on the walk own a block
abbrev pub fixed : ℕ → List ℕ
fixed n = 0 ∷ 1 ∷ run map_place (map_blocks n)

abbrev pub mine : Bytes → ℕ → ℕ
mine v b = sums v (λ _ _ s. count b (blocks v s))

pub record Sound (n : ℕ) (v : Bytes) : Type 0 where
  pub large : 16 ≤ n
  pub small : n ≤ 65535
  pub sign : prodos n v ≡ true
  pub place : map_block v ≡ map_place
  pub right : sums v (faults n v) ≡ 0
  pub once : (b : ℕ) → b < n → count b (fixed n) + mine v b + free map_place v b ≡ 1
  pub rest : rest_clear map_place v n ≡ true

-- The volume itself is met first.
pub volume_right : (n : ℕ) (v : Bytes) → sums v (faults n v) ≡ 0 → faults n v deep volume volume ≡ 0
unfolding sum
volume_right n v h = omega (arith, reach_down (kids v) (faults n v) level_most volume volume top (omega arith))

volume_top : (n : ℕ) (v : Bytes) → sums v (faults n v) ≡ 0 → volume_faults v ≡ 0
unfolding sort faults_of directory_faults top_faults
volume_top n v h = let e : faults_of directory n v deep volume volume ≡ 0 = volume_right n v h in omega arith

place_right : (n : ℕ) (v : Bytes) → sums v (faults n v) ≡ 0 → map_block v ≡ map_place
unfolding volume_faults
place_right n v h = let e = volume_top n v h in is_eq (map_block v) map_place (omega arith)

pub differ_none : (xs ys : List ℕ) → differ xs ys ≡ 0 → xs ≡ ys
unfolding differ
differ_none [] [] e = refl
differ_none [] (y ∷ ys) e = absurd (omega arith)
differ_none (x ∷ xs) [] e = absurd (omega arith)
differ_none (x ∷ xs) (y ∷ ys) e = rw (is_eq x y (omega arith), differ_none xs ys (omega arith)) refl

-- "The volume directory is linked 2, 3, 4, 5"
pub volume_chain_law : {n : ℕ} {v : Bytes} → Sound n v → chain v (key v volume) (used v volume) ≡ volume_chain
unfolding volume_faults
volume_chain_law {n} {v} S = let e = volume_top n v S.right in differ_none (chain v (key v volume) (used v volume)) volume_chain (omega arith)

-- The second sentence.
once_at : (m : ℕ) (v : Bytes) (os : List ℕ) (n : ℕ) → each_once m v os n ≡ true → (b : ℕ) → b < n → count b os + free m v b ≡ 1
unfolding each_once
once_at m v os zero e b l = absurd (omega arith)
once_at m v os (suc k) e b l = go (eqb (count k os + free m v k) 1) refl e (once_at m v os k)
  where
    go : (t : Bool) → eqb (count k os + free m v k) 1 ≡ t → elim t as (λ _. Bool) [ true ↦ each_once m v os k | false ↦ false ] ≡ true
        → (each_once m v os k ≡ true → (b : ℕ) → b < k → count b os + free m v b ≡ 1) → count b os + free m v b ≡ 1
    go false f g r = absurd (false≢true g)
    go true f g r = here (eqb b k) refl
      where
        here : (t : Bool) → eqb b k ≡ t → count b os + free m v b ≡ 1
        here true h = rw (eqb-true b k h) (eqb-true _ 1 f)
        here false h = let n = eqb-false b k h in r g b (omega arith)

once_all : (m : ℕ) (v : Bytes) (os : List ℕ) (n : ℕ) → ((b : ℕ) → b < n → count b os + free m v b ≡ 1) → each_once m v os n ≡ true
unfolding each_once
once_all m v os zero f = refl
once_all m v os (suc k) f = rw (eq-eqb _ 1 (f k (omega arith)), each_once) (once_all m v os k (λ b l. f b (omega arith)))

owners : (n : ℕ) (v : Bytes) (b : ℕ) → map_block v ≡ map_place → count b (owned n v) ≡ count b (fixed n) + mine v b
unfolding owned sum
owners n v b e =
    rw e
    (omega (
      arith,
      sum_append (is b) (run map_place (map_blocks n)) (gather (λ w. blocks v w.slot) (visits v)),
      sum_gather (is b) (λ w. blocks v w.slot) (visits v),
      visits_total (kids v) (λ _ _ s. count b (blocks v s)) deep volume top,
    ))

-- The two say the same.
pub sound_facts : (n : ℕ) (v : Bytes) → sound n v ≡ true → Sound n v
unfolding sound within faultless
sound_facts n v e =
    let size = and_left _ _ e in
    let e₁ = and_right _ _ e in
    let e₂ = and_right _ _ e₁ in
    let e₃ = and_right _ _ e₂ in
    let right : sums v (faults n v) ≡ 0 = sym (visits_total (kids v) (faults n v) deep volume top) ∙ eqb-true _ 0 (and_left _ _ e₂) in
    let place : map_block v ≡ map_place = place_right n v right in
    record {
      large = leb-true 16 n (and_left _ _ size);
      small = leb-true n 65535 (and_right _ _ size);
      sign = and_left _ _ e₁;
      place = place;
      right = right;
      once = λ b l. rw (← owners n v b place) (rw place at (once_at (map_block v) v (owned n v) n (and_left _ _ e₃) b l));
      rest = rw place at (and_right _ _ e₃);
    }

pub facts_sound : {n : ℕ} {v : Bytes} → Sound n v → sound n v ≡ true
unfolding sound within faultless
facts_sound {n} {v} S =
    and_both _ _ (and_both _ _ (le-leb 16 n S.large) (le-leb n 65535 S.small))
    (and_both _ _ S.sign
    (and_both _ _ (eq-eqb _ 0 (visits_total (kids v) (faults n v) deep volume top ∙ S.right))
    (and_both _ _
    (once_all (map_block v) v (owned n v) n (λ b l. rw (owners n v b S.place, S.place) (S.once b l)))
    (rw S.place S.rest))))
