-- On a sound volume there is exactly one way to each active entry.
use Prim.Native.Nat.{ℕ, zero, suc, ◌+◌, ◌≤◌}
use mathlib.Core.Path.{◌≡◌, refl, sym, ap, subst, ◌∙◌}
use mathlib.Core.List.{List, [], ◌∷◌, ◌++◌, append-nil}
use mathlib.Core.Bool.{true}
use native.Mathlib.Omega.{arith}
use Rattle.model.specs.Bytes.{Bytes, sum, count, is}
use Rattle.model.specs.Directory.{sort, is_active, volume, kids, there}
use Rattle.model.specs.Calls.{target}
use Rattle.model.specs.Sound.{sound}
use Rattle.model.proofs.ByteLaws.{at_or_off}
use Rattle.model.proofs.SumLaws.{is_eq, sum_some}
use Rattle.model.proofs.BitLaws.{is_no}
use Rattle.model.proofs.Laws.Total.{total, reach}
use Rattle.model.proofs.Laws.Sound.{deep, top, Sound, sound_facts}
use Rattle.model.proofs.Laws.Facts.{Seen, kid_seen, kid_proper, parent_directory, one_parent, volume_seen}
use Rattle.paths.specs.Ways.{Way, holder, path, path_names}
use Rattle.paths.proofs.PathLaws.{path_spells}

-- Some way: down the walk to where the entry is met.
module _ (v : Bytes) (s : ℕ) (alive : is_active (sort v s) ≡ true) where
  abbrev Down : List ℕ → Type 0
  Down ss = (x : ℕ) × (1 ≤ count x ss) × (is_active (sort v x) ≡ true) × (xs : List ℕ) × Way v x xs s

  met : (l p : ℕ) (ss : List ℕ) → 1 ≤ reach (kids v) s l p ss → Down ss
  unfolding total
  met zero p ss h = (s, h, alive, [], refl)
  met (suc l) p ss h =
      let r = sum_some (λ y. is s y + reach (kids v) s l y (kids v y)) ss h in
      at_or_off s r.0 (λ e. (s, rw e r.1, alive, [], refl))
      (λ n.
      let d = met l r.0 (kids v r.0) (omega (arith, r.2, is_no s r.0 n)) in
      (r.0, r.1, ap is_active (parent_directory v r.0 d.0 d.1), d.0 ∷ d.3, (d.1, d.2, d.4)))

pub some_way : (n : ℕ) (v : Bytes) → sound n v ≡ true → (s : ℕ) → Seen v s → is_active (sort v s) ≡ true → (xs : List ℕ) × Way v volume xs s
some_way n v S s h e =
    let d = met v s e deep volume top h in
    let z : d.0 ≡ volume = is_eq d.0 volume (unfold sum in omega (arith, d.1)) in
    (d.3, rw z at d.4)

pub way_seen : {n : ℕ} {v : Bytes} → Sound n v → (xs : List ℕ) (d s : ℕ) → Seen v d → Way v d xs s → Seen v s
way_seen S [] d s h w = rw (← w) h
way_seen {v = v} S (x ∷ xs) d s h w = way_seen S xs x s (kid_seen S d x h (parent_directory v d x w.0) w.0) w.2

-- One way only: the places from the entry up, each held by the next.
turned : List ℕ → List ℕ → List ℕ
turned [] us = us
turned (x ∷ xs) us = turned xs (x ∷ us)

turned_twice : (xs us zs : List ℕ) → turned (turned xs us) zs ≡ turned us (xs ++ zs)
unfolding turned
turned_twice [] us zs = refl
turned_twice (x ∷ xs) us zs = turned_twice xs (x ∷ us) zs

turned_back : (xs : List ℕ) → turned (turned xs []) [] ≡ xs
unfolding turned
turned_back xs = turned_twice xs [] [] ∙ append-nil xs

abbrev Up : Bytes → ℕ → List ℕ → Type 0
Up v s [] = ⊥
Up v s (x ∷ []) = (x ≡ s) × (s ≡ volume)
Up v s (x ∷ y ∷ us) = (x ≡ s) × (1 ≤ count s (kids v y)) × Up v y (y ∷ us)

module _ {n : ℕ} {v : Bytes} (S : Sound n v) where
  up_seen : (s : ℕ) (us : List ℕ) → Up v s us → Seen v s
  up_seen s [] u = absurd u
  up_seen s (x ∷ []) u = rw u.1 (volume_seen S)
  up_seen s (x ∷ y ∷ us) u = kid_seen S y s (up_seen y (y ∷ us) u.2) (parent_directory v y s u.1) u.1

  up_one : (s : ℕ) (us ws : List ℕ) → Up v s us → Up v s ws → us ≡ ws
  up_one s [] ws u w = absurd u
  up_one s (x ∷ us) [] u w = absurd w
  up_one s (x ∷ []) (z ∷ []) u w = ap (λ t. t ∷ []) (u.0 ∙ sym w.0)
  up_one s (x ∷ []) (z ∷ y ∷ ws) u w = absurd (kid_proper S y s (up_seen y (y ∷ ws) w.2) w.1 u.1)
  up_one s (x ∷ y ∷ us) (z ∷ []) u w = absurd (kid_proper S y s (up_seen y (y ∷ us) u.2) u.1 w.1)
  up_one s (x ∷ y ∷ us) (z ∷ t ∷ ws) u w =
      let e = one_parent S y t s (up_seen y (y ∷ us) u.2) (up_seen t (t ∷ ws) w.2) u.1 w.1 in
      let f : x ≡ z = u.0 ∙ sym w.0 in
      let r = up_one y (y ∷ us) (y ∷ ws) u.2 (subst (λ q. Up v q (q ∷ ws)) (sym e) w.2) ∙ ap (λ q. q ∷ ws) e in
      λ i. f i ∷ r i

  way_up : (xs : List ℕ) (d s : ℕ) (us : List ℕ) → Up v d (d ∷ us) → Way v d xs s → Up v s (turned (d ∷ xs) us)
  unfolding turned
  way_up [] d s us u w = rw (← w) u
  way_up (x ∷ xs) d s us u w = way_up xs x s (d ∷ us) (refl, w.0, u) w.2

tail_same : {x y : ℕ} {xs ys : List ℕ} → x ∷ xs ≡ y ∷ ys → xs ≡ ys
tail_same e = cc

pub one_way : (n : ℕ) (v : Bytes) → sound n v ≡ true → (s : ℕ) (xs ys : List ℕ) → Way v volume xs s → Way v volume ys s → xs ≡ ys
one_way n v S s xs ys a b =
    let F = sound_facts n v S in
    let r = up_one F s _ _ (way_up F xs volume s [] (refl, refl) a) (way_up F ys volume s [] (refl, refl) b) in
    tail_same (sym (turned_back (volume ∷ xs)) ∙ ap (λ t. turned t []) r ∙ turned_back (volume ∷ ys))

-- the names of the path to an entry are those along the way to it
pub path_on : (n : ℕ) (v : Bytes) → sound n v ≡ true → (p : Bytes) (k d s : ℕ) → target v p k ≡ there d s → (xs : List ℕ) → Way v volume xs s
    → (path v xs ≡ path_names p k) × (holder volume xs ≡ d)
path_on n v S p k d s e xs w =
    let W = path_spells n v S p k d s e in
    let i = one_way n v S s xs W.places w W.way in
    (ap (path v) i ∙ W.names, ap (holder volume) i ∙ W.held)
