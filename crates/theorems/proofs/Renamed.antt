-- Rename of an entry: the path with the new last name leads to it, and every path through it leads where it led with the new name in its place. The old
-- path leads to nothing.
use Prim.Native.Nat.{ℕ, suc, ◌+◌, ◌-◌, ◌≤◌}
use mathlib.Core.Path.{◌≡◌, refl, sym, ap, subst, ◌∙◌}
use mathlib.Core.List.{List, [], ◌∷◌}
use mathlib.Core.Option.{some}
use mathlib.Core.Bool.{true, false}
use lib.ListN.{length}
use native.Mathlib.Omega.{arith}
use Rattle.model.specs.Bytes.{Bytes, count}
use Rattle.model.specs.Names.{Part, part, parts, proper_name, same_name}
use Rattle.model.specs.Directory.{Sort, inactive, directory, improper, file, sort, is_active, is_directory, at, volume, kids, seek, Target, no_directory, missing, there, along, lookup}
use Rattle.model.specs.Refusals.{settle}
use Rattle.model.specs.Calls.{total, target, home, spot, last_part}
use Rattle.model.specs.Rename.{renamed, is_other, rename_number, rename}
use Rattle.model.proofs.ByteLaws.{at_or_off}
use Rattle.model.proofs.BitLaws.{is_no}
use Rattle.model.proofs.Laws.Near.{named_near}
use Rattle.model.proofs.TestLaws.{and_right}
use Rattle.model.proofs.Laws.Sound.{Sound, sound_facts}
use Rattle.model.proofs.Laws.Keep.{kids_same}
use Rattle.model.proofs.Laws.Facts.{Seen, kid_seen, volume_seen, volume_directory}
use Rattle.model.proofs.Laws.One.{Place, Step, one_keeps, one_entry}
use Rattle.model.proofs.Laws.Spelling.{Bears, same_bears, bears_same}
use Rattle.model.proofs.Laws.Relabel.{Relabels, marks_step, relabel_keeps, relabel_sound}
use Rattle.model.proofs.Laws.Lookup.{rows_off, not_false, entry_led, target_led, seek_some}
use Rattle.model.proofs.Laws.Twice.{passed}
use Rattle.model.proofs.Laws.Rename.{entry_bears, now_relabels, open_name}
use Rattle.paths.specs.Ways.{Way, WayStays}
use Rattle.paths.proofs.PathLaws.{seek_one, path_spells, spells_passed}
use Rattle.paths.proofs.CarryLaws.{step_top}
use Rattle.paths.proofs.CallLaws.{rename_image, rename_stays}
use Rattle.paths.proofs.KeptLaws.{rename_path}
use Rattle.theorems.proofs.Spelled.{Spelled, spelled_sym, spelled_trans, spelled_bears, bears_spelled, Names, AlikeNames, alike_self, none_left, one_more}
use Rattle.theorems.proofs.Ways.{At, at_seen, at_depth, Leads, arrived, onward, reached, start, under, Reaches, path_reaches, is_there_law, reaches_at, reaches_names}
use Rattle.theorems.proofs.Below.{Still, along_same}
use Rattle.theorems.proofs.Carried.{near_same, carried, way_off, step_kids, step_holds, last_found, last_gone}

-- A path o that begins with the names of p, and the same path with the name z of q for the last of these.
pub data Through (p o o' q : Bytes) (z : Part) : List Part → List Part → List Part → Type 0 where
  renamed_here : {x y y' : Part} {ys ys' : List Part} → Spelled p x o y → Spelled o' y' q z → AlikeNames o o' ys ys'
      → Through p o o' q z (x ∷ []) (y ∷ ys) (y' ∷ ys')
  on_the_way : {x x₂ y y₂ y' y'₂ : Part} {xs ys ys' : List Part} → Spelled p x o y → Spelled o y o' y'
      → Through p o o' q z (x₂ ∷ xs) (y₂ ∷ ys) (y'₂ ∷ ys') → Through p o o' q z (x ∷ x₂ ∷ xs) (y ∷ y₂ ∷ ys) (y' ∷ y'₂ ∷ ys')

-- An entry.
module _ {n : ℕ} {v : Bytes} {a d : ℕ} (q : Bytes) (j : ℕ) (S : Sound n v) (P : Place v a d) (alive : is_active (sort v a) ≡ true)
    (proper : proper_name q 0 j ≡ true) (open_name : is_other a (seek v q (part 0 j) (kids v d)) ≡ false) where
  abbrev now : Bytes
  now = renamed v a q j

  labels : Relabels n v now a d
  labels = now_relabels q j S P alive proper open_name

  now_bears : Bears now (at a) q (part 0 j)
  now_bears = (entry_bears q j S P alive proper open_name).0

  now_sound : Sound n now
  now_sound = relabel_sound labels

  now_step : Step n v now a d
  now_step = marks_step labels.marks

  now_sort : sort now a ≡ sort v a
  now_sort = labels.sorted

  module _ {p : Bytes} {ps : List Part} {y : Part} (R : Reaches v p ps d y) (o : Bytes) (os : List Part)
      (stays : (xs : List ℕ) → Way v volume xs d → WayStays v now xs d) where
    carry : {L : Part → Part → Type 0} → Names p o L ps os → (z : Part) × Reaches now o os d z × L y z
    carry N = carried R N stays (step_holds now_step)

    now_found : Names p o (λ _ z. Spelled o z q (part 0 j)) ps os → lookup now o os ≡ there d a
    now_found N =
        let C = carry N in
        last_found now_step now_sound C.1 (rw now_sort alive)
        (bears_same now (at a) o C.0 (spelled_bears (spelled_sym C.2) now_bears))

    now_gone : same_name v (at a) p y ≡ true → AlikeNames p o ps os → (Spelled p y q (part 0 j) → ⊥) → lookup now o os ≡ missing d
    now_gone m N off =
        let C = carry (reaches_names R N) in
        last_gone now_step now_sound C.1 alive m C.2
        (λ _ h. off (spelled_trans C.2 (bears_spelled (same_bears now (at a) o C.0 h) now_bears)))

  -- the slots of the entry stay, and so does all that is below it
  now_kids : (e : ℕ) → Seen v e → kids now e ≡ kids v e
  now_kids e s = at_or_off e a (λ i. rw i (kids_same v now a (relabel_keeps labels))) (λ k. kids_same v now e (one_keeps now_step e s k))

  now_still : (m : ℕ) → At v a m → Still v now (λ e. (k : ℕ) × At v e k × (m ≤ k))
  now_still m A =
      record {
        slots = λ e h f. now_kids e (at_seen S h.1);
        entry = λ e s h f c.
            let B = under h.1 f c in
            let l = h.2 in
            let O = one_entry now_step e s (at_seen S h.1) c (λ i. let g = at_depth S A (rw i at B) in omega arith) in
            (O.0, named_near O.1, (suc h.0, B, omega arith));
      }

  module _ {p : Bytes} {y : Part} (bears : same_name v (at a) p y ≡ true) (o o' : Bytes) where
    -- at the entry
    entry_same : {m : ℕ} {z z' : Part} {zs zs' : List Part} → At v a m → Seen now d → sort now d ≡ directory → Spelled p y o z
        → Spelled o' z' q (part 0 j) → AlikeNames o o' zs zs' → along now o' d (z' ∷ zs') ≡ along v o d (z ∷ zs)
    unfolding along
    entry_same {m} {z} {z'} A s h E F N = go N
      where
        old : seek v o z (kids v d) ≡ some a
        old = seek_one S o z d a P.home P.inside alive (bears_same v (at a) o z (spelled_bears E (same_bears v (at a) p y bears)))

        new : seek now o' z' (kids now d) ≡ some a
        new =
            seek_one now_sound o' z' d a s (rw (step_kids now_step) P.inside) (rw now_sort alive)
            (bears_same now (at a) o' z' (spelled_bears (spelled_sym F) now_bears))

        go : {zs zs' : List Part} → AlikeNames o o' zs zs' → along now o' d (z' ∷ zs') ≡ along v o d (z ∷ zs)
        go none_left = rw (old, new) refl
        go (one_more {x = u} {y = u'} {xs = us} {ys = us'} G M) =
            rw (old, new, along) (into (sort v a) refl)
          where
            into : (T : Sort) → sort v a ≡ T
                → ◌≡◌ {A = Target} (elim (is_directory (sort now a)) [ true ↦ along now o' a (u' ∷ us') | false ↦ no_directory ])
                (elim (is_directory (sort v a)) [ true ↦ along v o a (u ∷ us) | false ↦ no_directory ])
            into inactive i = rw (now_sort, i) refl
            into directory i = rw (now_sort, i) (along_same (now_still m A) o o' (one_more G M) a (m, A, omega arith) i)
            into improper i = rw (now_sort, i) refl
            into (file t) i = rw (now_sort, i) refl

    through_same : {e k : ℕ} {ps os os' : List Part} → At v e k → sort v e ≡ directory → Seen now e → sort now e ≡ directory → At v a (k + length ps)
        → Leads v p e ps d y → Through p o o' q (part 0 j) ps os os' → along now o' e os' ≡ along v o e os
    unfolding along
    through_same b h s f A W T = from W b h s f A T
      where
        from : {e k : ℕ} {ps os os' : List Part} → Leads v p e ps d y → At v e k → sort v e ≡ directory → Seen now e → sort now e ≡ directory
            → At v a (k + length ps) → Through p o o' q (part 0 j) ps os os' → along now o' e os' ≡ along v o e os
        from (arrived i) b h s f A (renamed_here E F N) = rw i (entry_same A (rw i at s) (rw i at f) E F N)
        from {k = k} (onward {e} {t} {d} {x} {x'} {xs = xs} c g m W) b h s f A (on_the_way {y = z} {y' = z'} E F T) =
            let B = under b h c in
            let off_e : e ≡ a → ⊥ = λ i. let u = at_depth S A (rw i at b) in omega arith in
            let off_t : t ≡ a → ⊥ = λ i. let u = at_depth S A (rw i at B) in omega arith in
            let O = one_entry now_step e t (at_seen S b) c off_t in
            let c' : 1 ≤ count t (kids now e) = rw (now_kids e (at_seen S b)) c in
            let g' : sort now t ≡ directory = O.0 ∙ g in
            let old : seek v o z (kids v e) ≡ some t =
            seek_one S o z e t (at_seen S b) c (rw g refl) (bears_same v (at t) o z (spelled_bears E (same_bears v (at t) p x m))) in
            let new : seek now o' z' (kids now e) ≡ some t =
            seek_one now_sound o' z' e t s c' (rw g' refl) (near_same (named_near O.1) (spelled_trans E F) m) in
            let i : k + length (x ∷ x' ∷ xs) ≡ suc k + length (x' ∷ xs) = omega arith in
            rw (old, new, along) (rw (g, g', along) (from W B g (kid_seen now_sound e t s f c') g' (rw i at A) T))

    now_through : {ps os os' : List Part} → At v a (suc (length ps - 2)) → Reaches v p ps d y → Through p o o' q (part 0 j) ps os os'
        → lookup now o' os' ≡ lookup v o os
    unfolding lookup
    now_through A (reached {x} {x'} {xs = xs} m W) (on_the_way {y = z} {y' = z'} E F T) =
        let old : same_name v (at volume) o z ≡ true = bears_same v (at volume) o z (spelled_bears E (same_bears v (at volume) p x m)) in
        let new : same_name now (at volume) o' z' ≡ true = near_same (step_top now_step) (spelled_trans E F) m in
        let i : suc (length (x ∷ x' ∷ xs) - 2) ≡ 0 + length (x' ∷ xs) = omega arith in
        rw (old, new, lookup)
        (through_same {k = 0} (start refl) (volume_directory S) (volume_seen now_sound) (volume_directory now_sound) (rw i at A) W T)

-- What an accepted rename of the path p of k bytes to the name q of j bytes does, where it leads to the entry a of the directory d.
pub record Renamed (v p : Bytes) (k : ℕ) (q : Bytes) (j : ℕ) (w : Bytes) (d a : ℕ) : Type 0 where
  pub was : target v p k ≡ there d a
  pub kept : sort w a ≡ sort v a
  -- every path with the names of p but the last, which is q
  pub found : (o : Bytes) (i : ℕ) → Names p o (λ _ z. Spelled o z q (part 0 j)) (parts p k) (parts o i) → target w o i ≡ there d a
  -- every path through the entry leads where it led, with q in the place of its name
  pub through : (o : Bytes) (i : ℕ) (o' : Bytes) (i' : ℕ) → Through p o o' q (part 0 j) (parts p k) (parts o i) (parts o' i')
      → target w o' i' ≡ target v o i
  -- the path p itself, unless its last name is q already
  pub gone : (Spelled p (last_part (parts p k)) q (part 0 j) → ⊥) → target w p k ≡ missing d
  -- and in every other spelling
  pub nowhere : (Spelled p (last_part (parts p k)) q (part 0 j) → ⊥)
      → (o : Bytes) (i : ℕ) → AlikeNames p o (parts p k) (parts o i) → target w o i ≡ missing d
  -- every path to another entry leads there still, unless it passes the entry a, a directory
  pub elsewhere : (o : Bytes) (i e s : ℕ) → target v o i ≡ there e s → (s ≡ a → ⊥) → count a (passed v o (parts o i)) ≡ 0 → target w o i ≡ there e s

-- The call.
module _ (len : ℕ) (v p : Bytes) (k : ℕ) (q : Bytes) (j : ℕ) where
  abbrev a : ℕ
  a = spot (target v p k)

  abbrev d : ℕ
  d = home (target v p k)

  renamed_is : rename_number len v p k q j (target v p k) ≡ 0 → (a ≡ volume → ⊥)
      → ((xs : List ℕ) (s : ℕ) → count a (volume ∷ xs) ≡ 0 → Way v volume xs s → WayStays v (renamed v a q j) xs s)
      → ((o : Bytes) (i e s : ℕ) → target v o i ≡ there e s → (s ≡ a → ⊥) → count a (passed v o (parts o i)) ≡ 0
      → target (renamed v a q j) o i ≡ there e s)
      → Renamed v p k q j (renamed v a q j) d a
  unfolding rename_number spot
  renamed_is e z stays still =
      let r = rows_off _ e refl in
      let S = sound_facts (total len) v (not_false _ (r 1)) in
      let proper : proper_name q 0 j ≡ true = and_right _ _ (not_false _ (r 2)) in
      let E = entry_led S (target_led S p k) (r 3) (r 4) (r 5) z in
      let free = open_name len v p k q j (not_false _ (r 1)) z (r 6) in
      let on : (xs : List ℕ) → Way v volume xs d → WayStays v (renamed v a q j) xs d = λ xs w. stays xs d (way_off S xs d a w E.spot.inside z) w in
      let R = path_reaches v p (parts p k) (r 3) (r 4) (λ f. z (ap spot f)) in
      let bears = (seek_some v p (last_part (parts p k)) (kids v d) a E.found).2 in
      let gone : (Spelled p (last_part (parts p k)) q (part 0 j) → ⊥) → (o : Bytes) (os : List Part) → AlikeNames p o (parts p k) os
      → lookup (renamed v a q j) o os ≡ missing d =
      λ off o os N. now_gone q j S E.spot E.alive proper free R o os on bears N off in
      record {
        was = is_there_law (target v p k) (r 3) (r 4) (r 5);
        kept = now_sort q j S E.spot E.alive proper free;
        found = λ o i N. now_found q j S E.spot E.alive proper free R o (parts o i) on N;
        through = λ o i o' i' T.
            let A = reaches_at S R in
            now_through q j S E.spot E.alive proper free bears o o' (under A.0 A.1 E.spot.inside) R T;
        gone = λ off. gone off p (parts p k) (alike_self p (parts p k));
        nowhere = λ off o i N. gone off o (parts o i) N;
        elsewhere = still;
      }

  pub rename_gives : (rename len v p k q j).number ≡ 0 → (spot (target v p k) ≡ volume → ⊥)
      → Renamed v p k q j (rename len v p k q j).image (home (target v p k)) (spot (target v p k))
  unfolding rename settle rename_number
  rename_gives e z =
      let S = not_false _ (rows_off _ e refl 1) in
      let image = rename_image len v p k q j S e in
      rw image
      (renamed_is e z (λ xs s c w. subst (λ u. WayStays v u xs s) image (rename_stays len v p k q j S xs s c w))
      (λ o i d s f n m.
      let W = path_spells (total len) v S o i d s f in
      let off : count a (volume ∷ W.places) ≡ 0 = omega (arith, spells_passed (total len) v S o i d s W a, m, is_no a s (λ x. n (sym x))) in
      rw image at (rename_path len v p k q j S o i d s f W.places W.way off)))
