-- What destroy answers, by what the path leads to, and that the code does to the decoded entry what the definition does at its place.
use Rattle.std.specs.Prelude.{Result, Ok, Err, Some, None}
use Prim.Native.Nat.{ℕ, zero, suc, ◌+◌, ◌-◌, ◌*◌, ◌≤◌, ◌<◌}
use mathlib.Core.Path.{◌≡◌, refl, sym, ap, ◌∙◌}
use mathlib.Core.List.{List, [], ◌∷◌}
use mathlib.Core.Bool.{Bool, true, false, not}
use lib.Dec.{eqb}
use lib.ListN.{length}
use native.Mathlib.Omega.{arith}
use borrow.Author.Tests.{ne_eqb}
use Rattle.model.specs.Bytes.{Bytes, view, put, put_word, count, ◌and◌}
use Rattle.model.specs.Kinds.{key_of}
use Rattle.model.specs.Directory.{at, volume, map_place, map_block, active_count, chain, Sort, inactive, directory, improper, file, sort, is_active, is_directory, live, key, eof, kids, access, there}
use Rattle.model.specs.File.{blocks_of, blocks}
use Rattle.model.specs.Sound.{sound}
use Rattle.model.specs.Refusals.{refusal_number, Row, row, first, settle}
use Rattle.model.specs.Calls.{total, target, spot, home, is_no_volume, is_no_directory, is_missing, allows, destroy_bit, given_all, nothing}
use Rattle.model.specs.Destroy.{destroyed, may_destroy, destroy_number, destroy}
use Rattle.model.specs.Answers.{Does}
use Rattle.model.specs.declared.Kind.{Kind}
use Rattle.model.specs.declared.Kind.TheVariants.{Seedling, Sapling, Tree, Directory}
use Rattle.model.specs.declared.Refusal.{Refusal}
use Rattle.model.specs.declared.Refusal.TheVariants.{Locked}
use Rattle.model.specs.declared.Entry.{Entry}
use Rattle.model.specs.declared.Place.{Place}
use Rattle.model.proofs.RefusalLaws.{settle_refused, settle_accepted, number_refuses, first_applies, first_passes}
use Rattle.model.proofs.SumLaws.{sum_mem}
use Rattle.model.proofs.Laws.Sound.{sound_facts}
use Rattle.model.proofs.Laws.Facts.{block_inside, slot_inside, directory_key_law, seen_directory}
use Rattle.model.proofs.Laws.One as one
use Rattle.model.proofs.Laws.Destroy.{live_active}
use Rattle.model.proofs.Laws.Lookup as look
use Rattle.facts.proofs.BlockLaws.{met_file}
use Rattle.directory.specs.Slots.{place_number, place_of, kind_of, entry_of}
use Rattle.directory.specs.Lookup.{home_of}
use Rattle.directory.specs.declared.Home.{Home}
use Rattle.directory.proofs.SlotLaws.{place_number_law, entry_used, entry_key}
use Rattle.directory.proofs.AnswerLaws.{place_counted}
use Rattle.opening.specs.Opened.{opened_by}
use Rattle.opening.specs.Sorts.{height_of, data_height}
use Rattle.opening.specs.declared.Opened.{Opened}
use Rattle.opening.specs.declared.Opened.TheVariants as opened
use Rattle.opening.proofs.VolumeLaws.{Fits}
use Rattle.opening.proofs.EntryLaws.{Named, target_named, height_small, kind_is, access_is}
use Rattle.opening.proofs.OpenedLaws.{opened_or, opened_first, Seen, refused, on_volume, on_entry, seen}
use Rattle.release.specs.Loose.{Loose, tree}
use Rattle.release.proofs.Laws.{tree_key}
use Rattle.destroy.specs.Gone.{kind_blocks, entry_blocks, bare, may_go, entry_gone, entry_destroy, Goes}

pub height_low : (K : Kind) → height_of K ≤ 3
height_low (Seedling k) = omega arith
height_low (Sapling k) = omega arith
height_low (Tree k) = omega arith
height_low (Directory k) = omega arith

-- a directory's blocks are its chain, a data file's its tree
module _ (K : Kind) (v : Bytes) (u k : ℕ) (keyed : k ≡ key_of K) where
  pub blocks_chain : data_height K ≡ None → kind_blocks K v u ≡ chain v k u
  blocks_chain e = rw keyed (go K e)
    where
      go : (K : Kind) → data_height K ≡ None → kind_blocks K v u ≡ chain v (key_of K) u
      go (Seedling k) e = absurd (cc)
      go (Sapling k) e = absurd (cc)
      go (Tree k) e = absurd (cc)
      go (Directory k) e = refl

  pub blocks_tree : (h : ℕ) → data_height K ≡ Some h → (h ≤ 2) × (kind_blocks K v u ≡ tree v h k)
  blocks_tree h e = rw keyed (go K h e)
    where
      go : (K : Kind) (h : ℕ) → data_height K ≡ Some h → (h ≤ 2) × (kind_blocks K v u ≡ tree v h (key_of K))
      go (Seedling k) h e = let z : h ≡ 0 = cc in rw z (omega arith, refl)
      go (Sapling k) h e = let z : h ≡ 1 = cc in rw z (omega arith, refl)
      go (Tree k) h e = let z : h ≡ 2 = cc in rw z (omega arith, refl)
      go (Directory k) h e = absurd (cc)

-- $4E in the code
module _ (v : Bytes) (x : Entry) where
  pub may_not : allows x.access destroy_bit ≡ false → false ≡ may_go v x
  unfolding may_go ◌and◌
  may_not h = sym (ap (λ (b : Bool). b and bare x.kind v) h)

  pub may_bare : allows x.access destroy_bit ≡ true → bare x.kind v ≡ may_go v x
  unfolding may_go ◌and◌
  may_bare h = sym (ap (λ (b : Bool). b and bare x.kind v) h)

-- the image that the code leaves, store by store
pub gone_image : (v : Bytes) (k a : ℕ) (x : Entry) (c s : ℕ) (f g i : Bytes) → c ≡ active_count v k → s ≡ a → f ≡ given_all map_place v (entry_blocks v x)
    → g ≡ put_word f (k * 512 + 0x25) (c - 1) → i ≡ put g s 0 → i ≡ entry_gone v k a x
unfolding entry_gone
gone_image v k a x c s f g i count start given lowered struck = struck ∙ rw (lowered, given, count, start) refl

-- the two outcomes
module _ (l : List ℕ) (k a : ℕ) (x : Entry) where
  pub gone_no : may_go (view l) x ≡ false → Does (entry_destroy (view l) k a x) (length l) (Err Locked) l
  unfolding entry_destroy settle
  gone_no e =
      let n = first_applies (row (not (may_go (view l) x)) 0x4E) [] (ap not e) in
      let s = settle_refused (first (row (not (may_go (view l) x)) 0x4E ∷ [])) nothing (view l) nothing (entry_gone (view l) k a x) (λ z. number_refuses Locked (sym n ∙ z)) in
      record { said = sym n; size = refl; bytes = sym s.1 }

  pub gone_yes : may_go (view l) x ≡ true → (l' : List ℕ) → length l' ≡ length l → view l' ≡ entry_gone (view l) k a x
      → Does (entry_destroy (view l) k a x) (length l) (Ok tt) l'
  unfolding entry_destroy settle first
  gone_yes e l' z g =
      let n : first (row (not (may_go (view l) x)) 0x4E ∷ []) ≡ 0 = first_passes (row (not (may_go (view l) x)) 0x4E) [] (ap not e) in
      let s = settle_accepted (first (row (not (may_go (view l) x)) 0x4E ∷ [])) nothing (view l) nothing (entry_gone (view l) k a x) n in
      record { said = sym n; size = z; bytes = g ∙ sym s.1 }

-- The call, by what its path leads to.
module _ (len : ℕ) (v p : Bytes) (k : ℕ) where
  abbrev rows : List Row
  rows = row (not (may_destroy v (spot (target v p k)))) 0x4E ∷ []

  number : destroy_number len v p k (target v p k) ≡ opened_or (opened_by len v p k) (first rows)
  unfolding destroy_number
  number = opened_first len v p k rows

  number_of : (o : Result Opened Refusal) → opened_by len v p k ≡ o → destroy_number len v p k (target v p k) ≡ opened_or o (first rows)
  number_of o e = number ∙ ap (λ o. opened_or o (first rows)) e

no : (l : List ℕ) (p : Bytes) (k : ℕ) (r : Refusal) → destroy_number (length l) (view l) p k (target (view l) p k) ≡ refusal_number r
    → Does (destroy (length l) (view l) p k) (length l) (Err r) l
unfolding destroy settle
no l p k r e =
    let v = view l in
    let t = target v p k in
    let s = settle_refused (destroy_number (length l) v p k t) nothing v nothing (destroyed (map_block v) v (home t) (spot t)) (λ z. number_refuses r (sym e ∙ z)) in
    record { said = sym e; size = refl; bytes = sym s.1 }

module _ (l : List ℕ) (p : Bytes) (k : ℕ) where
  pub destroy_refused : (r : Refusal) → opened_by (length l) (view l) p k ≡ Err r → Does (destroy (length l) (view l) p k) (length l) (Err r) l
  destroy_refused r e = no l p k r (number_of (length l) (view l) p k (Err r) e)

  pub destroy_volume : (n : ℕ) → opened_by (length l) (view l) p k ≡ Ok (opened.Volume n) → Does (destroy (length l) (view l) p k) (length l) (Err Locked) l
  destroy_volume n e = go (opened_by (length l) (view l) p k) refl e (seen (length l) (view l) p k)
    where
      v : Bytes
      v = view l

      locked : (d : ℕ) → may_destroy v (spot (there d volume)) ≡ false
      locked d = unfold may_destroy spot ◌and◌ in refl

      go : (o : Result Opened Refusal) → opened_by (length l) v p k ≡ o → o ≡ Ok (opened.Volume n) → Seen (length l) v p k o → Does (destroy (length l) v p k) (length l) (Err Locked) l
      go o q z (refused r x) = let y : ◌≡◌ {A = ℕ} 0 1 = cc in absurd (omega arith)
      go o q z (on_volume d f t) =
          let m : may_destroy v (spot (target v p k)) ≡ false = ap (λ t. may_destroy v (spot t)) t ∙ locked d in
          no l p k Locked (number_of (length l) v p k o q ∙ first_applies (row (not (may_destroy v (spot (target v p k)))) 0x4E) [] (ap not m))
      go o q z (on_entry d s f t off) = let y : ◌≡◌ {A = ℕ} 0 1 = cc in absurd (omega arith)

-- The entry at s of the directory d, decoded.
module _ (n : ℕ) (v : Bytes) (d s : ℕ) (h : sound n v ≡ true) (w : Named v d s) (off : s ≡ volume → ⊥) where
  abbrev entry : Entry
  entry = entry_of v (at s)

  blocks_of_law : (K : Sort) → sort v s ≡ K → entry.kind ≡ kind_of K (key v s) → kind_blocks entry.kind v entry.used ≡ blocks_of K v s
  unfolding blocks_of
  blocks_of_law inactive q k = let a : false ≡ true = sym (ap is_active q) ∙ w.active in let z : ◌≡◌ {A = ℕ} 0 1 = cc in absurd (omega arith)
  blocks_of_law improper q k = absurd (w.proper q)
  blocks_of_law directory q k = ap (λ K. kind_blocks K v entry.used) k ∙ ap (chain v (key v s)) (entry_used v s off)
  blocks_of_law (file zero) q k = ap (λ K. kind_blocks K v entry.used) k
  blocks_of_law (file (suc zero)) q k = ap (λ K. kind_blocks K v entry.used) k
  blocks_of_law (file (suc (suc zero))) q k = ap (λ K. kind_blocks K v entry.used) k
  blocks_of_law (file (suc (suc (suc g)))) q k =
      let t = (met_file {n = n} h w.met q).tall in
      absurd (omega (arith, height_small (eof v s)))

  blocks_is : entry_blocks v entry ≡ blocks v s
  unfolding entry_blocks
  blocks_is = blocks_of_law (sort v s) refl (kind_is v d s w off)

  bare_of : (K : Sort) → sort v s ≡ K → bare (kind_of K (key v s)) v ≡ not (is_directory K and not (eqb (active_count v (key v s)) 0))
  unfolding ◌and◌
  bare_of inactive q = let a : false ≡ true = sym (ap is_active q) ∙ w.active in let z : ◌≡◌ {A = ℕ} 0 1 = cc in absurd (omega arith)
  bare_of improper q = absurd (w.proper q)
  bare_of directory q = twice (eqb (active_count v (key v s)) 0)
    where
      twice : (b : Bool) → b ≡ not (not b)
      twice true = refl
      twice false = refl
  bare_of (file zero) q = refl
  bare_of (file (suc zero)) q = refl
  bare_of (file (suc (suc g))) q = refl

  may_is : may_destroy v s ≡ may_go v entry
  unfolding may_destroy may_go ◌and◌
  may_is =
      rw (ne_eqb s volume off, access_is v d s w off, kind_is v d s w off)
      (ap (λ b. allows (access v s) destroy_bit and b) (sym (bare_of (sort v s) refl)))

  outcome_is : map_block v ≡ map_place
      → settle (first (row (not (may_destroy v s)) 0x4E ∷ [])) nothing v nothing (destroyed (map_block v) v d s) ≡ entry_destroy v (key v d) (at s) entry
  unfolding destroyed entry_destroy entry_gone
  outcome_is m = rw (m, may_is, blocks_is) refl

  module _ (P : one.Place v s d) where
    own : Loose n (blocks v s)
    own b m = let i = block_inside (sound_facts n v h) s b P.seen m in (i.fits, i.off)

    keyed_of : (K : Sort) → sort v s ≡ K → Loose n (blocks_of K v s) → key v s < n
    unfolding blocks_of
    keyed_of inactive q f = let a : false ≡ true = sym (ap is_active q) ∙ w.active in let z : ◌≡◌ {A = ℕ} 0 1 = cc in absurd (omega arith)
    keyed_of improper q f = absurd (w.proper q)
    keyed_of directory q f = let S = sound_facts n v h in (block_inside S s (key v s) P.seen (directory_key_law S s P.seen q)).fits
    keyed_of (file g) q f = tree_key n v g (key v s) f

    goes : Goes n v (home_of v d) (place_of s) entry
    goes =
        let S = sound_facts n v h in
        record {
          headed = (block_inside S d (key v d) P.home (directory_key_law S d P.home P.holds)).fits;
          counts = omega (arith, live_active (sort v s) w.active, (seen_directory S d P.home P.holds).counted, sum_mem (λ s. live (sort v s)) s (kids v d) P.inside);
          counted = place_counted s (place_of s) refl;
          inside = (slot_inside S d s P.home P.inside).fits;
          keyed = rw (entry_key v s off) (keyed_of (sort v s) refl own);
          loose = rw blocks_is own;
        }

-- the path leads to an entry
pub destroy_entry : (len : ℕ) (v p : Bytes) (k n : ℕ) (g : Home) (s : Place) (x : Entry) → opened_by len v p k ≡ Ok (opened.Entry n g s x)
    → Fits len v n × (destroy len v p k ≡ entry_destroy v g.key (at (place_number s)) x) × Goes n v g s x
unfolding destroy
destroy_entry len v p k n g s x e = go (opened_by len v p k) refl e (seen len v p k)
  where
    go : (o : Result Opened Refusal) → opened_by len v p k ≡ o → o ≡ Ok (opened.Entry n g s x) → Seen len v p k o
        → Fits len v n × (destroy len v p k ≡ entry_destroy v g.key (at (place_number s)) x) × Goes n v g s x
    go o q z (refused r y) = let w : ◌≡◌ {A = ℕ} 0 1 = cc in absurd (omega arith)
    go o q z (on_volume d f t) = let w : ◌≡◌ {A = ℕ} 0 1 = cc in absurd (omega arith)
    go o q z (on_entry d y f t off) =
        let c : total len ≡ n = cc in
        let i : home_of v d ≡ g = cc in
        let j : place_of y ≡ s = cc in
        let m : entry_of v (at y) ≡ x = cc in
        let w = target_named (total len) v p k d y f.sane t in
        let spotted : spot (target v p k) ≡ y = unfold spot in ap spot t in
        let housed : home (target v p k) ≡ d = unfold home in ap home t in
        let number : destroy_number len v p k (target v p k) ≡ first (row (not (may_destroy v y)) 0x4E ∷ []) =
        number_of len v p k o q ∙ ap (λ j. first (row (not (may_destroy v j)) 0x4E ∷ [])) spotted in
        let whole : destroy len v p k ≡ entry_destroy v (key v d) (at y) (entry_of v (at y)) =
        ap (λ j. settle j nothing v nothing (destroyed (map_block v) v (home (target v p k)) (spot (target v p k)))) number
        ∙ ap (λ j. settle (first (row (not (may_destroy v y)) 0x4E ∷ [])) nothing v nothing (destroyed (map_block v) v j (spot (target v p k)))) housed
        ∙ ap (λ j. settle (first (row (not (may_destroy v y)) 0x4E ∷ [])) nothing v nothing (destroyed (map_block v) v d j)) spotted
        ∙ outcome_is (total len) v d y f.sane w off f.placed in
        let E = look.entry_led (sound_facts (total len) v f.sane) (look.target_led (sound_facts (total len) v f.sane) p k) (plain t) (way t) (found t) (λ a. off (sym spotted ∙ a)) in
        let P : one.Place v y d = rw (spotted, housed) at E.spot in
        rw (← c, ← i, ← j, ← m) (f, rw (place_number_law y) whole, goes (total len) v d y f.sane w off P)
      where
        plain : {d y : ℕ} → target v p k ≡ there d y → is_no_volume (target v p k) ≡ false
        plain t = unfold is_no_volume in ap is_no_volume t

        way : {d y : ℕ} → target v p k ≡ there d y → is_no_directory (target v p k) ≡ false
        way t = unfold is_no_directory in ap is_no_directory t

        found : {d y : ℕ} → target v p k ≡ there d y → is_missing (target v p k) ≡ false
        found t = unfold is_missing in ap is_missing t
