-- Rename of an entry, and of the volume, keeps soundness, and every other file as it was.
use Prim.Native.Nat.{ℕ, ◌+◌, ◌-◌, ◌*◌, ◌≤◌, ◌<◌, ◌/◌}
use mathlib.Core.Path.{◌≡◌, refl, sym, ap, ◌∙◌}
use mathlib.Core.Option.{Option, none, some}
use mathlib.Core.Bool.{true, false}
use lib.Dec.{eqb}
use native.Mathlib.Omega.{arith}
use native.Mathlib.Nat.{add_assoc}
use borrow.Author.Tests.{eqb-true, eq-eqb, ne_eqb}
use Rattle.model.specs.Bytes.{Bytes, count, is, ◌and◌}
use Rattle.model.specs.Names.{Part, part, proper_name, same_name}
use Rattle.model.specs.Directory.{Sort, inactive, directory, improper, file, sort, is_active, live, at, volume, volume_block, map_place, active_count, key, field, kids, seek}
use Rattle.model.specs.File.{blocks}
use Rattle.model.specs.Calls.{total, target, spot, home, name_field}
use Rattle.model.specs.Rename.{named, header_named, renamed, is_other, name_taken, rename_number, rename}
use Rattle.model.specs.Sound.{sound, twins, faults, prodos}
use Rattle.model.proofs.ByteLaws.{put_off, paste_at, paste_out, word_same, at_or_off}
use Rattle.model.proofs.BitLaws.{MapSame, same_free, same_rest}
use Rattle.model.proofs.SumLaws.{sum_eq}
use Rattle.model.proofs.Laws.Total.{total_le, total_eq, Edge, root, child}
use Rattle.model.proofs.Laws.Frame.{at_inj, Named, previous_in, twins_same}
use Rattle.model.proofs.TestLaws.{and_right}
use Rattle.model.proofs.Laws.Sound.{deep, top, Sound, sound_facts, facts_sound}
use Rattle.model.proofs.Laws.Keep.{Keeps, Head, head_word, map_same, misnamed_same, badge_same, sort_same, sort_named, key_same, blocks_same, content_same, kids_same, faults_same}
use Rattle.model.proofs.Laws.Facts.{Seen, Placed, seen_placed, kid_placed, placed_proper, kid_once, mine_apart, directory_key_law, seen_directory, volume_seen, volume_directory}
use Rattle.model.proofs.Laws.One.{Place, Others, slot_head, file_directory, one_entry}
use Rattle.model.proofs.Laws.Spelling.{Bears, same_bears, bears_same, bears_capital, bears_alike, alike_bears, alike_back, bears_named, stored, twins_two, twins_change}
use Rattle.model.proofs.Laws.Relabel.{Marks, marks_step, Relabels, relabel_sound, relabel_others}
use Rattle.model.proofs.Laws.Lookup.{rows_off, not_false, seek_some, seek_none, name_size_law, entry_led, target_led}
use Rattle.model.proofs.Laws.Settled.{settled, others_self}

-- no other active entry has a name that is not taken
other_free : (s : ℕ) (o : Option ℕ) → is_other s o ≡ false → (u : ℕ) → o ≡ some u → u ≡ s
unfolding is_other
other_free s none e u f = let z : ◌≡◌ {A = ℕ} 0 1 = cc in absurd (omega arith)
other_free s (some t) e u f = let i : t ≡ u = cc in rw (← i) (eqb-true t s (not_false (eqb t s) e))

module _ {n : ℕ} {v : Bytes} {a d : ℕ} (S : Sound n v) (P : Place v a d) (alive : is_active (sort v a) ≡ true)
    (q : Bytes) (x : Part) (open_name : is_other a (seek v q x (kids v d)) ≡ false) where
  pub name_free : (t : ℕ) → 1 ≤ count t (kids v d) → (t ≡ a → ⊥) → is_active (sort v t) ≡ true → same_name v (at t) q x ≡ true → ⊥
  name_free t c k e f = go (seek v q x (kids v d)) refl
    where
      go : (o : Option ℕ) → seek v q x (kids v d) ≡ o → ⊥
      go none g = seek_none v q x (kids v d) g t c e f
      go (some u) g =
          let i : u ≡ a = other_free a (seek v q x (kids v d)) open_name u g in
          let h = seek_some v q x (kids v d) u g in
          let A : Bears v (at a) q x = same_bears v (at a) q x (rw i at h.2) in
          let T : Bears v (at t) q x = same_bears v (at t) q x f in
          let two = twins_two v t a (kids v d) k c P.inside e alive (bears_alike v (at t) q x (at a) T A) (bears_alike v (at a) q x (at t) A T) in
          omega (arith, (seen_directory S d P.home P.holds).unlike)

-- An entry.
module _ {n : ℕ} {v : Bytes} {a d : ℕ} (q : Bytes) (j : ℕ) (S : Sound n v) (P : Place v a d) (alive : is_active (sort v a) ≡ true)
    (proper : proper_name q 0 j ≡ true) (open_name : is_other a (seek v q (part 0 j) (kids v d)) ≡ false) where
  abbrev now : Bytes
  now = renamed v a q j

  abbrev once : Bytes
  once = named v (at a) q j

  header_out : (i : ℕ) → (sort v a ≡ directory → key v a * 512 + 4 ≤ i → i < key v a * 512 + 20 → ⊥) → header_named (sort v a) once (key v a) q j i ≡ once i
  header_out i f = go (sort v a) f
    where
      go : (K : Sort) → (K ≡ directory → key v a * 512 + 4 ≤ i → i < key v a * 512 + 20 → ⊥) → header_named K once (key v a) q j i ≡ once i
      go inactive g = unfold header_named in refl
      go directory g = unfold header_named in paste_out once (key v a * 512 + 4) 16 _ i (λ p r. g refl p (omega arith))
      go improper g = unfold header_named in refl
      go (file h) g = unfold header_named in refl

  now_is : (i : ℕ) → (i ≡ at a + 30 → ⊥) → now i ≡ header_named (sort v a) once (key v a) q j i
  unfolding renamed
  now_is i k = rw (ne_eqb a volume P.proper, renamed) (put_off _ (at a + 0x1E) _ i k)

  now_out : (i : ℕ) → (at a ≤ i → i < at a + 16 → ⊥) → (at a + 30 ≤ i → i < at a + 37 → ⊥)
      → (sort v a ≡ directory → key v a * 512 + 4 ≤ i → i < key v a * 512 + 20 → ⊥) → now i ≡ v i
  now_out i f g h = now_is i (λ e. g (omega arith) (omega arith)) ∙ header_out i h ∙ paste_out v (at a) 16 _ i f

  off_header : (i : ℕ) → i < 39 → sort v a ≡ directory → key v a * 512 + 4 ≤ at a + i → at a + i < key v a * 512 + 20 → ⊥
  off_header i l e p r = slot_head S P a (at a + i - key v a * 512) P.seen e (omega arith) (omega arith) (omega arith) (omega arith)

  now_name : (i : ℕ) → i < 16 → now (at a + i) ≡ name_field (v (at a) / 16) q (part 0 j) i
  now_name i l =
      now_is (at a + i) (λ e. omega arith) ∙ header_out (at a + i) (off_header i (omega arith)) ∙ paste_at v (at a) 16 _ i l

  now_header : sort v a ≡ directory → (i : ℕ) → i < 16 → now (key v a * 512 + 4 + i) ≡ name_field (v (key v a * 512 + 4) / 16) q (part 0 j) i
  unfolding header_named
  now_header e i l =
      let no : (o : ℕ) → o < 16 → at a ≤ key v a * 512 + 4 + o → key v a * 512 + 4 + o < at a + 39 → ⊥ =
      λ o m p r. slot_head S P a (4 + o) P.seen e (omega arith) (omega arith) (omega arith) (omega arith) in
      let same : once (key v a * 512 + 4) ≡ v (key v a * 512 + 4) =
      paste_out v (at a) 16 _ (key v a * 512 + 4) (λ p r. no 0 (omega arith) (omega arith) (omega arith)) in
      now_is (key v a * 512 + 4 + i) (λ f. no i l (omega arith) (omega arith))
      ∙ rw (e, ← same) (paste_at once (key v a * 512 + 4) 16 _ i l)

  size : j < 16
  size = name_size_law q 0 j proper

  pub entry_bears : Bears now (at a) q (part 0 j) × (now (at a) / 16 ≡ v (at a) / 16)
  entry_bears = stored now (at a) q (part 0 j) (v (at a) / 16) size now_name

  header_bears : sort v a ≡ directory
      → Bears now (key v a * 512 + 4) q (part 0 j) × (now (key v a * 512 + 4) / 16 ≡ v (key v a * 512 + 4) / 16)
  header_bears e = stored now (key v a * 512 + 4) q (part 0 j) (v (key v a * 512 + 4) / 16) size (now_header e)

  now_marks : Marks n v now a d
  now_marks = record { sound = S; spot = P; out = now_out }

  now_unlike : twins now (kids v d) ≡ 0
  now_unlike =
      let kept : (t : ℕ) → 1 ≤ count t (kids v d) → (t ≡ a → ⊥) → (sort now t ≡ sort v t) × Named v now (at t) =
      λ t c k. one_entry (marks_step now_marks) d t P.home c k in
      let free : (t : ℕ) → 1 ≤ count t (kids v d) → (t ≡ a → ⊥) → is_active (sort v t) ≡ true → Bears now (at t) q (part 0 j) → ⊥ =
      λ t c k e B. name_free S P alive q (part 0 j) open_name t c k e
      (bears_same v (at t) q (part 0 j) (bears_named v now (at t) q (part 0 j) size (kept t c k).1 B)) in
      twins_change v now a (kids v d) (omega (arith, kid_once S d a P.home P.inside)) kept
      (λ t c k _ e. (
        λ f. free t c k e (alike_bears now (at a) q (part 0 j) (at t) f entry_bears.0),
        λ f. free t c k e (alike_back now (at a) q (part 0 j) (at t) f entry_bears.0),
      ))
      (seen_directory S d P.home P.holds).unlike

  pub now_relabels : Relabels n v now a d
  now_relabels =
      record {
        marks = now_marks;
        sorted = sort_same v now a entry_bears.1;
        named = rw (bears_capital now (at a) q (part 0 j) entry_bears.0 proper) (omega arith);
        badged = λ e.
            rw (bears_alike now (key v a * 512 + 4) q (part 0 j) (at a) (header_bears e).0 entry_bears.0, (header_bears e).1) (omega arith);
        unlike = now_unlike;
      }

-- The volume.
module _ {n : ℕ} {v : Bytes} (q : Bytes) (j : ℕ) (S : Sound n v) (proper : proper_name q 0 j ≡ true) where
  abbrev after : Bytes
  after = named v (at volume) q j

  after_out : (i : ℕ) → (1028 ≤ i → i < 1044 → ⊥) → after i ≡ v i
  unfolding at
  after_out i f = paste_out v (at volume) 16 _ i (λ p r. f (omega arith) (omega arith))

  pub after_bears : Bears after (at volume) q (part 0 j) × (after (at volume) / 16 ≡ v (at volume) / 16)
  after_bears = stored after (at volume) q (part 0 j) (v (at volume) / 16) (name_size_law q 0 j proper) (λ i l. paste_at v (at volume) 16 _ i l)

  -- a slot of a directory, and a header, are not the volume's header
  after_slot : (x : ℕ) → Placed v x → (o : ℕ) → o < 39 → after (at x + o) ≡ v (at x + o)
  unfolding at
  after_slot x h o l =
      after_out (at x + o) (λ p r. placed_proper S x h (at_inj x volume o (at x + o - at volume) l (omega arith) (omega arith)))

  after_block : (b k : ℕ) → k < 512 → (b ≡ volume_block → 4 ≤ k → k < 20 → ⊥) → after (b * 512 + k) ≡ v (b * 512 + k)
  after_block b k l f = after_out (b * 512 + k) (λ p r. f (omega arith) (omega arith) (omega arith))

  volume_key : (x b : ℕ) → Seen v x → 1 ≤ count b (blocks v x) → b ≡ volume_block → x ≡ volume
  unfolding field
  volume_key x b h c e =
      mine_apart S x volume b h (volume_seen S) c (rw e (directory_key_law S volume (volume_seen S) (volume_directory S)))

  after_head : (x : ℕ) → Seen v x → sort v x ≡ directory → (x ≡ volume → ⊥) → Head v after (key v x)
  after_head x h e z i g l _ = after_block (key v x) i (omega arith) (λ f _ _. z (volume_key x (key v x) h (directory_key_law S x h e) f))

  pub after_name : (x : ℕ) → Placed v x → (sort after x ≡ sort v x) × Named v after (at x)
  after_name x h = let f : Named v after (at x) = λ i l. after_slot x h i (omega arith) in (sort_named v after x f, f)

  pub after_keeps : (x : ℕ) → Seen v x → Keeps v after x
  after_keeps x h =
      record {
        sorted = at_or_off x volume (λ e. rw e (volume_directory_of after ∙ sym (volume_directory_of v))) (λ z. (after_name x (seen_placed S x h z)).0);
        slot = λ z o g l _. after_slot x (seen_placed S x h z) o l;
        chains = λ e b c k l. after_block b k (omega arith) (λ _ p r. omega arith);
        head = λ e i g l _. after_block (key v x) i (omega arith) (λ _ p r. omega arith);
        trees = λ g e b c k l. after_block b k l (λ f _ _. file_directory (sym e ∙ rw (volume_key x b h c f) (volume_directory S)));
      }
    where
      volume_directory_of : (w : Bytes) → sort w volume ≡ directory
      volume_directory_of w = unfold sort in refl

  after_key : (x : ℕ) → Seen v x → key after x ≡ key v x
  after_key x h = key_same v after x (after_keeps x h).slot

  after_faults : (m r x : ℕ) → Seen v x → key after r ≡ key v r → faults n after m r x ≤ faults n v m r x
  after_faults m r x h e =
      faults_same v after x (after_keeps x h) n m r e
      (at_or_off x volume (λ f. rw (f, bears_capital after (at volume) q (part 0 j) after_bears.0 proper) (omega arith))
      (λ z. omega (arith, misnamed_same v after x (after_name x (seen_placed S x h z)).1)))
      (λ f z. omega (arith, badge_same v after x (key v x) (after_name x (seen_placed S x h z)).1 (after_head x h f z)))
      (λ f.
      let inside : (s : ℕ) → 1 ≤ count s (kids v x) → (sort after s ≡ sort v s) × Named v after (at s) = λ s c. after_name s (kid_placed S x s h c) in
      rw (
        sum_eq (λ s. live (sort after s)) (λ s. live (sort v s)) (kids v x) (λ s c. ap live (inside s c).0),
        twins_same v after (kids v x) inside,
        after_count x,
      )
      (omega arith))
    where
      after_count : (x : ℕ) → active_count after (key v x) ≡ active_count v (key v x)
      after_count x =
          word_same after v (key v x * 512 + 0x25) (key v x * 512 + 0x25) (after_block (key v x) 37 (omega arith) (λ _ p r. omega arith))
          (rw (add_assoc (key v x * 512) 37 1) (after_block (key v x) 38 (omega arith) (λ _ p r. omega arith)))

  edge_key : (r x : ℕ) → Edge (kids v) deep volume top r x → key after r ≡ key v r
  edge_key r x (root e c) = rw e (unfold field in refl)
  edge_key r x (child h c) = after_key r h

  after_sign : prodos n after ≡ prodos n v
  unfolding prodos at
  after_sign =
      let one : (k : ℕ) → k < 512 → (4 ≤ k → k < 20 → ⊥) → after (volume_block * 512 + k) ≡ v (volume_block * 512 + k) =
      λ k l f. after_block volume_block k l (λ _. f) in
      rw (
        previous_in v after volume_block (λ k l. one k (omega arith) (λ p r. omega arith)),
        after_bears.1,
        one 0x23 (omega arith) (λ p r. omega arith),
        one 0x24 (omega arith) (λ p r. omega arith),
        head_word v after volume_block 0x29 (λ k g l _. one k (omega arith) (λ p r. omega arith)) (omega arith) (omega arith) (λ p r. omega arith),
      )
      refl

  after_map : MapSame map_place n v after
  after_map i g h = after_out i (λ p r. omega arith)

  pub after_sound : Sound n after
  after_sound =
      record {
        large = S.large;
        small = S.small;
        sign = after_sign ∙ S.sign;
        place = map_same v after (λ k g l _. after_block volume_block k (omega arith) (λ _ p r. omega arith)) ∙ S.place;
        right = omega (
          arith,
          S.right,
          total_le (kids v) (kids after) (faults n v) (faults n after) deep volume top
              (λ m r x h e. (kids_same v after x (after_keeps x h), after_faults m r x h (edge_key r x e))),
        );
        once = λ b l.
            rw (
              total_eq (kids v) (kids after) (λ _ _ s. count b (blocks v s)) (λ _ _ s. count b (blocks after s)) deep volume top
                  (λ m r x h. (kids_same v after x (after_keeps x h), ap (count b) (blocks_same v after x (after_keeps x h)))),
              same_free map_place n v after after_map b l,
            )
            (S.once b l);
        rest = same_rest map_place n v after after_map S.rest;
      }

  pub after_others : Others v after volume
  after_others x h s k e =
      let K = after_keeps x s in
      record {
        seen = omega (arith, s, total_eq (kids v) (kids after) (λ _ _ y. is x y) (λ _ _ y. is x y) deep volume top (λ m r y g. (kids_same v after y (after_keeps y g), refl)));
        entry = after_slot x (seen_placed S x s k);
        sorted = K.sorted;
        owns = blocks_same v after x K;
        bytes = K.trees h e;
        reads = content_same v after x K h e;
      }

-- The call.
module _ (len : ℕ) (v p : Bytes) (k : ℕ) (q : Bytes) (j : ℕ) (S : sound (total len) v ≡ true) where
  abbrev there : ℕ
  there = spot (target v p k)

  pub whole : there ≡ volume → renamed v there q j ≡ named v (at volume) q j
  whole z = unfold renamed in rw (eq-eqb there volume z, renamed) refl

  pub open_name : (there ≡ volume → ⊥) → name_taken v (home (target v p k)) there q j ≡ false
      → is_other there (seek v q (part 0 j) (kids v (home (target v p k)))) ≡ false
  open_name z f = unfold name_taken ◌and◌ in (rw (ne_eqb there volume z) at f)

  Right : Bytes → Type 0
  Right w = (sound (total len) w ≡ true) × Others v w there

  done : rename_number len v p k q j (target v p k) ≡ 0 → Right (renamed v there q j)
  unfolding rename_number Right
  done e =
      let facts = sound_facts (total len) v S in
      let r = rows_off _ e refl in
      let proper : proper_name q 0 j ≡ true = and_right _ _ (not_false _ (r 2)) in
      at_or_off there volume
      (λ z. rw (whole z) (facts_sound (after_sound q j facts proper), rw z (after_others q j facts proper)))
      (λ z.
      let E = entry_led facts (target_led facts p k) (r 3) (r 4) (r 5) z in
      let R = now_relabels q j facts E.spot E.alive proper (open_name z (r 6)) in
      (facts_sound (relabel_sound R), relabel_others R))

  kept : Right (rename len v p k q j).image
  unfolding rename Right
  kept = settled _ _ v _ _ Right (S, others_self v there) done

  pub rename_sound : sound (total len) (rename len v p k q j).image ≡ true
  unfolding Right
  rename_sound = kept.0

  pub rename_others : Others v (rename len v p k q j).image (spot (target v p k))
  unfolding Right
  rename_others = kept.1
