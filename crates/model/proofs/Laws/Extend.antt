-- The directory at a gains the free block z at the end of its chain.
use Prim.Native.Nat.{ℕ, suc, ◌+◌, ◌-◌, ◌*◌, ◌≤◌, ◌<◌, ◌/◌, ◌%◌}
use mathlib.Core.Path.{◌≡◌, refl, sym, ◌∙◌}
use mathlib.Core.List.{[], ◌∷◌, ◌++◌, append-nil}
use lib.Dec.{leb}
use native.Mathlib.Omega.{arith}
use native.Mathlib.Nat.{add-zero, add_assoc}
use borrow.Author.Tests.{lt-leb}
use Rattle.model.specs.Bytes.{Bytes, Octets, sum, count, is, unless, one_if, word}
use Rattle.model.specs.Names.{capital_name}
use Rattle.model.specs.Map.{map_at, free, room, taken}
use Rattle.model.specs.Directory.{inactive, directory, sort_of, sort, live, at, volume, map_place, directory_type, previous, next, active_count, field, ftype, key, used, eof, directory_key, chain, slots, kids, active}
use Rattle.model.specs.File.{blocks}
use Rattle.model.specs.Sound.{links, outside, twins, top_faults, directory_faults, faults_of, faults}
use Rattle.model.specs.Create.{last_block, gained}
use Rattle.model.proofs.ByteLaws.{at_or_off, put_word_out, put_long_out, word_same, word_put_word, word_put_word_off, word_put_long_off, long_put_long, octets_put_word, octets_put_long}
use Rattle.model.proofs.BitLaws.{is_yes, is_no, is_both, map_at_in, map_at_off, taken_in, taken_out, taken_free, taken_octets, rest_taken, MapSame, same_free, same_rest, room_one}
use Rattle.model.proofs.SumLaws.{is_eq, sum_append, sum_zero, count_none}
use Rattle.model.proofs.Laws.Total.{total_one}
use Rattle.model.proofs.Laws.Grow.{Way, way_more}
use Rattle.model.proofs.Laws.Frame.{at_link, at_block, at_place, Named, next_in, slots_more, slots_last, last_in, chain_more, twins_same}
use Rattle.model.proofs.Laws.Sound.{deep, top, mine, Sound}
use Rattle.model.proofs.Laws.Keep.{Head, head_late, header_le, badge_same, misnamed_same, sort_named, sort_at, field_at, eof_at, ftype_at, top_at, directory_blocks, directory_kids, kids_same}
use Rattle.model.proofs.Laws.Facts.{level_le, free_mine, free_map, free_volume, DirectoryRight, Seen, directory_key_law, own_mine, mine_in, mine_once, mine_off, seen_directory, kid_right, kid_seen, volume_seen, parent_directory}
use Rattle.model.proofs.Laws.One.{Place, place, in_slot, in_link, Apart, Step, Others, Change, slot_mine, slot_map, slot_head, inactive_directory, one_apart, one_directory, one_active, one_twins, one_entry, one_inside, one_keeps, one_sound, one_seen, one_others}
use Rattle.model.proofs.Laws.Spelling.{twins_append}

-- y is the last block of the directory a, and z is free
pub record Extends (n : ℕ) (v : Bytes) (a d y z : ℕ) : Type 0 where
  pub octets : Octets v
  pub sound : Sound n v
  pub spot : Place v a d
  pub kind : sort v a ≡ directory
  pub tail : y ≡ last_block v 0 (key v a) (used v a)
  pub low : used v a < 32767
  pub inside : z < n
  pub spare : free map_place v z ≡ 1

module _ {n : ℕ} {v : Bytes} {a d y z : ℕ} (E : Extends n v a d y z) where
  open E use {octets, sound as S, spot as P, kind as da, tail as ly, inside as zn, spare as zf}

  abbrev grown : Bytes
  grown = gained map_place v a y z

  y_in : 1 ≤ count y (blocks v a)
  y_in = rw (directory_blocks v a da, ly) (last_in v 0 (key v a) (used v a) (seen_directory S a P.seen da).some)

  own : (b : ℕ) → 1 ≤ count b (blocks v a) → 1 ≤ mine v b
  own b h = own_mine S a b P.seen h

  y_once : count y (blocks v a) ≡ 1
  y_once = omega (arith, y_in, mine_once S y (own y y_in), total_one (kids v) (λ s. count y (blocks v s)) a deep volume top P.seen)

  -- the stores
  grown_taken : (i : ℕ) → (at a + 19 ≤ i → i < at a + 24 → ⊥) → (y * 512 + 2 ≤ i → i < y * 512 + 4 → ⊥) → (z * 512 ≤ i → i < z * 512 + 2 → ⊥)
      → grown i ≡ taken map_place v z i
  unfolding gained
  grown_taken i s p q =
      put_long_out _ (at a + 0x15) _ i (λ g h. s (omega arith) (omega arith))
      ∙ put_word_out _ (at a + 0x13) _ i (λ g h. s (omega arith) (omega arith))
      ∙ put_word_out _ (y * 512 + 2) z i (λ g h. p g (omega arith))
      ∙ put_word_out _ (z * 512) y i q

  grown_old : (b j : ℕ) → 1 ≤ mine v b → j < 512 → (at a + 19 ≤ b * 512 + j → b * 512 + j < at a + 24 → ⊥) → (b ≡ y → 2 ≤ j → j < 4 → ⊥)
      → grown (b * 512 + j) ≡ v (b * 512 + j)
  unfolding map_at
  grown_old b j m l s t =
      grown_taken (b * 512 + j) s (λ g h. t (omega arith) (omega arith) (omega arith)) (λ g h. free_mine S z zn zf b m (omega arith))
      ∙ taken_out map_place v z (b * 512 + j) (λ g h. free_mine S z zn zf b m (omega arith))
      (λ e. mine_off S b j m l (omega arith) (omega (arith, map_at_in map_place n z zn)))

  not_slot : (j : ℕ) → j < 512 → at a ≤ z * 512 + j → z * 512 + j < at a + 39 → ⊥
  not_slot j l g h = free_mine S z zn zf (a / 13) (slot_mine S P) (at_block a z (z * 512 + j - at a) j (omega arith) l (omega arith))

  grown_new : (j : ℕ) → 2 ≤ j → j < 512 → grown (z * 512 + j) ≡ 0
  grown_new j g l =
      grown_taken (z * 512 + j) (λ e f. not_slot j l (omega arith) (omega arith)) (λ e f. free_mine S z zn zf y (own y y_in) (omega arith))
      (λ e f. omega arith)
      ∙ taken_in map_place v z (z * 512 + j) (omega arith) (omega arith)

  grown_map : MapSame map_place n (taken map_place v z) grown
  grown_map i g h =
      grown_taken i (λ e f. slot_map S P i g h (omega arith) (omega arith))
      (λ e f.
      let r : i ≡ y * 512 + (i - y * 512) = omega arith in
      mine_off S y (i - y * 512) (own y y_in) (omega arith) (rw r at g) (rw r at h))
      (λ e f. free_map S z zn zf (omega arith) (omega arith))

  grown_link : (b j : ℕ) → 1 ≤ mine v b → j < 4 → (b ≡ y → 2 ≤ j → ⊥) → grown (b * 512 + j) ≡ v (b * 512 + j)
  grown_link b j m l t =
      grown_old b j m (omega arith) (λ g h. at_link a b (b * 512 + j - at a) j (omega arith) l (omega arith)) (λ e g h. t e g)

  grown_out : Apart v grown a d
  grown_out b j m l far = grown_old b j m l (λ g h. far (in_slot (omega arith) (omega arith))) (λ e g h. far (in_link (rw e y_in) h))

  pub grown_step : Step n v grown a d
  grown_step = record { sound = S; spot = P; out = grown_out }

  apart : a ≡ d → ⊥
  apart e = one_apart grown_step (sym e)

  -- the entry
  grown_slot : (o : ℕ) → o < 39 → (19 ≤ o → o < 24 → ⊥) → grown (at a + o) ≡ v (at a + o)
  grown_slot o l k =
      rw (at_place a o)
      (grown_old (a / 13) (4 + 39 * (a % 13) + o) (slot_mine S P) (omega arith)
      (λ g h. k (omega (arith, at_place a o)) (omega (arith, at_place a o))) (λ e g h. omega arith))

  pub grown_name : Named v grown (at a)
  grown_name i l = grown_slot i (omega arith) (λ g h. omega arith)

  pub grown_sort : sort grown a ≡ directory
  grown_sort = sort_named v grown a grown_name ∙ da

  grown_field : (o r : ℕ) → o + 1 < 39 → (18 ≤ o → o < 24 → ⊥) → field grown a o r ≡ field v a o r
  grown_field o r l k =
      field_at grown a o r P.proper
      ∙ word_same grown v (at a + o) (at a + o) (grown_slot o (omega arith) (λ g h. k (omega arith) h))
      (rw (add_assoc (at a) o 1) (grown_slot (o + 1) l (λ g h. k (omega arith) (omega arith))))
      ∙ sym (field_at v a o r P.proper)

  pub grown_key_law : key grown a ≡ key v a
  grown_key_law = grown_field 0x11 2 (omega arith) (λ g h. omega arith)

  grown_up : directory_key grown a ≡ key grown d
  grown_up =
      grown_field 0x25 2 (omega arith) (λ g h. omega arith)
      ∙ (kid_right S d a P.home P.holds P.inside (rw da refl)).up
      ∙ sym (one_directory grown_step)

  grown_type : ftype grown a ≡ directory_type
  grown_type =
      ftype_at grown a P.proper ∙ grown_slot 0x10 (omega arith) (λ g h. omega arith) ∙ sym (ftype_at v a P.proper)
      ∙ (seen_directory S a P.seen da).typed

  grown_used : used grown a ≡ suc (used v a)
  unfolding gained
  grown_used =
      let e : used v a + 1 ≡ suc (used v a) = omega arith in
      field_at grown a 0x13 4 P.proper ∙ word_put_long_off _ (at a + 0x15) _ (at a + 0x13) (λ g h. omega arith)
      ∙ word_put_word _ (at a + 0x13) (used v a + 1) (omega (arith, E.low)) ∙ e

  grown_eof : eof grown a ≡ eof v a + 512
  unfolding gained
  grown_eof =
      eof_at grown a P.proper
      ∙ long_put_long _ (at a + 0x15) (eof v a + 512) (omega (arith, E.low, (seen_directory S a P.seen da).sized))

  -- the chain
  link_off : (b j o : ℕ) → j < 4 → o < 39 → b * 512 + j ≡ at a + o → ⊥
  link_off b j o l k e = at_link a b o j k l e

  grown_next : next grown y ≡ z
  unfolding gained
  grown_next =
      word_put_long_off _ (at a + 0x15) _ (y * 512 + 2)
      (λ g h. link_off y 3 (y * 512 + 3 - at a) (omega arith) (omega arith) (omega arith))
      ∙ word_put_word_off _ (at a + 0x13) _ (y * 512 + 2)
      (λ g h. link_off y 3 (y * 512 + 3 - at a) (omega arith) (omega arith) (omega arith))
      ∙ word_put_word _ (y * 512 + 2) z (omega (arith, S.small))

  grown_previous : previous grown z ≡ y
  unfolding gained
  grown_previous =
      word_put_long_off _ (at a + 0x15) _ (z * 512)
      (λ g h. link_off z 1 (z * 512 + 1 - at a) (omega arith) (omega arith) (omega arith))
      ∙ word_put_word_off _ (at a + 0x13) _ (z * 512)
      (λ g h. link_off z 1 (z * 512 + 1 - at a) (omega arith) (omega arith) (omega arith))
      ∙ word_put_word_off _ (y * 512 + 2) z (z * 512) (λ g h. free_mine S z zn zf y (own y y_in) (omega arith))
      ∙ word_put_word _ (z * 512) y (omega (arith, mine_in S y (own y y_in), S.small))

  grown_last : next grown z ≡ 0
  unfolding word
  grown_last = rw (add_assoc (z * 512) 2 1, grown_new 2 (omega arith) (omega arith), grown_new 3 (omega arith) (omega arith)) refl

  grown_chain : (chain grown (key v a) (suc (used v a)) ≡ chain v (key v a) (used v a) ++ (z ∷ []))
      × (links grown 0 (key v a) (suc (used v a)) ≤ links v 0 (key v a) (used v a))
  grown_chain =
      chain_more v grown z y 0 (key v a) (used v a) (seen_directory S a P.seen da).some ly (rw (directory_blocks v a da) at y_once)
      (λ b h.
      let m : 1 ≤ mine v b = own b (rw (directory_blocks v a da) h) in (
        λ k. next_in v grown b (λ j l. grown_link b j m l (λ e g. k e)),
        word_same grown v (b * 512) (b * 512) (rw add-zero at (grown_link b 0 m (omega arith) (λ e g. omega arith)))
            (grown_link b 1 m (omega arith) (λ e g. omega arith)),
      ))
      grown_next
      grown_previous
      grown_last

  grown_blocks : blocks grown a ≡ blocks v a ++ (z ∷ [])
  grown_blocks = directory_blocks grown a grown_sort ∙ rw (grown_key_law, grown_used, directory_blocks v a da) grown_chain.0

  pub grown_kids : kids grown a ≡ kids v a ++ slots (z ∷ [])
  grown_kids =
      directory_kids grown a grown_sort
      ∙ rw (grown_key_law, grown_used, grown_chain.0, directory_kids v a da)
      (slots_more v (key v a) (used v a) (z ∷ []) (seen_directory S a P.seen da).some)

  pub grown_off : (s : ℕ) → 1 ≤ count s (slots (z ∷ [])) → sort grown s ≡ inactive
  unfolding sort_of
  grown_off s h =
      let r = slots_last z s h in
      let i : s / 13 ≡ z = omega (arith, r.0, r.1) in
      let e : at s ≡ z * 512 + (4 + 39 * (s % 13)) = rw (← i) (omega (arith, at_place s 0)) in
      sort_at grown s (λ f. free_volume S z zn zf (omega arith))
      ∙ rw (e, grown_new (4 + 39 * (s % 13)) (omega arith) (omega arith)) refl

  grown_active : active grown (kids grown a) ≡ active v (kids v a)
  grown_active =
      rw (grown_kids, sum_append (λ s. live (sort grown s)) (kids v a) (slots (z ∷ [])))
      (omega (
        arith,
        one_active grown_step a P.seen apart,
        sum_zero (λ s. live (sort grown s)) (slots (z ∷ [])) (λ s c. rw (grown_off s c) refl),
      ))

  grown_twins : twins grown (kids grown a) ≡ 0
  grown_twins =
      rw grown_kids
      (twins_append grown (kids v a) (slots (z ∷ [])) (λ s c. rw (grown_off s c) refl)
      ∙ one_twins grown_step a P.seen apart
      ∙ (seen_directory S a P.seen da).unlike)

  grown_outside : outside n (blocks grown a) ≡ 0
  grown_outside =
      rw (grown_blocks, sum_append (λ b. one_if (leb n b)) (blocks v a) (z ∷ []))
      (unfold sum in rw (lt-leb n z zn) (omega (arith, (seen_directory S a P.seen da).inside)))

  -- headers stay
  grown_byte : (x j : ℕ) → Seen v x → sort v x ≡ directory → 4 ≤ j → j < 43 → grown (key v x * 512 + j) ≡ v (key v x * 512 + j)
  grown_byte x j h e g l =
      grown_old (key v x) j (own_mine S x (key v x) h (directory_key_law S x h e)) (omega arith)
      (λ p q. slot_head S P x j h e g l (omega arith) (omega arith)) (λ _ p q. omega arith)

  grown_count : (x : ℕ) → Seen v x → sort v x ≡ directory → active_count grown (key v x) ≡ active_count v (key v x)
  grown_count x h e =
      word_same grown v (key v x * 512 + 0x25) (key v x * 512 + 0x25) (grown_byte x 37 h e (omega arith) (omega arith))
      (rw (add_assoc (key v x * 512) 37 1) (grown_byte x 38 h e (omega arith) (omega arith)))

  grown_top : top_faults grown a ≡ 0
  grown_top =
      let head : Head v grown (key v a) = λ j g l _. grown_byte a j P.seen da g l in
      omega (
        arith,
        (seen_directory S a P.seen da).topped,
        top_at v a P.proper,
        rw grown_key_law at (top_at grown a P.proper),
        header_le v grown a (key v a) (head_late v grown (key v a) head) (omega (arith, badge_same v grown a (key v a) grown_name head)),
      )

  grown_faults : (m : ℕ) → faults n grown m d a ≡ is m 0
  unfolding faults_of directory_faults
  grown_faults m =
      rw (grown_sort, grown_active, grown_key_law, grown_used, grown_eof)
      (omega (
        arith,
        R,
        R.linked,
        grown_chain.1,
        grown_twins,
        grown_outside,
        grown_top,
        grown_count a P.seen da,
        misnamed_same v grown a grown_name,
        name,
        is_yes (directory_key grown a) (key grown d) grown_up,
        is_yes (ftype grown a) directory_type grown_type,
        is_no (suc (used v a)) 0 (λ e. omega arith),
        is_yes (eof v a + 512) (suc (used v a) * 512) (omega (arith, R.sized)),
        is_yes (active_count grown (key v a)) (active v (kids v a)) (grown_count a P.seen da ∙ R.counted),
      ))
    where
      R : DirectoryRight n v a
      R = seen_directory S a P.seen da

      name : unless (capital_name v (at a)) ≡ 0
      name = rw R.name refl

  grown_change : Change n v grown a d 0 (kids v a) [] (slots (z ∷ []))
  grown_change =
      record {
        step = grown_step;
        old = sym (append-nil (kids v a));
        new = grown_kids;
        off = λ s c. absurd (count_none s c);
        off' = grown_off;
        held = λ s c. grown_key_law;
        level = omega arith;
        entry = λ m. omega (arith, grown_faults m, level_le n v m d a da);
        counted = rw (grown_count d P.home P.holds, grown_sort, da) refl;
        unlike = twins_same v grown (kids v d) names ∙ (seen_directory S d P.home P.holds).unlike;
        balance = λ b l.
            rw (grown_blocks, sum_append (is b) (blocks v a) (z ∷ []))
            (unfold sum in
            omega (
              arith,
              is_both b z z b sym sym,
              same_free map_place n (taken map_place v z) grown grown_map b l,
              rw zf at (taken_free map_place v z b octets (map_at_off map_place n z b l (free_map S z zn zf))),
            ));
        rest = same_rest map_place n (taken map_place v z) grown grown_map (rest_taken map_place v z n octets zn S.rest);
      }
    where
      names : (s : ℕ) → 1 ≤ count s (kids v d) → (sort grown s ≡ sort v s) × Named v grown (at s)
      names s c =
          at_or_off s a (λ e. rw e (sort_named v grown a grown_name, grown_name)) (λ k. one_entry grown_step d s P.home c k)

  pub grown_sound : Sound n grown
  grown_sound = one_sound grown_change

  pub grown_others : Others v grown a
  grown_others = one_others grown_change

  pub grown_octets : Octets grown
  unfolding gained
  grown_octets = octets_put_long _ _ _ (octets_put_word _ _ _ (octets_put_word _ _ _ (octets_put_word _ _ _ (taken_octets map_place v z octets))))

  -- the directory stays on the walk, and the new slots are inactive slots of it
  pub grown_seen : Seen grown a
  grown_seen = one_seen grown_change a P.seen (λ e. inactive_directory (sym e ∙ da)) (λ e. inactive_directory (sym e ∙ grown_sort))

  pub grown_place : (s : ℕ) → 1 ≤ count s (slots (z ∷ [])) → Place grown s a × (sort grown s ≡ inactive)
  grown_place s h =
      (place s a grown_sound grown_seen grown_sort (rw grown_kids (omega (arith, sum_append (is s) (kids v a) (slots (z ∷ []))))), grown_off s h)

  -- of its old slots none has another name
  pub grown_entry : (s : ℕ) → 1 ≤ count s (kids v a) → (sort grown s ≡ sort v s) × Named v grown (at s)
  grown_entry s c = one_inside grown_step a P.seen apart s c

  pub grown_free : (b : ℕ) → b < n → free map_place grown b + is z b ≡ free map_place v b
  grown_free b l =
      omega (
        arith,
        same_free map_place n (taken map_place v z) grown grown_map b l,
        rw zf at (taken_free map_place v z b octets (map_at_off map_place n z b l (free_map S z zn zf))),
      )

  -- one block is taken
  pub grown_room : room map_place grown n + 1 ≡ room map_place v n
  grown_room = sym (room_one map_place grown v z 1 n (λ b l. omega (arith, grown_free b l)) zn)

  pub grown_way : (x k : ℕ) → Way (kids v) x top k → Way (kids grown) x top k
  grown_way x k w = way_more (kids v) (kids grown) (Seen v) stays x w top (λ y c. (top_seen y c, c))
    where
      top_seen : (y : ℕ) → 1 ≤ count y top → Seen v y
      top_seen y c = unfold sum in rw (is_eq y volume (omega arith)) (volume_seen S)

      stays : (q : ℕ) → Seen v q → (y : ℕ) → 1 ≤ count y (kids v q) → Seen v y × (1 ≤ count y (kids grown q))
      stays q h y c = (
        kid_seen S q y h (parent_directory v q y c) c,
        at_or_off q a
            (λ e. rw (e, grown_kids) (omega (arith, sum_append (is y) (kids v a) (slots (z ∷ [])), rw e at c)))
            (λ k. rw (kids_same v grown q (one_keeps grown_step q h k)) c),
      )
