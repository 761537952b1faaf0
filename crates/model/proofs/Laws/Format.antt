-- A formatted volume is sound.
use Prim.Native.Nat.{ℕ, zero, suc, ◌+◌, ◌-◌, ◌*◌, ◌≤◌, ◌<◌, ◌/◌, ◌%◌}
use mathlib.Core.Path.{◌≡◌, refl, sym, ap, ◌∙◌}
use mathlib.Core.List.{List, [], ◌∷◌}
use mathlib.Core.Bool.{Bool, true, false}
use lib.Dec.{leb, ltb}
use lib.ListN.{drop}
use native.Mathlib.Omega.{arith}
use borrow.Author.Tests.{eq-eqb, leb-true, leb-false, lt-leb}
use Rattle.model.specs.Bytes.{Bytes, sum, count, run, one_if, paste, zeros, digit, word, put_word, ◌and◌}
use Rattle.model.specs.Names.{part, proper_name, capital_name}
use Rattle.model.specs.Map.{map_blocks, map_at, free, fresh_map}
use Rattle.model.specs.Directory.{inactive, sort_of, sort, live, at, volume, volume_chain, map_place, slot_size, slots_in_block, previous, next, active_count, map_block, total_blocks, field, ftype, eof, chain, slots, slots_below, kids, active}
use Rattle.model.specs.File.{blocks_of, blocks}
use Rattle.model.specs.Walk.{level_most}
use Rattle.model.specs.Sound.{whole_blocks, prodos, links, differ, outside, twins, volume_faults, top_faults, directory_faults, faults_of, faults, sound}
use Rattle.model.specs.Calls.{total, name_field, nothing}
use Rattle.model.specs.Format.{linked, header_bytes, volume_header, formatted, format_number, format}
use Rattle.model.specs.declared.Stamp.{Stamp}
use Rattle.model.proofs.ByteLaws.{put_at, put_off, paste_at, paste_in, paste_out, paste_before, paste_after, put_word_out, word_put_word, word_put_word_off, word_same}
use Rattle.model.proofs.BitLaws.{is_no, map_at_in, fresh_free, fresh_yes, fresh_no, fresh_rest}
use Rattle.model.proofs.SumLaws.{sum_zero, run_in_law, run_low, run_high, run_has, run_most}
use Rattle.model.proofs.Laws.Total as Totals
use Rattle.model.proofs.Laws.Total.{Weight}
use Rattle.model.proofs.Laws.Grow.{total_inert}
use Rattle.model.proofs.Laws.Frame.{at_place}
use Rattle.model.proofs.TestLaws.{and_right, and_both}
use Rattle.model.proofs.Laws.Sound.{deep, sums, fixed, mine, Sound, facts_sound}
use Rattle.model.proofs.Laws.Keep.{sort_at}
use Rattle.model.proofs.Laws.One.{leaf, inactive_directory, off_blocks}
use Rattle.model.proofs.Laws.Spelling.{within_is, Bears, bears_capital, stored, twins_off}
use Rattle.model.proofs.Laws.Lookup.{rows_off, not_false, name_size_law}
use Rattle.model.proofs.Laws.Fresh.{name_rest}
use Rattle.model.proofs.Laws.Settled.{done_image}

-- The links are all that is outside header and map.
linked_off : (f : Bytes) (p : ℕ) (bs : List ℕ) (i : ℕ) → 4 ≤ i % 512 → linked f p bs i ≡ f i
unfolding linked
linked_off f p [] i h = refl
linked_off f p (b ∷ []) i h = put_word_out f (b * 512) p i (λ g l. omega arith)
linked_off f p (b ∷ c ∷ r) i h =
    linked_off (put_word (put_word f (b * 512) p) (b * 512 + 2) c) b (c ∷ r) i h ∙ put_word_out _ (b * 512 + 2) c i (λ g l. omega arith) ∙ put_word_out f (b * 512) p i (λ g l. omega arith)

in_block : (b r : ℕ) → r < 512 → (b * 512 + r) % 512 ≡ r
in_block b r h = omega arith

abbrev ways : Bytes
ways = linked zeros 0 volume_chain

-- boot, volume directory and map are the blocks before a
low_owned : (k b : ℕ) → b < map_place + k → count b (0 ∷ 1 ∷ run map_place k) + count b volume_chain ≡ 1
unfolding sum
low_owned k zero l = omega (arith, run_low k 6 0 (omega arith))
low_owned k (suc zero) l = omega (arith, run_low k 6 1 (omega arith))
low_owned k (suc (suc zero)) l = omega (arith, run_low k 6 2 (omega arith))
low_owned k (suc (suc (suc zero))) l = omega (arith, run_low k 6 3 (omega arith))
low_owned k (suc (suc (suc (suc zero)))) l = omega (arith, run_low k 6 4 (omega arith))
low_owned k (suc (suc (suc (suc (suc zero))))) l = omega (arith, run_low k 6 5 (omega arith))
low_owned k (suc (suc (suc (suc (suc (suc b)))))) l =
    let c : ℕ = suc (suc (suc (suc (suc (suc b))))) in
    omega (
      arith,
      run_has k 6 c (omega arith) (omega arith),
      run_most k 6 c,
      is_no c 0 (λ e. omega arith),
      is_no c 1 (λ e. omega arith),
      is_no c 2 (λ e. omega arith),
      is_no c 3 (λ e. omega arith),
      is_no c 4 (λ e. omega arith),
      is_no c 5 (λ e. omega arith),
    )

high_owned : (k b : ℕ) → map_place + k ≤ b → count b (0 ∷ 1 ∷ run map_place k) + count b volume_chain ≡ 0
unfolding sum
high_owned k b l =
    omega (
      arith,
      run_high k 6 b l,
      is_no b 0 (λ e. omega arith),
      is_no b 1 (λ e. omega arith),
      is_no b 2 (λ e. omega arith),
      is_no b 3 (λ e. omega arith),
      is_no b 4 (λ e. omega arith),
      is_no b 5 (λ e. omega arith),
    )

volume_slots : drop 1 (slots volume_chain) ≡ run 27 51
unfolding slots run
volume_slots = refl

module _ (n : ℕ) (q : Bytes) (j : ℕ) (t : Stamp) (large : 16 ≤ n) (small : n ≤ 65535) (proper : proper_name q 0 j ≡ true) where
  abbrev new : Bytes
  new = formatted n q j t

  abbrev head : Bytes
  head = volume_header n q (part 0 j) t

  size : j < 16
  size = name_size_law q 0 j proper

  -- what stands where
  new_low : (i : ℕ) → i < 3072 → new i ≡ paste ways 1028 39 head i
  unfolding formatted at
  new_low i l = paste_before _ (map_place * 512) (map_blocks n * 512) _ i (omega arith)

  new_head : (k : ℕ) → 4 ≤ k → k < 43 → new (1024 + k) ≡ head (k - 4)
  new_head k g l =
      let e : 1024 + k - 1028 ≡ k - 4 = omega arith in
      new_low (1024 + k) (omega arith) ∙ paste_in ways 1028 39 head (1024 + k) (omega arith) (omega arith) ∙ ap head e

  new_ways : (i : ℕ) → i < 3072 → (1028 ≤ i → i < 1067 → ⊥) → new i ≡ ways i
  new_ways i l f = new_low i l ∙ paste_out ways 1028 39 head i f

  new_word : (i : ℕ) → i + 1 < 3072 → (1028 ≤ i + 1 → i < 1067 → ⊥) → word new i ≡ word ways i
  new_word i l f =
      word_same new ways i i (new_ways i (omega arith) (λ g h. f (omega arith) h)) (new_ways (i + 1) (omega arith) (λ g h. f g (omega arith)))

  pub new_map : (k : ℕ) → k < map_blocks n * 512 → new (map_place * 512 + k) ≡ fresh_map (map_place + map_blocks n) n k
  unfolding formatted
  new_map k l = paste_at _ (map_place * 512) (map_blocks n * 512) _ k l

  -- the links, both ways
  new_next : (next new 2 ≡ 3) × (next new 3 ≡ 4) × (next new 4 ≡ 5) × (next new 5 ≡ 0)
  unfolding word linked put_word paste digit
  new_next = (
    new_word 1026 (omega arith) (λ g h. omega arith),
    new_word 1538 (omega arith) (λ g h. omega arith),
    new_word 2050 (omega arith) (λ g h. omega arith),
    new_word 2562 (omega arith) (λ g h. omega arith),
  )

  new_previous : (previous new 2 ≡ 0) × (previous new 3 ≡ 2) × (previous new 4 ≡ 3) × (previous new 5 ≡ 4)
  unfolding word linked put_word paste digit
  new_previous = (
    new_word 1024 (omega arith) (λ g h. omega arith),
    new_word 1536 (omega arith) (λ g h. omega arith),
    new_word 2048 (omega arith) (λ g h. omega arith),
    new_word 2560 (omega arith) (λ g h. omega arith),
  )

  new_chain : chain new 2 4 ≡ volume_chain
  unfolding chain
  new_chain = rw (new_next.0, new_next.1, new_next.2) refl

  new_links : links new 0 2 4 ≡ 0
  unfolding links
  new_links =
      rw (new_next.0, new_next.1, new_next.2, new_next.3, new_previous.0, new_previous.1, new_previous.2, new_previous.3) refl

  -- the header
  head_name : (i : ℕ) → i < 16 → head i ≡ name_field 0xF q (part 0 j) i
  unfolding volume_header header_bytes
  head_name i l =
      put_word_out _ 0x25 n i (λ g h. omega arith)
      ∙ put_word_out _ 0x23 map_place i (λ g h. omega arith)
      ∙ put_off _ 0x20 slots_in_block i (λ g. omega arith)
      ∙ put_off _ 0x1F slot_size i (λ g. omega arith)
      ∙ put_off _ 0x1E 0xC3 i (λ g. omega arith)
      ∙ paste_before _ 0x18 4 _ i (omega arith)

  head_size : head 0x1F ≡ slot_size
  unfolding volume_header header_bytes
  head_size =
      put_word_out _ 0x25 n 0x1F (λ g h. omega arith)
      ∙ put_word_out _ 0x23 map_place 0x1F (λ g h. omega arith)
      ∙ put_off _ 0x20 slots_in_block 0x1F (λ g. omega arith)
      ∙ put_at _ 0x1F slot_size

  head_slots : head 0x20 ≡ slots_in_block
  unfolding volume_header header_bytes
  head_slots =
      put_word_out _ 0x25 n 0x20 (λ g h. omega arith) ∙ put_word_out _ 0x23 map_place 0x20 (λ g h. omega arith) ∙ put_at _ 0x20 slots_in_block

  head_zero : (i : ℕ) → 0x21 ≤ i → i < 0x23 → head i ≡ 0
  unfolding volume_header header_bytes
  head_zero i g l =
      put_word_out _ 0x25 n i (λ e f. omega arith)
      ∙ put_word_out _ 0x23 map_place i (λ e f. omega arith)
      ∙ put_off _ 0x20 slots_in_block i (λ e. omega arith)
      ∙ put_off _ 0x1F slot_size i (λ e. omega arith)
      ∙ put_off _ 0x1E 0xC3 i (λ e. omega arith)
      ∙ paste_after _ 0x18 4 _ i (omega arith)
      ∙ name_rest 0xF q (part 0 j) i size (omega arith)

  head_map : word head 0x23 ≡ map_place
  unfolding volume_header
  head_map = word_put_word_off _ 0x25 n 0x23 (λ g h. omega arith) ∙ word_put_word _ 0x23 map_place (omega arith)

  head_total : word head 0x25 ≡ n
  unfolding volume_header
  head_total = word_put_word _ 0x25 n (omega arith)

  pub new_bears : Bears new 1028 q (part 0 j) × (new 1028 / 16 ≡ 0xF)
  new_bears =
      stored new 1028 q (part 0 j) 0xF size
      (λ i l.
      let e : 1028 + i ≡ 1024 + (4 + i) = omega arith in
      let f : 4 + i - 4 ≡ i = omega arith in
      rw e (new_head (4 + i) (omega arith) (omega arith)) ∙ ap head f ∙ head_name i l)

  new_place : map_block new ≡ map_place
  new_place = word_same new head 1063 0x23 (new_head 39 (omega arith) (omega arith)) (new_head 40 (omega arith) (omega arith)) ∙ head_map

  new_total : total_blocks new ≡ n
  new_total = word_same new head 1065 0x25 (new_head 41 (omega arith) (omega arith)) (new_head 42 (omega arith) (omega arith)) ∙ head_total

  pub new_count : active_count new 2 ≡ 0
  unfolding word
  new_count =
      rw (
        new_head 37 (omega arith) (omega arith),
        new_head 38 (omega arith) (omega arith),
        head_zero 0x21 (omega arith) (omega arith),
        head_zero 0x22 (omega arith) (omega arith),
      )
      refl

  new_sign : prodos n new ≡ true
  unfolding prodos
  new_sign =
      and_both _ _ (eq-eqb _ _ new_previous.0)
      (and_both _ _ (eq-eqb _ _ new_bears.1)
      (and_both _ _ (eq-eqb _ _ (new_head 35 (omega arith) (omega arith) ∙ head_size))
      (and_both _ _ (eq-eqb _ _ (new_head 36 (omega arith) (omega arith) ∙ head_slots)) (eq-eqb _ _ new_total))))

  -- the walk meets the volume, and its slots, which are inactive
  new_kids : kids new volume ≡ drop 1 (slots volume_chain)
  unfolding sort slots_below field
  new_kids = ap (λ bs. drop 1 (slots bs)) new_chain

  pub new_off : (s : ℕ) → 1 ≤ count s (kids new volume) → sort new s ≡ inactive
  unfolding sort_of
  new_off s c =
      let r = run_in_law 51 27 s (rw (new_kids ∙ volume_slots) at c) in
      let low = r.0 in
      let high = r.1 in
      let e : at s ≡ s / 13 * 512 + (4 + 39 * (s % 13)) = omega (arith, at_place s 0) in
      let o : s / 13 ≡ 2 → 1 ≤ s % 13 = λ h. omega arith in
      sort_at new s (λ h. omega arith)
      ∙ rw (
        new_ways (at s) (omega arith) (λ g h. let two : s / 13 ≡ 2 = omega arith in omega (arith, o two)),
        linked_off zeros 0 volume_chain (at s) (rw (e, in_block (s / 13) (4 + 39 * (s % 13)) (omega arith)) (omega arith)),
      )
      refl

  new_sums : (w : Weight) → ((m s : ℕ) → sort new s ≡ inactive → w m volume s ≡ 0) → sums new w ≡ w deep volume volume
  unfolding Totals.total sum
  new_sums w f =
      omega (
        arith,
        total_inert (kids new) w level_most volume (kids new volume)
            (λ m s c. (leaf new s (λ e. inactive_directory (sym (new_off s c) ∙ e)), f m s (new_off s c))),
      )

  new_blocks : blocks new volume ≡ volume_chain
  unfolding sort blocks_of field
  new_blocks = new_chain

  new_outside : outside n (blocks new volume) ≡ 0
  unfolding sum
  new_outside = rw (new_blocks, lt-leb n 2 (omega arith), lt-leb n 3 (omega arith), lt-leb n 4 (omega arith), lt-leb n 5 (omega arith)) refl

  new_name : capital_name new (at volume) ≡ true
  unfolding at
  new_name = bears_capital new 1028 q (part 0 j) new_bears.0 proper

  pub new_active : active new (kids new volume) ≡ 0
  new_active = sum_zero (λ s. live (sort new s)) (kids new volume) (λ s c. rw (new_off s c) refl)

  new_twins : twins new (kids new volume) ≡ 0
  new_twins = twins_off new (kids new volume) (λ s c. rw (new_off s c) refl)

  new_top : top_faults new volume ≡ 0
  unfolding top_faults volume_faults differ field
  new_top = rw (new_chain, new_place) refl

  new_right : directory_faults n new volume ≡ 0
  unfolding directory_faults ftype eof field
  new_right = rw (new_count, new_active) (omega (arith, new_links, new_twins, new_top, new_outside))

  new_faults : faults n new deep volume volume ≡ 0
  unfolding sort faults_of field
  new_faults = rw new_name (omega (arith, new_right))

  abbrev first : ℕ
  first = map_place + map_blocks n

  -- just the blocks from there on are free
  pub new_free : (b : ℕ) → b < n → free map_place new b ≡ one_if (leb first b and ltb b n)
  new_free b l = fresh_free first n map_place new b (unfold map_at in new_map (b / 8) (omega (arith, map_at_in map_place n b l)))

  new_once : (b : ℕ) → b < n → count b (fixed n) + mine new b + free map_place new b ≡ 1
  new_once b l = go (leb first b) refl
    where
      owns : mine new b ≡ count b volume_chain
      owns = new_sums (λ _ _ s. count b (blocks new s)) (λ m s e. off_blocks new s b e) ∙ ap (count b) new_blocks

      go : (c : Bool) → leb first b ≡ c → count b (fixed n) + mine new b + free map_place new b ≡ 1
      go true e = let h = leb-true first b e in omega (arith, owns, new_free b l, fresh_yes first n b h l, high_owned (map_blocks n) b h)
      go false e = let h = leb-false first b e in omega (arith, owns, new_free b l, fresh_no first n b (λ f g. omega arith), low_owned (map_blocks n) b h)

  pub new_sound : Sound n new
  new_sound =
      record {
        large = large;
        small = small;
        sign = new_sign;
        place = new_place;
        right = new_sums (faults n new) (λ m s e. rw e (unfold faults_of in refl)) ∙ new_faults;
        once = new_once;
        rest = fresh_rest (map_place + map_blocks n) n map_place new (λ k h. new_map k h);
      }

-- The call.
pub format_sound : (len : ℕ) (v q : Bytes) (j : ℕ) (t : Stamp) → format_number len q j ≡ 0 → sound (total len) (format len v q j t).image ≡ true
unfolding format format_number whole_blocks
format_sound len v q j t e =
    let r = rows_off _ e refl in
    let size = within_is 16 65535 (total len) (and_right _ _ (not_false _ (r 0))) in
    rw (done_image (format_number len q j) nothing v nothing (formatted (total len) q j t) e) (facts_sound (new_sound (total len) q j t size.0 size.1 (not_false _ (r 1))))
