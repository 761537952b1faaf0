-- Create of a file or of a directory in the inactive slot a of the directory d, with the free block z.
use Prim.Native.Nat.{ℕ, ◌+◌, ◌-◌, ◌*◌, ◌≤◌, ◌<◌, ◌/◌, ◌%◌}
use mathlib.Core.Path.{◌≡◌, refl, sym, ap, ◌∙◌}
use mathlib.Core.List.{[], ◌∷◌}
use mathlib.Core.Bool.{Bool, true, false}
use lib.Dec.{leb, eqb}
use lib.ListN.{length}
use native.Mathlib.Omega.{arith}
use native.Mathlib.Nat.{add-zero, add_assoc}
use borrow.Author.Tests.{eq-eqb, lt-leb}
use Rattle.model.specs.Bytes.{Bytes, Octets, sum, count, is, ne, unless, one_if, paste, put_word, word}
use Rattle.model.specs.Names.{Part, proper_name, same_name, capital_name}
use Rattle.model.specs.Map.{map_at, free, room, taken}
use Rattle.model.specs.Kinds.{kind_for}
use Rattle.model.specs.Directory.{Sort, inactive, directory, file, sort_of, sort, is_active, live, at, block_of, slot_of, directory_type, map_place, previous, next, active_count, parent_block, field, ftype, key, used, eof, directory_key, chain, slots_below, kids, active}
use Rattle.model.specs.File.{nodes, blocks_of, blocks, height_for, span, first_below}
use Rattle.model.specs.Sound.{links, outside, twins, header_faults, directory_faults, file_faults, faults_of, faults}
use Rattle.model.specs.Create.{Wanted, directory_kind, entry_bytes, subdirectory_header, entered}
use Rattle.model.proofs.ByteLaws.{paste_in, paste_at, paste_out, put_word_out, word_put_word, word_same, long_same}
use Rattle.model.proofs.BitLaws.{is_yes, is_no, is_both, map_at_in, map_at_off, taken_in, taken_out, taken_free, rest_taken, MapSame, same_free, same_rest, room_one}
use Rattle.model.proofs.SumLaws.{sum_zero, count_none}
use Rattle.model.proofs.Laws.Frame.{at_block, at_place, Named, slots_one}
use Rattle.model.proofs.Laws.Sound.{Sound}
use Rattle.model.proofs.Laws.Keep.{sort_at, field_at, eof_at, ftype_at, top_at}
use Rattle.model.proofs.Laws.Facts.{free_mine, free_map, mine_in, mine_off, kid_once, seen_directory}
use Rattle.model.proofs.Laws.Most.{directory_most}
use Rattle.model.proofs.Laws.One.{Place, in_slot, in_count, Apart, Step, Others, Change, bottom, leaf, inactive_directory, off_blocks, slot_mine, head_mine, slot_map, slot_head, one_directory, one_entry, one_sound, one_others}
use Rattle.model.proofs.Laws.Spelling.{Bears, bears_same, bears_capital, bears_alike, alike_bears, alike_back, bears_named, stored, twins_change, twins_off}
use Rattle.model.proofs.Laws.Lookup.{name_size_law}
use Rattle.model.proofs.Laws.Fresh.{new_size, entry_name, entry_type, entry_key, entry_used, entry_eof, entry_up, header_name, header_size, header_slots_law, header_count, header_block, header_slot, header_parent}

-- a file, or a directory with a level left
pub data Fresh (v : Bytes) (w : Wanted) (a : ℕ) : Sort → ℕ → Type 0 where
  a_file : w.kind ≡ 1 → (w.ftype ≡ directory_type → ⊥) → Fresh v w a (file 0) 0
  a_directory : w.kind ≡ directory_kind → w.ftype ≡ directory_type → bottom v a ≡ 0 → Fresh v w a directory 1

-- a is inactive and z is free; the name is proper, and no active entry has it
pub record Creates (n : ℕ) (v : Bytes) (a d z : ℕ) (p : Bytes) (x : Part) (w : Wanted) (K : Sort) (t : ℕ) : Type 0 where
  pub octets : Octets v
  pub sound : Sound n v
  pub spot : Place v a d
  pub old : sort v a ≡ inactive
  pub inside : z < n
  pub spare : free map_place v z ≡ 1
  pub proper : proper_name p x.start x.size ≡ true
  pub lacks : (s : ℕ) → 1 ≤ count s (kids v d) → is_active (sort v s) ≡ true → same_name v (at s) p x ≡ true → ⊥
  pub fresh : Fresh v w a K t

module _ {n : ℕ} {v : Bytes} {a d z : ℕ} {p : Bytes} {x : Part} {w : Wanted} {K : Sort} {t : ℕ} (N : Creates n v a d z p x w K t) where
  open N use {octets, sound as S, spot as P, old, inside as zn, spare as zf, proper, lacks, fresh}

  abbrev made : Bytes
  made = entered map_place v d a z p x w

  abbrev bytes : Bytes
  bytes = entry_bytes p x w z (key v d)

  abbrev head : Bytes
  head = subdirectory_header p x w.stamp a

  abbrev body : Bytes
  body = elim (eqb w.kind directory_kind) [ true ↦ paste (taken map_place v z) (z * 512 + 4) 39 head | false ↦ taken map_place v z ]

  short : x.size < 16
  short = name_size_law p x.start x.size proper

  home_low : key v d < 65536
  home_low = omega (arith, mine_in S (key v d) (head_mine S P), S.small)

  -- the stores
  body_out : (i : ℕ) → (z * 512 ≤ i → i < z * 512 + 512 → ⊥) → body i ≡ taken map_place v z i
  body_out i f = go (eqb w.kind directory_kind)
    where
      go : (b : Bool) → (elim b as (λ _. Bytes) [ true ↦ paste (taken map_place v z) (z * 512 + 4) 39 head | false ↦ taken map_place v z ]) i ≡ taken map_place v z i
      go true = paste_out (taken map_place v z) (z * 512 + 4) 39 head i (λ g h. f (omega arith) (omega arith))
      go false = refl

  made_off : (i : ℕ) → (at a ≤ i → i < at a + 39 → ⊥) → (key v d * 512 + 37 ≤ i → i < key v d * 512 + 39 → ⊥) → made i ≡ body i
  unfolding entered
  made_off i s t = paste_out _ (at a) 39 bytes i s ∙ put_word_out body (key v d * 512 + 0x25) _ i (λ g h. t g (omega arith))

  made_map : MapSame map_place n (taken map_place v z) made
  made_map i g h =
      made_off i (slot_map S P i g h)
      (λ e f.
      let o : ℕ = i - key v d * 512 in
      let r : i ≡ key v d * 512 + o = omega arith in
      mine_off S (key v d) o (head_mine S P) (omega arith) (rw r at g) (rw r at h))
      ∙ body_out i (λ e f. free_map S z zn zf (omega arith) (omega arith))

  made_out : Apart v made a d
  unfolding map_at
  made_out b j m l far =
      made_off (b * 512 + j) (λ e f. far (in_slot e f)) (λ e f. far (in_count (omega arith) (omega arith) (omega arith)))
      ∙ body_out (b * 512 + j) (λ e f. free_mine S z zn zf b m (omega arith))
      ∙ taken_out map_place v z (b * 512 + j) (λ e f. free_mine S z zn zf b m (omega arith))
      (λ e. mine_off S b j m l (omega arith) (omega (arith, map_at_in map_place n z zn)))

  pub made_step : Step n v made a d
  made_step = record { sound = S; spot = P; out = made_out }

  -- the entry
  made_in : (o : ℕ) → o < 39 → made (at a + o) ≡ bytes o
  unfolding entered
  made_in o l = paste_at _ (at a) 39 bytes o l

  made_field : (o r : ℕ) → o + 1 < 39 → field made a o r ≡ word bytes o
  made_field o r l =
      field_at made a o r P.proper
      ∙ word_same made bytes (at a + o) o (made_in o (omega arith)) (rw (add_assoc (at a) o 1) (made_in (o + 1) l))

  pub made_bears : Bears made (at a) p x × (made (at a) / 16 ≡ w.kind)
  made_bears = stored made (at a) p x w.kind short (λ i l. made_in i (omega arith) ∙ entry_name p x w z (key v d) i l)

  fresh_sort : {K : Sort} {t : ℕ} → Fresh v w a K t → sort_of w.kind ≡ K
  unfolding sort_of
  fresh_sort (a_file e f) = rw e refl
  fresh_sort (a_directory e f g) = rw e refl

  pub made_kind : sort made a ≡ sort_of w.kind
  made_kind = sort_at made a P.proper ∙ ap sort_of made_bears.1

  pub made_sort : sort made a ≡ K
  made_sort = made_kind ∙ fresh_sort fresh

  pub made_key : key made a ≡ z
  made_key = made_field 0x11 2 (omega arith) ∙ entry_key p x w z (key v d) (omega (arith, S.small))

  pub made_used : used made a ≡ 1
  made_used = made_field 0x13 4 (omega arith) ∙ entry_used p x w z (key v d)

  made_up : directory_key made a ≡ key made d
  made_up = made_field 0x25 2 (omega arith) ∙ entry_up p x w z (key v d) home_low ∙ sym (one_directory made_step)

  pub made_type : ftype made a ≡ w.ftype
  made_type = ftype_at made a P.proper ∙ made_in 0x10 (omega arith) ∙ entry_type p x w z (key v d)

  pub made_eof : eof made a ≡ new_size w
  made_eof =
      eof_at made a P.proper
      ∙ long_same made bytes (at a + 0x15) 0x15 (made_in 0x15 (omega arith)) (rw (add_assoc (at a) 0x15 1) (made_in 0x16 (omega arith)))
      (rw (add_assoc (at a) 0x15 2) (made_in 0x17 (omega arith)))
      ∙ entry_eof p x w z (key v d)

  made_name : capital_name made (at a) ≡ true
  made_name = bears_capital made (at a) p x made_bears.0 proper

  made_count : active_count made (key v d) ≡ active_count v (key v d) + 1
  unfolding entered
  made_count =
      let k : ℕ = key v d * 512 + 0x25 in
      let off : (j : ℕ) → 37 ≤ j → j < 39 → at a ≤ key v d * 512 + j → key v d * 512 + j < at a + 39 → ⊥ =
      λ j g h. slot_head S P d j P.home P.holds (omega arith) (omega arith) in
      word_same made (put_word body k (active_count v (key v d) + 1)) k k
      (paste_out _ (at a) 39 bytes k (off 37 (omega arith) (omega arith)))
      (paste_out _ (at a) 39 bytes (k + 1) (λ e f. off 38 (omega arith) (omega arith) (omega arith) (omega arith)))
      ∙ word_put_word body k (active_count v (key v d) + 1)
      (omega (arith, S.small, (seen_directory S d P.home P.holds).counted, (seen_directory S d P.home P.holds).some, directory_most S d P.home P.holds))

  -- the block of a directory
  module _ (kind : w.kind ≡ directory_kind) where
    in_block : (j : ℕ) → j < 512 → made (z * 512 + j) ≡ paste (taken map_place v z) (z * 512 + 4) 39 head (z * 512 + j)
    in_block j l =
        made_off (z * 512 + j)
        (λ e f. free_mine S z zn zf (a / 13) (slot_mine S P) (at_block a z (z * 512 + j - at a) j (omega arith) l (omega arith)))
        (λ e f. free_mine S z zn zf (key v d) (head_mine S P) (omega arith))
        ∙ rw (eq-eqb w.kind directory_kind kind, body) refl

    made_zero : (j : ℕ) → j < 512 → (4 ≤ j → j < 43 → ⊥) → made (z * 512 + j) ≡ 0
    made_zero j l f =
        in_block j l ∙ paste_out _ (z * 512 + 4) 39 head (z * 512 + j) (λ g h. f (omega arith) (omega arith))
        ∙ taken_in map_place v z (z * 512 + j) (omega arith) (omega arith)

    made_head : (j : ℕ) → 4 ≤ j → j < 43 → made (z * 512 + j) ≡ head (j - 4)
    made_head j g h =
        let e : z * 512 + j - (z * 512 + 4) ≡ j - 4 = omega arith in
        in_block j (omega arith) ∙ paste_in _ (z * 512 + 4) 39 head (z * 512 + j) (omega arith) (omega arith) ∙ ap head e

    head_bears : Bears made (z * 512 + 4) p x × (made (z * 512 + 4) / 16 ≡ 0xE)
    head_bears =
        stored made (z * 512 + 4) p x 0xE short
        (λ i l.
        let e : 4 + i - 4 ≡ i = omega arith in
        rw (add_assoc (z * 512) 4 i) (made_head (4 + i) (omega arith) (omega arith)) ∙ ap head e ∙ header_name p x w.stamp a i l)

    made_slot : (s : ℕ) → z * 13 < s → s < z * 13 + 13 → sort made s ≡ inactive
    unfolding sort_of
    made_slot s g h =
        let i : s / 13 ≡ z = omega arith in
        let e : at s ≡ z * 512 + (4 + 39 * (s % 13)) = rw (← i) (omega (arith, at_place s 0)) in
        sort_at made s (λ f. omega arith) ∙ rw (e, made_zero (4 + 39 * (s % 13)) (omega arith) (λ f k. omega arith)) refl

    made_links : (previous made z ≡ 0) × (next made z ≡ 0)
    unfolding word
    made_links =
        let zero : (j : ℕ) → j < 4 → made (z * 512 + j) ≡ 0 = λ j l. made_zero j (omega arith) (λ g h. omega arith) in (
          rw (rw add-zero at (zero 0 (omega arith)), zero 1 (omega arith)) refl,
          rw (add_assoc (z * 512) 2 1, zero 2 (omega arith), zero 3 (omega arith)) refl,
        )

    pub made_none : active_count made z ≡ 0
    unfolding word
    made_none =
        rw (
          add_assoc (z * 512) 37 1,
          made_head 37 (omega arith) (omega arith),
          made_head 38 (omega arith) (omega arith),
          header_count p x w.stamp a short 0x21 (omega arith) (omega arith),
          header_count p x w.stamp a short 0x22 (omega arith) (omega arith),
        )
        refl

    made_parent : parent_block made z ≡ block_of a
    made_parent =
        word_same made head (z * 512 + 0x27) 0x23 (made_head 0x27 (omega arith) (omega arith))
        (rw (add_assoc (z * 512) 0x27 1) (made_head 0x28 (omega arith) (omega arith)))
        ∙ header_block p x w.stamp a (omega (arith, mine_in S (a / 13) (slot_mine S P), S.small))

    made_header : header_faults made a z ≡ 0
    unfolding header_faults
    made_header =
        rw (
          made_parent,
          head_bears.1,
          bears_alike made (z * 512 + 4) p x (at a) head_bears.0 made_bears.0,
          made_head 0x29 (omega arith) (omega arith),
          header_slot p x w.stamp a,
          made_head 0x23 (omega arith) (omega arith),
          header_size p x w.stamp a,
          made_head 0x24 (omega arith) (omega arith),
          header_slots_law p x w.stamp a,
          made_head 0x2A (omega arith) (omega arith),
          header_parent p x w.stamp a,
        )
        (omega (arith, is_yes (block_of a) (block_of a) refl, is_yes (slot_of a) (slot_of a) refl))

  -- what a owns, and the slots below it
  fresh_blocks : {K : Sort} {t : ℕ} → Fresh v w a K t → blocks_of K made a ≡ z ∷ []
  unfolding blocks_of chain nodes
  fresh_blocks (a_file e f) = rw made_key refl
  fresh_blocks (a_directory e f g) = rw (made_key, made_used) refl

  made_blocks : blocks made a ≡ z ∷ []
  made_blocks = rw made_sort (fresh_blocks fresh)

  fresh_kids : {K : Sort} {t : ℕ} → Fresh v w a K t → (s : ℕ) → 1 ≤ count s (slots_below K made a) → sort made s ≡ inactive
  unfolding slots_below chain
  fresh_kids (a_file e f) s c = absurd (count_none s c)
  fresh_kids (a_directory e f g) s c = let r = slots_one z s (rw (made_key, made_used) at c) in made_slot e s r.0 r.1

  made_below : (s : ℕ) → 1 ≤ count s (kids made a) → sort made s ≡ inactive
  made_below = rw made_sort (fresh_kids fresh)

  pub made_active : active made (kids made a) ≡ 0
  made_active = sum_zero (λ s. live (sort made s)) (kids made a) (λ s c. rw (made_below s c) refl)

  made_twins : twins made (kids made a) ≡ 0
  made_twins = twins_off made (kids made a) (λ s c. rw (made_below s c) refl)

  made_outside : outside n (blocks made a) ≡ 0
  unfolding sum
  made_outside = rw (made_blocks, lt-leb n z zn) refl

  -- its faults
  module _ (m : ℕ) where
    made_entry : unless (capital_name made (at a)) + ne (directory_key made a) (key made d) ≡ 0
    made_entry = rw made_name (omega (arith, is_yes (directory_key made a) (key made d) made_up))

    file_faults_law : w.kind ≡ 1 → (w.ftype ≡ directory_type → ⊥) → file_faults n made 0 a ≡ 0
    unfolding file_faults
    file_faults_law e f =
        omega (arith, made_outside, is_no (ftype made a) directory_type (λ g. f (sym made_type ∙ g)), tall, counted, ended)
      where
        empty : eof made a ≡ 0
        empty = made_eof ∙ rw e refl

        tall : is 0 (height_for (eof made a)) ≡ 1
        tall = rw empty (unfold height_for kind_for in refl)

        counted : is (used made a) (length (blocks made a)) ≡ 1
        counted = rw (made_used, made_blocks) refl

        ended : sum (λ x. one_if (leb (span (eof made a)) (first_below x.height x.number))) (nodes made 0 0 (key made a)) ≡ 0
        ended = rw empty (unfold span nodes sum first_below in refl)

    directory_faults_law : w.kind ≡ directory_kind → w.ftype ≡ directory_type → sort made a ≡ directory → directory_faults n made a ≡ 0
    unfolding directory_faults links
    directory_faults_law e f g =
        let one : eof made a ≡ 512 = made_eof ∙ rw e refl in
        rw (top_at made a P.proper, made_key, made_used, one, made_type ∙ f)
        (omega (
          arith,
          made_outside,
          made_twins,
          made_header e,
          is_yes (previous made z) 0 (made_links e).0,
          is_yes (next made z) 0 (made_links e).1,
          is_yes (active_count made z) (active made (kids made a)) (made_none e ∙ sym made_active),
        ))

    fresh_faults : {K : Sort} {t : ℕ} → sort made a ≡ K → Fresh v w a K t → faults_of K n made m d a ≤ is m 0 * t
    unfolding faults_of
    fresh_faults g (a_file e f) = omega (arith, made_entry, file_faults_law e f)
    fresh_faults g (a_directory e f h) = omega (arith, made_entry, directory_faults_law e f g)

    made_faults : faults n made m d a ≤ is m 0 * t
    made_faults = rw made_sort (fresh_faults made_sort fresh)

  fresh_live : {K : Sort} {t : ℕ} → Fresh v w a K t → live K ≡ 1
  fresh_live (a_file e f) = refl
  fresh_live (a_directory e f g) = refl

  fresh_level : {K : Sort} {t : ℕ} → Fresh v w a K t → bottom v a * t ≡ 0
  fresh_level (a_file e f) = omega arith
  fresh_level (a_directory e f g) = omega arith

  made_unlike : twins made (kids v d) ≡ 0
  made_unlike =
      let kept : (s : ℕ) → 1 ≤ count s (kids v d) → (s ≡ a → ⊥) → (sort made s ≡ sort v s) × Named v made (at s) =
      λ s c k. one_entry made_step d s P.home c k in
      let other : (s : ℕ) → 1 ≤ count s (kids v d) → (s ≡ a → ⊥) → is_active (sort v s) ≡ true → Bears made (at s) p x → ⊥ =
      λ s c k e B. lacks s c e (bears_same v (at s) p x (bears_named v made (at s) p x short (kept s c k).1 B)) in
      twins_change v made a (kids v d) (omega (arith, kid_once S d a P.home P.inside)) kept
      (λ s c k _ e.
      (λ f. other s c k e (alike_bears made (at a) p x (at s) f made_bears.0), λ f. other s c k e (alike_back made (at a) p x (at s) f made_bears.0)))
      (seen_directory S d P.home P.holds).unlike

  made_free : (b : ℕ) → b < n → free map_place made b + is z b ≡ free map_place v b
  made_free b l =
      let e = rw zf at (taken_free map_place v z b octets (map_at_off map_place n z b l (free_map S z zn zf))) in
      omega (arith, e, same_free map_place n (taken map_place v z) made made_map b l)

  -- one block is taken
  pub made_room : room map_place made n + 1 ≡ room map_place v n
  made_room = sym (room_one map_place made v z 1 n (λ b l. omega (arith, made_free b l)) zn)

  made_change : Change n v made a d t [] [] (kids made a)
  made_change =
      record {
        step = made_step;
        old = leaf v a (λ e. inactive_directory (sym old ∙ e));
        new = refl;
        off = λ s c. absurd (count_none s c);
        off' = made_below;
        held = λ s c. absurd (count_none s c);
        level = fresh_level fresh;
        entry = λ m. omega (arith, made_faults m);
        counted = rw (old, made_sort, made_count, fresh_live fresh) (omega arith);
        unlike = made_unlike;
        balance = λ b l. rw made_blocks (unfold sum in omega (arith, off_blocks v a b old, is_both b z z b sym sym, made_free b l));
        rest = same_rest map_place n (taken map_place v z) made made_map (rest_taken map_place v z n octets zn S.rest);
      }

  pub made_sound : Sound n made
  made_sound = one_sound made_change

  pub made_others : Others v made a
  made_others = one_others made_change
