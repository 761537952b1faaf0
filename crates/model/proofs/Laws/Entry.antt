-- A call on one file: from a sound volume to its tree, and from a move of the tree and the entry's new bytes to a sound volume.
use Prim.Native.Nat.{ℕ, ◌+◌, ◌-◌, ◌*◌, ◌≤◌, ◌<◌, ◌/◌, ◌%◌}
use mathlib.Core.Path.{◌≡◌, refl, sym, ap, ◌∙◌}
use mathlib.Core.List.{[]}
use mathlib.Core.Bool.{Bool, true, false}
use lib.Dec.{leb}
use lib.ListN.{length}
use native.Mathlib.Omega.{arith}
use native.Mathlib.Nat.{add-zero, add_assoc}
use borrow.Author.Tests.{lt-leb}
use Rattle.model.specs.Bytes.{Bytes, Octets, sum, count, run, is, one_if}
use Rattle.model.specs.Names.{capital_name}
use Rattle.model.specs.Map.{map_blocks, free, room}
use Rattle.model.specs.Kinds.{kind_for, kind_number}
use Rattle.model.specs.declared.Kind.TheVariants.{Seedling, Sapling, Tree}
use Rattle.model.specs.Directory.{directory, file, sort, is_active, is_directory, access, at, directory_type, map_place, volume, volume_block, ftype, key, used, eof, directory_key, kids}
use Rattle.model.specs.File.{nodes, blocks, span, height_for, file_byte, content}
use Rattle.model.specs.Sound.{outside, late, file_faults, faults_of, faults}
use Rattle.model.specs.Calls.{allows, read_bit}
use Rattle.model.specs.Write.{noted}
use Rattle.model.specs.declared.Stamp.{Stamp}
use Rattle.model.proofs.BitLaws.{is_yes, is_no, MapSame, same_free, same_room, same_rest}
use Rattle.model.proofs.ByteLaws.{at_or_off, word_same, long_bound}
use Rattle.model.proofs.SumLaws.{count_none, run_has}
use Rattle.model.proofs.Laws.Total.{total_one}
use Rattle.model.proofs.Laws.Frame.{at_block, at_place, Alike, file_byte_same}
use Rattle.model.proofs.Laws.Sound.{deep, top, fixed, mine, Sound}
use Rattle.model.proofs.Laws.Keep.{head_name, field_at, eof_at, ftype_at, file_blocks, kids_same}
use Rattle.model.proofs.Laws.Facts.{Seen, Inside, block_inside, FileRight, EntryRight, seen_file, kid_right, mine_in, mine_once, mine_map, mine_apart, placed_apart, directory_key_law, seen_directory}
use Rattle.model.proofs.Laws.One.{leaf, file_directory, Place, slot_placed, slot_mine, head_mine, slot_head, in_slot, in_file, Apart, Others, Step, Change, one_keeps, one_volume, one_entry, one_directory, one_sound, one_others}
use Rattle.model.proofs.Laws.Weigh.{Gauge, weigh, each, tardy, has, size, weigh_zero, weigh_same, nodes_count, nodes_length, blocks_length, nodes_late, nodes_outside}
use Rattle.model.proofs.Laws.Move.{by_zero, map_low, map_alike, Fit, Move, move_fit, fit_key}
use Rattle.model.proofs.Laws.Room.{size_most}
use Rattle.model.proofs.Laws.Near.{Near, named_near, capital_near, twins_near}
use Rattle.model.proofs.Laws.Paths.{SameNames}
use Rattle.model.proofs.Laws.Noted.{noted_out, noted_near, noted_sort, noted_key, noted_used, noted_eof, noted_up, noted_type, noted_access, noted_octets, backed_read}

-- a file a, of height h, in the directory d of a sound volume
pub record Ready (n : ℕ) (v : Bytes) (a d h : ℕ) : Type 0 where
  pub bytes : Octets v
  pub sound : Sound n v
  pub spot : Place v a d
  pub kind : sort v a ≡ file h

module _ {n : ℕ} {v : Bytes} {a d h : ℕ} (R : Ready n v a d h) where
  open R use {sound as S, spot as P}

  own_tree : (b : ℕ) → count b (blocks v a) ≡ has v h 0 (key v a) b
  own_tree b = rw (file_blocks v a h R.kind) (nodes_count v h 0 (key v a) b)

  own_most : (b : ℕ) → has v h 0 (key v a) b ≤ mine v b
  own_most b = omega (arith, own_tree b, total_one (kids v) (λ s. count b (blocks v s)) a deep volume top P.seen)

  -- a file's blocks are distinct, on the volume, not free, and not boot or map blocks
  pub fit : Fit n v h 0 (key v a)
  fit =
      record {
        large = S.large;
        small = S.small;
        bytes = R.bytes;
        rest = S.rest;
        range = λ b m. mine_in S b (omega (arith, own_most b));
        apart = λ b l. omega (arith, S.once b l, own_most b);
        boot = unfold sum in omega (arith, S.once 0 (omega (arith, S.large)), own_most 0);
        plan = λ b p q.
            omega (arith, S.once b (map_low n b S.large q), own_most b, in_fixed b (run_has (map_blocks n) map_place b p q));
      }
    where
      in_fixed : (b : ℕ) → 1 ≤ count b (run map_place (map_blocks n)) → 1 ≤ count b (fixed n)
      in_fixed b m = unfold sum in omega arith

  -- and they are nobody else's: no directory's, no other file's
  pub own_right : (b : ℕ) → 1 ≤ count b (blocks v a)
      → (count b (blocks v a) ≡ 1) × Inside n b × (free map_place v b ≡ 0) × ((x : ℕ) → Seen v x → 1 ≤ count b (blocks v x) → x ≡ a)
  own_right b m =
      let i = block_inside S a b P.seen m in
      let one = fit.apart b i.fits in
      (omega (arith, own_tree b), i, omega (arith, own_tree b), λ x s c. mine_apart S x a b s P.seen c m)

  right : FileRight n v h a
  right = seen_file S a h P.seen R.kind

  pub was_tall : h ≡ height_for (eof v a)
  was_tall = right.tall

  pub was_used : used v a ≡ size v h 0 (key v a)
  was_used = right.counted ∙ ap length (file_blocks v a h R.kind) ∙ blocks_length v h 0 (key v a)

  pub was_late : weigh (tardy (span (eof v a))) v h 0 (key v a) ≡ 0
  was_late = sym (nodes_late v h 0 (key v a) (span (eof v a))) ∙ right.ended

  pub eof_most_law : eof v a < 16777216
  eof_most_law = rw (eof_at v a P.proper) (long_bound v (at a + 0x15) R.bytes)

  not_directory_law : sort v a ≡ directory → ⊥
  not_directory_law e = file_directory (sym R.kind ∙ e)

  -- the block of the entry is no block at hand
  entry_apart : has v h 0 (key v a) (a / 13) ≡ 0
  entry_apart = sym (own_tree (a / 13)) ∙ placed_apart S a a (slot_placed S P) P.seen (leaf v a not_directory_law)

  entry_right : EntryRight v d a
  entry_right = kid_right S d a P.home P.holds P.inside (rw R.kind refl)

-- What a call leaves that was done to the file a, whose EOF is now e.
pub record Done (n : ℕ) (v : Bytes) (a : ℕ) (w : Bytes) (e : ℕ) : Type 0 where
  pub sound : Sound n w
  pub others : Others v w a
  pub octets : Octets w
  pub names : SameNames v w
  pub ends : eof w a ≡ e
  pub plain : is_directory (sort w a) ≡ false
  pub readable : allows (access w a) read_bit ≡ allows (access v a) read_bit

-- heights
pub height_most : (e : ℕ) → height_for e ≤ 2
unfolding height_for kind_for
height_most e = go (leb e 512) (leb e 131072)
  where
    go : (b c : Bool) → kind_number (elim b [ true ↦ Seedling 0 | false ↦ elim c [ true ↦ Sapling 0 | false ↦ Tree 0 ] ]) - 1 ≤ 2
    go true c = omega arith
    go false true = omega arith
    go false false = omega arith

-- a file without faults
file_none : (n : ℕ) (v : Bytes) (g m d s : ℕ) → capital_name v (at s) ≡ true → directory_key v s ≡ key v d → (ftype v s ≡ directory_type → ⊥)
    → g ≡ height_for (eof v s) → used v s ≡ length (blocks v s) → late (span (eof v s)) (nodes v g 0 (key v s)) ≡ 0 → outside n (blocks v s) ≡ 0
    → faults_of (file g) n v m d s ≡ 0
unfolding faults_of file_faults
file_none n v g m d s name up type tall few ended inside =
    omega (
      arith,
      ap one_if name,
      is_yes (directory_key v s) (key v d) up,
      is_no (ftype v s) directory_type type,
      is_yes g (height_for (eof v s)) tall,
      is_yes (used v s) (length (blocks v s)) few,
    )

-- A move of the tree, then the entry that says so.
module _ {n : ℕ} {v : Bytes} {a d h : ℕ} (R : Ready n v a d h) {w : Bytes} {g k : ℕ} (T : Move n v h 0 (key v a) w g 0 k) (e : ℕ) (t : Stamp)
    (small : e < 16777216) (tall : g ≡ height_for e) (ends : weigh (tardy (span e)) w g 0 k ≡ 0) where
  open R use {sound as S, spot as P}

  abbrev called : Bytes
  called = noted w a g k e t

  low : g ≤ 2
  low = rw tall (height_most e)

  W : Fit n w g 0 k
  W = move_fit (fit R) T

  few : length (nodes w g 0 k) ≡ size w g 0 k
  few = nodes_length w g 0 k

  -- owned blocks that are not the file's
  other_alike : (b : ℕ) → 1 ≤ mine v b → has v h 0 (key v a) b ≡ 0 → Alike 512 v w b
  other_alike b m z = T.same b (mine_in S b m) (omega (arith, mine_once S b m)) (mine_map S b m)

  slot_alike : (o : ℕ) → o < 39 → w (at a + o) ≡ v (at a + o)
  slot_alike o l =
      rw (at_place a o) (other_alike (a / 13) (slot_mine S P) (entry_apart R) (4 + 39 * (a % 13) + o) (omega arith))

  away : has w g 0 k (a / 13) ≡ 0
  away =
      omega (arith, T.level (a / 13) (mine_in S (a / 13) (slot_mine S P)), mine_once S (a / 13) (slot_mine S P), entry_apart R)

  beside : (b : ℕ) → (b ≡ a / 13 → ⊥) → Alike 512 w called b
  beside b z j l = noted_out w a g k e t (b * 512 + j) (λ p q. z (sym (at_block a b (b * 512 + j - at a) j (omega arith) l (omega arith))))

  in_tree : (b : ℕ) → 1 ≤ has w g 0 k b → Alike 512 w called b
  in_tree b m = beside b (λ z. omega (arith, away, rw z at m))

  read : (x : Gauge) → weigh x called g 0 k ≡ weigh x w g 0 k
  read x = weigh_same x w called g 0 k in_tree

  map_called : MapSame map_place n w called
  map_called = map_alike n w called (λ b p q. beside b (λ z. mine_map S (a / 13) (slot_mine S P) (rw (← z) p) (rw (← z) q)))

  pub called_room : room map_place called n ≡ room map_place w n
  called_room = same_room map_place n w called map_called

  called_sort : sort called a ≡ file g
  called_sort = noted_sort w a g k e t P.proper low

  called_key : key called a ≡ k
  called_key = noted_key w a g k e t P.proper (omega (arith, fit_key W, S.small))

  called_eof : eof called a ≡ e
  called_eof = noted_eof w a g k e t P.proper small

  pub called_used : used called a ≡ size w g 0 k
  called_used = noted_used w a g k e t P.proper (omega (arith, few, size_most W, S.small)) ∙ few

  near : Near v called (at a)
  near =
      let N = noted_near w a g k e t in
      let z : w (at a) ≡ v (at a) = rw add-zero at (slot_alike 0 (omega arith)) in
      record {
        sized = N.sized ∙ ap (λ (x : ℕ). x % 16) z;
        rest = λ i l. N.rest i l ∙ rw (add_assoc (at a) 1 i) (slot_alike (1 + i) (omega arith));
      }

  called_blocks : (b : ℕ) → count b (blocks called a) ≡ has w g 0 k b
  called_blocks b = rw (file_blocks called a g called_sort, called_key) (nodes_count called g 0 k b ∙ read (each (is b)))

  out : Apart v called a d
  out b j m l off =
      noted_out w a g k e t (b * 512 + j) (λ p q. off (in_slot p q))
      ∙ other_alike b m (by_zero (has v h 0 (key v a) b) (λ z. z) (λ p. absurd (off (in_file (rw (own_tree R b) p) (not_directory_law R))))) j l

  step : Step n v called a d
  step = record { sound = S; spot = P; out = out }

  -- the new entry has no faults
  called_right : (m : ℕ) → faults n called m d a ≡ 0
  called_right m =
      let E = entry_right R in
      let old = right R in
      let name : capital_name called (at a) ≡ true = capital_near near ∙ E.name in
      let up_w : directory_key w a ≡ directory_key v a =
      field_at w a 0x25 volume_block P.proper
      ∙ word_same w v _ _ (slot_alike 0x25 (omega arith)) (rw (add_assoc (at a) 0x25 1) (slot_alike 0x26 (omega arith)))
      ∙ sym (field_at v a 0x25 volume_block P.proper) in
      let up : directory_key called a ≡ key called d = noted_up w a g k e t P.proper ∙ up_w ∙ E.up ∙ sym (one_directory step) in
      let type : ftype called a ≡ ftype v a =
      noted_type w a g k e t P.proper
      ∙ ftype_at w a P.proper
      ∙ slot_alike 0x10 (omega arith)
      ∙ sym (ftype_at v a P.proper) in
      let long_blocks : length (blocks called a) ≡ size w g 0 k =
      rw (file_blocks called a g called_sort, called_key) (blocks_length called g 0 k ∙ read (each (λ _. 1))) in
      let in_range : outside n (blocks called a) ≡ 0 =
      rw (file_blocks called a g called_sort, called_key)
      (nodes_outside called g 0 k n
      ∙ read (each (λ b. one_if (leb n b)))
      ∙ weigh_zero (each (λ b. one_if (leb n b))) w g 0 k (λ _ _ b s. rw (lt-leb n b (T.range b s)) refl)) in
      rw called_sort
      (file_none n called g m d a name up (λ z. old.typed (sym type ∙ z)) (rw called_eof tall) (called_used ∙ sym long_blocks)
      (rw (called_key, called_eof) (nodes_late called g 0 k (span e) ∙ read (tardy (span e)) ∙ ends)) in_range)

  -- the directory's count of entries
  head_kept : (j : ℕ) → 37 ≤ j → j < 39 → called (key v d * 512 + j) ≡ v (key v d * 512 + j)
  head_kept j p q =
      noted_out w a g k e t _ (slot_head S P d j P.home P.holds (omega arith) (omega arith))
      ∙ other_alike (key v d) (head_mine S P)
      (by_zero (has v h 0 (key v a) (key v d)) (λ z. z) (λ m.
      absurd
      (not_directory_law R
      (rw (mine_apart S a d (key v d) P.seen P.home (rw (own_tree R (key v d)) m) (directory_key_law S d P.home P.holds)) P.holds))))
      j (omega arith)

  change : Change n v called a d 0 [] [] []
  change =
      record {
        step = step;
        old = leaf v a (not_directory_law R);
        new = leaf called a (λ z. file_directory (sym called_sort ∙ z));
        off = λ s m. absurd (count_none s m);
        off' = λ s m. absurd (count_none s m);
        held = λ x m. absurd (count_none x m);
        level = omega arith;
        entry = λ m. omega (arith, called_right m);
        counted =
            rw (called_sort, R.kind)
            (ap (λ (x : ℕ). x + 1)
            (word_same called v _ _ (head_kept 37 (omega arith) (omega arith))
            (rw (add_assoc (key v d * 512) 37 1) (head_kept 38 (omega arith) (omega arith)))));
        unlike =
            twins_near v called (kids v d) (λ s c. at_or_off s a
            (λ z. rw z (rw (called_sort, R.kind) refl, near))
            (λ z. let o = one_entry step d s P.home c z in (ap is_active o.0, named_near o.1)))
            ∙ (seen_directory S d P.home P.holds).unlike;
        balance = λ b l. omega (arith, called_blocks b, own_tree R b, T.level b l, same_free map_place n w called map_called b l);
        rest = same_rest map_place n w called map_called T.rest;
      }

  -- the bytes that are read
  pub called_byte : (i : ℕ) → content called a i ≡ file_byte w g k i
  called_byte i =
      rw (called_sort, called_key) (ap (λ f. f i) (file_byte_same w called g k (λ b m. in_tree b (rw (nodes_count w g 0 k b) at m))))

  -- every path leads where it led, and the file may be read if it could be
  called_names : SameNames v called
  called_names =
      record {
        slots = λ x m f. kids_same v called x (one_keeps step x m (λ z. not_directory_law R (rw z at f)));
        entry = λ x s m c. at_or_off s a
            (λ z. rw z (record { alive = rw (called_sort, R.kind) refl; folder = rw (called_sort, R.kind) refl; near = near }))
            (λ z.
            let o = one_entry step x s m c z in
            record { alive = ap is_active o.0; folder = ap is_directory o.0; near = named_near o.1 });
        top = named_near (unfold at in head_name v called volume_block (one_volume step));
      }

  called_readable : allows (access called a) read_bit ≡ allows (access v a) read_bit
  called_readable =
      ap (λ x. allows x read_bit) (noted_access w a g k e t)
      ∙ backed_read (access w a)
      ∙ ap (λ x. allows x read_bit) (slot_alike 0x1E (omega arith))

  pub called_done : Done n v a called e
  called_done =
      record {
        sound = one_sound change;
        others = one_others change;
        octets = noted_octets w a g k e t low T.bytes;
        names = called_names;
        ends = noted_eof w a g k e t P.proper small;
        plain = rw called_sort refl;
        readable = called_readable;
      }
