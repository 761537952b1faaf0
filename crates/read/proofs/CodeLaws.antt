-- What the branches of the code answer: the rows of read from $4B on.
use Rattle.std.specs.Prelude.{Ok, Err}
use Prim.Native.Nat.{ℕ, ◌≤◌, ◌<◌}
use mathlib.Core.Path.{◌≡◌, refl, sym, ap, ◌∙◌}
use mathlib.Core.List.{List, [], ◌∷◌}
use mathlib.Core.Bool.{true, false, not}
use lib.Dec.{leb, ltb, eqb}
use lib.ListN.{length}
use borrow.Author.Tests.{eq-eqb, lt-ltb, le-ltb, le-leb, leb-true, eqb-true}
use Rattle.model.specs.Bytes.{Bytes, view, paste, from, ◌and◌}
use Rattle.model.specs.File.{file_byte}
use Rattle.model.specs.Kinds.{key_of}
use Rattle.model.specs.Refusals.{refusal_number, Row, row, first, settle}
use Rattle.model.specs.Calls.{allows, read_bit}
use Rattle.model.specs.Read.{Filled, filled}
use Rattle.model.specs.Answers.{Reads}
use Rattle.model.specs.declared.Refusal.{Refusal}
use Rattle.model.specs.declared.Entry.{Entry}
use Rattle.model.proofs.RefusalLaws.{settle_refused, settle_accepted, number_refuses, first_applies, first_passes}
use Rattle.claims.proofs.TestLaws.{and_true, and_false}
use Rattle.opening.specs.Sorts.{is_folder, height_of}
use Rattle.read.specs.Reading.{entry_read_number, entry_count, entry_read}

module _ (x : Entry) (pos size : ℕ) where
  abbrev end_row : Row
  end_row = row (leb 1 size and eqb pos x.eof) 0x4C

  abbrev far_rows : List Row
  far_rows = row (ltb x.eof pos) 0x4D ∷ end_row ∷ []

  abbrev lock_rows : List Row
  lock_rows = row (not (allows x.access read_bit)) 0x4E ∷ far_rows

  past_folder : is_folder x.kind ≡ false → entry_read_number x pos size ≡ first lock_rows
  unfolding entry_read_number
  past_folder e = first_passes (row (is_folder x.kind) 0x4B) lock_rows e

  pub number_locked : is_folder x.kind ≡ false → allows x.access read_bit ≡ false → entry_read_number x pos size ≡ 0x4E
  number_locked e h = past_folder e ∙ first_applies (row (not (allows x.access read_bit)) 0x4E) far_rows (ap not h)

  past_lock : is_folder x.kind ≡ false → allows x.access read_bit ≡ true → entry_read_number x pos size ≡ first far_rows
  past_lock e h = past_folder e ∙ first_passes (row (not (allows x.access read_bit)) 0x4E) far_rows (ap not h)

  pub number_far : is_folder x.kind ≡ false → allows x.access read_bit ≡ true → x.eof < pos → entry_read_number x pos size ≡ 0x4D
  number_far e h f = past_lock e h ∙ first_applies (row (ltb x.eof pos) 0x4D) (end_row ∷ []) (lt-ltb x.eof pos f)

  past_far : is_folder x.kind ≡ false → allows x.access read_bit ≡ true → pos ≤ x.eof → entry_read_number x pos size ≡ first (end_row ∷ [])
  past_far e h f = past_lock e h ∙ first_passes (row (ltb x.eof pos) 0x4D) (end_row ∷ []) (le-ltb x.eof pos f)

  pub number_end : is_folder x.kind ≡ false → allows x.access read_bit ≡ true → pos ≤ x.eof → 1 ≤ size → pos ≡ x.eof → entry_read_number x pos size ≡ 0x4C
  number_end e h f s p =
      past_far e h f ∙ first_applies end_row [] ((and_true (leb 1 size) (eqb pos x.eof)).1 (le-leb 1 size s, eq-eqb pos x.eof p))

  pub number_none : is_folder x.kind ≡ false → allows x.access read_bit ≡ true → pos ≤ x.eof → (1 ≤ size → pos ≡ x.eof → ⊥) → entry_read_number x pos size ≡ 0
  unfolding first
  number_none e h f s =
      past_far e h f ∙ first_passes end_row [] (and_false (leb 1 size) (eqb pos x.eof) (λ a b. s (leb-true 1 size a) (eqb-true pos x.eof b)))

module _ (v : Bytes) (x : Entry) (pos : ℕ) (l : List ℕ) where
  -- the outcome of a read that is not refused
  abbrev done : Filled
  done =
      filled (entry_count x pos (length l)) (paste (view l) 0 (entry_count x pos (length l)) (from (file_byte v (height_of x.kind) (key_of x.kind)) pos))

  pub entry_no : (r : Refusal) → entry_read_number x pos (length l) ≡ refusal_number r → Reads (entry_read v x pos (view l) (length l)) (length l) (Err r) l
  unfolding entry_read settle
  entry_no r e =
      let s = settle_refused (entry_read_number x pos (length l)) (filled 0 (view l)) v done v (λ z. number_refuses r (sym e ∙ z)) in
      record { said = sym e; moved = sym (ap (λ f. f.moved) s.0); size = refl; bytes = sym (ap (λ f. f.buffer) s.0) }

  pub entry_moved : (k : ℕ) (m : List ℕ) → entry_read_number x pos (length l) ≡ 0 → k ≡ entry_count x pos (length l) → length m ≡ length l
      → view m ≡ paste (view l) 0 k (from (file_byte v (height_of x.kind) (key_of x.kind)) pos)
      → Reads (entry_read v x pos (view l) (length l)) (length l) (Ok k) m
  unfolding entry_read settle
  entry_moved k m e c n b =
      let s = settle_accepted (entry_read_number x pos (length l)) (filled 0 (view l)) v done v e in
      let g = from (file_byte v (height_of x.kind) (key_of x.kind)) pos in
      record {
        said = sym e;
        moved = c ∙ sym (ap (λ f. f.moved) s.0);
        size = n;
        bytes = b ∙ ap (λ k. paste (view l) 0 k g) c ∙ sym (ap (λ f. f.buffer) s.0);
      }
