-- A field of any form, and one field after the other: what reading leaves, case by case. Assumes nothing.
use mathlib.Core.Path.{◌≡◌, refl, sym, ap, ◌∙◌}
use mathlib.Core.List.{List, ◌∷◌, ◌++◌}
use Prim.Native.Nat.{ℕ, zero, suc, ◌+◌, ◌-◌, ◌≤◌, ◌<◌}
use lib.ListN.{length, drop, take}
use native.Mathlib.Omega.{arith}
use borrow.Author.Tests.{ne_eqb, lt-ltb, le-ltb}
use Rattle.std.proofs.Common.{Some, None, add-one}
use Rattle.std.proofs.Math.Seq.{drop-cons}
use Rattle.model.specs.Bytes.{Bytes, view, put, paste}
use Rattle.model.specs.Catalog.{space'}
use Rattle.model.proofs.ByteLaws.{at_or_off, paste_paste, part_self, view_part}
use Rattle.script.specs.Fields.{text_most, end_at, field, pairs, data_size, text_size, text_bytes, sized, field_value, field_room, field_buffer, Fields, nowhere, valued, field_read, read_field, read_fields}
use Rattle.script.proofs.FieldLaws.{paste_bad}

-- the bytes of a field, as a part of the line
pub field_is : (l : List ℕ) (a k : ℕ) → a + k ≤ length l → field (view l) a k ≡ take k (drop a l)
unfolding field
field_is l a zero h = refl
field_is l a (suc k) h =
    ap (λ xs. view l a ∷ xs) (field_is l (a + 1) k (omega arith) ∙ ap (λ n. take k (drop n l)) (add-one a))
    ∙ ap (take (suc k)) (sym (drop-cons l a 0 (omega arith)))

-- a run put into a part of a room is put into the room
pub part_pasted : (xs ys : List ℕ) (a k m : ℕ) (g : Bytes) → a + k ≤ length xs → length ys ≡ k → m ≤ k
    → view ys ≡ paste (view (take k (drop a xs))) 0 m g → view (take a xs ++ (ys ++ drop k (drop a xs))) ≡ paste (view xs) a m g
part_pasted xs ys a k m g fits len most e =
    let z : a + 0 ≡ a = omega arith in
    view_part xs ys a k fits len
    ∙ ap (paste (view xs) a k) e
    ∙ paste_paste (view xs) a k (view (take k (drop a xs))) 0 m g (omega arith)
    ∙ ap (λ f. paste f (a + 0) m g) (part_self xs a k)
    ∙ ap (λ b. paste (view xs) b m g) z

-- a bad field leaves texts and data as they are
module _ (cs : List ℕ) (most : ℕ) (room buffer : Bytes) (form : ℕ) where
  value_text : form ≡ 84 → field_value cs most form ≡ text_size cs
  unfolding field_value
  value_text e = rw e

  value_second : form ≡ 83 → field_value cs most form ≡ text_size cs
  unfolding field_value
  value_second e = rw e

  value_data : form ≡ 68 → field_value cs most form ≡ data_size cs most
  unfolding field_value
  value_data e = rw e

  pub room_bad : field_value cs most form ≡ None → room ≡ field_room cs form room
  unfolding field_room
  room_bad p =
      at_or_off form 84
      (λ e. rw e (paste_bad room 0 (text_size cs) (text_bytes cs) (ap sized (sym (value_text e) ∙ p))))
      (λ n. at_or_off form 83
      (λ e. rw e (paste_bad room text_most (text_size cs) (text_bytes cs) (ap sized (sym (value_second e) ∙ p))))
      (λ m. rw (ne_eqb form 84 n, ne_eqb form 83 m, field_room)))

  pub buffer_bad : field_value cs most form ≡ None → buffer ≡ field_buffer cs most form buffer
  unfolding field_buffer
  buffer_bad p =
      at_or_off form 68
      (λ e. rw e (paste_bad buffer 0 (data_size cs most) (pairs cs) (ap sized (sym (value_data e) ∙ p))))
      (λ n. rw (ne_eqb form 68 n, field_buffer))

-- one field
abbrev pub fields : ℕ → Bytes → Bytes → Bytes → Fields
fields e values room buffer = record { at = e; values = values; room = room; buffer = buffer }

module _ (s : Bytes) (n most form i : ℕ) (f : Fields) where
  pub read_past : n ≤ f.at → read_field s n most form i f ≡ fields nowhere f.values f.room f.buffer
  unfolding read_field
  read_past p = rw (le-ltb _ _ p, read_field)

  pub read_in : (e : ℕ) (cs : List ℕ) → e ≡ end_at s n space' (f.at + 1) → cs ≡ field s (f.at + 1) (e - (f.at + 1)) → f.at < n
      → read_field s n most form i f ≡ valued cs most form i e f (field_value cs most form)
  unfolding read_field field_read
  read_in e cs p q h = rw (lt-ltb _ _ h, q, p, read_field)

module _ (s : Bytes) (n most form i a : ℕ) (values room buffer room' buffer' : Bytes) (e : ℕ) (cs : List ℕ)
    (p : e ≡ end_at s n space' (a + 1)) (q : cs ≡ field s (a + 1) (e - (a + 1))) (h : a < n)
    (r : room' ≡ field_room cs form room) (b : buffer' ≡ field_buffer cs most form buffer) where
  pub read_good : (v : ℕ) → Some v ≡ field_value cs most form
      → fields e (put values i v) room' buffer' ≡ read_field s n most form i (fields a values room buffer)
  read_good v w =
      let f = fields a values room buffer in
      rw (r, b) (ap (valued cs most form i e f) w) ∙ sym (read_in s n most form i f e cs p q h)

  pub read_bad : None ≡ field_value cs most form → fields nowhere values room' buffer' ≡ read_field s n most form i (fields a values room buffer)
  read_bad w =
      let f = fields a values room buffer in
      let r' : room' ≡ room = r ∙ sym (room_bad cs most room buffer form (sym w)) in
      let b' : buffer' ≡ buffer = b ∙ sym (buffer_bad cs most room buffer form (sym w)) in
      rw (r', b') (ap (valued cs most form i e f) w) ∙ sym (read_in s n most form i f e cs p q h)

-- one field after the other
module _ (s : Bytes) (n most : ℕ) (forms : Bytes) where
  pub read_more : (i k m : ℕ) (f g : Fields) → k ≡ suc m → g ≡ read_field s n most (forms i) i f
      → read_fields s n most forms (i + 1) m g ≡ read_fields s n most forms i k f
  unfolding read_fields
  read_more i k m f g e p = rw (e, p)

  pub read_none : (i : ℕ) (f : Fields) → read_fields s n most forms i 0 f ≡ f
  unfolding read_fields
  read_none i f = refl

  -- no field follows a bad one
  pub read_lost : (k i : ℕ) (values room buffer : Bytes) → n ≤ nowhere
      → read_fields s n most forms i k (fields nowhere values room buffer) ≡ fields nowhere values room buffer
  unfolding read_fields
  read_lost zero i values room buffer l = refl
  read_lost (suc k) i values room buffer l =
      ap (read_fields s n most forms (i + 1) k) (read_past s n most (forms i) i (fields nowhere values room buffer) l)
      ∙ read_lost k (i + 1) values room buffer l
