-- A line's parts one by one: fields, hex digits, a digest, a buffer, and which line an answer prints. Assumes nothing.
use Prim.Native.Nat.{ℕ, suc, ◌+◌, ◌-◌, ◌/◌, ◌%◌, ◌≤◌, ◌<◌}
use mathlib.Core.Path.{◌≡◌}
use mathlib.Core.List.{List, [], ◌∷◌, ◌++◌}
use native.Mathlib.Omega.{arith}
use lib.Bits.{bit_xor, xor_lt}
use lib.ListN.{length}
use mir.Syntax.{w32}
use Rattle.std.specs.Int.{to_be_bytes}
use Rattle.std.specs.Prelude.{Result, Ok, Err}
use borrow.Author.Tests.{eq-eqb, ne_eqb, le-leb, lt-leb}
use Rattle.model.specs.Bytes.{Bytes, view}
use Rattle.model.specs.Catalog.{space', decimal, hex_byte, refused_line}
use Rattle.model.specs.Answers.{answer_number}
use Rattle.model.specs.Refusals.{refusal_number}
use Rattle.model.specs.declared.Refusal.{Refusal}
use Rattle.model.proofs.RefusalLaws.{number_refuses}
use Rattle.replies.specs.Lines.{field_text, fields_text, hex_text, mixed, digest_from, digest, digest_text, buffer_text, reply}

-- An exclusive or with a byte stays below 2^32.
pub xor_small : (h x : ℕ) → h < 4294967296 → x < 256 → bit_xor h x < 4294967296
xor_small h x p q = xor_lt 32 h x p (omega arith)

-- A digest of 32 bits is the hex digits of its four bytes.
pub digest_hex : (h : ℕ) (bytes : List ℕ) → bytes ≡ to_be_bytes w32 h → h < 4294967296 → hex_text (view bytes) 0 (length bytes) ≡ digest_text h
unfolding hex_text digest_text
digest_hex h bytes b l = let e : h / 16777216 % 256 ≡ h / 16777216 = omega arith in rw (b, e)

-- One field.
module _ (form x : ℕ) where
  pub field_byte : form ≡ 66 → space' ∷ hex_byte (x % 256) ≡ field_text form x
  unfolding field_text
  field_byte h = rw (eq-eqb form 66 h, field_text)

  pub field_number : (form ≡ 66 → ⊥) → space' ∷ decimal x ≡ field_text form x
  unfolding field_text
  field_number h = rw (ne_eqb form 66 h, field_text)

-- In a loop: the part at i and what is left, and the end.
module _ (n i : ℕ) (h : i < n) where
  one_more : n - i ≡ suc (n - (i + 1))
  one_more = omega arith

  pub fields_next : (forms values : Bytes)
      → fields_text forms values i (n - i) ≡ field_text (forms i) (values i) ++ fields_text forms values (i + 1) (n - (i + 1))
  unfolding fields_text
  fields_next forms values = rw (one_more, fields_text)

  pub hex_next : (f : Bytes) → hex_text f i (n - i) ≡ hex_byte (f i) ++ hex_text f (i + 1) (n - (i + 1))
  unfolding hex_text
  hex_next f = rw (one_more, hex_text)

  pub digest_next : (f : Bytes) (x : ℕ) → digest_from f i (n - i) x ≡ digest_from f (i + 1) (n - (i + 1)) (mixed x (f i))
  unfolding digest_from
  digest_next f x = rw (one_more, digest_from)

module _ (a k : ℕ) (h : k ≡ 0) where
  pub fields_end : (forms values : Bytes) → fields_text forms values a k ≡ []
  unfolding fields_text
  fields_end forms values = rw h

  pub hex_end : (f : Bytes) → hex_text f a k ≡ []
  unfolding hex_text
  hex_end f = rw h

  pub digest_end : (f : Bytes) (x : ℕ) → digest_from f a k x ≡ x
  unfolding digest_from
  digest_end f x = rw h

-- A buffer of k bytes.
module _ (f : Bytes) (k : ℕ) where
  pub buffer_none : k ≡ 0 → 45 ∷ [] ≡ buffer_text f k
  unfolding buffer_text
  buffer_none h = rw (eq-eqb k 0 h, buffer_text)

  pub buffer_shown : (k ≡ 0 → ⊥) → k ≤ 1024 → hex_text f 0 k ≡ buffer_text f k
  unfolding buffer_text
  buffer_shown h l = rw (ne_eqb k 0 h, le-leb k 1024 l, buffer_text)

  pub buffer_digest : 1024 < k → 35 ∷ digest_text (digest f k) ≡ buffer_text f k
  unfolding buffer_text
  buffer_digest l = rw (ne_eqb k 0 (λ e. omega arith), lt-leb k 1024 l, buffer_text)

-- What a call prints, by its answer.
module _ {A : Type 0} {answer : Result A Refusal} (said : List ℕ) where
  pub reply_done : {parts : A} → answer ≡ Ok parts → reply (answer_number answer) said ≡ said
  unfolding reply
  reply_done e = rw (e, reply)

  pub reply_refused : {why : Refusal} → answer ≡ Err why → reply (answer_number answer) said ≡ refused_line (refusal_number why)
  unfolding reply
  reply_refused {why} e = rw e (rw (ne_eqb (refusal_number why) 0 (number_refuses why), reply))
