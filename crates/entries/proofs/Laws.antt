-- What the writers store, as the definitions have it; a slot lent from an image and given back; a name lent as a part. Assumes nothing.
use mathlib.Core.Path.{◌≡◌, refl, sym, ap, ◌∙◌, fun_ext}
use mathlib.Core.List.{List, ◌++◌}
use Prim.Native.Nat.{ℕ, ◌+◌, ◌-◌, ◌*◌, ◌≤◌, ◌<◌}
use lib.Bits.{bit_or, or_add_and}
use lib.ListN.{length, take, drop, get_or-eq_default}
use native.Mathlib.Omega.{arith}
use Rattle.std.proofs.lemmas.Nat.Bits.{and_pow}
use Rattle.model.specs.Bytes.{Bytes, view, put, paste, from, zeros, clear, digit, put_word}
use Rattle.model.specs.Names.{Part, part, capital, capitals}
use Rattle.model.specs.Calls.{stamp_bytes, put_stamp, name_field, put_name, backed_up}
use Rattle.model.specs.Create.{Wanted, entry_bytes, subdirectory_header}
use Rattle.model.specs.Format.{header_bytes}
use Rattle.model.specs.declared.Stamp.{Stamp}
use Rattle.model.proofs.ByteLaws.{in_or_out, paste_in, paste_at, paste_out, paste_by, paste_cong, paste_put, paste_paste, clear_in, clear_out, view_part}
use Rattle.model.proofs.Laws.Fresh.{name_rest}
use Rattle.names.proofs.PartLaws.{SameRun}

-- the backup bit is set, or is added
pub backed_or : (x : ℕ) → bit_or x 32 ≡ backed_up x
unfolding backed_up
backed_or x = omega (arith, or_add_and x 32, and_pow x 5)

-- two runs, one behind the other
two_runs : (f : Bytes) (a : ℕ) (g h : Bytes) → paste (paste f a 2 g) (a + 2) 2 h ≡ paste f a 4 (paste g 2 2 h)
two_runs f a g h = paste_by (paste (paste f a 2 g) (a + 2) 2 h) f a 4 (paste g 2 2 h) inside outside
  where
    inside : (i : ℕ) → i < 4 → paste (paste f a 2 g) (a + 2) 2 h (a + i) ≡ paste g 2 2 h i
    inside i l =
        in_or_out 2 2 i
        (λ u v.
        let e : a + i - (a + 2) ≡ i - 2 = omega arith in
        paste_in (paste f a 2 g) (a + 2) 2 h (a + i) (omega arith) (omega arith) ∙ ap h e ∙ sym (paste_in g 2 2 h i u v))
        (λ o.
        let b : 2 ≤ i → ⊥ = λ u. o u (omega arith) in
        paste_out (paste f a 2 g) (a + 2) 2 h (a + i) (λ u v. o (omega arith) (omega arith))
        ∙ paste_at f a 2 g i (omega (arith, b))
        ∙ sym (paste_out g 2 2 h i o))

    outside : (i : ℕ) → (a ≤ i → i < a + 4 → ⊥) → paste (paste f a 2 g) (a + 2) 2 h i ≡ f i
    outside i o =
        paste_out (paste f a 2 g) (a + 2) 2 h i (λ u v. o (omega arith) (omega arith))
        ∙ paste_out f a 2 g i (λ u v. o u (omega arith))

pub stamp_stored : (f : Bytes) (a : ℕ) (t : Stamp) → put_word (put_word f a t.date) (a + 2) t.time ≡ put_stamp f a t
unfolding put_word stamp_bytes
stamp_stored f a t = two_runs f a (digit t.date) (digit t.time)

from_none : (f : Bytes) → from f 0 ≡ f
from_none f = fun_ext (λ i. let e : 0 + i ≡ i = omega arith in ap f e)

-- a run cleared, the capitals, the first byte
pub name_stored : (f : Bytes) (a kind : ℕ) (p : Bytes) (n : ℕ) → n ≤ 15
    → put (paste (clear f a 16) (a + 1) n (capitals p)) a (kind * 16 + n) ≡ put_name f a kind p (part 0 n)
unfolding name_field clear
name_stored f a kind p n l =
    let e : a + 0 ≡ a = omega arith in
    sym
    (ap (λ g. paste f a 16 (put (paste zeros 1 n g) 0 (kind * 16 + n))) (from_none (capitals p))
    ∙ paste_put f a 16 (paste zeros 1 n (capitals p)) 0 (kind * 16 + n) (omega arith)
    ∙ rw (e, paste_paste f a 16 zeros 1 n (capitals p) (omega arith)) refl)

-- all bytes cleared; a slot cleared has nothing but the name stored then
pub all_cleared : (xs : List ℕ) → clear (view xs) 0 (length xs) ≡ zeros
all_cleared xs =
    fun_ext
    (λ i.
    in_or_out 0 (length xs) i (λ u v. clear_in (view xs) 0 (length xs) i u v)
    (λ o. clear_out (view xs) 0 (length xs) i o ∙ get_or-eq_default xs 0 (omega (arith, o (omega arith)))))

pub slot_cleared : (xs : List ℕ) → length xs ≡ 39 → clear (view xs) 0 39 ≡ zeros
slot_cleared xs e = ap (clear (view xs) 0) (sym e) ∙ all_cleared xs

pub slot_named : (kind : ℕ) (p : Bytes) (x : Part) → x.size < 16 → put_name zeros 0 kind p x ≡ name_field kind p x
slot_named kind p x l =
    sym
    (paste_by (name_field kind p x) zeros 0 16 (name_field kind p x)
    (λ i h. let e : 0 + i ≡ i = omega arith in ap (name_field kind p x) e)
    (λ i o. name_rest kind p x i l (omega (arith, o (omega arith)))))

-- The 39 bytes from a on, lent, written and given back: nothing else of the image has changed.
pub slot_back : (xs ys : List ℕ) (a k : ℕ) (g : Bytes) → k ≡ 39 → a + 39 ≤ length xs → length ys ≡ k → view ys ≡ g
    → view (take a xs ++ (ys ++ drop k (drop a xs))) ≡ paste (view xs) a 39 g
slot_back xs ys a k g e l n w = view_part xs ys a k (omega arith) n ∙ rw (e, w) refl

-- A name of k bytes that is lent from s on in the path p is stored as the path's part.
module _ (f p : Bytes) (s k : ℕ) (lent : SameRun k f 0 p s) where
  pub part_field : (kind : ℕ) → name_field kind f (part 0 k) ≡ name_field kind p (part s k)
  unfolding name_field
  part_field kind =
      ap (λ g. put g 0 (kind * 16 + k))
      (paste_cong zeros 1 k (from (capitals f) 0) (from (capitals p) s) (λ i l. ap capital (lent i l)))

  pub part_header : (kind : ℕ) (t : Stamp) (access : ℕ) → header_bytes kind f (part 0 k) t access ≡ header_bytes kind p (part s k) t access
  unfolding header_bytes
  part_header kind t access = rw (part_field kind) refl

  pub part_subdirectory : (t : Stamp) (d : ℕ) → subdirectory_header f (part 0 k) t d ≡ subdirectory_header p (part s k) t d
  unfolding subdirectory_header
  part_subdirectory t d = rw (part_header 0xE t 0xE3) refl

  pub part_entry : (w : Wanted) (z d : ℕ) → entry_bytes f (part 0 k) w z d ≡ entry_bytes p (part s k) w z d
  unfolding entry_bytes
  part_entry w z d = rw (part_field w.kind) refl
