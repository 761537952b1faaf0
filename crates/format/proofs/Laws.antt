-- Sizes of an image, the bytes of a fresh map, and what format answers. Assumes nothing.
use Rattle.std.specs.Prelude.{Ok, Err}
use mathlib.Core.Path.{◌≡◌, refl, sym, ap, ◌∙◌}
use mathlib.Core.Bool.{Bool, true, false, not}
use mathlib.Core.List.{List, [], ◌∷◌}
use Prim.Native.Nat.{ℕ, suc, ◌+◌, ◌*◌, ◌/◌, ◌%◌, ◌^◌, ◌≤◌, ◌<◌}
use lib.ListN.{length}
use lib.Dec.{leb, ltb, eqb}
use native.Mathlib.Omega.{arith}
use borrow.Author.Tests.{eqb-true, eq-eqb, ne_eqb, le-leb, lt-leb}
use Rattle.model.specs.Bytes.{Bytes, view, ◌and◌, within, one_if}
use Rattle.model.specs.Names.{proper_name}
use Rattle.model.specs.Map.{weight, fresh_bits}
use Rattle.model.specs.Sound.{whole_blocks}
use Rattle.model.specs.Refusals.{Row, row, first}
use Rattle.model.specs.Format.{format_number, formatted, format}
use Rattle.model.specs.Answers.{Does}
use Rattle.model.specs.declared.Stamp.{Stamp}
use Rattle.model.specs.declared.Refusal.TheVariants.{NotProdos, BadPath}
use Rattle.model.proofs.RefusalLaws.{first_applies, first_passes}
use Rattle.model.proofs.BitLaws.{fresh_yes, fresh_no}
use Rattle.map.proofs.Laws.{shifted}
use Rattle.names.proofs.Laws.{and_left, and_right, within_true}
use Rattle.entries.proofs.DoesLaws.{does_refused, does_done}

-- $52, test by test
module _ (len : ℕ) where
  abbrev tests : Bool → Bool → Bool → Bool
  tests a b c = a and b and c

  whole_as : (a b : Bool) → eqb (len % 512) 0 ≡ a → leb 16 (len / 512) ≡ b → whole_blocks len ≡ tests a b (leb (len / 512) 65535)
  unfolding whole_blocks within
  whole_as a b e f = ap (λ x. tests x (leb 16 (len / 512)) (leb (len / 512) 65535)) e ∙ ap (λ x. tests a x (leb (len / 512) 65535)) f

  pub whole_part : (len % 512 ≡ 0 → ⊥) → false ≡ whole_blocks len
  unfolding ◌and◌
  whole_part h = sym (whole_as false (leb 16 (len / 512)) (ne_eqb (len % 512) 0 h) refl)

  pub whole_few : len % 512 ≡ 0 → len / 512 < 16 → false ≡ whole_blocks len
  unfolding ◌and◌
  whole_few h l = sym (whole_as true false (eq-eqb (len % 512) 0 h) (lt-leb 16 (len / 512) l))

  pub whole_most : len % 512 ≡ 0 → 16 ≤ len / 512 → leb (len / 512) 65535 ≡ whole_blocks len
  unfolding ◌and◌
  whole_most h l = sym (whole_as true true (eq-eqb (len % 512) 0 h) (le-leb 16 (len / 512) l))

  pub whole_facts : whole_blocks len ≡ true → (len % 512 ≡ 0) × (16 ≤ len / 512) × (len / 512 ≤ 65535)
  unfolding whole_blocks
  whole_facts e =
      let w = within_true 16 65535 (len / 512) (and_right _ _ e) in
      (eqb-true (len % 512) 0 (and_left _ _ e), w.0, w.1)

-- a block that is not free, and one that is
module _ (a n b i : ℕ) where
  abbrev counted : ℕ → Type 0
  counted r = (r ≡ one_if (leb a b and ltb b n) * weight i) × (r ≤ 128)

  pub bit_none : (a ≤ b → b < n → ⊥) → counted 0
  bit_none h = rw (fresh_no a n b h) (omega arith, omega arith)

  pub bit_one : i < 8 → a ≤ b → b < n → counted (128 / 2 ^ i)
  bit_one l h m =
      let w = shifted i l in
      let e : weight i ≡ 1 * weight i = omega arith in
      rw (fresh_yes a n b h m, w.0) (e, w.1)

-- a map byte, bit by bit, and whole
pub fresh_none : (a n b : ℕ) → 0 ≡ fresh_bits a n b 0
unfolding fresh_bits
fresh_none a n b = refl

pub fresh_next : (a n b i : ℕ) → fresh_bits a n b i + one_if (leb a (b + i) and ltb (b + i) n) * weight i ≡ fresh_bits a n b (i + 1)
unfolding fresh_bits
fresh_next a n b i = let e : suc i ≡ i + 1 = omega arith in ap (fresh_bits a n b) e

pub fresh_whole : (a n b : ℕ) → a ≤ b → b + 8 ≤ n → 255 ≡ fresh_bits a n b 8
unfolding fresh_bits weight
fresh_whole a n b h l =
    omega (
      arith,
      fresh_yes a n (b + 0) (omega arith) (omega arith),
      fresh_yes a n (b + 1) (omega arith) (omega arith),
      fresh_yes a n (b + 2) (omega arith) (omega arith),
      fresh_yes a n (b + 3) (omega arith) (omega arith),
      fresh_yes a n (b + 4) (omega arith) (omega arith),
      fresh_yes a n (b + 5) (omega arith) (omega arith),
      fresh_yes a n (b + 6) (omega arith) (omega arith),
      fresh_yes a n (b + 7) (omega arith) (omega arith),
    )

-- the outcomes
module _ (l : List ℕ) (q : Bytes) (j : ℕ) (t : Stamp) where
  abbrev size_row : Row
  size_row = row (not (whole_blocks (length l))) 0x52

  abbrev name_row : Row
  name_row = row (not (proper_name q 0 j)) 0x40

  pub format_size : whole_blocks (length l) ≡ false → Does (format (length l) (view l) q j t) (length l) (Err NotProdos) l
  unfolding format format_number
  format_size e = does_refused _ l _ NotProdos (first_applies size_row (name_row ∷ []) (ap not e))

  pub format_name : whole_blocks (length l) ≡ true → proper_name q 0 j ≡ false
      → Does (format (length l) (view l) q j t) (length l) (Err BadPath) l
  unfolding format format_number
  format_name e f =
      does_refused _ l _ BadPath (first_passes size_row (name_row ∷ []) (ap not e) ∙ first_applies name_row [] (ap not f))

  pub format_done : (l' : List ℕ) → whole_blocks (length l) ≡ true → proper_name q 0 j ≡ true → length l' ≡ length l
      → view l' ≡ formatted (length l / 512) q j t → Does (format (length l) (view l) q j t) (length l) (Ok tt) l'
  unfolding format format_number first
  format_done l' e f m w =
      does_done _ (length l) (view l) _ l' (first_passes size_row (name_row ∷ []) (ap not e) ∙ first_passes name_row [] (ap not f)) m w
