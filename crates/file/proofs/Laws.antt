-- The data block of a file block, height by height, and a run of a file's bytes inside one block. Assumes nothing.
use Prim.Native.Nat.{ℕ, ◌+◌, ◌-◌, ◌*◌, ◌/◌, ◌%◌, ◌≤◌, ◌<◌}
use mathlib.Core.Path.{◌≡◌, refl, sym, ap, ◌∙◌}
use mathlib.Core.Bool.{Bool, true, false}
use lib.Dec.{eqb}
use native.Mathlib.Omega.{arith}
use borrow.Author.Tests.{eqb-true, eqb-false, eq-eqb, ne_eqb}
use Rattle.model.specs.Bytes.{Bytes, paste, from, zeros, clear}
use Rattle.model.specs.File.{pointer, above, data_block, file_byte}
use Rattle.model.proofs.ByteLaws.{Agree, paste_cong, paste_in, paste_out, paste_by, in_or_out, paste_at}
use Rattle.facts.specs.Reached.{Deep}
use Rattle.file.specs.Runs.{run_in}

module _ (v : Bytes) (k p : ℕ) where
  pub in_index : data_block v 1 k p ≡ pointer v k (p % 256)
  unfolding data_block above
  in_index = go (eqb (pointer v k (p % 256)) 0) refl
    where
      go : (b : Bool) → eqb (pointer v k (p % 256)) 0 ≡ b → elim b as (λ _. ℕ) [ true ↦ 0 | false ↦ pointer v k (p % 256) ] ≡ pointer v k (p % 256)
      go true e = sym (eqb-true (pointer v k (p % 256)) 0 e)
      go false e = refl

  pub index_inside : (n : ℕ) → Deep n v 1 k → pointer v k (p % 256) < n
  index_inside n d = go (eqb (pointer v k (p % 256)) 0) refl
    where
      go : (b : Bool) → eqb (pointer v k (p % 256)) 0 ≡ b → pointer v k (p % 256) < n
      go true e = let z = eqb-true (pointer v k (p % 256)) 0 e in omega (arith, d.0)
      go false e = d.1 (p % 256) (omega arith) (eqb-false (pointer v k (p % 256)) 0 e)

  pub master_hole : pointer v k (p / 256 % 256) ≡ 0 → data_block v 2 k p ≡ 0
  unfolding data_block above
  master_hole e = rw (eq-eqb (pointer v k (p / 256 % 256)) 0 e, data_block) refl

  pub in_master : (pointer v k (p / 256 % 256) ≡ 0 → ⊥) → data_block v 2 k p ≡ data_block v 1 (pointer v k (p / 256 % 256)) p
  unfolding data_block above
  in_master e = rw (ne_eqb (pointer v k (p / 256 % 256)) 0 e, data_block) refl

-- the byte at an offset of a data block, which is a hole where the block is 0
abbrev byte_in : Bytes → ℕ → ℕ → ℕ
byte_in v b o = elim (eqb b 0) [ true ↦ 0 | false ↦ v (b * 512 + o) ]

-- a run of the file inside one block
run_here : (v : Bytes) (h k at r : ℕ) → at % 512 + r ≤ 512
    → Agree r (run_in v (data_block v h k (at / 512)) (at % 512)) (from (file_byte v h k) at)
unfolding run_in file_byte
run_here v h k at r f i l =
    let b = data_block v h k (at / 512) in
    let s : b * 512 + at % 512 + i ≡ b * 512 + (at % 512 + i) = omega arith in
    let q : at / 512 ≡ (at + i) / 512 = omega arith in
    let o : at % 512 + i ≡ (at + i) % 512 = omega arith in
    ap (λ a. elim (eqb b 0) [ true ↦ 0 | false ↦ v a ]) s
    ∙ ap (λ p. byte_in v (data_block v h k p) (at % 512 + i)) q
    ∙ ap (byte_in v (data_block v h k ((at + i) / 512))) o

-- a paste goes on where it ended
paste_on : (f : Bytes) (d r : ℕ) (g : Bytes) → paste (paste f 0 d g) d r (from g d) ≡ paste f 0 (d + r) g
paste_on f d r g = paste_by _ f 0 (d + r) g inside outside
  where
    both : Bytes
    both = paste (paste f 0 d g) d r (from g d)

    early : (i : ℕ) → i < d → both (0 + i) ≡ g i
    early i h = paste_out (paste f 0 d g) d r (from g d) (0 + i) (λ u w. omega arith) ∙ paste_at f 0 d g i h

    late : (i : ℕ) → d ≤ i → i < d + r → both (0 + i) ≡ g i
    late i h l =
        let e : d + (0 + i - d) ≡ i = omega arith in
        paste_in (paste f 0 d g) d r (from g d) (0 + i) (omega arith) (omega arith) ∙ ap g e

    over : (i : ℕ) → (0 ≤ i → i < 0 + d → ⊥) → d ≤ i
    over i o = omega (arith, o (omega arith))

    inside : (i : ℕ) → i < d + r → both (0 + i) ≡ g i
    inside i h = in_or_out 0 d i (λ u w. early i (omega arith)) (λ o. late i (over i o) h)

    outside : (i : ℕ) → (0 ≤ i → i < 0 + (d + r) → ⊥) → both i ≡ f i
    outside i o =
        paste_out (paste f 0 d g) d r (from g d) i (λ u w. o (omega arith) (omega arith))
        ∙ paste_out f 0 d g i (λ u w. o (omega arith) (omega arith))

pub run_on : (f v : Bytes) (h k position d r : ℕ) → (position + d) % 512 + r ≤ 512
    → paste (paste f 0 d (from (file_byte v h k) position)) d r (run_in v (data_block v h k ((position + d) / 512)) ((position + d) % 512))
    ≡ paste f 0 (d + r) (from (file_byte v h k) position)
run_on f v h k position d r l =
    paste_cong (paste f 0 d (from (file_byte v h k) position)) d r _ (from (from (file_byte v h k) position) d) here
    ∙ paste_on f d r (from (file_byte v h k) position)
  where
    here : Agree r (run_in v (data_block v h k ((position + d) / 512)) ((position + d) % 512)) (from (from (file_byte v h k) position) d)
    here i b =
        let e : position + d + i ≡ position + (d + i) = omega arith in
        run_here v h k (position + d) r l i b ∙ ap (file_byte v h k) e

-- a hole and a block
module _ (f v : Bytes) (to k offset b : ℕ) where
  pub hole_run : b ≡ 0 → clear f to k ≡ paste f to k (run_in v b offset)
  unfolding clear run_in
  hole_run e = paste_cong f to k zeros _ (λ i l. rw (eq-eqb b 0 e, run_in) refl)

  pub block_run : (b ≡ 0 → ⊥) → paste f to k (from v (b * 512 + offset)) ≡ paste f to k (run_in v b offset)
  unfolding run_in
  block_run e = paste_cong f to k _ _ (λ i l. rw (ne_eqb b 0 e, run_in) refl)
