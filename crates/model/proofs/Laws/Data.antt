-- The data blocks of a file by file block, and its bytes: growth keeps them, what is new reads as zero.
use Prim.Native.Nat.{ℕ, zero, suc, ◌+◌, ◌*◌, ◌≤◌, ◌/◌, ◌%◌}
use mathlib.Core.Path.{◌≡◌, refl, sym, ◌∙◌}
use mathlib.Core.Bool.{Bool, true, false}
use lib.Dec.{eqb}
use native.Mathlib.Omega.{arith}
use borrow.Author.Tests.{eqb-true, eqb-false, eq-eqb, ne_eqb, le-leb}
use Rattle.model.specs.Bytes.{Bytes, is}
use Rattle.model.specs.File.{pointer, first_below, above, data_block, file_byte}
use Rattle.model.proofs.BitLaws.{is_no, is_most}
use Rattle.model.proofs.SumLaws.{is_self, is_eq}
use Rattle.model.proofs.Laws.Frame.{Alike}
use Rattle.model.proofs.Laws.Weigh.{upto, upto_one, upto_zero, Gauge, arm, weigh, tardy, has, part, arm_hole, arm_full, part_zero, weigh_le, weigh_add, Blank, leaves, has_split}
use Rattle.model.proofs.Laws.Move.{by_zero, Fit}
use Rattle.model.proofs.Laws.Take.{Work, Still}

abbrev pub when : Bool → ℕ → ℕ → ℕ
when true a b = a
when false a b = b

-- the data block b as the file block r
abbrev pub spot : ℕ → ℕ → Gauge
spot r b zero s x = when (eqb r s) (is b x) 0
spot r b (suc l) s x = 0

module _ (r b : ℕ) (w : Bytes) where
  pub spot_off : (h s k : ℕ) → (s ≡ above h r → ⊥) → weigh (spot r b) w h s k ≡ 0
  unfolding weigh above
  spot_off zero s k d = rw (ne_eqb r s (λ e. d (sym e))) refl
  spot_off (suc h) s k d =
      omega
      (arith, upto_zero 256 _ (λ i l. part_zero (spot r b) w h s k i (λ z. spot_off h (s * 256 + i) (pointer w k i) (λ e. d (omega arith)))))

  pub spot_is : (h q k : ℕ) → (b ≡ 0 → ⊥) → q ≡ above h r → weigh (spot r b) w h q k ≡ is b (data_block w h k r)
  unfolding weigh data_block above
  spot_is zero q k z e = rw (eq-eqb r q (sym e)) refl
  spot_is (suc h) q k z e = go (eqb (pointer w k i) 0) refl (spot_is h (q * 256 + i) (pointer w k i) z (omega arith))
    where
      i : ℕ
      i = above h r % 256

      alone : upto 256 (arm (λ s p. weigh (spot r b) w h s p) w q k) ≡ part (spot r b) w h q k i
      alone =
          omega (
            arith,
            upto_zero 256 (λ _. 0) (λ _ _. refl),
            upto_one 256 i (arm (λ s p. weigh (spot r b) w h s p) w q k) (λ _. 0) (omega arith)
                (λ j l d. part_zero (spot r b) w h q k j (λ y. spot_off h (q * 256 + j) (pointer w k j) (λ t. d (omega arith)))),
          )

      go : (t : Bool) → eqb (pointer w k i) 0 ≡ t → weigh (spot r b) w h (q * 256 + i) (pointer w k i) ≡ is b (data_block w h (pointer w k i) r)
          → 0 + upto 256 (arm (λ s p. weigh (spot r b) w h s p) w q k) ≡ is b (elim t [ true ↦ 0 | false ↦ data_block w h (pointer w k i) r ])
      go true t rec = omega (arith, alone, arm_hole (λ s p. weigh (spot r b) w h s p) w q k i (eqb-true (pointer w k i) 0 t), is_no b 0 z)
      go false t rec = omega (arith, alone, arm_full (λ s p. weigh (spot r b) w h s p) w q k i (eqb-false (pointer w k i) 0 t), rec)

-- the data block b elsewhere
abbrev else_where : ℕ → ℕ → Gauge
else_where r b zero s x = when (eqb r s) 0 (is b x)
else_where r b (suc l) s x = 0

spot_split : (r b l s x : ℕ) → spot r b l s x + else_where r b l s x ≡ leaves b l s x
spot_split r b zero s x = go (eqb r s)
  where
    go : (t : Bool) → when t (is b x) 0 + when t 0 (is b x) ≡ is b x
    go true = omega arith
    go false = omega arith
spot_split r b (suc l) s x = refl

leaves_split : (r b : ℕ) (w : Bytes) (h q k : ℕ) → weigh (leaves b) w h q k ≡ weigh (spot r b) w h q k + weigh (else_where r b) w h q k
leaves_split r b w h q k =
    omega (
      arith,
      weigh_add (spot r b) (else_where r b) w h q k,
      weigh_le (leaves b) (λ l s x. spot r b l s x + else_where r b l s x) w h q k (λ l s x _. omega (arith, spot_split r b l s x)),
      weigh_le (λ l s x. spot r b l s x + else_where r b l s x) (leaves b) w h q k (λ l s x _. omega (arith, spot_split r b l s x)),
    )

-- a data block is in the tree
module _ (w : Bytes) (h q k r : ℕ) (s : q ≡ above h r) (d : data_block w h k r ≡ 0 → ⊥) where
  data_spot : weigh (spot r (data_block w h k r)) w h q k ≡ 1
  data_spot = spot_is r (data_block w h k r) w h q k d s ∙ is_self (data_block w h k r)

  pub data_leaf : 1 ≤ weigh (leaves (data_block w h k r)) w h q k
  data_leaf = omega (arith, data_spot, leaves_split r (data_block w h k r) w h q k)

  pub data_has : 1 ≤ has w h q k (data_block w h k r)
  data_has = omega (arith, data_leaf, has_split w h q k (data_block w h k r))

-- nothing at or past the end
pub late_hole : (e : ℕ) (w : Bytes) (h q k r b : ℕ) → weigh (tardy e) w h q k ≡ 0 → e ≤ r → weigh (spot r b) w h q k ≡ 0
late_hole e w h q k r b z l = omega (arith, weigh_le (spot r b) (tardy e) w h q k (λ m s x _. go m s x))
  where
    go : (m s x : ℕ) → spot r b m s x ≤ tardy e m s x
    go zero s x = at (eqb r s) refl
      where
        at : (t : Bool) → eqb r s ≡ t → when t (is b x) 0 ≤ tardy e 0 s x
        at true t = unfold first_below in rw (le-leb e s (omega (arith, eqb-true r s t))) (omega (arith, is_most b x))
        at false t = omega arith
    go (suc m) s x = omega arith

-- where the spots of r stay, its data block does
pub same_data : (w : Bytes) (h q k : ℕ) (w' : Bytes) (h' q' k' r : ℕ) → ((b : ℕ) → weigh (spot r b) w' h' q' k' ≡ weigh (spot r b) w h q k)
    → q ≡ above h r → q' ≡ above h' r → data_block w' h' k' r ≡ data_block w h k r
same_data w h q k w' h' q' k' r A s t =
    by_zero (data_block w h k r)
    (λ z. by_zero (data_block w' h' k' r) (λ y. y ∙ sym z) (λ y.
    let b = data_block w' h' k' r in
    let d : b ≡ 0 → ⊥ = λ o. omega arith in
    absurd (omega (arith, spot_is r b w' h' q' k' d t, A b, is_self b, rw z at (spot_is r b w h q k d s), is_no b 0 d))))
    (λ y.
    let b = data_block w h k r in
    let d : b ≡ 0 → ⊥ = λ o. omega arith in
    sym (is_eq b (data_block w' h' k' r) (omega (arith, spot_is r b w h q k d s, spot_is r b w' h' q' k' d t, A b, is_self b))))

pub still_data : {n : ℕ} {w : Bytes} {h q k : ℕ} {w' : Bytes} → Still n w h q k w' → (r : ℕ) → q ≡ above h r → data_block w' h k r ≡ data_block w h k r
still_data {w = w} {h} {q} {k} {w'} A r s = same_data w h q k w' h q k r (λ b. A.weights (spot r b)) s s

-- two file blocks have two data blocks
pub data_apart : {n : ℕ} {w : Bytes} {h q k : ℕ} → Fit n w h q k → (r s : ℕ) → q ≡ above h r → q ≡ above h s → (r ≡ s → ⊥)
    → (data_block w h k r ≡ 0 → ⊥) → data_block w h k s ≡ data_block w h k r → ⊥
data_apart {w = w} {h} {q} {k} F r s m o d z e =
    let b = data_block w h k r in
    let all = has_split w h q k b in
    let two : weigh (spot s b) w h q k ≡ 1 = spot_is s b w h q k z o ∙ rw e (is_self b) in
    omega (
      arith,
      data_spot w h q k r m z,
      leaves_split r b w h q k,
      weigh_le (spot s b) (else_where r b) w h q k (λ l t x _. go l t x),
      F.apart b (F.range b (data_has w h q k r m z)),
    )
  where
    go : (l t x : ℕ) → spot s (data_block w h k r) l t x ≤ else_where r (data_block w h k r) l t x
    go zero t x = at (eqb r t) refl (eqb s t) refl
      where
        at : (u : Bool) → eqb r t ≡ u → (v : Bool) → eqb s t ≡ v → when v (is (data_block w h k r) x) 0 ≤ when u 0 (is (data_block w h k r) x)
        at true e true f = absurd (d (eqb-true r t e ∙ sym (eqb-true s t f)))
        at true e false f = omega arith
        at false e true f = omega arith
        at false e false f = omega arith
    go (suc l) t x = omega arith

-- Growth keeps each data block, its place and its bytes; new ones are zero.
pub grown_data : (w : Bytes) (h q k : ℕ) (w' : Bytes) (h' q' k' r : ℕ) → ((g : Gauge) → weigh g w h q k ≤ weigh g w' h' q' k')
    → q ≡ above h r → q' ≡ above h' r → (data_block w h k r ≡ 0 → ⊥) → data_block w' h' k' r ≡ data_block w h k r
grown_data w h q k w' h' q' k' r grows s t d =
    let b = data_block w h k r in
    sym (is_eq b (data_block w' h' k' r) (omega (arith, data_spot w h q k r s d, grows (spot r b), spot_is r b w' h' q' k' d t)))

module _ {n e : ℕ} {w : Bytes} {h q k : ℕ} {w' : Bytes} {h' q' k' : ℕ} (A : Work n e w h q k w' h' q' k') (F : Fit n w' h' q' k') where
  -- a data block of r that was not r's
  new_blank : (r : ℕ) → q' ≡ above h' r → (data_block w' h' k' r ≡ 0 → ⊥) → weigh (spot r (data_block w' h' k' r)) w h q k ≡ 0
      → Blank w' (data_block w' h' k' r)
  new_blank r t d z =
      let b = data_block w' h' k' r in
      A.fresh b (data_leaf w' h' q' k' r t d)
      (omega (
        arith,
        leaves_split r b w h q k,
        leaves_split r b w' h' q' k',
        data_spot w' h' q' k' r t d,
        A.grows (else_where r b),
        has_split w' h' q' k' b,
        F.apart b (F.range b (data_has w' h' q' k' r t d)),
      ))

-- Bytes of a file.
module _ (v : Bytes) (h k i : ℕ) where
  pub file_hole : data_block v h k (i / 512) ≡ 0 → file_byte v h k i ≡ 0
  unfolding file_byte
  file_hole e = rw (eq-eqb (data_block v h k (i / 512)) 0 e, file_byte) refl

  pub file_full : (data_block v h k (i / 512) ≡ 0 → ⊥) → file_byte v h k i ≡ v (data_block v h k (i / 512) * 512 + i % 512)
  unfolding file_byte
  file_full e = rw (ne_eqb (data_block v h k (i / 512)) 0 e, file_byte) refl

pub file_same : (w : Bytes) (h k : ℕ) (w' : Bytes) (h' k' i : ℕ) → data_block w' h' k' (i / 512) ≡ data_block w h k (i / 512)
    → ((data_block w h k (i / 512) ≡ 0 → ⊥) → Alike 512 w w' (data_block w h k (i / 512))) → file_byte w' h' k' i ≡ file_byte w h k i
file_same w h k w' h' k' i e f =
    by_zero (data_block w h k (i / 512)) (λ z. file_hole w' h' k' i (e ∙ z) ∙ sym (file_hole w h k i z))
    (λ p.
    let d : data_block w h k (i / 512) ≡ 0 → ⊥ = λ t. omega arith in
    file_full w' h' k' i (λ t. d (sym e ∙ t)) ∙ rw e (f d (i % 512) (omega arith)) ∙ sym (file_full w h k i d))

module _ {n e : ℕ} {w : Bytes} {h q k : ℕ} {w' : Bytes} {h' q' k' : ℕ} (A : Work n e w h q k w' h' q' k') (F : Fit n w' h' q' k') (i : ℕ) (t : q' ≡ above h' (i / 512)) where
  -- what was no part of the file reads as zero
  pub work_zero : ((b : ℕ) → (b ≡ 0 → ⊥) → weigh (spot (i / 512) b) w h q k ≡ 0) → file_byte w' h' k' i ≡ 0
  work_zero z =
      by_zero (data_block w' h' k' (i / 512)) (file_hole w' h' k' i)
      (λ p.
      let d : data_block w' h' k' (i / 512) ≡ 0 → ⊥ = λ y. omega arith in
      file_full w' h' k' i d ∙ new_blank A F (i / 512) t d (z (data_block w' h' k' (i / 512)) d) (i % 512) (omega arith))

  -- and what was reads the same
  pub work_byte : q ≡ above h (i / 512) → file_byte w' h' k' i ≡ file_byte w h k i
  work_byte s =
      by_zero (data_block w h k (i / 512))
      (λ z. work_zero (λ b d. spot_is (i / 512) b w h q k d s ∙ rw z (is_no b 0 d)) ∙ sym (file_hole w h k i z))
      (λ p.
      let d : data_block w h k (i / 512) ≡ 0 → ⊥ = λ y. omega arith in
      file_same w h k w' h' k' i (grown_data w h q k w' h' q' k' (i / 512) A.grows s t d)
      (λ _. A.data_kept (data_block w h k (i / 512)) (data_leaf w h q k (i / 512) s d)))
