-- The value of a good field is at most what its form allows, and no later field overwrites it. Assumes nothing.
use mathlib.Core.Path.{◌≡◌, refl, sym, ap, subst, ◌∙◌}
use mathlib.Core.Bool.{Bool, true, false}
use mathlib.Core.List.{List}
use Prim.Native.Nat.{ℕ, zero, suc, ◌+◌, ◌-◌, ◌*◌, ◌/◌, ◌%◌, ◌≤◌, ◌<◌}
use lib.ListN.{length, drop}
use native.Mathlib.Omega.{arith}
use lib.Dec.{eqb, leb}
use borrow.Author.Tests.{eqb-true, leb-true, ne_eqb}
use Rattle.std.proofs.Common.{Option, Some, None}
use Rattle.std.specs.Option.{IfSome}
use Rattle.model.specs.Bytes.{Bytes, view, put}
use Rattle.model.specs.Catalog.{space'}
use Rattle.model.proofs.ByteLaws.{at_or_off, put_at, put_off}
use Rattle.script.specs.Fields.{largest, text_most, equals, end_at, field, digit_value, at_most, decimal_from, number_value, half_value, pair_value, byte_value, all_digits, pairs_size, all_plain, plain_size, is_dash, data_size, text_size, sized, field_value, Fields, nowhere, valued, read_field, read_fields, form_most, Fits}
use Rattle.script.proofs.FieldLaws.{most_or_more, inside_or_not, digit_low, digit_capital, digit_small, digit_none, number_in, number_out, pair_good, pair_high, pair_low, byte_two, byte_not, size_odd, size_many, size_other, size_past, size_good, plain_many, plain_other, plain_good, data_empty, data_dash, data_pairs, text_empty, text_dash, text_pairs, text_plain}
use Rattle.script.proofs.FormLaws.{read_past, read_in}

true_or_false : {P : Type 0} (b : Bool) → (b ≡ true → P) → (b ≡ false → P) → P
true_or_false true t f = t refl
true_or_false false t f = f refl

-- a value, where there is one, is at most m
abbrev pub Below : ℕ → Option ℕ → Type 0
Below m r = IfSome r (λ v. v ≤ m)

by_none : (m : ℕ) {r : Option ℕ} → r ≡ None → Below m r
by_none m e = subst (Below m) (sym e) tt

by_some : (m : ℕ) {r : Option ℕ} (v : ℕ) → r ≡ Some v → v ≤ m → Below m r
by_some m v e p = subst (Below m) (sym e) p

by_other : (m : ℕ) {r t : Option ℕ} → r ≡ t → Below m t → Below m r
by_other m e p = subst (Below m) (sym e) p

capped : (m : ℕ) (r : Option ℕ) → Below m (at_most m r)
unfolding at_most
capped m None = tt
capped m (Some x) = go (leb x m) refl
  where
    go : (t : Bool) → leb x m ≡ t → Below m (elim t [ true ↦ Some x | false ↦ None ])
    go true e = leb-true x m e
    go false e = tt

digit_most : (c : ℕ) → Below 15 (digit_value c)
digit_most c =
    inside_or_not 48 57 c (λ p q. by_some 15 (c - 48) (digit_low c p q) (omega arith))
    (λ a. inside_or_not 65 70 c (λ p q. by_some 15 (c - 55) (digit_capital c p q) (omega arith))
    (λ b. inside_or_not 97 102 c (λ p q. by_some 15 (c - 87) (digit_small c p q) (omega arith)) (λ d. by_none 15 (digit_none c a b d))))

pair_most : (c d : ℕ) → Below 255 (pair_value c d)
pair_most c d = go (digit_value c) (digit_value d) refl refl (digit_most c) (digit_most d)
  where
    go : (p q : Option ℕ) → p ≡ digit_value c → q ≡ digit_value d → Below 15 p → Below 15 q → Below 255 (pair_value c d)
    go None q e f a b = by_none 255 (sym (pair_high c d e))
    go (Some x) None e f a b = by_none 255 (sym (pair_low c d f))
    go (Some x) (Some y) e f a b = by_some 255 (16 * x + y) (sym (pair_good c d x y e f)) (omega arith)

module _ (cs : List ℕ) where
  number_most : Below largest (number_value cs)
  number_most =
      inside_or_not 1 10 (length cs) (λ p q. by_other largest (number_in cs p q) (capped largest (decimal_from 0 cs))) (λ n. by_none largest (number_out cs n))

  half_most : Below 65535 (half_value cs)
  unfolding half_value
  half_most = capped 65535 (number_value cs)

  byte_most : Below 255 (byte_value cs)
  byte_most = at_or_off (length cs) 2 (λ e. by_other 255 (byte_two cs e) (pair_most (view cs 0) (view cs 1))) (λ n. by_none 255 (byte_not cs n))

  pairs_most : (most : ℕ) → Below most (pairs_size cs most)
  pairs_most most =
      most_or_more (length cs / 2) largest
      (λ p. at_or_off (length cs % 2) 0
      (λ e. most_or_more (length cs / 2) most
      (λ l. true_or_false (all_digits cs) (λ t. by_some most (length cs / 2) (size_good cs most e l t p) l) (λ f. by_none most (size_other cs most f)))
      (λ g. by_none most (size_many cs most g)))
      (λ n. by_none most (size_odd cs most n)))
      (λ g. by_none most (size_past cs most g))

  plain_most : Below text_most (plain_size cs)
  plain_most =
      most_or_more (length cs) text_most
      (λ l. true_or_false (all_plain cs) (λ t. by_some text_most (length cs) (plain_good cs l t) l) (λ f. by_none text_most (plain_other cs f)))
      (λ g. by_none text_most (plain_many cs g))

  data_most : (most : ℕ) → Below most (data_size cs most)
  data_most most =
      at_or_off (length cs) 0 (λ e. by_none most (data_empty cs most e))
      (λ n. true_or_false (is_dash cs) (λ t. by_some most 0 (data_dash cs most n t) (omega arith)) (λ f. by_other most (data_pairs cs most n f) (pairs_most most)))

text_most_law : (cs : List ℕ) → Below text_most (text_size cs)
text_most_law cs =
    at_or_off (length cs) 0 (λ e. by_none text_most (text_empty cs e))
    (λ n. true_or_false (is_dash cs) (λ t. by_some text_most 0 (text_dash cs n t) (omega arith))
    (λ f. at_or_off (view cs 0) equals
    (λ e. by_other text_most (text_pairs cs n f e) (pairs_most (drop 1 cs) text_most))
    (λ m. by_other text_most (text_plain cs n f m) (plain_most cs))))

pub text_sized : (cs : List ℕ) → sized (text_size cs) ≤ text_most
text_sized cs = go (text_size cs) (text_most_law cs)
  where
    go : (r : Option ℕ) → Below text_most r → sized r ≤ text_most
    go None p = omega arith
    go (Some x) p = p

-- the forms that have a number's largest value
form_rest : (most form : ℕ) → (form ≡ 72 → ⊥) → (form ≡ 66 → ⊥) → (form ≡ 68 → ⊥) → (form ≡ 84 → ⊥) → (form ≡ 83 → ⊥)
    → form_most most form ≡ largest
form_rest most form h b d t u = rw (ne_eqb form 72 h, ne_eqb form 66 b, ne_eqb form 68 d, ne_eqb form 84 t, ne_eqb form 83 u, form_most)

value_rest : (cs : List ℕ) (most form : ℕ) → (form ≡ 72 → ⊥) → (form ≡ 66 → ⊥) → (form ≡ 68 → ⊥) → (form ≡ 84 → ⊥) → (form ≡ 83 → ⊥)
    → Below largest (field_value cs most form)
unfolding field_value
value_rest cs most form h b d t u =
    at_or_off form 78 (λ e. rw e (number_most cs))
    (λ n. rw (ne_eqb form 78 n, ne_eqb form 72 h, ne_eqb form 66 b, ne_eqb form 68 d, ne_eqb form 84 t, ne_eqb form 83 u, field_value) tt)

field_most : (cs : List ℕ) (most form : ℕ) → Below (form_most most form) (field_value cs most form)
unfolding field_value
field_most cs most form =
    at_or_off form 72 (λ e. rw e (half_most cs))
    (λ h. at_or_off form 66 (λ e. rw e (byte_most cs))
    (λ b. at_or_off form 68 (λ e. rw e (data_most cs most))
    (λ d. at_or_off form 84 (λ e. rw e (text_most_law cs))
    (λ t. at_or_off form 83 (λ e. rw e (text_most_law cs)) (λ u. rw (form_rest most form h b d t u) (value_rest cs most form h b d t u))))))

module _ (s : Bytes) (n most : ℕ) where
  -- A field is lost, or its value, at most what its form allows, is put at its place.
  one_field : {P : Type 0} (form i : ℕ) (f : Fields)
      → ((read_field s n most form i f).at ≡ nowhere → (read_field s n most form i f).values ≡ f.values → P)
      → ((v : ℕ) → v ≤ form_most most form → (read_field s n most form i f).values ≡ put f.values i v → P) → P
  one_field {P} form i f off on =
      most_or_more n f.at
      (λ p. let g = read_past s n most form i f p in off (ap (λ h. h.at) g) (ap (λ h. h.values) g))
      (λ p. go p (field_value cs most form) refl (field_most cs most form))
    where
      e : ℕ
      e = end_at s n space' (f.at + 1)

      cs : List ℕ
      cs = field s (f.at + 1) (e - (f.at + 1))

      go : f.at < n → (r : Option ℕ) → field_value cs most form ≡ r → Below (form_most most form) r → P
      go p None q b =
          let g = read_in s n most form i f e cs refl refl p ∙ ap (valued cs most form i e f) q in
          off (ap (λ h. h.at) g) (ap (λ h. h.values) g)
      go p (Some v) q b =
          let g = read_in s n most form i f e cs refl refl p ∙ ap (valued cs most form i e f) q in
          on v b (ap (λ h. h.values) g)

  one_kept : (form i j : ℕ) (f : Fields) → (j ≡ i → ⊥) → (read_field s n most form i f).values j ≡ f.values j
  one_kept form i j f h =
      one_field form i f (λ e g. ap (λ w. w j) g) (λ v m g. ap (λ w. w j) g ∙ put_off f.values i v j h)

  module _ (forms : Bytes) where
    kept : (k i j : ℕ) (f : Fields) → j < i → (read_fields s n most forms i k f).values j ≡ f.values j
    unfolding read_fields
    kept zero i j f h = refl
    kept (suc k) i j f h =
        kept k (i + 1) j (read_field s n most (forms i) i f) (omega arith) ∙ one_kept (forms i) i j f (λ e. omega arith)

    stays : (k i : ℕ) (f : Fields) → n ≤ nowhere → f.at ≡ nowhere → (read_fields s n most forms i k f).at ≡ nowhere
    unfolding read_fields
    stays zero i f l e = e
    stays (suc k) i f l e =
        stays k (i + 1) (read_field s n most (forms i) i f) l (ap (λ h. h.at) (read_past s n most (forms i) i f (omega arith)))

    fits_from : (k i : ℕ) (f : Fields) → n < nowhere → (read_fields s n most forms i k f).at ≡ n
        → (j : ℕ) → i ≤ j → j < i + k → (read_fields s n most forms i k f).values j ≤ form_most most (forms j)
    unfolding read_fields
    fits_from zero i f l e j p q = absurd (omega arith)
    fits_from (suc k) i f l e j p q =
        let g = read_field s n most (forms i) i f in
        one_field (forms i) i f
        (λ off w. absurd (omega (arith, stays k (i + 1) g (omega arith) off)))
        (λ v m w. at_or_off j i
        (λ at. rw at (rw (kept k (i + 1) i g (omega arith) ∙ ap (λ h. h i) w ∙ put_at f.values i v) m))
        (λ off. fits_from k (i + 1) g l e j (omega (arith, off)) (omega arith)))

    -- where the line of n bytes ends behind the last field, each value fits its form
    pub fits : (k : ℕ) (f g : Fields) → n < nowhere → g ≡ read_fields s n most forms 0 k f → eqb g.at n ≡ true → Fits most forms k g.values
    fits k f g l e t j p =
        rw e (fits_from k 0 f l (ap (λ h. h.at) (sym e) ∙ eqb-true _ _ t) j (omega arith) (omega arith))
