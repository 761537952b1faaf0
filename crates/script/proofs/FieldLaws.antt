-- One step of each definition of a field, case by case, for the functions that read one. Assumes nothing.
use mathlib.Core.Path.{◌≡◌, refl, sym, ap, ◌∙◌}
use mathlib.Core.Bool.{Bool, true, false, false≢true, ◌&&◌}
use mathlib.Core.Logic.{inl, inr, ◌≢◌}
use mathlib.Core.List.{List, [], ◌∷◌, ◌++◌}
use Prim.Native.Nat.{ℕ, suc, ◌+◌, ◌-◌, ◌*◌, ◌/◌, ◌%◌, ◌^◌, ◌≤◌, ◌<◌}
use lib.Dec.{eqb, leb}
use lib.ListN.{length, drop, take, get_or, length-drop, get_or-append}
use Rattle.std.proofs.lemmas.List.{length-append, drop-drop, get_or-drop, take_all}
use lib.Pointwise.{pointwise}
use lib.Seq.{length-take-le}
use native.Mathlib.Omega.{arith}
use native.Mathlib.Nat.{pow-le-pow_right}
use borrow.Author.Tests.{leb-true, leb-false, eq-eqb, ne_eqb, le-leb, lt-leb, lt-ltb, le-ltb}
use Rattle.std.specs.Bool.{MatchBool}
use Rattle.std.specs.Option.{MatchOption, SomeIff}
use Rattle.std.proofs.Common.{Option, Some, None, add-one}
use Rattle.std.proofs.Math.Seq.{drop-cons, drop-append-add}
use Rattle.std.proofs.lemmas.List.{ext_get_or, drop_all}
use Rattle.std.specs.Char as char
use Rattle.std.specs.Int.{is_in_range}
use Rattle.std.proofs.lemmas.List.Folds.{list_all_at}
use Rattle.std.specs.Cmp.Lexicographic.{told_text}
use Rattle.model.specs.Bytes.{Bytes, view, paste, equal_bytes, ◌and◌, within}
use Rattle.model.proofs.TestLaws.{and_off}
use Rattle.model.proofs.ByteLaws.{at_or_off, paste_none, view_take, equal_all, equal_at}
use Rattle.model.proofs.Laws.Spelling.{within_in}
use Rattle.script.specs.Fields.{largest, text_most, equals, is_word, digit_value, at_most, decimal_from, number_value, pair_value, byte_value, all_digits, pairs, pairs_size, all_plain, plain_size, is_dash, data_size, text_size, sized}

-- a number is at most another, or above it
pub most_or_more : {P : Type 0} (a b : ℕ) → (a ≤ b → P) → (b < a → P) → P
most_or_more {P} a b most more = go (leb a b) refl
  where
    go : (t : Bool) → leb a b ≡ t → P
    go true e = most (leb-true a b e)
    go false e = more (leb-false a b e)

pub inside_or_not : {P : Type 0} (low high x : ℕ) → (low ≤ x → x ≤ high → P) → ((low ≤ x → x ≤ high → ⊥) → P) → P
inside_or_not low high x inside out =
    most_or_more low x (λ p. most_or_more x high (λ q. inside p q) (λ q. out (λ u v. omega arith))) (λ p. out (λ u v. omega arith))

within_out : (low high x : ℕ) → (low ≤ x → x ≤ high → ⊥) → within low high x ≡ false
unfolding within ◌and◌
within_out low high x n =
    most_or_more low x
    (λ p. most_or_more x high (λ q. absurd (n p q)) (λ q. rw (lt-leb x high q, and_off)))
    (λ p. rw (lt-leb low x p))

-- a line's word
module _ (s : Bytes) (n e : ℕ) (w : Bytes) (k : ℕ) where
  word_other : (e ≡ k → ⊥) → is_word s n e w k ≡ false
  unfolding is_word ◌and◌
  word_other h = rw (ne_eqb _ _ h)

  pub word_past : n < e → is_word s n e w k ≡ false
  unfolding is_word ◌and◌
  word_past h = rw (lt-leb _ _ h, and_off)

  word_when : e ≡ k → e ≤ n → is_word s n e w k ≡ equal_bytes s 0 w 0 e
  unfolding is_word ◌and◌
  word_when p h = rw (eq-eqb _ _ p, le-leb _ _ h)

pub word_by : (l w : List ℕ) (e : ℕ) → e ≤ length l → pointwise eqb (take e l) w ≡ is_word (view l) (length l) e (view w) (length w)
word_by l w e h = go (pointwise eqb (take e l) w) (told_text (take e l) w _ refl)
  where
    front : length (take e l) ≡ e
    front = length-take-le e l h

    same : take e l ≡ w → (i : ℕ) → i < e → view l (0 + i) ≡ view w (0 + i)
    same p i q = let z : 0 + i ≡ i = omega arith in rw z (sym (view_take e l i q) ∙ ap (λ x. view x i) p)

    go : (t : Bool) → MatchBool t (take e l ≡ w) (take e l ≢ w) → t ≡ is_word (view l) (length l) e (view w) (length w)
    go true p =
        sym (word_when (view l) (length l) e (view w) (length w) (sym front ∙ ap length p) h ∙ equal_all (view l) 0 (view w) 0 e (same p))
    go false n =
        at_or_off e (length w)
        (λ q. sym (word_when (view l) (length l) e (view w) (length w) q h ∙ differ q (equal_bytes (view l) 0 (view w) 0 e) refl))
        (λ m. sym (word_other (view l) (length l) e (view w) (length w) m))
      where
        differ : e ≡ length w → (t : Bool) → equal_bytes (view l) 0 (view w) 0 e ≡ t → t ≡ false
        differ q false d = refl
        differ q true d =
            absurd (n (ext_get_or 0 (take e l) w (front ∙ q) (λ i p. let z : 0 + i ≡ i = omega arith in view_take e l i (omega (arith, front)) ∙ rw z at (equal_at (view l) 0 (view w) 0 e d i (omega (arith, front))))))

-- a hex digit
module _ (c : ℕ) where
  pub digit_low : 48 ≤ c → c ≤ 57 → digit_value c ≡ Some (c - 48)
  unfolding digit_value
  digit_low p q = rw (within_in 48 57 c p q, digit_value)

  pub digit_capital : 65 ≤ c → c ≤ 70 → digit_value c ≡ Some (c - 55)
  unfolding digit_value
  digit_capital p q = rw (within_out 48 57 c (λ u v. omega arith), within_in 65 70 c p q, digit_value)

  pub digit_small : 97 ≤ c → c ≤ 102 → digit_value c ≡ Some (c - 87)
  unfolding digit_value
  digit_small p q =
      rw (within_out 48 57 c (λ u v. omega arith), within_out 65 70 c (λ u v. omega arith), within_in 97 102 c p q, digit_value)

  pub digit_none : (48 ≤ c → c ≤ 57 → ⊥) → (65 ≤ c → c ≤ 70 → ⊥) → (97 ≤ c → c ≤ 102 → ⊥) → digit_value c ≡ None
  unfolding digit_value
  digit_none p q r = rw (within_out 48 57 c p, within_out 65 70 c q, within_out 97 102 c r, digit_value)

  capital_code : 65 ≤ c → c ≤ 70 → char.digit_value c ≡ c - 55
  capital_code p q =
      rw (le-ltb c 48 (omega arith), le-ltb c 58 (omega arith), le-ltb c 65 (omega arith), lt-ltb c 91 (omega arith), char.digit_value)

  small_code : 97 ≤ c → c ≤ 102 → char.digit_value c ≡ c - 87
  small_code p q =
      rw (le-ltb c 48 (omega arith), le-ltb c 58 (omega arith), le-ltb c 65 (omega arith), le-ltb c 91 (omega arith), le-ltb c 97 (omega arith), lt-ltb c 123 (omega arith), char.digit_value)

  -- what `to_digit` answers
  pub digit_by : (r : Option ℕ) → SomeIff r (char.digit_value c < 16) (char.digit_value c)
      → MatchOption r (char.NotDecimalDigitIn 16 c) (char.IsDigitOf c) → r ≡ digit_value c
  digit_by None n m =
      sym (digit_none (λ p q. omega (arith, m p q)) (λ p q. n (omega (arith, capital_code p q))) (λ p q. n (omega (arith, small_code p q))))
  digit_by (Some d) t (inl h) = let e : c - 48 ≡ d = omega arith in sym (digit_low (omega arith) (omega arith) ∙ ap Some e)
  digit_by (Some d) t (inr (inl h)) = let e : c - 55 ≡ d = omega arith in sym (digit_capital (omega arith) (omega arith) ∙ ap Some e)
  digit_by (Some d) t (inr (inr h)) = let e : c - 87 ≡ d = omega arith in sym (digit_small (omega arith) (omega arith) ∙ ap Some e)

  pub decimal_digit : (d : ℕ) → d < 10 → char.IsDigitOf c d → (48 ≤ c) × ((c ≤ 57) × (d ≡ c - 48))
  decimal_digit d t (inl h) = (omega arith, (omega arith, omega arith))
  decimal_digit d t (inr (inl h)) = absurd (omega arith)
  decimal_digit d t (inr (inr h)) = absurd (omega arith)

-- a number
decimal_step : (c : ℕ) (cs : List ℕ) (x d : ℕ) → 48 ≤ c → c ≤ 57 → d ≡ c - 48 → decimal_from x (c ∷ cs) ≡ decimal_from (10 * x + d) cs
unfolding decimal_from
decimal_step c cs x d p q e = rw (within_in 48 57 c p q, e, decimal_from)

module _ (cs : List ℕ) (i x : ℕ) where
  pub decimal_more : (d : ℕ) → i < length cs → (48 ≤ view cs i) × ((view cs i ≤ 57) × (d ≡ view cs i - 48))
      → decimal_from x (drop i cs) ≡ decimal_from (10 * x + d) (drop (i + 1) cs)
  decimal_more d h t =
      ap (decimal_from x) (drop-cons cs i 0 h) ∙ decimal_step (view cs i) (drop (suc i) cs) x d t.0 t.1.0 t.1.1
      ∙ ap (λ n. decimal_from (10 * x + d) (drop n cs)) (sym (add-one i))

  pub decimal_not : i < length cs → (48 ≤ view cs i → view cs i ≤ 57 → ⊥) → decimal_from x (drop i cs) ≡ None
  unfolding decimal_from
  decimal_not h n = rw (drop-cons cs i 0 h, within_out 48 57 (view cs i) n, decimal_from)

  pub decimal_none : length cs ≤ i → decimal_from x (drop i cs) ≡ Some x
  unfolding decimal_from
  decimal_none h = rw (drop_all i cs h, decimal_from)

-- k digits say less than a power of ten
pub tens_more : (v d k : ℕ) → v < 10 ^ k → d ≤ 9 → 10 * v + d < 10 ^ (k + 1)
tens_more v d k p q = rw add-one (omega arith)

pub tens_most : (v k : ℕ) → v < 10 ^ k → k ≤ 9 → v < 1000000000
tens_most v k p q = let u : 10 ^ k ≤ 10 ^ 9 = pow-le-pow_right (omega arith) q in omega arith

module _ (cs : List ℕ) where
  pub number_in : 1 ≤ length cs → length cs ≤ 10 → number_value cs ≡ at_most largest (decimal_from 0 cs)
  unfolding number_value
  number_in p q = rw (within_in 1 10 (length cs) p q, number_value)

  pub number_out : (1 ≤ length cs → length cs ≤ 10 → ⊥) → number_value cs ≡ None
  unfolding number_value
  number_out n = rw (within_out 1 10 (length cs) n, number_value)

-- two hex digits
pub pair_good : (c d x y : ℕ) → Some x ≡ digit_value c → Some y ≡ digit_value d → Some (16 * x + y) ≡ pair_value c d
unfolding pair_value
pair_good c d x y p q = rw (← p, ← q, pair_value) refl

pub pair_high : (c d : ℕ) → None ≡ digit_value c → None ≡ pair_value c d
unfolding pair_value
pair_high c d p = rw (← p, pair_value) refl

pub pair_low : (c d : ℕ) → None ≡ digit_value d → None ≡ pair_value c d
unfolding pair_value
pair_low c d q = go (digit_value c) refl
  where
    go : (r : Option ℕ) → r ≡ digit_value c → None ≡ pair_value c d
    go (Some x) p = rw (← p, ← q, pair_value) refl
    go None p = pair_high c d p

pub byte_two : (cs : List ℕ) → length cs ≡ 2 → byte_value cs ≡ pair_value (view cs 0) (view cs 1)
unfolding byte_value
byte_two cs e = rw (eq-eqb _ _ e, byte_value)

pub byte_not : (cs : List ℕ) → (length cs ≡ 2 → ⊥) → byte_value cs ≡ None
unfolding byte_value
byte_not cs n = rw (ne_eqb _ _ n, byte_value)

-- where all bytes are hex digits, each pair says a byte
abbrev pub Says : Option ℕ → Type 0
Says r = (v : ℕ) × (Some v ≡ r)

range_out : (low high x : ℕ) → (low ≤ x → x ≤ high → ⊥) → is_in_range low high x ≡ false
range_out low high x n =
    most_or_more low x (λ p. most_or_more x high (λ q. absurd (n p q)) (λ q. rw (le-leb low x p, lt-leb x high q))) (λ p. rw (lt-leb low x p))

digit_says : (c : ℕ) → char.is_ascii_hexdigit c ≡ true → Says (digit_value c)
digit_says c e =
    inside_or_not 48 57 c (λ p q. (c - 48, sym (digit_low c p q)))
    (λ a. inside_or_not 65 70 c (λ p q. (c - 55, sym (digit_capital c p q)))
    (λ b. inside_or_not 97 102 c (λ p q. (c - 87, sym (digit_small c p q)))
    (λ d. absurd (false≢true (sym (rw (range_out 48 57 c a, range_out 65 70 c b, range_out 97 102 c d)) ∙ e)))))

at_says : (cs : List ℕ) (i : ℕ) → all_digits cs ≡ true → i < length cs → Says (digit_value (view cs i))
at_says cs i e h = go (char.is_ascii_hexdigit (view cs i)) refl
  where
    go : (t : Bool) → char.is_ascii_hexdigit (view cs i) ≡ t → Says (digit_value (view cs i))
    go true p = digit_says (view cs i) p
    go false p = absurd (false≢true (sym (list_all_at char.is_ascii_hexdigit cs i 0 h p) ∙ e))

-- the next two of some bytes
module _ (cs : List ℕ) (i : ℕ) (x t : List ℕ) (e : drop (2 * i) cs ≡ x ++ t) (two : length x ≡ 2) (h : 2 * i ≤ length cs) where
  pub pair_fits : 2 * (i + 1) ≤ length cs
  pair_fits = omega (arith, length-drop (2 * i) cs, ap length e, length-append x t)

  pub pair_next : t ≡ drop (2 * (i + 1)) cs
  pair_next =
      let k : length x + 0 ≡ 2 = omega arith in
      let m : 2 * (i + 1) ≡ 2 * i + 2 = omega arith in
      sym (drop-append-add x t 0) ∙ ap (λ n. drop n (x ++ t)) k ∙ ap (drop 2) (sym e) ∙ drop-drop 2 (2 * i) cs ∙ ap (λ n. drop n cs) (sym m)

  pair_first : view x 0 ≡ view cs (2 * i)
  pair_first =
      let k : 2 * i + 0 ≡ 2 * i = omega arith in
      sym (get_or-append x t 0 0 (omega arith)) ∙ ap (λ l. get_or l 0 0) (sym e) ∙ get_or-drop (2 * i) cs 0 0 ∙ ap (view cs) k

  pair_second : view x 1 ≡ view cs (2 * i + 1)
  pair_second = sym (get_or-append x t 0 1 (omega arith)) ∙ ap (λ l. get_or l 1 0) (sym e) ∙ get_or-drop (2 * i) cs 1 0

  pub pair_known : all_digits cs ≡ true → Says (pair_value (view x 0) (view x 1))
  pair_known d =
      let a = at_says cs (2 * i) d (omega (arith, pair_fits)) in
      let b = at_says cs (2 * i + 1) d (omega (arith, pair_fits)) in
      rw (pair_first, pair_second) (16 * a.0 + b.0, pair_good (view cs (2 * i)) (view cs (2 * i + 1)) a.0 b.0 a.1 b.1)

  pub pair_says : sized (pair_value (view x 0) (view x 1)) ≡ pairs cs i
  unfolding pairs
  pair_says = ap (λ c. sized (pair_value c (view x 1))) pair_first ∙ ap (λ d. sized (pair_value (view cs (2 * i)) d)) pair_second

-- pairs of hex digits
module _ (cs : List ℕ) (most : ℕ) where
  pub size_odd : (length cs % 2 ≡ 0 → ⊥) → pairs_size cs most ≡ None
  unfolding pairs_size ◌and◌
  size_odd n = rw (ne_eqb _ _ n, pairs_size)

  pub size_many : most < length cs / 2 → pairs_size cs most ≡ None
  unfolding pairs_size ◌and◌
  size_many p = at_or_off (length cs % 2) 0 (λ e. rw (eq-eqb _ _ e, lt-leb _ _ p, pairs_size)) (λ n. size_odd n)

  pub size_other : all_digits cs ≡ false → pairs_size cs most ≡ None
  unfolding pairs_size ◌and◌
  size_other e = rw (e, and_off (leb (length cs / 2) most), and_off (eqb (length cs % 2) 0), pairs_size)

  pub size_past : largest < length cs / 2 → pairs_size cs most ≡ None
  unfolding pairs_size
  size_past p = rw (lt-leb _ _ p, and_off, and_off, and_off, pairs_size)

  pub size_good : length cs % 2 ≡ 0 → length cs / 2 ≤ most → all_digits cs ≡ true → length cs / 2 ≤ largest → pairs_size cs most ≡ Some (length cs / 2)
  unfolding pairs_size ◌and◌
  size_good p q e l = rw (eq-eqb _ _ p, le-leb _ _ q, e, le-leb _ _ l, pairs_size)

  -- at any length: half as many bytes, or none where no number is that large
  pub size_even : length cs % 2 ≡ 0 → length cs / 2 ≤ most → all_digits cs ≡ true → pairs_size cs most ≡ at_most largest (Some (length cs / 2))
  unfolding at_most
  size_even p q e =
      most_or_more (length cs / 2) largest
      (λ l. rw (le-leb _ _ l, at_most) (size_good p q e l))
      (λ l. rw (lt-leb _ _ l, at_most) (size_past l))

-- bytes for themselves
module _ (cs : List ℕ) where
  pub plain_many : text_most < length cs → plain_size cs ≡ None
  unfolding plain_size ◌and◌
  plain_many p = rw (lt-leb _ _ p, plain_size)

  pub plain_other : all_plain cs ≡ false → plain_size cs ≡ None
  unfolding plain_size
  plain_other e = rw (e, and_off, plain_size)

  pub plain_good : length cs ≤ text_most → all_plain cs ≡ true → plain_size cs ≡ Some (length cs)
  unfolding plain_size ◌and◌
  plain_good p e = rw (le-leb _ _ p, e, plain_size)

-- a dash alone
pub dash_by : (cs : List ℕ) → pointwise eqb cs (45 ∷ []) ≡ is_dash cs
unfolding is_dash ◌and◌
dash_by [] = refl
dash_by (c ∷ []) = go (eqb c 45)
  where
    go : (t : Bool) → (t && true) ≡ t
    go true = refl
    go false = refl
dash_by (c ∷ d ∷ cs) = go (eqb c 45) ∙ sym (ap (λ t. t and eqb c 45) (ne_eqb (length (c ∷ d ∷ cs)) 1 (λ e. omega arith)))
  where
    go : (t : Bool) → (t && false) ≡ false
    go true = refl
    go false = refl

-- what stands behind the first byte
pub rest_is : (cs : List ℕ) → take (length cs - 1) (drop 1 cs) ≡ drop 1 cs
rest_is cs = take_all (length cs - 1) (drop 1 cs) (omega (arith, length-drop 1 cs))

-- data, and a text
module _ (cs : List ℕ) (most : ℕ) where
  pub data_empty : length cs ≡ 0 → data_size cs most ≡ None
  unfolding data_size
  data_empty e = rw (eq-eqb _ _ e, data_size)

  pub data_dash : (length cs ≡ 0 → ⊥) → is_dash cs ≡ true → data_size cs most ≡ Some 0
  unfolding data_size
  data_dash n e = rw (ne_eqb _ _ n, e, data_size)

  pub data_pairs : (length cs ≡ 0 → ⊥) → is_dash cs ≡ false → data_size cs most ≡ pairs_size cs most
  unfolding data_size
  data_pairs n e = rw (ne_eqb _ _ n, e, data_size)

module _ (cs : List ℕ) where
  pub text_empty : length cs ≡ 0 → text_size cs ≡ None
  unfolding text_size
  text_empty e = rw (eq-eqb _ _ e, text_size)

  pub text_dash : (length cs ≡ 0 → ⊥) → is_dash cs ≡ true → text_size cs ≡ Some 0
  unfolding text_size
  text_dash n e = rw (ne_eqb _ _ n, e, text_size)

  pub text_pairs : (length cs ≡ 0 → ⊥) → is_dash cs ≡ false → view cs 0 ≡ equals → text_size cs ≡ pairs_size (drop 1 cs) text_most
  unfolding text_size
  text_pairs n d e = rw (ne_eqb _ _ n, d, eq-eqb _ _ e, text_size)

  pub text_plain : (length cs ≡ 0 → ⊥) → is_dash cs ≡ false → (view cs 0 ≡ equals → ⊥) → text_size cs ≡ plain_size cs
  unfolding text_size
  text_plain n d e = rw (ne_eqb _ _ n, d, ne_eqb _ _ e, text_size)

-- a size that is bad, or none, puts nothing down
pub paste_bad : (f : Bytes) (a : ℕ) (r : Option ℕ) (g : Bytes) → sized r ≡ 0 → f ≡ paste f a (sized r) g
paste_bad f a r g e = rw e (sym (paste_none f a g))
