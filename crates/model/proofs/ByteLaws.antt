-- The laws of bytes by address: stores, runs, parts of a slice, and numbers of two and three bytes. Assumes nothing.
-- Arguments come in the order of the definitions. A place that a store leaves alone is said by a refutation, for omega.
use mathlib.Core.Path.{◌≡◌, refl, sym, ap, ◌∙◌, fun_ext}
use mathlib.Core.List.{List, ◌++◌}
use mathlib.Core.Bool.{Bool, true, false, false≢true}
use Prim.Native.Nat.{ℕ, zero, suc, ◌+◌, ◌-◌, ◌/◌, ◌%◌, ◌^◌, ◌≤◌, ◌<◌}
use lib.ListN.{length, set, take, drop, get_or-append, length-drop}
use lib.Seq.{get_or-set_same, get_or-set_other, get_or-take, get_or-drop, get_or-append-add, length-take-le}
use lib.Dec.{eqb, leb, ltb}
use native.Mathlib.Omega.{arith}
use borrow.Author.Tests.{eqb-true, eqb-false, ltb-true, ltb-false, leb-true, leb-false, eq-eqb, ne_eqb, le-leb, lt-ltb}
use Rattle.model.specs.Bytes.{Bytes, view, Octets, put, paste, from, zeros, clear, digit, word, long, put_word, put_long, equal_bytes, place_of}
use Rattle.model.specs.Map.{all_zero}

-- two sources agree below k
abbrev pub Agree : ℕ → Bytes → Bytes → Type 0
Agree k f g = (i : ℕ) → i < k → f i ≡ g i

-- An address is a or not; it is in the k bytes from a on or not.
pub at_or_off : {P : Type 0} (i a : ℕ) → (i ≡ a → P) → ((i ≡ a → ⊥) → P) → P
at_or_off {P} i a at off = go (eqb i a) refl
  where
    go : (b : Bool) → eqb i a ≡ b → P
    go true e = at (eqb-true i a e)
    go false e = off (eqb-false i a e)

pub in_or_out : {P : Type 0} (a k i : ℕ) → (a ≤ i → i < a + k → P) → ((a ≤ i → i < a + k → ⊥) → P) → P
in_or_out {P} a k i inside out = go (leb a i) (ltb i (a + k)) refl refl
  where
    go : (b c : Bool) → leb a i ≡ b → ltb i (a + k) ≡ c → P
    go true true d e = inside (leb-true _ _ d) (ltb-true _ _ e)
    go true false d e = let l : a + k ≤ i = ltb-false _ _ e in out (λ u v. omega arith)
    go false c d e = let l : i < a = leb-false _ _ d in out (λ u v. omega arith)

-- One byte.
pub put_at : (f : Bytes) (a c : ℕ) → put f a c a ≡ c
unfolding put
put_at f a c = rw (eq-eqb a a refl, put)

pub put_off : (f : Bytes) (a c i : ℕ) → (i ≡ a → ⊥) → put f a c i ≡ f i
unfolding put
put_off f a c i h = rw (ne_eqb i a h, put)

-- what has the byte there, and agrees elsewhere, is the store
pub put_by : (h f : Bytes) (a c : ℕ) → h a ≡ c → ((i : ℕ) → (i ≡ a → ⊥) → h i ≡ f i) → h ≡ put f a c
put_by h f a c p q =
    fun_ext (λ i. at_or_off i a (λ e. rw e (p ∙ sym (put_at f a c))) (λ n. q i n ∙ sym (put_off f a c i n)))

pub view_set : (l : List ℕ) (i v : ℕ) → i < length l → view (set l i v) ≡ put (view l) i v
view_set l i v h = put_by (view (set l i v)) (view l) i v (get_or-set_same l i v 0 h) (λ j n. get_or-set_other l i j v 0 n)

-- A run of bytes.
pub paste_in : (f : Bytes) (a k : ℕ) (g : Bytes) (i : ℕ) → a ≤ i → i < a + k → paste f a k g i ≡ g (i - a)
unfolding paste
paste_in f a k g i h l = rw (le-leb a i h, lt-ltb i (a + k) l, paste)

pub paste_at : (f : Bytes) (a k : ℕ) (g : Bytes) (i : ℕ) → i < k → paste f a k g (a + i) ≡ g i
paste_at f a k g i h = let e : a + i - a ≡ i = omega arith in paste_in f a k g (a + i) (omega arith) (omega arith) ∙ ap g e

pub paste_out : (f : Bytes) (a k : ℕ) (g : Bytes) (i : ℕ) → (a ≤ i → i < a + k → ⊥) → paste f a k g i ≡ f i
unfolding paste
paste_out f a k g i h = go (leb a i) refl
  where
    end : (b : Bool) → ltb i (a + k) ≡ b → a ≤ i → elim b [ true ↦ g (i - a) | false ↦ f i ] ≡ f i
    end true e l = absurd (h l (ltb-true i (a + k) e))
    end false e l = refl

    go : (b : Bool) → leb a i ≡ b → elim b [ true ↦ elim (ltb i (a + k)) [ true ↦ g (i - a) | false ↦ f i ] | false ↦ f i ] ≡ f i
    go true e = end (ltb i (a + k)) refl (leb-true a i e)
    go false e = refl

pub paste_before : (f : Bytes) (a k : ℕ) (g : Bytes) (i : ℕ) → i < a → paste f a k g i ≡ f i
paste_before f a k g i h = paste_out f a k g i (λ p q. omega arith)

pub paste_after : (f : Bytes) (a k : ℕ) (g : Bytes) (i : ℕ) → a + k ≤ i → paste f a k g i ≡ f i
paste_after f a k g i h = paste_out f a k g i (λ p q. omega arith)

-- what has the run there, and agrees elsewhere, is the paste
pub paste_by : (h f : Bytes) (a k : ℕ) (g : Bytes) → ((i : ℕ) → i < k → h (a + i) ≡ g i)
    → ((i : ℕ) → (a ≤ i → i < a + k → ⊥) → h i ≡ f i) → h ≡ paste f a k g
paste_by h f a k g p q = fun_ext (λ i. in_or_out a k i (inside i) (λ n. q i n ∙ sym (paste_out f a k g i n)))
  where
    inside : (i : ℕ) → a ≤ i → i < a + k → h i ≡ paste f a k g i
    inside i l m =
        let n : a + (i - a) ≡ i = omega arith in
        ap h (sym n) ∙ p (i - a) (omega arith) ∙ sym (paste_in f a k g i l m)

pub paste_cong : (f : Bytes) (a k : ℕ) (g h : Bytes) → Agree k g h → paste f a k g ≡ paste f a k h
paste_cong f a k g h w = paste_by (paste f a k g) f a k h (λ i l. paste_at f a k g i l ∙ w i l) (paste_out f a k g)

pub paste_none : (f : Bytes) (a : ℕ) (g : Bytes) → paste f a 0 g ≡ f
paste_none f a g = sym (paste_by f f a 0 g (λ i l. absurd (omega arith)) (λ i n. refl))

-- a run that has its own bytes again
pub paste_self : (f : Bytes) (a k : ℕ) → paste f a k (from f a) ≡ f
paste_self f a k = sym (paste_by f f a k (from f a) (λ i l. refl) (λ i n. refl))

-- a run grows by one byte
pub paste_more : (f : Bytes) (a : ℕ) (g : Bytes) (k : ℕ) → put (paste f a k g) (a + k) (g k) ≡ paste f a (k + 1) g
paste_more f a g k = paste_by (put (paste f a k g) (a + k) (g k)) f a (k + 1) g inside outside
  where
    inside : (i : ℕ) → i < k + 1 → put (paste f a k g) (a + k) (g k) (a + i) ≡ g i
    inside i l =
        at_or_off i k (λ e. rw e (put_at (paste f a k g) (a + k) (g k)))
        (λ n. put_off (paste f a k g) (a + k) (g k) (a + i) (λ e. n (omega arith)) ∙ paste_at f a k g i (omega (arith, n)))

    outside : (i : ℕ) → (a ≤ i → i < a + (k + 1) → ⊥) → put (paste f a k g) (a + k) (g k) i ≡ f i
    outside i n =
        put_off (paste f a k g) (a + k) (g k) i (λ e. n (omega arith) (omega arith))
        ∙ paste_out f a k g i (λ u v. n u (omega arith))

pub paste_one : (f : Bytes) (a : ℕ) (g : Bytes) → put f a (g 0) ≡ paste f a 1 g
paste_one f a g =
    let e : a ≡ a + 0 = omega arith in
    ap (λ b. put f b (g 0)) e ∙ ap (λ h. put h (a + 0) (g 0)) (sym (paste_none f a g)) ∙ paste_more f a g 0

-- a byte, and a run, stored inside a run
pub paste_put : (f : Bytes) (a k : ℕ) (g : Bytes) (i c : ℕ) → i < k → paste f a k (put g i c) ≡ put (paste f a k g) (a + i) c
paste_put f a k g i c h =
    sym (paste_by (put (paste f a k g) (a + i) c) f a k (put g i c) inside outside)
  where
    inside : (j : ℕ) → j < k → put (paste f a k g) (a + i) c (a + j) ≡ put g i c j
    inside j l =
        at_or_off j i (λ e. rw e (put_at (paste f a k g) (a + i) c ∙ sym (put_at g i c)))
        (λ n. put_off (paste f a k g) (a + i) c (a + j) (λ e. n (omega arith)) ∙ paste_at f a k g j l ∙ sym (put_off g i c j n))

    outside : (j : ℕ) → (a ≤ j → j < a + k → ⊥) → put (paste f a k g) (a + i) c j ≡ f j
    outside j n = put_off (paste f a k g) (a + i) c j (λ e. n (omega arith) (omega arith)) ∙ paste_out f a k g j n

pub paste_paste : (f : Bytes) (a k : ℕ) (g : Bytes) (b m : ℕ) (h : Bytes) → b + m ≤ k
    → paste f a k (paste g b m h) ≡ paste (paste f a k g) (a + b) m h
paste_paste f a k g b m h l = paste_by (paste f a k (paste g b m h)) (paste f a k g) (a + b) m h inside outside
  where
    inside : (i : ℕ) → i < m → paste f a k (paste g b m h) (a + b + i) ≡ h i
    inside i u =
        let e : a + b + i ≡ a + (b + i) = omega arith in
        rw e (paste_at f a k (paste g b m h) (b + i) (omega arith) ∙ paste_at g b m h i u)

    outside : (i : ℕ) → (a + b ≤ i → i < a + b + m → ⊥) → paste f a k (paste g b m h) i ≡ paste f a k g i
    outside i n =
        in_or_out a k i
        (λ u v. paste_in f a k (paste g b m h) i u v
        ∙ paste_out g b m h (i - a) (λ x y. n (omega arith) (omega arith))
        ∙ sym (paste_in f a k g i u v))
        (λ o. paste_out f a k (paste g b m h) i o ∙ sym (paste_out f a k g i o))

pub paste_clear : (f : Bytes) (a k : ℕ) (g : Bytes) (b m : ℕ) → b + m ≤ k → paste f a k (clear g b m) ≡ clear (paste f a k g) (a + b) m
unfolding clear
paste_clear f a k g b m l = paste_paste f a k g b m zeros l

pub paste_put_word : (f : Bytes) (a k : ℕ) (g : Bytes) (i x : ℕ) → i + 2 ≤ k → paste f a k (put_word g i x) ≡ put_word (paste f a k g) (a + i) x
unfolding put_word
paste_put_word f a k g i x l = paste_paste f a k g i 2 (digit x) l

pub paste_put_long : (f : Bytes) (a k : ℕ) (g : Bytes) (i x : ℕ) → i + 3 ≤ k → paste f a k (put_long g i x) ≡ put_long (paste f a k g) (a + i) x
unfolding put_long
paste_put_long f a k g i x l = paste_paste f a k g i 3 (digit x) l

pub clear_in : (f : Bytes) (a k i : ℕ) → a ≤ i → i < a + k → clear f a k i ≡ 0
unfolding clear
clear_in f a k i h l = paste_in f a k zeros i h l

pub clear_out : (f : Bytes) (a k i : ℕ) → (a ≤ i → i < a + k → ⊥) → clear f a k i ≡ f i
unfolding clear
clear_out f a k i h = paste_out f a k zeros i h

-- Sources that agree below n agree after the same store.
pub agree_put : (n : ℕ) (f g : Bytes) (a c : ℕ) → Agree n f g → Agree n (put f a c) (put g a c)
agree_put n f g a c w i h =
    at_or_off i a (λ e. rw e (put_at f a c ∙ sym (put_at g a c)))
    (λ o. put_off f a c i o ∙ w i h ∙ sym (put_off g a c i o))

pub agree_paste : (n : ℕ) (f g : Bytes) (a k : ℕ) (h : Bytes) → Agree n f g → Agree n (paste f a k h) (paste g a k h)
agree_paste n f g a k h w i l =
    in_or_out a k i (λ u v. paste_in f a k h i u v ∙ sym (paste_in g a k h i u v))
    (λ o. paste_out f a k h i o ∙ w i l ∙ sym (paste_out g a k h i o))

-- A part of a slice: read, and lent from the middle and given back.
pub view_drop : (a : ℕ) (xs : List ℕ) → view (drop a xs) ≡ from (view xs) a
view_drop a xs = fun_ext (λ i. get_or-drop a xs i 0)

pub view_take : (k : ℕ) (xs : List ℕ) → Agree k (view (take k xs)) (view xs)
view_take k xs i h = get_or-take k xs i 0 h

pub view_read : (xs : List ℕ) (a k i : ℕ) → i < k → view (take k (drop a xs)) i ≡ view xs (a + i)
view_read xs a k i h = get_or-take k (drop a xs) i 0 h ∙ get_or-drop a xs i 0

pub agree_part : (xs : List ℕ) (a k : ℕ) → Agree k (view (take k (drop a xs))) (from (view xs) a)
agree_part xs a k i h = view_read xs a k i h

-- a part given back as it was
pub part_self : (xs : List ℕ) (a k : ℕ) → paste (view xs) a k (view (take k (drop a xs))) ≡ view xs
part_self xs a k = paste_cong (view xs) a k _ _ (agree_part xs a k) ∙ paste_self (view xs) a k

pub length_part : (xs : List ℕ) (a k : ℕ) → a + k ≤ length xs → length (take k (drop a xs)) ≡ k
length_part xs a k h = length-take-le k (drop a xs) (simp length-drop (omega arith))

-- past the front of two lists put together
past : (xs ys : List ℕ) (a i : ℕ) → length xs ≡ a → a ≤ i → view (xs ++ ys) i ≡ view ys (i - a)
past xs ys a i e h =
    let p : i ≡ length xs + (i - a) = omega arith in
    ap (view (xs ++ ys)) p ∙ get_or-append-add xs ys (i - a) 0

pub view_part : (xs ys : List ℕ) (a k : ℕ) → a + k ≤ length xs → length ys ≡ k
    → view (take a xs ++ (ys ++ drop k (drop a xs))) ≡ paste (view xs) a k (view ys)
view_part xs ys a k fits len = paste_by (view whole) (view xs) a k (view ys) inside outside
  where
    whole : List ℕ
    whole = take a xs ++ (ys ++ drop k (drop a xs))

    front : length (take a xs) ≡ a
    front = length-take-le a xs (omega arith)

    inside : (i : ℕ) → i < k → view whole (a + i) ≡ view ys i
    inside i h =
        let e : a + i - a ≡ i = omega arith in
        past (take a xs) _ a (a + i) front (omega arith) ∙ rw e (get_or-append ys _ 0 i (omega arith))

    after : (i : ℕ) → a + k ≤ i → view whole i ≡ view xs i
    after i h =
        let e : a + (k + (i - a - k)) ≡ i = omega arith in
        past (take a xs) _ a i front (omega arith)
        ∙ past ys (drop k (drop a xs)) k (i - a) len (omega arith)
        ∙ get_or-drop k (drop a xs) (i - a - k) 0
        ∙ get_or-drop a xs (k + (i - a - k)) 0
        ∙ ap (view xs) e

    before : (i : ℕ) → i < a → view whole i ≡ view xs i
    before i h = get_or-append (take a xs) _ 0 i (omega (arith, front)) ∙ get_or-take a xs i 0 h

    outside : (i : ℕ) → (a ≤ i → i < a + k → ⊥) → view whole i ≡ view xs i
    outside i n = in_or_out 0 a i (λ u v. before i (omega arith)) (λ o. after i (omega (arith, o (omega arith), n (omega (arith, o (omega arith))))))

-- Every byte stays below 256.
pub octets_put : (f : Bytes) (a c : ℕ) → Octets f → c < 256 → Octets (put f a c)
octets_put f a c o h i = at_or_off i a (λ e. rw (e, put_at f a c) h) (λ n. rw (put_off f a c i n) (o i))

pub octets_paste : (f : Bytes) (a k : ℕ) (g : Bytes) → Octets f → ((i : ℕ) → i < k → g i < 256) → Octets (paste f a k g)
octets_paste f a k g o h i =
    in_or_out a k i (λ u v. rw (paste_in f a k g i u v) (h (i - a) (omega arith))) (λ n. rw (paste_out f a k g i n) (o i))

pub octets_clear : (f : Bytes) (a k : ℕ) → Octets f → Octets (clear f a k)
unfolding clear
octets_clear f a k o = octets_paste f a k zeros o (λ i h. omega arith)

pub digit_bound : (x : ℕ) → Octets (digit x)
unfolding digit
digit_bound x i = let q = x / 256 ^ i in let h : q % 256 < 256 = omega arith in h

pub octets_put_word : (f : Bytes) (a x : ℕ) → Octets f → Octets (put_word f a x)
unfolding put_word
octets_put_word f a x o = octets_paste f a 2 (digit x) o (λ i h. digit_bound x i)

pub octets_put_long : (f : Bytes) (a x : ℕ) → Octets f → Octets (put_long f a x)
unfolding put_long
octets_put_long f a x o = octets_paste f a 3 (digit x) o (λ i h. digit_bound x i)

-- Numbers of two and of three bytes: bounds, and what reads the same bytes reads the same.
pub word_bound : (f : Bytes) (a : ℕ) → Octets f → word f a < 65536
unfolding word
word_bound f a o = omega (arith, o a, o (a + 1))

pub long_bound : (f : Bytes) (a : ℕ) → Octets f → long f a < 16777216
unfolding long
long_bound f a o = omega (arith, o a, o (a + 1), o (a + 2))

pub word_same : (f g : Bytes) (a b : ℕ) → f a ≡ g b → f (a + 1) ≡ g (b + 1) → word f a ≡ word g b
unfolding word
word_same f g a b p q = rw (p, q)

pub long_same : (f g : Bytes) (a b : ℕ) → f a ≡ g b → f (a + 1) ≡ g (b + 1) → f (a + 2) ≡ g (b + 2) → long f a ≡ long g b
unfolding long
long_same f g a b p q r = rw (p, q, r)

pub word_agree : (k : ℕ) (f g : Bytes) (a : ℕ) → Agree k f g → a + 1 < k → word f a ≡ word g a
word_agree k f g a w h = word_same f g a a (w a (omega arith)) (w (a + 1) h)

pub long_agree : (k : ℕ) (f g : Bytes) (a : ℕ) → Agree k f g → a + 2 < k → long f a ≡ long g a
long_agree k f g a w h = long_same f g a a (w a (omega arith)) (w (a + 1) (omega arith)) (w (a + 2) h)

pub word_from : (f : Bytes) (a i : ℕ) → word (from f a) i ≡ word f (a + i)
word_from f a i = let e : a + (i + 1) ≡ a + i + 1 = omega arith in word_same (from f a) f i (a + i) refl (ap f e)

pub long_from : (f : Bytes) (a i : ℕ) → long (from f a) i ≡ long f (a + i)
long_from f a i =
    let d : a + (i + 1) ≡ a + i + 1 = omega arith in
    let e : a + (i + 2) ≡ a + i + 2 = omega arith in
    long_same (from f a) f i (a + i) refl (ap f d) (ap f e)

pub word_part : (xs : List ℕ) (a k i : ℕ) → i + 1 < k → word (view (take k (drop a xs))) i ≡ word (view xs) (a + i)
word_part xs a k i h = word_agree k _ (from (view xs) a) i (agree_part xs a k) h ∙ word_from (view xs) a i

pub long_part : (xs : List ℕ) (a k i : ℕ) → i + 2 < k → long (view (take k (drop a xs))) i ≡ long (view xs) (a + i)
long_part xs a k i h = long_agree k _ (from (view xs) a) i (agree_part xs a k) h ∙ long_from (view xs) a i

-- Numbers in a run, and beside a store. The refutation says that the bytes read are not those stored.
module _ (f : Bytes) (a k : ℕ) (g : Bytes) (i : ℕ) where
  pub word_paste : i + 1 < k → word (paste f a k g) (a + i) ≡ word g i
  word_paste h = sym (word_from (paste f a k g) a i) ∙ word_agree k (from (paste f a k g) a) g i (paste_at f a k g) h

  pub long_paste : i + 2 < k → long (paste f a k g) (a + i) ≡ long g i
  long_paste h = sym (long_from (paste f a k g) a i) ∙ long_agree k (from (paste f a k g) a) g i (paste_at f a k g) h

  pub word_paste_off : (a ≤ i + 1 → i < a + k → ⊥) → word (paste f a k g) i ≡ word f i
  word_paste_off n =
      word_same (paste f a k g) f i i (paste_out f a k g i (λ u v. n (omega arith) v)) (paste_out f a k g (i + 1) (λ u v. n u (omega arith)))

  pub long_paste_off : (a ≤ i + 2 → i < a + k → ⊥) → long (paste f a k g) i ≡ long f i
  long_paste_off n =
      long_same (paste f a k g) f i i (paste_out f a k g i (λ u v. n (omega arith) v))
      (paste_out f a k g (i + 1) (λ u v. n (omega arith) (omega arith)))
      (paste_out f a k g (i + 2) (λ u v. n u (omega arith)))

module _ (f : Bytes) (a c i : ℕ) where
  pub word_put_off : (a ≤ i + 1 → i < a + 1 → ⊥) → word (put f a c) i ≡ word f i
  word_put_off n =
      word_same (put f a c) f i i (put_off f a c i (λ e. n (omega arith) (omega arith)))
      (put_off f a c (i + 1) (λ e. n (omega arith) (omega arith)))

  pub long_put_off : (a ≤ i + 2 → i < a + 1 → ⊥) → long (put f a c) i ≡ long f i
  long_put_off n =
      long_same (put f a c) f i i (put_off f a c i (λ e. n (omega arith) (omega arith)))
      (put_off f a c (i + 1) (λ e. n (omega arith) (omega arith)))
      (put_off f a c (i + 2) (λ e. n (omega arith) (omega arith)))

module _ (f : Bytes) (a k i : ℕ) where
  pub word_clear : i + 1 < k → word (clear f a k) (a + i) ≡ 0
  unfolding clear word
  word_clear h = word_paste f a k zeros i h

  pub long_clear : i + 2 < k → long (clear f a k) (a + i) ≡ 0
  unfolding clear long
  long_clear h = long_paste f a k zeros i h

  pub word_clear_off : (a ≤ i + 1 → i < a + k → ⊥) → word (clear f a k) i ≡ word f i
  unfolding clear
  word_clear_off n = word_paste_off f a k zeros i n

  pub long_clear_off : (a ≤ i + 2 → i < a + k → ⊥) → long (clear f a k) i ≡ long f i
  unfolding clear
  long_clear_off n = long_paste_off f a k zeros i n

-- Numbers stored.
pub word_digit : (x : ℕ) → x < 65536 → word (digit x) 0 ≡ x
unfolding word digit
word_digit x h = omega arith

pub long_digit : (x : ℕ) → x < 16777216 → long (digit x) 0 ≡ x
unfolding long digit
long_digit x h = omega arith

module _ (f : Bytes) (a x : ℕ) where
  pub put_word_at : (i : ℕ) → i < 2 → put_word f a x (a + i) ≡ digit x i
  unfolding put_word
  put_word_at i h = paste_at f a 2 (digit x) i h

  pub put_word_out : (i : ℕ) → (a ≤ i → i < a + 2 → ⊥) → put_word f a x i ≡ f i
  unfolding put_word
  put_word_out i n = paste_out f a 2 (digit x) i n

  pub put_long_at : (i : ℕ) → i < 3 → put_long f a x (a + i) ≡ digit x i
  unfolding put_long
  put_long_at i h = paste_at f a 3 (digit x) i h

  pub put_long_out : (i : ℕ) → (a ≤ i → i < a + 3 → ⊥) → put_long f a x i ≡ f i
  unfolding put_long
  put_long_out i n = paste_out f a 3 (digit x) i n

  pub word_put_word : x < 65536 → word (put_word f a x) a ≡ x
  unfolding put_word
  word_put_word h =
      let e : a ≡ a + 0 = omega arith in
      ap (word (paste f a 2 (digit x))) e ∙ word_paste f a 2 (digit x) 0 (omega arith) ∙ word_digit x h

  pub long_put_long : x < 16777216 → long (put_long f a x) a ≡ x
  unfolding put_long
  long_put_long h =
      let e : a ≡ a + 0 = omega arith in
      ap (long (paste f a 3 (digit x))) e ∙ long_paste f a 3 (digit x) 0 (omega arith) ∙ long_digit x h

  pub word_put_word_off : (i : ℕ) → (a ≤ i + 1 → i < a + 2 → ⊥) → word (put_word f a x) i ≡ word f i
  unfolding put_word
  word_put_word_off i n = word_paste_off f a 2 (digit x) i n

  pub word_put_long_off : (i : ℕ) → (a ≤ i + 1 → i < a + 3 → ⊥) → word (put_long f a x) i ≡ word f i
  unfolding put_long
  word_put_long_off i n = word_paste_off f a 3 (digit x) i n

  pub long_put_word_off : (i : ℕ) → (a ≤ i + 2 → i < a + 2 → ⊥) → long (put_word f a x) i ≡ long f i
  unfolding put_word
  long_put_word_off i n = long_paste_off f a 2 (digit x) i n

  pub long_put_long_off : (i : ℕ) → (a ≤ i + 2 → i < a + 3 → ⊥) → long (put_long f a x) i ≡ long f i
  unfolding put_long
  long_put_long_off i n = long_paste_off f a 3 (digit x) i n

  -- byte by byte
  pub put_word_law : put (put f a (x % 256)) (a + 1) (x / 256 % 256) ≡ put_word f a x
  unfolding put_word digit
  put_word_law =
      let e : x % 256 ≡ x / 1 % 256 = omega arith in
      ap (λ c. put (put f a c) (a + 1) (x / 256 % 256)) e
      ∙ ap (λ h. put h (a + 1) (x / 256 % 256)) (paste_one f a (digit x))
      ∙ paste_more f a (digit x) 1

  pub put_long_law : put (put_word f a x) (a + 2) (x / 65536 % 256) ≡ put_long f a x
  unfolding put_word put_long digit
  put_long_law = paste_more f a (digit x) 2

  pub put_three : put (put (put f a (x % 256)) (a + 1) (x / 256 % 256)) (a + 2) (x / 65536 % 256) ≡ put_long f a x
  put_three = ap (λ h. put h (a + 2) (x / 65536 % 256)) put_word_law ∙ put_long_law

-- Runs compared. Equal means equal byte by byte.
pub equal_at : (f : Bytes) (a : ℕ) (g : Bytes) (b k : ℕ) → equal_bytes f a g b k ≡ true → (i : ℕ) → i < k → f (a + i) ≡ g (b + i)
unfolding equal_bytes
equal_at f a g b zero e i h = absurd (omega arith)
equal_at f a g b (suc k) e i h = go (eqb (f a) (g b)) refl e (equal_at f (a + 1) g (b + 1) k)
  where
    go : (t : Bool) → eqb (f a) (g b) ≡ t → elim t [ true ↦ equal_bytes f (a + 1) g (b + 1) k | false ↦ false ] ≡ true
        → (equal_bytes f (a + 1) g (b + 1) k ≡ true → (i : ℕ) → i < k → f (a + 1 + i) ≡ g (b + 1 + i)) → f (a + i) ≡ g (b + i)
    go false p q next = absurd (false≢true q)
    go true p q next =
        at_or_off i 0
        (λ z. let u : a + i ≡ a = omega arith in let v : b + i ≡ b = omega arith in rw (u, v) (eqb-true (f a) (g b) p))
        (λ n. let u : a + i ≡ a + 1 + (i - 1) = omega (arith, n) in let v : b + i ≡ b + 1 + (i - 1) = omega (arith, n) in
        rw (u, v) (next q (i - 1) (omega (arith, n))))

pub equal_all : (f : Bytes) (a : ℕ) (g : Bytes) (b k : ℕ) → ((i : ℕ) → i < k → f (a + i) ≡ g (b + i)) → equal_bytes f a g b k ≡ true
unfolding equal_bytes
equal_all f a g b zero h = refl
equal_all f a g b (suc k) h =
    let u : a ≡ a + 0 = omega arith in
    let v : b ≡ b + 0 = omega arith in
    let e : f a ≡ g b = ap f u ∙ h 0 (omega arith) ∙ ap g (sym v) in
    rw (eq-eqb (f a) (g b) e, equal_bytes) (equal_all f (a + 1) g (b + 1) k next)
  where
    next : (i : ℕ) → i < k → f (a + 1 + i) ≡ g (b + 1 + i)
    next i l =
        let u : a + 1 + i ≡ a + (i + 1) = omega arith in
        let v : b + 1 + i ≡ b + (i + 1) = omega arith in
        rw (u, v) (h (i + 1) (omega arith))

pub equal_not : (f : Bytes) (a : ℕ) (g : Bytes) (b k i : ℕ) → i < k → (f (a + i) ≡ g (b + i) → ⊥) → equal_bytes f a g b k ≡ false
equal_not f a g b k i h n = go (equal_bytes f a g b k) refl
  where
    go : (t : Bool) → equal_bytes f a g b k ≡ t → t ≡ false
    go true e = absurd (n (equal_at f a g b k e i h))
    go false e = refl

pub equal_cong : (f : Bytes) (a : ℕ) (g : Bytes) (b k : ℕ) (f' : Bytes) (a' : ℕ) (g' : Bytes) (b' : ℕ)
    → Agree k (from f a) (from f' a') → Agree k (from g b) (from g' b') → equal_bytes f a g b k ≡ equal_bytes f' a' g' b' k
equal_cong f a g b k f' a' g' b' p q = go (equal_bytes f a g b k) (equal_bytes f' a' g' b' k) refl refl
  where
    go : (s t : Bool) → equal_bytes f a g b k ≡ s → equal_bytes f' a' g' b' k ≡ t → s ≡ t
    go true true d e = refl
    go false false d e = refl
    go true false d e = sym (equal_all f' a' g' b' k (λ i h. sym (p i h) ∙ equal_at f a g b k d i h ∙ q i h)) ∙ e
    go false true d e = sym d ∙ equal_all f a g b k (λ i h. p i h ∙ equal_at f' a' g' b' k e i h ∙ sym (q i h))

-- all zero is equal to zeros
pub zero_equal : (f : Bytes) (a b k : ℕ) → all_zero f a k ≡ equal_bytes f a zeros b k
unfolding all_zero equal_bytes
zero_equal f a b zero = refl
zero_equal f a b (suc k) = ap (λ (r : Bool). elim (eqb (f a) 0) [ true ↦ r | false ↦ false ]) (zero_equal f (a + 1) (b + 1) k)

pub zero_at : (f : Bytes) (a k : ℕ) → all_zero f a k ≡ true → (i : ℕ) → i < k → f (a + i) ≡ 0
zero_at f a k e i h = equal_at f a zeros 0 k (sym (zero_equal f a 0 k) ∙ e) i h

pub zero_all : (f : Bytes) (a k : ℕ) → ((i : ℕ) → i < k → f (a + i) ≡ 0) → all_zero f a k ≡ true
zero_all f a k h = zero_equal f a 0 k ∙ equal_all f a zeros 0 k h

pub zero_not : (f : Bytes) (a k i : ℕ) → i < k → (f (a + i) ≡ 0 → ⊥) → all_zero f a k ≡ false
zero_not f a k i h n = zero_equal f a 0 k ∙ equal_not f a zeros 0 k i h n

-- the place of a byte, which lies among the bytes looked at
module _ (f : Bytes) (c a : ℕ) where
  pub place_here : (k : ℕ) → f a ≡ c → place_of f c a k ≡ a
  unfolding place_of
  place_here zero h = refl
  place_here (suc k) h = rw (eq-eqb _ _ h, place_of)

  pub place_more : (k m : ℕ) → k ≡ suc m → (f a ≡ c → ⊥) → place_of f c a k ≡ place_of f c (a + 1) m
  unfolding place_of
  place_more k m e h = rw (e, ne_eqb _ _ h, place_of)

  pub place_none : place_of f c a 0 ≡ a
  unfolding place_of
  place_none = refl

pub place_from : (f : Bytes) (c a k : ℕ) → a ≤ place_of f c a k
place_from f c a zero = rw (place_none f c a) (omega arith)
place_from f c a (suc k) =
    at_or_off (f a) c
    (λ e. rw (place_here f c a (suc k) e) (omega arith))
    (λ n. let h = place_from f c (a + 1) k in rw (place_more f c a (suc k) k refl n) (omega arith))

pub place_upto : (f : Bytes) (c a k : ℕ) → place_of f c a k ≤ a + k
place_upto f c a zero = rw (place_none f c a) (omega arith)
place_upto f c a (suc k) =
    at_or_off (f a) c
    (λ e. rw (place_here f c a (suc k) e) (omega arith))
    (λ n. let h = place_upto f c (a + 1) k in rw (place_more f c a (suc k) k refl n) (omega arith))
