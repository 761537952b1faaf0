-- Texts piece by piece: hex digits, numbers in decimal, and runs of bytes. Assumes nothing.
use Prim.Native.Nat.{ℕ, zero, suc, ◌+◌, ◌-◌, ◌/◌, ◌%◌, ◌≤◌, ◌<◌}
use mathlib.Core.Path.{◌≡◌, refl, sym, ap, ◌∙◌}
use mathlib.Core.List.{List, [], ◌∷◌, ◌++◌, append_assoc}
use mathlib.Core.Bool.{Bool, true, false}
use native.Mathlib.Omega.{arith}
use lib.Dec.{ltb}
use lib.ListN.{length, take, drop}
use Rattle.std.proofs.Math.Seq.{drop-cons}
use borrow.Author.Tests.{lt-ltb, le-ltb}
use Rattle.model.specs.Bytes.{Bytes, view}
use Rattle.model.specs.Catalog.{decimal_before, hex_digit, text}

pub hex_low : (x : ℕ) → x < 10 → 48 + x ≡ hex_digit x
unfolding hex_digit
hex_low x h = rw (lt-ltb x 10 h, hex_digit)

pub hex_high : (x : ℕ) → 10 ≤ x → 55 + x ≡ hex_digit x
unfolding hex_digit
hex_high x h = rw (le-ltb x 10 h, hex_digit)

-- Numbers in decimal: the digits before the last, and the last.
decimal_before_law : (k x : ℕ) (rest : List ℕ) → decimal_before k x rest ≡ decimal_before k x [] ++ rest
unfolding decimal_before
decimal_before_law zero x rest = refl
decimal_before_law (suc k) x rest = go (ltb x 10) (decimal_before_law k (x / 10))
  where
    d : ℕ
    d = 48 + x % 10

    go : (b : Bool) → ((rest : List ℕ) → decimal_before k (x / 10) rest ≡ decimal_before k (x / 10) [] ++ rest)
        → elim b as (λ _. List ℕ) [ true ↦ (48 + x) ∷ rest | false ↦ decimal_before k (x / 10) (d ∷ rest) ]
        ≡ elim b as (λ _. List ℕ) [ true ↦ (48 + x) ∷ [] | false ↦ decimal_before k (x / 10) (d ∷ []) ] ++ rest
    go true r = refl
    go false r = r (d ∷ rest) ∙ sym (append_assoc (decimal_before k (x / 10) []) (d ∷ []) rest) ∙ ap (λ l. l ++ rest) (sym (r (d ∷ [])))

module _ (k x : ℕ) where
  pub number_none : k ≡ 0 → [] ≡ decimal_before k x []
  unfolding decimal_before
  number_none h = rw h

  pub number_digit : (k ≡ 0 → ⊥) → x < 10 → (48 + x) ∷ [] ≡ decimal_before k x []
  unfolding decimal_before
  number_digit h l = let e : k ≡ suc (k - 1) = omega arith in rw (e, lt-ltb x 10 l, decimal_before)

  pub number_more : (k ≡ 0 → ⊥) → 10 ≤ x → decimal_before (k - 1) (x / 10) [] ++ ((48 + x % 10) ∷ []) ≡ decimal_before k x []
  unfolding decimal_before
  number_more h l =
      sym (decimal_before_law (k - 1) (x / 10) ((48 + x % 10) ∷ []))
      ∙ (let e : suc (k - 1) ≡ k = omega arith in sym (more ∙ refl) ∙ ap (λ j. decimal_before j x []) e)
    where
      more : decimal_before (suc (k - 1)) x [] ≡ decimal_before (k - 1) (x / 10) ((48 + x % 10) ∷ [])
      more = rw (le-ltb x 10 l, decimal_before)

-- Runs of bytes.
pub text_at : (v : Bytes) (a b j k : ℕ) → a ≡ b → j ≡ k → text v a j ≡ text v b k
text_at v a b j k p q = rw (p, q)

pub text_next : (v : Bytes) (a k i : ℕ) → i < k → text v (a + i) (k - i) ≡ v (a + i) ∷ text v (a + (i + 1)) (k - (i + 1))
unfolding text
text_next v a k i h =
    let p : k - i ≡ suc (k - (i + 1)) = omega arith in
    let q : a + i + 1 ≡ a + (i + 1) = omega arith in
    text_at v (a + i) (a + i) (k - i) (suc (k - (i + 1))) refl p ∙ ap (λ b. v (a + i) ∷ text v b (k - (i + 1))) q

pub text_end : (v : Bytes) (a k : ℕ) → k ≡ 0 → text v a k ≡ []
unfolding text
text_end v a k h = rw h

pub text_split : (v : Bytes) (a j k : ℕ) → text v a (j + k) ≡ text v a j ++ text v (a + j) k
unfolding text
text_split v a zero k = text_at v a (a + 0) (0 + k) k (omega arith) (omega arith)
text_split v a (suc j) k =
    let p : suc j + k ≡ suc (j + k) = omega arith in
    let q : a + 1 + j ≡ a + suc j = omega arith in
    text_at v a a (suc j + k) (suc (j + k)) refl p
    ∙ ap (λ l. v a ∷ l) (text_split v (a + 1) j k ∙ ap (λ b. text v (a + 1) j ++ text v b k) q)

pub text_same : (f g : Bytes) (a b k : ℕ) → ((i : ℕ) → i < k → f (a + i) ≡ g (b + i)) → text f a k ≡ text g b k
unfolding text
text_same f g a b zero h = refl
text_same f g a b (suc k) h =
    let p : a + 0 ≡ a = omega arith in
    let q : b + 0 ≡ b = omega arith in
    let first : f a ≡ g b = rw (p, q) at (h 0 (omega arith)) in
    ap (λ x. x ∷ text f (a + 1) k) first ∙ ap (λ l. g b ∷ l) (text_same f g (a + 1) (b + 1) k rest)
  where
    rest : (i : ℕ) → i < k → f (a + 1 + i) ≡ g (b + 1 + i)
    rest i l =
        let p : a + suc i ≡ a + 1 + i = omega arith in
        let q : b + suc i ≡ b + 1 + i = omega arith in
        rw (p, q) at (h (suc i) (omega arith))

pub text_start : (f g : Bytes) (j k : ℕ) → j ≤ k → text f 0 k ≡ text g 0 k → text f 0 j ≡ text g 0 j
text_start f g j k h e = text_same f g 0 0 j (λ i l. text_byte f g k e i (omega arith))
  where
    byte : (f g : Bytes) (a k : ℕ) → text f a k ≡ text g a k → (i : ℕ) → i < k → f (a + i) ≡ g (a + i)
    byte f g a zero e i l = absurd (omega arith)
    byte f g a (suc k) e zero l = let p : a + 0 ≡ a = omega arith in rw p (unfold text in cc)
    byte f g a (suc k) e (suc i) l =
        let p : a + suc i ≡ a + 1 + i = omega arith in
        let q : text f (a + 1) k ≡ text g (a + 1) k = unfold text in cc in
        rw p (byte f g (a + 1) k q i (omega arith))

    text_byte : (f g : Bytes) (k : ℕ) → text f 0 k ≡ text g 0 k → (i : ℕ) → i < k → f (0 + i) ≡ g (0 + i)
    text_byte f g k e i l = byte f g 0 k e i l

-- the bytes of a part of a slice
text_part : (l : List ℕ) (a k : ℕ) → a + k ≤ length l → take k (drop a l) ≡ text (view l) a k
unfolding text
text_part l a zero h = refl
text_part l a (suc k) h =
    let e : a + 1 ≡ suc a = omega arith in
    rw (drop-cons l a 0 (omega arith)) (ap (λ xs. view l a ∷ xs) (rw e (text_part l (suc a) k (omega arith))))

pub text_slice : (l : List ℕ) (a b k : ℕ) → b ≡ a + k → b ≤ length l → take (b - a) (drop a l) ≡ text (view l) a k
text_slice l a b k e h = let n : b - a ≡ k = omega arith in rw n (text_part l a k (omega arith))
