-- The code's shifts, sums and steps are what the model says of the map. Assumes nothing.
use mathlib.Core.Path.{◌≡◌, refl, sym, ap, ◌∙◌}
use mathlib.Core.List.{List, ◌∷◌}
use mathlib.Core.Bool.{Bool, true, false, not, cond}
use Prim.Native.Nat.{ℕ, zero, suc, ◌+◌, ◌-◌, ◌*◌, ◌/◌, ◌%◌, ◌^◌, ◌≤◌, ◌<◌}
use native.Mathlib.Nat.{mul_comm, div-eq_of_lt}
use native.Mathlib.Numerals.{add-one}
use native.Mathlib.Omega.{arith}
use lib.Count.{ones}
use lib.ListN.{length, get_or, take, drop, length-drop}
use lib.Seq.{get_or-drop}
use lib.Bits.{bit_and, bit_or, or_add_and, and_comm}
use lib.Dec.{eqb, ltb}
use lib.Pow.{pow_pos}
use borrow.Author.Tests.{eqb-true, eqb-false, eq-eqb, ne_eqb, ltb-true, ltb-false}
use Rattle.std.specs.List.{sum_by, filter, range_with_len}
use Rattle.std.proofs.lemmas.List.Sums.{sum_by_more}
use Rattle.std.proofs.lemmas.Nat.{and-not}
use Rattle.std.proofs.lemmas.Nat.Bits.{and_pow}
use Rattle.model.specs.Bytes.{Bytes, view, Octets, ◌and◌, ◌or◌}
use Rattle.model.specs.Map.{weight, bit, set_bit, clear_bit, map_at, free, room, first_free, map_blocks, all_zero, rest_clear}
use Rattle.model.proofs.BitLaws.{room_byte, bit_most, free_most, map_at_same, zero_free, first_is, first_one}

-- a shift of the highest bit is a weight
pub shifted : (i : ℕ) → i < 8 → (128 / 2 ^ i ≡ weight i) × (weight i ≤ 128)
unfolding weight
shifted zero l = (refl, omega arith)
shifted (suc zero) l = (refl, omega arith)
shifted (suc (suc zero)) l = (refl, omega arith)
shifted (suc (suc (suc zero))) l = (refl, omega arith)
shifted (suc (suc (suc (suc zero)))) l = (refl, omega arith)
shifted (suc (suc (suc (suc (suc zero))))) l = (refl, omega arith)
shifted (suc (suc (suc (suc (suc (suc zero)))))) l = (refl, omega arith)
shifted (suc (suc (suc (suc (suc (suc (suc zero))))))) l = (refl, omega arith)
shifted (suc (suc (suc (suc (suc (suc (suc (suc i)))))))) l = absurd (omega arith)

pub weight_pos : (i : ℕ) → 0 < weight i
unfolding weight
weight_pos i = pow_pos (7 - i)

-- a byte's bit read, set and clear
module _ (x i : ℕ) where
  masked : bit_and x (weight i) ≡ bit x i * weight i
  unfolding weight bit
  masked = and_pow x (7 - i)

  pub has_masked : not (eqb (bit_and x (weight i)) 0) ≡ eqb (bit x i) 1
  has_masked = rw masked (go (bit x i) (bit_most x i))
    where
      go : (b : ℕ) → b ≤ 1 → not (eqb (b * weight i) 0) ≡ eqb b 1
      go zero h = let e : 0 * weight i ≡ 0 = omega arith in rw e refl
      go (suc zero) h = let p = weight_pos i in rw (ne_eqb (1 * weight i) 0 (λ e. omega arith)) refl
      go (suc (suc b)) h = absurd (omega arith)

  pub set_masked : bit_or x (weight i) ≡ set_bit x i
  unfolding set_bit
  set_masked = go (bit x i) (bit_most x i) (or_add_and x (weight i)) masked
    where
      go : (b : ℕ) → b ≤ 1 → bit_or x (weight i) + bit_and x (weight i) ≡ x + weight i → bit_and x (weight i) ≡ b * weight i
          → bit_or x (weight i) ≡ x + weight i * (1 - b)
      go zero h s m = omega arith
      go (suc zero) h s m = omega arith
      go (suc (suc b)) h s m = absurd (omega arith)

  pub clear_masked : x < 256 → i < 8 → bit_and x (255 - weight i) ≡ clear_bit x i
  unfolding clear_bit
  clear_masked h l =
      let e : bit_and x (255 - weight i) + bit_and x (weight i) ≡ x = rw (and_comm x (255 - weight i), and_comm x (weight i)) (and-not 8 (weight i) x (omega (arith, (shifted i l).1)) h) in
      omega (arith, e, masked, mul_comm (weight i) (bit x i))

  -- a byte that has a bit is as large as its weight
  pub weighs : eqb (bit x i) 1 ≡ true → weight i ≤ x
  unfolding bit
  weighs e = go (ltb x (weight i)) refl
    where
      go : (t : Bool) → ltb x (weight i) ≡ t → weight i ≤ x
      go false q = ltb-false _ _ q
      go true q =
          let z : x / weight i ≡ 0 = div-eq_of_lt (ltb-true _ _ q) in
          let o = eqb-true (x / weight i % 2) 1 e in
          absurd (omega arith)

-- one block more
module _ (m : ℕ) (v : Bytes) (b : ℕ) where
  pub room_next : room m v (b + 1) ≡ room m v b + free m v b
  unfolding room
  room_next = rw (add-one, room)

  pub not_free : eqb (free m v b) 1 ≡ false → free m v b ≡ 0
  not_free e = let n = eqb-false (free m v b) 1 e in omega (arith, free_most m v b)

-- the blocks of the map's first k bytes
pub room_part : (img : List ℕ) (m k : ℕ) → m * 512 + k ≤ length img → Octets (view img)
    → sum_by ones (take k (drop (m * 512) img)) ≡ room m (view img) (k * 8)
unfolding room
room_part img m zero fits o = refl
room_part img m (suc k) fits o =
    let s : suc k ≡ k + 1 = omega arith in
    let e : (k + 1) * 8 ≡ k * 8 + 8 = omega arith in
    let l : k < length (drop (m * 512) img) = simp length-drop (omega arith) in
    rw (s, e)
    (sum_by_more ones (drop (m * 512) img) k 0 l
    ∙ ap (λ x. x + ones (get_or (drop (m * 512) img) k 0)) (room_part img m k (omega arith) o)
    ∙ ap (λ x. room m (view img) (k * 8) + ones x) (get_or-drop (m * 512) img k 0)
    ∙ sym (room_byte m (view img) k (o (m * 512 + k))))

-- those of k blocks from a on, one by one
pub room_counted : (m : ℕ) (v : Bytes) (a k : ℕ) → room m v a + length (filter (λ b. eqb (free m v b) 1) (range_with_len a k)) ≡ room m v (a + k)
room_counted m v a zero = let e : a + 0 ≡ a = omega arith in rw e (omega arith)
room_counted m v a (suc k) =
    let e : a + suc k ≡ a + 1 + k = omega arith in
    rw e (go (eqb (free m v a) 1) refl (room_counted m v (a + 1) k) (room_next m v a))
  where
    rest : List ℕ
    rest = filter (λ b. eqb (free m v b) 1) (range_with_len (a + 1) k)

    go : (t : Bool) → eqb (free m v a) 1 ≡ t → room m v (a + 1) + length rest ≡ room m v (a + 1 + k) → room m v (a + 1) ≡ room m v a + free m v a
        → room m v a + length (cond t (a ∷ rest) rest) ≡ room m v (a + 1 + k)
    go true q h n = let f = eqb-true (free m v a) 1 q in omega arith
    go false q h n = let f = not_free m v a q in omega arith

-- whole bytes at once, then the blocks behind them
pub room_total : (img : List ℕ) (m n : ℕ) → m * 512 + n / 8 ≤ length img → Octets (view img)
    → sum_by ones (take (n / 8) (drop (m * 512) img))
    + length (filter (λ b. eqb (free m (view img) b) 1) (range_with_len (n / 8 * 8) (n - n / 8 * 8))) ≡ room m (view img) n
room_total img m n fits o =
    let e : n / 8 * 8 + (n - n / 8 * 8) ≡ n = omega arith in
    rw (room_part img m (n / 8) fits o) (room_counted m (view img) (n / 8 * 8) (n - n / 8 * 8) ∙ ap (room m (view img)) e)

-- no block from a on is free below b
abbrev pub Passed : ℕ → Bytes → ℕ → ℕ → Type 0
Passed m v a b = (c : ℕ) → a ≤ c → c < b → free m v c ≡ 0

module _ (m : ℕ) (v : Bytes) where
  pub pass_byte : (b : ℕ) → v (map_at m b) ≡ 0 → Passed m v b (b + (8 - b % 8))
  pass_byte b e c g h = zero_free m v c (ap v (map_at_same m c b (omega arith)) ∙ e)

  pub pass_on : (a b d : ℕ) → Passed m v a b → Passed m v b d → Passed m v a d
  pass_on a b d f g c h l = go (ltb c b) refl
    where
      go : (t : Bool) → ltb c b ≡ t → free m v c ≡ 0
      go true e = f c h (ltb-true c b e)
      go false e = g c (ltb-false c b e) l

  pub found_first : (n a b : ℕ) → a ≤ b → b < n → Passed m v a b → eqb (free m v b) 1 ≡ true → b ≡ first_free m v a (n - a)
  found_first n a b h l f e =
      first_one m v a (n - a) _ _
      (record { from = h; most = omega arith; found = λ k. eqb-true (free m v b) 1 e; below = f })
      (first_is m v a (n - a))

  pub none_first : (n a b : ℕ) → a ≤ n → n ≤ b → Passed m v a b → n ≡ first_free m v a (n - a)
  none_first n a b h l f =
      first_one m v a (n - a) _ _
      (record { from = h; most = omega arith; found = λ k. absurd (omega arith); below = λ c g k. f c g (omega arith) })
      (first_is m v a (n - a))

-- the byte of the last block, and those after it
pub last_whole : (r : ℕ) (t : Bool) → r ≡ 0 → true ≡ (eqb r 0 or t)
unfolding ◌or◌
last_whole r t e = rw (eq-eqb r 0 e) refl

pub last_part_law : (r : ℕ) (t : Bool) → (r ≡ 0 → ⊥) → t ≡ (eqb r 0 or t)
unfolding ◌or◌
last_part_law r t e = rw (ne_eqb r 0 e) refl

module _ (m : ℕ) (v : Bytes) (n : ℕ) where
  pub rest_no : (eqb (n % 8) 0 or eqb (v (map_at m n) % 2 ^ (8 - n % 8)) 0) ≡ false → false ≡ rest_clear m v n
  unfolding rest_clear ◌and◌
  rest_no e = rw e refl

  pub rest_yes : (eqb (n % 8) 0 or eqb (v (map_at m n) % 2 ^ (8 - n % 8)) 0) ≡ true
      → all_zero v (m * 512 + (n + 7) / 8) (map_blocks n * 512 - (n + 7) / 8) ≡ rest_clear m v n
  unfolding rest_clear ◌and◌
  rest_yes e = rw e refl
