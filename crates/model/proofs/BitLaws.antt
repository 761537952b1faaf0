-- Laws of the map: a byte's bits, blocks given and taken, how many are free, the first free one, the map of a new volume. Assumes nothing.
use Prim.Native.Nat.{ℕ, zero, suc, ◌+◌, ◌-◌, ◌*◌, ◌^◌, ◌≤◌, ◌<◌, ◌/◌, ◌%◌}
use mathlib.Core.Path.{◌≡◌, refl, sym, ap, ◌∙◌}
use mathlib.Core.Bool.{Bool, true, false, ◌&&◌, false≢true}
use lib.Count.{ones, ones_in}
use lib.Dec.{leb, ltb, eqb}
use native.Mathlib.Omega.{arith}
use native.Mathlib.Nat.{zero-div, zero-mod}
use borrow.Author.Tests.{eqb-true, eqb-false, eq-eqb, ne_eqb, leb-true, leb-false, le-leb, lt-leb, ltb-true, ltb-false, lt-ltb}
use Rattle.model.specs.Bytes.{Bytes, Octets, is, one_if, ◌and◌, ◌or◌}
use Rattle.model.specs.Map.{map_blocks, weight, bit, set_bit, clear_bit, map_at, free, room, first_free, lowest, taken, given, rest_clear, fresh_bits, fresh_map}
use Rattle.model.proofs.TestLaws.{and_left, and_right}
use Rattle.model.proofs.ByteLaws.{put_at, put_off, clear_in, clear_out, octets_put, octets_clear, zero_at, zero_all, in_or_out, at_or_off}

-- a test of every number below k
tests : ℕ → (ℕ → Bool) → Bool
tests zero p = true
tests (suc k) p = p k && tests k p

tests_at : (k : ℕ) (p : ℕ → Bool) → tests k p ≡ true → (i : ℕ) → i < k → p i ≡ true
unfolding tests
tests_at zero p h i l = absurd (omega arith)
tests_at (suc k) p h i l = go (eqb i k) refl (p k) refl h (tests_at k p)
  where
    go : (b : Bool) → eqb i k ≡ b → (c : Bool) → p k ≡ c → (c && tests k p) ≡ true
        → (tests k p ≡ true → (i : ℕ) → i < k → p i ≡ true) → p i ≡ true
    go true e true f g r = rw (eqb-true i k e) f
    go false e true f g r = r g i (let q = eqb-false i k e in omega arith)
    go b e false f g r = absurd (false≢true g)

-- a test of every byte and two of its bits
all : (ℕ → ℕ → ℕ → Bool) → Bool
all f = tests 256 (λ x. tests 8 (λ i. tests 8 (λ j. f x i j)))

all_at : (f : ℕ → ℕ → ℕ → Bool) → all f ≡ true → (x i j : ℕ) → x < 256 → i < 8 → j < 8 → f x i j ≡ true
unfolding all
all_at f h x i j p q r =
    let byte = tests_at 256 (λ x. tests 8 (λ i. tests 8 (λ j. f x i j))) h x p in
    tests_at 8 (λ j. f x i j) (tests_at 8 (λ i. tests 8 (λ j. f x i j)) byte i q) j r

set_test : ℕ → ℕ → ℕ → Bool
set_test x i j = eqb (bit (set_bit x i) j) (bit x j + is i j * (1 - bit x i))

clear_test : ℕ → ℕ → ℕ → Bool
clear_test x i j = eqb (bit (clear_bit x i) j + is i j * bit x i) (bit x j)

small_test : ℕ → ℕ → ℕ → Bool
small_test x i j = ltb (set_bit x i) 256

-- the bits from r on
low_test : ℕ → ℕ → ℕ → Bool
low_test x i r = leb r i or (eqb (set_bit x i % 2 ^ (8 - r)) (x % 2 ^ (8 - r)) and eqb (clear_bit x i % 2 ^ (8 - r)) (x % 2 ^ (8 - r)))

low_all : all low_test ≡ true
unfolding all tests low_test bit set_bit clear_bit weight ◌or◌ ◌and◌
low_all = refl

set_all : all set_test ≡ true
unfolding all tests set_test bit set_bit weight
set_all = refl

clear_all : all clear_test ≡ true
unfolding all tests clear_test bit clear_bit weight
clear_all = refl

small_all : all small_test ≡ true
unfolding all tests small_test bit set_bit weight
small_all = refl

or_right : (p q : Bool) → (p or q) ≡ true → p ≡ false → q ≡ true
unfolding ◌or◌
or_right true q e f = absurd (false≢true (sym f))
or_right false q e f = e

-- A byte's bits.
pub bit_most : (x i : ℕ) → bit x i ≤ 1
unfolding bit
bit_most x i = omega arith

pub bit_set : (x i j : ℕ) → x < 256 → i < 8 → j < 8 → bit (set_bit x i) j ≡ bit x j + is i j * (1 - bit x i)
unfolding set_test
bit_set x i j h k l = eqb-true _ _ (all_at set_test set_all x i j h k l)

pub bit_clear : (x i j : ℕ) → x < 256 → i < 8 → j < 8 → bit (clear_bit x i) j + is i j * bit x i ≡ bit x j
unfolding clear_test
bit_clear x i j h k l = eqb-true _ _ (all_at clear_test clear_all x i j h k l)

pub set_byte : (x i : ℕ) → x < 256 → i < 8 → set_bit x i < 256
unfolding small_test
set_byte x i h k = ltb-true _ _ (all_at small_test small_all x i 0 h k (omega arith))

pub clear_le : (x i : ℕ) → clear_bit x i ≤ x
unfolding clear_bit
clear_le x i = omega arith

-- the bits from r on stay where an earlier one is set or cleared
module _ (x i r : ℕ) (byte : x < 256) (order : i < r) (high : r < 8) where
  low_both : (eqb (set_bit x i % 2 ^ (8 - r)) (x % 2 ^ (8 - r)) and eqb (clear_bit x i % 2 ^ (8 - r)) (x % 2 ^ (8 - r))) ≡ true
  unfolding low_test
  low_both = or_right (leb r i) _ (all_at low_test low_all x i r byte (omega arith) high) (lt-leb r i order)

  pub set_low : set_bit x i % 2 ^ (8 - r) ≡ x % 2 ^ (8 - r)
  set_low = eqb-true _ _ (and_left _ _ low_both)

  pub clear_low : clear_bit x i % 2 ^ (8 - r) ≡ x % 2 ^ (8 - r)
  clear_low = eqb-true _ _ (and_right _ _ low_both)

-- Two numbers are the same or not.
pub is_yes : (a b : ℕ) → a ≡ b → is a b ≡ 1
is_yes a b e = rw (eq-eqb a b e) refl

pub is_no : (a b : ℕ) → (a ≡ b → ⊥) → is a b ≡ 0
is_no a b h = rw (ne_eqb a b h) refl

pub is_both : (a b c d : ℕ) → (a ≡ b → c ≡ d) → (c ≡ d → a ≡ b) → is a b ≡ is c d
is_both a b c d f g = go (eqb a b) refl
  where
    go : (t : Bool) → eqb a b ≡ t → one_if t ≡ is c d
    go true e = sym (is_yes c d (f (eqb-true a b e)))
    go false e = sym (is_no c d (λ h. eqb-false a b e (g h)))

pub is_most : (a b : ℕ) → is a b ≤ 1
is_most a b = go (eqb a b)
  where
    go : (t : Bool) → one_if t ≤ 1
    go true = omega arith
    go false = omega arith

-- The map's addresses.
pub map_at_inj : (m b c : ℕ) → map_at m b ≡ map_at m c → b / 8 ≡ c / 8
unfolding map_at
map_at_inj m b c e = omega arith

pub map_at_same : (m b c : ℕ) → b / 8 ≡ c / 8 → map_at m b ≡ map_at m c
unfolding map_at
map_at_same m b c e = omega arith

-- a block's byte lies in the map
pub map_at_in : (m n b : ℕ) → b < n → map_at m b < m * 512 + map_blocks n * 512
unfolding map_at map_blocks
map_at_in m n b h = omega arith

-- a block that is none of the map's has no byte of it
pub map_at_off : (m n z b : ℕ) → b < n → (m ≤ z → z < m + map_blocks n → ⊥) → z * 512 ≤ map_at m b → map_at m b < z * 512 + 512 → ⊥
unfolding map_at map_blocks
map_at_off m n z b h off g l = off (omega arith) (omega arith)

pub free_most : (m : ℕ) (v : Bytes) (b : ℕ) → free m v b ≤ 1
unfolding free
free_most m v b = bit_most (v (map_at m b)) (b % 8)

pub free_same : (m : ℕ) (v w : Bytes) (b : ℕ) → w (map_at m b) ≡ v (map_at m b) → free m w b ≡ free m v b
unfolding free
free_same m v w b e = rw e refl

-- Two maps that differ in the byte of block y: there the bits of w are those of v, and d more at y's.
module _ (m : ℕ) (v w : Bytes) (y d : ℕ) (b : ℕ) where
  pub free_flip
      : (map_at m b ≡ map_at m y → bit (w (map_at m y)) (b % 8) ≡ bit (v (map_at m y)) (b % 8) + is (y % 8) (b % 8) * d)
      → ((map_at m b ≡ map_at m y → ⊥) → w (map_at m b) ≡ v (map_at m b)) → free m w b ≡ free m v b + is y b * d
  unfolding free
  free_flip law out = go (eqb (b / 8) (y / 8)) refl
    where
      go : (t : Bool) → eqb (b / 8) (y / 8) ≡ t → bit (w (map_at m b)) (b % 8) ≡ bit (v (map_at m b)) (b % 8) + is y b * d
      go true e =
          let q = eqb-true (b / 8) (y / 8) e in
          let a = map_at_same m b y q in
          rw (a, law a, is_both y b (y % 8) (b % 8) (λ p. ap (λ (x : ℕ). x % 8) p) (λ p. omega arith)) refl
      go false e =
          let q = eqb-false (b / 8) (y / 8) e in
          rw (out (λ r. q (map_at_inj m b y r)), is_no y b (λ p. q (ap (λ (x : ℕ). x / 8) (sym p)))) (omega arith)

-- A block given back.
pub given_out : (m : ℕ) (v : Bytes) (y i : ℕ) → (i ≡ map_at m y → ⊥) → given m v y i ≡ v i
unfolding given
given_out m v y i h = put_off v (map_at m y) _ i h

pub given_at : (m : ℕ) (v : Bytes) (y : ℕ) → given m v y (map_at m y) ≡ set_bit (v (map_at m y)) (y % 8)
unfolding given
given_at m v y = put_at v (map_at m y) _

pub given_free : (m : ℕ) (v : Bytes) (y b : ℕ) → Octets v → free m (given m v y) b ≡ free m v b + is y b * (1 - free m v y)
unfolding free
given_free m v y b o =
    free_flip m v (given m v y) y (1 - free m v y) b
    (λ a. rw (given_at m v y) (bit_set (v (map_at m y)) (y % 8) (b % 8) (o (map_at m y)) (omega arith) (omega arith)))
    (given_out m v y (map_at m b))

pub given_octets : (m : ℕ) (v : Bytes) (y : ℕ) → Octets v → Octets (given m v y)
unfolding given
given_octets m v y o = octets_put v (map_at m y) _ o (set_byte (v (map_at m y)) (y % 8) (o (map_at m y)) (omega arith))

-- A block taken.
pub taken_in : (m : ℕ) (v : Bytes) (z i : ℕ) → z * 512 ≤ i → i < z * 512 + 512 → taken m v z i ≡ 0
unfolding taken
taken_in m v z i h l = clear_in _ (z * 512) 512 i h l

pub taken_out : (m : ℕ) (v : Bytes) (z i : ℕ) → (z * 512 ≤ i → i < z * 512 + 512 → ⊥) → (i ≡ map_at m z → ⊥)
    → taken m v z i ≡ v i
unfolding taken
taken_out m v z i h k = clear_out _ (z * 512) 512 i h ∙ put_off v (map_at m z) _ i k

pub taken_at : (m : ℕ) (v : Bytes) (z : ℕ) → (z * 512 ≤ map_at m z → map_at m z < z * 512 + 512 → ⊥)
    → taken m v z (map_at m z) ≡ clear_bit (v (map_at m z)) (z % 8)
unfolding taken
taken_at m v z h = clear_out _ (z * 512) 512 (map_at m z) h ∙ put_at v (map_at m z) _

pub taken_free : (m : ℕ) (v : Bytes) (z b : ℕ) → Octets v → (z * 512 ≤ map_at m b → map_at m b < z * 512 + 512 → ⊥)
    → free m (taken m v z) b + is z b * free m v z ≡ free m v b
unfolding free
taken_free m v z b o h =
    sym (free_flip m (taken m v z) v z (free m v z) b
    (λ a. rw (taken_at m v z (rw a at h)) (sym (bit_clear (v (map_at m z)) (z % 8) (b % 8) (o (map_at m z)) (omega arith) (omega arith))))
    (λ k. sym (taken_out m v z (map_at m b) h k)))

pub taken_octets : (m : ℕ) (v : Bytes) (z : ℕ) → Octets v → Octets (taken m v z)
unfolding taken
taken_octets m v z o =
    octets_clear _ (z * 512) 512
    (octets_put v (map_at m z) _ o (omega (arith, o (map_at m z), clear_le (v (map_at m z)) (z % 8))))

-- The number of free blocks.
pub room_same : (m : ℕ) (v w : Bytes) (n : ℕ) → ((b : ℕ) → b < n → free m w b ≡ free m v b) → room m w n ≡ room m v n
unfolding room
room_same m v w zero f = refl
room_same m v w (suc n) f = rw (room_same m v w n (λ b h. f b (omega arith)), f n (omega arith)) refl

pub room_le : (m : ℕ) (v : Bytes) (n : ℕ) → room m v n ≤ n
unfolding room
room_le m v zero = omega arith
room_le m v (suc n) = omega (arith, room_le m v n, free_most m v n)

-- one block's bit differs by d
pub room_one : (m : ℕ) (v w : Bytes) (y d n : ℕ) → ((b : ℕ) → b < n → free m w b ≡ free m v b + is y b * d) → y < n
    → room m w n ≡ room m v n + d
unfolding room
room_one m v w y d zero f h = absurd (omega arith)
room_one m v w y d (suc n) f h = go (eqb y n) refl (λ k. room_one m v w y d n (λ b l. f b (omega arith)) k)
  where
    go : (t : Bool) → eqb y n ≡ t → (y < n → room m w n ≡ room m v n + d) → room m w n + free m w n ≡ room m v n + free m v n + d
    go true e r =
        let q = eqb-true y n e in
        let s = room_same m v w n (λ b k. rw (f b (omega arith), is_no y b (λ p. omega arith)) (omega arith)) in
        rw (s, f n (omega arith), is_yes y n q) (omega arith)
    go false e r =
        let q = eqb-false y n e in
        rw (r (omega arith), f n (omega arith), is_no y n q) (omega arith)

pub room_none : (m : ℕ) (v : Bytes) (n : ℕ) → ((b : ℕ) → b < n → free m v b ≡ 0) → room m v n ≡ 0
unfolding room
room_none m v zero f = refl
room_none m v (suc n) f = rw (room_none m v n (λ b h. f b (omega arith)), f n (omega arith)) refl

pub room_some : (m : ℕ) (v : Bytes) (n b : ℕ) → b < n → free m v b ≡ 1 → 1 ≤ room m v n
unfolding room
room_some m v zero b h e = absurd (omega arith)
room_some m v (suc n) b h e = go (eqb b n) refl (λ k. room_some m v n b k e)
  where
    go : (t : Bool) → eqb b n ≡ t → (b < n → 1 ≤ room m v n) → 1 ≤ room m v n + free m v n
    go true q r = omega (arith, ap (free m v) (eqb-true b n q))
    go false q r = let p = eqb-false b n q in omega (arith, r (omega arith))

pub room_given : (m : ℕ) (v : Bytes) (y n : ℕ) → Octets v → y < n → room m (given m v y) n ≡ room m v n + (1 - free m v y)
room_given m v y n o h = room_one m v (given m v y) y (1 - free m v y) n (λ b l. given_free m v y b o) h

pub room_taken : (m : ℕ) (v : Bytes) (z n : ℕ) → Octets v → z < n
    → ((b : ℕ) → b < n → z * 512 ≤ map_at m b → map_at m b < z * 512 + 512 → ⊥) → room m (taken m v z) n + free m v z ≡ room m v n
room_taken m v z n o h off =
    sym (room_one m (taken m v z) v z (free m v z) n (λ b l. sym (taken_free m v z b o (off b l))) h)

-- The first free block.
pub first_none : (m : ℕ) (v : Bytes) (b k : ℕ) → k ≤ 0 → first_free m v b k ≡ b
unfolding first_free
first_none m v b zero h = refl
first_none m v b (suc k) h = absurd (omega arith)

pub first_here : (m : ℕ) (v : Bytes) (b k : ℕ) → free m v b ≡ 1 → first_free m v b k ≡ b
unfolding first_free
first_here m v b zero e = refl
first_here m v b (suc k) e = rw (eq-eqb (free m v b) 1 e, first_free)

pub first_step : (m : ℕ) (v : Bytes) (b k : ℕ) → (free m v b ≡ 1 → ⊥) → first_free m v b (suc k) ≡ first_free m v (b + 1) k
unfolding first_free
first_step m v b k h = rw (ne_eqb (free m v b) 1 h, first_free)

-- what makes r the first free one of the k blocks from b on, or b + k
pub record First (m : ℕ) (v : Bytes) (b k r : ℕ) : Type 0 where
  pub from : b ≤ r
  pub most : r ≤ b + k
  pub found : r < b + k → free m v r ≡ 1
  pub below : (c : ℕ) → b ≤ c → c < r → free m v c ≡ 0

pub first_is : (m : ℕ) (v : Bytes) (b k : ℕ) → First m v b k (first_free m v b k)
first_is m v b zero =
    rw (first_none m v b 0 (omega arith))
    (record { from = omega arith; most = omega arith; found = λ h. absurd (omega arith); below = λ c g h. absurd (omega arith) })
first_is m v b (suc k) = go (eqb (free m v b) 1) refl (first_is m v (b + 1) k)
  where
    low : {r : ℕ} → (free m v b ≡ 1 → ⊥) → First m v (b + 1) k r → (c : ℕ) → b ≤ c → c < r → free m v c ≡ 0
    low {r} q f c g h = at (eqb c b) refl
      where
        at : (t : Bool) → eqb c b ≡ t → free m v c ≡ 0
        at true e = rw (eqb-true c b e) (omega (arith, free_most m v b))
        at false e = let n = eqb-false c b e in f.below c (omega arith) h

    go : (t : Bool) → eqb (free m v b) 1 ≡ t → First m v (b + 1) k (first_free m v (b + 1) k) → First m v b (suc k) (first_free m v b (suc k))
    go true e f =
        let q = eqb-true (free m v b) 1 e in
        rw (first_here m v b (suc k) q)
        (record { from = omega arith; most = omega arith; found = λ h. q; below = λ c g h. absurd (omega arith) })
    go false e f =
        let q = eqb-false (free m v b) 1 e in
        rw (first_step m v b k q)
        (record { from = omega arith; most = omega arith; found = λ h. f.found (omega arith); below = low q f })

pub first_one : (m : ℕ) (v : Bytes) (b k r s : ℕ) → First m v b k r → First m v b k s → r ≡ s
first_one m v b k r s f g = go (ltb r s) refl (ltb s r) refl
  where
    go : (t : Bool) → ltb r s ≡ t → (u : Bool) → ltb s r ≡ u → r ≡ s
    go true p u q = let l = ltb-true r s p in absurd (omega (arith, f.found (omega arith), g.below r f.from l))
    go false p true q = let l = ltb-true s r q in absurd (omega (arith, g.found (omega arith), f.below s g.from l))
    go false p false q = omega (arith, ltb-false r s p, ltb-false s r q)

-- The lowest free block, and where a search for it may start.
pub lowest_from : (m : ℕ) (v : Bytes) (n h : ℕ) → h ≤ n → ((c : ℕ) → c < h → free m v c ≡ 0)
    → lowest m v n ≡ first_free m v h (n - h)
unfolding lowest
lowest_from m v n h l f =
    let g = first_is m v h (n - h) in
    first_one m v 0 n _ _ (first_is m v 0 n)
    (record { from = omega arith; most = omega arith; found = λ k. g.found (omega arith); below = below })
  where
    below : (c : ℕ) → 0 ≤ c → c < first_free m v h (n - h) → free m v c ≡ 0
    below c z k = at (ltb c h) refl
      where
        at : (t : Bool) → ltb c h ≡ t → free m v c ≡ 0
        at true e = f c (ltb-true c h e)
        at false e = (first_is m v h (n - h)).below c (ltb-false c h e) k

pub lowest_most : (m : ℕ) (v : Bytes) (n : ℕ) → lowest m v n ≤ n
unfolding lowest
lowest_most m v n = omega (arith, (first_is m v 0 n).most)

pub lowest_free : (m : ℕ) (v : Bytes) (n : ℕ) → lowest m v n < n → free m v (lowest m v n) ≡ 1
unfolding lowest
lowest_free m v n h = (first_is m v 0 n).found (omega arith)

pub lowest_below : (m : ℕ) (v : Bytes) (n c : ℕ) → c < lowest m v n → free m v c ≡ 0
unfolding lowest
lowest_below m v n c h = (first_is m v 0 n).below c (omega arith) h

pub lowest_room : (m : ℕ) (v : Bytes) (n : ℕ) → lowest m v n < n → 1 ≤ room m v n
lowest_room m v n h = room_some m v n (lowest m v n) h (lowest_free m v n h)

pub room_lowest : (m : ℕ) (v : Bytes) (n : ℕ) → 1 ≤ room m v n → lowest m v n < n
room_lowest m v n h = go (ltb (lowest m v n) n) refl
  where
    go : (t : Bool) → ltb (lowest m v n) n ≡ t → lowest m v n < n
    go true e = ltb-true (lowest m v n) n e
    go false e =
        let l = ltb-false (lowest m v n) n e in
        absurd (omega (arith, room_none m v n (λ b k. lowest_below m v n b (omega arith))))

-- A whole byte's blocks.
pub bit_zero : (i : ℕ) → bit 0 i ≡ 0
unfolding bit
bit_zero i = rw (zero-div (weight i)) refl

pub zero_free : (m : ℕ) (v : Bytes) (b : ℕ) → v (map_at m b) ≡ 0 → free m v b ≡ 0
unfolding free
zero_free m v b e = rw e (bit_zero (b % 8))

-- the number of a byte's first k bits that are set
bits_in : ℕ → ℕ → ℕ
bits_in x zero = 0
bits_in x (suc i) = bits_in x i + bit x i

ones_test : ℕ → Bool
ones_test x = eqb (ones x) (bits_in x 8)

ones_all : tests 256 ones_test ≡ true
unfolding tests ones_test ones ones_in bits_in bit weight
ones_all = refl

ones_bits : (x : ℕ) → x < 256 → ones x ≡ bits_in x 8
unfolding ones_test
ones_bits x h = eqb-true _ _ (tests_at 256 ones_test ones_all x h)

bits_most : (x k : ℕ) → bits_in x k ≤ k
unfolding bits_in
bits_most x zero = omega arith
bits_most x (suc k) = omega (arith, bits_most x k, bit_most x k)

pub ones_most : (x : ℕ) → x < 256 → ones x ≤ 8
ones_most x h = omega (arith, ones_bits x h, bits_most x 8)

pub room_byte : (m : ℕ) (v : Bytes) (j : ℕ) → v (m * 512 + j) < 256 → room m v (j * 8 + 8) ≡ room m v (j * 8) + ones (v (m * 512 + j))
unfolding room bits_in free map_at
room_byte m v j h = upto 8 (omega arith) ∙ ap (λ (x : ℕ). room m v (j * 8) + x) (sym (ones_bits (v (m * 512 + j)) h))
  where
    upto : (k : ℕ) → k ≤ 8 → room m v (j * 8 + k) ≡ room m v (j * 8) + bits_in (v (m * 512 + j)) k
    upto zero l = let e : j * 8 + 0 ≡ j * 8 = omega arith in rw e (omega arith)
    upto (suc k) l =
        let e : j * 8 + suc k ≡ suc (j * 8 + k) = omega arith in
        let p : (j * 8 + k) / 8 ≡ j = omega arith in
        let q : (j * 8 + k) % 8 ≡ k = omega arith in
        rw (e, room, p, q, upto k (omega arith)) (omega arith)

-- A byte made of bits.
byte_of : (ℕ → ℕ) → ℕ → ℕ
byte_of c zero = 0
byte_of c (suc i) = byte_of c i + c i * weight i

below_eight : (P : ℕ → Type 0) → P 0 → P 1 → P 2 → P 3 → P 4 → P 5 → P 6 → P 7 → (i : ℕ) → i < 8 → P i
below_eight P p q r s t u v w zero h = p
below_eight P p q r s t u v w (suc zero) h = q
below_eight P p q r s t u v w (suc (suc zero)) h = r
below_eight P p q r s t u v w (suc (suc (suc zero))) h = s
below_eight P p q r s t u v w (suc (suc (suc (suc zero)))) h = t
below_eight P p q r s t u v w (suc (suc (suc (suc (suc zero))))) h = u
below_eight P p q r s t u v w (suc (suc (suc (suc (suc (suc zero)))))) h = v
below_eight P p q r s t u v w (suc (suc (suc (suc (suc (suc (suc zero))))))) h = w
below_eight P p q r s t u v w (suc (suc (suc (suc (suc (suc (suc (suc i)))))))) h = absurd (omega arith)

module _ (c : ℕ → ℕ) (most : (i : ℕ) → c i ≤ 1) where
  bit_of_law : (i : ℕ) → i < 8 → bit (byte_of c 8) i ≡ c i
  unfolding byte_of bit weight
  bit_of_law =
      let p = most 0 in
      let q = most 1 in
      let r = most 2 in
      let s = most 3 in
      let t = most 4 in
      let u = most 5 in
      let v = most 6 in
      let w = most 7 in
      below_eight (λ i. bit (byte_of c 8) i ≡ c i)
      (omega arith) (omega arith) (omega arith) (omega arith) (omega arith) (omega arith) (omega arith) (omega arith)

  byte_of_law : byte_of c 8 < 256
  unfolding byte_of weight
  byte_of_law = omega (arith, most 0, most 1, most 2, most 3, most 4, most 5, most 6, most 7)

-- the low bits of a byte that has only high ones
byte_low : (c : ℕ → ℕ) (r : ℕ) → r < 8 → byte_of c r % 2 ^ (8 - r) ≡ 0
unfolding byte_of weight
byte_low c = below_eight (λ r. byte_of c r % 2 ^ (8 - r) ≡ 0)
    (omega arith) (omega arith) (omega arith) (omega arith) (omega arith) (omega arith) (omega arith) (omega arith)

byte_stop : (c : ℕ → ℕ) (r j : ℕ) → ((i : ℕ) → r ≤ i → c i ≡ 0) → byte_of c (r + j) ≡ byte_of c r
unfolding byte_of
byte_stop c r zero f = let e : r + 0 ≡ r = omega arith in rw e refl
byte_stop c r (suc j) f =
    let e : r + suc j ≡ suc (r + j) = omega arith in
    rw (e, byte_of, f (r + j) (omega arith)) (omega (arith, byte_stop c r j f))

-- Two images with the same map.
pub first_same : (m : ℕ) (v w : Bytes) (b k : ℕ) → ((c : ℕ) → b ≤ c → c < b + k → free m w c ≡ free m v c)
    → first_free m w b k ≡ first_free m v b k
first_same m v w b k f =
    let g = first_is m v b k in
    first_one m w b k _ _ (first_is m w b k)
    (record { from = g.from; most = g.most; found = λ h. f _ g.from h ∙ g.found h; below = λ c h l. f c h (omega arith) ∙ g.below c h l })

abbrev pub MapSame : ℕ → ℕ → Bytes → Bytes → Type 0
MapSame m n v w = (i : ℕ) → m * 512 ≤ i → i < m * 512 + map_blocks n * 512 → w i ≡ v i

module _ (m n : ℕ) (v w : Bytes) (same : MapSame m n v w) where
  pub same_free : (b : ℕ) → b < n → free m w b ≡ free m v b
  unfolding map_at
  same_free b h = free_same m v w b (same (map_at m b) (omega arith) (map_at_in m n b h))

  pub same_room : room m w n ≡ room m v n
  same_room = room_same m v w n same_free

  pub same_lowest : lowest m w n ≡ lowest m v n
  unfolding lowest
  same_lowest = first_same m v w 0 n (λ c g h. same_free c (omega arith))

-- The map of a new volume: the blocks from a to n - 1 are free.
pub fresh_yes : (a n b : ℕ) → a ≤ b → b < n → one_if (leb a b and ltb b n) ≡ 1
unfolding ◌and◌
fresh_yes a n b h l = rw (le-leb a b h, lt-ltb b n l) refl

pub fresh_no : (a n b : ℕ) → (a ≤ b → b < n → ⊥) → one_if (leb a b and ltb b n) ≡ 0
unfolding ◌and◌
fresh_no a n b h = go (leb a b) refl (ltb b n) refl
  where
    go : (t : Bool) → leb a b ≡ t → (u : Bool) → ltb b n ≡ u → one_if (t and u) ≡ 0
    go true p true q = absurd (h (leb-true a b p) (ltb-true b n q))
    go true p false q = refl
    go false p u q = refl

pub one_most : (t : Bool) → one_if t ≤ 1
one_most true = omega arith
one_most false = omega arith

fresh : ℕ → ℕ → ℕ → ℕ → ℕ
fresh a n b i = one_if (leb a (b + i) and ltb (b + i) n)

fresh_bits_law : (a n b k : ℕ) → fresh_bits a n b k ≡ byte_of (fresh a n b) k
unfolding fresh_bits byte_of fresh
fresh_bits_law a n b zero = refl
fresh_bits_law a n b (suc k) = rw (fresh_bits_law a n b k) refl

fresh_most : (a n b i : ℕ) → fresh a n b i ≤ 1
unfolding fresh
fresh_most a n b i = one_most (leb a (b + i) and ltb (b + i) n)

pub fresh_bit : (a n j i : ℕ) → i < 8 → bit (fresh_map a n j) i ≡ one_if (leb a (j * 8 + i) and ltb (j * 8 + i) n)
unfolding fresh_map fresh
fresh_bit a n j i h = rw (fresh_bits_law a n (j * 8) 8) (bit_of_law (fresh a n (j * 8)) (fresh_most a n (j * 8)) i h)

pub fresh_byte : (a n j : ℕ) → fresh_map a n j < 256
unfolding fresh_map
fresh_byte a n j = rw (fresh_bits_law a n (j * 8) 8) (byte_of_law (fresh a n (j * 8)) (fresh_most a n (j * 8)))

-- past the last block no bit is set
pub fresh_zero : (a n j : ℕ) → n ≤ j * 8 → fresh_map a n j ≡ 0
unfolding fresh_map fresh byte_of
fresh_zero a n j h =
    rw (fresh_bits_law a n (j * 8) 8)
    (byte_stop (fresh a n (j * 8)) 0 8 (λ i l. fresh_no a n (j * 8 + i) (λ p q. omega arith)))

pub fresh_low : (a n : ℕ) → fresh_map a n (n / 8) % 2 ^ (8 - n % 8) ≡ 0
unfolding fresh_map fresh
fresh_low a n =
    let r = n % 8 in
    let e : 8 ≡ r + (8 - r) = omega arith in
    let s = byte_stop (fresh a n (n / 8 * 8)) r (8 - r) (λ i l. fresh_no a n (n / 8 * 8 + i) (λ p q. omega arith)) in
    let t : byte_of (fresh a n (n / 8 * 8)) 8 ≡ byte_of (fresh a n (n / 8 * 8)) r = ap (byte_of (fresh a n (n / 8 * 8))) e ∙ s in
    rw (fresh_bits_law a n (n / 8 * 8) 8, t) (byte_low (fresh a n (n / 8 * 8)) r (omega arith))

module _ (a n m : ℕ) (v : Bytes) (b : ℕ) where
  pub fresh_free : v (map_at m b) ≡ fresh_map a n (b / 8) → free m v b ≡ one_if (leb a b and ltb b n)
  unfolding free
  fresh_free e =
      let p : b / 8 * 8 + b % 8 ≡ b = omega arith in
      rw (e, fresh_bit a n (b / 8) (b % 8) (omega arith), p) refl

pub fresh_room : (a n m : ℕ) (v : Bytes) → ((j : ℕ) → j * 8 < n → v (m * 512 + j) ≡ fresh_map a n j) → room m v n ≡ n - a
unfolding room map_at
fresh_room a n m v f = upto n (omega arith)
  where
    one : (b : ℕ) → b < n → free m v b ≡ b + 1 - a - (b - a)
    one b h = go (leb a b) refl (fresh_free a n m v b (f (b / 8) (omega arith)))
      where
        go : (t : Bool) → leb a b ≡ t → free m v b ≡ one_if (leb a b and ltb b n) → free m v b ≡ b + 1 - a - (b - a)
        go true p e = let l = leb-true a b p in rw (e, fresh_yes a n b l h) (omega arith)
        go false p e = let l = leb-false a b p in rw (e, fresh_no a n b (λ q r. omega arith)) (omega arith)

    upto : (k : ℕ) → k ≤ n → room m v k ≡ k - a
    upto zero h = omega arith
    upto (suc k) h = rw (upto k (omega arith), one k (omega arith)) (omega arith)

-- The bits past the last block.
module _ (m : ℕ) (v : Bytes) (n : ℕ) where
  pub rest_by
      : ((n % 8 ≡ 0 → ⊥) → v (map_at m n) % 2 ^ (8 - n % 8) ≡ 0)
      → ((j : ℕ) → (n + 7) / 8 ≤ j → j < map_blocks n * 512 → v (m * 512 + j) ≡ 0) → rest_clear m v n ≡ true
  unfolding rest_clear ◌and◌ ◌or◌
  rest_by low tail = rw (one, zero_all v (m * 512 + (n + 7) / 8) (map_blocks n * 512 - (n + 7) / 8) all_of) refl
    where
      one : (eqb (n % 8) 0 or eqb (v (map_at m n) % 2 ^ (8 - n % 8)) 0) ≡ true
      one = at_or_off (n % 8) 0 (λ e. rw (eq-eqb (n % 8) 0 e) refl) (λ h. rw (ne_eqb (n % 8) 0 h, low h) refl)

      all_of : (i : ℕ) → i < map_blocks n * 512 - (n + 7) / 8 → v (m * 512 + (n + 7) / 8 + i) ≡ 0
      all_of i h =
          let a : m * 512 + (n + 7) / 8 + i ≡ m * 512 + ((n + 7) / 8 + i) = omega arith in
          rw a (tail ((n + 7) / 8 + i) (omega arith) (omega arith))

  pub rest_low : rest_clear m v n ≡ true → (n % 8 ≡ 0 → ⊥) → v (map_at m n) % 2 ^ (8 - n % 8) ≡ 0
  unfolding rest_clear
  rest_low e h = eqb-true _ _ (or_right _ _ (and_left _ _ e) (ne_eqb (n % 8) 0 h))

  pub rest_tail : rest_clear m v n ≡ true → (j : ℕ) → (n + 7) / 8 ≤ j → j < map_blocks n * 512 → v (m * 512 + j) ≡ 0
  unfolding rest_clear
  rest_tail e j h l =
      let a : m * 512 + (n + 7) / 8 + (j - (n + 7) / 8) ≡ m * 512 + j = omega arith in
      sym (ap v a) ∙ zero_at v (m * 512 + (n + 7) / 8) (map_blocks n * 512 - (n + 7) / 8) (and_right _ _ e) (j - (n + 7) / 8) (omega arith)

pub rest_same : (m : ℕ) (v w : Bytes) (n : ℕ) → ((j : ℕ) → n / 8 ≤ j → j < map_blocks n * 512 → w (m * 512 + j) ≡ v (m * 512 + j))
    → rest_clear m v n ≡ true → rest_clear m w n ≡ true
unfolding map_at map_blocks
rest_same m v w n f e =
    rest_by m w n (λ h. rw (f (n / 8) (omega arith) (omega arith)) (rest_low m v n e h))
    (λ j h l. f j (omega arith) l ∙ rest_tail m v n e j h l)

pub same_rest : (m n : ℕ) (v w : Bytes) → MapSame m n v w → rest_clear m v n ≡ true → rest_clear m w n ≡ true
same_rest m n v w same e = rest_same m v w n (λ j h l. same (m * 512 + j) (omega arith) (omega arith)) e

-- a block of the volume given back or taken
module _ (m : ℕ) (v : Bytes) (y n : ℕ) (octets : Octets v) (low : y < n) (clear_rest : rest_clear m v n ≡ true) where
  after_y : (j : ℕ) → (n + 7) / 8 ≤ j → m * 512 + j ≡ map_at m y → ⊥
  unfolding map_at
  after_y j h e = omega arith

  pub rest_given : rest_clear m (given m v y) n ≡ true
  rest_given =
      rest_by m (given m v y) n
      (λ h. at_or_off (map_at m n) (map_at m y) (same h) (λ k. rw (given_out m v y (map_at m n) k) (rest_low m v n clear_rest h)))
      (λ j h l. given_out m v y (m * 512 + j) (after_y j h) ∙ rest_tail m v n clear_rest j h l)
    where
      same : (n % 8 ≡ 0 → ⊥) → map_at m n ≡ map_at m y → given m v y (map_at m n) % 2 ^ (8 - n % 8) ≡ 0
      same h a =
          let q = map_at_inj m n y a in
          rw (a, given_at m v y, set_low (v (map_at m y)) (y % 8) (n % 8) (octets (map_at m y)) (omega arith) (omega arith))
          (rw a at (rest_low m v n clear_rest h))

  pub rest_taken : rest_clear m (taken m v y) n ≡ true
  rest_taken =
      rest_by m (taken m v y) n
      (λ h. in_or_out (y * 512) 512 (map_at m n) (λ g l. rw (taken_in m v y (map_at m n) g l) (zero-mod (2 ^ (8 - n % 8))))
      (λ o. at_or_off (map_at m n) (map_at m y) (same h o) (λ k. rw (taken_out m v y (map_at m n) o k) (rest_low m v n clear_rest h))))
      (λ j h l. in_or_out (y * 512) 512 (m * 512 + j) (taken_in m v y (m * 512 + j))
      (λ o. taken_out m v y (m * 512 + j) o (after_y j h) ∙ rest_tail m v n clear_rest j h l))
    where
      same : (n % 8 ≡ 0 → ⊥) → (y * 512 ≤ map_at m n → map_at m n < y * 512 + 512 → ⊥) → map_at m n ≡ map_at m y
          → taken m v y (map_at m n) % 2 ^ (8 - n % 8) ≡ 0
      same h o a =
          let q = map_at_inj m n y a in
          rw (a, taken_at m v y (rw a at o), clear_low (v (map_at m y)) (y % 8) (n % 8) (octets (map_at m y)) (omega arith) (omega arith))
          (rw a at (rest_low m v n clear_rest h))

pub fresh_rest : (a n m : ℕ) (v : Bytes) → ((j : ℕ) → j < map_blocks n * 512 → v (m * 512 + j) ≡ fresh_map a n j)
    → rest_clear m v n ≡ true
unfolding map_at map_blocks
fresh_rest a n m v f =
    rest_by m v n (λ h. rw (f (n / 8) (omega arith)) (fresh_low a n)) (λ j h l. f j l ∙ fresh_zero a n j (omega arith))
