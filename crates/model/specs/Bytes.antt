-- Bytes by address, tests and sums. "Two- and three-byte numbers are low byte first."
use Rattle.std.specs.Prelude.{ℕ, zero, suc, ◌+◌, ◌-◌, ◌*◌, ◌/◌, ◌%◌, ◌^◌, ◌<◌, List, [], ◌∷◌, ◌++◌, Bool, true, false, get_or, leb, ltb, eqb}

infixr 40 ◌and◌ ◌or◌
-- An image or a buffer is a function of the address, 0 past its end.
abbrev pub Bytes : Type 0
Bytes = ℕ → ℕ

abbrev pub view : List ℕ → Bytes
view l = λ i. get_or l i 0

-- every byte is below 256, as those of a lent slice are
abbrev pub Octets : Bytes → Type 0
Octets f = (i : ℕ) → f i < 256

-- one byte is changed
unfoldable pub put : Bytes → ℕ → ℕ → Bytes
put f a c = λ i. elim (eqb i a) [ true ↦ c | false ↦ f i ]

-- the k bytes from a on come from g, counted from 0
unfoldable pub paste : Bytes → ℕ → ℕ → Bytes → Bytes
paste f a k g = λ i. elim (leb a i) [ true ↦ elim (ltb i (a + k)) [ true ↦ g (i - a) | false ↦ f i ] | false ↦ f i ]

-- the bytes from a on
abbrev pub from : Bytes → ℕ → Bytes
from f a = λ i. f (a + i)

-- one byte everywhere
abbrev pub same : ℕ → Bytes
same x = λ _. x

abbrev pub zeros : Bytes
zeros = same 0

unfoldable pub clear : Bytes → ℕ → ℕ → Bytes
clear f a k = paste f a k zeros

-- byte i of a number, low byte first
unfoldable pub digit : ℕ → Bytes
digit x = λ i. x / 256 ^ i % 256

-- numbers of two and of three bytes
unfoldable pub word : Bytes → ℕ → ℕ
word f a = f a + 256 * f (a + 1)

unfoldable pub long : Bytes → ℕ → ℕ
long f a = f a + 256 * f (a + 1) + 65536 * f (a + 2)

unfoldable pub put_word : Bytes → ℕ → ℕ → Bytes
put_word f a x = paste f a 2 (digit x)

unfoldable pub put_long : Bytes → ℕ → ℕ → Bytes
put_long f a x = paste f a 3 (digit x)

-- the k bytes of f from a on are those of g from b on
unfoldable pub equal_bytes : Bytes → ℕ → Bytes → ℕ → ℕ → Bool
equal_bytes f a g b zero = true
equal_bytes f a g b (suc k) = elim (eqb (f a) (g b)) [ true ↦ equal_bytes f (a + 1) g (b + 1) k | false ↦ false ]

-- the first place among the k from a on that has the byte c, or their end
unfoldable pub place_of : Bytes → ℕ → ℕ → ℕ → ℕ
place_of f c a zero = a
place_of f c a (suc k) = elim (eqb (f a) c) [ true ↦ a | false ↦ place_of f c (a + 1) k ]

-- Tests, and what they count for.
unfoldable pub ◌and◌ : Bool → Bool → Bool
true and b = b
false and b = false

unfoldable pub ◌or◌ : Bool → Bool → Bool
true or b = true
false or b = b

unfoldable pub within : ℕ → ℕ → ℕ → Bool
within low high x = leb low x and leb x high

abbrev pub one_if : Bool → ℕ
one_if true = 1
one_if false = 0

abbrev pub is : ℕ → ℕ → ℕ
is a b = one_if (eqb a b)

-- a fault where two numbers differ, or a test fails
abbrev pub ne : ℕ → ℕ → ℕ
ne a b = 1 - is a b

abbrev pub unless : Bool → ℕ
unless t = 1 - one_if t

-- Sums over lists, and lists put together.
unfoldable pub sum : {A : Type 0} → (A → ℕ) → List A → ℕ
sum g [] = 0
sum g (x ∷ xs) = g x + sum g xs

abbrev pub count : ℕ → List ℕ → ℕ
count b = sum (is b)

unfoldable pub gather : {A B : Type 0} → (A → List B) → List A → List B
gather g [] = []
gather g (x ∷ xs) = g x ++ gather g xs

-- c numbers from a on
unfoldable pub run : ℕ → ℕ → List ℕ
run a zero = []
run a (suc c) = a ∷ run (suc a) c
