-- Stored names as rows of bits, and a tree of them in which each stands where its bits lead. A name is known by its slot's address.
use Rattle.std.specs.Prelude.{ℕ, zero, suc, ◌+◌, ◌-◌, ◌*◌, ◌/◌, ◌%◌, ◌^◌, ◌<◌, ◌≤◌, ◌≡◌, List, [], ◌∷◌, Bool, true, false, not, length, get_or, leb, ltb, eqb}
use Rattle.model.specs.Bytes.{Bytes, put, from, ◌and◌}
use Rattle.model.specs.Names.{alike}
use Rattle.twins.specs.declared.Node.{Node}
use Rattle.twins.specs.declared.Spot.{Spot}

-- each slot lies in an image of n bytes
abbrev pub Stored : ℕ → List ℕ → Type 0
Stored n xs = (i : ℕ) → i < length xs → get_or xs i 0 + 39 ≤ n

-- the name at a is none of those at the others; no two of all are alike
unfoldable pub alone : Bytes → ℕ → List ℕ → Bool
alone f a [] = true
alone f a (b ∷ bs) = not (alike f a b) and alone f a bs

unfoldable pub no_twins : Bytes → List ℕ → Bool
no_twins f [] = true
no_twins f (a ∷ bs) = alone f a bs and no_twins f bs

abbrev pub when : Bool → ℕ → ℕ → ℕ
when true a b = a
when false a b = b

-- the length, then the name's bytes, then zeros
unfoldable pub digit_of : Bytes → ℕ → ℕ
digit_of g zero = g 0 % 16
digit_of g (suc k) = when (leb (suc k) (g 0 % 16)) (g (suc k)) 0

-- the first k digits mixed into 32 bits
unfoldable pub mixed : Bytes → ℕ → ℕ
mixed g zero = 0
mixed g (suc k) = (mixed g k * 31 + digit_of g k) % 4294967296

abbrev pub hash_of : Bytes → ℕ
hash_of g = mixed g 16

-- bit i of the digits, eight for each
unfoldable pub own_bit : Bytes → ℕ → Bool
own_bit g i = eqb (digit_of g (i / 8 % 16) / 2 ^ (i % 8) % 2) 1

-- bit i of a name: 32 of the hash, then its own
unfoldable pub bit_of : Bytes → ℕ → Bool
bit_of g i = elim (ltb i 32) [ true ↦ eqb (hash_of g / 2 ^ i % 2) 1 | false ↦ own_bit g (i - 32) ]

-- the bits of name j
abbrev pub key_of : Bytes → List ℕ → ℕ → (ℕ → Bool)
key_of f xs j = bit_of (from f (get_or xs j 0))

-- the nodes' children on each side
abbrev pub leaf : Node
leaf = record { left = 0; right = 0 }

unfoldable pub lefts : List Node → Bytes
lefts ns m = (get_or ns m leaf).left

unfoldable pub rights : List Node → Bytes
rights ns m = (get_or ns m leaf).right

-- a node's child: the right one where the bit is 1; 0 is none
abbrev pub child : Bytes → Bytes → Bool → ℕ → ℕ
child l r b m = when b (r m) (l m)

-- where so many bits lead from the root, and that each step leads to a node
unfoldable pub walk : Bytes → Bytes → (ℕ → Bool) → ℕ → ℕ
walk l r key zero = 0
walk l r key (suc d) = child l r (key d) (walk l r key d)

abbrev pub Alive : Bytes → Bytes → (ℕ → Bool) → ℕ → Type 0
Alive l r key d = (i : ℕ) → i < d → walk l r key (suc i) ≡ 0 → ⊥

-- the children on one side, with the new node k at one of them where the bit says this side
unfoldable pub attached : Bytes → Bool → Bool → ℕ → ℕ → Bytes
attached g true true node k = put (put g k 0) node k
attached g true false node k = put g k 0
attached g false true node k = put g k 0
attached g false false node k = put (put g k 0) node k

-- name j is met on the way of its bits
abbrev pub Met : Bytes → List ℕ → Bytes → Bytes → ℕ → Type 0
Met f xs l r j = (d : ℕ) × Alive l r (key_of f xs j) d × (walk l r (key_of f xs j) d ≡ j)

-- The first k names stand in the tree: a child is a later node, and each name is met.
pub record Tree (f : Bytes) (xs : List ℕ) (k : ℕ) (l r : Bytes) : Type 0 where
  pub later : (b : Bool) (m : ℕ) → m < k → (child l r b m ≡ 0 → ⊥) → (m < child l r b m) × (child l r b m < k)
  pub met : (j : ℕ) → j < k → Met f xs l r j

-- No two of the first k are alike.
abbrev pub Apart : Bytes → List ℕ → ℕ → Type 0
Apart f xs k = (i j : ℕ) → i < j → j < k → alike f (get_or xs i 0) (get_or xs j 0) ≡ false

-- One of those before name k is alike.
abbrev pub HasTwin : Bytes → List ℕ → ℕ → Type 0
HasTwin f xs k = (j : ℕ) × (j < k) × (alike f (get_or xs j 0) (get_or xs k 0) ≡ true)

-- The walk of name k ended at a spot where it can be attached, and none before it is alike.
pub record Lands (f : Bytes) (xs : List ℕ) (k : ℕ) (l r : Bytes) (s : Spot) : Type 0 where
  pub inside : s.node < k
  pub alone : (j : ℕ) → j < k → alike f (get_or xs j 0) (get_or xs k 0) ≡ false
  pub way : (d : ℕ) × Alive l r (key_of f xs k) d × (walk l r (key_of f xs k) d ≡ s.node) × (key_of f xs k d ≡ s.bit)
  pub free : child l r s.bit s.node ≡ 0
