-- The map. "Block b's bit is in map byte b div 8, weight 2^(7 - b mod 8). 1 is free." m is the map's first block.
use Rattle.std.specs.Prelude.{ℕ, zero, suc, ◌+◌, ◌-◌, ◌*◌, ◌/◌, ◌%◌, ◌^◌, Bool, true, false, leb, ltb, eqb}
use Rattle.model.specs.Bytes.{Bytes, put, clear, ◌and◌, ◌or◌, one_if}

-- "The map [..] has one block per 4,096 blocks or part of that."
unfoldable pub map_blocks : ℕ → ℕ
map_blocks n = (n + 4095) / 4096

unfoldable pub weight : ℕ → ℕ
weight i = 2 ^ (7 - i)

-- bit i of a byte, counted from the high end; the byte with that bit set, and clear
unfoldable pub bit : ℕ → ℕ → ℕ
bit x i = x / weight i % 2

unfoldable pub set_bit : ℕ → ℕ → ℕ
set_bit x i = x + weight i * (1 - bit x i)

unfoldable pub clear_bit : ℕ → ℕ → ℕ
clear_bit x i = x - weight i * bit x i

-- the address of the byte that holds the bit of block b
unfoldable pub map_at : ℕ → ℕ → ℕ
map_at m b = m * 512 + b / 8

-- 1 where block b is free, else 0
unfoldable pub free : ℕ → Bytes → ℕ → ℕ
free m v b = bit (v (map_at m b)) (b % 8)

-- the number of free blocks among the first n
unfoldable pub room : ℕ → Bytes → ℕ → ℕ
room m v zero = 0
room m v (suc n) = room m v n + free m v n

-- the first free one of the k blocks from b on, or b + k
unfoldable pub first_free : ℕ → Bytes → ℕ → ℕ → ℕ
first_free m v b zero = b
first_free m v b (suc k) = elim (eqb (free m v b) 1) [ true ↦ b | false ↦ first_free m v (b + 1) k ]

-- the lowest free block of a volume of n blocks, n where there is none
unfoldable pub lowest : ℕ → Bytes → ℕ → ℕ
lowest m v n = first_free m v 0 n

-- "New blocks are [..] zeroed when taken." "Freed blocks [..] keep the bytes they had."
unfoldable pub taken : ℕ → Bytes → ℕ → Bytes
taken m v b = clear (put v (map_at m b) (clear_bit (v (map_at m b)) (b % 8))) (b * 512) 512

unfoldable pub given : ℕ → Bytes → ℕ → Bytes
given m v b = put v (map_at m b) (set_bit (v (map_at m b)) (b % 8))

-- the k bytes of v from a on are 0
unfoldable pub all_zero : Bytes → ℕ → ℕ → Bool
all_zero v a zero = true
all_zero v a (suc k) = elim (eqb (v a) 0) [ true ↦ all_zero v (a + 1) k | false ↦ false ]

-- "Bits for numbers not on the volume are 0 to the end of the last map block": the low bits of the byte that holds the last block's, where
-- that byte has any, and all bytes after it.
unfoldable pub rest_clear : ℕ → Bytes → ℕ → Bool
rest_clear m v n =
    (eqb (n % 8) 0 or eqb (v (map_at m n) % 2 ^ (8 - n % 8)) 0)
    and all_zero v (m * 512 + (n + 7) / 8) (map_blocks n * 512 - (n + 7) / 8)

-- map byte j of a volume on which just the blocks from a to n - 1 are free
unfoldable pub fresh_bits : ℕ → ℕ → ℕ → ℕ → ℕ
fresh_bits a n b zero = 0
fresh_bits a n b (suc i) = fresh_bits a n b i + one_if (leb a (b + i) and ltb (b + i) n) * weight i

unfoldable pub fresh_map : ℕ → ℕ → Bytes
fresh_map a n = λ j. fresh_bits a n (j * 8) 8
