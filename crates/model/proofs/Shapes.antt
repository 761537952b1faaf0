-- The shapes of document 01 that two ends could get wrong alike, each at an example: where a bit, a pointer's halves, a number's bytes and a slot stand.
use mathlib.Core.Path.{◌≡◌, refl}
use Rattle.model.specs.Bytes.{zeros, put, paste, digit, word, put_word}
use Rattle.model.specs.Map.{weight, bit, map_at, free}
use Rattle.model.specs.Directory.{place, at, slot_of}
use Rattle.model.specs.File.{pointer, put_pointer}

-- "Block b's bit is in map byte b div 8, weight 2^(7 - b mod 8). 1 is free": in a map of $01, only block 7 of the first eight is free
map_shape : ((free 6 (put zeros 3072 0x01) 7 ≡ 1) × (free 6 (put zeros 3072 0x01) 0 ≡ 0)) × (free 6 (put zeros 3073 0x80) 8 ≡ 1)
unfolding free bit weight map_at put
map_shape = ((refl, refl), refl)

-- "An index holds 256 pointers, low bytes in its first half, high bytes in its second"
pointer_shape : (pointer (put (put zeros 5123 7) 5379 1) 10 3 ≡ 263) × ((put_pointer zeros 10 3 263 5123 ≡ 7) × (put_pointer zeros 10 3 263 5379 ≡ 1))
unfolding pointer put_pointer put
pointer_shape = (refl, (refl, refl))

-- "Two- and three-byte numbers are low byte first"
word_shape : (word (put (put zeros 2 0x34) 3 0x12) 2 ≡ 0x1234) × ((put_word zeros 2 0x1234 2 ≡ 0x34) × (put_word zeros 2 0x1234 3 ≡ 0x12))
unfolding word put_word paste digit put
word_shape = (refl, (refl, refl))

-- "13 slots of 39 bytes from byte 4, counted 1 to 13": the first slot of block 8 is slot 1, at byte 4 of the block
slot_shape : (slot_of (place 8 1) ≡ 1) × ((at (place 8 1) ≡ 4100) × (at (place 8 2) ≡ 4139))
unfolding place at
slot_shape = (refl, (refl, refl))
