-- Format: "zero all, then links 2 to 5, header (access $C3, versions 0, given name and stamp), map."
use Rattle.std.specs.Prelude.{ℕ, ◌+◌, ◌*◌, List, [], ◌∷◌, not}
use Rattle.model.specs.Bytes.{Bytes, put, paste, zeros, put_word}
use Rattle.model.specs.Names.{Part, part, proper_name}
use Rattle.model.specs.Map.{map_blocks, fresh_map}
use Rattle.model.specs.Directory.{at, volume, volume_chain, map_place, slot_size, slots_in_block}
use Rattle.model.specs.Sound.{whole_blocks}
use Rattle.model.specs.Refusals.{row, first, Outcome, settle}
use Rattle.model.specs.Calls.{total, put_stamp, name_field, Nothing, nothing}
use Rattle.model.specs.declared.Stamp.{Stamp}

-- both ways through the blocks of a chain that follows p
unfoldable pub linked : Bytes → ℕ → List ℕ → Bytes
linked f p [] = f
linked f p (b ∷ []) = put_word f (b * 512) p
linked f p (b ∷ c ∷ r) = linked (put_word (put_word f (b * 512) p) (b * 512 + 2) c) b (c ∷ r)

-- the 39 bytes of a header: kind, name, stamp, access, and no active entry
unfoldable pub header_bytes : ℕ → Bytes → Part → Stamp → ℕ → Bytes
header_bytes kind p x t access = put (put (put (put_stamp (name_field kind p x) 0x18 t) 0x1E access) 0x1F slot_size) 0x20 slots_in_block

-- the volume's header on n blocks
unfoldable pub volume_header : ℕ → Bytes → Part → Stamp → Bytes
volume_header n q x t = put_word (put_word (header_bytes 0xF q x t 0xC3) 0x23 map_place) 0x25 n

-- a fresh volume of n blocks: free are the blocks after the map
unfoldable pub formatted : ℕ → Bytes → ℕ → Stamp → Bytes
formatted n q j t =
    paste
    (paste (linked zeros 0 volume_chain) (at volume) 39 (volume_header n q (part 0 j) t))
    (map_place * 512)
    (map_blocks n * 512)
    (fresh_map (map_place + map_blocks n) n)

-- the name q of j bytes
unfoldable pub format_number : ℕ → Bytes → ℕ → ℕ
format_number len q j = first (row (not (whole_blocks len)) 0x52 ∷ row (not (proper_name q 0 j)) 0x40 ∷ [])

unfoldable pub format : ℕ → Bytes → Bytes → ℕ → Stamp → Outcome Nothing
format len v q j t = settle (format_number len q j) nothing v nothing (formatted (total len) q j t)
