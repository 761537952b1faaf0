-- Create: "first inactive slot in chain order; a full subdirectory first gains a block at its end (its entry: blocks used +1, EOF +512), then
-- the file's block is taken. All 39 bytes are written."
use Rattle.std.specs.Prelude.{ℕ, zero, suc, ◌+◌, ◌*◌, [], ◌∷◌, Bool, true, false, not, ltb, eqb}
use Rattle.std.proofs.Math.Option.{Option, none, some}
use Rattle.model.specs.Bytes.{Bytes, put, paste, put_word, put_long, ◌and◌, ◌or◌}
use Rattle.model.specs.Names.{Part, parts}
use Rattle.model.specs.Map.{room, lowest, taken}
use Rattle.model.specs.Directory.{at, block_of, slot_of, volume, slot_size, directory_type, map_block, active_count, next, key, used, eof, kids, vacant, Target}
use Rattle.model.specs.Refusals.{row, first, Outcome, settle}
use Rattle.model.specs.Calls.{total, not_prodos, not_sound, bad_path, not_volume, not_directory, is_there, home, target, last_part, put_stamp, name_field, Nothing, nothing}
use Rattle.model.specs.Format.{header_bytes}
use Rattle.model.specs.declared.Stamp.{Stamp}

-- What is to be created: a kind ($1 or $D), a type, aux and a stamp.
pub record Wanted : Type 0 where
  pub kind : ℕ
  pub ftype : ℕ
  pub aux : ℕ
  pub stamp : Stamp

abbrev pub directory_kind : ℕ
directory_kind = 0xD

-- the last block of a chain of u blocks from k on, which follows y
unfoldable pub last_block : Bytes → ℕ → ℕ → ℕ → ℕ
last_block v y k zero = y
last_block v y k (suc u) = last_block v k (next v k) u

-- the directory at d gains the block z at its end, after y
unfoldable pub gained : ℕ → Bytes → ℕ → ℕ → ℕ → Bytes
gained m v d y z =
    put_long
    (put_word (put_word (put_word (taken m v z) (z * 512) y) (y * 512 + 2) z) (at d + 0x13) (used v d + 1))
    (at d + 0x15)
    (eof v d + 512)

-- the 39 bytes of a new entry with the key z, in the directory whose key is k
unfoldable pub entry_bytes : Bytes → Part → Wanted → ℕ → ℕ → Bytes
entry_bytes p x w z k =
    let e = put (name_field w.kind p x) 0x10 w.ftype in
    let e = put_word (put_word e 0x11 z) 0x13 1 in
    let e = put_long e 0x15 (elim (eqb w.kind directory_kind) [ true ↦ 512 | false ↦ 0 ]) in
    let e = put_word (put (put_stamp e 0x18 w.stamp) 0x1E 0xE3) 0x1F w.aux in
    put_word (put_stamp e 0x21 w.stamp) 0x25 k

-- "Its header has the stamp, access $E3, reserved $75 then seven zeros, versions 0": the header of the directory whose entry is at s
unfoldable pub subdirectory_header : Bytes → Part → Stamp → ℕ → Bytes
subdirectory_header p x t s =
    put (put (put_word (put (header_bytes 0xE p x t 0xE3) 0x10 0x75) 0x23 (block_of s)) 0x25 (slot_of s)) 0x26 slot_size

-- the entry at s of the directory d, with the block z
unfoldable pub entered : ℕ → Bytes → ℕ → ℕ → ℕ → Bytes → Part → Wanted → Bytes
entered m v d s z p x w =
    let f = taken m v z in
    let g : Bytes = elim (eqb w.kind directory_kind) [ true ↦ paste f (z * 512 + 4) 39 (subdirectory_header p x w.stamp s) | false ↦ f ] in
    paste (put_word g (key v d * 512 + 0x25) (active_count v (key v d) + 1)) (at s) 39 (entry_bytes p x w z (key v d))

unfoldable pub created_at : Option ℕ → ℕ → ℕ → Bytes → ℕ → Bytes → Part → Wanted → Bytes
created_at (some s) m n v d p x w = entered m v d s (lowest m v n) p x w
created_at none m n v d p x w =
    let z = lowest m v n in
    let g = gained m v d (last_block v 0 (key v d) (used v d)) z in
    entered m g d (z * 13) (lowest m g n) p x w

unfoldable pub created : ℕ → ℕ → Bytes → ℕ → Bytes → Part → Wanted → Bytes
created m n v d p x w = created_at (vacant v (kids v d)) m n v d p x w

-- the blocks that a create takes, and whether the directory has no inactive slot
unfoldable pub is_full : Option ℕ → Bool
is_full none = true
is_full (some s) = false

abbrev pub full : Bytes → ℕ → Bool
full v d = is_full (vacant v (kids v d))

unfoldable pub create_need : Bytes → ℕ → ℕ
create_need v d = elim (full v d) [ true ↦ 2 | false ↦ 1 ]

unfoldable pub wrong_type : Wanted → Bool
wrong_type w = elim (eqb w.kind directory_kind) [ true ↦ not (eqb w.ftype directory_type) | false ↦ eqb w.ftype directory_type ]

unfoldable pub create_number : ℕ → Bytes → Bytes → ℕ → Wanted → Target → ℕ
create_number len v p k w t =
    first
    (not_prodos len v
    ∷ not_sound len v
    ∷ bad_path p k
    ∷ row (not (eqb w.kind 1 or eqb w.kind directory_kind)) 0x4B
    ∷ row (wrong_type w) 0x53
    ∷ not_volume t
    ∷ not_directory t
    ∷ row (is_there t) 0x47
    ∷ row (eqb (home t) volume and full v (home t)) 0x49
    ∷ row (ltb (room (map_block v) v (total len)) (create_need v (home t))) 0x48
    ∷ [])

-- the path p of k bytes
unfoldable pub create : ℕ → Bytes → Bytes → ℕ → Wanted → Outcome Nothing
create len v p k w =
    let t = target v p k in
    settle (create_number len v p k w t) nothing v nothing (created (map_block v) (total len) v (home t) p (last_part (parts p k)) w)
