-- Write: "length 0 changes nothing. Else EOF becomes the larger of EOF and end; stamp and backup bit set."
use Rattle.std.specs.Prelude.{ℕ, zero, suc, ◌+◌, ◌-◌, ◌*◌, ◌/◌, min, max, [], ◌∷◌, true, false, not, ltb, eqb, length}
use Rattle.model.specs.Bytes.{Bytes, put, paste, from, put_word, put_long, ◌or◌}
use Rattle.model.specs.Names.{name_size}
use Rattle.model.specs.Map.{room}
use Rattle.model.specs.Directory.{at, map_block, sort, key, eof, access, Target}
use Rattle.model.specs.File.{eof_most, height_for, height, nodes, data_block}
use Rattle.model.specs.Refusals.{row, first, Outcome, settle}
use Rattle.model.specs.Calls.{total, not_prodos, not_sound, bad_path, not_volume, not_directory, not_found, not_data, spot, target, allows, write_bit, backed_up, put_stamp}
use Rattle.model.specs.Grow.{zeroed_from, raised, raised_key, backed, need}
use Rattle.model.specs.declared.Stamp.{Stamp}

-- The entry at s of a file that has now the height h, the key k and this EOF: blocks used follows, stamp and backup bit are set.
unfoldable pub noted : Bytes → ℕ → ℕ → ℕ → ℕ → Stamp → Bytes
noted v s h k e t =
    let a = at s in
    let f = put_word (put v a ((h + 1) * 16 + name_size v a)) (a + 0x11) k in
    let f = put_long (put_word f (a + 0x13) (length (nodes v h 0 k))) (a + 0x15) e in
    put_stamp (put f (a + 0x1E) (backed_up (access v s))) (a + 0x21) t

-- the file at s as EOF grows to e: its bytes at old EOF and after zeroed, then the new keys
unfoldable pub grown : ℕ → ℕ → Bytes → ℕ → ℕ → Bytes
grown m n v s e =
    let h = height (sort v s) in
    let f : Bytes = elim (ltb (eof v s) e) [ true ↦ zeroed_from v h (key v s) (eof v s) | false ↦ v ] in
    raised m n f (key v s) (height_for e - h)

unfoldable pub grown_key : ℕ → ℕ → Bytes → ℕ → ℕ → ℕ
grown_key m n v s e =
    let h = height (sort v s) in
    let f : Bytes = elim (ltb (eof v s) e) [ true ↦ zeroed_from v h (key v s) (eof v s) | false ↦ v ] in
    raised_key m n f (key v s) (height_for e - h)

-- of the data at position pos, what falls into file block p is laid there
unfoldable pub laid : Bytes → ℕ → ℕ → ℕ → ℕ → Bytes → ℕ → Bytes
laid v h k p pos buffer size =
    let start = max pos (p * 512) in
    let end = min (pos + size) (p * 512 + 512) in
    paste v (data_block v h k p * 512 + (start - p * 512)) (end - start) (from buffer (start - pos))

-- the next c file blocks from p on: what is missing is taken, then the data are laid
unfoldable pub poured : ℕ → ℕ → Bytes → ℕ → ℕ → ℕ → ℕ → ℕ → Bytes → ℕ → Bytes
poured m n v h k p zero pos buffer size = v
poured m n v h k p (suc c) pos buffer size =
    poured m n (laid (backed m n v h k p) h k p pos buffer size) h k (p + 1) c pos buffer size

-- the file blocks that size bytes at pos touch, size not 0
abbrev pub touched : ℕ → ℕ → ℕ
touched pos size = (pos + size - 1) / 512 + 1 - pos / 512

unfoldable pub written : ℕ → ℕ → Bytes → ℕ → ℕ → Bytes → ℕ → Stamp → Bytes
written m n v s pos buffer size t =
    let e = max (eof v s) (pos + size) in
    let h = height_for e in
    let k = grown_key m n v s e in
    noted (poured m n (grown m n v s e) h k (pos / 512) (touched pos size) pos buffer size) s h k e t

unfoldable pub write_need : Bytes → ℕ → ℕ → ℕ → ℕ
write_need v s pos size =
    elim (eqb size 0) [
      | true ↦ 0
      | false ↦ need v (height (sort v s)) (key v s) (height_for (max (eof v s) (pos + size))) (pos / 512) (touched pos size)
    ]

unfoldable pub write_number : ℕ → Bytes → Bytes → ℕ → ℕ → ℕ → Target → ℕ
write_number len v p k pos size t =
    first
    (not_prodos len v
    ∷ not_sound len v
    ∷ bad_path p k
    ∷ not_volume t
    ∷ not_directory t
    ∷ not_found t
    ∷ not_data v (spot t)
    ∷ row (not (allows (access v (spot t)) write_bit)) 0x4E
    ∷ row (ltb (eof v (spot t)) pos or ltb eof_most (pos + size)) 0x4D
    ∷ row (ltb (room (map_block v) v (total len)) (write_need v (spot t) pos size)) 0x48
    ∷ [])

-- size bytes of a buffer, at a position of the file that the path p of k bytes names; the image has len bytes
unfoldable pub write : ℕ → Bytes → Bytes → ℕ → ℕ → Bytes → ℕ → Stamp → Outcome ℕ
write len v p k pos buffer size t =
    let x = target v p k in
    settle (write_number len v p k pos size x) 0 v size
    (elim (eqb size 0) [ true ↦ v | false ↦ written (map_block v) (total len) v (spot x) pos buffer size t ])
