-- A file that grows, and its entry written anew, by what the entry said: the numbers are given, not read from the image.
use Rattle.std.specs.Prelude.{ℕ, ◌+◌, ◌-◌, ◌*◌, true, false, ltb}
use Rattle.model.specs.Bytes.{Bytes, put, put_word, put_long}
use Rattle.model.specs.Names.{name_size}
use Rattle.model.specs.File.{height_for}
use Rattle.model.specs.Grow.{zeroed_from, raised, raised_key}
use Rattle.model.specs.Calls.{backed_up, put_stamp}
use Rattle.model.specs.declared.Stamp.{Stamp}

-- the entry at the address a of a file that has now the height h, the key k, u blocks and the EOF e
unfoldable pub noted_as : Bytes → ℕ → ℕ → ℕ → ℕ → ℕ → Stamp → Bytes
noted_as v a h k u e t =
    let f = put_word (put v a ((h + 1) * 16 + name_size v a)) (a + 0x11) k in
    let f = put_long (put_word f (a + 0x13) u) (a + 0x15) e in
    put_stamp (put f (a + 0x1E) (backed_up (v (a + 0x1E)))) (a + 0x21) t

-- a file of height h, with the key k and the EOF o, as EOF grows to e
unfoldable pub grown_from : ℕ → ℕ → Bytes → ℕ → ℕ → ℕ → ℕ → Bytes
grown_from m n v h k o e =
    let f : Bytes = elim (ltb o e) [ true ↦ zeroed_from v h k o | false ↦ v ] in
    raised m n f k (height_for e - h)

unfoldable pub grown_key_from : ℕ → ℕ → Bytes → ℕ → ℕ → ℕ → ℕ → ℕ
grown_key_from m n v h k o e =
    let f : Bytes = elim (ltb o e) [ true ↦ zeroed_from v h k o | false ↦ v ] in
    raised_key m n f k (height_for e - h)
