-- The parts of a new entry: its EOF, and its bytes before the creation stamp.
use Rattle.std.specs.Prelude.{ℕ, true, false, eqb}
use Rattle.model.specs.Bytes.{Bytes, put, put_word, put_long}
use Rattle.model.specs.Names.{Part}
use Rattle.model.specs.Calls.{name_field}
use Rattle.model.specs.Create.{directory_kind}

unfoldable pub first_eof : ℕ → ℕ
first_eof kind = elim (eqb kind directory_kind) [ true ↦ 512 | false ↦ 0 ]

abbrev pub entry_front : Bytes → Part → ℕ → ℕ → ℕ → Bytes
entry_front p x kind ftype z =
    put_long (put_word (put_word (put (name_field kind p x) 0x10 ftype) 0x11 z) 0x13 1) 0x15 (first_eof kind)
