-- Set info, get info and space.
use Rattle.std.specs.Prelude.{ℕ, ◌+◌, ◌-◌, ◌/◌, ◌%◌, [], ◌∷◌, true, false, not, eqb}
use Rattle.model.specs.Bytes.{Bytes, put, put_word, word}
use Rattle.model.specs.Map.{room}
use Rattle.model.specs.Directory.{at, volume, map_block, ftype, access, used, eof, Target}
use Rattle.model.specs.Refusals.{row, first, Outcome, settle}
use Rattle.model.specs.Calls.{total, not_prodos, not_sound, bad_path, not_volume, not_directory, not_found, spot, target, put_stamp, Nothing, nothing}
use Rattle.model.specs.declared.Stamp.{Stamp}
use Rattle.model.specs.declared.Info.{Info}

-- "Set info: access, aux, modified stamp as given."
unfoldable pub info_set : Bytes → ℕ → ℕ → ℕ → Stamp → Bytes
info_set v s access aux t = put_stamp (put_word (put v (at s + 0x1E) access) (at s + 0x1F) aux) (at s + 0x21) t

-- "$53: set info: access has a bit of $1C"; "$4E: [..] set info on the volume"
unfoldable pub set_info_number : ℕ → Bytes → Bytes → ℕ → ℕ → Target → ℕ
set_info_number len v p k access t =
    first
    (not_prodos len v
    ∷ not_sound len v
    ∷ bad_path p k
    ∷ row (not (eqb (access / 4 % 8) 0)) 0x53
    ∷ not_volume t
    ∷ not_directory t
    ∷ not_found t
    ∷ row (eqb (spot t) volume) 0x4E
    ∷ [])

unfoldable pub set_info : ℕ → Bytes → Bytes → ℕ → ℕ → ℕ → Stamp → Outcome Nothing
set_info len v p k access aux t =
    let x = target v p k in
    settle (set_info_number len v p k access x) nothing v nothing (info_set v (spot x) access aux t)

-- the stamp at an address
unfoldable pub stamp_at : Bytes → ℕ → Stamp
stamp_at v a = record { date = word v a; time = word v (a + 2) }

abbrev pub created : Bytes → ℕ → Stamp
created v s = stamp_at v (at s + 0x18)

-- "Get info: kind, type, access, aux, blocks used, EOF, stamps"
unfoldable pub entry_info : Bytes → ℕ → Info
entry_info v s =
    record {
      kind = v (at s) / 16;
      ftype = ftype v s;
      access = access v s;
      aux = word v (at s + 0x1F);
      used = used v s;
      eof = eof v s;
      created = created v s;
      modified = stamp_at v (at s + 0x21);
    }

-- "for the volume kind $F, type $0F, aux total, used total minus free, EOF 2,048, creation stamp twice"
unfoldable pub volume_info : ℕ → Bytes → Info
volume_info n v =
    record {
      kind = 0xF;
      ftype = ftype v volume;
      access = access v volume;
      aux = n;
      used = n - room (map_block v) v n;
      eof = eof v volume;
      created = created v volume;
      modified = created v volume;
    }

unfoldable pub info : ℕ → Bytes → ℕ → Info
info n v s = elim (eqb s volume) [ true ↦ volume_info n v | false ↦ entry_info v s ]

abbrev pub no_stamp : Stamp
no_stamp = record { date = 0; time = 0 }

abbrev pub no_info : Info
no_info = record { kind = 0; ftype = 0; access = 0; aux = 0; used = 0; eof = 0; created = no_stamp; modified = no_stamp }

unfoldable pub get_info_number : ℕ → Bytes → Bytes → ℕ → Target → ℕ
get_info_number len v p k t = first (not_prodos len v ∷ not_sound len v ∷ bad_path p k ∷ not_volume t ∷ not_directory t ∷ not_found t ∷ [])

unfoldable pub get_info : ℕ → Bytes → Bytes → ℕ → Outcome Info
get_info len v p k =
    let t = target v p k in
    settle (get_info_number len v p k t) no_info v (info (total len) v (spot t)) v

-- "Space: total, free."
pub record Space : Type 0 where
  pub total : ℕ
  pub unused : ℕ

abbrev pub no_space : Space
no_space = record { total = 0; unused = 0 }

unfoldable pub space_number : ℕ → Bytes → ℕ
space_number len v = first (not_prodos len v ∷ not_sound len v ∷ [])

unfoldable pub space : ℕ → Bytes → Outcome Space
space len v = settle (space_number len v) no_space v (record { total = total len; unused = room (map_block v) v (total len) }) v
