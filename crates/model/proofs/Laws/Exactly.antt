-- "The first that applies is given": a call is refused with a number exactly when a row of its table with that number applies and none before it.
use Prim.Native.Nat.{ℕ, ◌+◌, ◌-◌, ◌/◌, ◌%◌}
use mathlib.Core.Path.{◌≡◌, refl, sym, subst, ◌∙◌}
use mathlib.Core.Logic.{◌↔◌}
use mathlib.Core.List.{List, [], ◌∷◌}
use mathlib.Core.Bool.{Bool, true, false, not, false≢true}
use lib.Dec.{leb, ltb, eqb}
use borrow.Author.Tests.{eqb-false}
use Rattle.model.specs.Bytes.{Bytes, ◌and◌, ◌or◌}
use Rattle.model.specs.Names.{proper_path, proper_name}
use Rattle.model.specs.Map.{room}
use Rattle.model.specs.Directory.{volume, map_block, access, sort, eof, Target}
use Rattle.model.specs.File.{eof_most, height_for, height}
use Rattle.model.specs.Sound.{whole_blocks}
use Rattle.model.specs.Refusals.{Row, row, first, settle}
use Rattle.model.specs.Calls.{total, not_prodos, not_sound, bad_path, not_volume, not_directory, not_found, not_data, is_there, home, spot, target, allows, rename_bit, write_bit, read_bit}
use Rattle.model.specs.Format.{format_number, format}
use Rattle.model.specs.Create.{Wanted, directory_kind, full, create_need, wrong_type, create_number, create}
use Rattle.model.specs.Destroy.{may_destroy, destroy_number, destroy}
use Rattle.model.specs.Rename.{name_taken, rename_number, rename}
use Rattle.model.specs.Info.{set_info_number, set_info, get_info_number, get_info, space_number, space}
use Rattle.model.specs.Read.{read_number, read}
use Rattle.model.specs.Write.{write_need, write_number, write}
use Rattle.model.specs.SetEof.{set_eof_number, set_eof}
use Rattle.model.specs.declared.Stamp.{Stamp}
use Rattle.model.proofs.RefusalLaws.{first_applies, first_passes}
use Rattle.model.proofs.Laws.Lookup.{first_zero, numbered}

-- a row of the table with the number k applies, and no row before it does
pub data Given : List Row → ℕ → Type 0 where
  here : {r : Row} {rs : List Row} → r.applies ≡ true → Given (r ∷ rs) r.number
  later : {r : Row} {rs : List Row} {k : ℕ} → r.applies ≡ false → Given rs k → Given (r ∷ rs) k

-- no row applies
abbrev pub Passes : List Row → Type 0
Passes [] = Unit {0}
Passes (r ∷ rs) = (r.applies ≡ false) × Passes rs

pub given_first : {rs : List Row} {k : ℕ} → Given rs k → first rs ≡ k
given_first (here {r = r} {rs = rs} h) = first_applies r rs h
given_first (later {r = r} {rs = rs} h g) = first_passes r rs h ∙ given_first g

pub first_given : (rs : List Row) (k : ℕ) → (k ≡ 0 → ⊥) → first rs ≡ k → Given rs k
unfolding first
first_given [] k n e = absurd (n (sym e))
first_given (r ∷ rs) k n e = go r.applies refl (first_given rs k n)
  where
    go : (b : Bool) → r.applies ≡ b → (first rs ≡ k → Given rs k) → Given (r ∷ rs) k
    go true f g = subst (λ (j : ℕ). Given (r ∷ rs) j) (sym (first_applies r rs f) ∙ e) (here f)
    go false f g = later f (g (sym (first_passes r rs f) ∙ e))

pub passes_first : (rs : List Row) → Passes rs → first rs ≡ 0
unfolding first
passes_first [] h = refl
passes_first (r ∷ rs) h = first_passes r rs h.0 ∙ passes_first rs h.1

pub first_zero_passes : (rs : List Row) → numbered rs ≡ true → first rs ≡ 0 → Passes rs
first_zero_passes [] n e = tt
first_zero_passes (r ∷ rs) n e = go (eqb r.number 0) refl n (first_zero_passes rs)
  where
    go : (b : Bool) → eqb r.number 0 ≡ b → ◌≡◌ {A = Bool} (elim b [ true ↦ false | false ↦ numbered rs ]) true
        → (numbered rs ≡ true → first rs ≡ 0 → Passes rs) → Passes (r ∷ rs)
    go true f g h = absurd (false≢true g)
    go false f g h = let z = first_zero r rs e (eqb-false r.number 0 f) in (z.0, h g z.1)

-- The number is that of the first row that applies, and 0 just where none does.
pub record Exactly (rows : List Row) (number : ℕ) : Type 0 where
  pub refused : (k : ℕ) → (k ≡ 0 → ⊥) → (number ≡ k) ↔ Given rows k
  pub done : (number ≡ 0) ↔ Passes rows

pub exactly : (rs : List Row) → numbered rs ≡ true → Exactly rs (first rs)
exactly rs n =
    record {
      refused = λ k z. (first_given rs k z, given_first);
      done = (first_zero_passes rs n, passes_first rs);
    }

-- The ten calls: their tables, in the order of document 01, and that the number each gives is exactly what its table says.
abbrev pub format_table : ℕ → Bytes → ℕ → List Row
format_table len q j =
    row (not (whole_blocks len)) 0x52
    ∷ row (not (proper_name q 0 j)) 0x40
    ∷ []

pub format_exactly : (len : ℕ) (v q : Bytes) (j : ℕ) (t : Stamp) → Exactly (format_table len q j) (format len v q j t).number
unfolding format_number format settle
format_exactly len v q j t = exactly (format_table len q j) refl

abbrev pub create_table : ℕ → Bytes → Bytes → ℕ → Wanted → Target → List Row
create_table len v p k w t =
    not_prodos len v
    ∷ not_sound len v
    ∷ bad_path p k
    ∷ row (not (eqb w.kind 1 or eqb w.kind directory_kind)) 0x4B
    ∷ row (wrong_type w) 0x53
    ∷ not_volume t
    ∷ not_directory t
    ∷ row (is_there t) 0x47
    ∷ row (eqb (home t) volume and full v (home t)) 0x49
    ∷ row (ltb (room (map_block v) v (total len)) (create_need v (home t))) 0x48
    ∷ []

pub create_exactly : (len : ℕ) (v p : Bytes) (k : ℕ) (w : Wanted) → Exactly (create_table len v p k w (target v p k)) (create len v p k w).number
unfolding create_number create settle
create_exactly len v p k w = exactly (create_table len v p k w (target v p k)) refl

abbrev pub destroy_table : ℕ → Bytes → Bytes → ℕ → Target → List Row
destroy_table len v p k t =
    not_prodos len v
    ∷ not_sound len v
    ∷ bad_path p k
    ∷ not_volume t
    ∷ not_directory t
    ∷ not_found t
    ∷ row (not (may_destroy v (spot t))) 0x4E
    ∷ []

pub destroy_exactly : (len : ℕ) (v p : Bytes) (k : ℕ) → Exactly (destroy_table len v p k (target v p k)) (destroy len v p k).number
unfolding destroy_number destroy settle
destroy_exactly len v p k = exactly (destroy_table len v p k (target v p k)) refl

abbrev pub rename_table : ℕ → Bytes → Bytes → ℕ → Bytes → ℕ → Target → List Row
rename_table len v p k q j t =
    not_prodos len v
    ∷ not_sound len v
    ∷ row (not (proper_path p k and proper_name q 0 j)) 0x40
    ∷ not_volume t
    ∷ not_directory t
    ∷ not_found t
    ∷ row (name_taken v (home t) (spot t) q j) 0x47
    ∷ row (not (allows (access v (spot t)) rename_bit)) 0x4E
    ∷ []

pub rename_exactly : (len : ℕ) (v p : Bytes) (k : ℕ) (q : Bytes) (j : ℕ) → Exactly (rename_table len v p k q j (target v p k)) (rename len v p k q j).number
unfolding rename_number rename settle
rename_exactly len v p k q j = exactly (rename_table len v p k q j (target v p k)) refl

abbrev pub set_info_table : ℕ → Bytes → Bytes → ℕ → ℕ → Target → List Row
set_info_table len v p k access t =
    not_prodos len v
    ∷ not_sound len v
    ∷ bad_path p k
    ∷ row (not (eqb (access / 4 % 8) 0)) 0x53
    ∷ not_volume t
    ∷ not_directory t
    ∷ not_found t
    ∷ row (eqb (spot t) volume) 0x4E
    ∷ []

pub set_info_exactly : (len : ℕ) (v p : Bytes) (k access aux : ℕ) (t : Stamp) → Exactly (set_info_table len v p k access (target v p k)) (set_info len v p k access aux t).number
unfolding set_info_number set_info settle
set_info_exactly len v p k access aux t = exactly (set_info_table len v p k access (target v p k)) refl

abbrev pub get_info_table : ℕ → Bytes → Bytes → ℕ → Target → List Row
get_info_table len v p k t =
    not_prodos len v
    ∷ not_sound len v
    ∷ bad_path p k
    ∷ not_volume t
    ∷ not_directory t
    ∷ not_found t
    ∷ []

pub get_info_exactly : (len : ℕ) (v p : Bytes) (k : ℕ) → Exactly (get_info_table len v p k (target v p k)) (get_info len v p k).number
unfolding get_info_number get_info settle
get_info_exactly len v p k = exactly (get_info_table len v p k (target v p k)) refl

abbrev pub space_table : ℕ → Bytes → List Row
space_table len v =
    not_prodos len v
    ∷ not_sound len v
    ∷ []

pub space_exactly : (len : ℕ) (v : Bytes) → Exactly (space_table len v) (space len v).number
unfolding space_number space settle
space_exactly len v = exactly (space_table len v) refl

abbrev pub read_table : ℕ → Bytes → Bytes → ℕ → ℕ → ℕ → Target → List Row
read_table len v p k pos size t =
    not_prodos len v
    ∷ not_sound len v
    ∷ bad_path p k
    ∷ not_volume t
    ∷ not_directory t
    ∷ not_found t
    ∷ not_data v (spot t)
    ∷ row (not (allows (access v (spot t)) read_bit)) 0x4E
    ∷ row (ltb (eof v (spot t)) pos) 0x4D
    ∷ row (leb 1 size and eqb pos (eof v (spot t))) 0x4C
    ∷ []

pub read_exactly : (len : ℕ) (v p : Bytes) (k pos : ℕ) (buffer : Bytes) (size : ℕ) → Exactly (read_table len v p k pos size (target v p k)) (read len v p k pos buffer size).number
unfolding read_number read settle
read_exactly len v p k pos buffer size = exactly (read_table len v p k pos size (target v p k)) refl

abbrev pub write_table : ℕ → Bytes → Bytes → ℕ → ℕ → ℕ → Target → List Row
write_table len v p k pos size t =
    not_prodos len v
    ∷ not_sound len v
    ∷ bad_path p k
    ∷ not_volume t
    ∷ not_directory t
    ∷ not_found t
    ∷ not_data v (spot t)
    ∷ row (not (allows (access v (spot t)) write_bit)) 0x4E
    ∷ row (ltb (eof v (spot t)) pos or ltb eof_most (pos + size)) 0x4D
    ∷ row (ltb (room (map_block v) v (total len)) (write_need v (spot t) pos size)) 0x48
    ∷ []

pub write_exactly : (len : ℕ) (v p : Bytes) (k pos : ℕ) (buffer : Bytes) (size : ℕ) (t : Stamp) → Exactly (write_table len v p k pos size (target v p k)) (write len v p k pos buffer size t).number
unfolding write_number write settle
write_exactly len v p k pos buffer size t = exactly (write_table len v p k pos size (target v p k)) refl

abbrev pub set_eof_table : ℕ → Bytes → Bytes → ℕ → ℕ → Target → List Row
set_eof_table len v p k e t =
    not_prodos len v
    ∷ not_sound len v
    ∷ bad_path p k
    ∷ not_volume t
    ∷ not_directory t
    ∷ not_found t
    ∷ not_data v (spot t)
    ∷ row (not (allows (access v (spot t)) write_bit)) 0x4E
    ∷ row (ltb eof_most e) 0x4D
    ∷ row (ltb (room (map_block v) v (total len)) (height_for e - height (sort v (spot t)))) 0x48
    ∷ []

pub set_eof_exactly : (len : ℕ) (v p : Bytes) (k e : ℕ) (t : Stamp) → Exactly (set_eof_table len v p k e (target v p k)) (set_eof len v p k e t).number
unfolding set_eof_number set_eof settle
set_eof_exactly len v p k e t = exactly (set_eof_table len v p k e (target v p k)) refl
