-- What rename answers and stores, by what the path opened.
use Rattle.std.specs.Prelude.{Result, Ok, Err}
use Prim.Native.Nat.{ℕ, zero, suc, ◌+◌, ◌-◌, ◌*◌, ◌/◌, ◌%◌, ◌≤◌}
use mathlib.Core.Path.{◌≡◌, refl, sym, ap, ◌∙◌}
use mathlib.Core.Bool.{Bool, true, false, not}
use mathlib.Core.List.{List, [], ◌∷◌}
use mathlib.Core.Option.{Option, none, some}
use lib.ListN.{length}
use lib.Dec.{eqb}
use native.Mathlib.Omega.{arith}
use borrow.Author.Tests.{eqb-true, eqb-false, ne_eqb}
use Rattle.model.specs.Bytes.{Bytes, view, put, ◌and◌, ◌or◌}
use Rattle.model.specs.Names.{part, proper_path, proper_name}
use Rattle.model.specs.Directory.{at, place, volume, Sort, inactive, directory, improper, file, sort, is_active, key, used, access, kids, seek, Target, there}
use Rattle.model.specs.Refusals.{refusal_number, Row, row, first, settle}
use Rattle.model.specs.Calls.{total, target, home, spot, not_prodos, not_sound, allows, rename_bit, backed_up, nothing}
use Rattle.model.specs.Rename.{named, header_named, renamed, is_other, name_taken, rename_number, rename}
use Rattle.model.specs.Answers.{Does}
use Rattle.model.specs.declared.Kind.{Kind}
use Rattle.model.specs.declared.Kind.TheVariants.{Seedling, Sapling, Tree, Directory}
use Rattle.model.specs.declared.Place.{Place}
use Rattle.model.specs.declared.Entry.{Entry}
use Rattle.model.specs.declared.Refusal.{Refusal}
use Rattle.model.specs.declared.Refusal.TheVariants.{BadPath, Duplicate, Locked}
use Rattle.model.proofs.RefusalLaws.{first_applies, first_passes}
use Rattle.directory.specs.Slots.{place_number, Counted, place_of, kind_of, entry_of, entry_with}
use Rattle.directory.specs.Search.{Found, found_at, found_in, listed}
use Rattle.directory.specs.Lookup.{home_of}
use Rattle.directory.specs.declared.Home.{Home}
use Rattle.directory.proofs.SlotLaws.{never, place_number_law}
use Rattle.names.proofs.CursorLaws.{name_size_law}
use Rattle.entries.proofs.DoesLaws.{does_refused, does_done}
use Rattle.opening.specs.Opened.{opened_by, opened_if}
use Rattle.opening.specs.declared.Opened.{Opened}
use Rattle.opening.specs.declared.Opened.TheVariants as opened
use Rattle.opening.proofs.VolumeLaws.{Fits}
use Rattle.opening.proofs.EntryLaws.{kind_is}
use Rattle.opening.proofs.OpenedLaws.{opened_or, Seen, refused, on_volume, on_entry, seen}
use Rattle.rename.specs.Renamed.{is_other_place, named_in, Held, volume_renamed, entry_renamed}
use Rattle.opening.proofs.IfLaws.{rows_apart, if_first, if_open}
use Rattle.rename.proofs.EntryLaws.{entry_named, home_kids, entry_held}

-- an entry that was found stands at another place where its number is another
module _ (t : ℕ) (l : Place) (c : Counted l) where
  other_by : (a b d : Bool) → eqb (t / 13) l.block ≡ a → eqb (t % 13 + 1) l.slot ≡ b → eqb t (place_number l) ≡ d → not a or not b ≡ not d
  unfolding ◌or◌ place
  other_by true true true e f g = refl
  other_by true true false e f g =
      let x : t / 13 ≡ l.block = eqb-true _ _ e in
      let y : t % 13 + 1 ≡ l.slot = eqb-true _ _ f in
      absurd (eqb-false t (place_number l) g (omega (arith, c.0)))
  other_by true false true e f g =
      let z : t ≡ l.block * 13 + l.slot - 1 = eqb-true _ _ g in
      absurd (eqb-false (t % 13 + 1) l.slot f (omega (arith, c.0, c.1)))
  other_by true false false e f g = refl
  other_by false b true e f g =
      let z : t ≡ l.block * 13 + l.slot - 1 = eqb-true _ _ g in
      absurd (eqb-false (t / 13) l.block e (omega (arith, c.0, c.1)))
  other_by false b false e f g = refl

pub other_place : (v : Bytes) (o : Option ℕ) (l : Place) → Counted l → is_other_place (found_at v o) l ≡ is_other (place_number l) o
unfolding is_other_place is_other
other_place v none l c = refl
other_place v (some t) l c = other_by t l c (eqb (t / 13) l.block) (eqb (t % 13 + 1) l.slot) (eqb t (place_number l)) refl refl refl

-- what the search in the directory says of $47
pub found_other : (v : Bytes) (name : List ℕ) (h : Home) (l : Place) → Counted l → (r : Found) (b : Bool)
    → r ≡ found_in v name (listed v h.key h.used) → b ≡ is_other_place r l
    → is_other (place_number l) (seek v (view name) (part 0 (length name)) (listed v h.key h.used)) ≡ b
found_other v name h l c r b e f = sym (f ∙ ap (λ x. is_other_place x l) e ∙ other_place v _ l c)

-- a data file has no header
pub headless : (K : Kind) (v q : Bytes) (j : ℕ) → ((k : ℕ) → K ≡ Directory k → ⊥) → v ≡ named_in K v q j
unfolding named_in
headless (Seedling k) v q j h = refl
headless (Sapling k) v q j h = refl
headless (Tree k) v q j h = refl
headless (Directory k) v q j h = absurd (h k refl)

-- the header of a directory, by the kind that was decoded
named_sort : (K : Sort) (k : ℕ) (w q : Bytes) (j : ℕ) → is_active K ≡ true → (K ≡ improper → ⊥) → named_in (kind_of K k) w q j ≡ header_named K w k q j
unfolding named_in header_named
named_sort inactive k w q j a p = never (cc)
named_sort directory k w q j a p = refl
named_sort improper k w q j a p = absurd (p refl)
named_sort (file zero) k w q j a p = refl
named_sort (file (suc zero)) k w q j a p = refl
named_sort (file (suc (suc h))) k w q j a p = refl

-- the outcome of a rename that was opened, as the code has it
module _ (l : List ℕ) (h : Home) (s : Place) (x : Entry) (q : Bytes) (j : ℕ) where
  abbrev other : Bool
  other = is_other (place_number s) (seek (view l) q (part 0 j) (listed (view l) h.key h.used))

  abbrev locked : Row
  locked = row (not (allows x.access rename_bit)) 0x4E

  pub entry_duplicate : other ≡ true → Does (entry_renamed (view l) h s x q j) (length l) (Err Duplicate) l
  unfolding entry_renamed
  entry_duplicate e = does_refused _ l _ Duplicate (first_applies (row other 0x47) (locked ∷ []) e)

  pub entry_locked : other ≡ false → allows x.access rename_bit ≡ false → Does (entry_renamed (view l) h s x q j) (length l) (Err Locked) l
  unfolding entry_renamed
  entry_locked e f = does_refused _ l _ Locked (first_passes (row other 0x47) (locked ∷ []) e ∙ first_applies locked [] (ap not f))

  pub entry_done : (l' : List ℕ) → other ≡ false → allows x.access rename_bit ≡ true → length l' ≡ length l
      → view l' ≡ put (named_in x.kind (named (view l) (at (place_number s)) q j) q j) (at (place_number s) + 0x1E) (backed_up x.access)
      → Does (entry_renamed (view l) h s x q j) (length l) (Ok tt) l'
  unfolding entry_renamed first
  entry_done l' e f m w =
      does_done _ (length l) (view l) _ l' (first_passes (row other 0x47) (locked ∷ []) e ∙ first_passes locked [] (ap not f)) m w

module _ (l : List ℕ) (q : Bytes) (j : ℕ) where
  abbrev volume_row : Row
  volume_row = row (not (allows (access (view l) volume) rename_bit)) 0x4E

  pub volume_locked : allows (access (view l) volume) rename_bit ≡ false → Does (volume_renamed (view l) q j) (length l) (Err Locked) l
  unfolding volume_renamed
  volume_locked f = does_refused _ l _ Locked (first_applies volume_row [] (ap not f))

  pub volume_done : (l' : List ℕ) → allows (access (view l) volume) rename_bit ≡ true → length l' ≡ length l → view l' ≡ named (view l) (at volume) q j
      → Does (volume_renamed (view l) q j) (length l) (Ok tt) l'
  unfolding volume_renamed first
  volume_done l' f m w = does_done _ (length l) (view l) _ l' (first_passes volume_row [] (ap not f)) m w

module _ (len : ℕ) (v p : Bytes) (k : ℕ) (q : Bytes) (j : ℕ) where
  abbrev fit : Bool
  fit = proper_name q 0 j

  abbrev way : Result Opened Refusal
  way = opened_if fit BadPath len v p k

  -- $47 and $4E
  abbrev last_rows : Target → List Row
  last_rows t = row (name_taken v (home t) (spot t) q j) 0x47 ∷ row (not (allows (access v (spot t)) rename_bit)) 0x4E ∷ []

  rename_number_law : (o : Result Opened Refusal) → way ≡ o → rename_number len v p k q j (target v p k) ≡ opened_or o (first (last_rows (target v p k)))
  unfolding rename_number
  rename_number_law o e =
      rows_apart (not_prodos len v) (not_sound len v) (proper_path p k) fit 0x40 _
      ∙ if_first fit BadPath len v p k (last_rows (target v p k))
      ∙ ap (λ x. opened_or x (first (last_rows (target v p k)))) e

  pub rename_refused : (r : Refusal) → way ≡ Err r → rename_number len v p k q j (target v p k) ≡ refusal_number r
  rename_refused r e = rename_number_law (Err r) e

  -- a name that was fit is short enough to be stored
  pub name_short : (o : Result Opened Refusal) → way ≡ o → ((w : Refusal) → o ≡ Err w → ⊥) → j ≤ 15
  name_short o e n = (name_size_law q 0 j (if_open fit BadPath len v p k o e n).0).1

  -- the volume
  volume_as : (d : ℕ) (t : Target) → t ≡ there d volume
      → settle (first (last_rows t)) nothing v nothing (renamed v (spot t) q j) ≡ volume_renamed v q j
  unfolding volume_renamed name_taken renamed first home spot ◌and◌
  volume_as d t e = ap (λ x. settle (first (last_rows x)) nothing v nothing (renamed v (spot x) q j)) e

  pub rename_volume : (n : ℕ) → way ≡ Ok (opened.Volume n) → Fits len v n × (rename len v p k q j ≡ volume_renamed v q j)
  unfolding rename
  rename_volume n e = go (opened_by len v p k) refl (if_open fit BadPath len v p k (Ok (opened.Volume n)) e (λ w z. never (cc))).1 (seen len v p k)
    where
      go : (o : Result Opened Refusal) → opened_by len v p k ≡ o → o ≡ Ok (opened.Volume n) → Seen len v p k o → Fits len v n × (rename len v p k q j ≡ volume_renamed v q j)
      go o y z (refused r x) = never (cc)
      go o y z (on_volume d f u) =
          let m : total len ≡ n = cc in (
            rw (← m) f,
            ap (λ x. settle x nothing v nothing (renamed v (spot (target v p k)) q j)) (rename_number_law (Ok (opened.Volume n)) e) ∙ volume_as d (target v p k) u,
          )
      go o y z (on_entry d s f u off) = never (cc)

  -- an entry
  module _ (d s : ℕ) (f : Fits len v (total len)) (u : target v p k ≡ there d s) (off : s ≡ volume → ⊥) where
    taken_as : name_taken v d s q j ≡ is_other s (seek v q (part 0 j) (listed v (key v d) (used v d)))
    unfolding name_taken ◌and◌
    taken_as =
        ap (λ b. not b and is_other s (seek v q (part 0 j) (kids v d))) (ne_eqb s volume off)
        ∙ ap (λ x. is_other s (seek v q (part 0 j) x)) (home_kids len v p k d s f u off)

    renamed_as : renamed v s q j ≡ put (named_in (entry_of v (at s)).kind (named v (at s) q j) q j) (at s + 0x1E) (backed_up (access v s))
    unfolding renamed
    renamed_as =
        let w = entry_named len v p k d s f u off in
        rw (ne_eqb s volume off, renamed)
        (ap (λ g. put g (at s + 0x1E) (backed_up (access v s)))
        (sym (ap (λ K. named_in K (named v (at s) q j) q j) (kind_is v d s w off) ∙ named_sort (sort v s) (key v s) (named v (at s) q j) q j w.active w.proper)))

    entry_as : settle (first (last_rows (target v p k))) nothing v nothing (renamed v (spot (target v p k)) q j)
        ≡ entry_renamed v (home_of v d) (place_of s) (entry_of v (at s)) q j
    unfolding entry_renamed entry_of entry_with home spot
    entry_as =
        ap (λ x. settle (first (last_rows x)) nothing v nothing (renamed v (spot x) q j)) u
        ∙ ap (λ b. settle (first (row b 0x47 ∷ row (not (allows (access v s) rename_bit)) 0x4E ∷ [])) nothing v nothing (renamed v s q j)) taken_as
        ∙ ap (settle _ nothing v nothing) renamed_as
        ∙ ap (λ b.
        settle
        (first (row (is_other b (seek v q (part 0 j) (listed v (key v d) (used v d)))) 0x47 ∷ row (not (allows (access v s) rename_bit)) 0x4E ∷ []))
        nothing
        v
        nothing
        (put (named_in (entry_of v (at s)).kind (named v (at b) q j) q j) (at b + 0x1E) (backed_up (access v s)))) (sym (place_number_law s))

  pub rename_entry : (n : ℕ) (h : Home) (l : Place) (x : Entry) → way ≡ Ok (opened.Entry n h l x)
      → Held n len v h l x × (rename len v p k q j ≡ entry_renamed v h l x q j)
  unfolding rename
  rename_entry n h l x e = go (opened_by len v p k) refl (if_open fit BadPath len v p k (Ok (opened.Entry n h l x)) e (λ w z. never (cc))).1 (seen len v p k)
    where
      go : (o : Result Opened Refusal) → opened_by len v p k ≡ o → o ≡ Ok (opened.Entry n h l x) → Seen len v p k o → Held n len v h l x × (rename len v p k q j ≡ entry_renamed v h l x q j)
      go o y z (refused r w) = never (cc)
      go o y z (on_volume d f u) = never (cc)
      go o y z (on_entry d s f u off) =
          let a : total len ≡ n = cc in
          let b : home_of v d ≡ h = cc in
          let c : place_of s ≡ l = cc in
          let g : entry_of v (at s) ≡ x = cc in
          rw (← a, ← b, ← c, ← g) (
            entry_held len v p k d s f u off,
            ap (λ m. settle m nothing v nothing (renamed v (spot (target v p k)) q j)) (rename_number_law (Ok (opened.Entry n h l x)) e) ∙ entry_as d s f u off,
          )

-- what the code opened
pub opened_way : {o r : Result Opened Refusal} (a : Bool) (len : ℕ) (v p : Bytes) (k : ℕ) (q : Bytes) (j : ℕ) → a ≡ proper_name q 0 j
    → r ≡ opened_if a BadPath len v p k → r ≡ o → opened_if (proper_name q 0 j) BadPath len v p k ≡ o
opened_way a len v p k q j f g e = ap (λ f. opened_if f BadPath len v p k) (sym f) ∙ sym g ∙ e

pub rename_does_refused : (l : List ℕ) (p : Bytes) (k : ℕ) (q : Bytes) (j : ℕ) (r : Refusal)
    → opened_if (proper_name q 0 j) BadPath (length l) (view l) p k ≡ Err r
    → Does (rename (length l) (view l) p k q j) (length l) (Err r) l
unfolding rename
rename_does_refused l p k q j r e = does_refused _ l _ r (rename_refused (length l) (view l) p k q j r e)
