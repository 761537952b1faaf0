-- What set EOF answers: row by row for the entry at a place, and by what the path leads to. Assumes nothing.
use Rattle.std.specs.Prelude.{Result, Ok, Err}
use Prim.Native.Nat.{ℕ, ◌+◌, ◌-◌, ◌≤◌, ◌<◌}
use mathlib.Core.Path.{◌≡◌, refl, sym, ap, ◌∙◌}
use mathlib.Core.List.{List, [], ◌∷◌}
use mathlib.Core.Bool.{true, false, not}
use lib.Dec.{ltb}
use lib.ListN.{length}
use native.Mathlib.Omega.{arith}
use borrow.Author.Tests.{lt-ltb, le-ltb}
use Rattle.model.specs.Bytes.{Bytes, Octets, view}
use Rattle.model.specs.Map.{room}
use Rattle.model.specs.Directory.{volume, sort, access, map_block, map_place}
use Rattle.model.specs.File.{eof_most, height_for, height}
use Rattle.model.specs.Refusals.{refusal_number, Row, row, first, settle}
use Rattle.model.specs.Calls.{total, target, spot, not_data, allows, write_bit, nothing}
use Rattle.model.specs.SetEof.{eof_set, set_eof_number, set_eof}
use Rattle.model.specs.Answers.{Does}
use Rattle.model.specs.declared.Refusal.{Refusal}
use Rattle.model.specs.declared.Refusal.TheVariants.{BadKind}
use Rattle.model.specs.declared.Entry.{Entry}
use Rattle.model.specs.declared.Place.{Place}
use Rattle.model.specs.declared.Stamp.{Stamp}
use Rattle.model.proofs.RefusalLaws.{settle_refused, settle_accepted, number_refuses, first_applies, first_passes}
use Rattle.directory.specs.Slots.{place_number}
use Rattle.directory.specs.declared.Home.{Home}
use Rattle.opening.specs.Opened.{opened_by}
use Rattle.opening.specs.Sorts.{is_folder, height_of}
use Rattle.opening.specs.declared.Opened.{Opened}
use Rattle.opening.specs.declared.Opened.TheVariants as opened
use Rattle.opening.proofs.VolumeLaws.{Fits}
use Rattle.opening.proofs.OpenedLaws.{opened_or, opened_first}
use Rattle.held.specs.Held.{Held, Told}
use Rattle.held.proofs.HeldLaws.{opened_volume, opened_entry}
use Rattle.resize.specs.Ends.{end_rows, end_set}

-- The rows from $4B on.
module _ {n : ℕ} {v : Bytes} {p : Place} {x : Entry} (T : Told n v p x) (e : ℕ) where
  abbrev slot : ℕ
  slot = place_number p

  abbrev lock_row : Row
  lock_row = row (not (allows (access v slot) write_bit)) 0x4E

  abbrev far_row : Row
  far_row = row (ltb eof_most e) 0x4D

  abbrev full_row : Row
  full_row = row (ltb (room (map_block v) v n) (height_for e - height (sort v slot))) 0x48

  pub number_folder : is_folder x.kind ≡ true → first (end_rows n v e slot) ≡ 0x4B
  unfolding end_rows
  number_folder z = first_applies (not_data v slot) _ (sym T.folder ∙ z)

  module _ (plain : is_folder x.kind ≡ false) where
    pub told_held : Held n v slot x
    told_held = T.held plain

    past_folder : first (end_rows n v e slot) ≡ first (lock_row ∷ far_row ∷ full_row ∷ [])
    unfolding end_rows
    past_folder = first_passes (not_data v slot) _ (sym T.folder ∙ plain)

    pub number_locked : allows x.access write_bit ≡ false → first (end_rows n v e slot) ≡ 0x4E
    number_locked z = past_folder ∙ first_applies lock_row _ (rw (← T.allowed) (ap not z))

    module _ (may : allows x.access write_bit ≡ true) where
      past_lock : first (end_rows n v e slot) ≡ first (far_row ∷ full_row ∷ [])
      past_lock = past_folder ∙ first_passes lock_row _ (rw (← T.allowed) (ap not may))

      pub number_far : eof_most < e → first (end_rows n v e slot) ≡ 0x4D
      number_far l = past_lock ∙ first_applies far_row _ (lt-ltb eof_most e l)

      module _ (near : e ≤ eof_most) (free : ℕ) (counted : free ≡ room map_place v n) where
        past_far : first (end_rows n v e slot) ≡ first (full_row ∷ [])
        past_far = past_lock ∙ first_passes far_row _ (le-ltb eof_most e near)

        tall : height (sort v slot) ≡ height_of x.kind
        tall = ap height told_held.ready.kind

        pub number_full : free + height_of x.kind < height_for e → first (end_rows n v e slot) ≡ 0x48
        number_full l = past_far ∙ first_applies full_row [] (rw (T.planned, ← counted, tall) (lt-ltb free (height_for e - height_of x.kind) (omega arith)))

        pub number_none : height_for e ≤ free + height_of x.kind → first (end_rows n v e slot) ≡ 0
        unfolding first
        number_none l = past_far ∙ first_passes full_row [] (rw (T.planned, ← counted, tall) (le-ltb free (height_for e - height_of x.kind) (omega arith)))

-- The outcome.
module _ (n s e : ℕ) (t : Stamp) (l : List ℕ) where
  pub end_no : (r : Refusal) → first (end_rows n (view l) e s) ≡ refusal_number r → Does (end_set n (view l) s e t) (length l) (Err r) l
  unfolding end_set settle
  end_no r z =
      let o = settle_refused (first (end_rows n (view l) e s)) nothing (view l) nothing (eof_set (map_block (view l)) n (view l) s e t) (λ q. number_refuses r (sym z ∙ q)) in
      record { said = sym z; size = refl; bytes = sym o.1 }

  pub end_done : (m : List ℕ) → first (end_rows n (view l) e s) ≡ 0 → map_block (view l) ≡ map_place → length m ≡ length l
      → view m ≡ eof_set map_place n (view l) s e t → Does (end_set n (view l) s e t) (length l) (Ok tt) m
  unfolding end_set settle
  end_done m z q k b =
      let o = settle_accepted (first (end_rows n (view l) e s)) nothing (view l) nothing (eof_set (map_block (view l)) n (view l) s e t) z in
      record { said = sym z; size = k; bytes = b ∙ ap (λ a. eof_set a n (view l) s e t) (sym q) ∙ sym o.1 }

-- What a path leads to.
set_eof_number_law : (len : ℕ) (v p : Bytes) (k e : ℕ)
    → set_eof_number len v p k e (target v p k) ≡ opened_or (opened_by len v p k) (first (end_rows (total len) v e (spot (target v p k))))
unfolding set_eof_number end_rows
set_eof_number_law len v p k e = opened_first len v p k (end_rows (total len) v e (spot (target v p k)))

module _ (p : Bytes) (k e : ℕ) (t : Stamp) (l : List ℕ) where
  abbrev Answers : Refusal → Type 0
  Answers r = Does (set_eof (length l) (view l) p k e t) (length l) (Err r) l

  set_eof_no : (r : Refusal) → set_eof_number (length l) (view l) p k e (target (view l) p k) ≡ refusal_number r → Answers r
  unfolding set_eof settle
  set_eof_no r z =
      let x = target (view l) p k in
      let o = settle_refused (set_eof_number (length l) (view l) p k e x) nothing (view l) nothing (eof_set (map_block (view l)) (total (length l)) (view l) (spot x) e t) (λ q. number_refuses r (sym z ∙ q)) in
      record { said = sym z; size = refl; bytes = sym o.1 }

  abbrev after : Result Opened Refusal → ℕ
  after o = opened_or o (first (end_rows (total (length l)) (view l) e (spot (target (view l) p k))))

  pub set_eof_refused : (r : Refusal) → opened_by (length l) (view l) p k ≡ Err r → Answers r
  set_eof_refused r q = set_eof_no r (set_eof_number_law (length l) (view l) p k e ∙ ap after q)

  volume_number : (n : ℕ) (v : Bytes) → first (end_rows n v e volume) ≡ 0x4B
  unfolding first end_rows sort
  volume_number n v = refl

  pub set_eof_volume : (n : ℕ) → opened_by (length l) (view l) p k ≡ Ok (opened.Volume n) → Answers BadKind
  set_eof_volume n q =
      set_eof_no BadKind
      (set_eof_number_law (length l) (view l) p k e
      ∙ ap after q
      ∙ ap (end_number (total (length l)) (view l)) (opened_volume (length l) (view l) p k n q)
      ∙ volume_number (total (length l)) (view l))
    where
      end_number : ℕ → Bytes → ℕ → ℕ
      end_number n v s = first (end_rows n v e s)

pub set_eof_entry : (len : ℕ) (v p : Bytes) (k e : ℕ) (t : Stamp) (n : ℕ) (h : Home) (s : Place) (x : Entry) → Octets v
    → opened_by len v p k ≡ Ok (opened.Entry n h s x) → Fits len v n × (set_eof len v p k e t ≡ end_set n v (place_number s) e t) × Told n v s x
unfolding set_eof end_set
set_eof_entry len v p k e t n h s x octets q =
    let o = opened_entry len v p k n h s x octets q in
    let number : set_eof_number len v p k e (target v p k) ≡ first (end_rows (total len) v e (spot (target v p k))) =
    set_eof_number_law len v p k e ∙ ap (λ o. opened_or o (first (end_rows (total len) v e (spot (target v p k))))) q in
    let here : set_eof len v p k e t ≡ end_set (total len) v (place_number s) e t =
    ap (λ j. settle j nothing v nothing (eof_set (map_block v) (total len) v (spot (target v p k)) e t)) number
    ∙ ap (λ j. settle (first (end_rows (total len) v e j)) nothing v nothing (eof_set (map_block v) (total len) v j e t)) o.1 in
    (o.0, here ∙ ap (λ j. end_set j v (place_number s) e t) (sym o.0.size), o.2)
