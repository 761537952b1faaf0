-- What write answers: row by row for the entry at a place, and by what the path leads to. Assumes nothing.
use Rattle.std.specs.Prelude.{Result, Ok, Err}
use Prim.Native.Nat.{ℕ, ◌+◌, ◌≤◌, ◌<◌}
use mathlib.Core.Path.{◌≡◌, refl, sym, ap, ◌∙◌}
use mathlib.Core.List.{List, [], ◌∷◌}
use mathlib.Core.Bool.{Bool, true, false, not}
use lib.Dec.{ltb, eqb}
use lib.ListN.{length}
use native.Mathlib.Omega.{arith}
use borrow.Author.Tests.{eq-eqb, ne_eqb, lt-ltb, le-ltb, ltb-false}
use Rattle.model.specs.Bytes.{Bytes, Octets, view, ◌or◌}
use Rattle.model.specs.Map.{room}
use Rattle.model.specs.Directory.{volume, sort, eof, access, map_block, map_place}
use Rattle.model.specs.File.{eof_most, height}
use Rattle.model.specs.Refusals.{refusal_number, Row, row, first, settle}
use Rattle.model.specs.Calls.{total, target, spot, not_data, allows, write_bit}
use Rattle.model.specs.Write.{written, write_need, write_number, write}
use Rattle.model.specs.Answers.{Writes}
use Rattle.model.specs.declared.Refusal.{Refusal}
use Rattle.model.specs.declared.Refusal.TheVariants.{BadKind}
use Rattle.model.specs.declared.Entry.{Entry}
use Rattle.model.specs.declared.Place.{Place}
use Rattle.model.specs.declared.Stamp.{Stamp}
use Rattle.model.proofs.RefusalLaws.{settle_refused, settle_accepted, number_refuses, first_applies, first_passes}
use Rattle.directory.specs.Slots.{place_number}
use Rattle.directory.specs.declared.Home.{Home}
use Rattle.opening.specs.Opened.{opened_by}
use Rattle.opening.specs.Sorts.{is_folder, height_of}
use Rattle.opening.specs.declared.Opened.{Opened}
use Rattle.opening.specs.declared.Opened.TheVariants as opened
use Rattle.opening.proofs.VolumeLaws.{Fits}
use Rattle.opening.proofs.OpenedLaws.{opened_or, opened_first}
use Rattle.held.specs.Held.{Held, Told}
use Rattle.held.proofs.HeldLaws.{opened_volume, opened_entry}
use Rattle.write.specs.Writing.{write_rows, written_at, entry_need}

-- $4D
module _ (e pos size : ℕ) where
  pub far_start : e < pos → true ≡ (ltb e pos or ltb eof_most (pos + size))
  unfolding ◌or◌
  far_start l = rw (lt-ltb e pos l) refl

  pub far_is : (e < pos → ⊥) → ltb eof_most (pos + size) ≡ (ltb e pos or ltb eof_most (pos + size))
  unfolding ◌or◌
  far_is z = rw (le-ltb e pos (omega arith)) refl

  pub near_is : false ≡ (ltb e pos or ltb eof_most (pos + size)) → (pos ≤ e) × (pos + size ≤ eof_most)
  unfolding ◌or◌
  near_is z = go (ltb e pos) refl z
    where
      go : (b : Bool) → ltb e pos ≡ b → false ≡ (b or ltb eof_most (pos + size)) → (pos ≤ e) × (pos + size ≤ eof_most)
      go true q y = let w : ◌≡◌ {A = ℕ} 0 1 = cc in absurd (omega arith)
      go false q y = (ltb-false e pos q, ltb-false eof_most (pos + size) (sym y))

-- the need, by the decoded entry
need_at : {n : ℕ} {v : Bytes} {s : ℕ} {x : Entry} → Held n v s x → (pos size : ℕ) → (size ≡ 0 → ⊥) → write_need v s pos size ≡ entry_need v x pos size
unfolding write_need
need_at {n} {v} {s} {x} H pos size z =
    let tall : height (sort v s) ≡ height_of x.kind = ap height H.ready.kind in
    rw (ne_eqb size 0 z, tall, ← H.keyed, ← H.ends, write_need) refl

no_need : (v : Bytes) (s pos size : ℕ) → size ≡ 0 → write_need v s pos size ≡ 0
unfolding write_need
no_need v s pos size z = rw (eq-eqb size 0 z, write_need) refl

-- The rows from $4B on.
module _ {n : ℕ} {v : Bytes} {p : Place} {x : Entry} (T : Told n v p x) (pos size : ℕ) where
  abbrev s : ℕ
  s = place_number p

  abbrev lock_row : Row
  lock_row = row (not (allows (access v s) write_bit)) 0x4E

  abbrev far_row : Row
  far_row = row (ltb (eof v s) pos or ltb eof_most (pos + size)) 0x4D

  abbrev full_row : Row
  full_row = row (ltb (room (map_block v) v n) (write_need v s pos size)) 0x48

  pub number_folder : is_folder x.kind ≡ true → first (write_rows n v pos size s) ≡ 0x4B
  unfolding write_rows
  number_folder z = first_applies (not_data v s) _ (sym T.folder ∙ z)

  module _ (plain : is_folder x.kind ≡ false) where
    pub told_held : Held n v s x
    told_held = T.held plain

    past_folder : first (write_rows n v pos size s) ≡ first (lock_row ∷ far_row ∷ full_row ∷ [])
    unfolding write_rows
    past_folder = first_passes (not_data v s) _ (sym T.folder ∙ plain)

    pub number_locked : allows x.access write_bit ≡ false → first (write_rows n v pos size s) ≡ 0x4E
    number_locked z = past_folder ∙ first_applies lock_row _ (rw (← T.allowed) (ap not z))

    module _ (may : allows x.access write_bit ≡ true) where
      past_lock : first (write_rows n v pos size s) ≡ first (far_row ∷ full_row ∷ [])
      past_lock = past_folder ∙ first_passes lock_row _ (rw (← T.allowed) (ap not may))

      pub number_far : true ≡ (ltb x.eof pos or ltb eof_most (pos + size)) → first (write_rows n v pos size s) ≡ 0x4D
      number_far z = past_lock ∙ first_applies far_row _ (rw (← told_held.ends) (sym z))

      module _ (near : false ≡ (ltb x.eof pos or ltb eof_most (pos + size))) where
        past_far : first (write_rows n v pos size s) ≡ first (full_row ∷ [])
        past_far = past_lock ∙ first_passes far_row _ (rw (← told_held.ends) (sym near))

        pub number_nothing : size ≡ 0 → first (write_rows n v pos size s) ≡ 0
        unfolding first
        number_nothing z = past_far ∙ first_passes full_row [] (rw (no_need v s pos size z) (le-ltb (room (map_block v) v n) 0 (omega arith)))

        module _ (some : size ≡ 0 → ⊥) (free : ℕ) (counted : free ≡ room map_place v n) where
          pub number_full : free < entry_need v x pos size → first (write_rows n v pos size s) ≡ 0x48
          number_full l = past_far ∙ first_applies full_row [] (rw (T.planned, ← counted, need_at told_held pos size some) (lt-ltb free _ l))

          pub number_none : entry_need v x pos size ≤ free → first (write_rows n v pos size s) ≡ 0
          unfolding first
          number_none l = past_far ∙ first_passes full_row [] (rw (T.planned, ← counted, need_at told_held pos size some) (le-ltb free _ l))

-- The outcome at a place.
module _ (n s pos : ℕ) (buffer : Bytes) (size : ℕ) (t : Stamp) (l : List ℕ) where
  abbrev pick : Bool → Bytes
  pick b = elim b [ true ↦ view l | false ↦ written (map_block (view l)) n (view l) s pos buffer size t ]

  abbrev new : Bytes
  new = pick (eqb size 0)

  pub place_no : (r : Refusal) → first (write_rows n (view l) pos size s) ≡ refusal_number r
      → Writes (written_at n (view l) s pos buffer size t) (length l) (Err r) l
  unfolding written_at settle
  place_no r z =
      let o = settle_refused (first (write_rows n (view l) pos size s)) 0 (view l) size new (λ q. number_refuses r (sym z ∙ q)) in
      record { said = sym z; moved = sym o.0; size = refl; bytes = sym o.1 }

  done : (m : List ℕ) (k : ℕ) → first (write_rows n (view l) pos size s) ≡ 0 → k ≡ size → length m ≡ length l → view m ≡ new
      → Writes (written_at n (view l) s pos buffer size t) (length l) (Ok k) m
  unfolding written_at settle
  done m k z e q b =
      let o = settle_accepted (first (write_rows n (view l) pos size s)) 0 (view l) size new z in
      record { said = sym z; moved = e ∙ sym o.0; size = q; bytes = b ∙ sym o.1 }

  pub place_nothing : first (write_rows n (view l) pos size s) ≡ 0 → size ≡ 0
      → Writes (written_at n (view l) s pos buffer size t) (length l) (Ok 0) l
  place_nothing z e = done l 0 z (sym e) refl (sym (ap pick (eq-eqb size 0 e)))

  pub place_done : (m : List ℕ) → first (write_rows n (view l) pos size s) ≡ 0 → (size ≡ 0 → ⊥) → map_block (view l) ≡ map_place → length m ≡ length l
      → view m ≡ written map_place n (view l) s pos buffer size t
      → Writes (written_at n (view l) s pos buffer size t) (length l) (Ok size) m
  place_done m z e q k b = done m size z refl k (b ∙ ap (λ a. written a n (view l) s pos buffer size t) (sym q) ∙ sym (ap pick (ne_eqb size 0 e)))

-- What a path leads to.
write_number_law : (len : ℕ) (v p : Bytes) (k pos size : ℕ)
    → write_number len v p k pos size (target v p k) ≡ opened_or (opened_by len v p k) (first (write_rows (total len) v pos size (spot (target v p k))))
unfolding write_number write_rows
write_number_law len v p k pos size = opened_first len v p k (write_rows (total len) v pos size (spot (target v p k)))

module _ (p : Bytes) (k pos : ℕ) (buffer : Bytes) (size : ℕ) (t : Stamp) (l : List ℕ) where
  abbrev Answers : Refusal → Type 0
  Answers r = Writes (write (length l) (view l) p k pos buffer size t) (length l) (Err r) l

  abbrev after : Result Opened Refusal → ℕ
  after o = opened_or o (first (write_rows (total (length l)) (view l) pos size (spot (target (view l) p k))))

  write_no : (r : Refusal) → after (opened_by (length l) (view l) p k) ≡ refusal_number r → Answers r
  unfolding write settle
  write_no r z =
      let number = write_number_law (length l) (view l) p k pos size ∙ z in
      let o = settle_refused (write_number (length l) (view l) p k pos size (target (view l) p k)) 0 (view l) size _ (λ q. number_refuses r (sym number ∙ q)) in
      record { said = sym number; moved = sym o.0; size = refl; bytes = sym o.1 }

  pub write_refused : (r : Refusal) → opened_by (length l) (view l) p k ≡ Err r → Answers r
  write_refused r q = write_no r (ap after q)

  volume_number : (n : ℕ) (v : Bytes) → first (write_rows n v pos size volume) ≡ 0x4B
  unfolding first write_rows sort
  volume_number n v = refl

  pub write_volume : (n : ℕ) → opened_by (length l) (view l) p k ≡ Ok (opened.Volume n) → Answers BadKind
  write_volume n q =
      write_no BadKind
      (ap after q
      ∙ ap (λ x. first (write_rows (total (length l)) (view l) pos size x)) (opened_volume (length l) (view l) p k n q)
      ∙ volume_number (total (length l)) (view l))

pub write_entry : (len : ℕ) (v p : Bytes) (k pos : ℕ) (buffer : Bytes) (size : ℕ) (t : Stamp) (n : ℕ) (h : Home) (s : Place) (x : Entry) → Octets v
    → opened_by len v p k ≡ Ok (opened.Entry n h s x) → Fits len v n × (write len v p k pos buffer size t ≡ written_at n v (place_number s) pos buffer size t) × Told n v s x
unfolding write written_at
write_entry len v p k pos buffer size t n h s x octets q =
    let o = opened_entry len v p k n h s x octets q in
    let number : write_number len v p k pos size (target v p k) ≡ first (write_rows (total len) v pos size (spot (target v p k))) =
    write_number_law len v p k pos size ∙ ap (λ o. opened_or o (first (write_rows (total len) v pos size (spot (target v p k))))) q in
    let whole : write len v p k pos buffer size t ≡ written_at (total len) v (place_number s) pos buffer size t =
    ap (λ j. settle j 0 v size (elim (eqb size 0) [ true ↦ v | false ↦ written (map_block v) (total len) v (spot (target v p k)) pos buffer size t ])) number
    ∙ ap (λ j. settle (first (write_rows (total len) v pos size j)) 0 v size (elim (eqb size 0) [ true ↦ v | false ↦ written (map_block v) (total len) v j pos buffer size t ]))
    o.1 in
    (o.0, whole ∙ ap (λ j. written_at j v (place_number s) pos buffer size t) (sym o.0.size), o.2)
