-- A path that was opened leads to an entry of a sound volume; a data file there is fit for every call on it. Assumes nothing.
use Rattle.std.specs.Prelude.{Result, Ok}
use Rattle.model.specs.declared.Refusal.{Refusal}
use Prim.Native.Nat.{ℕ, ◌+◌, ◌*◌, ◌≤◌, ◌<◌, ◌/◌}
use mathlib.Core.Path.{◌≡◌, refl, sym, ap, ◌∙◌}
use mathlib.Core.Bool.{true, false}
use native.Mathlib.Omega.{arith}
use Rattle.model.specs.Bytes.{Bytes, Octets}
use Rattle.model.specs.Kinds.{key_of}
use Rattle.model.specs.Directory.{at, volume, file, sort, key, used, map_block, map_place, there}
use Rattle.model.specs.File.{height_for}
use Rattle.model.specs.Sound.{sound}
use Rattle.model.specs.Calls.{total, target, spot, home, is_no_volume, is_no_directory, is_missing}
use Rattle.model.specs.declared.Entry.{Entry}
use Rattle.model.specs.declared.Place.{Place}
use Rattle.model.proofs.Laws.Sound.{sound_facts}
use Rattle.model.proofs.Laws.Lookup.{entry_led, target_led}
use Rattle.model.proofs.Laws.Entry.{Ready, fit, was_tall, eof_most_law}
use Rattle.model.proofs.Laws.Facts.{mine_in}
use Rattle.model.proofs.Laws.One.{slot_mine}
use Rattle.model.proofs.Laws.Move.{Fit}
use Rattle.facts.proofs.BlockLaws.{met_file}
use Rattle.directory.specs.Slots.{place_number, place_of, kind_of, entry_of, entry_with}
use Rattle.directory.specs.declared.Home.{Home}
use Rattle.directory.proofs.SlotLaws.{place_number_law}
use Rattle.opening.specs.Opened.{opened_by}
use Rattle.opening.specs.Sorts.{is_folder, height_of}
use Rattle.opening.specs.declared.Opened.{Opened}
use Rattle.opening.specs.declared.Opened.TheVariants as opened
use Rattle.opening.proofs.VolumeLaws.{Fits}
use Rattle.model.proofs.Laws.Keep.{field_at}
use Rattle.opening.proofs.EntryLaws.{Named, target_named, height_sort, key_sort, height_small, kind_is, folder_is, eof_is, access_is, file_is}
use Rattle.opening.proofs.OpenedLaws.{Seen, refused, on_volume, on_entry, seen}
use Rattle.held.specs.Held.{Held, Told}

led_ready : (n : ℕ) (v p : Bytes) (k d s h : ℕ) → Octets v → sound n v ≡ true → target v p k ≡ there d s → (s ≡ volume → ⊥) → sort v s ≡ file h
    → Ready n v s d h
led_ready n v p k d s h octets sane to off kind =
    let S = sound_facts n v sane in
    unfold is_no_volume is_no_directory is_missing spot home in
    (let E = entry_led S (rw to at (target_led S p k)) refl refl refl off in
    record { bytes = octets; sound = S; spot = E.spot; kind = kind })

module _ (n : ℕ) (v p : Bytes) (k d s : ℕ) (octets : Octets v) (sane : sound n v ≡ true) (to : target v p k ≡ there d s) (off : s ≡ volume → ⊥) where
  abbrev entry : Entry
  entry = entry_of v (at s)

  named : Named v d s
  named = target_named n v p k d s sane to

  uses : entry.used ≡ used v s
  unfolding entry_of entry_with
  uses = sym (field_at v s 0x13 _ off)

  entry_held : is_folder entry.kind ≡ false → Held n v s entry
  entry_held plain =
      let f = file_is v d s named off plain in
      let low : f.0 < 3 = rw (met_file {n = n} sane named.met f.1).tall (height_small _) in
      let kind : entry.kind ≡ kind_of (file f.0) (key v s) = kind_is v d s named off ∙ ap (λ K. kind_of K (key v s)) f.1 in
      let tall : height_of entry.kind ≡ f.0 = ap height_of kind ∙ height_sort f.0 (key v s) low in
      record {
        home = d;
        ready = led_ready n v p k d s (height_of entry.kind) octets sane to off (f.1 ∙ ap file (sym tall));
        keyed = ap key_of kind ∙ key_sort (file f.0) (key v s);
        ends = eof_is v d s named off;
        uses = uses;
      }

  entry_told : map_block v ≡ map_place → Told n v (place_of s) entry
  entry_told planned =
      record {
        counted = (omega arith, omega arith);
        planned = planned;
        folder = rw place_number_law (folder_is v d s named off);
        allowed = rw place_number_law (access_is v d s named off);
        held = λ plain. rw place_number_law (entry_held plain);
      }

-- What a path leads to.
module _ (len : ℕ) (v p : Bytes) (k : ℕ) where
  pub opened_volume : (n : ℕ) → opened_by len v p k ≡ Ok (opened.Volume n) → spot (target v p k) ≡ volume
  opened_volume n q = go (opened_by len v p k) refl q (seen len v p k)
    where
      go : (o : Result Opened Refusal) → opened_by len v p k ≡ o → o ≡ Ok (opened.Volume n) → Seen len v p k o → spot (target v p k) ≡ volume
      go o q z (refused r y) = let w : ◌≡◌ {A = ℕ} 0 1 = cc in absurd (omega arith)
      go o q z (on_volume d f y) = unfold spot in ap spot y
      go o q z (on_entry d y f g off) = let w : ◌≡◌ {A = ℕ} 0 1 = cc in absurd (omega arith)

  pub opened_entry : (n : ℕ) (h : Home) (s : Place) (x : Entry) → Octets v → opened_by len v p k ≡ Ok (opened.Entry n h s x)
      → Fits len v n × (spot (target v p k) ≡ place_number s) × Told n v s x
  opened_entry n h s x octets q = go (opened_by len v p k) refl q (seen len v p k)
    where
      go : (o : Result Opened Refusal) → opened_by len v p k ≡ o → o ≡ Ok (opened.Entry n h s x) → Seen len v p k o
          → Fits len v n × (spot (target v p k) ≡ place_number s) × Told n v s x
      go o q z (refused r y) = let w : ◌≡◌ {A = ℕ} 0 1 = cc in absurd (omega arith)
      go o q z (on_volume d f y) = let w : ◌≡◌ {A = ℕ} 0 1 = cc in absurd (omega arith)
      go o q z (on_entry d y f to off) =
          let which : place_of y ≡ s = cc in
          let what : entry_of v (at y) ≡ x = cc in
          let many : total len ≡ n = cc in
          let here : spot (target v p k) ≡ y = unfold spot in ap spot to in
          let spotted : spot (target v p k) ≡ place_number (place_of y) = here ∙ sym (place_number_law y) in
          rw (← which, ← what, ← many) (f, spotted, entry_told (total len) v p k d y octets f.sane to off f.placed)

-- The data file.
module _ {n : ℕ} {v : Bytes} {s : ℕ} {x : Entry} (H : Held n v s x) where
  pub held_fit : Fit n v (height_of x.kind) 0 (key_of x.kind)
  held_fit = rw H.keyed (fit H.ready)

  pub held_tall : height_of x.kind ≡ height_for x.eof
  held_tall = rw H.ends (was_tall H.ready)

  pub held_eof : x.eof < 16777216
  held_eof = rw H.ends (eof_most_law H.ready)

  pub held_slot : at s + 39 ≤ n * 512
  unfolding at
  held_slot = let i = mine_in H.ready.sound (s / 13) (slot_mine H.ready.sound H.ready.spot) in omega arith
