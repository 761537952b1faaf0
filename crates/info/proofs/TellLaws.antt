-- What space and get info answer, by what the image and the path are.
use Rattle.std.specs.Prelude.{Result, Ok, Err}
use Prim.Native.Nat.{ℕ, ◌+◌, ◌-◌, ◌/◌}
use mathlib.Core.Path.{◌≡◌, refl, sym, ap, ◌∙◌}
use mathlib.Core.List.{[]}
use native.Mathlib.Omega.{arith}
use borrow.Author.Tests.{ne_eqb}
use Rattle.model.specs.Bytes.{Bytes, word}
use Rattle.model.specs.Map.{room}
use Rattle.model.specs.Directory.{at, volume, volume_length, map_block, map_place, ftype, eof, access, there}
use Rattle.directory.specs.Slots.{place_of, entry_of, entry_with}
use Rattle.directory.specs.Lookup.{home_of}
use Rattle.directory.specs.declared.Home.{Home}
use Rattle.info.specs.Told.{told}
use Rattle.model.specs.Refusals.{refusal_number, first, settle}
use Rattle.model.specs.Calls.{total, target, spot}
use Rattle.model.specs.Info.{stamp_at, no_space, space, space_number, no_info, info, entry_info, volume_info, get_info, get_info_number}
use Rattle.model.specs.Answers.{Measures, Tells}
use Rattle.model.specs.declared.Info.{Info}
use Rattle.model.specs.declared.Entry.{Entry}
use Rattle.model.specs.declared.Stamp.{Stamp}
use Rattle.model.specs.declared.Place.{Place}
use Rattle.model.specs.declared.Refusal.{Refusal}
use Rattle.model.proofs.RefusalLaws.{settle_refused, settle_accepted, number_refuses}
use Rattle.opening.specs.Opened.{volume_in, opened_by}
use Rattle.opening.specs.declared.Opened.{Opened}
use Rattle.opening.specs.declared.Opened.TheVariants as opened
use Rattle.opening.proofs.VolumeLaws.{volume_or, volume_first, Fits, volume_sound}
use Rattle.model.proofs.Laws.Keep.{sort_at, field_at, ftype_at, eof_at}
use Rattle.opening.proofs.EntryLaws.{Named, target_named, kind_back}
use Rattle.opening.proofs.OpenedLaws.{opened_or, opened_first, Seen, refused, on_volume, on_entry, seen}

-- the outcome of a call that only tells
refused_tells : {P : Type 0} (k : ℕ) (none : P) (v : Bytes) (some : P) (r : Refusal) → k ≡ refusal_number r → (settle k none v some v).parts ≡ none
unfolding settle
refused_tells k none v some r e = (settle_refused k none v some v (λ z. number_refuses r (sym e ∙ z))).0

pub space_refused : (len : ℕ) (v : Bytes) (r : Refusal) → volume_in len v ≡ Err r → Measures (space len v) (Err r)
unfolding space space_number first settle
space_refused len v r e =
    let q : space_number len v ≡ refusal_number r = volume_first len v [] ∙ ap (λ o. volume_or o 0) e in
    record { said = sym q; told = sym (refused_tells (space_number len v) no_space v _ r q) }

pub space_told_law : (len : ℕ) (v : Bytes) (n : ℕ) → volume_in len v ≡ Ok n → Measures (space len v) (Ok (record { total = n; free = room map_place v n }))
unfolding space space_number first settle
space_told_law len v n e =
    let q : space_number len v ≡ 0 = volume_first len v [] ∙ ap (λ o. volume_or o 0) e in
    let f = volume_sound len v n e in
    record {
      said = sym q;
      told = rw (f.size, ← f.placed) (sym (settle_accepted (space_number len v) no_space v (record { total = total len; unused = room (map_block v) v (total len) }) v q).0);
    }

-- get info: rows up to $46 only
info_number_law : (len : ℕ) (v p : Bytes) (k : ℕ) → get_info_number len v p k (target v p k) ≡ opened_or (opened_by len v p k) 0
unfolding get_info_number first
info_number_law len v p k = opened_first len v p k []

pub info_refused : (len : ℕ) (v p : Bytes) (k : ℕ) (r : Refusal) → opened_by len v p k ≡ Err r → Tells (get_info len v p k) (Err r)
unfolding get_info settle
info_refused len v p k r e =
    let q : get_info_number len v p k (target v p k) ≡ refusal_number r = info_number_law len v p k ∙ ap (λ o. opened_or o 0) e in
    record { said = sym q; told = sym (refused_tells (get_info_number len v p k (target v p k)) no_info v _ r q) }

-- what is told where the path leads to a place
told_at : (len : ℕ) (v p : Bytes) (k d s : ℕ) (o : Result Opened Refusal) (i : Info) → opened_by len v p k ≡ o → opened_or o 0 ≡ 0 → target v p k ≡ there d s → info (total len) v s ≡ i
    → Tells (get_info len v p k) (Ok i)
unfolding get_info settle spot
told_at len v p k d s o i e z t h =
    let q : get_info_number len v p k (target v p k) ≡ 0 = info_number_law len v p k ∙ ap (λ o. opened_or o 0) e ∙ z in
    record {
      said = sym q;
      told = sym ((settle_accepted (get_info_number len v p k (target v p k)) no_info v (info (total len) v (spot (target v p k))) v q).0 ∙ ap (λ t. info (total len) v (spot t)) t ∙ h);
    }

-- the decoded entry at a place is what the definition tells
entry_told : (n : ℕ) (v : Bytes) (d s : ℕ) → Named v d s → (s ≡ volume → ⊥) → info n v s ≡ told (entry_of v (at s))
unfolding info entry_info entry_of entry_with
entry_told n v d s w off =
    let c = sym (kind_back (v (at s) / 16) (word v (at s + 0x11)) (rw (sort_at v s off) at w.active) (λ e. w.proper (sort_at v s off ∙ e))) in
    rw (ne_eqb s volume off, info) (λ i. record {
      kind = c i;
      ftype = ftype_at v s off i;
      access = access v s;
      aux = word v (at s + 0x1F);
      used = field_at v s 0x13 (volume_length v) off i;
      eof = eof_at v s off i;
      created = stamp_at v (at s + 0x18);
      modified = stamp_at v (at s + 0x21);
    })

pub info_volume : (len : ℕ) (v p : Bytes) (k n : ℕ) → opened_by len v p k ≡ Ok (opened.Volume n) → Fits len v n × Tells (get_info len v p k) (Ok (volume_info n v))
info_volume len v p k n e = go (opened_by len v p k) refl e (seen len v p k)
  where
    go : (o : Result Opened Refusal) → opened_by len v p k ≡ o → o ≡ Ok (opened.Volume n) → Seen len v p k o → Fits len v n × Tells (get_info len v p k) (Ok (volume_info n v))
    go o q z (refused r x) = let y : ◌≡◌ {A = ℕ} 0 1 = cc in absurd (omega arith)
    go o q z (on_volume d f t) =
        let m : total len ≡ n = cc in
        rw (← m) (f, told_at len v p k d volume (Ok (opened.Volume (total len))) (volume_info (total len) v) q refl t (unfold info in refl))
    go o q z (on_entry d s f t off) = let y : ◌≡◌ {A = ℕ} 0 1 = cc in absurd (omega arith)

pub info_entry : (len : ℕ) (v p : Bytes) (k n : ℕ) (g : Home) (s : Place) (x : Entry) → opened_by len v p k ≡ Ok (opened.Entry n g s x) → Tells (get_info len v p k) (Ok (told x))
info_entry len v p k n g s x e = go (opened_by len v p k) refl e (seen len v p k)
  where
    go : (o : Result Opened Refusal) → opened_by len v p k ≡ o → o ≡ Ok (opened.Entry n g s x) → Seen len v p k o → Tells (get_info len v p k) (Ok (told x))
    go o q z (refused r y) = let w : ◌≡◌ {A = ℕ} 0 1 = cc in absurd (omega arith)
    go o q z (on_volume d f t) = let w : ◌≡◌ {A = ℕ} 0 1 = cc in absurd (omega arith)
    go o q z (on_entry d y f t off) =
        let m : entry_of v (at y) ≡ x = cc in
        rw (← m) (told_at len v p k d y (Ok (opened.Entry (total len) (home_of v d) (place_of y) (entry_of v (at y)))) (told (entry_of v (at y))) q refl t
        (entry_told (total len) v d y (target_named (total len) v p k d y f.sane t) off))

-- what get info tells of the volume
pub volume_told : (n : ℕ) (v : Bytes) (a : ℕ) (t : Stamp) (r : ℕ) → a ≡ v 1058 → t ≡ stamp_at v 1052 → r ≡ room map_place v n → map_block v ≡ map_place
    → ◌≡◌ {A = Info} (record {
      kind = 0xF;
      ftype = 0x0F;
      access = a;
      aux = n;
      used = n - r;
      eof = 2048;
      created = t;
      modified = t;
    }) (volume_info n v)
unfolding volume_info ftype eof at
volume_told n v a t r ea et er m = rw (ea, et, er, m) refl
