-- The call create keeps soundness, and every file as it was: in a vacant slot, and in a full subdirectory, which gains a block first.
use Prim.Native.Nat.{ℕ, suc, ◌+◌, ◌*◌, ◌≤◌, ◌<◌}
use mathlib.Core.Path.{◌≡◌, refl, sym, ap, ◌∙◌}
use mathlib.Core.List.{List, [], ◌∷◌}
use mathlib.Core.Option.{Option, none, some}
use mathlib.Core.Bool.{Bool, true, false, not, false≢true}
use lib.Dec.{ltb, eqb}
use lib.ListN.{length, length-drop}
use native.Mathlib.Omega.{arith}
use borrow.Author.Tests.{eqb-true, eqb-false, eq-eqb, ltb-false, ltb-true}
use Rattle.model.specs.Bytes.{Bytes, Octets, sum, count, is, ◌or◌}
use Rattle.model.specs.Names.{Part, parts, proper_path, proper_name, same_name}
use Rattle.model.specs.Map.{room, lowest}
use Rattle.model.specs.Directory.{Sort, inactive, directory, improper, file, sort, is_active, live, at, volume, directory_type, map_place, map_block, key, used, chain, slots, kids, active, vacant, seek}
use Rattle.model.specs.Calls.{total, target, home, last_part}
use Rattle.model.specs.Create.{Wanted, directory_kind, last_block, gained, entered, created_at, created, is_full, full, create_need, wrong_type, create_number, create}
use Rattle.model.specs.Sound.{sound}
use Rattle.model.proofs.BitLaws.{room_lowest, lowest_free}
use Rattle.model.proofs.SumLaws.{is_self, sum_append}
use Rattle.model.proofs.Laws.Frame.{chain_length, slots_length, slots_first}
use Rattle.model.proofs.TestLaws.{and_both}
use Rattle.model.proofs.Laws.Sound.{Sound, sound_facts, facts_sound}
use Rattle.model.proofs.Laws.Keep.{directory_kids}
use Rattle.model.proofs.Laws.Facts.{Seen}
use Rattle.model.proofs.Laws.Most.{directory_most}
use Rattle.model.proofs.Laws.One.{Place, place, Kept, file_directory, inactive_file, way_bottom, bottom}
use Rattle.model.proofs.Laws.Spelling.{same_bears, bears_same, bears_named}
use Rattle.model.proofs.Laws.Lookup.{rows_off, not_false, seek_none, name_size_law, path_short, path_last, Home, open_led, target_led}
use Rattle.model.proofs.Laws.Create.{Fresh, a_file, a_directory, Creates, made_sound, made_others}
use Rattle.model.proofs.Laws.Extend.{Extends, grown_sound, grown_others, grown_octets, grown_place, grown_entry, grown_room, grown_way, grown_kids, grown_off}
use Rattle.model.proofs.Laws.Settled.{settled, kept_self, kept_trans}

-- every file is as it was
abbrev pub Files : Bytes → Bytes → Type 0
Files v w = (x h : ℕ) → Seen v x → sort v x ≡ file h → Kept v w x

-- The first inactive slot.
vacant_some : (v : Bytes) (ss : List ℕ) (s : ℕ) → vacant v ss ≡ some s → (1 ≤ count s ss) × (sort v s ≡ inactive)
unfolding vacant sum
vacant_some v [] s e = let z : ◌≡◌ {A = ℕ} 0 1 = cc in absurd (omega arith)
vacant_some v (t ∷ ss) s e = go (sort v t) refl e (vacant_some v ss s)
  where
    go : (K : Sort) → sort v t ≡ K → ◌≡◌ {A = Option ℕ} (elim (is_active K) [ true ↦ vacant v ss | false ↦ some t ]) (some s)
        → (vacant v ss ≡ some s → (1 ≤ count s ss) × (sort v s ≡ inactive)) → (1 ≤ is s t + count s ss) × (sort v s ≡ inactive)
    go inactive f g r = let i : t ≡ s = cc in rw (← i) (omega (arith, is_self t), f)
    go directory f g r = let h = r g in (omega (arith, h.0), h.1)
    go improper f g r = let h = r g in (omega (arith, h.0), h.1)
    go (file k) f g r = let h = r g in (omega (arith, h.0), h.1)

vacant_none : (v : Bytes) (ss : List ℕ) → vacant v ss ≡ none → active v ss ≡ length ss
unfolding vacant sum
vacant_none v [] e = refl
vacant_none v (t ∷ ss) e = go (sort v t) refl e (vacant_none v ss)
  where
    go : (K : Sort) → sort v t ≡ K → ◌≡◌ {A = Option ℕ} (elim (is_active K) [ true ↦ vacant v ss | false ↦ some t ]) none
        → (vacant v ss ≡ none → active v ss ≡ length ss) → live K + active v ss ≡ suc (length ss)
    go inactive f g r = let z : ◌≡◌ {A = ℕ} 0 1 = cc in absurd (omega arith)
    go directory f g r = omega (arith, r g)
    go improper f g r = omega (arith, r g)
    go (file k) f g r = omega (arith, r g)

-- a directory with no inactive slot has at most 4,681 blocks
pub full_low : {n : ℕ} {v : Bytes} (S : Sound n v) (d : ℕ) → Seen v d → sort v d ≡ directory → vacant v (kids v d) ≡ none → used v d < 32767
full_low {n} {v} S d h e f =
    omega (
      arith,
      S.small,
      directory_most S d h e,
      vacant_none v (kids v d) f,
      ap (length {A = ℕ}) (directory_kids v d e),
      length-drop 1 (slots (chain v (key v d) (used v d))),
      slots_length (chain v (key v d) (used v d)),
      chain_length v (key v d) (used v d),
    )

-- What is wanted is a file or a directory.
pub data Wants (w : Wanted) : Type 0 where
  want_file : w.kind ≡ 1 → (w.ftype ≡ directory_type → ⊥) → Wants w
  want_directory : w.kind ≡ directory_kind → w.ftype ≡ directory_type → Wants w

pub wants : (w : Wanted) → (eqb w.kind 1 or eqb w.kind directory_kind) ≡ true → wrong_type w ≡ false → Wants w
unfolding wrong_type ◌or◌
wants w e f = go (eqb w.kind directory_kind) refl (eqb w.kind 1) refl e f
  where
    go : (b : Bool) → eqb w.kind directory_kind ≡ b → (c : Bool) → eqb w.kind 1 ≡ c → (c or b) ≡ true
        → ◌≡◌ {A = Bool} (elim b [ true ↦ not (eqb w.ftype directory_type) | false ↦ eqb w.ftype directory_type ]) false → Wants w
    go true g c h i j = want_directory (eqb-true _ _ g) (eqb-true _ _ (not_false _ j))
    go false g true h i j = want_file (eqb-true _ _ h) (eqb-false _ _ j)
    go false g false h i j = absurd (false≢true i)

new_sort : {w : Wanted} → Wants w → Sort
new_sort (want_file e f) = file 0
new_sort (want_directory e f) = directory

new_level : {w : Wanted} → Wants w → ℕ
new_level (want_file e f) = 0
new_level (want_directory e f) = 1

fresh : (v : Bytes) (a : ℕ) {w : Wanted} (W : Wants w) → bottom v a ≡ 0 → Fresh v w a (new_sort W) (new_level W)
unfolding new_sort new_level
fresh v a (want_file e f) b = a_file e f
fresh v a (want_directory e f) b = a_directory e f b

-- A new entry in d takes c blocks and gives u: in an inactive slot, or in the first slot of a block that d gains.
pub data NewEntry (n : ℕ) (v : Bytes) (d : ℕ) (p : Bytes) (x : Part) (w : Wanted) : ℕ → Bytes → Type 0 where
  in_slot : {s z t : ℕ} {K : Sort} → Creates n v s d z p x w K t → NewEntry n v d p x w 1 (entered map_place v d s z p x w)
  in_block : {e y z z' t : ℕ} {K : Sort} → Extends n v d e y z → Creates n (gained map_place v d y z) (z * 13) d z' p x w K t
      → NewEntry n v d p x w 2 (entered map_place (gained map_place v d y z) d (z * 13) z' p x w)

pub entry_sound : {n : ℕ} {v : Bytes} {d : ℕ} {p : Bytes} {x : Part} {w : Wanted} {c : ℕ} {u : Bytes} → NewEntry n v d p x w c u → Sound n u
entry_sound (in_slot C) = made_sound C
entry_sound (in_block E C) = made_sound C

entry_files : {n : ℕ} {v : Bytes} {d : ℕ} {p : Bytes} {x : Part} {w : Wanted} {c : ℕ} {u : Bytes} → NewEntry n v d p x w c u → Files v u
entry_files (in_slot C) y h q f = made_others C y h q (λ i. inactive_file {h = h} (sym C.old ∙ rw (← i) f)) f
entry_files (in_block E C) y h q f =
    let A = grown_others E y h q (λ i. file_directory (sym f ∙ rw i E.kind)) f in
    kept_trans A
    (made_others C y h A.seen (λ i. inactive_file {h = h} (sym C.old ∙ rw (← i) (A.sorted ∙ f))) (A.sorted ∙ f))

-- In a directory d, k steps below the volume.
module _ {n : ℕ} {v : Bytes} {d k : ℕ} (p : Bytes) (x : Part) {w : Wanted} (octets : Octets v) (S : Sound n v) (H : Home v d k)
    (lacks : seek v p x (kids v d) ≡ none) (proper : proper_name p x.start x.size ≡ true) (short : 2 * (k + 2) ≤ 64) (W : Wants w) where
  -- a vacant slot
  module _ (s : ℕ) (e : vacant v (kids v d) ≡ some s) (r : 1 ≤ room map_place v n) where
    slot_place : Place v s d
    slot_place = place s d S H.seen H.holds (vacant_some v (kids v d) s e).0

    slot_creates : Creates n v s d (lowest map_place v n) p x w (new_sort W) (new_level W)
    slot_creates =
        record {
          octets = octets;
          sound = S;
          spot = slot_place;
          old = (vacant_some v (kids v d) s e).1;
          inside = room_lowest map_place v n r;
          spare = lowest_free map_place v n (room_lowest map_place v n r);
          proper = proper;
          lacks = seek_none v p x (kids v d) lacks;
          fresh = fresh v s W (way_bottom k S slot_place H.way short);
        }

  -- a full subdirectory
  module _ (e : vacant v (kids v d) ≡ none) (r : 2 ≤ room map_place v n) (below : d ≡ volume → ⊥) where
    abbrev z : ℕ
    z = lowest map_place v n

    abbrev y : ℕ
    y = last_block v 0 (key v d) (used v d)

    abbrev g : Bytes
    g = gained map_place v d y z

    full_extends : Extends n v d (H.up below).0 y z
    full_extends =
        record {
          octets = octets;
          sound = S;
          spot = (H.up below).1;
          kind = H.holds;
          tail = refl;
          low = full_low S d H.seen H.holds e;
          inside = room_lowest map_place v n (omega arith);
          spare = lowest_free map_place v n (room_lowest map_place v n (omega arith));
        }

    full_room : 1 ≤ room map_place g n
    full_room = omega (arith, grown_room full_extends)

    full_lacks : (s : ℕ) → 1 ≤ count s (kids g d) → is_active (sort g s) ≡ true → same_name g (at s) p x ≡ true → ⊥
    full_lacks s c a b = go (ltb 0 (count s (slots (z ∷ [])))) refl
      where
        go : (t : Bool) → ltb 0 (count s (slots (z ∷ []))) ≡ t → ⊥
        go true f = false≢true (rw (grown_off full_extends s (ltb-true 0 (count s (slots (z ∷ []))) f)) at a)
        go false f =
            let c' : 1 ≤ count s (kids v d) =
            omega (arith, ltb-false 0 (count s (slots (z ∷ []))) f, sum_append (is s) (kids v d) (slots (z ∷ [])), rw (grown_kids full_extends) at c) in
            let m = grown_entry full_extends s c' in
            seek_none v p x (kids v d) lacks s c' (rw (← m.0) a)
            (bears_same v (at s) p x
            (bears_named v g (at s) p x (name_size_law p x.start x.size proper) m.1 (same_bears g (at s) p x b)))

    full_creates : Creates n g (z * 13) d (lowest map_place g n) p x w (new_sort W) (new_level W)
    full_creates =
        let P = grown_place full_extends (z * 13) (slots_first z) in
        record {
          octets = grown_octets full_extends;
          sound = grown_sound full_extends;
          spot = P.0;
          old = P.1;
          inside = room_lowest map_place g n full_room;
          spare = lowest_free map_place g n (room_lowest map_place g n full_room);
          proper = proper;
          lacks = full_lacks;
          fresh = fresh g (z * 13) W (way_bottom k (grown_sound full_extends) P.0 (grown_way full_extends d k H.way) short);
        }

  new_entry : (full v d ≡ true → d ≡ volume → ⊥) → create_need v d ≤ room map_place v n
      → NewEntry n v d p x w (create_need v d) (created map_place n v d p x w)
  unfolding created created_at create_need is_full
  new_entry below r = go (vacant v (kids v d)) refl below r
    where
      go : (o : Option ℕ) → vacant v (kids v d) ≡ o → (is_full o ≡ true → d ≡ volume → ⊥)
          → elim (is_full o) as (λ _. ℕ) [ true ↦ 2 | false ↦ 1 ] ≤ room map_place v n
          → NewEntry n v d p x w (elim (is_full o) as (λ _. ℕ) [ true ↦ 2 | false ↦ 1 ]) (created_at o map_place n v d p x w)
      go none e b r = in_block (full_extends e r (b refl)) (full_creates e r (b refl))
      go (some s) e b r = in_slot (slot_creates s e r)

-- The call.
module _ (len : ℕ) (v p : Bytes) (k : ℕ) (w : Wanted) (octets : Octets v) (S : sound (total len) v ≡ true) where
  Right : Bytes → Type 0
  Right u = (sound (total len) u ≡ true) × Files v u

  abbrev where_to : ℕ
  where_to = home (target v p k)

  pub creates : create_number len v p k w (target v p k) ≡ 0
      → NewEntry (total len) v where_to p (last_part (parts p k)) w (create_need v where_to)
      (created (map_block v) (total len) v where_to p (last_part (parts p k)) w)
  unfolding create_number
  creates e =
      let facts = sound_facts (total len) v S in
      let r = rows_off _ e refl in
      let path : proper_path p k ≡ true = not_false _ (r 2) in
      let O = open_led (target_led facts p k) (r 5) (r 6) (r 7) in
      rw facts.place
      (new_entry {k = O.steps} p (last_part (parts p k)) octets facts O.home O.lacks (path_last p k path (omega (arith, O.depth)))
      (omega (arith, O.depth, path_short p k path)) (wants w (not_false _ (r 3)) (r 4))
      (λ f z. false≢true (sym (r 8) ∙ and_both _ _ (eq-eqb where_to volume z) f))
      (rw facts.place at (ltb-false (room (map_block v) v (total len)) (create_need v where_to) (r 9))))

  kept : Right (create len v p k w).image
  unfolding create Right
  kept = settled _ _ v _ _ Right (S, λ x h s e. kept_self s) (λ e. let N = creates e in (facts_sound (entry_sound N), entry_files N))

  pub create_sound : sound (total len) (create len v p k w).image ≡ true
  unfolding Right
  create_sound = kept.0

  pub create_files : Files v (create len v p k w).image
  unfolding Right
  create_files = kept.1
