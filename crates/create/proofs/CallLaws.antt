-- What create answers, by what houses the new entry, and what soundness gives of that directory.
use Rattle.std.specs.Prelude.{Result, Ok, Err}
use Prim.Native.Nat.{ℕ, ◌+◌, ◌-◌, ◌*◌, ◌/◌, ◌≤◌, ◌<◌}
use mathlib.Core.Path.{◌≡◌, refl, sym, ap, subst, ◌∙◌}
use mathlib.Core.List.{List, [], ◌∷◌}
use mathlib.Core.Option.{Option, none, some}
use mathlib.Core.Bool.{Bool, true, false}
use lib.Dec.{ltb, eqb}
use lib.ListN.{length}
use native.Mathlib.Omega.{arith}
use borrow.Author.Tests.{eqb-true, eqb-false}
use Rattle.model.specs.Bytes.{Bytes, Octets, view, paste, put_word, ◌and◌}
use Rattle.model.specs.Names.{Part, parts}
use Rattle.model.specs.Map.{room, lowest, taken}
use Rattle.model.specs.Directory.{at, volume, map_place, map_block, active_count, field, key, used, kids, vacant, missing}
use Rattle.model.specs.Sound.{sound}
use Rattle.model.specs.Refusals.{Row, row, first, settle}
use Rattle.model.specs.Calls.{total, target, home, is_no_volume, is_no_directory, is_there, last_part, nothing}
use Rattle.model.specs.Create.{Wanted, directory_kind, last_block, entry_bytes, subdirectory_header, created_at, entered, created, full, create_need, create_number, create}
use Rattle.model.specs.Answers.{Does}
use Rattle.model.specs.declared.Refusal.{Refusal}
use Rattle.model.proofs.RefusalLaws.{settle_refused, number_refuses}
use Rattle.model.proofs.BitLaws.{room_one, room_lowest, lowest_free}
use Rattle.model.proofs.Laws.Frame.{last_in}
use Rattle.model.proofs.Laws.Sound.{Sound, sound_facts}
use Rattle.model.proofs.Laws.Keep.{directory_kids}
use Rattle.model.proofs.Laws.Facts.{block_inside, chain_inside, slot_inside, directory_key_law, seen_directory, mine_apart, volume_seen, volume_directory}
use Rattle.model.proofs.Laws.Lookup as look
use Rattle.model.proofs.Laws.Created.{full_low}
use Rattle.model.proofs.Laws.Extend.{Extends, grown_key_law, grown_free}
use Rattle.directory.specs.Slots.{place_number, place_of}
use Rattle.directory.specs.Lookup.{home_of}
use Rattle.directory.specs.declared.Home.{Home}
use Rattle.directory.proofs.SlotLaws.{place_number_law}
use Rattle.directory.proofs.AnswerLaws.{place_counted, lookup_lands}
use Rattle.opening.proofs.VolumeLaws.{Fits}
use Rattle.opening.proofs.SaneLaws.{sane}
use Rattle.create.specs.Housed.{housed_by}
use Rattle.create.specs.Entered.{fresh_block, entered_in, create_in, grown, Houses}
use Rattle.create.proofs.EnteredLaws.{entered_is, in_number}
use Rattle.create.proofs.HousedLaws.{housed_or, housed_first, housed_in}

-- What soundness gives of the directory d that a path leads to.
module _ (n : ℕ) (v p : Bytes) (k d : ℕ) (octets : Octets v) (h : sound n v ≡ true) (led : target v p k ≡ missing d) where
  abbrev S : Sound n v
  S = sound_facts n v h

  abbrev depth : ℕ
  depth = length (parts p k) - 1

  opened : look.Open v p (last_part (parts p k)) depth (home (target v p k))
  opened =
      look.open_led (look.target_led S p k) (unfold is_no_volume in ap is_no_volume led) (unfold is_no_directory in ap is_no_directory led)
      (unfold is_there in ap is_there led)

  house : look.Home v d opened.steps
  house =
      let at_home : home (target v p k) ≡ d = unfold home in ap home led in
      subst (λ e. look.Home v e opened.steps) at_home opened.home

  own_block : d / 13 < n
  own_block = go (eqb d volume) refl
    where
      go : (t : Bool) → eqb d volume ≡ t → d / 13 < n
      go true e = rw (eqb-true d volume e) (omega (arith, S.large))
      go false e = let q = house.up (eqb-false d volume e) in (slot_inside S q.0 d q.1.home q.1.inside).fits

  -- it is full, and there is room for a block more
  module _ (off : d ≡ volume → ⊥) (e : vacant v (kids v d) ≡ none) (r : 2 ≤ room map_place v n) where
    low : lowest map_place v n < n
    low = room_lowest map_place v n (omega arith)

    extends : Extends n v d (house.up off).0 (last_block v 0 (key v d) (used v d)) (lowest map_place v n)
    extends =
        record {
          octets = octets;
          sound = S;
          spot = (house.up off).1;
          kind = house.holds;
          tail = refl;
          low = full_low S d house.seen house.holds e;
          inside = low;
          spare = lowest_free map_place v n low;
        }

    more_room : 1 ≤ room map_place (grown n v d) n
    more_room =
        omega (arith, room_one map_place (grown n v d) v (lowest map_place v n) 1 n (λ b l. omega (arith, grown_free extends b l)) low)

  houses_at : Houses n v (home_of v d) d
  houses_at =
      record {
        keyed = refl;
        sized = refl;
        head = (block_inside S d (key v d) house.seen (directory_key_law S d house.seen house.holds)).fits;
        slots = directory_kids v d house.holds;
        search = sane n v h d ((lookup_lands v p (parts p k)).missing_home d led);
        counted = place_counted d (place_of d) refl;
        inside = own_block;
        top = λ e. mine_apart S d volume (key v d) house.seen (volume_seen S) (directory_key_law S d house.seen house.holds)
            (rw e (unfold field in directory_key_law S volume (volume_seen S) (volume_directory S)));
        head_block = λ e. rw e (unfold field in refl);
        behind = (chain_inside S d (last_block v 0 (key v d) (used v d)) house.seen house.holds
            (last_in v 0 (key v d) (used v d) (seen_directory S d house.seen house.holds).some)).fits;
        key_kept = λ off e r. grown_key_law (extends off e r);
        room_kept = λ off e r. room_lowest map_place (grown n v d) n (more_room off e r);
      }

  pub houses : Houses n v (home_of v d) (place_number (place_of d))
  houses = subst (λ e. Houses n v (home_of v d) e) (sym (place_number_law d)) houses_at

-- The new entry's name may be lent as a part.
module _ (p q : Bytes) (x y : Part) (w : Wanted) (entry : (z k : ℕ) → entry_bytes p x w z k ≡ entry_bytes q y w z k)
    (header : (s : ℕ) → subdirectory_header p x w.stamp s ≡ subdirectory_header q y w.stamp s) where
  entered_same : (v : Bytes) (d s z : ℕ) → entered map_place v d s z p x w ≡ entered map_place v d s z q y w
  entered_same v d s z = entered_is v z s p x w d ∙ in_same ∙ sym (entered_is v z s q y w d)
    where
      in_same : entered_in v (key v d) s z p x w ≡ entered_in v (key v d) s z q y w
      in_same =
          unfold entered_in fresh_block in
          (ap (λ (h : Bytes). paste (put_word (elim (eqb w.kind directory_kind) as (λ _. Bytes) [ true ↦ paste (taken map_place v z) (z * 512 + 4) 39 h | false ↦ taken map_place v z ]) (key v d * 512 + 0x25) (active_count v (key v d) + 1)) (at s) 39 (entry_bytes p x w z (key v d))) (header s)
          ∙ ap (λ (h : Bytes). paste (put_word (elim (eqb w.kind directory_kind) as (λ _. Bytes) [ true ↦ paste (taken map_place v z) (z * 512 + 4) 39 (subdirectory_header q y w.stamp s) | false ↦ taken map_place v z ]) (key v d * 512 + 0x25) (active_count v (key v d) + 1)) (at s) 39 h) (entry z (key v d)))

  created_same : (n : ℕ) (v : Bytes) (d : ℕ) → created map_place n v d p x w ≡ created map_place n v d q y w
  unfolding created created_at
  created_same n v d = go (vacant v (kids v d))
    where
      go : (o : Option ℕ) → created_at o map_place n v d p x w ≡ created_at o map_place n v d q y w
      go none = entered_same (grown n v d) d (lowest map_place v n * 13) (lowest map_place (grown n v d) n)
      go (some s) = entered_same v d s (lowest map_place v n)

  pub in_same : (n : ℕ) (v : Bytes) (d : ℕ) → create_in n v d p x w ≡ create_in n v d q y w
  unfolding create_in
  in_same n v d = ap (λ (i : Bytes). settle (in_number n v d) nothing v nothing i) (created_same n v d)

-- The call.
module _ (len : ℕ) (v p : Bytes) (k : ℕ) (w : Wanted) where
  abbrev rows : List Row
  rows =
      row (eqb (home (target v p k)) volume and full v (home (target v p k))) 0x49
      ∷ row (ltb (room (map_block v) v (total len)) (create_need v (home (target v p k)))) 0x48
      ∷ []

  number_of : (o : Result (ℕ × Home) Refusal) → housed_by len v p k w.kind w.ftype ≡ o → create_number len v p k w (target v p k) ≡ housed_or o (first rows)
  unfolding create_number
  number_of o e = housed_first len v p k w rows ∙ ap (λ o. housed_or o (first rows)) e

pub create_refused : (l : List ℕ) (p : Bytes) (k : ℕ) (w : Wanted) (r : Refusal) → housed_by (length l) (view l) p k w.kind w.ftype ≡ Err r
    → Does (create (length l) (view l) p k w) (length l) (Err r) l
unfolding create settle
create_refused l p k w r e =
    let v = view l in
    let t = target v p k in
    let n = number_of (length l) v p k w (Err r) e in
    let s = settle_refused (create_number (length l) v p k w t) nothing v nothing (created (map_block v) (total (length l)) v (home t) p (last_part (parts p k)) w) (λ z. number_refuses r (sym n ∙ z)) in
    record { said = sym n; size = refl; bytes = sym s.1 }

-- a directory houses the new entry
pub create_housed : (len : ℕ) (v p : Bytes) (k : ℕ) (w : Wanted) (n : ℕ) (g : Home) → Octets v → housed_by len v p k w.kind w.ftype ≡ Ok (n, g)
    → Fits len v n × Houses n v g (place_number g.place) × (create len v p k w ≡ create_in n v (place_number g.place) p (last_part (parts p k)) w)
unfolding create create_in
create_housed len v p k w n g octets e =
    let H = housed_in len v p k w.kind w.ftype n g e in
    let f = H.fits in
    let d : ℕ = H.place in
    let number : create_number len v p k w (target v p k) ≡ first (rows len v p k w) = number_of len v p k w (Ok (n, g)) e in
    let housed : home (target v p k) ≡ d = unfold home in ap home H.led in
    let whole : create len v p k w ≡ create_in n v d p (last_part (parts p k)) w =
    ap (λ j. settle j nothing v nothing (created (map_block v) (total len) v (home (target v p k)) p (last_part (parts p k)) w)) number
    ∙ rw (housed, f.placed, ← f.size) refl in
    let numbered : place_number (place_of d) ≡ d = place_number_law d in
    rw (← H.same) (f, houses n v p k d octets f.sane H.led, rw numbered whole)
