-- What the stores of create come to, the rows $49 and $48, and what soundness gives of a directory.
use Rattle.std.specs.Prelude.{Ok, Err}
use Prim.Native.Nat.{ℕ, zero, suc, ◌+◌, ◌-◌, ◌*◌, ◌≤◌, ◌<◌}
use mathlib.Core.Path.{◌≡◌, refl, sym, ap, subst, ◌∙◌}
use mathlib.Core.List.{List, [], ◌∷◌, Memᴰ}
use mathlib.Core.Option.{none, some}
use mathlib.Core.Bool.{Bool, true, false}
use lib.Dec.{ltb, eqb}
use lib.ListN.{length}
use native.Mathlib.Omega.{arith}
use borrow.Author.Tests.{eq-eqb, ne_eqb, lt-ltb, le-ltb}
use Rattle.model.specs.Bytes.{Bytes, view, paste, put_word, count, ◌and◌}
use Rattle.model.specs.Names.{Part}
use Rattle.model.specs.Map.{room, lowest, first_free, taken}
use Rattle.model.specs.Directory.{at, block_of, volume, map_place, active_count, chain, next, key, kids, vacant}
use Rattle.model.specs.Refusals.{refusal_number, row, first, settle}
use Rattle.model.specs.Calls.{nothing}
use Rattle.model.specs.Create.{Wanted, directory_kind, last_block, gained, entry_bytes, subdirectory_header, entered, created_at, created, is_full, full, create_need}
use Rattle.model.specs.Answers.{Does}
use Rattle.model.specs.declared.Refusal.{Refusal}
use Rattle.model.specs.declared.Place.{Place}
use Rattle.model.proofs.RefusalLaws.{settle_refused, settle_accepted, number_refuses, first_applies, first_passes}
use Rattle.model.proofs.BitLaws.{room_lowest}
use Rattle.directory.specs.Slots.{place_number, Counted}
use Rattle.directory.specs.Search.{Each}
use Rattle.directory.specs.declared.Home.{Home}
use Rattle.directory.proofs.SlotLaws.{place_of_law}
use Rattle.directory.proofs.AnswerLaws.{vacant_some, listed_inside}
use Rattle.model.proofs.Laws.Keep.{eof_at}
use Rattle.release.proofs.Laws.{chain_step}
use Rattle.create.specs.Entered.{fresh_block, entered_in, gained_at, create_in, grown, Houses}

-- The stores.
module _ (v : Bytes) (z s : ℕ) (p : Bytes) (x : Part) (w : Wanted) where
  pub fresh_directory : w.kind ≡ directory_kind → (f g : Bytes) → f ≡ taken map_place v z → g ≡ paste f (z * 512 + 4) 39 (subdirectory_header p x w.stamp s)
      → g ≡ fresh_block v z s p x w
  unfolding fresh_block
  fresh_directory e f g took put = put ∙ rw (took, eq-eqb w.kind directory_kind e, fresh_block) refl

  pub entered_image : (k c a : ℕ) (f g i : Bytes) → c ≡ active_count v k → a ≡ at s → f ≡ fresh_block v z s p x w
      → g ≡ put_word f (k * 512 + 0x25) (c + 1) → i ≡ paste g a 39 (entry_bytes p x w z k) → i ≡ entered_in v k s z p x w
  unfolding entered_in
  entered_image k c a f g i count start block raised put = put ∙ rw (raised, block, count, start) refl

  pub entered_is : (d : ℕ) → entered map_place v d s z p x w ≡ entered_in v (key v d) s z p x w
  unfolding entered entered_in fresh_block
  entered_is d = refl

-- The walk to the last block.
module _ (n : ℕ) (v : Bytes) where
  pub last_step : (y k u : ℕ) → 0 < u → last_block v y k u ≡ last_block v k (next v k) (u - 1)
  unfolding last_block
  last_step y k zero l = absurd (omega arith)
  last_step y k (suc u) l = let e : suc u - 1 ≡ u = omega arith in rw e refl

  pub last_end : (y k u : ℕ) → u ≤ 0 → y ≡ last_block v y k u
  unfolding last_block
  last_end y k zero l = refl
  last_end y k (suc u) l = absurd (omega arith)

  module _ (k u : ℕ) (each : Each (λ b. b < n) (chain v k u)) (more : 0 < u) where
    both : Each (λ b. b < n) (k ∷ chain v (next v k) (u - 1))
    both = subst (Each (λ b. b < n)) (chain_step v k u more) each

    pub chain_low : k < n
    chain_low = both k (Memᴰ.head refl)

    pub chain_rest : Each (λ b. b < n) (chain v (next v k) (u - 1))
    chain_rest b m = both b (Memᴰ.tail m)

-- The rows $49 and $48.
module _ (n : ℕ) (v : Bytes) (d : ℕ) where
  abbrev pub in_number : ℕ
  in_number = first (row (eqb d volume and full v d) 0x49 ∷ row (ltb (room map_place v n) (create_need v d)) 0x48 ∷ [])

  number : (a b : Bool) → full v d ≡ b → eqb d volume ≡ a
      → in_number ≡ first (row (a and b) 0x49 ∷ row (ltb (room map_place v n) (elim b as (λ _. ℕ) [ true ↦ 2 | false ↦ 1 ])) 0x48 ∷ [])
  unfolding create_need
  number a b e f = rw (f, e, create_need) refl

  no_and : (a : Bool) → (a and false) ≡ false
  unfolding ◌and◌
  no_and true = refl
  no_and false = refl

  slot_number : (s : ℕ) → vacant v (kids v d) ≡ some s → in_number ≡ first (row (ltb (room map_place v n) 1) 0x48 ∷ [])
  slot_number s e = number (eqb d volume) false (unfold is_full in ap is_full e) refl ∙ first_passes (row (eqb d volume and false) 0x49) _ (no_and (eqb d volume))

  pub slot_none : (s : ℕ) → vacant v (kids v d) ≡ some s → room map_place v n < 1 → in_number ≡ 0x48
  slot_none s e l = slot_number s e ∙ first_applies (row (ltb (room map_place v n) 1) 0x48) [] (lt-ltb (room map_place v n) 1 l)

  pub slot_room : (s : ℕ) → vacant v (kids v d) ≡ some s → 1 ≤ room map_place v n → in_number ≡ 0
  slot_room s e l = slot_number s e ∙ first_passes (row (ltb (room map_place v n) 1) 0x48) [] (le-ltb (room map_place v n) 1 l) ∙ unfold first in refl

  module _ (e : vacant v (kids v d) ≡ none) where
    packed : full v d ≡ true
    packed = unfold is_full in ap is_full e

    pub full_volume : d ≡ volume → in_number ≡ 0x49
    full_volume z =
        number true true packed (eq-eqb d volume z) ∙ first_applies (row (true and true) 0x49) _ (unfold ◌and◌ in refl)

    full_number : (d ≡ volume → ⊥) → in_number ≡ first (row (ltb (room map_place v n) 2) 0x48 ∷ [])
    full_number z = number false true packed (ne_eqb d volume z) ∙ first_passes (row (false and true) 0x49) _ (unfold ◌and◌ in refl)

    pub full_none : (d ≡ volume → ⊥) → room map_place v n < 2 → in_number ≡ 0x48
    full_none z l = full_number z ∙ first_applies (row (ltb (room map_place v n) 2) 0x48) [] (lt-ltb (room map_place v n) 2 l)

    pub full_room : (d ≡ volume → ⊥) → 2 ≤ room map_place v n → in_number ≡ 0
    full_room z l = full_number z ∙ first_passes (row (ltb (room map_place v n) 2) 0x48) [] (le-ltb (room map_place v n) 2 l) ∙ unfold first in refl

-- the two outcomes
module _ (n : ℕ) (l : List ℕ) (d : ℕ) (p : Bytes) (x : Part) (w : Wanted) where
  pub in_no : (r : Refusal) → in_number n (view l) d ≡ refusal_number r → Does (create_in n (view l) d p x w) (length l) (Err r) l
  unfolding create_in settle
  in_no r e =
      let s = settle_refused (in_number n (view l) d) nothing (view l) nothing (created map_place n (view l) d p x w) (λ z. number_refuses r (sym e ∙ z)) in
      record { said = sym e; size = refl; bytes = sym s.1 }

  pub in_yes : in_number n (view l) d ≡ 0 → (l' : List ℕ) → length l' ≡ length l → view l' ≡ created map_place n (view l) d p x w
      → Does (create_in n (view l) d p x w) (length l) (Ok tt) l'
  unfolding create_in settle
  in_yes e l' z g =
      let s = settle_accepted (in_number n (view l) d) nothing (view l) nothing (created map_place n (view l) d p x w) e in
      record { said = sym e; size = z; bytes = g ∙ sym s.1 }

-- The lowest free block, as the code finds it.
module _ (n : ℕ) (v : Bytes) (z : ℕ) (found : z ≡ first_free map_place v 0 (n - 0)) where
  pub found_lowest : z ≡ lowest map_place v n
  unfolding lowest
  found_lowest = let e : n - 0 ≡ n = omega arith in found ∙ ap (first_free map_place v 0) e

  pub found_low : 1 ≤ room map_place v n → z < n
  found_low r = rw found_lowest (room_lowest map_place v n r)

-- In the directory d.
module _ (n : ℕ) (v : Bytes) (h : Home) (d : ℕ) (H : Houses n v h d) (p : Bytes) (x : Part) (w : Wanted) where
  pub slot_inside : (s : Place) → vacant v (kids v d) ≡ some (place_number s) → Counted s → s.block < n
  slot_inside s e c =
      let m = (vacant_some v (kids v d) (place_number s) e).0 in
      let i = listed_inside n v h.key h.used (place_number s) H.search (subst (Memᴰ (place_number s)) H.slots m) in
      let b : block_of (place_number s) ≡ s.block = ap (λ l. l.block) (place_of_law s c) in
      rw b at i

  pub slot_image : (s z : ℕ) (i : Bytes) → vacant v (kids v d) ≡ some s → z ≡ lowest map_place v n → i ≡ entered_in v h.key s z p x w
      → i ≡ created map_place n v d p x w
  unfolding created created_at
  slot_image s z i e f g = g ∙ rw (H.keyed, f, e) (sym (entered_is v (lowest map_place v n) s p x w d))

  module _ (e : vacant v (kids v d) ≡ none) (off : d ≡ volume → ⊥) (r : 2 ≤ room map_place v n) where
    pub full_gained : (a y z : ℕ) (g : Bytes) → a ≡ at d → y ≡ last_block v 0 h.key h.used → z ≡ lowest map_place v n → g ≡ gained_at v a h.used y z
        → g ≡ grown n v d
    unfolding gained gained_at
    full_gained a y z g q s t u = u ∙ rw (q, s, t, H.keyed, H.sized, eof_at v d off) refl

    pub full_image : (g : Bytes) (s z z' : ℕ) (i : Bytes) → g ≡ grown n v d → z ≡ lowest map_place v n → s ≡ z * 13 → z' ≡ lowest map_place g n
        → i ≡ entered_in g h.key s z' p x w → i ≡ created map_place n v d p x w
    unfolding created created_at
    full_image g s z z' i q t u y f =
        f ∙ rw (q, u, t, y, q, ← H.key_kept off e r, e) (sym (entered_is (grown n v d) (lowest map_place (grown n v d) n) (lowest map_place v n * 13) p x w d))
