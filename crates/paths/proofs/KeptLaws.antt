-- Paths after each call, and after calls one after another: what a path led to it still leads to, but for a new name of what was renamed on its way.
use Prim.Native.Nat.{ℕ}
use mathlib.Core.Path.{◌≡◌, refl, sym, ap, subst, ◌∙◌}
use mathlib.Core.List.{List, [], ◌∷◌}
use mathlib.Core.Bool.{Bool, true, false}
use lib.Dec.{eqb}
use borrow.Author.Tests.{eq-eqb, ne_eqb}
use Rattle.model.specs.Bytes.{Bytes, Octets, count}
use Rattle.model.specs.Names.{capitals}
use Rattle.model.specs.Directory.{sort, file, volume, there}
use Rattle.model.specs.Sound.{sound}
use Rattle.model.specs.Calls.{total, target, spot}
use Rattle.model.specs.Create.{Wanted, create}
use Rattle.model.specs.Destroy.{destroy}
use Rattle.model.specs.Rename.{rename}
use Rattle.model.specs.Info.{set_info}
use Rattle.model.specs.Write.{write}
use Rattle.model.specs.SetEof.{set_eof}
use Rattle.model.specs.Catalog.{text}
use Rattle.model.specs.declared.Stamp.{Stamp}
use Rattle.model.proofs.ByteLaws.{at_or_off}
use Rattle.model.proofs.RefusalLaws.{rename_refused, get_info_image, space_image, read_image}
use Rattle.model.proofs.Laws.Facts.{Seen}
use Rattle.model.proofs.Laws.One.{Kept}
use Rattle.model.proofs.Laws.Created.{create_sound}
use Rattle.model.proofs.Laws.Destroy.{destroy_sound}
use Rattle.model.proofs.Laws.Rename.{rename_sound}
use Rattle.model.proofs.Laws.Info.{set_info_sound}
use Rattle.model.proofs.Laws.Written.{write_sound}
use Rattle.model.proofs.Laws.Reset.{set_eof_sound}
use Rattle.model.proofs.Laws.Sequence.{Call, creating, destroying, renaming, informing, asking, measuring, reading, writing, ending, Lent, after, names, call_right, all_after, AllLent, Unnamed, calls_sound, calls_kept}
use Rattle.paths.specs.Ways.{Way, Names, stored, path, path_names, replaced, WayStays, WaysStay}
use Rattle.paths.proofs.CarryLaws.{replaced_off}
use Rattle.paths.proofs.PathLaws.{path_spells, spells_path}
use Rattle.paths.proofs.WayLaws.{some_way, path_on}
use Rattle.paths.proofs.CallLaws.{create_ways, destroy_ways, set_info_ways, write_ways, set_eof_ways, rename_ways, rename_stays}

-- A path leads to s along the way xs. Where that is still a way to s, a path with the names along it leads there.
module _ (n : ℕ) (v w : Bytes) (S : sound n v ≡ true) (S' : sound n w ≡ true) (o : Bytes) (i d s : ℕ) (e : target v o i ≡ there d s) where
  led : (xs : List ℕ) → Way v volume xs s → Way w volume xs s → (p : Bytes) (k : ℕ) → (path v xs ≡ path_names o i → path w xs ≡ path_names p k)
      → target w p k ≡ there d s
  led xs a b p k f =
      let P = path_on n v S o i d s e xs a in
      spells_path n w S' p k d s (record { places = xs; way = b; names = f P.0; held = P.1 })

  still_led : (xs : List ℕ) → Way v volume xs s → WayStays v w xs s → target w o i ≡ there d s
  still_led xs a R = led xs a R.0 o i (λ f. R.1 ∙ f)

all_led : (n : ℕ) (v w : Bytes) → sound n v ≡ true → sound n w ≡ true → WaysStay v w → (o : Bytes) (i d s : ℕ) → target v o i ≡ there d s
    → target w o i ≡ there d s
all_led n v w S S' R o i d s e =
    let W = path_spells n v S o i d s e in
    still_led n v w S S' o i d s e W.places W.way (R W.places s W.way)

-- Each call.
pub create_path : (len : ℕ) (v p : Bytes) (k : ℕ) (w : Wanted) → Octets v → sound (total len) v ≡ true
    → (o : Bytes) (i d s : ℕ) → target v o i ≡ there d s → target (create len v p k w).image o i ≡ there d s
create_path len v p k w b S = all_led (total len) v _ S (create_sound len v p k w b S) (create_ways len v p k w b S)

pub destroy_path : (len : ℕ) (v p : Bytes) (k : ℕ) → Octets v → sound (total len) v ≡ true
    → (o : Bytes) (i d s : ℕ) → (s ≡ spot (target v p k) → ⊥) → target v o i ≡ there d s → target (destroy len v p k).image o i ≡ there d s
destroy_path len v p k b S o i d s n e =
    let W = path_spells (total len) v S o i d s e in
    still_led (total len) v _ S (destroy_sound len v p k b S) o i d s e W.places W.way (destroy_ways len v p k b S W.places s n W.way)

pub set_info_path : (len : ℕ) (v p : Bytes) (k access aux : ℕ) (t : Stamp) → sound (total len) v ≡ true
    → (o : Bytes) (i d s : ℕ) → target v o i ≡ there d s → target (set_info len v p k access aux t).image o i ≡ there d s
set_info_path len v p k access aux t S = all_led (total len) v _ S (set_info_sound len v p k access aux t S) (set_info_ways len v p k access aux t S)

pub write_path : (len : ℕ) (v p : Bytes) (k pos : ℕ) (buffer : Bytes) (size : ℕ) (t : Stamp) → Octets v → Octets buffer → sound (total len) v ≡ true
    → (o : Bytes) (i d s : ℕ) → target v o i ≡ there d s → target (write len v p k pos buffer size t).image o i ≡ there d s
write_path len v p k pos buffer size t b l S =
    all_led (total len) v _ S (write_sound len v p k pos buffer size t b l S) (write_ways len v p k pos buffer size t b l S)

pub set_eof_path : (len : ℕ) (v p : Bytes) (k e : ℕ) (t : Stamp) → Octets v → sound (total len) v ≡ true
    → (o : Bytes) (i d s : ℕ) → target v o i ≡ there d s → target (set_eof len v p k e t).image o i ≡ there d s
set_eof_path len v p k e t b S = all_led (total len) v _ S (set_eof_sound len v p k e t b S) (set_eof_ways len v p k e t b S)

module _ (len : ℕ) (v p : Bytes) (k : ℕ) (q : Bytes) (j : ℕ) (S : sound (total len) v ≡ true) where
  -- what is renamed is not on the way
  pub rename_path : (o : Bytes) (i d s : ℕ) → target v o i ≡ there d s → (xs : List ℕ) → Way v volume xs s
      → count (spot (target v p k)) (volume ∷ xs) ≡ 0 → target (rename len v p k q j).image o i ≡ there d s
  rename_path o i d s e xs w c =
      still_led (total len) v _ S (rename_sound len v p k q j S) o i d s e xs w (rename_stays len v p k q j S xs s c w)

  -- it is: the path with that one name replaced leads there
  pub rename_new_path : (rename len v p k q j).number ≡ 0 → (o : Bytes) (i d s : ℕ) → target v o i ≡ there d s → (xs : List ℕ) → Way v volume xs s
      → (o' : Bytes) (i' : ℕ) → path_names o' i' ≡ replaced (spot (target v p k)) (text (capitals q) 0 j) (volume ∷ xs) (path_names o i)
      → target (rename len v p k q j).image o' i' ≡ there d s
  rename_new_path z o i d s e xs w o' i' f =
      let R = rename_ways len v p k q j S z xs s w in
      led (total len) v _ S (rename_sound len v p k q j S) o i d s e xs w R.0 o' i'
      (λ g. R.1 ∙ ap (replaced (spot (target v p k)) (text (capitals q) 0 j) (volume ∷ xs)) g ∙ sym f)

-- One after another: the names ns along the places ws after a call, and after calls.
unfoldable pub names_after : ℕ → Call → Bytes → List ℕ → Names → Names
names_after len (creating p k w) v ws ns = ns
names_after len (destroying p k) v ws ns = ns
names_after len (renaming p k q j) v ws ns =
    elim (eqb (rename len v p k q j).number 0) [
      | true ↦ replaced (spot (target v p k)) (text (capitals q) 0 j) ws ns
      | false ↦ ns
    ]
names_after len (informing p k access aux t) v ws ns = ns
names_after len (asking p k) v ws ns = ns
names_after len measuring v ws ns = ns
names_after len (reading p k pos b size) v ws ns = ns
names_after len (writing p k pos b size t) v ws ns = ns
names_after len (ending p k e t) v ws ns = ns

pub names_renamed : (len : ℕ) (p : Bytes) (k : ℕ) (q : Bytes) (j : ℕ) (v : Bytes) (ws : List ℕ) (ns : Names) → (rename len v p k q j).number ≡ 0
    → names_after len (renaming p k q j) v ws ns ≡ replaced (spot (target v p k)) (text (capitals q) 0 j) ws ns
unfolding names_after
names_renamed len p k q j v ws ns e = rw (eq-eqb _ 0 e, names_after) refl

unfoldable pub all_names_after : ℕ → List Call → Bytes → List ℕ → Names → Names
all_names_after len [] v ws ns = ns
all_names_after len (c ∷ cs) v ws ns = all_names_after len cs (after len c v) ws (names_after len c v ws ns)

call_way : (len : ℕ) (c : Call) (v : Bytes) → Lent c → Octets v → sound (total len) v ≡ true → (xs : List ℕ) (s : ℕ) → (s ≡ names c v → ⊥)
    → Way v volume xs s → Way (after len c v) volume xs s × (path (after len c v) xs ≡ names_after len c v (volume ∷ xs) (path v xs))
unfolding names_after
call_way len (creating p k w) v l b S xs s n way = create_ways len v p k w b S xs s way
call_way len (destroying p k) v l b S xs s n way = destroy_ways len v p k b S xs s n way
call_way len (renaming p k q j) v l b S xs s n way =
    at_or_off (rename len v p k q j).number 0
    (λ e. rw (eq-eqb _ 0 e, names_after) (rename_ways len v p k q j S e xs s way))
    (λ z. rw (ne_eqb _ 0 z, names_after) (subst (λ u. WayStays v u xs s) (sym (rename_refused len v p k q j z).1) (way, refl)))
call_way len (informing p k access aux t) v l b S xs s n way = set_info_ways len v p k access aux t S xs s way
call_way len (asking p k) v l b S xs s n way = subst (λ u. WayStays v u xs s) (sym (get_info_image len v p k)) (way, refl)
call_way len measuring v l b S xs s n way = subst (λ u. WayStays v u xs s) (sym (space_image len v)) (way, refl)
call_way len (reading p k pos o size) v l b S xs s n way = subst (λ u. WayStays v u xs s) (sym (read_image len v p k pos o size)) (way, refl)
call_way len (writing p k pos o size t) v l b S xs s n way = write_ways len v p k pos o size t b l.1 S xs s way
call_way len (ending p k e t) v l b S xs s n way = set_eof_ways len v p k e t b S xs s way

-- no call names s: the way to it is the same, and the names along it are those before, but for those that calls gave
pub calls_way : (len : ℕ) (cs : List Call) (v : Bytes) → AllLent cs → Octets v → sound (total len) v ≡ true
    → (xs : List ℕ) (s : ℕ) → Unnamed len cs v s → Way v volume xs s
    → let w = all_after len cs v in Way w volume xs s × (path w xs ≡ all_names_after len cs v (volume ∷ xs) (path v xs))
unfolding all_names_after
calls_way len [] v l b S xs s u way = (way, refl)
calls_way len (c ∷ cs) v l b S xs s u way =
    let R = call_right len c v l.0 b S in
    let A = call_way len c v l.0 b S xs s u.0 way in
    let B = calls_way len cs (after len c v) l.1 R.octets R.sound xs s u.1 A.0 in
    (B.0, B.1 ∙ ap (all_names_after len cs (after len c v) (volume ∷ xs)) A.1)

-- the path with those names leads to it
pub calls_new_path : (len : ℕ) (cs : List Call) (v : Bytes) → AllLent cs → Octets v → sound (total len) v ≡ true
    → (o : Bytes) (i d s : ℕ) → target v o i ≡ there d s → (xs : List ℕ) → Way v volume xs s → Unnamed len cs v s
    → (o' : Bytes) (i' : ℕ) → path_names o' i' ≡ all_names_after len cs v (volume ∷ xs) (path_names o i) → target (all_after len cs v) o' i' ≡ there d s
calls_new_path len cs v l b S o i d s e xs w u o' i' f =
    let R = calls_way len cs v l b S xs s u w in
    led (total len) v _ S (calls_sound len cs v l b S).0 o i d s e xs w R.0 o' i'
    (λ g. R.1 ∙ ap (all_names_after len cs v (volume ∷ xs)) g ∙ sym f)

-- a call renames no place among ws, and no call does when its turn comes
abbrev pub Spares : Call → Bytes → List ℕ → Type 0
Spares (creating p k w) v ws = Unit {0}
Spares (destroying p k) v ws = Unit {0}
Spares (renaming p k q j) v ws = count (spot (target v p k)) ws ≡ 0
Spares (informing p k access aux t) v ws = Unit {0}
Spares (asking p k) v ws = Unit {0}
Spares measuring v ws = Unit {0}
Spares (reading p k pos b size) v ws = Unit {0}
Spares (writing p k pos b size t) v ws = Unit {0}
Spares (ending p k e t) v ws = Unit {0}

abbrev pub Unrenamed : ℕ → List Call → Bytes → List ℕ → Type 0
Unrenamed len [] v ws = Unit {0}
Unrenamed len (c ∷ cs) v ws = Spares c v ws × Unrenamed len cs (after len c v) ws

names_spared : (len : ℕ) (c : Call) (v u : Bytes) (ws : List ℕ) → Spares c v ws → names_after len c v ws (stored u ws) ≡ stored u ws
unfolding names_after
names_spared len (creating p k w) v u ws h = refl
names_spared len (destroying p k) v u ws h = refl
names_spared len (renaming p k q j) v u ws h = go (eqb (rename len v p k q j).number 0)
  where
    go : (b : Bool) → ◌≡◌ {A = Names} (elim b [ true ↦ replaced (spot (target v p k)) (text (capitals q) 0 j) ws (stored u ws) | false ↦ stored u ws ]) (stored u ws)
    go true = replaced_off (spot (target v p k)) (text (capitals q) 0 j) u ws h
    go false = refl
names_spared len (informing p k access aux t) v u ws h = refl
names_spared len (asking p k) v u ws h = refl
names_spared len measuring v u ws h = refl
names_spared len (reading p k pos b size) v u ws h = refl
names_spared len (writing p k pos b size t) v u ws h = refl
names_spared len (ending p k e t) v u ws h = refl

all_spared : (len : ℕ) (cs : List Call) (v u : Bytes) (ws : List ℕ) → Unrenamed len cs v ws → all_names_after len cs v ws (stored u ws) ≡ stored u ws
unfolding all_names_after
all_spared len [] v u ws h = refl
all_spared len (c ∷ cs) v u ws h =
    ap (all_names_after len cs (after len c v) ws) (names_spared len c v u ws h.0) ∙ all_spared len cs (after len c v) u ws h.1

-- and where none of them renames a place on the way, the same path does
pub calls_path : (len : ℕ) (cs : List Call) (v : Bytes) → AllLent cs → Octets v → sound (total len) v ≡ true
    → (o : Bytes) (i d s : ℕ) → target v o i ≡ there d s → (xs : List ℕ) → Way v volume xs s → Unnamed len cs v s → Unrenamed len cs v (volume ∷ xs)
    → target (all_after len cs v) o i ≡ there d s
calls_path len cs v l b S o i d s e xs w u r =
    let R = calls_way len cs v l b S xs s u w in
    still_led (total len) v _ S (calls_sound len cs v l b S).0 o i d s e xs w (R.0, R.1 ∙ all_spared len cs v v (volume ∷ xs) r)

-- A data file that no call names keeps its entry, blocks and bytes; there is a way to it, the same before and after, and the names along it are
-- those before, but for those that calls gave to directories on it or to the volume.
pub calls_file : (len : ℕ) (cs : List Call) (v : Bytes) → AllLent cs → Octets v → sound (total len) v ≡ true
    → (s h : ℕ) → Seen v s → sort v s ≡ file h → Unnamed len cs v s
    → let w = all_after len cs v in
    Kept v w s × (xs : List ℕ) × Way v volume xs s × Way w volume xs s × (path w xs ≡ all_names_after len cs v (volume ∷ xs) (path v xs))
calls_file len cs v l b S s h q e u =
    let W = some_way (total len) v S s q (rw e refl) in
    let R = calls_way len cs v l b S W.0 s u W.1 in
    (calls_kept len cs v l b S s h q e u, W.0, W.1, R.0, R.1)
