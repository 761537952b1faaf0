-- What set info answers and stores, by what the path opened.
use Rattle.std.specs.Prelude.{Result, Ok, Err}
use Prim.Native.Nat.{ℕ, ◌+◌, ◌/◌, ◌%◌, ◌≤◌}
use mathlib.Core.Path.{◌≡◌, refl, sym, ap, ◌∙◌}
use mathlib.Core.Bool.{Bool, true, false}
use mathlib.Core.List.{List, [], ◌∷◌}
use lib.ListN.{length}
use lib.Dec.{eqb}
use borrow.Author.Tests.{ne_eqb}
use Rattle.model.specs.Bytes.{Bytes, view, put, put_word}
use Rattle.model.specs.Directory.{at, volume, there}
use Rattle.model.specs.Refusals.{refusal_number, Row, row, first}
use Rattle.model.specs.Calls.{target, spot, put_stamp}
use Rattle.model.specs.Info.{info_set, set_info_number, set_info}
use Rattle.model.specs.Answers.{Does}
use Rattle.model.specs.declared.Stamp.{Stamp}
use Rattle.model.specs.declared.Place.{Place}
use Rattle.model.specs.declared.Entry.{Entry}
use Rattle.model.specs.declared.Refusal.{Refusal}
use Rattle.model.specs.declared.Refusal.TheVariants.{BadType, Locked}
use Rattle.directory.specs.Slots.{place_number, Counted, place_of}
use Rattle.directory.specs.declared.Home.{Home}
use Rattle.directory.proofs.SlotLaws.{never, place_number_law}
use Rattle.directory.proofs.AnswerLaws.{place_counted}
use Rattle.entries.proofs.DoesLaws.{does_refused, does_done}
use Rattle.opening.specs.declared.Opened.{Opened}
use Rattle.opening.specs.declared.Opened.TheVariants as opened
use Rattle.opening.proofs.OpenedLaws.{opened_or, Seen, refused, on_volume, on_entry, seen}
use Rattle.opening.specs.Opened.{opened_by, opened_if}
use Rattle.opening.proofs.IfLaws.{if_first, if_open}
use Rattle.opening.proofs.PlaceLaws.{slot_fits}

-- the bytes of a slot at a as set info leaves them
abbrev pub info_at : Bytes → ℕ → ℕ → ℕ → Stamp → Bytes
info_at v a access aux t = put_stamp (put_word (put v (a + 0x1E) access) (a + 0x1F) aux) (a + 0x21) t

module _ (len : ℕ) (v p : Bytes) (k access aux : ℕ) (t : Stamp) where
  abbrev fit : Bool
  fit = eqb (access / 4 % 8) 0

  abbrev way : Result Opened Refusal
  way = opened_if fit BadType len v p k

  abbrev number : ℕ
  number = set_info_number len v p k access (target v p k)

  -- $4E
  abbrev last_row : List Row
  last_row = row (eqb (spot (target v p k)) volume) 0x4E ∷ []

  set_number : (o : Result Opened Refusal) → way ≡ o → number ≡ opened_or o (first last_row)
  unfolding set_info_number
  set_number o e = if_first fit BadType len v p k last_row ∙ ap (λ x. opened_or x (first last_row)) e

  -- the last row where the path leads to s
  set_led : (d s : ℕ) (b : Bool) → target v p k ≡ there d s → eqb s volume ≡ b
      → first (row (eqb (spot (target v p k)) volume) 0x4E ∷ []) ≡ elim b as (λ _. ℕ) [ true ↦ 0x4E | false ↦ 0 ]
  unfolding first spot
  set_led d s b e q = ap (λ x. first (row (eqb (spot x) volume) 0x4E ∷ [])) e ∙ ap (λ x. elim x as (λ _. ℕ) [ true ↦ 0x4E | false ↦ 0 ]) q

  set_volume : (n : ℕ) → way ≡ Ok (opened.Volume n) → number ≡ refusal_number Locked
  set_volume n e = go (opened_by len v p k) refl (if_open fit BadType len v p k (Ok (opened.Volume n)) e (λ w z. never (cc))).1 (seen len v p k)
    where
      go : (o : Result Opened Refusal) → opened_by len v p k ≡ o → o ≡ Ok (opened.Volume n) → Seen len v p k o → number ≡ refusal_number Locked
      go o q z (refused r x) = never (cc)
      go o q z (on_volume d f u) = set_number (Ok (opened.Volume n)) e ∙ set_led d volume true u refl
      go o q z (on_entry d s f u off) = never (cc)

  -- what is to be stored, and where
  pub record Sets (l : Place) : Type 0 where
    pub counted : Counted l
    pub fits : at (place_number l) + 39 ≤ len
    pub accepted : number ≡ 0
    pub stored : info_at v (at (place_number l)) access aux t ≡ info_set v (spot (target v p k)) access aux t

  pub set_entry : (n : ℕ) (h : Home) (l : Place) (x : Entry) → way ≡ Ok (opened.Entry n h l x) → Sets l
  unfolding info_set spot
  set_entry n h l x e = go (opened_by len v p k) refl (if_open fit BadType len v p k (Ok (opened.Entry n h l x)) e (λ w z. never (cc))).1 (seen len v p k)
    where
      go : (o : Result Opened Refusal) → opened_by len v p k ≡ o → o ≡ Ok (opened.Entry n h l x) → Seen len v p k o → Sets l
      go o q z (refused r y) = never (cc)
      go o q z (on_volume d f u) = never (cc)
      go o q z (on_entry d s f u off) =
          let m : place_of s ≡ l = cc in
          let b : place_number l ≡ s = ap place_number (sym m) ∙ place_number_law s in
          record {
            counted = place_counted s l m;
            fits = rw b (slot_fits len v p k d s f u off);
            accepted = set_number (Ok (opened.Entry n h l x)) e ∙ set_led d s false u (ne_eqb s volume off);
            stored = ap (λ y. info_at v (at y) access aux t) b ∙ ap (λ y. info_at v (at (spot y)) access aux t) (sym u);
          }

-- the outcomes
module _ (l : List ℕ) (p : Bytes) (k access aux : ℕ) (t : Stamp) where
  abbrev call_way : Result Opened Refusal
  call_way = opened_if (eqb (access / 4 % 8) 0) BadType (length l) (view l) p k

  pub set_opened : {o : (Result Opened Refusal)} (n : ℕ) (h : Home) (s : Place) (x : Entry) → o ≡ call_way → o ≡ Ok (opened.Entry n h s x) → Sets (length l) (view l) p k access aux t s
  set_opened n h s x e q = set_entry (length l) (view l) p k access aux t n h s x (sym e ∙ q)

  pub set_does_refused : {o : (Result Opened Refusal)} (r : Refusal) → o ≡ call_way → o ≡ Err r
      → Does (set_info (length l) (view l) p k access aux t) (length l) (Err r) l
  unfolding set_info
  set_does_refused r e g = does_refused _ l _ r (set_number (length l) (view l) p k access aux t (Err r) (sym e ∙ g))

  pub set_does_volume : {o : (Result Opened Refusal)} (n : ℕ) → o ≡ call_way → o ≡ Ok (opened.Volume n)
      → Does (set_info (length l) (view l) p k access aux t) (length l) (Err Locked) l
  unfolding set_info
  set_does_volume n e g = does_refused _ l _ Locked (set_volume (length l) (view l) p k access aux t n (sym e ∙ g))

  pub set_does : {o : (Result Opened Refusal)} (n : ℕ) (h : Home) (s : Place) (x : Entry) (l' : List ℕ) → o ≡ call_way → o ≡ Ok (opened.Entry n h s x) → length l' ≡ length l
      → view l' ≡ info_at (view l) (at (place_number s)) access aux t
      → Does (set_info (length l) (view l) p k access aux t) (length l) (Ok tt) l'
  unfolding set_info
  set_does n h s x l' e q m w =
      let g = set_opened n h s x e q in
      does_done _ (length l) (view l) _ l' g.accepted m (w ∙ g.stored)
