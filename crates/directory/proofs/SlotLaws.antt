-- A slot that is lent as its 39 bytes says what stands in the image at its place. Assumes nothing.
use mathlib.Core.Path.{◌≡◌, refl, sym, ap, ◌∙◌}
use mathlib.Core.Bool.{true, false}
use mathlib.Core.List.{List}
use mathlib.Core.Logic.{◌⊎◌, ⊎_elim}
use Prim.Native.Nat.{ℕ, zero, suc, ◌+◌, ◌-◌, ◌*◌, ◌/◌, ◌%◌, ◌≤◌, ◌<◌}
use lib.ListN.{take, drop}
use native.Mathlib.Omega.{arith}
use borrow.Author.Tests.{ne_eqb, lt-leb}
use Rattle.model.specs.Bytes.{Bytes, view, from, word, long}
use Rattle.model.specs.Names.{Part, same_name}
use Rattle.model.specs.Kinds.{key_of}
use Rattle.model.specs.Directory.{place, at, volume, Sort, inactive, directory, improper, file, sort_of, sort, is_active, ftype, key, used, eof, access}
use Rattle.model.specs.Info.{stamp_at}
use Rattle.model.specs.declared.Kind.{Kind}
use Rattle.model.specs.declared.Entry.{Entry}
use Rattle.model.specs.declared.Place.{Place}
use Rattle.model.proofs.Laws.Keep.{sort_at, field_at}
use Rattle.model.proofs.ByteLaws.{Agree, agree_part, word_agree, word_from, long_agree, long_from}
use Rattle.names.proofs.PartLaws.{slot_same, part_run}
use Rattle.directory.specs.Slots.{place_number, place_of, Counted, kind_of, entry_with, entry_of, slot_says, decoded}
use Rattle.directory.specs.declared.Slot.{Slot}
use Rattle.directory.specs.declared.Slot.TheVariants.{Inactive, Improper, Active}

-- where two unlike constructors are equal, cc finds this, and all follows
pub never : {A : Type 0} → ◌≡◌ {A = ℕ} 0 1 → A
never z = absurd (let w : ⊥ = omega arith in w)

-- Places.
pub place_one : (b : ℕ) → place b 1 ≡ b * 13
unfolding place
place_one b = omega arith

pub place_two : (b : ℕ) → place b 2 ≡ suc (b * 13)
unfolding place
place_two b = omega arith

pub place_next : (b t : ℕ) → 1 ≤ t → suc (place b t) ≡ place b (t + 1)
unfolding place
place_next b t h = omega arith

pub place_of_law : (l : Place) → Counted l → place_of (place_number l) ≡ l
unfolding place
place_of_law l h =
    let x : (l.block * 13 + l.slot - 1) / 13 ≡ l.block = omega arith in
    let y : (l.block * 13 + l.slot - 1) % 13 + 1 ≡ l.slot = omega arith in
    rw (x, y)

pub place_number_law : (s : ℕ) → place_number (place_of s) ≡ s
unfolding place
place_number_law s = omega arith

-- where the bytes of a slot are
pub at_place : (l : Place) → Counted l → at (place_number l) ≡ l.block * 512 + 4 + 39 * (l.slot - 1)
unfolding at place
at_place l h =
    let x : (l.block * 13 + l.slot - 1) / 13 ≡ l.block = omega arith in
    let y : (l.block * 13 + l.slot - 1) % 13 ≡ l.slot - 1 = omega arith in
    rw (x, y)

-- What is read of f is read of v, from a on.
module _ (f v : Bytes) (a : ℕ) (lent : Agree 39 f (from v a)) where
  first_lent : f 0 ≡ v a
  first_lent = let e : a + 0 ≡ a = omega arith in lent 0 (omega arith) ∙ ap v e

  word_lent : (i : ℕ) → i + 1 < 39 → word f i ≡ word v (a + i)
  word_lent i h = word_agree 39 f (from v a) i lent h ∙ word_from v a i

  long_lent : (i : ℕ) → i + 2 < 39 → long f i ≡ long v (a + i)
  long_lent i h = long_agree 39 f (from v a) i lent h ∙ long_from v a i

  pub stamp_lent : (i : ℕ) → i + 3 < 39 → stamp_at f i ≡ stamp_at v (a + i)
  unfolding stamp_at
  stamp_lent i h =
      let e : a + (i + 2) ≡ a + i + 2 = omega arith in
      rw (word_lent i (omega arith), word_lent (i + 2) (omega arith), e)

  pub entry_with_lent : (k : Kind) → entry_with f 0 k ≡ entry_with v a k
  unfolding entry_with
  entry_with_lent k =
      rw (
        lent 0x10 (omega arith),
        lent 0x1E (omega arith),
        word_lent 0x1F (omega arith),
        word_lent 0x13 (omega arith),
        long_lent 0x15 (omega arith),
        stamp_lent 0x18 (omega arith),
        stamp_lent 0x21 (omega arith),
      )

  pub entry_lent : entry_of f 0 ≡ entry_of v a
  unfolding entry_of
  entry_lent = rw (first_lent, word_lent 0x11 (omega arith)) (entry_with_lent _)

  pub decoded_lent : decoded f ≡ slot_says (sort_of (v a / 16)) (entry_of v a)
  unfolding decoded
  decoded_lent = rw (first_lent, entry_lent)

-- The decoder's last case.
pub sort_improper : (k : ℕ) → 3 < k → (k ≡ 13 → ⊥) → sort_of k ≡ improper
unfolding sort_of
sort_improper k h n = rw (ne_eqb k 0 (λ e. omega arith), lt-leb k 3 h, ne_eqb k 13 n, sort_of)

-- What an entry says is what the definitions read at its place.
module _ (v : Bytes) (s : ℕ) (entry : s ≡ volume → ⊥) where
  pub entry_kind : (entry_of v (at s)).kind ≡ kind_of (sort v s) (key v s)
  unfolding entry_of entry_with
  entry_kind = rw (sort_at v s entry, field_at v s 0x11 _ entry)

  pub entry_used : (entry_of v (at s)).used ≡ used v s
  unfolding entry_of entry_with
  entry_used = sym (field_at v s 0x13 4 entry)

  pub entry_eof : (entry_of v (at s)).eof ≡ eof v s
  unfolding entry_of entry_with eof
  entry_eof = rw (ne_eqb s volume entry, eof)

  pub entry_ftype : (entry_of v (at s)).ftype ≡ ftype v s
  unfolding entry_of entry_with ftype
  entry_ftype = rw (ne_eqb s volume entry, ftype)

  pub entry_access : (entry_of v (at s)).access ≡ access v s
  unfolding entry_of entry_with
  entry_access = refl

pub key_of_kind : (t : Sort) (k : ℕ) → key_of (kind_of t k) ≡ k
key_of_kind (file zero) k = refl
key_of_kind (file (suc zero)) k = refl
key_of_kind (file (suc (suc h))) k = refl
key_of_kind directory k = refl
key_of_kind inactive k = refl
key_of_kind improper k = refl

pub entry_key : (v : Bytes) (s : ℕ) → (s ≡ volume → ⊥) → key_of (entry_of v (at s)).kind ≡ key v s
entry_key v s h = ap key_of (entry_kind v s h) ∙ key_of_kind (sort v s) (key v s)

-- The 39 bytes at a place, as they are lent.
module _ (xs : List ℕ) (a k s : ℕ) (start : a ≡ at s) (size : k ≡ 39) where
  pub slot_decoded : (s ≡ volume → ⊥) → decoded (view (take k (drop a xs))) ≡ slot_says (sort (view xs) s) (entry_of (view xs) (at s))
  slot_decoded h =
      rw (start, size, sort_at (view xs) s h)
      (decoded_lent (view (take 39 (drop (at s) xs))) (view xs) (at s) (agree_part xs (at s) 39))

  pub slot_named : (p : Bytes) (x : Part) → same_name (view (take k (drop a xs))) 0 p x ≡ same_name (view xs) (at s) p x
  slot_named p x = rw (start, size) (slot_same (view (take 39 (drop (at s) xs))) (view xs) (at s) (part_run xs (at s) 39) p x)

-- What the answer of the decoder says of the sort.
pub says_active : (t : Sort) (e f : Entry) → slot_says t e ≡ Active f → (is_active t ≡ true) × (e ≡ f)
says_active inactive e f h = never (cc)
says_active improper e f h = never (cc)
says_active directory e f h = (refl, cc)
says_active (file k) e f h = (refl, cc)

pub says_inactive : (t : Sort) (e : Entry) → slot_says t e ≡ Inactive → is_active t ≡ false
says_inactive inactive e h = refl
says_inactive improper e h = never (cc)
says_inactive directory e h = never (cc)
says_inactive (file k) e h = never (cc)

pub says_improper : (t : Sort) (e : Entry) → slot_says t e ≡ Improper → t ≡ improper
says_improper inactive e h = never (cc)
says_improper improper e h = refl
says_improper directory e h = never (cc)
says_improper (file k) e h = never (cc)

-- of the decoder's answers that go together
pub says_none : (t : Sort) (e : Entry) (r : Slot) → (t ≡ improper → ⊥) → r ≡ slot_says t e → (r ≡ Inactive) ⊎ (r ≡ Improper) → is_active t ≡ false
says_none t e r n h o =
    ⊎_elim (λ (i : r ≡ Inactive). says_inactive t e (sym h ∙ i)) (λ (i : r ≡ Improper). absurd (n (says_improper t e (sym h ∙ i)))) o

pub says_some : (t : Sort) (e : Entry) (r : Slot) → (t ≡ improper → ⊥) → r ≡ slot_says t e → (r ≡ Improper) ⊎ ((f : Entry) × (r ≡ Active f)) → is_active t ≡ true
says_some t e r n h o =
    ⊎_elim (λ (i : r ≡ Improper). absurd (n (says_improper t e (sym h ∙ i))))
    (λ (i : (f : Entry) × (r ≡ Active f)). (says_active t e i.0 (sym h ∙ i.1)).0)
    o
