-- What a step of the code leaves to claim: tests one by one or together, an entry's own claims, and the entries below it. Assumes nothing.
use mathlib.Core.Path.{◌≡◌, refl, sym, ap, ◌∙◌}
use mathlib.Core.List.{List, [], ◌∷◌, ◌++◌, append_assoc, append-nil, map}
use mathlib.Core.Bool.{Bool, true, false, not, true≢false}
use mathlib.Core.Option.{Option, none, some}
use Prim.{Unit, tt}
use Prim.Native.Nat.{ℕ, zero, suc, ◌+◌, ◌-◌, ◌*◌, ◌/◌, ◌≤◌, ◌<◌}
use native.Mathlib.Nat.{not-suc-le-zero}
use native.Mathlib.Numerals.{sub-one}
use native.Mathlib.Omega.{arith}
use borrow.Author.Tests.{eq-eqb, ne_eqb, eqb-true, eqb-false, leb-true, leb-false, le-leb, not-true}
use lib.Dec.{eqb, leb}
use lib.ListN.{length}
use Rattle.model.specs.Bytes.{Bytes, gather, sum, within, ◌and◌}
use Rattle.model.specs.Names.{capital_name}
use Rattle.model.specs.Directory.{Sort, inactive, directory, improper, file, sort_of, sort, is_active, at, directory_type, volume, volume_block, previous, next, header_kind, active_count, field, ftype, key, used, eof, directory_key, chain, slots, slots_below, kids, active}
use Rattle.model.specs.File.{Node, height_for, span, nodes, blocks_of}
use Rattle.model.specs.Walk.{visit}
use Rattle.model.specs.Sound.{proper_size, prodos, twins, top_faults, volume_faults, header_faults, outside}
use Rattle.model.specs.declared.Kind.{Kind}
use Rattle.model.specs.declared.Kind.TheVariants.{Seedling, Sapling, Tree, Directory}
use Rattle.claims.specs.Claims.{Claim, must, Seen, claim, outcome, chain_claims, tree_claims, file_claims, directory_claims, claims_of, claims_at, claims, volume_claims, reserved, map_right, fits}
use Rattle.claims.proofs.TestLaws.{decide, none_off, and_true}
use Rattle.claims.proofs.ClaimLaws.{then, claim_append, taken, refused, must_on, must_off, claims_deep, claims_flat, claims_none}
use Rattle.claims.proofs.Agreement.{chain_inside}
use Rattle.checks.specs.Inside.{Inside, ahead}
use Rattle.checks.proofs.Laws.{ahead_step, ahead_end, slots_chain, entries_chain}
use Rattle.model.specs.declared.Entry.{Entry}
use Rattle.directory.specs.Slots.{kind_of, entry_of, slot_says}
use Rattle.directory.specs.declared.Slot.TheVariants.{Active}
use Rattle.directory.specs.Search.{listed}
use Rattle.directory.proofs.SlotLaws.{says_active, entry_kind, entry_used, entry_eof, entry_ftype}
use Rattle.sound.specs.Work.{volume_entry, standing, Stands, Describes, file_work, chain_work, names_work, own_work, entry_work, list_work, directory_work, Opened, Leads}
use Rattle.sound.specs.declared.Own.{Own}
use Rattle.sound.specs.declared.Own.TheVariants.{Whole, Inner}

never : {A : Type 0} → ◌≡◌ {A = ℕ} 0 1 → A
never z = absurd (let w : ⊥ = omega arith in w)

-- Tests: the last one, and two or three together.
module _ (n : ℕ) where
  pub must_last : (s : Seen) (t : Bool) → outcome t s ≡ claim n (must t ∷ []) s
  unfolding claim
  must_last s true = refl
  must_last s false = refl

  pub two : (cs : List Claim) (s : Seen) (a b : Bool) → claim n (must a ∷ must b ∷ cs) s ≡ claim n (must (a and b) ∷ cs) s
  unfolding claim ◌and◌
  two cs s true b = refl
  two cs s false b = refl

  pub three : (cs : List Claim) (s : Seen) (a b c : Bool) → claim n (must a ∷ must b ∷ must c ∷ cs) s ≡ claim n (must (a and b and c) ∷ cs) s
  unfolding claim ◌and◌
  three cs s true b c = two cs s b c
  three cs s false b c = refl

  -- a test may be made last
  pub test_last : (cs : List Claim) (s : Seen) (t : Bool) → claim n (cs ++ (must t ∷ [])) s ≡ then (outcome t s) (claim n cs)
  unfolding claim
  test_last cs s true = claim_append n cs _ s ∙ kept (claim n cs s)
    where
      kept : (o : Option Seen) → then o (λ s. some s) ≡ o
      kept none = refl
      kept (some s) = refl
  test_last cs s false = claim_append n cs _ s ∙ lost (claim n cs s)
    where
      lost : (o : Option Seen) → then o (λ s. none) ≡ none
      lost none = refl
      lost (some s) = refl

-- An answer that is known.
module _ (s : Seen) (r : Bool) (o : Option Seen) (answer : outcome r s ≡ o) where
  pub when_taken : r ≡ true → some s ≡ o
  when_taken q = sym (ap (λ (r : Bool). outcome r s) q) ∙ answer

  pub when_refused : r ≡ false → none ≡ o
  when_refused q = sym (ap (λ (r : Bool). outcome r s) q) ∙ answer

-- A data file: its type, its height, then its blocks and how many there are.
module _ (n : ℕ) (v : Bytes) (h type e k u : ℕ) (s : Seen) where
  pub file_type : type ≡ directory_type → none ≡ claim n (file_work v h type e k u) s
  unfolding file_work
  file_type p = sym (must_off n _ s _ (rw (eq-eqb type directory_type p)))

  typed : (type ≡ directory_type → ⊥)
      → claim n (must (eqb h (height_for e)) ∷ tree_claims v (span e) h 0 k ++ (must (eqb u (length (nodes v h 0 k))) ∷ [])) s
      ≡ claim n (file_work v h type e k u) s
  unfolding file_work
  typed p = sym (must_on n _ s _ (rw (ne_eqb type directory_type p)))

  pub file_height : (type ≡ directory_type → ⊥) → (h ≡ height_for e → ⊥) → none ≡ claim n (file_work v h type e k u) s
  file_height p q = sym (must_off n _ s _ (ne_eqb h (height_for e) q)) ∙ typed p

  module _ (s' : Seen) (r : Bool) (b : ℕ) (spanned : b ≡ span e) (answer : outcome r s' ≡ claim n (tree_claims v b h 0 k) s) (p : type ≡ directory_type → ⊥) (q : h ≡ height_for e) where
    spans : outcome r s' ≡ claim n (tree_claims v (span e) h 0 k) s
    spans = answer ∙ ap (λ (b : ℕ). claim n (tree_claims v b h 0 k) s) spanned

    fitting : claim n (tree_claims v (span e) h 0 k ++ (must (eqb u (length (nodes v h 0 k))) ∷ [])) s ≡ claim n (file_work v h type e k u) s
    fitting = sym (must_on n _ s _ (eq-eqb h (height_for e) q)) ∙ typed p

    pub file_refused : r ≡ false → none ≡ claim n (file_work v h type e k u) s
    file_refused f = sym (refused n _ _ s s' r f spans) ∙ fitting

    pub file_counted : (c : ℕ) → r ≡ true → c ≡ length (nodes v h 0 k) → outcome (eqb u c) s' ≡ claim n (file_work v h type e k u) s
    file_counted c t z =
        ap (λ (c : ℕ). outcome (eqb u c) s') z
        ∙ must_last n s' (eqb u (length (nodes v h 0 k)))
        ∙ sym (taken n (tree_claims v (span e) h 0 k) _ s s' r t spans) ∙ fitting

-- The header's faults, by the place.
pub top_volume : (v : Bytes) (s : ℕ) → s ≡ volume → top_faults v s ≡ volume_faults v
unfolding top_faults
top_volume v s e = rw (eq-eqb s volume e, top_faults)

pub top_header : (v : Bytes) (s k : ℕ) → (s ≡ volume → ⊥) → k ≡ key v s → top_faults v s ≡ header_faults v s k
unfolding top_faults
top_header v s k e q = rw (ne_eqb s volume e, top_faults, ← q)

-- Blocks that lie on the volume.
pub inside_of : (n : ℕ) (bs : List ℕ) → outside n bs ≡ 0 → Inside n bs
unfolding Inside sum
inside_of n [] o = tt
inside_of n (b ∷ bs) o = (leb-false n b (none_off (leb n b) (omega arith)), inside_of n bs (omega arith))

-- A directory's chain was claimed or refused, then its header is tested.
module _ (n : ℕ) (v : Bytes) (k u : ℕ) (s s' : Seen) (r : Bool) (answer : outcome r s' ≡ claim n (chain_claims v 0 k u) s) where
  pub chain_claimed : r ≡ true → Inside n (chain v k u)
  chain_claimed t = inside_of n (chain v k u) (chain_inside n v 0 k u s s' (sym (when_taken s' r _ answer t)))

pub chain_is : (n : ℕ) (v : Bytes) (place k u : ℕ) (s s' : Seen) (r : Bool) → outcome r s' ≡ claim n (chain_claims v 0 k u) s
    → outcome (r and eqb (top_faults v place) 0 and eqb (active_count v k) (active v (listed v k u))) s' ≡ claim n (chain_work v place k u) s
unfolding chain_work ◌and◌
chain_is n v place k u s s' true answer = must_last n s' _ ∙ sym (two n [] s' _ _) ∙ sym (taken n _ _ s s' true refl answer)
chain_is n v place k u s s' false answer = sym (refused n _ _ s s' false refl answer)

-- What stands at a place has the fields that the definitions read there.
module _ (v : Bytes) (s : ℕ) where
  pub stands_volume : (e : Entry) → s ≡ volume → e ≡ volume_entry → Active e ≡ slot_says (sort v s) (standing v s)
  unfolding sort standing
  stands_volume e p q = rw (p, q)

  pub standing_entry : (s ≡ volume → ⊥) → standing v s ≡ entry_of v (at s)
  unfolding standing
  standing_entry e = rw (ne_eqb s volume e, standing)

  standing_is : {A : Type 0} (f : Entry → A) (a : A) → (s ≡ volume → f volume_entry ≡ a) → ((s ≡ volume → ⊥) → f (entry_of v (at s)) ≡ a) → f (standing v s) ≡ a
  unfolding standing
  standing_is f a p q =
      decide (eqb s volume) (λ e. rw (e, standing) (p (eqb-true s volume e)))
      (λ e. rw (standing_entry (eqb-false s volume e)) (q (eqb-false s volume e)))

  pub standing_kind : (standing v s).kind ≡ kind_of (sort v s) (key v s)
  unfolding sort field
  standing_kind = standing_is (λ e. e.kind) _ (λ e. rw e) (entry_kind v s)

  pub standing_used : (standing v s).used ≡ used v s
  unfolding field
  standing_used = standing_is (λ e. e.used) _ (λ e. rw e) (entry_used v s)

  pub standing_eof : (standing v s).eof ≡ eof v s
  unfolding eof
  standing_eof = standing_is (λ e. e.eof) _ (λ e. rw e) (entry_eof v s)

  pub standing_type : (standing v s).ftype ≡ ftype v s
  unfolding ftype
  standing_type = standing_is (λ e. e.ftype) _ (λ e. rw e) (entry_ftype v s)

-- The sort of an active entry, from its kind.
kind_directory : (t : Sort) (k b : ℕ) (e f : Entry) → slot_says t e ≡ Active f → kind_of t k ≡ Directory b → (t ≡ directory) × (k ≡ b)
kind_directory directory k b e f h q = (refl, cc)
kind_directory inactive k b e f h q = never (cc)
kind_directory improper k b e f h q = never (cc)
kind_directory (file zero) k b e f h q = never (cc)
kind_directory (file (suc zero)) k b e f h q = never (cc)
kind_directory (file (suc (suc j))) k b e f h q = never (cc)

kind_seedling : (t : Sort) (k b : ℕ) → kind_of t k ≡ Seedling b → (t ≡ file 0) × (k ≡ b)
kind_seedling directory k b e = never (cc)
kind_seedling inactive k b e = never (cc)
kind_seedling improper k b e = never (cc)
kind_seedling (file zero) k b e = (refl, cc)
kind_seedling (file (suc zero)) k b e = never (cc)
kind_seedling (file (suc (suc h))) k b e = never (cc)

kind_sapling : (t : Sort) (k b : ℕ) → kind_of t k ≡ Sapling b → (t ≡ file 1) × (k ≡ b)
kind_sapling directory k b e = never (cc)
kind_sapling inactive k b e = never (cc)
kind_sapling improper k b e = never (cc)
kind_sapling (file zero) k b e = never (cc)
kind_sapling (file (suc zero)) k b e = (refl, cc)
kind_sapling (file (suc (suc h))) k b e = never (cc)

-- a file's height is 0, 1 or 2
abbrev Low : Sort → Type 0
Low (file h) = h < 3
Low inactive = Unit {0}
Low directory = Unit {0}
Low improper = Unit {0}

low_kind : (k : ℕ) → Low (sort_of k)
unfolding sort_of
low_kind k = go (eqb k 0) (leb k 3) (eqb k 13) refl
  where
    go : (a b c : Bool) → leb k 3 ≡ b
        → Low (elim a [ true ↦ inactive | false ↦ elim b [ true ↦ file (k - 1) | false ↦ elim c [ true ↦ directory | false ↦ improper ] ] ])
    go true b c p = tt
    go false true c p = let l = leb-true k 3 p in omega arith
    go false false true p = tt
    go false false false p = tt

low_sort : (v : Bytes) (s : ℕ) → Low (sort v s)
unfolding sort
low_sort v s = go (eqb s volume)
  where
    go : (a : Bool) → Low (elim a [ true ↦ directory | false ↦ sort_of (v (at s) / 16) ])
    go true = tt
    go false = low_kind _

kind_tree : (t : Sort) (k b : ℕ) → Low t → kind_of t k ≡ Tree b → (t ≡ file 2) × (k ≡ b)
kind_tree directory k b l e = never (cc)
kind_tree inactive k b l e = never (cc)
kind_tree improper k b l e = never (cc)
kind_tree (file zero) k b l e = never (cc)
kind_tree (file (suc zero)) k b l e = never (cc)
kind_tree (file (suc (suc h))) k b l e = let z : h ≡ 0 = omega arith in (rw z, cc)

-- the sort and the key of what stands at a place, from the kind that its entry has
module _ (v : Bytes) (s b : ℕ) (e : Entry) (h : Stands v s e) where
  pub what_stands : e ≡ standing v s
  what_stands = sym (says_active (sort v s) (standing v s) e h).1

  kind_read : (k : Kind) → e.kind ≡ k → kind_of (sort v s) (key v s) ≡ k
  kind_read k q = sym (standing_kind v s) ∙ sym (ap (λ (e : Entry). e.kind) what_stands) ∙ q

  pub a_directory : e.kind ≡ Directory b → (sort v s ≡ directory) × (b ≡ key v s)
  a_directory q = let w = kind_directory (sort v s) (key v s) b (standing v s) e h (kind_read _ q) in (w.0, sym w.1)

  pub a_seedling : e.kind ≡ Seedling b → (sort v s ≡ file 0) × (b ≡ key v s)
  a_seedling q = let w = kind_seedling (sort v s) (key v s) b (kind_read _ q) in (w.0, sym w.1)

  pub a_sapling : e.kind ≡ Sapling b → (sort v s ≡ file 1) × (b ≡ key v s)
  a_sapling q = let w = kind_sapling (sort v s) (key v s) b (kind_read _ q) in (w.0, sym w.1)

  pub a_tree : e.kind ≡ Tree b → (sort v s ≡ file 2) × (b ≡ key v s)
  a_tree q = let w = kind_tree (sort v s) (key v s) b (low_sort v s) (kind_read _ q) in (w.0, sym w.1)

-- What is below an entry.
pub file_kids : (v : Bytes) (s h : ℕ) → sort v s ≡ file h → kids v s ≡ []
unfolding slots_below
file_kids v s h e = rw e

pub directory_kids : (v : Bytes) (s : ℕ) → sort v s ≡ directory → kids v s ≡ listed v (key v s) (used v s)
unfolding slots_below
directory_kids v s e = rw e

-- The claims of a slot by itself, by its values.
length_map : {A B : Type 0} (f : A → B) (xs : List A) → length (map f xs) ≡ length xs
length_map f [] = refl
length_map f (x ∷ xs) = ap suc (length_map f xs)

file_own : (v : Bytes) (h l k s : ℕ) → sort v s ≡ file h
    → claims_of (sort v s) v l k s
    ≡ must (capital_name v (at s)) ∷ must (eqb (directory_key v s) k) ∷ file_work v h (ftype v s) (eof v s) (key v s) (used v s)
unfolding claims_of file_claims file_work blocks_of
file_own v h l k s e = rw (e, e, length_map (λ (x : Node). x.block) (nodes v h 0 (key v s)))

directory_own : (v : Bytes) (l k s : ℕ) → sort v s ≡ directory
    → claims_of (sort v s) v l k s
    ≡ must (not (eqb l 0)) ∷ must (capital_name v (at s)) ∷ must (eqb (directory_key v s) k)
    ∷ must (eqb (ftype v s) directory_type) ∷ must (not (eqb (used v s) 0)) ∷ must (eqb (eof v s) (used v s * 512))
    ∷ own_work v s (key v s) (used v s)
unfolding claims_of directory_claims chain_work
directory_own v l k s e = rw (e, directory_kids v s e, append_assoc (chain_claims v 0 (key v s) (used v s)))

-- the fields of a directory, and those of a data file, as the entry has them
directory_fits : Bytes → ℕ → Bool
directory_fits v s = eqb (ftype v s) directory_type and not (eqb (used v s) 0) and eqb (eof v s) (used v s * 512)

module _ (v : Bytes) (s : ℕ) (e : Entry) (d : e ≡ standing v s) where
  fields_read : (eqb e.ftype directory_type and not (eqb e.used 0) and eqb e.eof (e.used * 512)) ≡ directory_fits v s
  unfolding directory_fits
  fields_read = rw (d, standing_type v s, standing_used v s, standing_eof v s)

  pub used_read : e.used ≡ used v s
  used_read = ap (λ (e : Entry). e.used) d ∙ standing_used v s

  pub file_read : (h k : ℕ) → k ≡ key v s
      → file_work v h e.ftype e.eof k e.used ≡ file_work v h (ftype v s) (eof v s) (key v s) (used v s)
  file_read h k q = rw (q, d, standing_type v s, standing_used v s, standing_eof v s)

pub fields_some : (f u : ℕ) (t : Bool) → (eqb f directory_type and not (eqb u 0) and t) ≡ true → 0 < u
fields_some f u t e =
    let w = (and_true (eqb f directory_type) (not (eqb u 0) and t)).0 e in
    let x = (and_true (not (eqb u 0)) t).0 w.1 in
    let y = eqb-false u 0 (not-true (eqb u 0) x.0) in
    omega (arith, y)

-- The claims of a directory by itself, test by test: `a` answers for the name and the directory's key, `f` for the fields.
module _ (n : ℕ) (v : Bytes) (l k s : ℕ) (seen : Seen) (d : sort v s ≡ directory) where
  parted : claim n (claims_of (sort v s) v l k s) seen
      ≡ claim n (must (not (eqb l 0)) ∷ must (capital_name v (at s)) ∷ must (eqb (directory_key v s) k)
      ∷ must (eqb (ftype v s) directory_type) ∷ must (not (eqb (used v s) 0)) ∷ must (eqb (eof v s) (used v s * 512))
      ∷ own_work v s (key v s) (used v s)) seen
  parted = ap (λ (cs : List Claim). claim n cs seen) (directory_own v l k s d)

  pub no_level : l ≡ 0 → none ≡ claim n (claims_of (sort v s) v l k s) seen
  no_level z = sym (must_off n _ seen _ (rw (eq-eqb l 0 z))) ∙ sym parted

  module _ (level : l ≡ 0 → ⊥) (a : Bool) (named : a ≡ (capital_name v (at s) and eqb (directory_key v s) k)) where
    levelled : claim n (must a ∷ must (eqb (ftype v s) directory_type) ∷ must (not (eqb (used v s) 0))
        ∷ must (eqb (eof v s) (used v s * 512)) ∷ own_work v s (key v s) (used v s)) seen
        ≡ claim n (claims_of (sort v s) v l k s) seen
    levelled =
        rw named (sym (two n _ seen (capital_name v (at s)) (eqb (directory_key v s) k)) ∙ sym (must_on n _ seen _ (rw (ne_eqb l 0 level))) ∙ sym parted)

    pub misnamed : a ≡ false → none ≡ claim n (claims_of (sort v s) v l k s) seen
    misnamed f = sym (must_off n _ seen a f) ∙ levelled

    module _ (e : Entry) (r : e ≡ standing v s) (right : a ≡ true) (f : Bool)
        (fields : f ≡ (eqb e.ftype directory_type and not (eqb e.used 0) and eqb e.eof (e.used * 512))) where
      fitted : claim n (must f ∷ own_work v s (key v s) (used v s)) seen ≡ claim n (claims_of (sort v s) v l k s) seen
      unfolding directory_fits
      fitted =
          ap (λ (f : Bool). claim n (must f ∷ own_work v s (key v s) (used v s)) seen) (fields ∙ fields_read v s e r)
          ∙ sym (three n (own_work v s (key v s) (used v s)) seen (eqb (ftype v s) directory_type) (not (eqb (used v s) 0)) (eqb (eof v s) (used v s * 512)))
          ∙ sym (must_on n _ seen a right) ∙ levelled

      pub misfit : f ≡ false → none ≡ claim n (claims_of (sort v s) v l k s) seen
      misfit q = sym (must_off n _ seen f q) ∙ fitted

      pub chain_left : f ≡ true → (b : ℕ) → b ≡ key v s
          → claim n (own_work v s b e.used) seen ≡ claim n (claims_of (sort v s) v l k s) seen
      chain_left q b z =
          ap (λ (b : ℕ). claim n (own_work v s b e.used) seen) z
          ∙ ap (λ (u : ℕ). claim n (own_work v s (key v s) u) seen) (used_read v s e r)
          ∙ sym (must_on n _ seen f q) ∙ fitted

-- The claims of a data file.
module _ (n : ℕ) (v : Bytes) (h l k s : ℕ) (seen : Seen) (d : sort v s ≡ file h) (a : Bool)
    (named : a ≡ (capital_name v (at s) and eqb (directory_key v s) k)) where
  file_named : claim n (must a ∷ file_work v h (ftype v s) (eof v s) (key v s) (used v s)) seen ≡ claim n (claims_of (sort v s) v l k s) seen
  file_named =
      rw named (sym (two n _ seen (capital_name v (at s)) (eqb (directory_key v s) k)) ∙ ap (λ (cs : List Claim). claim n cs seen) (sym (file_own v h l k s d)))

  pub file_misnamed : a ≡ false → none ≡ claim n (claims_of (sort v s) v l k s) seen
  file_misnamed f = sym (must_off n _ seen a f) ∙ file_named

  pub file_left : (b : ℕ) (e : Entry) → Describes v s b e → a ≡ true
      → claim n (file_work v h e.ftype e.eof b e.used) seen ≡ claim n (claims_of (sort v s) v l k s) seen
  file_left b e r t =
      ap (λ (cs : List Claim). claim n cs seen) (file_read v s e r.1 h b r.0) ∙ sym (must_on n _ seen a t) ∙ file_named

module _ (n : ℕ) (v : Bytes) (l s : ℕ) where
  pub opened : (r : Own) (k u : ℕ) → r ≡ Inner k u → Leads n v l s r → Opened n v l s k u
  opened r k u e h = rw e at h

  pub nothing_below : (r : Own) → r ≡ Whole → Leads n v l s r → kids v s ≡ []
  nothing_below r e h = rw e at h

-- A slot where nothing stands, and one with an improper kind.
not_active : (t : Sort) → is_active t ≡ false → t ≡ inactive
not_active inactive e = refl
not_active directory e = absurd (true≢false e)
not_active improper e = absurd (true≢false e)
not_active (file h) e = absurd (true≢false e)

pub idle : (n : ℕ) (v : Bytes) (l k s : ℕ) (seen : Seen) → is_active (sort v s) ≡ false
    → (some seen ≡ claim n (claims_of (sort v s) v l k s) seen) × (kids v s ≡ [])
unfolding claims_of claim slots_below
idle n v l k s seen e = let z = not_active (sort v s) e in (rw z, rw z)

pub no_kind : (n : ℕ) (v : Bytes) (l k s : ℕ) (seen : Seen) → sort v s ≡ improper → none ≡ claim n (claims_of (sort v s) v l k s) seen
unfolding claims_of claim
no_kind n v l k s seen e = rw e

pub field_volume : (v : Bytes) (s o r : ℕ) → s ≡ volume → r ≡ field v s o r
unfolding field
field_volume v s o r e = rw e

-- An entry with all that is below it.
module _ (n : ℕ) (v : Bytes) (l k s : ℕ) (seen seen' : Seen) (r : Bool) (answer : outcome r seen' ≡ claim n (claims_of (sort v s) v l k s) seen) where
  pub entry_wrong : r ≡ false → none ≡ claim n (entry_work v l k s) seen
  unfolding entry_work
  entry_wrong f = go l answer
    where
      go : (l : ℕ) → outcome r seen' ≡ claim n (claims_of (sort v s) v l k s) seen → none ≡ claim n (entry_work v l k s) seen
      go zero a = sym (ap (λ (r : Bool). outcome r seen') f) ∙ a
      go (suc l) a = sym (refused n _ _ seen seen' r f a)

  pub entry_whole : r ≡ true → kids v s ≡ [] → some seen' ≡ claim n (entry_work v l k s) seen
  unfolding entry_work gather claim
  entry_whole t e = go l answer
    where
      go : (l : ℕ) → outcome r seen' ≡ claim n (claims_of (sort v s) v l k s) seen → some seen' ≡ claim n (entry_work v l k s) seen
      go zero a = when_taken seen' r _ a t
      go (suc l) a = sym (ap (λ (ss : List ℕ). claim n (claims_of (sort v s) v (suc l) k s ++ gather (entry_work v l (key v s)) ss) seen) e
          ∙ taken n (claims_of (sort v s) v (suc l) k s) [] seen seen' r t a)

  pub entry_inner : 0 < l → claim n (gather (entry_work v (l - 1) (key v s)) (kids v s) ++ (must r ∷ [])) seen' ≡ claim n (entry_work v l k s) seen
  unfolding entry_work
  entry_inner h = go l answer h
    where
      go : (l : ℕ) → outcome r seen' ≡ claim n (claims_of (sort v s) v l k s) seen → 0 < l
          → claim n (gather (entry_work v (l - 1) (key v s)) (kids v s) ++ (must r ∷ [])) seen' ≡ claim n (entry_work v l k s) seen
      go zero a h = absurd (not-suc-le-zero h)
      go (suc l) a h =
          rw sub-one
          (test_last n _ seen' r
          ∙ ap (λ (o : Option Seen). then o (claim n (gather (entry_work v l (key v s)) (kids v s)))) a
          ∙ sym (claim_append n (claims_of (sort v s) v (suc l) k s) _ seen))

pub inner_work : (n : ℕ) (v : Bytes) (l s k u : ℕ) (seen : Seen) → Opened n v l s k u
    → claim n (directory_work v (l - 1) k u) seen
    ≡ claim n (gather (entry_work v (l - 1) (key v s)) (kids v s) ++ names_work v k u) seen
inner_work n v l s k u seen o =
    ap (λ (ss : List ℕ). claim n (gather (entry_work v (l - 1) k) ss ++ names_work v k u) seen) (sym o.below)
    ∙ ap (λ (b : ℕ). claim n (gather (entry_work v (l - 1) b) (kids v s) ++ names_work v k u) seen) o.start

-- The entries of a directory with its names: one entry is wrong, or all are right.
module _ (n : ℕ) (v : Bytes) (l k u : ℕ) (s s' : Seen) where
  pub list_wrong : none ≡ claim n (list_work v l k u) s → none ≡ claim n (directory_work v l k u) s
  list_wrong e = sym (refused n _ _ s s' false refl e)

  pub list_right : (a : Bool) → a ≡ eqb (twins v (listed v k u)) 0 → some s' ≡ claim n (list_work v l k u) s
      → outcome a s' ≡ claim n (directory_work v l k u) s
  list_right a q e = ap (λ (a : Bool). outcome a s') q ∙ must_last n s' _ ∙ sym (taken n _ _ s s' true refl e)

-- The slots of the blocks still to come, in the first of them from a place on.
abbrev pub still : Bytes → ℕ → ℕ → ℕ → List ℕ
still v place block zero = []
still v place block (suc after) = ahead v place block after

pub still_some : (v : Bytes) (place block left k : ℕ) → k + 1 ≡ left → still v place block left ≡ ahead v place block k
still_some v place block left k h = let e : left ≡ suc k = omega arith in ap (still v place block) e

still_slots : (v : Bytes) (b left : ℕ) → still v (b * 13) b left ≡ slots (chain v b left)
unfolding slots chain
still_slots v b zero = refl
still_slots v b (suc after) = let e : suc after - 1 ≡ after = omega arith in rw e at (sym (slots_chain v b (suc after) (omega arith)))

-- The entries of a directory, one by one.
module _ (n : ℕ) (v : Bytes) (l k place block after : ℕ) where
  pub entries_step : (seen seen' : Seen) (r : Bool) → place < block * 13 + 13 → outcome r seen' ≡ claim n (entry_work v l k place) seen → r ≡ true
      → claim n (gather (entry_work v l k) (ahead v (place + 1) block after)) seen' ≡ claim n (gather (entry_work v l k) (ahead v place block after)) seen
  unfolding gather
  entries_step seen seen' r h a t = rw (ahead_step v place block after h) (sym (taken n _ _ seen seen' r t a))

  pub entries_wrong : (seen seen' : Seen) (r : Bool) → place < block * 13 + 13 → outcome r seen' ≡ claim n (entry_work v l k place) seen → r ≡ false
      → none ≡ claim n (gather (entry_work v l k) (ahead v place block after)) seen
  unfolding gather
  entries_wrong seen seen' r h a f = rw (ahead_step v place block after h) (sym (refused n _ _ seen seen' r f a))

  pub entries_next : (seen : Seen) (b : ℕ) → block * 13 + 13 ≤ place → b ≡ next v block
      → claim n (gather (entry_work v l k) (still v (b * 13) b after)) seen ≡ claim n (gather (entry_work v l k) (ahead v place block after)) seen
  entries_next seen b h e = rw (ahead_end v place block after h, ← e, still_slots v b after)

module _ (n : ℕ) (v : Bytes) (l k : ℕ) (seen : Seen) where
  pub entries_start : (u : ℕ) → 0 < u → claim n (gather (entry_work v l k) (still v (k * 13 + 1) k u)) seen ≡ claim n (list_work v l k u) seen
  entries_start u h = rw (still_some v (k * 13 + 1) k u (u - 1) (omega arith), entries_chain v k u h)

  pub entries_done : (place block left : ℕ) → left ≡ 0 → some seen ≡ claim n (gather (entry_work v l k) (still v place block left)) seen
  unfolding gather claim
  entries_done place block left z = rw z

-- The claims of the volume are those of its own slot with all that is below it.
module _ (v : Bytes) where
  Agrees : ℕ → Type 0
  Agrees l = (d : ℕ) (ss : List ℕ) → claims v l d ss ≡ gather (entry_work v l (key v d)) ss

  flat_work : Agrees 0
  unfolding Agrees gather entry_work
  flat_work d [] = claims_none v 0 d
  flat_work d (s ∷ ss) = claims_flat v d s ss ∙ ap (λ (x : List Claim). claims_at v (visit 0 d s) ++ x) (flat_work d ss)

  deep_work : (l : ℕ) → Agrees l → Agrees (suc l)
  unfolding Agrees gather entry_work
  deep_work l h d [] = claims_none v (suc l) d
  deep_work l h d (s ∷ ss) =
      claims_deep v l d s ss
      ∙ ap (λ (x : List Claim). claims_at v (visit (suc l) d s) ++ (claims v l s (kids v s) ++ x)) (deep_work l h d ss)
      ∙ ap (λ (x : List Claim). claims_at v (visit (suc l) d s) ++ (x ++ gather (entry_work v (suc l) (key v d)) ss)) (h s (kids v s))
      ∙ sym (append_assoc (claims_at v (visit (suc l) d s)) (gather (entry_work v l (key v s)) (kids v s)) (gather (entry_work v (suc l) (key v d)) ss))

  claims_work : (l : ℕ) → Agrees l
  claims_work zero = flat_work
  claims_work (suc l) = deep_work l (claims_work l)

  pub volume_work : volume_claims v ≡ entry_work v 32 2 volume
  unfolding Agrees gather field
  volume_work = claims_work 32 volume (volume ∷ []) ∙ append-nil (entry_work v 32 2 volume)

-- The decision from the walk's answer, the map and what is behind the volume.
module _ (n : ℕ) (v : Bytes) (seen seen' : Seen) (r t : Bool) (start : seen ≡ reserved n) (answer : outcome r seen' ≡ claim n (entry_work v 32 2 volume) seen) where
  pub fits_on : r ≡ true → (map_right v seen' n and t) ≡ (fits n v (claim n (volume_claims v) (reserved n)) and t)
  unfolding fits
  fits_on q = rw (volume_work v, ← start, ← answer, q)

  pub fits_off : r ≡ false → false ≡ (fits n v (claim n (volume_claims v) (reserved n)) and t)
  unfolding fits ◌and◌
  fits_off q = rw (volume_work v, ← start, ← answer, q)

-- What the first tests of an image say.
pub size_right : (n : ℕ) → 16 ≤ n → n ≤ 65535 → proper_size n ≡ true
unfolding within
size_right n a b = (and_true (leb 16 n) (leb n 65535)).1 (le-leb 16 n a, le-leb n 65535 b)

pub volume_header_law : (n : ℕ) (v : Bytes) → prodos n v ≡ true → header_kind v volume_block ≡ 0xF
unfolding prodos
volume_header_law n v e =
    let w = (and_true (eqb (previous v volume_block) 0) _).0 e in
    eqb-true (header_kind v volume_block) 0xF ((and_true (eqb (header_kind v volume_block) 0xF) _).0 w.1).0
