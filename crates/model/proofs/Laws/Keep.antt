-- What the reading of one entry depends on: where that stays, its sort, fields, blocks and slots stay, and it has no more faults.
use Prim.Native.Nat.{ℕ, ◌+◌, ◌*◌, ◌≤◌, ◌<◌, ◌/◌}
use mathlib.Core.Path.{◌≡◌, refl, ap}
use mathlib.Core.Bool.{Bool, true, false}
use lib.Dec.{eqb}
use lib.ListN.{drop}
use native.Mathlib.Omega.{arith}
use native.Mathlib.Nat.{add-zero, add_assoc}
use borrow.Author.Tests.{eqb-true, eqb-false, ne_eqb}
use Rattle.model.specs.Bytes.{Bytes, count, ne, unless, word, long}
use Rattle.model.specs.Names.{capital_name, alike}
use Rattle.model.specs.Directory.{Sort, inactive, directory, improper, file, sort_of, sort, at, directory_type, volume, volume_block, map_block, header_kind, active_count, field, ftype, key, used, eof, directory_key, chain, slots, slots_below, kids, active}
use Rattle.model.specs.File.{nodes, blocks_in, blocks_of, blocks, content}
use Rattle.model.specs.Sound.{links, twins, volume_faults, header_faults, top_faults, directory_faults, file_faults, entry_faults, faults_of, faults}
use Rattle.model.proofs.ByteLaws.{word_same, long_same}
use Rattle.model.proofs.Laws.Frame.{Alike, Named, next_in, previous_in, chain_same, links_same, nodes_same, file_byte_same, capital_name_same, alike_same}

-- An entry that is not the volume is read from its slot.
pub sort_at : (v : Bytes) (s : ℕ) → (s ≡ volume → ⊥) → sort v s ≡ sort_of (v (at s) / 16)
unfolding sort
sort_at v s z = rw (ne_eqb s volume z, sort) refl

pub field_at : (v : Bytes) (s o r : ℕ) → (s ≡ volume → ⊥) → field v s o r ≡ word v (at s + o)
unfolding field
field_at v s o r z = rw (ne_eqb s volume z, field) refl

pub eof_at : (v : Bytes) (s : ℕ) → (s ≡ volume → ⊥) → eof v s ≡ long v (at s + 0x15)
unfolding eof
eof_at v s z = rw (ne_eqb s volume z, eof) refl

pub ftype_at : (v : Bytes) (s : ℕ) → (s ≡ volume → ⊥) → ftype v s ≡ v (at s + 0x10)
unfolding ftype
ftype_at v s z = rw (ne_eqb s volume z, ftype) refl

pub top_at : (v : Bytes) (s : ℕ) → (s ≡ volume → ⊥) → top_faults v s ≡ header_faults v s (key v s)
unfolding top_faults
top_at v s z = rw (ne_eqb s volume z, top_faults) refl

-- Blocks and slots by sort.
pub directory_blocks : (v : Bytes) (s : ℕ) → sort v s ≡ directory → blocks v s ≡ chain v (key v s) (used v s)
unfolding blocks_of
directory_blocks v s e = rw e refl

pub directory_kids : (v : Bytes) (s : ℕ) → sort v s ≡ directory → kids v s ≡ drop 1 (slots (chain v (key v s) (used v s)))
unfolding slots_below
directory_kids v s e = rw e refl

pub file_blocks : (v : Bytes) (s h : ℕ) → sort v s ≡ file h → blocks v s ≡ blocks_in (nodes v h 0 (key v s))
unfolding blocks_of
file_blocks v s h e = rw e refl

-- the bytes of a slot after the name, but access, aux and modified stamp
abbrev pub Fields : Bytes → Bytes → ℕ → Type 0
Fields v v' s = (s ≡ volume → ⊥) → (o : ℕ) → 16 ≤ o → o < 39 → (30 ≤ o → o < 37 → ⊥) → v' (at s + o) ≡ v (at s + o)

-- a header but its count, and the same from byte f on
abbrev pub HeadFrom : ℕ → Bytes → Bytes → ℕ → Type 0
HeadFrom f v v' k = (j : ℕ) → f ≤ j → j < 43 → (37 ≤ j → j < 39 → ⊥) → v' (k * 512 + j) ≡ v (k * 512 + j)

abbrev pub Head : Bytes → Bytes → ℕ → Type 0
Head = HeadFrom 4

-- All but the names.
pub record Keeps (v v' : Bytes) (s : ℕ) : Type 0 where
  pub sorted : sort v' s ≡ sort v s
  pub slot : Fields v v' s
  pub chains : sort v s ≡ directory → (b : ℕ) → 1 ≤ count b (blocks v s) → Alike 4 v v' b
  pub head : sort v s ≡ directory → HeadFrom 20 v v' (key v s)
  pub trees : (h : ℕ) → sort v s ≡ file h → (b : ℕ) → 1 ≤ count b (blocks v s) → Alike 512 v v' b

pub head_word : (v v' : Bytes) (k o : ℕ) → HeadFrom 20 v v' k → 20 ≤ o → o < 42 → (36 ≤ o → o < 39 → ⊥) → word v' (k * 512 + o) ≡ word v (k * 512 + o)
head_word v v' k o f g l n =
    word_same v' v (k * 512 + o) (k * 512 + o) (f o g (omega arith) (λ p q. n (omega arith) q))
    (rw (add_assoc (k * 512) o 1) (f (o + 1) (omega arith) (omega arith) (λ p q. n (omega arith) (omega arith))))

pub head_late : (v v' : Bytes) (k : ℕ) → Head v v' k → HeadFrom 20 v v' k
head_late v v' k f j g l n = f j (omega arith) l n

pub head_name : (v v' : Bytes) (k : ℕ) → Head v v' k → Named v v' (k * 512 + 4)
head_name v v' k f i l = rw (add_assoc (k * 512) 4 i) (f (4 + i) (omega arith) (omega arith) (λ p q. omega arith))

pub map_same : (v v' : Bytes) → HeadFrom 20 v v' volume_block → map_block v' ≡ map_block v
map_same v v' f = head_word v v' volume_block 0x27 f (omega arith) (omega arith) (λ p q. omega arith)

-- The names: the entry's own, and the header's kind and name.
abbrev pub misnamed : Bytes → ℕ → ℕ
misnamed v s = unless (capital_name v (at s))

abbrev pub badge : Bytes → ℕ → ℕ → ℕ
badge v s k = ne (header_kind v k) 0xE + unless (alike v (k * 512 + 4) (at s))

pub misnamed_same : (v v' : Bytes) (s : ℕ) → Named v v' (at s) → misnamed v' s ≡ misnamed v s
misnamed_same v v' s f = rw (capital_name_same v v' (at s) f) refl

pub badge_same : (v v' : Bytes) (s k : ℕ) → Named v v' (at s) → Head v v' k → badge v' s k ≡ badge v s k
badge_same v v' s k f g =
    rw (alike_same v v' (k * 512 + 4) (at s) (head_name v v' k g) f, g 4 (omega arith) (omega arith) (λ p q. omega arith)) refl

pub header_le : (v v' : Bytes) (s k : ℕ) → HeadFrom 20 v v' k → badge v' s k ≤ badge v s k → header_faults v' s k ≤ header_faults v s k
unfolding header_faults
header_le v v' s k f g =
    let one : (j : ℕ) → 20 ≤ j → j < 43 → (37 ≤ j → j < 39 → ⊥) → v' (k * 512 + j) ≡ v (k * 512 + j) = f in
    rw (
      head_word v v' k 0x27 f (omega arith) (omega arith) (λ p q. omega arith),
      one 0x29 (omega arith) (omega arith) (λ p q. omega arith),
      one 0x23 (omega arith) (omega arith) (λ p q. omega arith),
      one 0x24 (omega arith) (omega arith) (λ p q. omega arith),
      one 0x2A (omega arith) (omega arith) (λ p q. omega arith),
    )
    (omega arith)

pub sort_same : (v v' : Bytes) (s : ℕ) → v' (at s) / 16 ≡ v (at s) / 16 → sort v' s ≡ sort v s
unfolding sort
sort_same v v' s f = go (eqb s volume)
  where
    go : (b : Bool)
        → ◌≡◌ {A = Sort} (elim b [ true ↦ directory | false ↦ sort_of (v' (at s) / 16) ]) (elim b [ true ↦ directory | false ↦ sort_of (v (at s) / 16) ])
    go true = refl
    go false = rw f refl

pub sort_named : (v v' : Bytes) (s : ℕ) → Named v v' (at s) → sort v' s ≡ sort v s
sort_named v v' s f = sort_same v v' s (rw (rw add-zero at (f 0 (omega arith))) refl)

module _ (v v' : Bytes) (s : ℕ) (same : Fields v v' s) where
  pub field_same : (o r : ℕ) → 16 ≤ o → o + 1 < 39 → (29 ≤ o → o < 37 → ⊥) → field v' s o r ≡ field v s o r
  unfolding field
  field_same o r g h k = go (eqb s volume) refl
    where
      go : (b : Bool) → eqb s volume ≡ b
          → ◌≡◌ {A = ℕ} (elim b [ true ↦ r | false ↦ word v' (at s + o) ]) (elim b [ true ↦ r | false ↦ word v (at s + o) ])
      go true e = refl
      go false e =
          let z = eqb-false s volume e in
          word_same v' v (at s + o) (at s + o) (same z o g (omega arith) (λ p q. k (omega arith) q))
          (rw (add_assoc (at s) o 1) (same z (o + 1) (omega arith) h (λ p q. k (omega arith) (omega arith))))

  pub key_same : key v' s ≡ key v s
  key_same = field_same 0x11 volume_block (omega arith) (omega arith) (λ p q. omega arith)

  pub used_same : used v' s ≡ used v s
  used_same = field_same 0x13 4 (omega arith) (omega arith) (λ p q. omega arith)

  pub up_same : directory_key v' s ≡ directory_key v s
  up_same = field_same 0x25 volume_block (omega arith) (omega arith) (λ p q. omega arith)

  pub ftype_same : ftype v' s ≡ ftype v s
  unfolding ftype
  ftype_same = go (eqb s volume) refl
    where
      go : (b : Bool) → eqb s volume ≡ b
          → ◌≡◌ {A = ℕ} (elim b [ true ↦ directory_type | false ↦ v' (at s + 0x10) ]) (elim b [ true ↦ directory_type | false ↦ v (at s + 0x10) ])
      go true e = refl
      go false e = same (eqb-false s volume e) 0x10 (omega arith) (omega arith) (λ p q. omega arith)

  pub eof_same : eof v' s ≡ eof v s
  unfolding eof
  eof_same = go (eqb s volume) refl
    where
      go : (b : Bool) → eqb s volume ≡ b
          → ◌≡◌ {A = ℕ} (elim b [ true ↦ 2048 | false ↦ long v' (at s + 0x15) ]) (elim b [ true ↦ 2048 | false ↦ long v (at s + 0x15) ])
      go true e = refl
      go false e =
          let one : (o : ℕ) → 16 ≤ o → o < 30 → v' (at s + o) ≡ v (at s + o) =
          λ o g l. same (eqb-false s volume e) o g (omega arith) (λ p q. omega arith) in
          long_same v' v (at s + 0x15) (at s + 0x15) (one 0x15 (omega arith) (omega arith))
          (rw (add_assoc (at s) 0x15 1) (one 0x16 (omega arith) (omega arith)))
          (rw (add_assoc (at s) 0x15 2) (one 0x17 (omega arith) (omega arith)))

  entry_le : (q : ℕ) → key v' q ≡ key v q → misnamed v' s ≤ misnamed v s → entry_faults v' q s ≤ entry_faults v q s
  entry_le q e g = rw (up_same, e) (omega arith)

module _ (v v' : Bytes) (s : ℕ) (K : Keeps v v' s) where
  in_chain : sort v s ≡ directory → (b : ℕ) → 1 ≤ count b (chain v (key v s) (used v s)) → Alike 4 v v' b
  in_chain e b h = K.chains e b (rw (directory_blocks v s e) h)

  chain_eq : sort v s ≡ directory → chain v' (key v' s) (used v' s) ≡ chain v (key v s) (used v s)
  chain_eq e =
      rw (key_same v v' s K.slot, used_same v v' s K.slot)
      (chain_same v v' (key v s) (used v s) (λ b h. next_in v v' b (in_chain e b h)))

  nodes_eq : (h : ℕ) → sort v s ≡ file h → nodes v' h 0 (key v' s) ≡ nodes v h 0 (key v s)
  nodes_eq h e = rw (key_same v v' s K.slot) (nodes_same v v' h 0 (key v s) (λ b c. K.trees h e b (rw (file_blocks v s h e) c)))

  pub blocks_same : blocks v' s ≡ blocks v s
  blocks_same = rw K.sorted (go (sort v s) refl)
    where
      go : (k : Sort) → sort v s ≡ k → blocks_of k v' s ≡ blocks_of k v s
      go inactive e = unfold blocks_of in refl
      go directory e = unfold blocks_of in chain_eq e
      go improper e = unfold blocks_of in refl
      go (file h) e = unfold blocks_of in ap blocks_in (nodes_eq h e)

  pub content_same : (h : ℕ) → sort v s ≡ file h → content v' s ≡ content v s
  content_same h e =
      rw (K.sorted, key_same v v' s K.slot, e) (file_byte_same v v' h (key v s) (λ b c. K.trees h e b (rw (file_blocks v s h e) c)))

  pub kids_same : kids v' s ≡ kids v s
  kids_same = rw K.sorted (go (sort v s) refl)
    where
      go : (k : Sort) → sort v s ≡ k → slots_below k v' s ≡ slots_below k v s
      go inactive e = unfold slots_below in refl
      go directory e = unfold slots_below in ap (λ bs. drop 1 (slots bs)) (chain_eq e)
      go improper e = unfold slots_below in refl
      go (file h) e = unfold slots_below in refl

  top_le : sort v s ≡ directory → ((s ≡ volume → ⊥) → badge v' s (key v s) ≤ badge v s (key v s)) → top_faults v' s ≤ top_faults v s
  top_le e g = go (eqb s volume) refl
    where
      go : (b : Bool) → eqb s volume ≡ b → top_faults v' s ≤ top_faults v s
      go true f =
          unfold top_faults in
          rw (f, top_faults)
          (unfold volume_faults field in
          rw (rw (eqb-true s volume f) at (chain_eq e), map_same v v' (rw (eqb-true s volume f) at (K.head e))) (omega arith))
      go false f =
          let z = eqb-false s volume f in
          rw (top_at v' s z, top_at v s z, key_same v v' s K.slot) (header_le v v' s (key v s) (K.head e) (g z))

  links_eq : sort v s ≡ directory → links v' 0 (key v s) (used v s) ≡ links v 0 (key v s) (used v s)
  links_eq e = links_same v v' 0 (key v s) (used v s) (λ b h. (next_in v v' b (in_chain e b h), previous_in v v' b (in_chain e b h)))

  file_same : (n h : ℕ) → sort v s ≡ file h → file_faults n v' h s ≡ file_faults n v h s
  unfolding file_faults
  file_same n h e =
      rw (nodes_eq h e, blocks_same, ftype_same v v' s K.slot, eof_same v v' s K.slot, used_same v v' s K.slot) refl

  -- what changes in a directory with the entries in it
  abbrev pub listed : Bytes → ℕ
  listed w = ne (active_count w (key v s)) (active w (kids v s)) + twins w (kids v s)

  directory_le : (n : ℕ) → sort v s ≡ directory → ((s ≡ volume → ⊥) → badge v' s (key v s) ≤ badge v s (key v s)) → listed v' ≤ listed v
      → directory_faults n v' s ≤ directory_faults n v s
  unfolding directory_faults
  directory_le n e g c =
      rw (
        kids_same,
        blocks_same,
        ftype_same v v' s K.slot,
        eof_same v v' s K.slot,
        used_same v v' s K.slot,
        key_same v v' s K.slot,
        links_eq e,
      )
      (omega (arith, top_le e g))

  pub faults_same : (n m q : ℕ) → key v' q ≡ key v q → misnamed v' s ≤ misnamed v s
      → (sort v s ≡ directory → (s ≡ volume → ⊥) → badge v' s (key v s) ≤ badge v s (key v s))
      → (sort v s ≡ directory → listed v' ≤ listed v) → faults n v' m q s ≤ faults n v m q s
  faults_same n m q e g b c = rw K.sorted (go (sort v s) refl)
    where
      same : entry_faults v' q s ≤ entry_faults v q s
      same = entry_le v v' s K.slot q e g

      go : (k : Sort) → sort v s ≡ k → faults_of k n v' m q s ≤ faults_of k n v m q s
      go inactive f = unfold faults_of in omega arith
      go directory f = unfold faults_of in omega (arith, same, directory_le n f (b f) (c f))
      go improper f = unfold faults_of in omega arith
      go (file h) f = unfold faults_of in omega (arith, same, file_same n h f)
