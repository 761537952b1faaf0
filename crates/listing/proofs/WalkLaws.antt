-- The lines of a directory's slots, one slot and one block after the other, and what a sound volume gives the walk. Assumes nothing.
use Prim.Native.Nat.{ℕ, zero, suc, ◌+◌, ◌-◌, ◌*◌, ◌/◌, ◌≤◌, ◌<◌}
use mathlib.Core.Path.{◌≡◌, refl, sym, ap, ◌∙◌}
use mathlib.Core.List.Memᴰ
use mathlib.Core.List.{List, [], ◌∷◌, ◌++◌, map, append_assoc, append-nil, Memᴰ}
use mathlib.Core.Bool.{Bool, true, false}
use native.Mathlib.Omega.{arith}
use lib.Dec.{leb}
use lib.ListN.{length, take, drop}
use borrow.Author.Tests.{ne_eqb, leb-false}
use Rattle.model.specs.Bytes.{Bytes, view, word, long, gather}
use Rattle.model.specs.Map.{map_blocks}
use Rattle.model.specs.Directory.{place, at, volume, map_block, inactive, directory, file, sort_of, sort, is_active, field, ftype, key, used, eof, chain, next, slots_below, kids}
use Rattle.model.specs.Walk.{level_most, visit, walk}
use Rattle.model.specs.Sound.{sound}
use Rattle.model.specs.Names.{slash, name_size}
use Rattle.model.specs.Catalog.{space', newline, decimal, hex_digit, hex_byte, text, below, line, first_line, listing}
use Rattle.model.proofs.ByteLaws.{view_read, word_part, long_part}
use Rattle.claims.proofs.SoundFacts.{sound_facts}
use Rattle.facts.specs.Reached.{Among, here, later, Met, top, down, Inside}
use Rattle.facts.proofs.BlockLaws.{met_directory}
use Rattle.facts.proofs.LookupLaws.{volume_directory}
use Rattle.facts.proofs.SlotLaws.{kid_entry}
use Rattle.directory.specs.Search.{Each, slots_from, listed}
use Rattle.model.proofs.Laws.Keep.{sort_at, field_at as field_by}
use Rattle.directory.proofs.SlotLaws.{sort_improper}
use Rattle.directory.proofs.SearchLaws.{rest, rest_more, slots_more, each_head, each_tail, each_front, each_back}
use Rattle.listing.specs.Walked.{line_of, walked, block_count, Whole, Listed, Chained}

-- Lists of lines.
gather_append : {A B : Type 0} (g : A → List B) (xs ys : List A) → gather g (xs ++ ys) ≡ gather g xs ++ gather g ys
unfolding gather
gather_append g [] ys = refl
gather_append g (x ∷ xs) ys = ap (λ l. g x ++ l) (gather_append g xs ys) ∙ sym (append_assoc (g x) (gather g xs) (gather g ys))

map_append : {A B : Type 0} (f : A → B) (xs ys : List A) → map f (xs ++ ys) ≡ map f xs ++ map f ys
map_append f [] ys = refl
map_append f (x ∷ xs) ys = ap (λ l. f x ∷ l) (map_append f xs ys)

module _ (v : Bytes) where
  walk_append : (l : ℕ) (p xs ys : List ℕ) → walk (kids v) (below v) l p (xs ++ ys) ≡ walk (kids v) (below v) l p xs ++ walk (kids v) (below v) l p ys
  unfolding walk
  walk_append zero p xs ys = map_append (visit 0 p) xs ys
  walk_append (suc l) p xs ys = gather_append (λ s. visit (suc l) p s ∷ walk (kids v) (below v) l (below v p s) (kids v s)) xs ys

  walk_none : (l : ℕ) (p : List ℕ) → walk (kids v) (below v) l p [] ≡ []
  unfolding walk gather
  walk_none zero p = refl
  walk_none (suc l) p = refl

  pub walked_append : (l : ℕ) (p xs ys : List ℕ) → walked v l p (xs ++ ys) ≡ walked v l p xs ++ walked v l p ys
  unfolding walked
  walked_append l p xs ys =
      ap (gather (line v)) (walk_append l p xs ys) ∙ gather_append (line v) (walk (kids v) (below v) l p xs) (walk (kids v) (below v) l p ys)

  pub walked_none : (l : ℕ) (p : List ℕ) → walked v l p [] ≡ []
  unfolding walked gather
  walked_none l p = ap (gather (line v)) (walk_none l p)

  -- one slot: its line, and what is below it
  pub walked_leaf : (l : ℕ) (p : List ℕ) (s : ℕ) → kids v s ≡ [] → walked v l p (s ∷ []) ≡ line v (visit l p s)
  unfolding walked walk gather
  walked_leaf zero p s h = append-nil (line v (visit 0 p s))
  walked_leaf (suc l) p s h =
      let e : walk (kids v) (below v) l (below v p s) (kids v s) ≡ [] = ap (walk (kids v) (below v) l (below v p s)) h ∙ walk_none l (below v p s) in
      ap (λ w. line v (visit (suc l) p s) ++ gather (line v) (w ++ [])) e ∙ append-nil (line v (visit (suc l) p s))

  pub walked_node : (l : ℕ) (p : List ℕ) (s : ℕ) → walked v (suc l) p (s ∷ []) ≡ line v (visit (suc l) p s) ++ walked v l (below v p s) (kids v s)
  unfolding walked walk gather
  walked_node l p s = ap (λ w. line v (visit (suc l) p s) ++ gather (line v) w) (append-nil (walk (kids v) (below v) l (below v p s) (kids v s)))

-- The line of a slot, from its 39 bytes as they are lent.
line_with : ℕ → ℕ → ℕ → ℕ → List ℕ → List ℕ
line_with k t u e p =
    hex_digit k ∷ space' ∷ hex_byte t ++ (space' ∷ decimal u ++ (space' ∷ decimal e ++ (space' ∷ p ++ (newline ∷ []))))

line_same : {k k' t t' u u' e e' : ℕ} {p p' : List ℕ} → k ≡ k' → t ≡ t' → u ≡ u' → e ≡ e' → p ≡ p' → line_with k t u e p ≡ line_with k' t' u' e' p'
line_same a b c d f = cc

line_none : (v : Bytes) (l : ℕ) (p : List ℕ) (s : ℕ) → is_active (sort v s) ≡ false → line v (visit l p s) ≡ []
unfolding line
line_none v l p s h = rw (h, line)

line_active : (v : Bytes) (l : ℕ) (p : List ℕ) (s : ℕ) → is_active (sort v s) ≡ true
    → line v (visit l p s) ≡ line_with (v (at s) / 16) (ftype v s) (used v s) (eof v s) (below v p s)
unfolding line line_with
line_active v l p s h = rw (h, line)

module _ (xs : List ℕ) (p : List ℕ) (s a k : ℕ) (entry : s ≡ volume → ⊥) (start : a ≡ at s) (size : k ≡ 39) where
  first_byte : view (take k (drop a xs)) 0 ≡ view xs (at s)
  first_byte = let e : a + 0 ≡ a = omega arith in view_read xs a k 0 (omega arith) ∙ ap (view xs) (e ∙ start)

  type_byte : view (take k (drop a xs)) 0x10 ≡ ftype (view xs) s
  unfolding ftype
  type_byte = view_read xs a k 0x10 (omega arith) ∙ ap (λ b. view xs (b + 0x10)) start ∙ rw (ne_eqb s volume entry, ftype)

  used_word : word (view (take k (drop a xs))) 0x13 ≡ used (view xs) s
  used_word = word_part xs a k 0x13 (omega arith) ∙ ap (λ b. word (view xs) (b + 0x13)) start ∙ sym (field_by (view xs) s 0x13 4 entry)

  eof_long : long (view (take k (drop a xs))) 0x15 ≡ eof (view xs) s
  unfolding eof
  eof_long = long_part xs a k 0x15 (omega arith) ∙ ap (λ b. long (view xs) (b + 0x15)) start ∙ rw (ne_eqb s volume entry, eof)

  lent_line : (l : ℕ) (q : List ℕ) → is_active (sort (view xs) s) ≡ true → q ≡ below (view xs) p s
      → line_of (view (take k (drop a xs))) q ≡ line (view xs) (visit l p s)
  unfolding line_with
  lent_line l q h e = line_same (ap (λ x. x / 16) first_byte) type_byte used_word eof_long e ∙ sym (line_active (view xs) l p s h)

-- What the kind of a slot says.
sort_file : (k : ℕ) → (k ≡ 0 → ⊥) → leb k 3 ≡ true → sort_of k ≡ file (k - 1)
unfolding sort_of
sort_file k h e = rw (ne_eqb k 0 h, e, sort_of)

module _ (v : Bytes) (s : ℕ) (entry : s ≡ volume → ⊥) where
  sort_none : v (at s) / 16 ≡ 0 → sort v s ≡ inactive
  unfolding sort_of
  sort_none h = sort_at v s entry ∙ ap sort_of h

  pub sort_directory : v (at s) / 16 ≡ 13 → sort v s ≡ directory
  unfolding sort_of
  sort_directory h = sort_at v s entry ∙ ap sort_of h

  sort_other : (v (at s) / 16 ≡ 0 → ⊥) → (v (at s) / 16 ≡ 13 → ⊥) → (is_active (sort v s) ≡ true) × (kids v s ≡ [])
  unfolding slots_below
  sort_other h g = go (leb (v (at s) / 16) 3) refl
    where
      go : (b : Bool) → leb (v (at s) / 16) 3 ≡ b → (is_active (sort v s) ≡ true) × (kids v s ≡ [])
      go true e = rw (sort_at v s entry ∙ sort_file (v (at s) / 16) h e) (refl, refl)
      go false e = rw (sort_at v s entry ∙ sort_improper (v (at s) / 16) (leb-false (v (at s) / 16) 3 e) g) (refl, refl)

-- The text of one slot: nothing, a line, or a line and a directory.
pub quiet_text : (v : Bytes) (l : ℕ) (p : List ℕ) (s : ℕ) → (s ≡ volume → ⊥) → v (at s) / 16 ≡ 0 → [] ≡ walked v l p (s ∷ [])
unfolding slots_below
quiet_text v l p s n h =
    let e = sort_none v s n h in
    let k : kids v s ≡ [] = rw e in
    sym (walked_leaf v l p s k ∙ line_none v l p s (rw e))

module _ (xs : List ℕ) (p : List ℕ) (s a k : ℕ) (entry : s ≡ volume → ⊥) (start : a ≡ at s) (size : k ≡ 39) (l : ℕ) (q : List ℕ) (path : q ≡ below (view xs) p s) where
  pub leaf_text : (view xs (at s) / 16 ≡ 0 → ⊥) → (view xs (at s) / 16 ≡ 13 → ⊥) → line_of (view (take k (drop a xs))) q ≡ walked (view xs) l p (s ∷ [])
  leaf_text h g =
      let o = sort_other (view xs) s entry h g in
      lent_line xs p s a k entry start size l q o.0 path ∙ sym (walked_leaf (view xs) l p s o.1)

  pub node_text : (b u : ℕ) → view xs (at s) / 16 ≡ 13 → 1 ≤ l → b ≡ key (view xs) s → u ≡ used (view xs) s
      → line_of (view (take k (drop a xs))) q ++ walked (view xs) (l - 1) q (listed (view xs) b u) ≡ walked (view xs) l p (s ∷ [])
  unfolding slots_below
  node_text b u h g e f =
      let o = sort_directory (view xs) s entry h in
      let n : suc (l - 1) ≡ l = omega arith in
      let below_it : listed (view xs) b u ≡ kids (view xs) s = rw (o, e, f) in
      ap (λ t. t ++ walked (view xs) (l - 1) q (listed (view xs) b u)) (lent_line xs p s a k entry start size (suc (l - 1)) q (rw o) path)
      ∙ ap (λ t. line (view xs) (visit (suc (l - 1)) p s) ++ walked (view xs) (l - 1) q t) below_it
      ∙ ap (λ t. line (view xs) (visit (suc (l - 1)) p s) ++ walked (view xs) (l - 1) t (kids (view xs) s)) path
      ∙ sym (walked_node (view xs) (l - 1) p s)
      ∙ ap (λ j. walked (view xs) j p (s ∷ [])) n

-- What soundness gives: a directory that is met can be walked.
among : {s : ℕ} {xs : List ℕ} → Memᴰ s xs → Among s xs
among (Memᴰ.head e) = rw e here
among (Memᴰ.tail m) = later (among m)

inside_each : (n : ℕ) (bs : List ℕ) → Inside n bs → Each (λ b. b < n) bs
inside_each n [] h x m = absurd (Memᴰ.not-nil m)
inside_each n (b ∷ bs) h x (Memᴰ.head e) = rw e h.0
inside_each n (b ∷ bs) h x (Memᴰ.tail m) = inside_each n bs h.1 x m

pub met_chained : {n l d s : ℕ} {v : Bytes} → sound n v ≡ true → Met v (suc l) d s → sort v s ≡ directory → Chained n v l (key v s) (used v s)
unfolding slots_below
met_chained {n} {l} {d} {s} {v} h m o = record { inside = inside_each n (chain v (key v s) (used v s)) (met_directory h m o).chained; entries = kid }
  where
    kid : (t : ℕ) → Memᴰ t (listed v (key v s) (used v s)) → Listed v l t
    kid t k = let a : Among t (kids v s) = rw o (among k) in record { met = (s, down m a); entry = kid_entry n h m o t a }

module _ (n : ℕ) {l s : ℕ} {v : Bytes} (h : sound n v ≡ true) (w : Listed v l s) (o : sort v s ≡ directory) where
  pub listed_level : 1 ≤ l
  listed_level = (met_directory h w.met.1 o).level

  pub listed_chained : (b u : ℕ) → b ≡ key v s → u ≡ used v s → Chained n v (l - 1) b u
  listed_chained b u p q =
      let e : l ≡ suc (l - 1) = omega (arith, listed_level) in
      let m : Met v (suc (l - 1)) w.met.0 s = rw e at w.met.1 in
      rw (p, q) (met_chained h m o)

-- Slot by slot in a block, block by block in a chain.
module _ (v : Bytes) (l : ℕ) (p : List ℕ) where
  pub block_text : (b t : ℕ) → 1 ≤ t → t ≤ 13 → walked v l p (slots_from b t) ≡ walked v l p (place b t ∷ []) ++ walked v l p (slots_from b (t + 1))
  block_text b t h g = ap (walked v l p) (slots_more b t h g) ∙ walked_append v l p (place b t ∷ []) (slots_from b (t + 1))

  pub chain_text : (b u t : ℕ) → 0 < u → 1 ≤ t → t ≤ 2
      → walked v l p (rest v b u t) ≡ walked v l p (slots_from b t) ++ walked v l p (rest v (next v b) (u - 1) 1)
  chain_text b u t m h g = ap (walked v l p) (rest_more v b u t m h g) ∙ walked_append v l p (slots_from b t) (rest v (next v b) (u - 1) 1)

  pub empty_text : (ss : List ℕ) → ss ≡ [] → walked v l p ss ≡ []
  empty_text ss e = ap (walked v l p) e ∙ walked_none v l p

-- the walk at a block of a chain: u blocks are left from b on, of which the first has slots from t on
pub record Pending (n : ℕ) (v : Bytes) (l b u t : ℕ) : Type 0 where
  pub low : 1 ≤ t
  pub high : t ≤ 2
  pub inside : Each (λ x. x < n) (chain v b u)
  pub entries : Each (Listed v l) (rest v b u t)

pub pending : {n l b u : ℕ} {v : Bytes} → Chained n v l b u → Pending n v l b u 2
pending w = record { low = omega arith; high = omega arith; inside = w.inside; entries = w.entries }

module _ {n l b u t : ℕ} {v : Bytes} (more : 0 < u) (w : Pending n v l b u t) where
  chain_more : chain v b u ≡ b ∷ chain v (next v b) (u - 1)
  unfolding chain
  chain_more = let e : u ≡ suc (u - 1) = omega arith in ap (chain v b) e

  pub pending_block : b < n
  pending_block = each_head (λ x. x < n) b _ _ chain_more w.inside

  pub pending_slots : Each (Listed v l) (slots_from b t)
  pending_slots = each_front (Listed v l) (slots_from b t) _ _ (rest_more v b u t more w.low w.high) w.entries

  pub pending_next : Pending n v l (next v b) (u - 1) 1
  pending_next =
      record {
        low = omega arith;
        high = omega arith;
        inside = each_tail (λ x. x < n) b _ _ chain_more w.inside;
        entries = each_back (Listed v l) (slots_from b t) _ _ (rest_more v b u t more w.low w.high) w.entries;
      }

pub slot_few : (img : List ℕ) (s : ℕ) → Whole img → s / 13 < block_count img → s / 13 < 65536
slot_few img s whole h = omega (arith, (sound_facts (block_count img) (view img) whole.safe).most)

-- A slot that the walk meets, at the address a, as the code reads it.
module _ (img : List ℕ) (l s a : ℕ) (whole : Whole img) (w : Listed (view img) l s) (start : a ≡ at s) where
  kind_at : (k : ℕ) → view img a / 16 ≡ k → view img (at s) / 16 ≡ k
  kind_at k h = ap (λ b. view img b / 16) (sym start) ∙ h

  kind_off : (k : ℕ) → (view img a / 16 ≡ k → ⊥) → view img (at s) / 16 ≡ k → ⊥
  kind_off k h e = h (ap (λ b. view img b / 16) start ∙ e)

  path_at : (p q : List ℕ) → q ≡ p ++ (slash ∷ text (view img) (a + 1) (name_size (view img) a)) → q ≡ below (view img) p s
  path_at p q e = e ∙ ap (λ b. p ++ (slash ∷ text (view img) (b + 1) (name_size (view img) b))) start

  field_at : (o r x : ℕ) → x ≡ word (view img) (a + o) → x ≡ field (view img) s o r
  field_at o r x e = e ∙ ap (λ b. word (view img) (b + o)) start ∙ sym (field_by (view img) s o r w.entry)

  pub slot_quiet : (p : List ℕ) → view img a / 16 ≡ 0 → [] ≡ walked (view img) l p (s ∷ [])
  slot_quiet p h = quiet_text (view img) l p s w.entry (kind_at 0 h)

  pub slot_leaf : (k : ℕ) (p q : List ℕ) → k ≡ 39 → q ≡ p ++ (slash ∷ text (view img) (a + 1) (name_size (view img) a))
      → (view img a / 16 ≡ 0 → ⊥) → (view img a / 16 ≡ 13 → ⊥) → line_of (view (take k (drop a img))) q ≡ walked (view img) l p (s ∷ [])
  slot_leaf k p q e path h g = leaf_text img p s a k w.entry start e l q (path_at p q path) (kind_off 0 h) (kind_off 13 g)

  module _ (h : view img a / 16 ≡ 13) where
    pub directory_level : 1 ≤ l
    directory_level = listed_level (block_count img) whole.safe w (sort_directory (view img) s w.entry (kind_at 13 h))

    module _ (b u : ℕ) (first : b ≡ word (view img) (a + 0x11)) (many : u ≡ word (view img) (a + 0x13)) where
      pub directory_chained : Chained (block_count img) (view img) (l - 1) b u
      directory_chained =
          listed_chained (block_count img) whole.safe w (sort_directory (view img) s w.entry (kind_at 13 h)) b u (field_at 0x11 2 b first) (field_at 0x13 4 u many)

      pub directory_text : (k : ℕ) (p q : List ℕ) → k ≡ 39 → q ≡ p ++ (slash ∷ text (view img) (a + 1) (name_size (view img) a))
          → line_of (view (take k (drop a img))) q ++ walked (view img) (l - 1) q (listed (view img) b u) ≡ walked (view img) l p (s ∷ [])
      directory_text k p q e path =
          node_text img p s a k w.entry start e l q (path_at p q path) b u (kind_at 13 h) directory_level (field_at 0x11 2 b first) (field_at 0x13 4 u many)

-- The volume itself.
pub whole : (n : ℕ) (img : List ℕ) → length img ≡ n * 512 → sound n (view img) ≡ true → Whole img
whole n img e h = let b : length img / 512 ≡ n = omega arith in record { size = omega arith; safe = rw b h }

pub volume_large : (n : ℕ) (img : List ℕ) → sound n (view img) ≡ true → length img ≡ n * 512 → 8192 ≤ length img
volume_large n img h e = omega (arith, (sound_facts n (view img) h).least)

pub map_inside : (n m : ℕ) (v : Bytes) → sound n v ≡ true → m ≡ map_block v → (n ≤ 65535) × (m * 512 + map_blocks n * 512 ≤ n * 512)
unfolding map_blocks
map_inside n m v h e = let f = sound_facts n v h in let p = f.placed in (f.most, omega (arith, f.least))

pub volume_chained : (n : ℕ) (img : List ℕ) → length img ≡ n * 512 → sound n (view img) ≡ true → Chained (block_count img) (view img) level_most 2 4
unfolding field
volume_chained n img e h = met_chained (whole n img e h).safe top (volume_directory (view img))

pub volume_text : (n : ℕ) (v : Bytes) (p : List ℕ) → p ≡ slash ∷ text v 1029 (name_size v 1028)
    → first_line n v ++ walked v level_most p (listed v 2 4) ≡ listing n v
unfolding listing walked text at field sort slots_below
volume_text n v p e = ap (λ q. first_line n v ++ walked v level_most q (listed v 2 4)) e
