-- What read answers, by what the path leads to.
use Rattle.std.specs.Prelude.{Result, Ok, Err}
use Prim.Native.Nat.{ℕ, ◌<◌}
use mathlib.Core.Path.{◌≡◌, refl, sym, ap, ◌∙◌}
use mathlib.Core.List.{List, [], ◌∷◌}
use mathlib.Core.Bool.{Bool, true, false, not}
use lib.Dec.{leb, ltb, eqb}
use lib.ListN.{length}
use native.Mathlib.Omega.{arith}
use Rattle.model.specs.Bytes.{Bytes, view, paste, from, ◌and◌}
use Rattle.model.specs.Kinds.{key_of}
use Rattle.model.specs.Directory.{at, volume, file, sort, key, eof, access, there}
use Rattle.model.specs.File.{file_byte, content, height}
use Rattle.model.specs.Sound.{sound}
use Rattle.model.specs.Refusals.{refusal_number, Row, row, first, settle}
use Rattle.model.specs.Calls.{total, target, spot, allows, read_bit, not_data}
use Rattle.model.specs.Read.{Filled, filled, to_read, filled_from, read_number, read}
use Rattle.model.specs.Answers.{Reads}
use Rattle.model.specs.declared.Refusal.{Refusal}
use Rattle.model.specs.declared.Refusal.TheVariants.{BadKind}
use Rattle.model.specs.declared.Entry.{Entry}
use Rattle.model.specs.declared.Place.{Place}
use Rattle.model.proofs.RefusalLaws.{settle_refused, number_refuses, first_applies}
use Rattle.facts.proofs.BlockLaws.{met_file}
use Rattle.directory.specs.Slots.{kind_of, entry_of}
use Rattle.directory.specs.declared.Home.{Home}
use Rattle.opening.specs.Opened.{opened_by}
use Rattle.opening.specs.Sorts.{is_folder, height_of}
use Rattle.opening.specs.declared.Opened.{Opened}
use Rattle.opening.specs.declared.Opened.TheVariants as opened
use Rattle.opening.proofs.VolumeLaws.{Fits}
use Rattle.opening.proofs.EntryLaws.{Named, target_named, height_sort, key_sort, height_small, kind_is, folder_is, eof_is, access_is, file_is}
use Rattle.opening.proofs.OpenedLaws.{opened_or, opened_first, Seen, refused, on_volume, on_entry, seen}
use Rattle.read.specs.Reading.{Readable, entry_read_number, entry_count, entry_read}

-- the rows of read from $4B on, at a place
rows_at : Bytes → ℕ → ℕ → ℕ → List Row
rows_at v pos size s =
    not_data v s ∷ row (not (allows (access v s) read_bit)) 0x4E ∷ row (ltb (eof v s) pos) 0x4D ∷ row (leb 1 size and eqb pos (eof v s)) 0x4C ∷ []

read_number_law : (len : ℕ) (v p : Bytes) (k pos size : ℕ)
    → read_number len v p k pos size (target v p k) ≡ opened_or (opened_by len v p k) (first (rows_at v pos size (spot (target v p k))))
unfolding read_number rows_at
read_number_law len v p k pos size = opened_first len v p k (rows_at v pos size (spot (target v p k)))

-- a refused read leaves the buffer
pub read_no : (len : ℕ) (v p : Bytes) (k pos : ℕ) (l : List ℕ) (r : Refusal) → read_number len v p k pos (length l) (target v p k) ≡ refusal_number r
    → Reads (read len v p k pos (view l) (length l)) (length l) (Err r) l
unfolding read settle
read_no len v p k pos l r e =
    let s = settle_refused (read_number len v p k pos (length l) (target v p k)) (filled 0 (view l)) v (filled_from v (spot (target v p k)) pos (view l) (length l)) v (λ z. number_refuses r (sym e ∙ z)) in
    record { said = sym e; moved = sym (ap (λ f. f.moved) s.0); size = refl; bytes = sym (ap (λ f. f.buffer) s.0) }

pub read_refused : (len : ℕ) (v p : Bytes) (k pos : ℕ) (l : List ℕ) (r : Refusal) → opened_by len v p k ≡ Err r
    → Reads (read len v p k pos (view l) (length l)) (length l) (Err r) l
read_refused len v p k pos l r e =
    read_no len v p k pos l r (read_number_law len v p k pos (length l) ∙ ap (λ o. opened_or o (first (rows_at v pos (length l) (spot (target v p k))))) e)

volume_number : (v : Bytes) (pos size d : ℕ) → first (rows_at v pos size (spot (there d volume))) ≡ 0x4B
unfolding first rows_at spot sort
volume_number v pos size d = refl

pub read_volume : (len : ℕ) (v p : Bytes) (k pos n : ℕ) (l : List ℕ) → opened_by len v p k ≡ Ok (opened.Volume n)
    → Reads (read len v p k pos (view l) (length l)) (length l) (Err BadKind) l
read_volume len v p k pos n l e = go (opened_by len v p k) refl e (seen len v p k)
  where
    number : (d : ℕ) → target v p k ≡ there d volume → first (rows_at v pos (length l) (spot (target v p k))) ≡ 0x4B
    number d t = ap (λ t. first (rows_at v pos (length l) (spot t))) t ∙ volume_number v pos (length l) d

    go : (o : Result Opened Refusal) → opened_by len v p k ≡ o → o ≡ Ok (opened.Volume n) → Seen len v p k o → Reads (read len v p k pos (view l) (length l)) (length l) (Err BadKind) l
    go o q z (refused r x) = let y : ◌≡◌ {A = ℕ} 0 1 = cc in absurd (omega arith)
    go o q z (on_volume d f t) = read_no len v p k pos l BadKind (read_number_law len v p k pos (length l) ∙ ap (λ o. opened_or o (first (rows_at v pos (length l) (spot (target v p k))))) q ∙ number d t)
    go o q z (on_entry d s f t off) = let y : ◌≡◌ {A = ℕ} 0 1 = cc in absurd (omega arith)

pub folder_number : (x : Entry) (pos size : ℕ) → is_folder x.kind ≡ true → entry_read_number x pos size ≡ 0x4B
unfolding entry_read_number
folder_number x pos size e = first_applies (row (is_folder x.kind) 0x4B) _ e

refused_same : (none : Filled) (v : Bytes) (a b : Filled) → settle 0x4B none v a v ≡ settle 0x4B none v b v
unfolding settle
refused_same none v a b = refl

filled_same : (v : Bytes) (s : ℕ) (x : Entry) (pos : ℕ) (buffer : Bytes) (size : ℕ) → x.eof ≡ eof v s → content v s ≡ file_byte v (height_of x.kind) (key_of x.kind)
    → filled_from v s pos buffer size ≡ filled (entry_count x pos size) (paste buffer 0 (entry_count x pos size) (from (file_byte v (height_of x.kind) (key_of x.kind)) pos))
unfolding filled_from to_read
filled_same v s x pos buffer size e c = rw (e, ← c) refl

module _ (n : ℕ) (v : Bytes) (d s : ℕ) (h : sound n v ≡ true) (w : Named v d s) (off : s ≡ volume → ⊥) where
  number_is : (pos size : ℕ) → first (rows_at v pos size s) ≡ entry_read_number (entry_of v (at s)) pos size
  unfolding rows_at entry_read_number
  number_is pos size = rw (folder_is v d s w off, access_is v d s w off, eof_is v d s w off) refl

  content_is : is_folder (entry_of v (at s)).kind ≡ false → content v s ≡ file_byte v (height_of (entry_of v (at s)).kind) (key_of (entry_of v (at s)).kind)
  content_is e =
      let f = file_is v d s w off e in
      let t : f.0 < 3 = rw (met_file {n = n} h w.met f.1).tall (height_small (eof v s)) in
      let k : (entry_of v (at s)).kind ≡ kind_of (file f.0) (key v s) = kind_is v d s w off ∙ ap (λ K. kind_of K (key v s)) f.1 in
      let hk : height (sort v s) ≡ height_of (entry_of v (at s)).kind = ap height f.1 ∙ sym (ap height_of k ∙ height_sort f.0 (key v s) t) in
      let kk : key v s ≡ key_of (entry_of v (at s)).kind = sym (ap key_of k ∙ key_sort (file f.0) (key v s)) in
      ap (λ g. file_byte v g (key v s)) hk ∙ ap (file_byte v (height_of (entry_of v (at s)).kind)) kk

  -- the outcome of read at the place is the one of the decoded entry
  outcome_is : (pos : ℕ) (buffer : Bytes) (size : ℕ)
      → settle (first (rows_at v pos size s)) (filled 0 buffer) v (filled_from v s pos buffer size) v ≡ entry_read v (entry_of v (at s)) pos buffer size
  unfolding entry_read
  outcome_is pos buffer size = go (is_folder (entry_of v (at s)).kind) refl
    where
      x : Entry
      x = entry_of v (at s)

      new : Filled
      new = filled (entry_count x pos size) (paste buffer 0 (entry_count x pos size) (from (file_byte v (height_of x.kind) (key_of x.kind)) pos))

      go : (b : Bool) → is_folder x.kind ≡ b → settle (first (rows_at v pos size s)) (filled 0 buffer) v (filled_from v s pos buffer size) v ≡ settle (entry_read_number x pos size) (filled 0 buffer) v new v
      go true e =
          let q = folder_number x pos size e in
          ap (λ k. settle k (filled 0 buffer) v (filled_from v s pos buffer size) v) (number_is pos size ∙ q)
          ∙ refused_same (filled 0 buffer) v (filled_from v s pos buffer size) new
          ∙ sym (ap (λ k. settle k (filled 0 buffer) v new v) q)
      go false e =
          ap (λ k. settle k (filled 0 buffer) v (filled_from v s pos buffer size) v) (number_is pos size)
          ∙ ap (λ f. settle (entry_read_number x pos size) (filled 0 buffer) v f v) (filled_same v s x pos buffer size (eof_is v d s w off) (content_is e))

  pub readable : is_folder (entry_of v (at s)).kind ≡ false → Readable n v (entry_of v (at s))
  readable e =
      let f = file_is v d s w off e in
      let g = met_file {n = n} h w.met f.1 in
      let t : f.0 < 3 = rw g.tall (height_small (eof v s)) in
      let k : (entry_of v (at s)).kind ≡ kind_of (file f.0) (key v s) = kind_is v d s w off ∙ ap (λ K. kind_of K (key v s)) f.1 in
      let hk : height_of (entry_of v (at s)).kind ≡ f.0 = ap height_of k ∙ height_sort f.0 (key v s) t in
      let kk : key_of (entry_of v (at s)).kind ≡ key v s = ap key_of k ∙ key_sort (file f.0) (key v s) in
      record { low = rw hk t; backed = rw (hk, kk) g.backed }

-- the path leads to an entry
pub read_entry : (len : ℕ) (v p : Bytes) (k pos : ℕ) (buffer : Bytes) (size n : ℕ) (g : Home) (s : Place) (x : Entry) → opened_by len v p k ≡ Ok (opened.Entry n g s x)
    → Fits len v n × (read len v p k pos buffer size ≡ entry_read v x pos buffer size) × (is_folder x.kind ≡ false → Readable n v x)
unfolding read
read_entry len v p k pos buffer size n g s x e = go (opened_by len v p k) refl e (seen len v p k)
  where
    go : (o : Result Opened Refusal) → opened_by len v p k ≡ o → o ≡ Ok (opened.Entry n g s x) → Seen len v p k o
        → Fits len v n × (read len v p k pos buffer size ≡ entry_read v x pos buffer size) × (is_folder x.kind ≡ false → Readable n v x)
    go o q z (refused r y) = let w : ◌≡◌ {A = ℕ} 0 1 = cc in absurd (omega arith)
    go o q z (on_volume d f t) = let w : ◌≡◌ {A = ℕ} 0 1 = cc in absurd (omega arith)
    go o q z (on_entry d y f t off) =
        let m : entry_of v (at y) ≡ x = cc in
        let c : total len ≡ n = cc in
        let w = target_named (total len) v p k d y f.sane t in
        let number : read_number len v p k pos size (target v p k) ≡ first (rows_at v pos size (spot (target v p k))) = read_number_law len v p k pos size ∙ ap (λ o. opened_or o (first (rows_at v pos size (spot (target v p k))))) q in
        let spotted : spot (target v p k) ≡ y = unfold spot in ap spot t in
        let whole : read len v p k pos buffer size ≡ entry_read v (entry_of v (at y)) pos buffer size =
        ap (λ j. settle j (filled 0 buffer) v (filled_from v (spot (target v p k)) pos buffer size) v) number
        ∙ ap (λ j. settle (first (rows_at v pos size j)) (filled 0 buffer) v (filled_from v j pos buffer size) v) spotted
        ∙ outcome_is (total len) v d y f.sane w off pos buffer size in
        rw (← m, ← c) (f, whole, readable (total len) v d y f.sane w off)
