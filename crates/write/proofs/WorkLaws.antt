-- The work of write: each step finds what it needs, and together they are the definition. Assumes nothing.
use Prim.Native.Nat.{ℕ, ◌+◌, ◌-◌, ◌≤◌, ◌<◌, ◌/◌, max}
use mathlib.Core.Path.{◌≡◌, ap, ◌∙◌}
use native.Mathlib.Omega.{arith}
use native.Mathlib.Nat.{add-zero, zero-add}
use Rattle.model.specs.Bytes.{Bytes, Octets}
use Rattle.model.specs.Map.{room}
use Rattle.model.specs.Directory.{at, map_place, sort, key, used, eof}
use Rattle.model.specs.File.{height_for, height, span, above}
use Rattle.model.specs.Grow.{need}
use Rattle.model.specs.Write.{grown, grown_key, poured, touched, written}
use Rattle.model.specs.declared.Stamp.{Stamp}
use Rattle.model.proofs.Laws.Move.{Fit, Move, move_then}
use Rattle.model.proofs.Laws.Need.{lacks, need_keys}
use Rattle.model.proofs.Laws.Pour.{pour}
use Rattle.model.proofs.Laws.Entry.{Ready, fit, was_used, eof_most_law, height_most}
use Rattle.model.proofs.Laws.Grown.{height_le, height_path, span_most, span_in, grow}
use Rattle.model.proofs.Laws.Written.{wrote_way}
use Rattle.growth.specs.Growth.{grown_from, grown_key_from, noted_as}
use Rattle.growth.proofs.Laws.{grown_at, grown_key_at, room_after, noted_after}
use Rattle.pour.specs.Pouring.{Pourable}
use Rattle.model.specs.Kinds.{key_of}
use Rattle.model.specs.declared.Entry.{Entry}
use Rattle.opening.specs.Sorts.{height_of}
use Rattle.held.specs.Held.{Held}
use Rattle.write.specs.Writing.{entry_need}

-- the new height is no lower, and the new keys are among the need
pub goal_tall : (o e h pos size : ℕ) → h ≡ height_for o → e ≡ max o (pos + size) → h ≤ height_for e
goal_tall o e h pos size tall ee = rw tall (height_le o e (omega arith))

pub keys_enough : (n : ℕ) (v : Bytes) (h k e pos size : ℕ) → need v h k (height_for e) (pos / 512) (touched pos size) ≤ room map_place v n
    → height_for e - h ≤ room map_place v n
keys_enough n v h k e pos size l = omega (arith, l, need_keys v h k (height_for e) (pos / 512) (touched pos size))

-- by the entry at s
module _ (n : ℕ) (v : Bytes) (s h k o e : ℕ) (tall : height (sort v s) ≡ h) (ek : k ≡ key v s) (eo : o ≡ eof v s) where
  grown_as : grown_from map_place n v h k o e ≡ grown map_place n v s e
  grown_as = rw (ek, eo, ← tall) (grown_at map_place n v s e)

  key_as : grown_key_from map_place n v h k o e ≡ grown_key map_place n v s e
  key_as = rw (ek, eo, ← tall) (grown_key_at map_place n v s e)

-- What the steps after growing find: w is the image, and l the key, of a file that has grown to e.
pub record Works (n : ℕ) (v : Bytes) (s e pos : ℕ) (buffer : Bytes) (size : ℕ) (w : Bytes) (l : ℕ) : Type 0 where
  pub pourable : Pourable n w (height_for e) l (pos / 512) (touched pos size)
  pub left : (y : Bytes) → y ≡ poured map_place n w (height_for e) l (pos / 512) (touched pos size) pos buffer size
      → room map_place y n ≤ used v s + room map_place v n
  pub all : (y : Bytes) → y ≡ poured map_place n w (height_for e) l (pos / 512) (touched pos size) pos buffer size → (t : Stamp)
      → noted_as y (at s) (height_for e) l (used v s + room map_place v n - room map_place y n) e t ≡ written map_place n v s pos buffer size t

module _ {n : ℕ} {v : Bytes} {s d h : ℕ} (R : Ready n v s d h) (pos size : ℕ) (buffer : Bytes) (octets : Octets buffer) (some : 1 ≤ size)
    (most : pos + size < 16777216)
    (enough : need v h (key v s) (height_for (max (eof v s) (pos + size))) (pos / 512) (touched pos size) ≤ room map_place v n) where
  abbrev end : ℕ
  end = max (eof v s) (pos + size)

  abbrev image : Bytes
  image = grown map_place n v s end

  abbrev top : ℕ
  top = grown_key map_place n v s end

  small : end < 16777216
  small = omega (arith, eof_most_law R)

  last : pos / 512 + touched pos size ≤ span end
  last = omega (arith, span_in end (pos + size - 1) (omega arith))

  path : (r : ℕ) → r < span end → 0 ≡ above (height_for end) r
  path r m = height_path end r small m

  ways : Stamp → Fit n image (height_for end) 0 top × (lacks image (height_for end) top (pos / 512) (touched pos size) ≤ room map_place image n)
  unfolding poured
  ways t = rw add-zero at (wrote_way R pos size buffer octets t some most enough 0 (touched pos size) (zero-add (touched pos size)))

  grown_pourable : Stamp → Pourable n image (height_for end) top (pos / 512) (touched pos size)
  grown_pourable t =
      record {
        low = height_most end;
        few = omega (arith, last, span_most end small);
        fit = (ways t).0;
        path = λ r m. path r (omega (arith, last));
        enough = (ways t).1;
      }

  moved : Stamp → Move n v h 0 (key v s) (poured map_place n image (height_for end) top (pos / 512) (touched pos size) pos buffer size) (height_for end) 0 top
  moved t =
      move_then (grow R end (omega arith) small (keys_enough n v h (key v s) end pos size enough)).move
      (pour n (span end) (height_for end) top pos size buffer octets (height_most end) (span_most end small) path
      (pos / 512) (touched pos size) image last (ways t).0 (ways t).1).move

  work : Stamp → Works n v s end pos buffer size image top
  unfolding written
  work t =
      record {
        pourable = grown_pourable t;
        left = λ y ey. rw ey (room_after (fit R) (moved t) (used v s) (was_used R));
        all = λ y ey t. rw ey (noted_after (fit R) (moved t) (used v s) (was_used R) s end t);
      }

pub works : {n : ℕ} {v : Bytes} {s d h : ℕ} → Ready n v s d h → (k o e pos size : ℕ) (buffer : Bytes) → Octets buffer → 1 ≤ size → pos + size < 16777216
    → k ≡ key v s → o ≡ eof v s → e ≡ max o (pos + size) → need v h k (height_for e) (pos / 512) (touched pos size) ≤ room map_place v n → Stamp
    → (w : Bytes) (l : ℕ) → w ≡ grown_from map_place n v h k o e → l ≡ grown_key_from map_place n v h k o e
    → Works n v s e pos buffer size w l
works {n} {v} {s} {d} {h} R k o e pos size buffer octets some most ek eo ee enough t w l ew el =
    let ends : e ≡ max (eof v s) (pos + size) = ee ∙ ap (λ y. max y (pos + size)) eo in
    let tall : height (sort v s) ≡ h = ap height R.kind in
    rw (ew, el, grown_as n v s h k o e tall ek eo, key_as n v s h k o e tall ek eo, ends)
    (work R pos size buffer octets some most (rw (ek, ends) at enough) t)

-- the same by the decoded entry
pub held_works : {n : ℕ} {v : Bytes} {s : ℕ} {x : Entry} (H : Held n v s x) (h k e pos size free : ℕ) (buffer : Bytes) → Octets buffer → 1 ≤ size → pos + size < 16777216
    → h ≡ height_of x.kind → k ≡ key_of x.kind → e ≡ max x.eof (pos + size) → free ≡ room map_place v n → entry_need v x pos size ≤ free → Stamp
    → (w : Bytes) (l : ℕ) → w ≡ grown_from map_place n v h k x.eof e → l ≡ grown_key_from map_place n v h k x.eof e
    → Works n v s e pos buffer size w l
held_works {n} {v} {s} {x} H h k e pos size free buffer octets some most eh ek ee fr enough t w l ew el =
    let R : Ready n v s H.home h = rw eh H.ready in
    let short : need v h k (height_for e) (pos / 512) (touched pos size) ≤ room map_place v n = rw (eh, ek, ee, ← fr) enough in
    works R k x.eof e pos size buffer octets some most (ek ∙ H.keyed) H.ends ee short t w l ew el
