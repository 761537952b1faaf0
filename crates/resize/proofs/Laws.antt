-- A file whose EOF changes: its tree moves, and the entry that is written is the one of the definition. Assumes nothing.
use Prim.Native.Nat.{ℕ, ◌+◌, ◌-◌, ◌≤◌, ◌<◌}
use mathlib.Core.Path.{◌≡◌, refl, sym, ap, ◌∙◌}
use mathlib.Core.Bool.{Bool, true, false}
use lib.Dec.{ltb}
use native.Mathlib.Omega.{arith}
use borrow.Author.Tests.{lt-ltb, le-ltb, ltb-true, ltb-false}
use Rattle.model.specs.Bytes.{Bytes}
use Rattle.model.specs.Map.{room}
use Rattle.model.specs.Kinds.{key_of}
use Rattle.model.specs.Directory.{at, map_place, sort, key, eof}
use Rattle.model.specs.File.{height_for, height, span}
use Rattle.model.specs.Write.{noted, grown, grown_key}
use Rattle.model.specs.SetEof.{sunk, sunk_key, pruned, shrunk, shrunk_key, eof_set}
use Rattle.model.specs.declared.Entry.{Entry}
use Rattle.model.specs.declared.Stamp.{Stamp}
use Rattle.model.proofs.Laws.Move.{Move, move_fit, move_then}
use Rattle.model.proofs.Laws.Room.{first_zero}
use Rattle.model.proofs.Laws.Entry.{Ready, fit, was_tall, was_used}
use Rattle.model.proofs.Laws.Grown.{height_le, span_some, grow}
use Rattle.model.proofs.Laws.Give.{sunk_move}
use Rattle.model.proofs.Laws.Prune.{prune, prune_move}
use Rattle.growth.specs.Growth.{grown_from, grown_key_from, noted_as}
use Rattle.growth.proofs.Laws.{grown_at, grown_key_at, room_after, noted_after}
use Rattle.opening.specs.Sorts.{height_of}
use Rattle.held.specs.Held.{Held}
use Rattle.resize.specs.Ends.{resized, resized_key}

-- The two ways.
module _ (n : ℕ) (v : Bytes) (h k o e : ℕ) where
  module _ (l : o < e) where
    pub resized_more : resized n v h k o e ≡ grown_from map_place n v h k o e
    unfolding resized
    resized_more = rw (lt-ltb o e l, resized) refl

    pub key_more : resized_key n v h k o e ≡ grown_key_from map_place n v h k o e
    unfolding resized_key
    key_more = rw (lt-ltb o e l, resized_key) refl

  module _ (l : e ≤ o) where
    resized_less : resized n v h k o e
        ≡ pruned map_place (span e) (sunk map_place v (height_for e) k (h - height_for e)) (height_for e) 0 (sunk_key map_place v (height_for e) k (h - height_for e))
    unfolding resized
    resized_less = rw (le-ltb o e l, resized) refl

    key_less : resized_key n v h k o e ≡ sunk_key map_place v (height_for e) k (h - height_for e)
    unfolding resized_key
    key_less = rw (le-ltb o e l, resized_key) refl

    pub resized_by : (g b : ℕ) → g ≡ height_for e → b ≡ span e
        → pruned map_place b (sunk map_place v g k (h - g)) g 0 (sunk_key map_place v g k (h - g)) ≡ resized n v h k o e
    resized_by g b p q = rw (p, q) (sym resized_less)

    pub key_by : (g : ℕ) → g ≡ height_for e → sunk_key map_place v g k (h - g) ≡ resized_key n v h k o e
    key_by g p = rw p (sym key_less)

-- by the entry at s
eof_set_at : (n : ℕ) (v : Bytes) (s e : ℕ) (t : Stamp)
    → noted (resized n v (height (sort v s)) (key v s) (eof v s) e) s (height_for e) (resized_key n v (height (sort v s)) (key v s) (eof v s) e) e t
    ≡ eof_set map_place n v s e t
unfolding eof_set resized resized_key grown_from grown_key_from grown grown_key shrunk shrunk_key
eof_set_at n v s e t = go (ltb (eof v s) e)
  where
    h : ℕ
    h = height (sort v s)

    k : ℕ
    k = key v s

    go : (b : Bool)
        → noted
        (elim b as (λ _. Bytes) [
          | true ↦ grown_from map_place n v h k (eof v s) e
          | false ↦
              pruned map_place (span e) (sunk map_place v (height_for e) k (h - height_for e)) (height_for e) 0
              (sunk_key map_place v (height_for e) k (h - height_for e))
        ]) s (height_for e)
        (elim b as (λ _. ℕ) [ true ↦ grown_key_from map_place n v h k (eof v s) e | false ↦ sunk_key map_place v (height_for e) k (h - height_for e) ]) e t
        ≡ elim b as (λ _. Bytes) [
          | true ↦ noted (grown map_place n v s e) s (height_for e) (grown_key map_place n v s e) e t
          | false ↦ noted (shrunk map_place v s e) s (height_for e) (shrunk_key map_place v s e) e t
        ]
    go true = refl
    go false = refl

-- the tree moves
module _ {n : ℕ} {v : Bytes} {a d h : ℕ} (R : Ready n v a d h) (e : ℕ) (small : e < 16777216) (enough : height_for e - h ≤ room map_place v n) where
  resized_move : Move n v h 0 (key v a) (resized n v h (key v a) (eof v a) e) (height_for e) 0 (resized_key n v h (key v a) (eof v a) e)
  resized_move = go (ltb (eof v a) e) refl
    where
      tall : height (sort v a) ≡ h
      tall = ap height R.kind

      more : eof v a < e → Move n v h 0 (key v a) (resized n v h (key v a) (eof v a) e) (height_for e) 0 (resized_key n v h (key v a) (eof v a) e)
      more l =
          let G = grow R e (omega arith) small enough in
          rw (resized_more n v h (key v a) (eof v a) e l, key_more n v h (key v a) (eof v a) e l, ← tall, grown_at, grown_key_at) (rw (← tall) at G.move)

      less : e ≤ eof v a → Move n v h 0 (key v a) (resized n v h (key v a) (eof v a) e) (height_for e) 0 (resized_key n v h (key v a) (eof v a) e)
      less l =
          let low : height_for e ≤ h = rw (was_tall R) (height_le e (eof v a) l) in
          let A = sunk_move n (h - height_for e) h (height_for e) (key v a) v (omega arith) (fit R) in
          rw (resized_less n v h (key v a) (eof v a) e l, key_less n v h (key v a) (eof v a) e l)
          (move_then A
          (prune_move (prune n (span e) (height_for e) 0 _ _ (move_fit (fit R) A) (rw (first_zero (height_for e)) (span_some e)))))

      go : (b : Bool) → ltb (eof v a) e ≡ b
          → Move n v h 0 (key v a) (resized n v h (key v a) (eof v a) e) (height_for e) 0 (resized_key n v h (key v a) (eof v a) e)
      go true s = more (ltb-true (eof v a) e s)
      go false s = less (ltb-false (eof v a) e s)

-- The work of set EOF by the decoded entry x.
module _ {n : ℕ} {v : Bytes} {s : ℕ} {x : Entry} (H : Held n v s x) where
  -- g and k are its height and key; w and l what is left of image and key
  module _ (e : ℕ) (small : e < 16777216) (free : ℕ) (counted : free ≡ room map_place v n) (enough : height_for e - height_of x.kind ≤ free) (g k : ℕ)
      (tall : g ≡ height_of x.kind) (first : k ≡ key_of x.kind) (w : Bytes) (l : ℕ) (image : w ≡ resized n v g k x.eof e)
      (last : l ≡ resized_key n v g k x.eof e) where
    abbrev h : ℕ
    h = height_of x.kind

    image_at : w ≡ resized n v h (key v s) (eof v s) e
    image_at = image ∙ rw (tall, first, H.keyed, H.ends) refl

    last_at : l ≡ resized_key n v h (key v s) (eof v s) e
    last_at = last ∙ rw (tall, first, H.keyed, H.ends) refl

    moved : Move n v h 0 (key v s) w (height_for e) 0 l
    moved = rw (image_at, last_at) (resized_move H.ready e small (omega arith))

    pub room_left : room map_place w n ≤ x.used + free
    room_left = rw counted (room_after (fit H.ready) moved x.used (H.uses ∙ was_used H.ready))

    pub end_noted : (a y : ℕ) (t : Stamp) → a ≡ at s → y ≡ height_for e
        → noted_as w a y l (x.used + free - room map_place w n) e t ≡ eof_set map_place n v s e t
    end_noted a y t p q =
        let sorted : height (sort v s) ≡ h = ap height H.ready.kind in
        let set : noted w s (height_for e) l e t ≡ eof_set map_place n v s e t = rw (image_at, last_at, ← sorted) (eof_set_at n v s e t) in
        rw (p, q, counted) (noted_after (fit H.ready) moved x.used (H.uses ∙ was_used H.ready) s e t ∙ set)
