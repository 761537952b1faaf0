-- Set EOF keeps soundness and every other file as it was; the bytes below both ends are as before, those above the old end read as zero.
use Prim.Native.Nat.{ℕ, ◌-◌, ◌≤◌, ◌<◌, ◌/◌}
use mathlib.Core.Path.{◌≡◌, refl, ◌∙◌}
use mathlib.Core.Bool.{Bool, true, false}
use lib.Dec.{ltb}
use native.Mathlib.Omega.{arith}
use borrow.Author.Tests.{ltb-true, ltb-false}
use Rattle.model.specs.Bytes.{Bytes, Octets}
use Rattle.model.specs.Map.{room}
use Rattle.model.specs.Directory.{sort, map_place, map_block, key, eof}
use Rattle.model.specs.File.{eof_most, span, height_for, height, above, file_byte, content}
use Rattle.model.specs.Write.{noted, grown, grown_key}
use Rattle.model.specs.SetEof.{sunk, sunk_key, pruned, shrunk_key, shrunk, eof_set, set_eof_number, set_eof}
use Rattle.model.specs.Calls.{total, spot, target, nothing}
use Rattle.model.specs.Refusals.{settle}
use Rattle.model.specs.Sound.{sound}
use Rattle.model.specs.declared.Stamp.{Stamp}
use Rattle.model.proofs.Laws.Sound.{facts_sound}
use Rattle.model.proofs.Laws.One.{Others}
use Rattle.model.proofs.Laws.Weigh.{weigh, tardy}
use Rattle.model.proofs.Laws.Move.{Move, move_fit, move_then}
use Rattle.model.proofs.Laws.Room.{first_zero}
use Rattle.model.proofs.Laws.Entry.{Ready, fit, was_tall, Done, called_done, called_byte}
use Rattle.model.proofs.Laws.Grown.{height_le, height_path, span_some, span_in, grow}
use Rattle.model.proofs.Laws.Give.{sunk_move}
use Rattle.model.proofs.Laws.Prune.{Pruned, prune, prune_move, prune_late, prune_byte, sunk_byte}
use Rattle.model.proofs.Laws.Lookup.{rows_off}
use Rattle.model.proofs.Laws.Settled.{settled, done_image, others_self}
use Rattle.model.proofs.Laws.Opened.{Opened, opened}

-- What set EOF to e does to the file a.
pub record Reset (n : ℕ) (v : Bytes) (a : ℕ) (w : Bytes) (e : ℕ) : Type 0 where
  pub done : Done n v a w e
  pub below : (i : ℕ) → i < eof v a → i < e → content w a i ≡ content v a i
  pub past : (i : ℕ) → eof v a ≤ i → i < e → content w a i ≡ 0

module _ {n : ℕ} {v : Bytes} {a d h : ℕ} (R : Ready n v a d h) (e : ℕ) (t : Stamp) (small : e < 16777216) where
  path : (i : ℕ) → i < e → 0 ≡ above (height_for e) (i / 512)
  path i l = height_path e (i / 512) small (span_in e i l)

  -- a move of the tree, and its bytes
  reset : {w : Bytes} {k : ℕ} → Move n v h 0 (key v a) w (height_for e) 0 k → weigh (tardy (span e)) w (height_for e) 0 k ≡ 0
      → ((i : ℕ) → i < eof v a → i < e → file_byte w (height_for e) k i ≡ file_byte v h (key v a) i)
      → ((i : ℕ) → eof v a ≤ i → i < e → file_byte w (height_for e) k i ≡ 0)
      → Reset n v a (noted w a (height_for e) k e t) e
  reset T ends low high =
      record {
        done = called_done R T e t small refl ends;
        below = λ i l m. called_byte R T e t small refl ends i ∙ low i l m ∙ rw R.kind refl;
        past = λ i l m. called_byte R T e t small refl ends i ∙ high i l m;
      }

  longer : eof v a ≤ e → height_for e - h ≤ room map_place v n → Reset n v a (noted (grown map_place n v a e) a (height_for e) (grown_key map_place n v a e) e t) e
  longer l enough =
      let G = grow R e l small enough in
      reset G.move G.ends (λ i m _. G.below i m) G.past

  shorter : e ≤ eof v a → Reset n v a (noted (shrunk map_place v a e) a (height_for e) (shrunk_key map_place v a e) e t) e
  unfolding shrunk shrunk_key
  shorter l =
      let low : height_for e ≤ h = rw (was_tall R) (height_le e (eof v a) l) in
      let f = sunk map_place v (height_for e) (key v a) (h - height_for e) in
      let k = sunk_key map_place v (height_for e) (key v a) (h - height_for e) in
      let A : Move n v h 0 (key v a) f (height_for e) 0 k = sunk_move n (h - height_for e) h (height_for e) (key v a) v (omega arith) (fit R) in
      let B : Pruned n (span e) f (height_for e) 0 k (pruned map_place (span e) f (height_for e) 0 k) =
      prune n (span e) (height_for e) 0 k f (move_fit (fit R) A) (rw (first_zero (height_for e)) (span_some e)) in
      rw R.kind
      (reset (move_then A (prune_move B)) (prune_late B)
      (λ i m o.
      prune_byte B i (path i o) (span_in e i o)
      ∙ sunk_byte n (h - height_for e) h (height_for e) (key v a) i v (omega arith) (fit R) (path i o))
      (λ i m o. absurd (omega arith)))

  pub end_set_law : height_for e - h ≤ room map_place v n → Reset n v a (eof_set map_place n v a e t) e
  unfolding eof_set
  end_set_law enough = go (ltb (eof v a) e) refl
    where
      go : (b : Bool) → ltb (eof v a) e ≡ b
          → Reset n v a
          (elim b [
            | true ↦ noted (grown map_place n v a e) a (height_for e) (grown_key map_place n v a e) e t
            | false ↦ noted (shrunk map_place v a e) a (height_for e) (shrunk_key map_place v a e) e t
          ]) e
      go true s = let l = ltb-true (eof v a) e s in longer (omega arith) enough
      go false s = shorter (ltb-false (eof v a) e s)

-- The call.
module _ (len : ℕ) (v p : Bytes) (k e : ℕ) (t : Stamp) (octets : Octets v) where
  abbrev pub after : Bytes
  after = (set_eof len v p k e t).image

  abbrev a : ℕ
  a = spot (target v p k)

  new_done : set_eof_number len v p k e (target v p k) ≡ 0 → Reset (total len) v a (eof_set (map_block v) (total len) v a e t) e
  unfolding set_eof_number
  new_done z =
      let r = rows_off _ z refl in
      let R = (opened len v p k octets (r 0) (r 1) (r 2) (r 3) (r 4) (r 5) (r 6)).ready in
      let most = ltb-false eof_most e (r 8) in
      rw R.sound.place
      (end_set_law R e t (omega arith)
      (rw (R.sound.place, R.kind) at (ltb-false (room (map_block v) v (total len)) (height_for e - height (sort v a)) (r 9))))

  pub set_eof_opened : (set_eof len v p k e t).number ≡ 0 → Opened len v p k
  unfolding set_eof settle set_eof_number
  set_eof_opened z = let r = rows_off _ z refl in opened len v p k octets (r 0) (r 1) (r 2) (r 3) (r 4) (r 5) (r 6)

  pub set_eof_done : (set_eof len v p k e t).number ≡ 0 → Reset (total len) v a after e
  unfolding set_eof settle
  set_eof_done z = rw (done_image _ nothing v nothing _ z) (new_done z)

  pub set_eof_sound : sound (total len) v ≡ true → sound (total len) after ≡ true
  unfolding set_eof
  set_eof_sound S = settled _ _ v _ _ (λ w. sound (total len) w ≡ true) S (λ z. facts_sound (new_done z).done.sound)

  pub set_eof_others : Others v after a
  unfolding set_eof
  set_eof_others = settled _ _ v _ _ (λ w. Others v w a) (others_self v a) (λ z. (new_done z).done.others)

  pub set_eof_octets : Octets after
  unfolding set_eof
  set_eof_octets = settled _ _ v _ _ Octets octets (λ z. (new_done z).done.octets)
