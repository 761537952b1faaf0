-- Write and set EOF: every path leads where it led, and the blocks of the file and the free ones stay as many together. Growth by set EOF takes just the
-- new keys.
use Prim.Native.Nat.{ℕ, ◌+◌, ◌-◌, ◌≤◌, ◌<◌}
use mathlib.Core.Path.{◌≡◌, refl, sym, ◌∙◌}
use mathlib.Core.Bool.{Bool, true, false}
use lib.Dec.{leb, ltb}
use lib.ListN.{length}
use native.Mathlib.Omega.{arith}
use borrow.Author.Tests.{ltb-true, ltb-false}
use Rattle.model.specs.Bytes.{Bytes, Octets, one_if}
use Rattle.model.specs.Map.{room}
use Rattle.model.specs.Directory.{sort, map_place, map_block, key, used, eof}
use Rattle.model.specs.File.{eof_most, span, first_below, height_for, height, blocks}
use Rattle.model.specs.Write.{noted, grown, grown_key, write}
use Rattle.model.specs.SetEof.{sunk, sunk_key, pruned, shrunk_key, shrunk, eof_set, set_eof_number, set_eof}
use Rattle.model.specs.Calls.{total, spot, target, nothing}
use Rattle.model.specs.Refusals.{settle}
use Rattle.model.specs.declared.Stamp.{Stamp}
use Rattle.model.proofs.Laws.Facts.{seen_file, seen_proper}
use Rattle.model.proofs.Laws.Weigh.{Gauge, weigh, each, tardy, size, weigh_le, weigh_add}
use Rattle.model.proofs.Laws.Move.{Move, move_fit, move_then}
use Rattle.model.proofs.Laws.Room.{first_zero, move_room}
use Rattle.model.proofs.Laws.Data.{when}
use Rattle.model.proofs.Laws.Entry.{Ready, fit, was_tall, was_used, was_late, Done, called_used, called_room}
use Rattle.model.proofs.Laws.Grown.{height_le, span_some, grow}
use Rattle.model.proofs.Laws.Give.{sunk_move}
use Rattle.model.proofs.Laws.Prune.{early, Pruned, prune, prune_move, prune_late}
use Rattle.model.proofs.Laws.Lookup.{rows_off, entry_led, target_led}
use Rattle.model.proofs.Laws.Paths.{target_same}
use Rattle.model.proofs.Laws.Settled.{done_image}
use Rattle.model.proofs.Laws.Opened.{Opened, file_is}
use Rattle.model.proofs.Laws.Written.{write_opened, write_done}
use Rattle.model.proofs.Laws.Reset.{set_eof_opened, set_eof_done}

-- After a call on one file its blocks used are its blocks.
module _ {len : ℕ} {v p : Bytes} {k : ℕ} (O : Opened len v p k) where
  abbrev a : ℕ
  a = spot (target v p k)

  pub used_before : used v a ≡ length (blocks v a)
  used_before = let R = O.ready in (seen_file R.sound a O.tall R.spot.seen R.kind).counted

  pub used_after : {w : Bytes} {e : ℕ} → Done (total len) v a w e → used w a ≡ length (blocks w a)
  used_after {w} {e} D =
      let S = D.sound in
      let same = target_same O.ready.sound D.names p k in
      let E = entry_led S (target_led S p k) (rw same O.known) (rw same O.way) (rw same O.found) (rw same O.ready.spot.proper) in
      let seen = rw same at E.spot.seen in
      let h = file_is (sort w a) (rw same at E.alive) D.plain (seen_proper S a seen) in
      (seen_file S a h.0 seen h.1).counted

-- the file a of height h, as its entry counts its blocks
record Balance (n : ℕ) (v : Bytes) (a h : ℕ) (w : Bytes) (e : ℕ) : Type 0 where
  level : room map_place w n + used w a ≡ room map_place v n + used v a
  keys : eof v a ≤ e → room map_place w n + (height_for e - h) ≡ room map_place v n

-- where nothing is late, nothing is cut off
timely_size : (s : ℕ) (v : Bytes) (h k : ℕ) → weigh (tardy s) v h 0 k ≡ 0 → weigh (early s (each (λ _. 1))) v h 0 k ≡ size v h 0 k
timely_size s v h k z =
    let cut : Gauge = early s (each (λ _. 1)) in
    omega (
      arith,
      weigh_le (each (λ _. 1)) (λ l r b. cut l r b + tardy s l r b) v h 0 k (λ l r b _. one (leb s (first_below l r))),
      weigh_le cut (each (λ _. 1)) v h 0 k (λ l r b _. most (leb s (first_below l r))),
      weigh_add cut (tardy s) v h 0 k,
    )
  where
    one : (b : Bool) → 1 ≤ when b 0 1 + one_if b
    one true = omega arith
    one false = omega arith

    most : (b : Bool) → when b 0 1 ≤ 1
    most true = omega arith
    most false = omega arith

module _ {n : ℕ} {v : Bytes} {a d h : ℕ} (R : Ready n v a d h) (e : ℕ) (t : Stamp) (small : e < 16777216) where
  balance : {w : Bytes} {k : ℕ} → Move n v h 0 (key v a) w (height_for e) 0 k → weigh (tardy (span e)) w (height_for e) 0 k ≡ 0
      → (eof v a ≤ e → size w (height_for e) 0 k ≡ size v h 0 (key v a) + (height_for e - h))
      → Balance n v a h (noted w a (height_for e) k e t) e
  balance T ends more =
      let r = called_room R T e t small refl ends in
      let u = called_used R T e t small refl ends in
      let m = move_room (fit R) T in
      record { level = omega (arith, r, u, m, was_used R); keys = λ l. omega (arith, r, m, more l) }

  longer : eof v a ≤ e → height_for e - h ≤ room map_place v n
      → Balance n v a h (noted (grown map_place n v a e) a (height_for e) (grown_key map_place n v a e) e t) e
  longer l enough = let G = grow R e l small enough in balance G.move G.ends (λ _. G.more)

  -- EOF stays: no key gives way, and no file block is late
  same_size : e ≡ eof v a
      → weigh (early (span e) (each (λ _. 1))) (sunk map_place v (height_for e) (key v a) (h - height_for e)) (height_for e) 0
      (sunk_key map_place v (height_for e) (key v a) (h - height_for e))
      ≡ size v h 0 (key v a) + (height_for e - h)
  unfolding sunk sunk_key
  same_size i =
      let t : height_for e ≡ h = rw i (sym (was_tall R)) in
      let z : h - height_for e ≡ 0 = omega arith in
      rw (z, t) (omega (arith, timely_size (span e) v h (key v a) (rw i (was_late R))))

  shorter : e ≤ eof v a → Balance n v a h (noted (shrunk map_place v a e) a (height_for e) (shrunk_key map_place v a e) e t) e
  unfolding shrunk shrunk_key
  shorter l =
      let low : height_for e ≤ h = rw (was_tall R) (height_le e (eof v a) l) in
      let f = sunk map_place v (height_for e) (key v a) (h - height_for e) in
      let k = sunk_key map_place v (height_for e) (key v a) (h - height_for e) in
      let A : Move n v h 0 (key v a) f (height_for e) 0 k = sunk_move n (h - height_for e) h (height_for e) (key v a) v (omega arith) (fit R) in
      let B : Pruned n (span e) f (height_for e) 0 k (pruned map_place (span e) f (height_for e) 0 k) =
      prune n (span e) (height_for e) 0 k f (move_fit (fit R) A) (rw (first_zero (height_for e)) (span_some e)) in
      rw R.kind (balance (move_then A (prune_move B)) (prune_late B) (λ m. B.stays (each (λ _. 1)) ∙ same_size (omega arith)))

  set_balance : height_for e - h ≤ room map_place v n → Balance n v a h (eof_set map_place n v a e t) e
  unfolding eof_set
  set_balance enough = go (ltb (eof v a) e) refl
    where
      go : (b : Bool) → ltb (eof v a) e ≡ b
          → Balance n v a h
          (elim b [
            | true ↦ noted (grown map_place n v a e) a (height_for e) (grown_key map_place n v a e) e t
            | false ↦ noted (shrunk map_place v a e) a (height_for e) (shrunk_key map_place v a e) e t
          ]) e
      go true s = let l = ltb-true (eof v a) e s in longer (omega arith) enough
      go false s = shorter (ltb-false (eof v a) e s)

-- What an accepted write keeps, beside what `write_done` says of it.
pub record Level (n : ℕ) (v : Bytes) (a : ℕ) (w : Bytes) : Type 0 where
  pub paths : (q : Bytes) (i : ℕ) → target w q i ≡ target v q i
  pub level : room map_place w n + length (blocks w a) ≡ room map_place v n + length (blocks v a)

pub write_level : (len : ℕ) (v p : Bytes) (k pos : ℕ) (buffer : Bytes) (size : ℕ) (t : Stamp) → Octets v → Octets buffer
    → (write len v p k pos buffer size t).number ≡ 0 → Level (total len) v (spot (target v p k)) (write len v p k pos buffer size t).image
write_level len v p k pos buffer size t octets lent z =
    let O = write_opened len v p k pos buffer size t octets lent z in
    let W = write_done len v p k pos buffer size t octets lent z in
    record {
      paths = λ q i. target_same O.ready.sound W.done.names q i;
      level = omega (arith, W.takes, W.spends, used_before O, used_after O W.done);
    }

-- What an accepted set EOF to e does to the volume v of n blocks.
pub record Resized (n : ℕ) (v : Bytes) (a : ℕ) (w : Bytes) (e : ℕ) : Type 0 where
  pub paths : (q : Bytes) (i : ℕ) → target w q i ≡ target v q i
  pub level : room map_place w n + length (blocks w a) ≡ room map_place v n + length (blocks v a)
  pub takes : eof v a ≤ e → used w a ≡ used v a + (height_for e - height (sort v a))
  pub spends : eof v a ≤ e → room map_place w n + (height_for e - height (sort v a)) ≡ room map_place v n

module _ (len : ℕ) (v p : Bytes) (k e : ℕ) (t : Stamp) (octets : Octets v) where
  call_balance : set_eof_number len v p k e (target v p k) ≡ 0 → (O : Opened len v p k)
      → Balance (total len) v (spot (target v p k)) O.tall (eof_set (map_block v) (total len) v (spot (target v p k)) e t) e
  unfolding set_eof_number
  call_balance z O =
      let r = rows_off _ z refl in
      let R = O.ready in
      let most = ltb-false eof_most e (r 8) in
      rw R.sound.place
      (set_balance R e t (omega arith)
      (rw (R.sound.place, R.kind) at (ltb-false (room (map_block v) v (total len)) (height_for e - height (sort v (spot (target v p k)))) (r 9))))

  pub set_eof_gives : (set_eof len v p k e t).number ≡ 0 → Resized (total len) v (spot (target v p k)) (set_eof len v p k e t).image e
  set_eof_gives z =
      let O = set_eof_opened len v p k e t octets z in
      let D = (set_eof_done len v p k e t octets z).done in
      let B : Balance (total len) v (spot (target v p k)) O.tall (set_eof len v p k e t).image e =
      unfold set_eof settle in (rw (done_image _ nothing v nothing _ z) (call_balance z O)) in
      record {
        paths = λ q i. target_same O.ready.sound D.names q i;
        level = omega (arith, B.level, used_before O, used_after O D);
        takes = λ l. rw O.ready.kind (omega (arith, B.level, B.keys l));
        spends = λ l. rw O.ready.kind (B.keys l);
      }
