-- Write keeps soundness and every other file as it was; the bytes read after it are the bytes written, all others are as before.
use Prim.Native.Nat.{ℕ, ◌+◌, ◌-◌, ◌≤◌, ◌<◌, ◌/◌, max}
use mathlib.Core.Path.{◌≡◌, refl, sym, ◌∙◌}
use mathlib.Core.Bool.{Bool, true, false, false≢true}
use lib.Dec.{eqb}
use native.Mathlib.Omega.{arith}
use borrow.Author.Tests.{eqb-true, eqb-false, ltb-false}
use Rattle.model.specs.Bytes.{Bytes, Octets, ◌or◌}
use Rattle.model.specs.Map.{room}
use Rattle.model.specs.Directory.{used, map_place, map_block, key, eof}
use Rattle.model.specs.File.{eof_most, span, height_for, above, content}
use Rattle.model.specs.Grow.{need}
use Rattle.model.specs.Write.{grown, grown_key, poured, touched, written, write_need, write_number, write}
use Rattle.model.specs.Calls.{total, home, spot, target}
use Rattle.model.specs.Sound.{sound}
use Rattle.model.specs.declared.Stamp.{Stamp}
use Rattle.model.specs.Refusals.{settle}
use Rattle.model.proofs.Laws.Sound.{facts_sound}
use Rattle.model.proofs.Laws.One.{Others}
use Rattle.model.proofs.Laws.Weigh.{has_key, size as type_size}
use Rattle.model.proofs.Laws.Move.{Fit, move_fit, move_then, fit_some}
use Rattle.model.proofs.Laws.Room.{move_room}
use Rattle.model.proofs.Laws.Need.{lacks, lacks_none, need_keys, need_lacks}
use Rattle.model.proofs.Laws.Pour.{Poured, pour, on_way}
use Rattle.model.proofs.Laws.Entry.{Ready, fit, was_tall, height_most, eof_most_law, was_used, Done, called_done, called_used, called_room, called_byte}
use Rattle.model.proofs.Laws.Grown.{height_path, span_most, span_in, Grown, grow}
use Rattle.model.proofs.Laws.Lookup.{rows_off}
use Rattle.model.proofs.Laws.Settled.{settled, done_image, others_self}
use Rattle.model.proofs.Laws.Paths.{names_self}
use Rattle.model.proofs.Laws.Opened.{Opened, opened}

-- What a write of size bytes at pos does to the file a.
pub record Wrote (n : ℕ) (v : Bytes) (a : ℕ) (w : Bytes) (pos size : ℕ) (buffer : Bytes) : Type 0 where
  pub done : Done n v a w (max (eof v a) (pos + size))
  -- just as many blocks are taken as the need says
  pub takes : used w a ≡ used v a + write_need v a pos size
  pub spends : room map_place w n + write_need v a pos size ≡ room map_place v n
  pub inside : (i : ℕ) → pos ≤ i → i < pos + size → content w a i ≡ buffer (i - pos)
  pub outside : (i : ℕ) → i < eof v a → (pos ≤ i → i < pos + size → ⊥) → content w a i ≡ content v a i

module _ {n : ℕ} {v : Bytes} {a d h : ℕ} (R : Ready n v a d h) (pos size : ℕ) (buffer : Bytes) (octets : Octets buffer) (t : Stamp)
    (some : 1 ≤ size) (most : pos + size < 16777216)
    (enough : need v h (key v a) (height_for (max (eof v a) (pos + size))) (pos / 512) (touched pos size) ≤ room map_place v n) where
  abbrev end : ℕ
  end = max (eof v a) (pos + size)

  small : end < 16777216
  small = omega (arith, eof_most_law R)

  G : Grown n v h (key v a) (eof v a) (grown map_place n v a end) (height_for end) (grown_key map_place n v a end) end
  G = grow R end (omega arith) small (omega (arith, enough, need_keys v h (key v a) (height_for end) (pos / 512) (touched pos size)))

  path : (r : ℕ) → r < span end → 0 ≡ above (height_for end) r
  path r l = height_path end r small l

  last : pos / 512 + touched pos size ≤ span end
  last = omega (arith, span_in end (pos + size - 1) (omega arith))

  T : Fit n (grown map_place n v a end) (height_for end) 0 (grown_key map_place n v a end)
  T = move_fit (fit R) G.move

  abbrev needed : ℕ
  needed = need v h (key v a) (height_for end) (pos / 512) (touched pos size)

  -- the need was counted before
  counted : (height_for end - h) + lacks (grown map_place n v a end) (height_for end) (grown_key map_place n v a end) (pos / 512) (touched pos size) ≡ needed
  counted =
      need_lacks v h (key v a) (grown map_place n v a end) (height_for end) (grown_key map_place n v a end) (span end) (pos / 512) (touched pos size)
      (rw (was_tall R) (height_most (eof v a))) (fit_some (fit R) (key v a) (has_key v h 0 (key v a))) G.keyed (span_most end small) path last
      (omega arith)

  left : lacks (grown map_place n v a end) (height_for end) (grown_key map_place n v a end) (pos / 512) (touched pos size)
      ≤ room map_place (grown map_place n v a end) n
  left = omega (arith, enough, G.more, move_room (fit R) G.move, counted)

  Q : Poured n (span end) (grown map_place n v a end) (height_for end) (grown_key map_place n v a end)
      (poured map_place n (grown map_place n v a end) (height_for end) (grown_key map_place n v a end) (pos / 512) (touched pos size) pos buffer size)
      (pos / 512) (touched pos size) pos buffer size
  Q =
      pour n (span end) (height_for end) (grown_key map_place n v a end) pos size buffer octets (height_most end) (span_most end small) path
      (pos / 512) (touched pos size) (grown map_place n v a end) last T left

  -- on the way, after j of the file blocks
  pub wrote_way : (j c : ℕ) → j + c ≡ touched pos size
      → let x = poured map_place n (grown map_place n v a end) (height_for end) (grown_key map_place n v a end) (pos / 512) j pos buffer size in
      Fit n x (height_for end) 0 (grown_key map_place n v a end)
      × (lacks x (height_for end) (grown_key map_place n v a end) (pos / 512 + j) c ≤ room map_place x n)
  wrote_way j c e =
      on_way n (span end) (height_for end) (grown_key map_place n v a end) pos size buffer octets (height_most end) (span_most end small) path
      j (pos / 512) c (grown map_place n v a end) (rw e last) T (rw e left)

  final : ℕ
  final = type_size (poured map_place n (grown map_place n v a end) (height_for end) (grown_key map_place n v a end) (pos / 512) (touched pos size) pos buffer size)
      (height_for end) 0 (grown_key map_place n v a end)

  grown_by : final ≡ type_size v h 0 (key v a) + needed
  unfolding final
  grown_by =
      let s : pos / 512 + touched pos size ≡ pos / 512 + touched pos size - 1 + 1 = omega arith in
      omega (
        arith,
        counted,
        G.more,
        rw s at Q.more,
        lacks_none _ (height_for end) (grown_key map_place n v a end) (pos / 512 + touched pos size - 1) (height_most end)
            (omega (arith, span_most end small, last)) (Q.full (pos / 512 + touched pos size - 1) (omega arith) (omega arith)),
      )

  pub wrote : write_need v a pos size ≡ needed → Wrote n v a (written map_place n v a pos buffer size t) pos size buffer
  unfolding written final
  wrote is_need =
      let M = move_then G.move Q.move in
      let ends = Q.timely G.ends in
      record {
        done = called_done R M end t small refl ends;
        takes = omega (arith, is_need, grown_by, was_used R, called_used R M end t small refl ends);
        spends = omega (arith, is_need, grown_by, move_room (fit R) M, called_room R M end t small refl ends);
        inside = λ i l m.
            called_byte R M end t small refl ends i ∙ Q.inside i (omega arith) (omega arith) l m;
        outside = λ i l o.
            called_byte R M end t small refl ends i
            ∙ Q.outside i (span_in end i (omega arith)) (λ _ _. o)
            ∙ G.below i l
            ∙ rw R.kind refl;
      }

no_need : (v : Bytes) (a pos : ℕ) → write_need v a pos 0 ≡ 0
unfolding write_need
no_need v a pos = refl

or_none : (p q : Bool) → (p or q) ≡ false → (p ≡ false) × (q ≡ false)
unfolding ◌or◌
or_none true q e = absurd (false≢true (sym e))
or_none false q e = (refl, e)

-- The call.
module _ (len : ℕ) (v p : Bytes) (k pos : ℕ) (buffer : Bytes) (size : ℕ) (t : Stamp) (octets : Octets v) (lent : Octets buffer) where
  abbrev pub after : Bytes
  after = (write len v p k pos buffer size t).image

  abbrev a : ℕ
  a = spot (target v p k)

  nothing_done : (n d h : ℕ) → Ready n v a d h → pos ≤ eof v a → Wrote n v a v pos 0 buffer
  nothing_done n d h R l =
      record {
        done =
            record {
              sound = R.sound;
              others = others_self v a;
              octets = octets;
              names = names_self v;
              ends = omega arith;
              plain = rw R.kind refl;
              readable = refl;
            };
        takes = omega (arith, no_need v a pos);
        spends = omega (arith, no_need v a pos);
        inside = λ i x y. absurd (omega arith);
        outside = λ i x y. refl;
      }

  new_done : write_number len v p k pos size (target v p k) ≡ 0
      → Wrote (total len) v a (elim (eqb size 0) [ true ↦ v | false ↦ written (map_block v) (total len) v a pos buffer size t ]) pos size buffer
  unfolding write_number
  new_done e =
      let r = rows_off _ e refl in
      let O = opened len v p k octets (r 0) (r 1) (r 2) (r 3) (r 4) (r 5) (r 6) in
      let o = or_none _ _ (r 8) in
      go O.tall O.ready (ltb-false (eof v a) pos o.0) (ltb-false eof_most (pos + size) o.1)
      (ltb-false (room (map_block v) v (total len)) (write_need v a pos size) (r 9)) (eqb size 0) refl
    where
      go : (h : ℕ) → Ready (total len) v a (home (target v p k)) h → pos ≤ eof v a → pos + size ≤ eof_most → write_need v a pos size ≤ room (map_block v) v (total len)
          → (b : Bool) → eqb size 0 ≡ b
          → Wrote (total len) v a (elim b [ true ↦ v | false ↦ written (map_block v) (total len) v a pos buffer size t ]) pos size buffer
      go h R start most enough true z = rw (eqb-true size 0 z) (nothing_done (total len) (home (target v p k)) h R start)
      go h R start most enough false z =
          let some = eqb-false size 0 z in
          let need_is : write_need v a pos size ≡ need v h (key v a) (height_for (max (eof v a) (pos + size))) (pos / 512) (touched pos size) =
          unfold write_need in rw (z, write_need) (rw R.kind refl) in
          rw R.sound.place
          (wrote R pos size buffer lent t (omega arith) (omega arith) (rw (R.sound.place, need_is) at enough) need_is)

  pub write_opened : (write len v p k pos buffer size t).number ≡ 0 → Opened len v p k
  unfolding write settle write_number
  write_opened e = let r = rows_off _ e refl in opened len v p k octets (r 0) (r 1) (r 2) (r 3) (r 4) (r 5) (r 6)

  pub write_start : (write len v p k pos buffer size t).number ≡ 0 → pos ≤ eof v a
  unfolding write settle write_number
  write_start e = ltb-false (eof v a) pos (or_none _ _ (rows_off _ e refl 8)).0

  pub write_done : (write len v p k pos buffer size t).number ≡ 0 → Wrote (total len) v a after pos size buffer
  unfolding write settle
  write_done e = rw (done_image _ 0 v size _ e) (new_done e)

  pub write_sound : sound (total len) v ≡ true → sound (total len) after ≡ true
  unfolding write
  write_sound S = settled _ _ v _ _ (λ w. sound (total len) w ≡ true) S (λ e. facts_sound (new_done e).done.sound)

  pub write_others : Others v after a
  unfolding write
  write_others = settled _ _ v _ _ (λ w. Others v w a) (others_self v a) (λ e. (new_done e).done.others)

  pub write_octets : Octets after
  unfolding write
  write_octets = settled _ _ v _ _ Octets octets (λ e. (new_done e).done.octets)
