-- Every read of another file gives what it gave before a call on the file a: by the same path, the same answer, byte for byte.
use Prim.Native.Nat.{ℕ}
use mathlib.Core.Path.{◌≡◌, refl, sym, ap, ◌∙◌}
use mathlib.Core.List.{List, ◌∷◌}
use mathlib.Core.Bool.{Bool, true, false, false≢true}
use native.Mathlib.Omega.{arith}
use native.Mathlib.Nat.{add_assoc}
use Rattle.model.specs.Bytes.{Bytes, Octets}
use Rattle.model.specs.Directory.{sort, is_directory, at, volume, access, eof}
use Rattle.model.specs.File.{content}
use Rattle.model.specs.Refusals.{Row, row, first, settle}
use Rattle.model.specs.Read.{filled, to_read, filled_from, read_number, read}
use Rattle.model.specs.Write.{write}
use Rattle.model.specs.SetEof.{set_eof}
use Rattle.model.specs.declared.Stamp.{Stamp}
use Rattle.model.specs.Calls.{total, home, spot, target, is_no_volume, is_no_directory, is_missing}
use Rattle.model.proofs.ByteLaws.{at_or_off, long_same}
use Rattle.model.proofs.RefusalLaws.{first_applies, first_passes, settle_refused, settle_accepted}
use Rattle.model.proofs.Laws.Sound.{Sound, facts_sound}
use Rattle.model.proofs.Laws.Keep.{eof_at}
use Rattle.model.proofs.Laws.Facts.{volume_directory, seen_proper}
use Rattle.model.proofs.Laws.One.{Kept, Others}
use Rattle.model.proofs.Laws.Lookup.{rows_off, entry_led, target_led}
use Rattle.model.proofs.Laws.Paths.{SameNames, target_same}
use Rattle.model.proofs.Laws.Opened.{file_is}
use Rattle.model.proofs.Laws.Written.{write_done}
use Rattle.model.proofs.Laws.Reset.{set_eof_done}

-- another file keeps its end
kept_eof : {v w : Bytes} {x : ℕ} → Kept v w x → (x ≡ volume → ⊥) → eof w x ≡ eof v x
kept_eof {v} {w} {x} K proper =
    eof_at w x proper
    ∙ long_same w v _ _ (K.entry 0x15 (omega arith)) (rw (add_assoc (at x) 0x15 1) (K.entry 0x16 (omega arith)))
    (rw (add_assoc (at x) 0x15 2) (K.entry 0x17 (omega arith)))
    ∙ sym (eof_at v x proper)

-- the rows of the table, as far as they matter
next : (b b' : Bool) (k : ℕ) (rs rs' : List Row) → b' ≡ b → (b ≡ false → first rs' ≡ first rs) → first (row b' k ∷ rs') ≡ first (row b k ∷ rs)
next b b' k rs rs' e f = rw e (go b refl)
  where
    go : (t : Bool) → b ≡ t → first (row b k ∷ rs') ≡ first (row b k ∷ rs)
    go true i = first_applies (row b k) rs' i ∙ sym (first_applies (row b k) rs i)
    go false i = first_passes (row b k) rs' i ∙ f i ∙ sym (first_passes (row b k) rs i)

-- all that is read of a file is the same
record Equal (v w : Bytes) (s : ℕ) : Type 0 where
  sized : eof w s ≡ eof v s
  open_to : access w s ≡ access v s
  bytes : content w s ≡ content v s

filled_same : {v w : Bytes} {s : ℕ} → Equal v w s → (q : ℕ) (b : Bytes) (m : ℕ) → filled_from w s q b m ≡ filled_from v s q b m
unfolding filled_from to_read
filled_same E q b m = rw (E.sized, E.bytes) refl

-- A sound volume before and after, with the same names, where each file but a is kept.
module _ (len : ℕ) {v w : Bytes} {a : ℕ} (S : Sound (total len) v) (S' : Sound (total len) w) (N : SameNames v w) (others : Others v w a)
    (p : Bytes) (k : ℕ) (apart : spot (target v p k) ≡ a → ⊥) where
  folder : is_no_volume (target v p k) ≡ false → is_no_directory (target v p k) ≡ false → is_missing (target v p k) ≡ false
      → is_directory (sort w (spot (target v p k))) ≡ is_directory (sort v (spot (target v p k)))
  folder e f g =
      at_or_off (spot (target v p k)) volume (λ z. rw z (ap is_directory (volume_directory S' ∙ sym (volume_directory S))))
      (λ z. let E = entry_led S (target_led S p k) e f g z in (N.entry (home (target v p k)) (spot (target v p k)) E.spot.home E.spot.inside).folder)

  equal : is_no_volume (target v p k) ≡ false → is_no_directory (target v p k) ≡ false → is_missing (target v p k) ≡ false
      → is_directory (sort v (spot (target v p k))) ≡ false → Equal v w (spot (target v p k))
  equal e f g d =
      let z : spot (target v p k) ≡ volume → ⊥ = λ z. false≢true (sym d ∙ rw z (ap is_directory (volume_directory S))) in
      let E = entry_led S (target_led S p k) e f g z in
      let h = file_is (sort v (spot (target v p k))) E.alive d (seen_proper S (spot (target v p k)) E.spot.seen) in
      let K = others (spot (target v p k)) h.0 E.spot.seen apart h.1 in
      record { sized = kept_eof K z; open_to = K.entry 0x1E (omega arith); bytes = K.reads }

  number_same : (q m : ℕ) → read_number len w p k q m (target v p k) ≡ read_number len v p k q m (target v p k)
  unfolding read_number
  number_same q m =
      next _ _ 0x52 _ _ (rw (S.sign, S'.sign) refl) (λ _.
      next _ _ 0x5A _ _ (rw (facts_sound S, facts_sound S') refl) (λ _.
      next _ _ 0x40 _ _ refl (λ _.
      next _ _ 0x45 _ _ refl (λ e.
      next _ _ 0x44 _ _ refl (λ f.
      next _ _ 0x46 _ _ refl (λ g.
      next _ _ 0x4B _ _ (folder e f g) (λ d.
      let Q = equal e f g d in rw (Q.open_to, Q.sized) refl)))))))

  done_equal : (q m : ℕ) → read_number len v p k q m (target v p k) ≡ 0 → Equal v w (spot (target v p k))
  unfolding read_number
  done_equal q m e =
      let r = rows_off _ e refl in
      equal (r 3) (r 4) (r 5) (r 6)

  pub read_same : (q : ℕ) (b : Bytes) (m : ℕ)
      → ((read len w p k q b m).number ≡ (read len v p k q b m).number) × ((read len w p k q b m).parts ≡ (read len v p k q b m).parts)
  unfolding read settle
  read_same q b m =
      let same = number_same q m in
      rw (target_same S N p k) (
        same,
        at_or_off (read_number len v p k q m (target v p k)) 0
            (λ e. (settle_accepted _ (filled 0 b) w _ w (same ∙ e)).0 ∙ filled_same (done_equal q m e) q b m ∙ sym (settle_accepted _ (filled 0 b) v _ v e).0)
            (λ e. (settle_refused _ (filled 0 b) w _ w (λ z. e (sym same ∙ z))).0 ∙ sym (settle_refused _ (filled 0 b) v _ v e).0),
      )

-- After write and after set EOF.
module _ (len : ℕ) (v p : Bytes) (k pos : ℕ) (buffer : Bytes) (size : ℕ) (t : Stamp) (octets : Octets v) (lent : Octets buffer)
    (z : (write len v p k pos buffer size t).number ≡ 0) (S : Sound (total len) v) where
  pub write_elsewhere : (o : Bytes) (j : ℕ) → (spot (target v o j) ≡ spot (target v p k) → ⊥) → (q : ℕ) (b : Bytes) (m : ℕ)
      → let w = (write len v p k pos buffer size t).image in
      ((read len w o j q b m).number ≡ (read len v o j q b m).number) × ((read len w o j q b m).parts ≡ (read len v o j q b m).parts)
  write_elsewhere o j d q b m =
      let D = (write_done len v p k pos buffer size t octets lent z).done in
      read_same len S D.sound D.names D.others o j d q b m

module _ (len : ℕ) (v p : Bytes) (k e : ℕ) (t : Stamp) (octets : Octets v) (z : (set_eof len v p k e t).number ≡ 0) (S : Sound (total len) v) where
  pub set_eof_elsewhere : (o : Bytes) (j : ℕ) → (spot (target v o j) ≡ spot (target v p k) → ⊥) → (q : ℕ) (b : Bytes) (m : ℕ)
      → let w = (set_eof len v p k e t).image in
      ((read len w o j q b m).number ≡ (read len v o j q b m).number) × ((read len w o j q b m).parts ≡ (read len v o j q b m).parts)
  set_eof_elsewhere o j d q b m =
      let D = (set_eof_done len v p k e t octets z).done in
      read_same len S D.sound D.names D.others o j d q b m
