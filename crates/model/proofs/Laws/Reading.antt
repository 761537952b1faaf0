-- What read gives after a write and after set EOF, and that it gives the same as before for every other file.
use Prim.Native.Nat.{ℕ, ◌+◌, ◌-◌, ◌≤◌, ◌<◌, min, max}
use mathlib.Core.Path.{◌≡◌, refl, ap, ◌∙◌}
use mathlib.Core.List.{List, [], ◌∷◌}
use mathlib.Core.Bool.{Bool, true, false, not}
use lib.Dec.{leb, eqb}
use native.Mathlib.Omega.{arith}
use native.Mathlib.Nat.{zero-add}
use borrow.Author.Tests.{le-ltb, ne_eqb}
use Rattle.model.specs.Bytes.{Bytes, Octets, from, ◌and◌}
use Rattle.model.specs.Directory.{access, eof}
use Rattle.model.specs.File.{content}
use Rattle.model.specs.Refusals.{Row, row, first, settle}
use Rattle.model.specs.Read.{Filled, filled, to_read, filled_from, read_number, read}
use Rattle.model.specs.Write.{write}
use Rattle.model.specs.SetEof.{set_eof}
use Rattle.model.specs.Calls.{total, spot, target, allows, read_bit}
use Rattle.model.specs.declared.Stamp.{Stamp}
use Rattle.model.proofs.ByteLaws.{at_or_off, paste_at, paste_after}
use Rattle.model.proofs.RefusalLaws.{first_passes, settle_accepted}
use Rattle.model.proofs.TestLaws.{and_both, and_off}
use Rattle.model.proofs.Laws.Sound.{facts_sound}
use Rattle.model.proofs.Laws.Move.{by_lt}
use Rattle.model.proofs.Laws.Entry.{Done}
use Rattle.model.proofs.Laws.Paths.{target_same}
use Rattle.model.proofs.Laws.Opened.{Opened}
use Rattle.model.proofs.Laws.Written.{write_opened, write_start, write_done}
use Rattle.model.proofs.Laws.Reset.{set_eof_opened, set_eof_done}

-- A read of m bytes at q that is not refused: what it gives of the file a.
pub record Gives (f : Filled) (w : Bytes) (a q : ℕ) (b : Bytes) (m : ℕ) : Type 0 where
  pub count : f.moved ≡ min m (eof w a - q)
  pub bytes : (i : ℕ) → i < m → q + i < eof w a → f.buffer i ≡ content w a (q + i)
  pub rest : (i : ℕ) → min m (eof w a - q) ≤ i → f.buffer i ≡ b i

gives : (w : Bytes) (a q : ℕ) (b : Bytes) (m : ℕ) → Gives (filled_from w a q b m) w a q b m
unfolding filled_from to_read
gives w a q b m =
    record {
      count = refl;
      bytes = λ i l h. rw (zero-add i) at (paste_at b 0 (min m (eof w a - q)) (from (content w a) q) i (omega arith));
      rest = λ i l. paste_after b 0 (min m (eof w a - q)) (from (content w a) q) i (omega arith);
    }

pub read_gives : (len : ℕ) (w p : Bytes) (k q : ℕ) (b : Bytes) (m : ℕ) → (read len w p k q b m).number ≡ 0
    → Gives (read len w p k q b m).parts w (spot (target w p k)) q b m
unfolding read settle
read_gives len w p k q b m e =
    rw (settle_accepted _ (filled 0 b) w (filled_from w (spot (target w p k)) q b m) w e).0 (gives w (spot (target w p k)) q b m)

-- the rows of the table, one by one
none_left : first [] ≡ 0
unfolding first
none_left = refl

pass : (b : Bool) (k : ℕ) (rs : List Row) → b ≡ false → first rs ≡ 0 → first (row b k ∷ rs) ≡ 0
pass b k rs e f = first_passes (row b k) rs e ∙ f

-- After a call on a file that may be read, each read at a place before the end is done.
module _ {len : ℕ} {v p : Bytes} {k : ℕ} (O : Opened len v p k) {w : Bytes} {e : ℕ}
    (D : Done (total len) v (spot (target v p k)) w e) where
  stays : target w p k ≡ target v p k
  stays = target_same O.ready.sound D.names p k

  pub reads : (q : ℕ) (b : Bytes) (m : ℕ) → allows (access v (spot (target v p k))) read_bit ≡ true → q ≤ e → (q ≡ e → m ≡ 0)
      → (read len w p k q b m).number ≡ 0
  unfolding read settle read_number
  reads q b m may l h =
      rw (stays, D.ends)
      (pass _ 0x52 _ (ap not (and_both _ _ O.whole D.sound.sign))
      (pass _ 0x5A _ (ap not (facts_sound D.sound))
      (pass _ 0x40 _ (ap not O.proper)
      (pass _ 0x45 _ O.known
      (pass _ 0x44 _ O.way
      (pass _ 0x46 _ O.found
      (pass _ 0x4B _ D.plain
      (pass _ 0x4E _ (ap not (D.readable ∙ may))
      (pass _ 0x4D _ (le-ltb e q l)
      (pass _ 0x4C _ last none_left))))))))))
    where
      last : (leb 1 m and eqb q e) ≡ false
      last =
          unfold ◌and◌ in
          at_or_off q e (λ z. rw (h z) refl)
          (λ z. rw (ne_eqb q e z) (and_off (leb 1 m)))

  -- and gives the bytes of the file
  pub reads_bytes : (q : ℕ) (b : Bytes) (m : ℕ) → (read len w p k q b m).number ≡ 0
      → (i : ℕ) → i < m → q + i < e → (read len w p k q b m).parts.buffer i ≡ content w (spot (target v p k)) (q + i)
  reads_bytes q b m z i l h =
      let G : Gives (read len w p k q b m).parts w (spot (target v p k)) q b m = rw stays at (read_gives len w p k q b m z) in
      G.bytes i l (rw D.ends h)

  pub reads_count : (q : ℕ) (b : Bytes) (m : ℕ) → (read len w p k q b m).number ≡ 0 → (read len w p k q b m).parts.moved ≡ min m (e - q)
  reads_count q b m z =
      let G : Gives (read len w p k q b m).parts w (spot (target v p k)) q b m = rw stays at (read_gives len w p k q b m z) in
      rw D.ends at G.count

-- After a write.
module _ (len : ℕ) (v p : Bytes) (k pos : ℕ) (buffer : Bytes) (size : ℕ) (t : Stamp) (octets : Octets v) (lent : Octets buffer)
    (z : (write len v p k pos buffer size t).number ≡ 0) where
  abbrev wrote_to : Bytes
  wrote_to = (write len v p k pos buffer size t).image

  abbrev written_at_law : ℕ
  written_at_law = spot (target v p k)

  -- what was written is read
  pub write_read : 1 ≤ size → allows (access v written_at_law) read_bit ≡ true → (b : Bytes)
      → ((read len wrote_to p k pos b size).number ≡ 0)
      × ((read len wrote_to p k pos b size).parts.moved ≡ size)
      × ((i : ℕ) → i < size → (read len wrote_to p k pos b size).parts.buffer i ≡ buffer i)
  write_read some may b =
      let O = write_opened len v p k pos buffer size t octets lent z in
      let W = write_done len v p k pos buffer size t octets lent z in
      let r = reads O W.done pos b size may (omega arith) (λ e. absurd (omega arith)) in
      let x : (i : ℕ) → pos + i - pos ≡ i = λ i. omega arith in (
        r,
        reads_count O W.done pos b size r ∙ omega arith,
        λ i l. reads_bytes O W.done pos b size r i l (omega arith) ∙ W.inside (pos + i) (omega arith) (omega arith) ∙ ap buffer (x i),
      )

  -- all other bytes are as before
  pub write_rest : (q : ℕ) (b : Bytes) (m : ℕ) → (read len wrote_to p k q b m).number ≡ 0
      → (i : ℕ) → i < m → q + i < max (eof v written_at_law) (pos + size) → (pos ≤ q + i → q + i < pos + size → ⊥)
      → (read len wrote_to p k q b m).parts.buffer i ≡ content v written_at_law (q + i)
  write_rest q b m r i l h o =
      let O = write_opened len v p k pos buffer size t octets lent z in
      let W = write_done len v p k pos buffer size t octets lent z in
      let start = write_start len v p k pos buffer size t octets lent z in
      reads_bytes O W.done q b m r i l h ∙ W.outside (q + i) (by_lt (q + i) pos (λ c. omega arith) (λ c. omega (arith, o c))) o

-- After set EOF.
module _ (len : ℕ) (v p : Bytes) (k e : ℕ) (t : Stamp) (octets : Octets v) (z : (set_eof len v p k e t).number ≡ 0) where
  abbrev set_to : Bytes
  set_to = (set_eof len v p k e t).image

  abbrev set_at : ℕ
  set_at = spot (target v p k)

  pub set_eof_reads : allows (access v set_at) read_bit ≡ true → (q : ℕ) (b : Bytes) (m : ℕ) → q ≤ e → (q ≡ e → m ≡ 0)
      → ((read len set_to p k q b m).number ≡ 0)
      × ((read len set_to p k q b m).parts.moved ≡ min m (e - q))
      × ((i : ℕ) → i < m → q + i < e → q + i < eof v set_at → (read len set_to p k q b m).parts.buffer i ≡ content v set_at (q + i))
      × ((i : ℕ) → i < m → q + i < e → eof v set_at ≤ q + i → (read len set_to p k q b m).parts.buffer i ≡ 0)
  set_eof_reads may q b m l h =
      let O = set_eof_opened len v p k e t octets z in
      let W = set_eof_done len v p k e t octets z in
      let r = reads O W.done q b m may l h in (
        r,
        reads_count O W.done q b m r,
        λ i x y o. reads_bytes O W.done q b m r i x y ∙ W.below (q + i) o y,
        λ i x y o. reads_bytes O W.done q b m r i x y ∙ W.past (q + i) o y,
      )
