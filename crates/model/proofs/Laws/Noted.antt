-- What the new entry of a file says, and where it stands.
use Prim.Native.Nat.{ℕ, zero, suc, ◌+◌, ◌-◌, ◌*◌, ◌≤◌, ◌<◌, ◌/◌, ◌%◌}
use mathlib.Core.Path.{◌≡◌, refl, sym, ◌∙◌}
use lib.ListN.{length}
use native.Mathlib.Omega.{arith}
use native.Mathlib.Nat.{add_assoc}
use Rattle.model.specs.Bytes.{Bytes, Octets}
use Rattle.model.specs.Names.{name_size}
use Rattle.model.specs.Directory.{file, sort_of, sort, at, volume, volume_block, key, used, eof, access, directory_key, ftype}
use Rattle.model.specs.File.{nodes}
use Rattle.model.specs.Calls.{stamp_bytes, backed_up, allows, read_bit}
use Rattle.model.specs.Write.{noted}
use Rattle.model.specs.declared.Stamp.{Stamp}
use Rattle.model.proofs.ByteLaws.{put_at, put_off, paste_out, put_word_out, put_long_out, word_put_word, long_put_long, word_same, word_put_off, word_paste_off, word_put_word_off, word_put_long_off, long_put_off, long_paste_off, octets_put, octets_paste, octets_put_word, octets_put_long, digit_bound}
use Rattle.model.proofs.Laws.Keep.{sort_at, field_at, eof_at, ftype_at}
use Rattle.model.proofs.Laws.Near.{Near}

pub stamp_octets : (t : Stamp) → Octets (stamp_bytes t)
unfolding stamp_bytes
stamp_octets t = octets_paste _ _ _ _ (digit_bound t.date) (λ i l. digit_bound t.time i)

pub backed_byte : (x : ℕ) → x < 256 → backed_up x < 256
unfolding backed_up
backed_byte x l = omega arith

pub backed_read : (x : ℕ) → allows (backed_up x) read_bit ≡ allows x read_bit
unfolding backed_up allows
backed_read x = let e : (x + 32 * (1 - x / 32 % 2)) / 1 % 2 ≡ x / 1 % 2 = omega arith in rw e refl

module _ (w : Bytes) (s h k e : ℕ) (t : Stamp) where
  abbrev new : Bytes
  new = noted w s h k e t

  -- the bytes written: kind, then key, blocks used and EOF, access, stamp
  noted_off : (i : ℕ) → (i ≡ at s → ⊥) → (at s + 0x11 ≤ i → i < at s + 0x18 → ⊥) → (i ≡ at s + 0x1E → ⊥) → (at s + 0x21 ≤ i → i < at s + 0x25 → ⊥)
      → new i ≡ w i
  unfolding noted
  noted_off i z f c g =
      paste_out _ _ _ _ i (λ p q. g p (omega arith))
      ∙ put_off _ _ _ i c
      ∙ put_long_out _ _ _ i (λ p q. f (omega arith) (omega arith))
      ∙ put_word_out _ _ _ i (λ p q. f (omega arith) (omega arith))
      ∙ put_word_out _ _ _ i (λ p q. f (omega arith) (omega arith))
      ∙ put_off _ _ _ i z

  pub noted_out : (i : ℕ) → (at s ≤ i → i < at s + 39 → ⊥) → new i ≡ w i
  noted_out i o =
      noted_off i (λ e. o (omega arith) (omega arith)) (λ p q. o (omega arith) (omega arith)) (λ e. o (omega arith) (omega arith))
      (λ p q. o (omega arith) (omega arith))

  noted_first : new (at s) ≡ (h + 1) * 16 + name_size w (at s)
  unfolding noted
  noted_first =
      paste_out _ _ _ _ (at s) (λ p q. omega arith)
      ∙ put_off _ _ _ (at s) (λ z. omega arith)
      ∙ put_long_out _ _ _ (at s) (λ p q. omega arith)
      ∙ put_word_out _ _ _ (at s) (λ p q. omega arith)
      ∙ put_word_out _ _ _ (at s) (λ p q. omega arith)
      ∙ put_at w (at s) _

  pub noted_access : access new s ≡ backed_up (access w s)
  unfolding noted
  noted_access = paste_out _ _ _ _ _ (λ p q. omega arith) ∙ put_at _ (at s + 0x1E) _

  pub noted_near : Near w new (at s)
  noted_near =
      record {
        sized = rw noted_first (omega arith);
        rest = λ i l. noted_off (at s + 1 + i) (λ z. omega arith) (λ p q. omega arith) (λ z. omega arith) (λ p q. omega arith);
      }

  module _ (proper : s ≡ volume → ⊥) where
    pub noted_sort : h ≤ 2 → sort new s ≡ file h
    noted_sort l =
        let e : ((h + 1) * 16 + w (at s) % 16) / 16 ≡ h + 1 = omega arith in
        sort_at new s proper ∙ rw (noted_first, e) (go h l)
      where
        go : (h : ℕ) → h ≤ 2 → sort_of (h + 1) ≡ file h
        go zero l = unfold sort_of in refl
        go (suc zero) l = unfold sort_of in refl
        go (suc (suc zero)) l = unfold sort_of in refl
        go (suc (suc (suc h))) l = absurd (omega arith)

    pub noted_key : k < 65536 → key new s ≡ k
    noted_key l =
        field_at new s 0x11 volume_block proper
        ∙ (unfold noted in
        word_paste_off _ _ _ _ _ (λ p q. omega arith)
        ∙ word_put_off _ _ _ _ (λ p q. omega arith)
        ∙ word_put_long_off _ _ _ _ (λ p q. omega arith)
        ∙ word_put_word_off _ _ _ _ (λ p q. omega arith)
        ∙ word_put_word _ _ k l)

    pub noted_used : length (nodes w h 0 k) < 65536 → used new s ≡ length (nodes w h 0 k)
    noted_used l =
        field_at new s 0x13 4 proper
        ∙ (unfold noted in
        word_paste_off _ _ _ _ _ (λ p q. omega arith)
        ∙ word_put_off _ _ _ _ (λ p q. omega arith)
        ∙ word_put_long_off _ _ _ _ (λ p q. omega arith)
        ∙ word_put_word _ _ (length (nodes w h 0 k)) l)

    pub noted_eof : e < 16777216 → eof new s ≡ e
    noted_eof l =
        eof_at new s proper
        ∙ (unfold noted in
        long_paste_off _ _ _ _ _ (λ p q. omega arith) ∙ long_put_off _ _ _ _ (λ p q. omega arith) ∙ long_put_long _ _ e l)

    pub noted_up : directory_key new s ≡ directory_key w s
    noted_up =
        let one : (o : ℕ) → 0x25 ≤ o → o < 39 → new (at s + o) ≡ w (at s + o) =
        λ o p q. noted_off (at s + o) (λ z. omega arith) (λ a b. omega arith) (λ z. omega arith) (λ a b. omega arith) in
        field_at new s 0x25 volume_block proper
        ∙ word_same new w _ _ (one 0x25 (omega arith) (omega arith)) (rw (add_assoc (at s) 0x25 1) (one 0x26 (omega arith) (omega arith)))
        ∙ sym (field_at w s 0x25 volume_block proper)

    pub noted_type : ftype new s ≡ ftype w s
    noted_type =
        ftype_at new s proper
        ∙ noted_off (at s + 0x10) (λ z. omega arith) (λ a b. omega arith) (λ z. omega arith) (λ a b. omega arith)
        ∙ sym (ftype_at w s proper)

  pub noted_octets : h ≤ 2 → Octets w → Octets new
  unfolding noted
  noted_octets l o =
      octets_paste _ _ _ _
      (octets_put _ _ _
      (octets_put_long _ _ _ (octets_put_word _ _ _ (octets_put_word _ _ _ (octets_put w _ _ o (omega arith)))))
      (backed_byte (access w s) (o _)))
      (λ i m. stamp_octets t i)
