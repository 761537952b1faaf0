-- A change of one entry that leaves its sort, its place and what it owns: of its name, of access, aux and modified stamp, and of the name in
-- its header if it is a directory. Set info and rename are such changes.
use Prim.Native.Nat.{ℕ, ◌+◌, ◌-◌, ◌*◌, ◌≤◌, ◌<◌}
use mathlib.Core.Path.{◌≡◌, refl, sym, ◌∙◌}
use mathlib.Core.List.{[], append-nil}
use native.Mathlib.Omega.{arith}
use native.Mathlib.Nat.{add_assoc}
use Rattle.model.specs.Bytes.{Bytes, sum}
use Rattle.model.specs.Directory.{directory, sort, at, map_place, active_count, key, kids}
use Rattle.model.specs.Sound.{twins}
use Rattle.model.proofs.ByteLaws.{word_same}
use Rattle.model.proofs.BitLaws.{MapSame, same_free, same_rest}
use Rattle.model.proofs.Laws.Frame.{at_link, at_block}
use Rattle.model.proofs.Laws.Sound.{Sound}
use Rattle.model.proofs.Laws.Keep.{Keeps, misnamed, badge, key_same, blocks_same, kids_same, faults_same}
use Rattle.model.proofs.Laws.Facts.{Seen, mine_off, own_mine, mine_apart, kid_block, directory_key_law}
use Rattle.model.proofs.Laws.One.{Place, in_slot, in_head, Step, Change, Others, file_directory, slot_head, slot_map, one_sound, one_others, one_apart, one_directory, one_active, one_twins}

pub record Marks (n : ℕ) (v v' : Bytes) (a d : ℕ) : Type 0 where
  pub sound : Sound n v
  pub spot : Place v a d
  pub out : (i : ℕ) → (at a ≤ i → i < at a + 16 → ⊥) → (at a + 30 ≤ i → i < at a + 37 → ⊥)
      → (sort v a ≡ directory → key v a * 512 + 4 ≤ i → i < key v a * 512 + 20 → ⊥) → v' i ≡ v i

pub record Relabels (n : ℕ) (v v' : Bytes) (a d : ℕ) : Type 0 where
  pub marks : Marks n v v' a d
  pub sorted : sort v' a ≡ sort v a
  pub named : misnamed v' a ≤ misnamed v a
  pub badged : sort v a ≡ directory → badge v' a (key v a) ≤ badge v a (key v a)
  pub unlike : twins v' (kids v d) ≡ 0

module _ {n : ℕ} {v v' : Bytes} {a d : ℕ} (M : Marks n v v' a d) where
  open M use {sound as S, spot as P, out}

  pub marks_step : Step n v v' a d
  marks_step =
      record {
        sound = S;
        spot = P;
        out = λ b j m l no.
            out (b * 512 + j) (λ p q. no (in_slot p (omega arith))) (λ p q. no (in_slot (omega arith) (omega arith)))
            (λ e p q. no (in_head e (omega arith) (omega arith)));
      }

module _ {n : ℕ} {v v' : Bytes} {a d : ℕ} (R : Relabels n v v' a d) where
  open R use {marks}
  open marks use {sound as S, spot as P, out}

  abbrev relabel_step : Step n v v' a d
  relabel_step = marks_step marks

  -- what is in no slot and in no name of a header
  far : (b j : ℕ) → j < 512 → (at a ≤ b * 512 + j → b * 512 + j < at a + 39 → ⊥) → (sort v a ≡ directory → b ≡ key v a → 4 ≤ j → j < 20 → ⊥)
      → v' (b * 512 + j) ≡ v (b * 512 + j)
  far b j l s t =
      out (b * 512 + j) (λ p q. s p (omega arith)) (λ p q. s (omega arith) (omega arith))
      (λ e p q. t e (omega arith) (omega arith) (omega arith))

  pub relabel_keeps : Keeps v v' a
  relabel_keeps =
      record {
        sorted = R.sorted;
        slot = λ z o g l t. out (at a + o) (λ p q. omega arith) (λ p q. t (omega arith) (omega arith))
            (λ e p q. slot_head S P a (at a + o - key v a * 512) P.seen e (omega arith) (omega arith) (omega arith) (omega arith));
        chains = λ e b c j l. far b j (omega arith) (λ p q. at_link a b (b * 512 + j - at a) j (omega arith) l (omega arith)) (λ _ _ p q. omega arith);
        head = λ e j g l t. far (key v a) j (omega arith) (slot_head S P a j P.seen e (omega arith) l) (λ _ _ p q. omega arith);
        trees = λ h e b c j l. far b j l
            (λ p q. file_directory (sym e ∙ rw (mine_apart S a d b P.seen P.home c
            (rw (← at_block a b (b * 512 + j - at a) j (omega arith) l (omega arith)) (omega (arith, kid_block v a d, P.inside)))) P.holds))
            (λ f _ p q. file_directory (sym e ∙ f));
      }

  relabel_count : (x : ℕ) → Seen v x → sort v x ≡ directory → active_count v' (key v x) ≡ active_count v (key v x)
  relabel_count x h e =
      let one : (j : ℕ) → 37 ≤ j → j < 39 → v' (key v x * 512 + j) ≡ v (key v x * 512 + j) =
      λ j p q. far (key v x) j (omega arith) (slot_head S P x j h e (omega arith) (omega arith)) (λ _ _ r t. omega arith) in
      word_same v' v (key v x * 512 + 0x25) (key v x * 512 + 0x25) (one 37 (omega arith) (omega arith))
      (rw (add_assoc (key v x * 512) 37 1) (one 38 (omega arith) (omega arith)))

  relabel_map : MapSame map_place n v v'
  relabel_map i g h =
      out i (λ p q. slot_map S P i g h p (omega arith)) (λ p q. slot_map S P i g h (omega arith) (omega arith))
      (λ e p q.
      let o : ℕ = i - key v a * 512 in
      let f : i ≡ key v a * 512 + o = omega arith in
      mine_off S (key v a) o (own_mine S a (key v a) P.seen (directory_key_law S a P.seen e)) (omega arith) (rw f at g) (rw f at h))

  relabel_change : Change n v v' a d 0 (kids v a) [] []
  relabel_change =
      let other : a ≡ d → ⊥ = λ e. one_apart relabel_step (sym e) in
      record {
        step = relabel_step;
        old = sym (append-nil (kids v a));
        new = kids_same v v' a relabel_keeps ∙ sym (append-nil (kids v a));
        off = λ s c. absurd (unfold sum in omega arith);
        off' = λ s c. absurd (unfold sum in omega arith);
        held = λ s c. key_same v v' a relabel_keeps.slot;
        level = omega arith;
        entry = λ m.
            omega (
              arith,
              faults_same v v' a relabel_keeps n m d (one_directory relabel_step) R.named (λ e _. R.badged e)
                  (λ e. rw (relabel_count a P.seen e, one_active relabel_step a P.seen other, one_twins relabel_step a P.seen other) (omega arith)),
            );
        counted = rw (relabel_count d P.home P.holds, R.sorted) refl;
        unlike = R.unlike;
        balance = λ b l. rw (blocks_same v v' a relabel_keeps, same_free map_place n v v' relabel_map b l) refl;
        rest = same_rest map_place n v v' relabel_map S.rest;
      }

  pub relabel_sound : Sound n v'
  relabel_sound = one_sound relabel_change

  pub relabel_others : Others v v' a
  relabel_others = one_others relabel_change
