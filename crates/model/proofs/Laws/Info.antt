-- Set info keeps soundness, and every other file as it was.
use Prim.Native.Nat.{ℕ, ◌+◌, ◌-◌, ◌*◌, ◌≤◌, ◌<◌}
use mathlib.Core.Path.{◌≡◌, refl, ◌∙◌}
use mathlib.Core.Bool.{true}
use native.Mathlib.Omega.{arith}
use borrow.Author.Tests.{eqb-false}
use Rattle.model.specs.Bytes.{Bytes}
use Rattle.model.specs.Directory.{sort, at, volume, key, kids, directory}
use Rattle.model.specs.Calls.{total, target, spot, home}
use Rattle.model.specs.Info.{info_set, set_info_number, set_info}
use Rattle.model.specs.Sound.{sound}
use Rattle.model.specs.declared.Stamp.{Stamp}
use Rattle.model.proofs.ByteLaws.{put_off, put_word_out, paste_out}
use Rattle.model.proofs.Laws.Frame.{at_off, Named, twins_same}
use Rattle.model.proofs.Laws.Sound.{Sound, sound_facts, facts_sound}
use Rattle.model.proofs.Laws.Keep.{Head, misnamed_same, badge_same, sort_named}
use Rattle.model.proofs.Laws.Facts.{seen_directory}
use Rattle.model.proofs.Laws.One.{Place, Others, slot_head}
use Rattle.model.proofs.Laws.Relabel.{Relabels, relabel_sound, relabel_others}
use Rattle.model.proofs.Laws.Lookup.{rows_off, entry_led, target_led}
use Rattle.model.proofs.Laws.Settled.{settled, others_self}

info_out : (v : Bytes) (s access aux : ℕ) (t : Stamp) (i : ℕ) → (at s + 30 ≤ i → i < at s + 37 → ⊥) → info_set v s access aux t i ≡ v i
unfolding info_set
info_out v s access aux t i n =
    paste_out _ (at s + 0x21) 4 _ i (λ p q. n (omega arith) (omega arith))
    ∙ put_word_out _ (at s + 0x1F) aux i (λ p q. n (omega arith) (omega arith))
    ∙ put_off v (at s + 0x1E) access i (λ e. n (omega arith) (omega arith))

module _ {n : ℕ} {v : Bytes} {a d : ℕ} (access aux : ℕ) (t : Stamp) (S : Sound n v) (P : Place v a d) where
  abbrev set : Bytes
  set = info_set v a access aux t

  pub set_name : (s : ℕ) → Named v set (at s)
  set_name s i l =
      info_out v a access aux t (at s + i)
      (λ p q. let e = at_off s a i (at s + i - at a) (omega arith) (omega arith) (omega arith) in omega arith)

  set_head : sort v a ≡ directory → Head v set (key v a)
  set_head e j g l _ =
      info_out v a access aux t (key v a * 512 + j) (λ p q. slot_head S P a j P.seen e g l (omega arith) (omega arith))

  set_relabels : Relabels n v set a d
  set_relabels =
      record {
        marks = record { sound = S; spot = P; out = λ i _ h _. info_out v a access aux t i h };
        sorted = sort_named v set a (set_name a);
        named = omega (arith, misnamed_same v set a (set_name a));
        badged = λ e. omega (arith, badge_same v set a (key v a) (set_name a) (set_head e));
        unlike = twins_same v set (kids v d) (λ s _. (sort_named v set s (set_name s), set_name s)) ∙ (seen_directory S d P.home P.holds).unlike;
      }

-- The call.
module _ (len : ℕ) (v p : Bytes) (k access aux : ℕ) (t : Stamp) (S : sound (total len) v ≡ true) where
  pub relabels : set_info_number len v p k access (target v p k) ≡ 0 → Relabels (total len) v (info_set v (spot (target v p k)) access aux t) (spot (target v p k)) (home (target v p k))
  unfolding set_info_number
  relabels e =
      let facts = sound_facts (total len) v S in
      let r = rows_off _ e refl in
      let E = entry_led facts (target_led facts p k) (r 4) (r 5) (r 6) (eqb-false (spot (target v p k)) volume (r 7)) in
      set_relabels access aux t facts E.spot

  pub set_info_sound : sound (total len) (set_info len v p k access aux t).image ≡ true
  unfolding set_info
  set_info_sound = settled _ _ v _ _ (λ w. sound (total len) w ≡ true) S (λ e. facts_sound (relabel_sound (relabels e)))

  pub set_info_others : Others v (set_info len v p k access aux t).image (spot (target v p k))
  unfolding set_info
  set_info_others =
      settled _ _ v _ _ (λ w. Others v w (spot (target v p k))) (others_self v (spot (target v p k))) (λ e. relabel_others (relabels e))
