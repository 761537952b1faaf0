-- What each call leaves of the ways, of the names along them, and so of the paths; and that rename and set info keep the bytes of the file that
-- they name.
use Prim.Native.Nat.{ℕ}
use mathlib.Core.Path.{◌≡◌, refl, sym, subst, ◌∙◌}
use mathlib.Core.List.{List, ◌∷◌}
use mathlib.Core.Bool.{true}
use Rattle.model.specs.Bytes.{Bytes, Octets, count}
use Rattle.model.specs.Names.{part, capitals, proper_name}
use Rattle.model.specs.Directory.{sort, file, at, volume}
use Rattle.model.specs.Sound.{sound}
use Rattle.model.specs.Refusals.{settle}
use Rattle.model.specs.Calls.{total, target, home, spot, nothing}
use Rattle.model.specs.Create.{Wanted, create}
use Rattle.model.specs.Destroy.{destroyed, destroy}
use Rattle.model.specs.Rename.{renamed, rename_number, rename}
use Rattle.model.specs.Info.{set_info}
use Rattle.model.specs.Write.{write}
use Rattle.model.specs.SetEof.{set_eof}
use Rattle.model.specs.Catalog.{text}
use Rattle.model.specs.declared.Stamp.{Stamp}
use Rattle.model.proofs.ByteLaws.{at_or_off}
use Rattle.model.proofs.RefusalLaws.{settle_accepted, write_refused, set_eof_refused, rename_refused}
use Rattle.model.proofs.TestLaws.{and_right}
use Rattle.model.proofs.Laws.Sound.{sound_facts}
use Rattle.model.proofs.Laws.Keep.{Keeps, blocks_same, content_same, eof_same}
use Rattle.model.proofs.Laws.Facts.{volume_directory}
use Rattle.model.proofs.Laws.One.{file_directory}
use Rattle.model.proofs.Laws.Relabel.{Relabels, relabel_keeps}
use Rattle.model.proofs.Laws.Info.{relabels}
use Rattle.model.proofs.Laws.Spelling.{Bears}
use Rattle.model.proofs.Laws.Lookup.{rows_off, not_false, entry_led, target_led}
use Rattle.model.proofs.Laws.Settled.{settled}
use Rattle.model.proofs.Laws.Rename.{entry_bears, now_relabels, whole, open_name}
use Rattle.model.proofs.Laws.Created.{creates}
use Rattle.model.proofs.Laws.Destroy.{done}
use Rattle.model.proofs.Laws.Written.{write_done}
use Rattle.model.proofs.Laws.Reset.{set_eof_done}
use Rattle.paths.specs.Ways.{Way, path, replaced, WayStays, WaysStay, Holds}
use Rattle.paths.proofs.CarryLaws.{Carries, carried_path, stay, names_carry, renamed_at, renamed_all, replaced_off}
use Rattle.paths.proofs.RelabelLaws.{set_carries, now_carries, after_carries}
use Rattle.paths.proofs.GoneLaws.{gone_stays}
use Rattle.paths.proofs.NewLaws.{entry_stay}

ways_self : (v : Bytes) → WaysStay v v
ways_self v xs s w = (w, refl)

holds_self : (v : Bytes) (s : ℕ) → Holds v v s
holds_self v s = record { sorted = refl; ends = refl; owns = refl; bytes = λ b i c l. refl; reads = refl }

keeps_hold : {v w : Bytes} {s : ℕ} → Keeps v w s → (h : ℕ) → sort v s ≡ file h → Holds v w s
keeps_hold {v} {w} {s} K h e =
    record {
      sorted = K.sorted;
      ends = eof_same v w s K.slot;
      owns = blocks_same v w s K;
      bytes = λ b i c l. K.trees h e b c i l;
      reads = content_same v w s K h e;
    }

-- Create.
module _ (len : ℕ) (v p : Bytes) (k : ℕ) (w : Wanted) (octets : Octets v) (S : sound (total len) v ≡ true) where
  pub create_ways : WaysStay v (create len v p k w).image
  unfolding create
  create_ways = settled _ _ v _ _ (WaysStay v) (ways_self v) (λ e. entry_stay (creates len v p k w octets S e))

-- Destroy.
module _ (len : ℕ) (v p : Bytes) (k : ℕ) (octets : Octets v) (S : sound (total len) v ≡ true) where
  pub destroy_ways : (xs : List ℕ) (s : ℕ) → (s ≡ spot (target v p k) → ⊥) → Way v volume xs s → WayStays v (destroy len v p k).image xs s
  unfolding destroy
  destroy_ways xs s n w =
      settled _ _ v _ _ (λ u. WayStays v u xs s) (w, refl)
      (λ e.
      let D = done len v p k octets S e in
      subst (λ m. WayStays v (destroyed m v (home (target v p k)) (spot (target v p k))) xs s) (sym D.sound.place) (gone_stays D xs s n w))

-- Set info.
module _ (len : ℕ) (v p : Bytes) (k access aux : ℕ) (t : Stamp) (S : sound (total len) v ≡ true) where
  pub set_info_ways : WaysStay v (set_info len v p k access aux t).image
  unfolding set_info
  set_info_ways =
      settled _ _ v _ _ (WaysStay v) (ways_self v)
      (λ e. stay (sound_facts (total len) v S) (set_carries access aux t (relabels len v p k access aux t S e)))

  -- the file that it names
  pub set_info_holds : (h : ℕ) → sort v (spot (target v p k)) ≡ file h → Holds v (set_info len v p k access aux t).image (spot (target v p k))
  unfolding set_info
  set_info_holds h f =
      settled _ _ v _ _ (λ w. Holds v w (spot (target v p k))) (holds_self v (spot (target v p k)))
      (λ e. keeps_hold (relabel_keeps (relabels len v p k access aux t S e)) h f)

-- Write.
module _ (len : ℕ) (v p : Bytes) (k pos : ℕ) (buffer : Bytes) (size : ℕ) (t : Stamp) (octets : Octets v) (lent : Octets buffer)
    (S : sound (total len) v ≡ true) where
  pub write_ways : WaysStay v (write len v p k pos buffer size t).image
  write_ways =
      at_or_off (write len v p k pos buffer size t).number 0
      (λ e. stay (sound_facts (total len) v S) (names_carry (write_done len v p k pos buffer size t octets lent e).done.names))
      (λ n. subst (WaysStay v) (sym (write_refused len v p k pos buffer size t n).1) (ways_self v))

-- Set EOF.
module _ (len : ℕ) (v p : Bytes) (k e : ℕ) (t : Stamp) (octets : Octets v) (S : sound (total len) v ≡ true) where
  pub set_eof_ways : WaysStay v (set_eof len v p k e t).image
  set_eof_ways =
      at_or_off (set_eof len v p k e t).number 0
      (λ z. stay (sound_facts (total len) v S) (names_carry (set_eof_done len v p k e t octets z).done.names))
      (λ n. subst (WaysStay v) (sym (set_eof_refused len v p k e t n).1) (ways_self v))

-- Rename: the place that it names has the new name as capitals, all others the names that they had.
module _ (len : ℕ) (v p : Bytes) (k : ℕ) (q : Bytes) (j : ℕ) (S : sound (total len) v ≡ true) where
  abbrev a : ℕ
  a = spot (target v p k)

  abbrev new : List ℕ
  new = text (capitals q) 0 j

  -- an entry that is not refused
  labels : rename_number len v p k q j (target v p k) ≡ 0 → (a ≡ volume → ⊥)
      → Relabels (total len) v (renamed v a q j) a (home (target v p k)) × Bears (renamed v a q j) (at a) q (part 0 j)
  unfolding rename_number
  labels e z =
      let facts = sound_facts (total len) v S in
      let r = rows_off _ e refl in
      let E = entry_led facts (target_led facts p k) (r 3) (r 4) (r 5) z in
      let proper : proper_name q 0 j ≡ true = and_right _ _ (not_false _ (r 2)) in
      let free = open_name len v p k q j S z (r 6) in (
        now_relabels q j facts E.spot E.alive proper free,
        (entry_bears q j facts E.spot E.alive proper free).0,
      )

  carries : rename_number len v p k q j (target v p k) ≡ 0 → Carries v (renamed v a q j) (λ _. ⊥) (renamed_at v a new)
  unfolding rename_number
  carries e =
      let facts = sound_facts (total len) v S in
      let proper : proper_name q 0 j ≡ true = and_right _ _ (not_false _ (rows_off _ e refl 2)) in
      at_or_off a volume
      (λ z. rw (whole len v p k q j S z) (rw z (after_carries q j facts proper)))
      (λ z. let L = labels e z in now_carries q j L.0 L.1)

  pub rename_image : (rename len v p k q j).number ≡ 0 → (rename len v p k q j).image ≡ renamed v a q j
  unfolding rename settle
  rename_image e = (settle_accepted _ nothing v nothing _ e).1

  rename_carries : (rename len v p k q j).number ≡ 0 → Carries v (rename len v p k q j).image (λ _. ⊥) (renamed_at v a new)
  unfolding rename settle
  rename_carries e = rw (rename_image e) (carries e)

  pub rename_ways : (rename len v p k q j).number ≡ 0 → (xs : List ℕ) (s : ℕ) → Way v volume xs s
      → let w = (rename len v p k q j).image in Way w volume xs s × (path w xs ≡ replaced a new (volume ∷ xs) (path v xs))
  rename_ways e xs s w =
      let R = carried_path (sound_facts (total len) v S) (rename_carries e) xs s w (λ y c i. i) in
      (R.0, R.1 ∙ renamed_all v a new (volume ∷ xs))

  -- a way on which the place is not
  pub rename_stays : (xs : List ℕ) (s : ℕ) → count a (volume ∷ xs) ≡ 0 → Way v volume xs s → WayStays v (rename len v p k q j).image xs s
  rename_stays xs s c w =
      at_or_off (rename len v p k q j).number 0
      (λ e. let R = rename_ways e xs s w in (R.0, R.1 ∙ replaced_off a new v (volume ∷ xs) c))
      (λ n. subst (λ u. WayStays v u xs s) (sym (rename_refused len v p k q j n).1) (w, refl))

  -- the file that is renamed
  pub rename_holds : (h : ℕ) → sort v a ≡ file h → Holds v (rename len v p k q j).image a
  unfolding rename
  rename_holds h f =
      settled _ _ v _ _ (λ w. Holds v w a) (holds_self v a)
      (λ e.
      let R = labels e (λ z. file_directory (sym f ∙ rw z (volume_directory (sound_facts (total len) v S)))) in
      keeps_hold (relabel_keeps R.0) h f)
