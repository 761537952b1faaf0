-- Destroy: the path leads to nothing, in the directory it led to, and the blocks of the entry are free.
use Prim.Native.Nat.{ℕ, ◌+◌}
use mathlib.Core.Path.{◌≡◌, refl, ap, ◌∙◌}
use mathlib.Core.List.{List}
use mathlib.Core.Bool.{true, false≢true}
use lib.ListN.{length}
use Rattle.model.specs.Bytes.{Bytes, Octets}
use Rattle.model.specs.Names.{Part, parts, same_name}
use Rattle.model.specs.Map.{room}
use Rattle.model.specs.Directory.{inactive, sort, is_active, at, map_place, kids, missing, there, lookup}
use Rattle.model.specs.File.{blocks}
use Rattle.model.specs.Refusals.{settle}
use Rattle.model.specs.Calls.{total, target, home, spot, last_part, nothing}
use Rattle.model.specs.Destroy.{destroyed, destroy_number, destroy}
use Rattle.model.proofs.Laws.Sound.{Sound, sound_facts}
use Rattle.model.proofs.Laws.One.{one_apart}
use Rattle.model.proofs.Laws.Lookup.{rows_off, not_false, entry_led, target_led, seek_some}
use Rattle.model.proofs.Laws.Destroy.{Destroys, low, gone_step, gone_sort, gone_free, gone_sound, done}
use Rattle.model.proofs.Laws.Settled.{done_image}
use Rattle.paths.proofs.GoneLaws.{gone_stays}
use Rattle.paths.proofs.KeptLaws.{destroy_path}
use Rattle.theorems.proofs.Spelled.{AlikeNames, alike_self}
use Rattle.theorems.proofs.Ways.{Reaches, path_reaches, is_there_law, reaches_names}
use Rattle.theorems.proofs.Carried.{carried, step_holds, last_gone}
use Rattle.theorems.proofs.Counting.{room_list}

module _ {n : ℕ} {v : Bytes} {a d : ℕ} (D : Destroys n v a d) where
  open D use {sound as S, spot as P}

  abbrev gone : Bytes
  gone = destroyed map_place v d a

  gone_room : room map_place gone n ≡ room map_place v n + length (blocks v a)
  gone_room = room_list n v gone (blocks v a) (low D) (gone_free D)

  -- the name, and every other spelling of the path
  gone_missing : {p q : Bytes} {y : Part} (ps qs : List Part) → is_active (sort v a) ≡ true → same_name v (at a) p y ≡ true → Reaches v p ps d y → AlikeNames p q ps qs
      → lookup gone q qs ≡ missing d
  gone_missing ps qs alive m R N =
      let T = gone_step D in
      let C = carried R (reaches_names R N) (λ xs. gone_stays D xs d (one_apart T)) (step_holds T) in
      last_gone T (gone_sound D) C.1 alive m C.2 (λ f _. false≢true (rw (gone_sort D) at f))

-- What an accepted destroy of the path p of k bytes does to the volume v of n blocks.
pub record Destroyed (n : ℕ) (v p : Bytes) (k : ℕ) (w : Bytes) : Type 0 where
  pub was : target v p k ≡ there (home (target v p k)) (spot (target v p k))
  pub gone : target w p k ≡ missing (home (target v p k))
  -- by every other spelling too
  pub nowhere : (q : Bytes) (i : ℕ) → AlikeNames p q (parts p k) (parts q i) → target w q i ≡ missing (home (target v p k))
  -- every path to another entry leads there still
  pub elsewhere : (o : Bytes) (i d s : ℕ) → target v o i ≡ there d s → (s ≡ spot (target v p k) → ⊥) → target w o i ≡ there d s
  pub idle : sort w (spot (target v p k)) ≡ inactive
  pub freed : room map_place w n ≡ room map_place v n + length (blocks v (spot (target v p k)))

module _ (len : ℕ) (v p : Bytes) (k : ℕ) (octets : Octets v) where
  destroyed_is : destroy_number len v p k (target v p k) ≡ 0
      → ((o : Bytes) (i d s : ℕ) → target v o i ≡ there d s → (s ≡ spot (target v p k) → ⊥)
      → target (destroyed map_place v (home (target v p k)) (spot (target v p k))) o i ≡ there d s)
      → Destroyed (total len) v p k (destroyed map_place v (home (target v p k)) (spot (target v p k)))
  unfolding destroy_number spot
  destroyed_is e still =
      let r = rows_off _ e refl in
      let sound = not_false _ (r 1) in
      let D = done len v p k octets sound e in
      let S = D.sound in
      let P = D.spot in
      let E = entry_led S (target_led S p k) (r 3) (r 4) (r 5) P.proper in
      let R = path_reaches v p (parts p k) (r 3) (r 4) (λ f. P.proper (ap spot f)) in
      let m = (seek_some v p (last_part (parts p k)) (kids v (home (target v p k))) (spot (target v p k)) E.found).2 in
      record {
        was = is_there_law (target v p k) (r 3) (r 4) (r 5);
        gone = gone_missing D (parts p k) (parts p k) E.alive m R (alike_self p (parts p k));
        nowhere = λ q i N. gone_missing D (parts p k) (parts q i) E.alive m R N;
        elsewhere = still;
        idle = gone_sort D;
        freed = gone_room D;
      }

  destroy_image : (destroy len v p k).number ≡ 0 → Sound (total len) v
      → (destroy len v p k).image ≡ destroyed map_place v (home (target v p k)) (spot (target v p k))
  unfolding destroy settle
  destroy_image e S =
      done_image _ nothing v nothing _ e ∙ ap (λ m. destroyed m v (home (target v p k)) (spot (target v p k))) S.place

  pub destroy_gives : (destroy len v p k).number ≡ 0 → Destroyed (total len) v p k (destroy len v p k).image
  unfolding destroy settle destroy_number
  destroy_gives e =
      let sound = not_false _ (rows_off _ e refl 1) in
      let image = destroy_image e (sound_facts (total len) v sound) in
      rw image (destroyed_is e (λ o i d s f n. rw image at (destroy_path len v p k octets sound o i d s n f)))
