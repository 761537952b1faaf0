-- Destroy of a file or of an empty directory keeps soundness, and every other file as it was.
use Prim.Native.Nat.{ℕ, ◌+◌, ◌-◌, ◌*◌, ◌≤◌, ◌<◌}
use mathlib.Core.Path.{◌≡◌, refl, sym, ◌∙◌}
use mathlib.Core.List.{List, [], ◌∷◌}
use mathlib.Core.Bool.{Bool, true, false, not, false≢true}
use lib.Dec.{ltb, eqb}
use native.Mathlib.Omega.{arith}
use borrow.Author.Tests.{eqb-true, eq-eqb, ltb-true, ltb-false}
use Rattle.model.specs.Bytes.{Bytes, Octets, sum, count, is, ◌and◌}
use Rattle.model.specs.Map.{map_blocks, map_at, free, given, rest_clear}
use Rattle.model.specs.Directory.{Sort, inactive, directory, improper, file, sort_of, sort, is_active, is_directory, live, at, volume, map_place, active_count, key, kids, active}
use Rattle.model.specs.File.{blocks}
use Rattle.model.specs.Calls.{total, target, spot, home, given_all}
use Rattle.model.specs.Destroy.{destroyed, may_destroy, destroy_number, destroy}
use Rattle.model.specs.Sound.{sound, faults_of}
use Rattle.model.proofs.ByteLaws.{put_at, put_off, put_word_out, word_put_off, word_put_word, word_bound, octets_put, octets_put_word}
use Rattle.model.proofs.BitLaws.{is_both, free_most, map_at_in, given_out, given_free, given_octets, rest_given, MapSame, same_free, same_rest}
use Rattle.model.proofs.SumLaws.{is_self, sum_mem, count_none}
use Rattle.model.proofs.Laws.Total.{total_one}
use Rattle.model.proofs.TestLaws.{and_left, and_right}
use Rattle.model.proofs.Laws.Sound.{deep, top, Sound, sound_facts, facts_sound}
use Rattle.model.proofs.Laws.Keep.{sort_at}
use Rattle.model.proofs.Laws.Facts.{own_mine, mine_in, mine_once, mine_off, kid_once, seen_directory}
use Rattle.model.proofs.Laws.One.{Place, in_slot, in_count, Apart, Step, Others, Change, leaf, inactive_directory, off_blocks, slot_map, slot_head, head_mine, one_entry, one_sound, one_others}
use Rattle.model.proofs.Laws.Spelling.{twins_change}
use Rattle.model.proofs.Laws.Lookup.{rows_off, not_false, entry_led, target_led}
use Rattle.model.proofs.Laws.Settled.{settled, others_self}

-- Blocks given back.
pub all_out : (m : ℕ) (v : Bytes) (bs : List ℕ) (i : ℕ) → ((b : ℕ) → 1 ≤ count b bs → i ≡ map_at m b → ⊥) → given_all m v bs i ≡ v i
unfolding given_all sum
all_out m v [] i f = refl
all_out m v (b ∷ bs) i f = all_out m (given m v b) bs i (λ c h. f c (omega arith)) ∙ given_out m v b i (f b (omega (arith, is_self b)))

pub all_octets : (m : ℕ) (v : Bytes) (bs : List ℕ) → Octets v → Octets (given_all m v bs)
unfolding given_all
all_octets m v [] o = o
all_octets m v (b ∷ bs) o = all_octets m (given m v b) bs (given_octets m v b o)

pub all_free : (m : ℕ) (v : Bytes) (bs : List ℕ) → Octets v → ((c : ℕ) → free m v c + count c bs ≤ 1)
    → (c : ℕ) → free m (given_all m v bs) c ≡ free m v c + count c bs
unfolding given_all sum
all_free m v [] o f c = omega arith
all_free m v (b ∷ bs) o f c =
    let none : free m v b ≡ 0 = omega (arith, f b, is_self b) in
    let one : (c : ℕ) → free m (given m v b) c ≡ free m v c + is c b = λ c.
    given_free m v b c o ∙ rw none (omega (arith, is_both b c c b sym sym)) in
    omega (arith, all_free m (given m v b) bs (given_octets m v b o) (λ c. omega (arith, f c, one c)) c, one c)

pub all_rest : (m n : ℕ) (v : Bytes) (bs : List ℕ) → Octets v → ((c : ℕ) → 1 ≤ count c bs → c < n) → rest_clear m v n ≡ true
    → rest_clear m (given_all m v bs) n ≡ true
unfolding given_all sum
all_rest m n v [] o f r = r
all_rest m n v (b ∷ bs) o f r =
    all_rest m n (given m v b) bs (given_octets m v b o) (λ c h. f c (omega arith)) (rest_given m v b n o (f b (omega (arith, is_self b))) r)

-- Active entries.
pub live_active : (K : Sort) → is_active K ≡ true → live K ≡ 1
live_active inactive e = absurd (false≢true e)
live_active directory e = refl
live_active improper e = refl
live_active (file h) e = refl

pub dead : (K : Sort) → live K ≡ 0 → K ≡ inactive
dead inactive e = refl
dead directory e = absurd (omega arith)
dead improper e = absurd (omega arith)
dead (file h) e = absurd (omega arith)

-- a is active, with no active entry below it
pub record Destroys (n : ℕ) (v : Bytes) (a d : ℕ) : Type 0 where
  pub octets : Octets v
  pub sound : Sound n v
  pub spot : Place v a d
  pub alive : live (sort v a) ≡ 1
  pub empty : active v (kids v a) ≡ 0

module _ {n : ℕ} {v : Bytes} {a d : ℕ} (D : Destroys n v a d) where
  open D use {octets, sound as S, spot as P, alive, empty}

  abbrev gone : Bytes
  gone = destroyed map_place v d a

  abbrev given_back : Bytes
  given_back = given_all map_place v (blocks v a)

  pub low : (b : ℕ) → 1 ≤ count b (blocks v a) → b < n
  low b h = mine_in S b (own_mine S a b P.seen h)

  -- no block of a is free
  lone : (b : ℕ) → free map_place v b + count b (blocks v a) ≤ 1
  lone b = go (ltb 0 (count b (blocks v a))) refl
    where
      go : (c : Bool) → ltb 0 (count b (blocks v a)) ≡ c → free map_place v b + count b (blocks v a) ≤ 1
      go true e =
          omega (
            arith,
            mine_once S b (own_mine S a b P.seen (ltb-true 0 (count b (blocks v a)) e)),
            total_one (kids v) (λ s. count b (blocks v s)) a deep volume top P.seen,
          )
      go false e = omega (arith, ltb-false 0 (count b (blocks v a)) e, free_most map_place v b)

  count_map : (i j : ℕ) → j < 512 → i ≡ key v d * 512 + j → map_place * 512 ≤ i → i < map_place * 512 + map_blocks n * 512 → ⊥
  count_map i j l e g h = mine_off S (key v d) j (head_mine S P) l (rw e at g) (rw e at h)

  gone_map : MapSame map_place n given_back gone
  unfolding destroyed
  gone_map i g h =
      put_off _ (at a) 0 i (λ e. slot_map S P i g h (omega arith) (omega arith))
      ∙ put_word_out _ (key v d * 512 + 0x25) _ i (λ p q. count_map i (i - key v d * 512) (omega arith) (omega arith) g h)

  gone_out : Apart v gone a d
  unfolding destroyed map_at
  gone_out b j m l far =
      put_off _ (at a) 0 _ (λ e. far (in_slot (omega arith) (omega arith)))
      ∙ put_word_out _ (key v d * 512 + 0x25) _ _ (λ p q. far (in_count (omega arith) (omega arith) (omega arith)))
      ∙ all_out map_place v (blocks v a) _ (λ c h e. mine_off S b j m l (omega arith) (omega (arith, map_at_in map_place n c (low c h))))

  pub gone_step : Step n v gone a d
  gone_step = record { sound = S; spot = P; out = gone_out }

  pub gone_sort : sort gone a ≡ inactive
  unfolding destroyed sort_of
  gone_sort = sort_at gone a P.proper ∙ rw (put_at _ (at a) 0) refl

  gone_count : active_count gone (key v d) ≡ active_count v (key v d) - 1
  unfolding destroyed
  gone_count =
      word_put_off _ (at a) 0 (key v d * 512 + 0x25)
      (λ p q. slot_head S P d (at a - key v d * 512) P.home P.holds (omega arith) (omega arith) (omega arith) (omega arith))
      ∙ word_put_word _ (key v d * 512 + 0x25) (active_count v (key v d) - 1) (omega (arith, word_bound v (key v d * 512 + 0x25) octets))

  gone_active : 1 ≤ active_count v (key v d)
  gone_active =
      omega
      (arith, alive, (seen_directory S d P.home P.holds).counted, sum_mem (λ s. live (sort v s)) a (kids v d) P.inside)

  -- the blocks of a are free
  pub gone_free : (b : ℕ) → b < n → free map_place gone b ≡ free map_place v b + count b (blocks v a)
  gone_free b l = same_free map_place n given_back gone gone_map b l ∙ all_free map_place v (blocks v a) octets lone b

  -- below a no slot is active
  pub gone_bare : (s : ℕ) → 1 ≤ count s (kids v a) → sort v s ≡ inactive
  gone_bare s h = dead (sort v s) (omega (arith, empty, sum_mem (λ s. live (sort v s)) s (kids v a) h))

  gone_change : Change n v gone a d 0 [] (kids v a) []
  gone_change =
      record {
        step = gone_step;
        old = refl;
        new = leaf gone a (λ e. inactive_directory (sym gone_sort ∙ e));
        off = gone_bare;
        off' = λ s h. absurd (count_none s h);
        held = λ s h. absurd (count_none s h);
        level = omega arith;
        entry = λ m. rw gone_sort (unfold faults_of in omega arith);
        counted = rw (gone_sort, gone_count, alive) (omega (arith, gone_active));
        unlike = twins_change v gone a (kids v d) (omega (arith, kid_once S d a P.home P.inside)) (λ t c k. one_entry gone_step d t P.home c k)
            (λ t c k e f. absurd (false≢true (rw gone_sort at e)))
            (seen_directory S d P.home P.holds).unlike;
        balance = λ b l. omega (arith, off_blocks gone a b gone_sort, gone_free b l);
        rest = same_rest map_place n given_back gone gone_map (all_rest map_place n v (blocks v a) octets low S.rest);
      }

  pub gone_sound : Sound n gone
  gone_sound = one_sound gone_change

  pub gone_others : Others v gone a
  gone_others = one_others gone_change

  pub gone_octets : Octets gone
  unfolding destroyed
  gone_octets = octets_put _ (at a) 0 (octets_put_word _ _ _ (all_octets map_place v (blocks v a) octets)) (omega arith)

-- what may be destroyed has no active entry below it
none_below : {n : ℕ} {v : Bytes} {a d : ℕ} → Sound n v → Place v a d → may_destroy v a ≡ true → active v (kids v a) ≡ 0
unfolding may_destroy
none_below {v = v} {a} S P e = go (sort v a) refl (not_true _ (and_right _ _ (and_right _ _ e)))
  where
    not_true : (b : Bool) → not b ≡ true → b ≡ false
    not_true true f = absurd (false≢true f)
    not_true false f = refl

    bare : (c : ℕ) → (true and not (eqb c 0)) ≡ false → eqb c 0 ≡ true
    bare c g = unfold ◌and◌ in not_false (eqb c 0) g

    idle : (sort v a ≡ directory → ⊥) → active v (kids v a) ≡ 0
    idle f = rw (leaf v a f) (unfold sum in refl)

    go : (K : Sort) → sort v a ≡ K → (is_directory (sort v a) and not (eqb (active_count v (key v a)) 0)) ≡ false → active v (kids v a) ≡ 0
    go inactive f g = idle (λ h. let z : ◌≡◌ {A = ℕ} 0 1 = cc in omega arith)
    go improper f g = idle (λ h. let z : ◌≡◌ {A = ℕ} 0 1 = cc in omega arith)
    go (file h) f g = idle (λ h. let z : ◌≡◌ {A = ℕ} 0 1 = cc in omega arith)
    go directory f g =
        sym (seen_directory S a P.seen f).counted ∙ eqb-true _ 0 (bare (active_count v (key v a)) (rw f at g))

-- The call.
module _ (len : ℕ) (v p : Bytes) (k : ℕ) (octets : Octets v) (S : sound (total len) v ≡ true) where
  pub done : destroy_number len v p k (target v p k) ≡ 0 → Destroys (total len) v (spot (target v p k)) (home (target v p k))
  unfolding destroy_number may_destroy
  done e =
      let facts = sound_facts (total len) v S in
      let r = rows_off _ e refl in
      let may : may_destroy v (spot (target v p k)) ≡ true = not_false _ (r 6) in
      let E = entry_led facts (target_led facts p k) (r 3) (r 4) (r 5) (not_volume_law (and_left _ _ may)) in
      record { octets = octets; sound = facts; spot = E.spot; alive = live_active (sort v (spot (target v p k))) E.alive; empty = none_below facts E.spot may }
    where
      not_volume_law : not (eqb (spot (target v p k)) volume) ≡ true → spot (target v p k) ≡ volume → ⊥
      not_volume_law f z = false≢true (rw (eq-eqb (spot (target v p k)) volume z) at f)

  Right : Bytes → Type 0
  Right w = (sound (total len) w ≡ true) × Others v w (spot (target v p k)) × Octets w

  kept : Right (destroy len v p k).image
  unfolding destroy Right
  kept =
      settled _ _ v _ _ Right (S, others_self v (spot (target v p k)), octets)
      (λ e. let D = done e in rw D.sound.place (facts_sound (gone_sound D), gone_others D, gone_octets D))

  pub destroy_sound : sound (total len) (destroy len v p k).image ≡ true
  unfolding Right
  destroy_sound = kept.0

  pub destroy_others : Others v (destroy len v p k).image (spot (target v p k))
  unfolding Right
  destroy_others = kept.1

  pub destroy_octets : Octets (destroy len v p k).image
  unfolding Right
  destroy_octets = kept.2
