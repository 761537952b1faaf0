-- Growing step by step: what each step keeps, and the entry's blocks used.
use Prim.Native.Nat.{ℕ, zero, suc, ◌+◌, ◌-◌, ◌*◌, ◌≤◌, ◌<◌}
use mathlib.Core.Path.{◌≡◌, refl, sym}
use lib.ListN.{length}
use native.Mathlib.Omega.{arith}
use native.Mathlib.Numerals.{add-one}
use borrow.Author.Tests.{le-ltb}
use Rattle.model.specs.Bytes.{Bytes}
use Rattle.model.specs.Map.{map_blocks, map_at, room, lowest, first_free}
use Rattle.model.specs.Directory.{map_place, at, sort, key, eof}
use Rattle.model.specs.File.{height_for, height, nodes}
use Rattle.model.specs.Grow.{zeroed_from, topped, raised, raised_key}
use Rattle.model.specs.Write.{noted, grown, grown_key}
use Rattle.model.specs.declared.Stamp.{Stamp}
use Rattle.model.proofs.BitLaws.{lowest_free, lowest_from, room_lowest, map_at_in}
use Rattle.model.proofs.Laws.Weigh.{each, size, nodes_length}
use Rattle.model.proofs.Laws.Move.{Fit, Move, move_fit, fit_key, fit_below}
use Rattle.model.proofs.Laws.Take.{topped_move, topped_weigh}
use Rattle.model.proofs.Laws.Room.{move_room}
use Rattle.model.proofs.Laws.Pour.{zeroed}
use Rattle.model.proofs.Laws.Grown.{height_le, height_path}
use Rattle.facts.specs.Reached.{Deep}
use Rattle.growth.specs.Growth.{noted_as, grown_from, grown_key_from}

-- the map lies on the volume
pub map_fits : (n : ℕ) → 16 ≤ n → map_place * 512 + map_blocks n * 512 ≤ n * 512
unfolding map_blocks
map_fits n l = omega arith

pub bit_fits : (n b : ℕ) → 16 ≤ n → b < n → map_at map_place b < n * 512
bit_fits n b l m = omega (arith, map_at_in map_place n b m, map_fits n l)

pub first_lowest : (w : Bytes) (n : ℕ) → first_free map_place w 0 (n - 0) ≡ lowest map_place w n
first_lowest w n = sym (lowest_from map_place w n 0 (omega arith) (λ c l. absurd (omega arith)))

-- all blocks of a tree are on the volume
pub fit_deep : {n : ℕ} {w : Bytes} (h : ℕ) {q k : ℕ} → Fit n w h q k → Deep n w h k
fit_deep zero F = fit_key F
fit_deep (suc h) F = (fit_key F, λ i l z. fit_deep h (fit_below F l z))

-- New keys.
module _ (n tall goal k : ℕ) (w : Bytes) where
  abbrev low : ℕ
  low = lowest map_place w n

  abbrev topped_by : Bytes
  topped_by = topped map_place w k low

  raised_step : tall < goal → raised map_place n topped_by low (goal - (tall + 1)) ≡ raised map_place n w k (goal - tall)
  unfolding raised
  raised_step l = let e : goal - tall ≡ suc (goal - (tall + 1)) = omega arith in rw (e, raised) refl

  key_step : tall < goal → raised_key map_place n topped_by low (goal - (tall + 1)) ≡ raised_key map_place n w k (goal - tall)
  unfolding raised_key
  key_step l = let e : goal - tall ≡ suc (goal - (tall + 1)) = omega arith in rw (e, raised_key) refl

  pub raised_none : goal ≤ tall → raised map_place n w k (goal - tall) ≡ w
  unfolding raised
  raised_none l = let e : goal - tall ≡ 0 = omega arith in rw (e, raised) refl

  pub key_none : goal ≤ tall → raised_key map_place n w k (goal - tall) ≡ k
  unfolding raised_key
  key_none l = let e : goal - tall ≡ 0 = omega arith in rw (e, raised_key) refl

  module _ (F : Fit n w tall 0 k) (l : tall < goal) (m : goal - tall ≤ room map_place w n) where
    pub low_in : low < n
    low_in = room_lowest map_place w n (omega arith)

    step : Move n w tall 0 k topped_by (suc tall) 0 low
    step = topped_move F low low_in (lowest_free map_place w n low_in)

    fit_step : Fit n topped_by (tall + 1) 0 low
    fit_step = rw (add-one tall) (move_fit F step)

    room_step : goal - (tall + 1) ≤ room map_place topped_by n
    room_step = omega (arith, move_room F step, topped_weigh F low low_in (lowest_free map_place w n low_in) (each (λ _. 1)))

    -- one key more: the image x and the key z
    pub raise_on : (x : Bytes) (z : ℕ) → z ≡ low → x ≡ topped map_place w k z
        → Fit n x (tall + 1) 0 z
        × (goal - (tall + 1) ≤ room map_place x n)
        × (raised map_place n x z (goal - (tall + 1)) ≡ raised map_place n w k (goal - tall))
        × (raised_key map_place n x z (goal - (tall + 1)) ≡ raised_key map_place n w k (goal - tall))
    raise_on x z ez ex = rw (ex, ez) (fit_step, room_step, raised_step l, key_step l)

-- The whole of growing.
module _ {n : ℕ} {v : Bytes} {h k : ℕ} (F : Fit n v h 0 k) (o e : ℕ) (tall : h ≡ height_for o) (small : o < 16777216) where
  zero_still : Move n v h 0 k (zeroed_from v h k o) h 0 k
  zero_still = (zeroed F o (λ r l. rw tall (height_path o r small l))).still.move

  pub zero_fit : (x : Bytes) → x ≡ zeroed_from v h k o → Fit n x h 0 k
  zero_fit x ex = rw ex (move_fit F zero_still)

  pub zero_room : (x : Bytes) → x ≡ zeroed_from v h k o → room map_place x n ≡ room map_place v n
  zero_room x ex =
      let Z = (zeroed F o (λ r l. rw tall (height_path o r small l))).still in
      rw ex (omega (arith, Z.weights (each (λ _. 1)), move_room F Z.move))

  pub grown_same : e ≤ o → v ≡ grown_from map_place n v h k o e
  unfolding grown_from
  grown_same l = rw (le-ltb o e l, grown_from) (sym (raised_none n h (height_for e) k v (rw tall (height_le e o l))))

  pub key_same : e ≤ o → k ≡ grown_key_from map_place n v h k o e
  unfolding grown_key_from
  key_same l = rw (le-ltb o e l, grown_key_from) (sym (key_none n h (height_for e) k v (rw tall (height_le e o l))))

-- by the entry at s
pub grown_at : (m n : ℕ) (v : Bytes) (s e : ℕ) → grown_from m n v (height (sort v s)) (key v s) (eof v s) e ≡ grown m n v s e
unfolding grown_from grown
grown_at m n v s e = refl

pub grown_key_at : (m n : ℕ) (v : Bytes) (s e : ℕ) → grown_key_from m n v (height (sort v s)) (key v s) (eof v s) e ≡ grown_key m n v s e
unfolding grown_key_from grown_key
grown_key_at m n v s e = refl

-- The entry.
pub noted_at : (v : Bytes) (s h k e : ℕ) (t : Stamp) → noted_as v (at s) h k (length (nodes v h 0 k)) e t ≡ noted v s h k e t
unfolding noted_as noted
noted_at v s h k e t = refl

-- blocks used follow from the free ones: used and free together stay as many
module _ {n : ℕ} {w : Bytes} {h k : ℕ} {w' : Bytes} {h' k' : ℕ} (F : Fit n w h 0 k) (T : Move n w h 0 k w' h' 0 k') (used : ℕ) (u : used ≡ size w h 0 k) where
  pub used_after : used + room map_place w n - room map_place w' n ≡ length (nodes w' h' 0 k')
  used_after = omega (arith, move_room F T, nodes_length w' h' 0 k')

  pub room_after : room map_place w' n ≤ used + room map_place w n
  room_after = omega (arith, move_room F T)

  pub noted_after : (s e : ℕ) (t : Stamp) → noted_as w' (at s) h' k' (used + room map_place w n - room map_place w' n) e t ≡ noted w' s h' k' e t
  noted_after s e t = rw used_after (noted_at w' s h' k' e t)
