-- Free blocks counted: a move keeps the sum of a tree's blocks and the free ones. New keys, with room for them.
use Prim.Native.Nat.{ℕ, zero, suc, ◌+◌, ◌≤◌, ◌<◌}
use mathlib.Core.Path.{◌≡◌, refl, sym, ◌∙◌}
use native.Mathlib.Omega.{arith}
use borrow.Author.Tests.{lt-leb}
use Rattle.model.specs.Bytes.{Bytes, is}
use Rattle.model.specs.Map.{free, room, lowest}
use Rattle.model.specs.Directory.{map_place}
use Rattle.model.specs.File.{first_below}
use Rattle.model.specs.Grow.{topped, raised, raised_key}
use Rattle.model.proofs.BitLaws.{is_no, lowest_free, room_lowest}
use Rattle.model.proofs.SumLaws.{is_self}
use Rattle.model.proofs.Laws.Weigh.{upto, upto_eq, upto_add, upto_one, upto_zero, upto_ones, weigh, each, tardy, has, size, weigh_add, weigh_le, weigh_zero, leaves, has_split, Gauge}
use Rattle.model.proofs.Laws.Move.{Fit, Move, move_fit, fit_off, free_out}
use Rattle.model.proofs.Laws.Take.{topped_move, topped_weigh, topped_kept, Work, work_none, work_then}

pub upto_is : (n z : ℕ) → z < n → upto n (λ b. is b z) ≡ 1
upto_is n z l = omega (arith, upto_one n z (λ b. is b z) (λ _. 0) l (λ j m d. is_no j z d), upto_zero n (λ _. 0) (λ _ _. refl), is_self z)

-- each block of a tree counted by its number
swap_sums : (n : ℕ) (v : Bytes) (h q k : ℕ) → upto n (has v h q k) ≡ weigh (each (λ x. upto n (λ b. is b x))) v h q k
unfolding upto
swap_sums zero v h q k = sym (weigh_zero (each (λ _. 0)) v h q k (λ _ _ _ _. refl))
swap_sums (suc n) v h q k = omega (arith, swap_sums n v h q k, weigh_add (each (λ x. upto n (λ b. is b x))) (each (is n)) v h q k)

tree_size : (n : ℕ) (v : Bytes) (h q k : ℕ) → ((b : ℕ) → 1 ≤ has v h q k b → b < n) → upto n (has v h q k) ≡ size v h q k
tree_size n v h q k f =
    omega (
      arith,
      swap_sums n v h q k,
      weigh_le (each (λ x. upto n (λ b. is b x))) (each (λ _. 1)) v h q k (λ _ _ b t. omega (arith, upto_is n b (f b t))),
      weigh_le (each (λ _. 1)) (each (λ x. upto n (λ b. is b x))) v h q k (λ _ _ b t. omega (arith, upto_is n b (f b t))),
    )

pub room_upto : (w : Bytes) (n : ℕ) → room map_place w n ≡ upto n (free map_place w)
unfolding room upto
room_upto w zero = refl
room_upto w (suc n) = omega (arith, room_upto w n)

-- a tree has no more blocks than the volume
pub size_most : {n : ℕ} {w : Bytes} {h q k : ℕ} → Fit n w h q k → size w h q k ≤ n
size_most {n} {w} {h} {q} {k} F =
    omega (arith, tree_size n w h q k F.range, upto_ones n (has w h q k) (λ b l. omega (arith, F.apart b l)))

-- used and free blocks together stay as many
pub move_room : {n : ℕ} {w : Bytes} {h q k : ℕ} {w' : Bytes} {h' q' k' : ℕ} → Fit n w h q k → Move n w h q k w' h' q' k'
    → size w' h' q' k' + room map_place w' n ≡ size w h q k + room map_place w n
move_room {n} {w} {h} {q} {k} {w'} {h'} {q'} {k'} F T =
    omega (
      arith,
      room_upto w n,
      room_upto w' n,
      tree_size n w h q k F.range,
      tree_size n w' h' q' k' T.range,
      upto_add n (has w h q k) (free map_place w),
      upto_add n (has w' h' q' k') (free map_place w'),
      upto_eq n (λ b. has w' h' q' k' b + free map_place w' b) (λ b. has w h q k b + free map_place w b) T.level,
    )

pub first_zero : (l : ℕ) → first_below l 0 ≡ 0
unfolding first_below
first_zero zero = refl
first_zero (suc l) = first_zero l

-- a new key
topped_work : {n : ℕ} {w : Bytes} {h k : ℕ} (e : ℕ) → 1 ≤ e → (F : Fit n w h 0 k) (z : ℕ) → z < n → free map_place w z ≡ 1
    → Work n e w h 0 k (topped map_place w k z) (suc h) 0 z
topped_work {w = w} {h} {k} e some F z zn zf =
    record {
      move = topped_move F z zn zf;
      timely = λ t. topped_weigh F z zn zf (tardy e) ∙ rw (t, first_zero (suc h), lt-leb e 0 some) refl;
      grows = λ g. omega (arith, topped_weigh F z zn zf g);
      data_kept = λ b m.
          let in_tree : 1 ≤ has w h 0 k b = omega (arith, has_split w h 0 k b) in
          topped_kept F z zn zf b (free_out F z zn zf b in_tree) (fit_off F b in_tree);
      fresh = λ b m y. absurd (omega (arith, topped_weigh F z zn zf (leaves b)));
    }

-- growth by new keys alone: nodes of number 0 above the height h
abbrev pub Keyed : Bytes → ℕ → ℕ → Bytes → ℕ → ℕ → Type 0
Keyed v h k w g l = (x : Gauge) → ((m b : ℕ) → h ≤ m → x (suc m) 0 b ≡ 0) → weigh x w g 0 l ≡ weigh x v h 0 k

-- with room for c new keys, c are taken
pub record Raised (n e c : ℕ) (w : Bytes) (h k : ℕ) (w' : Bytes) (h' k' : ℕ) : Type 0 where
  pub work : Work n e w h 0 k w' h' 0 k'
  pub more : size w' h' 0 k' ≡ size w h 0 k + c
  pub keyed : Keyed w h k w' h' k'

pub raised_work : (n e c h h' k : ℕ) (w : Bytes) → 1 ≤ e → h' ≡ c + h → Fit n w h 0 k → c ≤ room map_place w n
    → Raised n e c w h k (raised map_place n w k c) h' (raised_key map_place n w k c)
unfolding raised raised_key
raised_work n e zero h h' k w some s F l = let t : h' ≡ h = omega arith in rw t (record { work = work_none e F; more = omega arith; keyed = λ x o. refl })
raised_work n e (suc c) h h' k w some s F l =
    let z = lowest map_place w n in
    let zn = room_lowest map_place w n (omega arith) in
    let zf = lowest_free map_place w n zn in
    let A = topped_work e some F z zn zf in
    let one = topped_weigh F z zn zf (each (λ _. 1)) in
    let R = raised_work n e c (suc h) h' z (topped map_place w k z) some (omega arith) (move_fit F A.move) (omega (arith, move_room F A.move, one)) in
    record {
      work = work_then A R.work;
      more = omega (arith, R.more, one);
      keyed = λ x o. R.keyed x (λ m b t. o m b (omega arith)) ∙ topped_weigh F z zn zf x ∙ rw (o h z (omega arith)) (omega arith);
    }
