-- Free blocks counted: where each block of a list is given back, that many more are free.
use Prim.Native.Nat.{ℕ, ◌+◌, ◌≤◌, ◌<◌}
use mathlib.Core.Path.{◌≡◌, refl}
use mathlib.Core.List.{List, [], ◌∷◌}
use lib.ListN.{length}
use native.Mathlib.Omega.{arith}
use Rattle.model.specs.Bytes.{Bytes, sum, count, is}
use Rattle.model.specs.Map.{free, room}
use Rattle.model.specs.Directory.{map_place}
use Rattle.model.proofs.SumLaws.{is_self}
use Rattle.model.proofs.Laws.Weigh.{upto, upto_eq, upto_add, upto_zero}
use Rattle.model.proofs.Laws.Room.{upto_is, room_upto}

-- each element of a list counted by its number
count_upto : (n : ℕ) (bs : List ℕ) → ((b : ℕ) → 1 ≤ count b bs → b < n) → upto n (λ b. count b bs) ≡ length bs
unfolding sum
count_upto n [] f = upto_zero n (λ b. 0) (λ i l. refl)
count_upto n (x ∷ bs) f =
    omega (
      arith,
      upto_add n (λ b. is b x) (λ b. count b bs),
      upto_is n x (f x (omega (arith, is_self x))),
      count_upto n bs (λ b c. f b (omega arith)),
    )

pub room_list : (n : ℕ) (v w : Bytes) (bs : List ℕ) → ((b : ℕ) → 1 ≤ count b bs → b < n)
    → ((b : ℕ) → b < n → free map_place w b ≡ free map_place v b + count b bs) → room map_place w n ≡ room map_place v n + length bs
room_list n v w bs low f =
    omega (
      arith,
      room_upto v n,
      room_upto w n,
      upto_eq n (free map_place w) (λ b. free map_place v b + count b bs) f,
      upto_add n (free map_place v) (λ b. count b bs),
      count_upto n bs low,
    )
