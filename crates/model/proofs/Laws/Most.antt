-- How many blocks there are bounds every chain and every count, so that no number stored overflows.
use Prim.Native.Nat.{ℕ, zero, suc, ◌+◌, ◌-◌, ◌*◌, ◌≤◌}
use mathlib.Core.Path.{◌≡◌, refl, sym, ap}
use mathlib.Core.List.{List, [], ◌∷◌}
use mathlib.Core.Bool.{Bool, true, false}
use lib.Dec.{leb, eqb}
use lib.ListN.{length}
use native.Mathlib.Omega.{arith}
use native.Mathlib.Nat.{mul-le-mul_right}
use borrow.Author.Tests.{eqb-true, leb-false}
use Rattle.model.specs.Bytes.{Bytes, sum, count, run, is, one_if}
use Rattle.model.specs.Directory.{Sort, inactive, directory, improper, file, sort, live, volume, key, used, kids, active}
use Rattle.model.specs.File.{nodes, blocks_in, blocks_of, blocks}
use Rattle.model.specs.Sound.{outside, directory_faults, faults_of, faults}
use Rattle.model.proofs.BitLaws.{is_both}
use Rattle.model.proofs.SumLaws.{sum_add, sum_ext, sum_le, sum_ones, run_has, run_in_law, run_length}
use Rattle.model.proofs.Laws.Total.{reach, weight_le, total_add, total_scale, total_swap}
use Rattle.model.proofs.Laws.Frame.{chain_length}
use Rattle.model.proofs.Laws.Sound.{deep, top, sums, mine, Sound}
use Rattle.model.proofs.Laws.Keep.{directory_blocks}
use Rattle.model.proofs.Laws.Facts.{Seen, outside_le, below, seen_directory}

-- each block of a list is one of the volume's n, or outside
length_le : (n : ℕ) (bs : List ℕ) → length bs ≤ sum (λ b. count b bs) (run 0 n) + outside n bs
unfolding sum
length_le n [] = omega arith
length_le n (x ∷ bs) =
    omega (
      arith,
      length_le n bs,
      sum_add (λ b. is b x) (λ b. count b bs) (run 0 n),
      sum_ext (λ b. is b x) (is x) (run 0 n) (λ b. is_both b x x b sym sym),
      one (leb n x) refl,
    )
  where
    one : (b : Bool) → leb n x ≡ b → 1 ≤ count x (run 0 n) + one_if b
    one true e = omega arith
    one false e = omega (arith, run_has n 0 x (omega arith) (omega (arith, leb-false n x e)))

nodes_some : (v : Bytes) (h q k : ℕ) → 1 ≤ length (blocks_in (nodes v h q k))
unfolding nodes
nodes_some v zero q k = omega arith
nodes_some v (suc h) q k = omega arith

-- an active entry has a block, or a fault
live_le : (n : ℕ) (v : Bytes) (K : Sort) (m q s : ℕ) → live K ≤ length (blocks_of K v s) + faults_of K n v m q s
unfolding blocks_of faults_of directory_faults
live_le n v inactive m q s = omega arith
live_le n v improper m q s = omega arith
live_le n v (file h) m q s = omega (arith, nodes_some v h 0 (key v s))
live_le n v directory m q s = let z = some (used v s) in rw (chain_length v (key v s) (used v s)) (omega arith)
  where
    some : (u : ℕ) → 1 ≤ u + is u 0
    some zero = omega arith
    some (suc u) = omega arith

module _ {n : ℕ} {v : Bytes} (S : Sound n v) where
  blocks_most : sums v (λ _ _ s. length (blocks v s)) ≤ n
  blocks_most =
      omega (
        arith,
        S.right,
        run_length n 0,
        weight_le (kids v) (λ m q s. sum (λ b. count b (blocks v s)) (run 0 n) + faults n v m q s) (λ _ _ s. length (blocks v s)) deep volume top
            (λ m q s. omega (arith, length_le n (blocks v s), outside_le n v m q s)),
        total_add (kids v) (λ _ _ s. sum (λ b. count b (blocks v s)) (run 0 n)) (faults n v) deep volume top,
        total_swap (kids v) (λ b s. count b (blocks v s)) deep volume top (run 0 n),
        sum_le (mine v) (λ _. 1) (run 0 n) (λ b h. omega (arith, S.once b (omega (arith, run_in_law n 0 b h)))),
        sum_ones (run 0 n),
      )

  module _ (d : ℕ) (h : Seen v d) (e : sort v d ≡ directory) where
    own_d : (m q s : ℕ) → live (sort v s) + is d s * (used v d - 1) ≤ length (blocks v s) + faults n v m q s
    own_d m q s = go (eqb d s) refl
      where
        one : 1 + (used v d - 1) ≤ length (blocks v d)
        one = rw (directory_blocks v d e, chain_length v (key v d) (used v d)) (omega (arith, (seen_directory S d h e).some))

        go : (b : Bool) → eqb d s ≡ b → live (sort v s) + one_if b * (used v d - 1) ≤ length (blocks v s) + faults n v m q s
        go true f = rw (← eqb-true d s f) (omega (arith, one, ap live e))
        go false f = omega (arith, live_le n v (sort v s) m q s)

    -- a directory's blocks and its active entries are together no more than the volume's blocks
    pub directory_most : used v d + active v (kids v d) ≤ n
    directory_most =
        let y : ℕ = used v d - 1 in
        let hy : 1 * y ≤ reach (kids v) d deep volume top * y = mul-le-mul_right y h in
        omega (
          arith,
          S.right,
          hy,
          blocks_most,
          (seen_directory S d h e).some,
          root_live,
          below S (λ _ s. live (sort v s)) d h e,
          total_scale (kids v) (λ _ _ s. is d s) y deep volume top,
          weight_le (kids v) (λ m q s. length (blocks v s) + faults n v m q s) (λ _ _ s. live (sort v s) + is d s * y) deep volume top
              (λ m q s. own_d m q s),
          total_add (kids v) (λ _ _ s. length (blocks v s)) (faults n v) deep volume top,
          total_add (kids v) (λ _ _ s. live (sort v s)) (λ _ _ s. is d s * y) deep volume top,
        )
      where
        root_live : 1 ≤ active v top
        root_live = unfold sum sort in omega arith
