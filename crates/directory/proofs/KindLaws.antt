-- The number of a kind.
use Prim.Native.Nat.{◌≤◌}
use native.Mathlib.Omega.{arith}
use Rattle.model.specs.Kinds.{kind_number}
use Rattle.model.specs.declared.Kind.{Kind}
use Rattle.model.specs.declared.Kind.TheVariants.{Seedling, Sapling, Tree, Directory}

pub kind_least : (k : Kind) → 1 ≤ kind_number k
kind_least (Seedling b) = omega arith
kind_least (Sapling b) = omega arith
kind_least (Tree b) = omega arith
kind_least (Directory b) = omega arith
