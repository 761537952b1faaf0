-- `twins::Roster::descend` meets its contract. Each turn stands at the node to which so many bits lead, and no node on the way has the name.
use mathlib.Core.Path.{◌≡◌}
use mathlib.Core.List.{List}
use mathlib.Core.Bool.{false}
use Prim.Native.Nat.{ℕ, ◌<◌, ◌≤◌}
use lib.ListN.{get_or}
use Rattle.model.specs.Bytes.{Bytes, view}
use Rattle.model.specs.Names.{alike}
use Rattle.twins.specs.Twins.{key_of, lefts, rights, walk, Alive}
use Rattle.twins.proofs.Roster.descend.Given as goal

-- i bits of name k lead to a node, and none before it on the way has the name
pub record On (f : Bytes) (xs : List ℕ) (k : ℕ) (l r : Bytes) (node i : ℕ) : Type 0 where
  pub inside : node < k
  pub late : i ≤ node
  pub alive : Alive l r (key_of f xs k) i
  pub there : walk l r (key_of f xs k) i ≡ node
  pub unlike : (e : ℕ) → e < i → alike f (get_or xs (walk l r (key_of f xs k) e) 0) (get_or xs k 0) ≡ false

abbrev pub invariant-loop-i : goal.invariant-loop-i
invariant-loop-i l = On (view l.self.img.now) l.self.places.now l.k (lefts l.nodes) (rights l.nodes) l.node l.i
