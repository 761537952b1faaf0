-- `marks::claim_chain` meets its contract. The loop's invariant: the claims of the chain that is left, after what is marked, are those of the whole.
use mathlib.Core.Path.{◌≡◌}
use Prim.Native.Nat.{◌-◌}
use lib.ListN.{length}
use Rattle.model.specs.Bytes.{view}
use Rattle.claims.specs.Claims.{claim, chain_claims}
use Rattle.marks.specs.Marks.{marks}
use Rattle.marks.proofs.claim_chain.Given as goal

abbrev pub invariant-loop : goal.invariant-loop
invariant-loop l =
    (length l.seen ≡ 8192)
    × (claim l.n (chain_claims (view l.img) l.previous l.b (l.used - l.counter)) (marks l.seen)
    ≡ claim l.n (chain_claims (view l.img) 0 l.key l.used) (marks l.initial.seen))
