-- `create::last_block` meets its contract: the last block of what is left is that of the chain.
use Prim.Native.Nat.{◌<◌, ◌-◌}
use mathlib.Core.Path.{◌≡◌}
use Rattle.model.specs.Bytes.{view}
use Rattle.model.specs.Directory.{chain}
use Rattle.model.specs.Create.{last_block}
use Rattle.directory.specs.Search.{Each}
use Rattle.create.proofs.last_block.Given as goal

abbrev pub invariant-loop : goal.invariant-loop
invariant-loop l =
    (last_block (view l.img) l.last l.block (l.used - l.counter) ≡ last_block (view l.img) 0 l.key l.used)
    × Each (λ b. b < l.n) (chain (view l.img) l.block (l.used - l.counter))
