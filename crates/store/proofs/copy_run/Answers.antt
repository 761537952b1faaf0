-- `store::copy_run` meets its contract: the part of dst is that of src.
use mathlib.Core.Path.{◌≡◌, refl, ap, ◌∙◌}
use Prim.Native.Nat.{◌+◌, ◌-◌}
use lib.ListN.{take, drop}
use native.Mathlib.Omega.{arith}
use Rattle.model.proofs.ByteLaws.{agree_part, length_part}
use Rattle.store.proofs.Runs.{part_pasted}
use Rattle.store.proofs.copy_run.Goals as goal

pub returns : goal.returns
returns c =
    let a = c.args in
    let d : a.at + a.k - a.at ≡ a.k = omega arith in
    let e : c.copy_from_slice.new.self ≡ take a.k (drop a.at a.src.now) = c.copy_from_slice.ensures.after ∙ ap (λ n. take n (drop a.at a.src.now)) d in
    part_pasted a.dst.now c.copy_from_slice.new.self a.to (a.to + a.k) a.k _ refl (omega arith) (rw e (length_part a.src.now a.at a.k (omega arith)))
    (rw e (agree_part a.src.now a.at a.k))
