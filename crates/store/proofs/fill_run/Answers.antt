-- `store::fill_run` meets its contract: the part is one byte repeated.
use mathlib.Core.Path.{◌≡◌, refl, ap, ◌∙◌}
use Prim.Native.Nat.{◌+◌, ◌-◌}
use lib.ListN.{length, take, drop, replicate}
use native.Mathlib.Omega.{arith}
use Rattle.std.proofs.lemmas.List.{length-replicate}
use Rattle.model.proofs.ByteLaws.{length_part}
use Rattle.store.proofs.Runs.{part_pasted, agree_replicate}
use Rattle.store.proofs.fill_run.Goals as goal

pub returns : goal.returns
returns c =
    let a = c.args in
    let d : a.to + a.k - a.to ≡ a.k = omega arith in
    let n = ap (λ k. length (take k (drop a.to a.dst.now))) d ∙ length_part a.dst.now a.to a.k (omega arith) in
    let e : c.fill.new.self ≡ replicate a.k a.byte = c.fill.ensures.after (λ y h. h) ∙ ap (λ k. replicate k a.byte) n in
    part_pasted a.dst.now c.fill.new.self a.to (a.to + a.k) a.k _ refl (omega arith) (rw e (length-replicate a.k a.byte))
    (rw e (agree_replicate a.k a.byte))
