use mathlib.Core.Path.{◌≡◌, ◌∙◌}
use Prim.Native.Nat.{◌+◌, ◌-◌}
use native.Mathlib.Omega.{arith}
use Rattle.store.proofs.Runs.{parts_equal}
use Rattle.store.proofs.same_bytes.Goals as goal

pub returns : goal.returns
returns c =
    let a = c.args in
    let d : a.a + a.k - a.a ≡ a.k = omega arith in
    let e : a.b + a.k - a.b ≡ a.k = omega arith in
    rw (d, e) at c.eq.ensures ∙ parts_equal a.f.now a.a a.g.now a.b a.k (omega arith) (omega arith)
