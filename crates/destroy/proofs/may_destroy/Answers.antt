-- `destroy::may_destroy` meets its contract. The access bit first, then what the kind asks.
use native.Mathlib.Omega.{arith}
use mathlib.Core.Logic.{inl, inr}
use mathlib.Core.Path.{sym, ap, ◌∙◌}
use lib.Dec.{eqb}
use Rattle.model.specs.Bytes.{view}
use Rattle.model.specs.Kinds.{key_of}
use Rattle.destroy.specs.Gone.{bare}
use Rattle.destroy.proofs.Laws.{may_not, may_bare}
use Rattle.destroy.proofs.may_destroy.Goals as goal

pub returns-then-not-allows : goal.returns-then-not-allows
returns-then-not-allows c = may_not _ _ (sym c.allows.ensures ∙ c.if-not-allows.true)

pub get_word-requires : goal.get_word-requires
get_word-requires c = omega (arith, ap key_of c.in-Directory.is)

pub returns-in-Directory : goal.returns-in-Directory
returns-in-Directory c =
    let v = view c.args.img.now in
    ap (λ k. eqb k 0) c.get_word.ensures.value ∙ sym (ap (λ K. bare K v) c.in-Directory.is) ∙ may_bare _ _ (sym c.allows.ensures ∙ c.if-not-allows.false)

pub returns-in-Seedling : goal.returns-in-Seedling
returns-in-Seedling c =
    let v = view c.args.img.now in
    let e = may_bare v c.args.entry (sym c.allows.ensures ∙ c.if-not-allows.false) in
    elim c.in-Seedling.is [
      | inl w ↦ sym (ap (λ K. bare K v) w.1) ∙ e
      | inr w ↦ elim w [ inl w ↦ sym (ap (λ K. bare K v) w.1) ∙ e | inr w ↦ sym (ap (λ K. bare K v) w.1) ∙ e ]
    ]
