-- The outcome of a call that changes the image: refused, it is as it was; done, it is the new one. Assumes nothing.
use Rattle.std.specs.Prelude.{Ok, Err}
use mathlib.Core.Path.{◌≡◌, refl, sym, ◌∙◌}
use mathlib.Core.List.{List}
use Prim.Native.Nat.{ℕ}
use lib.ListN.{length}
use Rattle.model.specs.Bytes.{Bytes, view}
use Rattle.model.specs.Refusals.{refusal_number, settle}
use Rattle.model.specs.Calls.{nothing}
use Rattle.model.specs.Answers.{Does}
use Rattle.model.specs.declared.Refusal.{Refusal}
use Rattle.model.proofs.RefusalLaws.{settle_refused, settle_accepted, number_refuses}

pub does_refused : (k : ℕ) (l : List ℕ) (new : Bytes) (r : Refusal) → k ≡ refusal_number r
    → Does (settle k nothing (view l) nothing new) (length l) (Err r) l
unfolding settle
does_refused k l new r e =
    record { said = sym e; size = refl; bytes = sym (settle_refused k nothing (view l) nothing new (λ z. number_refuses r (sym e ∙ z))).1 }

pub does_done : (k n : ℕ) (old new : Bytes) (l : List ℕ) → k ≡ 0 → length l ≡ n → view l ≡ new
    → Does (settle k nothing old nothing new) n (Ok tt) l
unfolding settle
does_done k n old new l e s w =
    record { said = sym e; size = s; bytes = w ∙ sym (settle_accepted k nothing old nothing new e).1 }
