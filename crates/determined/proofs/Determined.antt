-- What it means that a contract determines its result, and how the records that the calls' contracts are made of do.
use Prim.Native.Nat.{ℕ}
use mathlib.Core.Path.{◌≡◌, sym, ap, ◌∙◌}
use mathlib.Core.List.{List}
use lib.ListN.{length}
use lib.Seq.{ext_get_or}
use borrow.Fn.Kinds.{ParamKind, ResultKind, Out, Dens, ended_of, res_t}
use contract.Lifetimes.{Lfts}
use denote.Triple.Clauses.{Lasts, at_exit}
use Rattle.model.specs.Bytes.{Bytes, view}

-- Of any two ends of a call that the contract P permits, with the same arguments, the answers are equal, and so is all that `seen` sees of what was
-- lent to be changed.
abbrev pub Determined : (n : ℕ) (ps : List (ParamKind n)) (r : ResultKind n) (P : Out n ps r) (S : Type 0)
    → ((κs : Lfts n) (a : Dens κs ps) → Lasts (ended_of n ps r) κs a → S) → Type 0
Determined n ps r P S seen =
    (κs : Lfts n) (a : Dens κs ps) (r₁ r₂ : (res_t r κs).Denot) (w₁ w₂ : Lasts (ended_of n ps r) κs a)
    → P κs a r₁ (at_exit (ended_of n ps r) κs a w₁)
    → P κs a r₂ (at_exit (ended_of n ps r) κs a w₂)
    → (r₁ ≡ r₂) × (seen κs a w₁ ≡ seen κs a w₂)

-- two slices of one length with the same bytes
pub same_list : (l₁ l₂ : List ℕ) (n : ℕ) (f : Bytes) → length l₁ ≡ n → length l₂ ≡ n → view l₁ ≡ f → view l₂ ≡ f → l₁ ≡ l₂
same_list l₁ l₂ n f p q v w = ext_get_or 0 l₁ l₂ (p ∙ sym q) (λ i h. ap (λ (g : Bytes). g i) (v ∙ sym w))

-- where nothing is lent to be changed
pub data Nothing-seen : Type 0 where
  none_seen : Nothing-seen

-- The same for what is seen of answer and lent slices together: the bytes of an answer that is a part of a slice, or marks that a contract names
-- only where the answer is yes.
abbrev pub DeterminedAs : (n : ℕ) (ps : List (ParamKind n)) (r : ResultKind n) (P : Out n ps r) (S : Type 0)
    → ((κs : Lfts n) (a : Dens κs ps) → (res_t r κs).Denot → Lasts (ended_of n ps r) κs a → S) → Type 0
DeterminedAs n ps r P S seen =
    (κs : Lfts n) (a : Dens κs ps) (r₁ r₂ : (res_t r κs).Denot) (w₁ w₂ : Lasts (ended_of n ps r) κs a)
    → P κs a r₁ (at_exit (ended_of n ps r) κs a w₁)
    → P κs a r₂ (at_exit (ended_of n ps r) κs a w₂)
    → seen κs a r₁ w₁ ≡ seen κs a r₂ w₂
