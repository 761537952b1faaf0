-- A line's word looked up in a table of words, one after the other. Assumes nothing.
use Prim.Native.Nat.{ℕ}
use mathlib.Core.Path.{◌≡◌, refl, sym, ◌∙◌}
use mathlib.Core.List.{List, [], ◌∷◌}
use mathlib.Core.Bool.{Bool, true, false}
use Rattle.lines.specs.declared.Command.{Command}
use Rattle.lines.specs.Commands.{Named, named}

-- The search went past the words before some of the table's last.
pub record Past (p : List ℕ → Bool) (words : List Named) (other : Command) (rest : List Named) : Type 0 where
  pub same : named p words other ≡ named p rest other

module _ {p : List ℕ → Bool} {words : List Named} {other : Command} where
  pub past_none : Past p words other words
  past_none = record { same = refl }

  pub past_more : {x : Named} {xs : List Named} → Past p words other (x ∷ xs) → p x.word ≡ false → Past p words other xs
  unfolding named
  past_more {x} {xs} h e = record { same = h.same ∙ next }
    where
      next : named p (x ∷ xs) other ≡ named p xs other
      next = rw (e, named)

  pub past_here : {x : Named} {xs : List Named} → Past p words other (x ∷ xs) → p x.word ≡ true → x.command ≡ named p words other
  unfolding named
  past_here {x} {xs} h e = sym (h.same ∙ here)
    where
      here : named p (x ∷ xs) other ≡ x.command
      here = rw (e, named)

  pub past_all : Past p words other [] → other ≡ named p words other
  unfolding named
  past_all h = sym h.same
