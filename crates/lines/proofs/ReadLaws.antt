-- A line read in the forms of its command: the fields in those forms are the fields of the line. Assumes nothing.
use Prim.Native.Nat.{ℕ}
use mathlib.Core.Path.{◌≡◌, subst}
use mathlib.Core.List.{List}
use mathlib.Core.Bool.{Bool}
use Rattle.model.specs.Bytes.{Bytes}
use Rattle.model.specs.Catalog.{space'}
use Rattle.script.specs.Fields.{Takes, end_at}
use Rattle.lines.specs.declared.Command.{Command}
use Rattle.lines.specs.Commands.{change_from, forms_of, command_of, fields_in, asked, Fitting}

-- A line s of n bytes whose word ends at e and names k, and the forms of k.
module _ (s : Bytes) (n e : ℕ) (k : Command) (ends : e ≡ end_at s n space' 0) (says : k ≡ change_from s n e) where
  pub line_command : k ≡ command_of s n
  unfolding command_of
  line_command = subst (λ (x : ℕ). k ≡ change_from s n x) ends says

  pub line_takes : (m : ℕ) (values room buffer : Bytes) (forms : List ℕ) {r : Bool} {vs ts bs : List ℕ} → forms ≡ forms_of k
      → Takes (fields_in s n m e forms values room buffer) n r vs ts bs → Takes (asked s n m values room buffer) n r vs ts bs
  unfolding asked
  line_takes m values room buffer forms {r} {vs} {ts} {bs} q h =
      rw (← line_command, ← ends)
      (subst (λ (l : List ℕ). Takes (fields_in s n m e l values room buffer) n r vs ts bs) q h)

-- The bounds of a command's fields go by its name.
pub fits_by : (vs : List ℕ) {k j : Command} {m n : ℕ} → k ≡ j → m ≡ n → Fitting k m vs → Fitting j n vs
fits_by vs {k = k} {n = n} e q h = subst (λ (j : Command). Fitting j n vs) e (subst (λ (m : ℕ). Fitting k m vs) q h)
