-- The claimed blocks as bits of a slice, in the map's order, and what the walk of a file's blocks answers.
use Rattle.std.specs.Prelude.{ℕ, ◌/◌, ◌%◌, List, Bool, true, false, Option, Some, None, eqb, get_or}
use Rattle.model.specs.Map.{bit}
use Rattle.claims.specs.Claims.{Seen}

unfoldable pub marks : List ℕ → Seen
marks l = λ b. eqb (bit (get_or l (b / 8) 0) (b % 8)) 1

unfoldable pub nothing : Seen
nothing = λ _. false

-- whether all of a tree was claimed, and then how many blocks it has
abbrev pub took_all : Option ℕ → Bool
took_all None = false
took_all (Some k) = true

abbrev pub took_count : Option ℕ → ℕ
took_count None = 0
took_count (Some k) = k
