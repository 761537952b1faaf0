-- `Ink::number` meets its contract. The places fall with each call.
use Rattle.ink.proofs.Ink.+number.Given as goal

abbrev pub decreases-number : goal.decreases-number
decreases-number l = l.places
