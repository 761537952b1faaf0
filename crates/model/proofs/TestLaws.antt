-- Tests that hold together. Assumes nothing.
use mathlib.Core.Path.{◌≡◌, refl}
use mathlib.Core.Bool.{Bool, true, false, false≢true}
use Rattle.model.specs.Bytes.{◌and◌}

pub and_left : (p q : Bool) → (p and q) ≡ true → p ≡ true
unfolding ◌and◌
and_left true q e = refl
and_left false q e = absurd (false≢true e)

pub and_right : (p q : Bool) → (p and q) ≡ true → q ≡ true
unfolding ◌and◌
and_right true q e = e
and_right false q e = absurd (false≢true e)

pub and_both : (p q : Bool) → p ≡ true → q ≡ true → (p and q) ≡ true
unfolding ◌and◌
and_both p q e f = rw (e, f) refl

pub and_off : (p : Bool) → (p and false) ≡ false
unfolding ◌and◌
and_off true = refl
and_off false = refl
