-- `player::renew` meets its contract: an image that is too large, and one that is made.
use Rattle.ink.proofs.InkLaws.{prints_none}
use mathlib.Core.Path.{sym}
use borrow.Author.Tests.{lt-leb}
use Rattle.player.proofs.renew.Goals as goal

pub returns-then-image-wanted-clause-renews : goal.returns-then-image-wanted-clause-renews
returns-then-image-wanted-clause-renews c = let e = lt-leb _ _ c.if-image-wanted.true in record { good = sym e; size = rw e; image = rw e; page = rw e prints_none }
