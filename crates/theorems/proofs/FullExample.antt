-- Create in a full subdirectory, on the volume of case 8: DAYS (place 27) has twelve files, and the thirteenth takes two blocks.
use Prim.Native.Nat.{ℕ}
use mathlib.Core.Path.{◌≡◌, refl, ap, ◌∙◌}
use native.Mathlib.Omega.{arith}
use Rattle.model.specs.Bytes.{Bytes, view}
use Rattle.model.specs.Map.{room}
use Rattle.model.specs.Directory.{map_place, there}
use Rattle.model.specs.Calls.{target, home}
use Rattle.model.specs.Create.{create, create_need}
use Rattle.cases.proofs.Cases.{cases, day}
use Rattle.cases.proofs.Example.{plain}
use Rattle.paths.proofs.FullLaws.{begun, twelve, twelve_right}
use Rattle.paths.proofs.FullLaws as Full
use Rattle.theorems.proofs.Created.{Created, create_gives}

-- what is computed of it, at once
record Observed : Type 0 where
  unused : ℕ
  place : ℕ
  need : ℕ

unfoldable observed : Bytes → Observed
observed v =
    record {
      unused = room map_place v 32;
      place = home (target v (view (day 12)) 14);
      need = create_need v (home (target v (view (day 12)) 14));
    }

computed : observed twelve ≡ record { unused = 12; place = 27; need = 2 }
unfolding begun twelve observed cases
computed = refl

-- The thirteenth is found in DAYS, and 10 blocks are free.
abbrev pub thirteen : Bytes
thirteen = (create 16384 twelve (view (day 12)) 14 plain).image

pub thirteenth : Created 32 twelve (view (day 12)) 14 plain thirteen
thirteenth = create_gives 16384 twelve (view (day 12)) 14 plain twelve_right.1 (Full.thirteenth).1

pub thirteenth_found : target thirteen (view (day 12)) 14 ≡ there 27 thirteenth.slot
unfolding observed
thirteenth_found = thirteenth.found ∙ ap (λ (d : ℕ). there d thirteenth.slot) (ap (λ x. x.place) computed)

pub thirteenth_space : room map_place thirteen 32 ≡ 10
unfolding observed
thirteenth_space = omega (arith, thirteenth.space, ap (λ x. x.need) computed, ap (λ x. x.unused) computed)
