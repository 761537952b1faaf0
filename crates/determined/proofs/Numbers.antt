-- An answer is known by its number and its other parts.
use Rattle.std.specs.Prelude.{Result, Ok, Err}
use Prim.Native.Nat.{ℕ}
use mathlib.Core.Path.{◌≡◌, refl, sym, ap, ◌∙◌}
use mathlib.Core.Bool.{Bool, true, false}
use lib.Dec.{eqb}
use Rattle.model.specs.Refusals.{refusal_number}
use Rattle.model.specs.Info.{Space as Told}
use Rattle.model.specs.declared.Space.{Space}
use Rattle.model.specs.declared.Info.{Info}
use Rattle.model.specs.Answers.{answer_number, transferred, info_told, space_told}
use Rattle.model.proofs.RefusalLaws.{number_refuses}
use Rattle.model.specs.declared.Refusal.{Refusal}
use Rattle.model.specs.declared.Refusal.TheVariants.{NotProdos, NotSound, BadPath, BadKind, BadType, NoVolume, NoDirectory, NotFound, Duplicate, Locked, BadPosition, EndOfFile, DirectoryFull, NoRoom}

-- the refusal of a number
refusal_of : ℕ → Refusal
refusal_of k = pick (eqb k 0x52) NotProdos (pick (eqb k 0x5A) NotSound (pick (eqb k 0x40) BadPath (pick (eqb k 0x4B) BadKind (pick (eqb k 0x53) BadType (pick (eqb k 0x45) NoVolume (pick (eqb k 0x44) NoDirectory (pick (eqb k 0x46) NotFound (pick (eqb k 0x47) Duplicate (pick (eqb k 0x4E) Locked (pick (eqb k 0x4D) BadPosition (pick (eqb k 0x4C) EndOfFile (pick (eqb k 0x49) DirectoryFull NoRoom))))))))))))
  where
    pick : Bool → Refusal → Refusal → Refusal
    pick true x y = x
    pick false x y = y

refusal_back : (r : Refusal) → refusal_of (refusal_number r) ≡ r
unfolding refusal_of
refusal_back NotProdos = refl
refusal_back NotSound = refl
refusal_back BadPath = refl
refusal_back BadKind = refl
refusal_back BadType = refl
refusal_back NoVolume = refl
refusal_back NoDirectory = refl
refusal_back NotFound = refl
refusal_back Duplicate = refl
refusal_back Locked = refl
refusal_back BadPosition = refl
refusal_back EndOfFile = refl
refusal_back DirectoryFull = refl
refusal_back NoRoom = refl

refusal_known : (r s : Refusal) → refusal_number r ≡ refusal_number s → r ≡ s
refusal_known r s e = sym (refusal_back r) ∙ ap refusal_of e ∙ refusal_back s

-- of two answers with one number both are refused, for one reason, or both are done
pub answer_known : {A : Type 0} (x y : Result A Refusal) → ((a b : A) → x ≡ Ok a → y ≡ Ok b → a ≡ b) → answer_number x ≡ answer_number y → x ≡ y
answer_known (Ok a) (Ok b) h e = ap Ok (h a b refl refl)
answer_known (Ok a) (Err r) h e = absurd (number_refuses r (sym e))
answer_known (Err r) (Ok b) h e = absurd (number_refuses r e)
answer_known (Err r) (Err s) h e = ap Err (refusal_known r s e)

pub done_known : (x y : Result (Unit {0}) Refusal) → answer_number x ≡ answer_number y → x ≡ y
done_known x y = answer_known x y (λ a b f g. refl)

pub transfer_known : (x y : Result ℕ Refusal) → answer_number x ≡ answer_number y → transferred x ≡ transferred y → x ≡ y
transfer_known x y e h = answer_known x y (λ a b f g. ap transferred (sym f) ∙ h ∙ ap transferred g) e

pub info_known : (x y : Result Info Refusal) → answer_number x ≡ answer_number y → info_told x ≡ info_told y → x ≡ y
info_known x y e h = answer_known x y (λ a b f g. ap info_told (sym f) ∙ h ∙ ap info_told g) e

pub space_known : (x y : Result Space Refusal) → answer_number x ≡ answer_number y → space_told x ≡ space_told y → x ≡ y
space_known x y e h = answer_known x y (λ a b f g. ap back (ap space_told (sym f) ∙ h ∙ ap space_told g)) e
  where
    back : Told → Space
    back s = record { total = s.total; free = s.unused }
