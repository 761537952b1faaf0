-- What the branches of the code answer: the rows $52 and $5A one by one, and what a path opens.
use Rattle.std.specs.Prelude.{Result, Ok, Err}
use Prim.Native.Nat.{ℕ, ◌/◌, ◌%◌, ◌≤◌}
use mathlib.Core.Path.{◌≡◌, refl, sym, ap, ◌∙◌}
use mathlib.Core.Bool.{Bool, true, false, false≢true}
use lib.Dec.{leb, eqb}
use borrow.Author.Tests.{eq-eqb, le-leb, leb-true, eqb-true}
use Rattle.model.specs.Bytes.{Bytes, within, ◌and◌}
use Rattle.model.specs.Directory.{at, volume, Target, no_volume, no_directory, missing, there}
use Rattle.model.specs.Sound.{whole_blocks, prodos, sound}
use Rattle.model.specs.Calls.{total}
use Rattle.model.specs.declared.Refusal.{Refusal}
use Rattle.model.specs.declared.Refusal.TheVariants.{NotProdos, NotSound, NotFound}
use Rattle.claims.proofs.TestLaws.{and_true, and_false}
use Rattle.directory.specs.Slots.{place_of, entry_of}
use Rattle.directory.specs.Lookup.{home_of, looked_as}
use Rattle.directory.specs.declared.Looked.{Looked}
use Rattle.directory.specs.declared.Looked.TheVariants as looked
use Rattle.opening.specs.Opened.{volume_in, opened_at}
use Rattle.opening.specs.declared.Opened.{Opened}
use Rattle.opening.specs.declared.Opened.TheVariants as opened

-- the rows $52 and $5A one by one
module _ (len : ℕ) (v : Bytes) where
  abbrev chosen : Bool → Bool → Result ℕ Refusal
  chosen a b = elim a [ true ↦ elim b [ true ↦ Ok (total len) | false ↦ Err NotSound ] | false ↦ Err NotProdos ]

  volume_as : (a b : Bool) → whole_blocks len and prodos (total len) v ≡ a → sound (total len) v ≡ b → volume_in len v ≡ chosen a b
  unfolding volume_in
  volume_as a b e f = ap (λ x. chosen x (sound (total len) v)) e ∙ ap (chosen a) f

  pub volume_unfit : (len % 512 ≡ 0 → 16 ≤ len / 512 → len / 512 ≤ 65535 → ⊥) → volume_in len v ≡ Err NotProdos
  unfolding whole_blocks within
  volume_unfit h = volume_as false (sound (total len) v) (and_false (whole_blocks len) (prodos (total len) v) (λ w p.
      let t = (and_true (eqb (len % 512) 0) (within 16 65535 (len / 512))).0 w in
      let u = (and_true (leb 16 (len / 512)) (leb (len / 512) 65535)).0 t.1 in
      h (eqb-true (len % 512) 0 t.0) (leb-true 16 (len / 512) u.0) (leb-true (len / 512) 65535 u.1))) refl

  pub volume_other : prodos (total len) v ≡ false → volume_in len v ≡ Err NotProdos
  volume_other e =
      volume_as false (sound (total len) v) (and_false (whole_blocks len) (prodos (total len) v) (λ w p. false≢true (sym e ∙ p))) refl

  pub whole : len % 512 ≡ 0 → 16 ≤ len / 512 → len / 512 ≤ 65535 → whole_blocks len ≡ true
  unfolding whole_blocks within
  whole r l m =
      (and_true (eqb (len % 512) 0) (within 16 65535 (len / 512))).1
      (eq-eqb (len % 512) 0 r, (and_true (leb 16 (len / 512)) (leb (len / 512) 65535)).1 (le-leb 16 (len / 512) l, le-leb (len / 512) 65535 m))

  pub volume_bad : whole_blocks len ≡ true → prodos (total len) v ≡ true → sound (total len) v ≡ false → volume_in len v ≡ Err NotSound
  volume_bad w p s = volume_as true false ((and_true (whole_blocks len) (prodos (total len) v)).1 (w, p)) s

  pub volume_good : whole_blocks len ≡ true → prodos (total len) v ≡ true → sound (total len) v ≡ true → volume_in len v ≡ Ok (total len)
  volume_good w p s = volume_as true true ((and_true (whole_blocks len) (prodos (total len) v)).1 (w, p)) s

-- what the code makes of a lookup's answer
abbrev pub opened_from : ℕ → Result Looked Refusal → Result Opened Refusal
opened_from n (Err r) = Err r
opened_from n (Ok (looked.Missing h)) = Err NotFound
opened_from n (Ok (looked.There h s x)) = Ok (opened.Entry n h s x)
opened_from n (Ok looked.Volume) = Ok (opened.Volume n)

opened_from_law : (n : ℕ) (v : Bytes) (t : Target) → opened_from n (looked_as v t) ≡ opened_at n v t
unfolding opened_at
opened_from_law n v no_volume = refl
opened_from_law n v no_directory = refl
opened_from_law n v (missing d) = refl
opened_from_law n v (there d s) = go (eqb s volume)
  where
    go : (b : Bool) → opened_from n (elim b as (λ _. Result Looked Refusal) [ true ↦ Ok looked.Volume | false ↦ Ok (looked.There (home_of v d) (place_of s) (entry_of v (at s))) ])
        ≡ elim b as (λ _. Result Opened Refusal) [ true ↦ Ok (opened.Volume n) | false ↦ Ok (opened.Entry n (home_of v d) (place_of s) (entry_of v (at s))) ]
    go true = refl
    go false = refl

pub opened_led : (n : ℕ) (v : Bytes) (t : Target) {r : Result Looked Refusal} → r ≡ looked_as v t → opened_from n r ≡ opened_at n v t
opened_led n v t e = ap (opened_from n) e ∙ opened_from_law n v t
