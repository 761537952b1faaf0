-- Rename of the volume: every path leads where it led, with the new name for its first. With another first name it leads nowhere.
use Prim.Native.Nat.{ℕ}
use mathlib.Core.Path.{◌≡◌, refl, sym}
use mathlib.Core.List.{List, ◌∷◌}
use mathlib.Core.Bool.{Bool, true, false, false≢true}
use Rattle.model.specs.Bytes.{Bytes}
use Rattle.model.specs.Names.{Part, part, parts, proper_name, same_name}
use Rattle.model.specs.Directory.{at, volume, Target, no_volume, along, lookup}
use Rattle.model.specs.Refusals.{settle}
use Rattle.model.specs.Calls.{total, target, spot, is_no_volume, nothing}
use Rattle.model.specs.Rename.{named, rename_number, rename}
use Rattle.model.proofs.TestLaws.{and_right}
use Rattle.model.proofs.Laws.Sound.{Sound, sound_facts}
use Rattle.model.proofs.Laws.Keep.{kids_same}
use Rattle.model.proofs.Laws.Facts.{Seen, kid_placed, kid_seen, volume_seen, volume_directory}
use Rattle.model.proofs.Laws.Near.{named_near}
use Rattle.model.proofs.Laws.Spelling.{Bears, same_bears, bears_same}
use Rattle.model.proofs.Laws.Lookup.{rows_off, not_false}
use Rattle.model.proofs.Laws.Rename.{after_bears, after_name, after_keeps, whole}
use Rattle.model.proofs.Laws.Settled.{done_image}
use Rattle.theorems.proofs.Spelled.{Spelled, spelled_sym, spelled_bears, bears_spelled, AlikeNames}
use Rattle.theorems.proofs.Below.{Still, along_same}

-- The first name of a path is the name z of q, the others are those of another path.
pub data FirstNamed (p o q : Bytes) (z : Part) : List Part → List Part → Type 0 where
  first_named : {x y : Part} {xs ys : List Part} → Spelled o y q z → AlikeNames p o xs ys → FirstNamed p o q z (x ∷ xs) (y ∷ ys)

-- What an accepted rename of the volume to the name q of j bytes does to every path.
pub record VolumeRenamed (v q : Bytes) (j : ℕ) (w : Bytes) : Type 0 where
  -- where a path led, the path with the new first name leads
  pub found : (p : Bytes) (k : ℕ) → is_no_volume (target v p k) ≡ false → (o : Bytes) (i : ℕ) → FirstNamed p o q (part 0 j) (parts p k) (parts o i)
      → target w o i ≡ target v p k
  -- a path with another first name leads nowhere
  pub gone : (o : Bytes) (i : ℕ) (x : Part) (xs : List Part) → parts o i ≡ x ∷ xs → (Spelled o x q (part 0 j) → ⊥) → target w o i ≡ no_volume

-- The volume.
module _ {n : ℕ} {v : Bytes} (q : Bytes) (j : ℕ) (S : Sound n v) (proper : proper_name q 0 j ≡ true) where
  abbrev after : Bytes
  after = named v (at volume) q j

  after_named : Bears after (at volume) q (part 0 j)
  after_named = (after_bears q j S proper).0

  -- other names lead on as before
  after_still : Still v after (Seen v)
  after_still =
      record {
        slots = λ d h e. kids_same v after d (after_keeps q j S proper d h);
        entry = λ d s h e c.
            let A = after_name q j S proper s (kid_placed S d s h c) in
            (A.0, named_near A.1, kid_seen S d s h e c);
      }

  volume_found : (p o : Bytes) {ps os : List Part} → is_no_volume (lookup v p ps) ≡ false → FirstNamed p o q (part 0 j) ps os
      → lookup after o os ≡ lookup v p ps
  unfolding lookup is_no_volume
  volume_found p o f (first_named {x} {y} {xs} {ys} E N) =
      rw (bears_same after (at volume) o y (spelled_bears (spelled_sym E) after_named), lookup) (go (same_name v (at volume) p x) f)
    where
      go : (b : Bool) → is_no_volume (elim b [ true ↦ along v p volume xs | false ↦ no_volume ]) ≡ false
          → along after o volume ys ≡ elim b [ true ↦ along v p volume xs | false ↦ no_volume ]
      go true g = along_same after_still p o N volume (volume_seen S) (volume_directory S)
      go false g = absurd (false≢true (sym g))

  volume_gone : (o : Bytes) (x : Part) (xs : List Part) → (Spelled o x q (part 0 j) → ⊥) → lookup after o (x ∷ xs) ≡ no_volume
  unfolding lookup
  volume_gone o x xs off = go (same_name after (at volume) o x) refl
    where
      go : (b : Bool) → same_name after (at volume) o x ≡ b → elim b as (λ _. Target) [ true ↦ along after o volume xs | false ↦ no_volume ] ≡ no_volume
      go true m = absurd (off (bears_spelled (same_bears after (at volume) o x m) after_named))
      go false m = refl

-- The call.
pub rename_volume_gives : (len : ℕ) (v p : Bytes) (k : ℕ) (q : Bytes) (j : ℕ) → (rename len v p k q j).number ≡ 0 → spot (target v p k) ≡ volume → VolumeRenamed v q j (rename len v p k q j).image
unfolding rename settle rename_number
rename_volume_gives len v p k q j e z =
    let r = rows_off _ e refl in
    let S = sound_facts (total len) v (not_false _ (r 1)) in
    let proper : proper_name q 0 j ≡ true = and_right _ _ (not_false _ (r 2)) in
    rw (done_image _ nothing v nothing _ e, whole len v p k q j (not_false _ (r 1)) z)
    (record {
      found = λ p k f o i N. volume_found q j S proper p o f N;
      gone = λ o i x xs f off. rw f (volume_gone q j S proper o x xs off);
    })
