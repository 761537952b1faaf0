-- What a path opens where the other arguments are fit: by the branches of the code, and as rows of the table.
use Rattle.std.specs.Prelude.{Result, Ok, Err}
use Prim.Native.Nat.{ℕ}
use mathlib.Core.Path.{◌≡◌, refl, sym, ap, ◌∙◌}
use mathlib.Core.Bool.{Bool, true, false, not}
use mathlib.Core.List.{List, ◌∷◌}
use Rattle.model.specs.Bytes.{Bytes, ◌and◌}
use Rattle.model.specs.Names.{proper_path}
use Rattle.model.specs.Refusals.{refusal_number, Row, row, first}
use Rattle.model.specs.Calls.{target, not_prodos, not_sound, bad_path, not_volume, not_directory, not_found}
use Rattle.model.specs.declared.Refusal.{Refusal}
use Rattle.model.specs.declared.Refusal.TheVariants.{BadPath}
use Rattle.model.proofs.RefusalLaws.{first_applies, first_passes}
use Rattle.claims.proofs.TestLaws.{decide}
use Rattle.opening.specs.Opened.{volume_in, opened_at, opened_on, opened_by, opened_on_if, opened_if}
use Rattle.opening.specs.declared.Opened.{Opened}
use Rattle.opening.proofs.VolumeLaws.{volume_or, volume_first}
use Rattle.opening.proofs.OpenedLaws.{opened_or, target_first}

-- rows that give the same behind a row
first_under : (r : Row) (rs rs' : List Row) → first rs ≡ first rs' → first (r ∷ rs) ≡ first (r ∷ rs')
unfolding first
first_under r rs rs' e = ap (λ m. elim r.applies as (λ _. ℕ) [ true ↦ r.number | false ↦ m ]) e

-- two tests with one number are two rows
two_rows : (a b : Bool) (n : ℕ) (rs : List Row) → first (row (not (a and b)) n ∷ rs) ≡ first (row (not a) n ∷ row (not b) n ∷ rs)
unfolding first ◌and◌
two_rows true true n rs = refl
two_rows true false n rs = refl
two_rows false b n rs = refl

pub rows_apart : (r s : Row) (a b : Bool) (n : ℕ) (rs : List Row)
    → first (r ∷ s ∷ row (not (a and b)) n ∷ rs) ≡ first (r ∷ s ∷ row (not a) n ∷ row (not b) n ∷ rs)
rows_apart r s a b n rs = first_under r _ _ (first_under s _ _ (two_rows a b n rs))

module _ (fit : Bool) (r : Refusal) (len : ℕ) (v p : Bytes) (k : ℕ) where
  abbrev chosen : ℕ → Bool → Bool → Result Opened Refusal
  chosen n a b = elim a [ true ↦ elim b [ true ↦ opened_at n v (target v p k) | false ↦ Err r ] | false ↦ Err BadPath ]

  pub if_refused : (why : Refusal) → volume_in len v ≡ Err why → opened_if fit r len v p k ≡ Err why
  unfolding opened_on_if
  if_refused why e = ap (λ o. opened_on_if fit r o v p k) e

  pub if_on : (n : ℕ) (a b : Bool) → volume_in len v ≡ Ok n → proper_path p k ≡ a → fit ≡ b → opened_if fit r len v p k ≡ chosen n a b
  unfolding opened_on_if
  if_on n a b e f g = ap (λ o. opened_on_if fit r o v p k) e ∙ ap (λ x. chosen n x fit) f ∙ ap (chosen n a) g

  -- the rows up to $46 with the one behind $40
  pub if_first : (rest : List Row)
      → first
      (not_prodos len v
      ∷ not_sound len v
      ∷ bad_path p k
      ∷ row (not fit) (refusal_number r)
      ∷ not_volume (target v p k)
      ∷ not_directory (target v p k)
      ∷ not_found (target v p k)
      ∷ rest)
      ≡ opened_or (opened_if fit r len v p k) (first rest)
  unfolding opened_on_if
  if_first rest = volume_first len v _ ∙ after (volume_in len v)
    where
      led : List Row
      led = not_volume (target v p k) ∷ not_directory (target v p k) ∷ not_found (target v p k) ∷ rest

      rows : List Row
      rows = row (not fit) (refusal_number r) ∷ led

      path : (n : ℕ) (a b : Bool) → proper_path p k ≡ a → fit ≡ b → first (bad_path p k ∷ rows) ≡ opened_or (chosen n a b) (first rest)
      path n false b e g = first_applies (bad_path p k) rows (ap not e)
      path n true false e g =
          first_passes (bad_path p k) rows (ap not e) ∙ first_applies (row (not fit) (refusal_number r)) led (ap not g)
      path n true true e g =
          first_passes (bad_path p k) rows (ap not e)
          ∙ first_passes (row (not fit) (refusal_number r)) led (ap not g)
          ∙ target_first n v (target v p k) rest

      after : (o : Result ℕ Refusal) → volume_or o (first (bad_path p k ∷ rows)) ≡ opened_or (opened_on_if fit r o v p k) (first rest)
      after (Ok n) = path n (proper_path p k) fit refl refl
      after (Err w) = refl

  pub same_open : (o : Result ℕ Refusal) → opened_on_if true r o v p k ≡ opened_on o v p k
  unfolding opened_on_if opened_on
  same_open (Ok n) = refl
  same_open (Err w) = refl

  unfit : (o : Result ℕ Refusal) → (w : Refusal) × (opened_on_if false r o v p k ≡ Err w)
  unfolding opened_on_if
  unfit (Err w) = (w, refl)
  unfit (Ok n) = go (proper_path p k)
    where
      go : (a : Bool) → (w : Refusal) × (elim a as (λ _. Result Opened Refusal) [ true ↦ Err r | false ↦ Err BadPath ] ≡ Err w)
      go true = (r, refl)
      go false = (BadPath, refl)

  -- what was opened was fit
  pub if_open : (o : Result Opened Refusal) → opened_if fit r len v p k ≡ o → ((w : Refusal) → o ≡ Err w → ⊥) → (fit ≡ true) × (opened_by len v p k ≡ o)
  if_open o q n =
      decide fit
      (λ e. (e, sym (same_open (volume_in len v)) ∙ ap (λ f. opened_on_if f r (volume_in len v) v p k) (sym e) ∙ q))
      (λ e.
      let u = unfit (volume_in len v) in
      absurd (n u.0 (sym q ∙ ap (λ f. opened_on_if f r (volume_in len v) v p k) e ∙ u.1)))
