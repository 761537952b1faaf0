-- The walk of a volume: every slot in directory order, a subdirectory's content straight after it. Soundness and the listing are folds of it.
use Rattle.std.specs.Prelude.{ℕ, zero, suc, List, [], ◌∷◌, map}
use Rattle.model.specs.Bytes.{Bytes, gather}
use Rattle.model.specs.Directory.{volume, kids}

-- "No directory is more than 31 levels below the volume directory."
abbrev pub level_most : ℕ
level_most = 31

-- A slot met by the walk: the levels that are left below it, what is known of the way to it, and its place.
pub record Visit (A : Type 0) : Type 0 where
  pub levels : ℕ
  pub way : A
  pub slot : ℕ

abbrev pub visit : {A : Type 0} → ℕ → A → ℕ → Visit A
visit l a s = record { levels = l; way = a; slot = s }

-- the slots ss and all that is below them, l levels deep; `step` takes what is known of a way past a slot
unfoldable pub walk : {A : Type 0} → (ℕ → List ℕ) → (A → ℕ → A) → ℕ → A → List ℕ → List (Visit A)
walk below step zero a ss = map (visit 0 a) ss
walk below step (suc l) a ss = gather (λ s. visit (suc l) a s ∷ walk below step l (step a s) (below s)) ss

-- the walk from the volume itself; what is known of the way is the directory
abbrev pub visits : Bytes → List (Visit ℕ)
visits v = walk (kids v) (λ _ s. s) (suc level_most) volume (volume ∷ [])
