-- A page shows the bytes of a text from an offset on. A text is emitted byte by byte: first some are skipped, then the page is filled, and
-- what is past its end goes nowhere.
use Rattle.std.specs.Prelude.{ℕ, ◌+◌, ◌-◌, min, ◌≡◌, List, [], ◌∷◌, true, false, ltb, length}
use Rattle.model.specs.Bytes.{Bytes, view, put, paste, from}
use Rattle.ink.specs.declared.Ink.{Ink}

-- A page of so many bytes: how many bytes of the text are still to be skipped, and how many bytes of the page are written.
pub record Sheet : Type 0 where
  pub skip : ℕ
  pub at : ℕ
  pub size : ℕ
  pub bytes : Bytes

abbrev pub sheet : Ink → List ℕ → Sheet
sheet i page = record { skip = i.skip; at = i.at; size = length page; bytes = view page }

-- one byte is emitted
unfoldable pub inked : ℕ → Sheet → Sheet
inked x s =
    elim (ltb 0 s.skip) [
      | true ↦ record { skip = s.skip - 1; at = s.at; size = s.size; bytes = s.bytes }
      | false ↦
          elim (ltb s.at s.size) [
            | true ↦ record { skip = s.skip; at = s.at + 1; size = s.size; bytes = put s.bytes s.at x }
            | false ↦ s
          ]
    ]

unfoldable pub emit : List ℕ → Sheet → Sheet
emit [] s = s
emit (x ∷ xs) s = emit xs (inked x s)

-- emitting the text takes the page s to t
pub record Prints (text : List ℕ) (s t : Sheet) : Type 0 where
  pub same : t ≡ emit text s

-- the page, which was `old`, shows r bytes of the text from the offset on, as many as it can; its other bytes stay
pub record Shows (text : List ℕ) (offset : ℕ) (old : List ℕ) (r : ℕ) (new : List ℕ) : Type 0 where
  pub shown : r ≡ min (length old) (length text - offset)
  pub size : length new ≡ length old
  pub bytes : view new ≡ paste (view old) 0 r (from (view text) offset)
