-- A step of the cursor over a path, where the last name begins, and names stored in two images.
use Rattle.std.specs.Prelude.{ℕ, zero, suc, ◌+◌, ◌-◌, Bool, true, false, List, [], ◌∷◌, ltb, eqb}
use Rattle.model.specs.Bytes.{Bytes, equal_bytes, ◌and◌}
use Rattle.model.specs.Names.{slash, name_end, proper_name, name_size, Part, parts_from}
use Rattle.names.specs.declared.Step.{Step}
use Rattle.names.specs.declared.Step.TheVariants.{Name, End, Bad}

-- a name from s up to e was found
abbrev pub found : ℕ → ℕ → Step
found s e = Name s e (record { at = e })

-- where the name behind a slash at a ends, in a path of n bytes
abbrev pub step_end : Bytes → ℕ → ℕ → ℕ
step_end p n a = name_end p (a + 1) (n - (a + 1))

-- at a stands a slash, and behind it a proper name
unfoldable pub proper_step : Bytes → ℕ → ℕ → Bool
proper_step p n a = eqb (p a) slash and proper_name p (a + 1) (step_end p n a - (a + 1))

-- what a cursor at a finds in the path p of n bytes
unfoldable pub step_at : Bytes → ℕ → ℕ → Step
step_at p n a = elim (ltb a n) [
  | true ↦ elim (proper_step p n a) [ true ↦ found (a + 1) (step_end p n a) | false ↦ Bad ]
  | false ↦ End
]

-- the parts of the path p of n bytes that a cursor at a has still before it
abbrev pub parts_left : Bytes → ℕ → ℕ → List Part
parts_left p n a = parts_from p n a (n - a)

-- the last of a list of parts, x where there is none
unfoldable pub last_part : Part → List Part → Part
last_part x [] = x
last_part x (y ∷ ys) = last_part y ys

-- one past the last slash among the first n bytes, 0 where there is none
unfoldable pub last_start : Bytes → ℕ → ℕ
last_start p zero = 0
last_start p (suc n) = elim (eqb (p n) slash) [ true ↦ suc n | false ↦ last_start p n ]

-- the names stored at the start of f and of g are alike
unfoldable pub alike_names : Bytes → Bytes → Bool
alike_names f g = eqb (name_size f 0) (name_size g 0) and equal_bytes f 1 g 1 (name_size f 0)
