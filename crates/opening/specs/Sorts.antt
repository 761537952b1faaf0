-- What the kind of a decoded entry says: a directory, or a data file of a height.
use Rattle.std.specs.Prelude.{ℕ, Bool, true, false, Option, Some, None}
use Rattle.model.specs.declared.Kind.{Kind}
use Rattle.model.specs.declared.Kind.TheVariants.{Seedling, Sapling, Tree, Directory}

abbrev pub is_folder : Kind → Bool
is_folder (Seedling k) = false
is_folder (Sapling k) = false
is_folder (Tree k) = false
is_folder (Directory k) = true

-- the height of a data file; 3 for a directory, which has none
abbrev pub height_of : Kind → ℕ
height_of (Seedling k) = 0
height_of (Sapling k) = 1
height_of (Tree k) = 2
height_of (Directory k) = 3

-- the height of a data file, none for a directory
abbrev pub data_height : Kind → Option ℕ
data_height (Seedling k) = Some 0
data_height (Sapling k) = Some 1
data_height (Tree k) = Some 2
data_height (Directory k) = None
