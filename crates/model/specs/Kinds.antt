-- The kinds of an active entry. "The kind follows from EOF: 0 to 512 seedling, 513 to 131,072 sapling, above that tree."
use Rattle.std.specs.Prelude.{ℕ, true, false, leb}
use Rattle.model.specs.declared.Kind.{Kind}
use Rattle.model.specs.declared.Kind.TheVariants.{Seedling, Sapling, Tree, Directory}

abbrev pub kind_number : Kind → ℕ
kind_number (Seedling b) = 1
kind_number (Sapling b) = 2
kind_number (Tree b) = 3
kind_number (Directory b) = 13

abbrev pub key_of : Kind → ℕ
key_of (Seedling b) = b
key_of (Sapling b) = b
key_of (Tree b) = b
key_of (Directory b) = b

-- the kind of a data file from its EOF, with its key
unfoldable pub kind_for : ℕ → ℕ → Kind
kind_for eof key = elim (leb eof 512) [ true ↦ Seedling key | false ↦ elim (leb eof 131072) [ true ↦ Sapling key | false ↦ Tree key ] ]
