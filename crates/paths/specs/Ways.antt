-- The way to an entry and the names along it. On a sound volume the names along the way to an entry are its path.
use Rattle.std.specs.Prelude.{ℕ, ◌+◌, ◌*◌, ◌≤◌, ◌<◌, ◌≡◌, List, [], ◌∷◌, map, true, false, eqb}
use Rattle.model.specs.Bytes.{Bytes, count}
use Rattle.model.specs.Names.{Part, parts, capitals}
use Rattle.model.specs.Directory.{sort, is_active, volume, eof, kids}
use Rattle.model.specs.File.{blocks, content}
use Rattle.model.specs.Catalog.{text, name_text}

-- The places xs lead from d down to s: each is an active entry of the directory before it, the last is s.
abbrev pub Way : Bytes → ℕ → List ℕ → ℕ → Type 0
Way v d [] s = d ≡ s
Way v d (x ∷ xs) s = (1 ≤ count x (kids v d)) × (is_active (sort v x) ≡ true) × Way v x xs s

-- the place before the last on a way from d, and d itself where there is none
unfoldable pub holder : ℕ → List ℕ → ℕ
holder d [] = d
holder d (x ∷ []) = d
holder d (x ∷ y ∷ r) = holder x (y ∷ r)

-- Names, each as its bytes: those stored at places, and those of a path as capitals.
abbrev pub Names : Type 0
Names = List (List ℕ)

abbrev pub stored : Bytes → List ℕ → Names
stored v = map (name_text v)

abbrev pub spelled : Bytes → Part → List ℕ
spelled p x = text (capitals p) x.start x.size

abbrev pub path_names : Bytes → ℕ → Names
path_names p k = map (spelled p) (parts p k)

-- the names along a way from the volume, its own first
abbrev pub path : Bytes → List ℕ → Names
path v xs = stored v (volume ∷ xs)

-- the names ns of the places xs, but q for the place a
unfoldable pub replaced : ℕ → List ℕ → List ℕ → Names → Names
replaced a q [] ns = ns
replaced a q (x ∷ xs) [] = []
replaced a q (x ∷ xs) (n ∷ ns) = elim (eqb x a) [ true ↦ q | false ↦ n ] ∷ replaced a q xs ns

-- The path p of k bytes has the names along a way from the volume to s, an entry of d.
pub record Spells (v p : Bytes) (k d s : ℕ) : Type 0 where
  pub places : List ℕ
  pub way : Way v volume places s
  pub names : path v places ≡ path_names p k
  pub held : holder volume places ≡ d

-- A way to s, and the names along it, are as they were; and so for every way.
abbrev pub WayStays : Bytes → Bytes → List ℕ → ℕ → Type 0
WayStays v w xs s = Way w volume xs s × (path w xs ≡ path v xs)

abbrev pub WaysStay : Bytes → Bytes → Type 0
WaysStay v w = (xs : List ℕ) (s : ℕ) → Way v volume xs s → WayStays v w xs s

-- What the file at s holds is as it was: its kind, its EOF, the blocks that it owns, their bytes, and the bytes that are read.
pub record Holds (v w : Bytes) (s : ℕ) : Type 0 where
  pub sorted : sort w s ≡ sort v s
  pub ends : eof w s ≡ eof v s
  pub owns : blocks w s ≡ blocks v s
  pub bytes : (b i : ℕ) → 1 ≤ count b (blocks v s) → i < 512 → w (b * 512 + i) ≡ v (b * 512 + i)
  pub reads : content w s ≡ content v s
