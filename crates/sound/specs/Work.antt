-- The claims of an entry by the values that its slot has, and of all that is below it, for the functions that take them one by one.
use Prim.{Unit}
use Rattle.std.specs.Prelude.{ℕ, zero, suc, ◌<◌, ◌≡◌, List, [], ◌∷◌, ◌++◌, Bool, true, false, not, eqb, length}
use Rattle.model.specs.Bytes.{Bytes, gather, ◌and◌}
use Rattle.model.specs.Map.{rest_clear}
use Rattle.model.specs.Directory.{directory_type, volume, map_place, sort, active_count, key, at, chain, kids, active}
use Rattle.model.specs.File.{height_for, span, nodes}
use Rattle.model.specs.Sound.{twins, top_faults}
use Rattle.model.specs.declared.Kind.TheVariants.{Directory}
use Rattle.model.specs.declared.Entry.{Entry}
use Rattle.claims.specs.Claims.{Claim, must, claim, chain_claims, tree_claims, claims_of, volume_claims, reserved, fits}
use Rattle.checks.specs.Inside.{Inside}
use Rattle.directory.specs.Slots.{entry_of, slot_says}
use Rattle.directory.specs.declared.Slot.TheVariants.{Active}
use Rattle.directory.specs.Search.{listed}
use Rattle.sound.specs.declared.Own.{Own}
use Rattle.sound.specs.declared.Own.TheVariants.{Wrong, Whole, Inner}

-- what stands at a place: the volume is a directory with its own key, length, type and EOF
abbrev pub volume_entry : Entry
volume_entry =
    record {
      kind = Directory 2;
      ftype = 15;
      access = 0;
      aux = 0;
      used = 4;
      eof = 2048;
      created = record { date = 0; time = 0 };
      modified = record { date = 0; time = 0 };
    }

unfoldable pub standing : Bytes → ℕ → Entry
standing v s = elim (eqb s volume) [ true ↦ volume_entry | false ↦ entry_of v (at s) ]

abbrev pub Stands : Bytes → ℕ → Entry → Type 0
Stands v s e = slot_says (sort v s) (standing v s) ≡ Active e

-- k is the key of what stands at s, and e says what stands there
abbrev pub KeyAt : Bytes → ℕ → ℕ → Type 0
KeyAt v s k = k ≡ key v s

abbrev pub Describes : Bytes → ℕ → ℕ → Entry → Type 0
Describes v s k e = KeyAt v s k × (e ≡ standing v s)

-- a data file of height h with this type, EOF, key and number of blocks used
unfoldable pub file_work : Bytes → ℕ → ℕ → ℕ → ℕ → ℕ → List Claim
file_work v h type e k u =
    must (not (eqb type directory_type))
    ∷ must (eqb h (height_for e))
    ∷ tree_claims v (span e) h 0 k
    ++ (must (eqb u (length (nodes v h 0 k))) ∷ [])

-- the directory at s, of u blocks from k on, by itself: its chain and its header, then its names
unfoldable pub chain_work : Bytes → ℕ → ℕ → ℕ → List Claim
chain_work v s k u =
    chain_claims v 0 k u
    ++ (must (eqb (top_faults v s) 0)
    ∷ must (eqb (active_count v k) (active v (listed v k u)))
    ∷ [])

abbrev pub names_work : Bytes → ℕ → ℕ → List Claim
names_work v k u = must (eqb (twins v (listed v k u)) 0) ∷ []

abbrev pub own_work : Bytes → ℕ → ℕ → ℕ → List Claim
own_work v s k u = chain_work v s k u ++ names_work v k u

-- the slot s of a directory with the key k, with so many levels left, and all that is below it
unfoldable pub entry_work : Bytes → ℕ → ℕ → ℕ → List Claim
entry_work v zero k s = claims_of (sort v s) v 0 k s
entry_work v (suc l) k s = claims_of (sort v s) v (suc l) k s ++ gather (entry_work v l (key v s)) (kids v s)

-- the entries of a directory of u blocks from k on, and all that is below them
abbrev pub list_work : Bytes → ℕ → ℕ → ℕ → List Claim
list_work v l k u = gather (entry_work v l k) (listed v k u)

-- the same, and only then its names: a test may be made later than it stands in the list
abbrev pub directory_work : Bytes → ℕ → ℕ → ℕ → List Claim
directory_work v l k u = list_work v l k u ++ names_work v k u

-- whether what a slot claims by itself holds, and what then is below it: nothing, or the u blocks of a directory from k on, if their names are unlike
abbrev pub right_of : Bytes → Own → Bool
right_of v Wrong = false
right_of v Whole = true
right_of v (Inner k u) = eqb (twins v (listed v k u)) 0

pub record Opened (n : ℕ) (v : Bytes) (l s k u : ℕ) : Type 0 where
  pub below : kids v s ≡ listed v k u
  pub start : k ≡ key v s
  pub some : 0 < u
  pub inside : Inside n (chain v k u)
  pub level : 0 < l

abbrev pub Leads : ℕ → Bytes → ℕ → ℕ → Own → Type 0
Leads n v l s Wrong = Unit {0}
Leads n v l s Whole = kids v s ≡ []
Leads n v l s (Inner k u) = Opened n v l s k u

-- the decision: the claims of the volume hold, its map calls free just what they leave, and is clear behind the volume
abbrev pub decision : ℕ → Bytes → Bool
decision n v = fits n v (claim n (volume_claims v) (reserved n)) and rest_clear map_place v n
