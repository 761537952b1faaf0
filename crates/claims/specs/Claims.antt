-- Soundness as a list of claims, in the order in which the walk meets them: tests that must hold, and blocks, each of which must be on the
-- volume and not be claimed before. A block is claimed before anything in it is read.
use Rattle.std.specs.Prelude.{ℕ, zero, suc, ◌+◌, ◌*◌, List, [], ◌∷◌, ◌++◌, Bool, true, false, not, leb, ltb, eqb, length}
use Rattle.std.proofs.Math.Option.{Option, none, some}
use Rattle.std.specs.Bool.{beq}
use Rattle.model.specs.Bytes.{Bytes, gather, run, ◌and◌, ◌or◌}
use Rattle.model.specs.Names.{capital_name}
use Rattle.model.specs.Map.{map_blocks, free}
use Rattle.model.specs.Directory.{Sort, inactive, directory, improper, file, sort, at, directory_type, volume, map_place, previous, next, active_count, ftype, key, used, eof, directory_key, kids, active}
use Rattle.model.specs.File.{pointer, first_below, height_for, span, blocks}
use Rattle.model.specs.Walk.{level_most, Visit, walk}
use Rattle.model.specs.Sound.{twins, top_faults}

pub data Claim : Type 0 where
  block : ℕ → Claim
  must : Bool → Claim

-- which blocks were claimed
abbrev pub Seen : Type 0
Seen = ℕ → Bool

unfoldable pub with : ℕ → Seen → Seen
with b s = λ x. eqb x b or s x

-- the claims one by one: none where one fails, else what is seen at the end
unfoldable pub claim : ℕ → List Claim → Seen → Option Seen
claim n [] s = some s
claim n (block b ∷ cs) s = elim (ltb b n and not (s b)) [ true ↦ claim n cs (with b s) | false ↦ none ]
claim n (must t ∷ cs) s = elim t [ true ↦ claim n cs s | false ↦ none ]

-- a function's answer and what it left as seen, as such an outcome
abbrev pub outcome : Bool → Seen → Option Seen
outcome true s = some s
outcome false s = none

-- a chain of u blocks from k on, which follows p
unfoldable pub chain_claims : Bytes → ℕ → ℕ → ℕ → List Claim
chain_claims v p k zero = must (eqb k 0) ∷ []
chain_claims v p k (suc u) = block k ∷ must (eqb (previous v k) p) ∷ chain_claims v k (next v k) u

-- the blocks of a file that ends before file block e: the block k of height h with number q, and what is below it
unfoldable pub limb_claims : (ℕ → ℕ → List Claim) → Bytes → ℕ → ℕ → ℕ → List Claim
limb_claims tree v q k i = elim (eqb (pointer v k i) 0) [ true ↦ [] | false ↦ tree (q * 256 + i) (pointer v k i) ]

unfoldable pub tree_claims : Bytes → ℕ → ℕ → ℕ → ℕ → List Claim
tree_claims v e zero q k = must (ltb (first_below 0 q) e) ∷ block k ∷ []
tree_claims v e (suc h) q k =
    must (ltb (first_below (suc h) q) e) ∷ block k ∷ gather (limb_claims (λ r p. tree_claims v e h r p) v q k) (run 0 256)

unfoldable pub file_claims : Bytes → ℕ → ℕ → List Claim
file_claims v h s =
    must (not (eqb (ftype v s) directory_type))
    ∷ must (eqb h (height_for (eof v s)))
    ∷ tree_claims v (span (eof v s)) h 0 (key v s)
    ++ (must (eqb (used v s) (length (blocks v s))) ∷ [])

unfoldable pub directory_claims : Bytes → ℕ → List Claim
directory_claims v s =
    must (eqb (ftype v s) directory_type)
    ∷ must (not (eqb (used v s) 0))
    ∷ must (eqb (eof v s) (used v s * 512))
    ∷ chain_claims v 0 (key v s) (used v s)
    ++ (must (eqb (top_faults v s) 0)
    ∷ must (eqb (active_count v (key v s)) (active v (kids v s)))
    ∷ must (eqb (twins v (kids v s)) 0)
    ∷ [])

-- the slot s of a directory whose key is k, with so many levels left below it
unfoldable pub claims_of : Sort → Bytes → ℕ → ℕ → ℕ → List Claim
claims_of inactive v l k s = []
claims_of directory v l k s =
    must (not (eqb l 0)) ∷ must (capital_name v (at s)) ∷ must (eqb (directory_key v s) k) ∷ directory_claims v s
claims_of improper v l k s = must false ∷ []
claims_of (file h) v l k s = must (capital_name v (at s)) ∷ must (eqb (directory_key v s) k) ∷ file_claims v h s

abbrev pub claims_at : Bytes → Visit ℕ → List Claim
claims_at v w = claims_of (sort v w.slot) v w.levels (key v w.way) w.slot

-- the slots ss of the directory at d, and all that is below them
abbrev pub claims : Bytes → ℕ → ℕ → List ℕ → List Claim
claims v l d ss = gather (claims_at v) (walk (kids v) (λ _ s. s) l d ss)

-- the claims of the whole volume
abbrev pub volume_claims : Bytes → List Claim
volume_claims v = claims v (suc level_most) volume (volume ∷ [])

-- what is seen before the first claim: boot and map blocks
unfoldable pub reserved : ℕ → Seen
reserved n = λ b. ltb b 2 or (leb map_place b and ltb b (map_place + map_blocks n))

-- the map calls free just what is not seen, of the first n blocks
unfoldable pub map_right : Bytes → Seen → ℕ → Bool
map_right v s zero = true
map_right v s (suc b) = beq (eqb (free map_place v b) 1) (not (s b)) and map_right v s b

-- the decision from the outcome of the claims
unfoldable pub fits : ℕ → Bytes → Option Seen → Bool
fits n v none = false
fits n v (some s) = map_right v s n
