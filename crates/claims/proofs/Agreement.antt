-- The claims of a volume hold exactly where it is sound. Assumes nothing.
use mathlib.Core.Path.{◌≡◌, refl, sym, ap, ap₂, ◌∙◌}
use mathlib.Core.List.{List, [], ◌∷◌, ◌++◌, append-nil}
use mathlib.Core.Bool.{Bool, true, false, not, false≢true, true≢false, beq}
use mathlib.Core.Logic.{◌↔◌}
use mathlib.Core.Option.{Option, none, some}
use Prim.Native.Nat.{ℕ, zero, suc, ◌+◌, ◌-◌, ◌*◌, ◌/◌, ◌%◌, ◌≤◌, ◌<◌}
use native.Mathlib.Nat.{not-suc-le-zero}
use native.Mathlib.Numerals.{add-one, sub-one}
use native.Mathlib.Omega.{arith}
use borrow.Author.Tests.{eqb-true, ltb-true, ltb-false, leb-true, leb-false, ne_eqb, lt-ltb, le-ltb, lt-leb, le-leb}
use lib.Dec.{eqb, ltb, leb}
use Rattle.model.specs.Bytes.{Bytes, sum, count, gather, run, one_if, is, unless, within, ◌and◌, ◌or◌}
use Rattle.model.specs.Map.{map_blocks, weight, bit, map_at, free, rest_clear}
use Rattle.model.specs.Directory.{Sort, inactive, directory, improper, file, sort, directory_type, map_place, map_block, next, ftype, key, used, eof, chain, kids}
use Rattle.model.specs.File.{Node, nodes, limb, pointer, blocks_in, first_below, span, blocks_of, blocks}
use Rattle.model.specs.Walk.{Visit, visits}
use Rattle.model.specs.Sound.{proper_size, prodos, links, outside, late, twins, top_faults, faults_of, faults, directory_faults, file_faults, owned, sound}
use Rattle.model.proofs.ByteLaws.{at_or_off, in_or_out}
use Rattle.claims.specs.Claims.{Claim, block, must, Seen, with, claim, chain_claims, limb_claims, tree_claims, file_claims, directory_claims, claims_of, claims_at, volume_claims, reserved, map_right, fits}
use Rattle.claims.proofs.SumLaws.{sum_append, sum_gather, sum_add, sum_same, sum_zero, gather_append, gather_gather, gather_same, map_gather, count_in, count_out, off_volume, on_volume}
use Rattle.claims.proofs.TestLaws.{decide, both, refuted, and_true, and_false, or_one, one_most, one_on, none_off, is_same, unless_not, unless_below, zero_test, bit_right, below_more}
use Rattle.claims.proofs.SoundFacts.{Facts, sound_facts, facts_sound}
use Rattle.claims.proofs.ClaimLaws.{block_on, block_outside, block_seen}

-- A list of claims as tests and blocks: how many tests fail, and which blocks are claimed.
abbrev pub failure : Claim → ℕ
failure (block b) = 0
failure (must t) = unless t

abbrev pub failed : List Claim → ℕ
failed = sum failure

abbrev pub block_in : Claim → List ℕ
block_in (block b) = b ∷ []
block_in (must t) = []

abbrev pub claimed : List Claim → List ℕ
claimed = gather block_in

-- all tests hold, and every block claimed is on the volume, once, and not seen before
pub record Holds (n : ℕ) (cs : List Claim) (s : Seen) : Type 0 where
  pub kept : failed cs ≡ 0
  pub inside : outside n (claimed cs) ≡ 0
  pub once : (b : ℕ) → count b (claimed cs) + one_if (s b) ≤ 1

-- the claims were made: what is seen then, as numbers, is what was seen and what is claimed
pub record Made (n : ℕ) (cs : List Claim) (s s' : Seen) : Type 0 where
  pub kept : failed cs ≡ 0
  pub inside : outside n (claimed cs) ≡ 0
  pub added : (b : ℕ) → one_if (s' b) ≡ count b (claimed cs) + one_if (s b)

pub made_holds : {n : ℕ} {cs : List Claim} {s s' : Seen} → Made n cs s s' → Holds n cs s
made_holds {s' = s'} m =
    record { kept = m.kept; inside = m.inside; once = λ b. omega (arith, m.added b, one_most (s' b)) }

pub made_seen : {n : ℕ} {cs : List Claim} {s s' : Seen} → Made n cs s s' → (b : ℕ)
    → (s' b ≡ true) ↔ (1 ≤ count b (claimed cs) + one_if (s b))
made_seen {s' = s'} m b = rw (← m.added b) (one_on (s' b))

with_one : (b : ℕ) (s : Seen) → s b ≡ false → (x : ℕ) → one_if (with b s x) ≡ is x b + one_if (s x)
unfolding with ◌or◌
with_one b s e x = go (eqb x b) refl
  where
    go : (t : Bool) → eqb x b ≡ t → one_if (t or s x) ≡ one_if t + one_if (s x)
    go true p = rw (eqb-true x b p, e)
    go false p = omega arith

never : {P : Type 0} {s : Seen} {o : Option Seen} → o ≡ none → o ≡ some s → P
never {s = s} p q = let z : ◌≡◌ {A = ℕ} 0 1 = cc in absurd (omega arith)

module _ (n : ℕ) where
  pub claim_made : (cs : List Claim) (s s' : Seen) → claim n cs s ≡ some s' → Made n cs s s'
  unfolding sum gather claim
  claim_made [] s s' e =
      let same : s ≡ s' = cc in
      record { kept = refl; inside = refl; added = λ b. rw (← same) (omega arith) }
  claim_made (block b ∷ cs) s s' e =
      decide (ltb b n) (λ l. decide (s b) (λ x. never (block_seen n cs s b x) e)
      (λ x. after (ltb-true b n l) x (claim_made cs (with b s) s' (sym (block_on n cs s b (ltb-true b n l) x) ∙ e))))
      (λ l. never (block_outside n cs s b (ltb-false b n l)) e)
    where
      after : b < n → s b ≡ false → Made n cs (with b s) s' → Made n (block b ∷ cs) s s'
      after l x m =
          let k : one_if (leb n b) ≡ 0 = rw (lt-leb n b l) in
          record {
            kept = omega (arith, m.kept);
            inside = omega (arith, m.inside);
            added = λ y. omega (arith, m.added y, with_one b s x y);
          }
  claim_made (must true ∷ cs) s s' e =
      let m = claim_made cs s s' e in
      record { kept = omega (arith, m.kept); inside = m.inside; added = m.added }
  claim_made (must false ∷ cs) s s' e = never refl e

  pub holds_claim : (cs : List Claim) (s : Seen) → Holds n cs s → (s' : Seen) × (claim n cs s ≡ some s')
  unfolding sum gather claim
  holds_claim [] s h = (s, refl)
  holds_claim (block b ∷ cs) s h =
      let r = holds_claim cs (with b s) rest in
      (r.0, block_on n cs s b below fresh ∙ r.1)
    where
      fresh : s b ≡ false
      fresh = none_off (s b) (omega (arith, h.once b, is_same b b refl))

      below : b < n
      below = leb-false n b (none_off (leb n b) (omega (arith, h.inside)))

      rest : Holds n cs (with b s)
      rest =
          record {
            kept = omega (arith, h.kept);
            inside = omega (arith, h.inside);
            once = λ y. omega (arith, h.once y, with_one b s fresh y);
          }
  holds_claim (must true ∷ cs) s h = holds_claim cs s (record { kept = omega (arith, h.kept); inside = h.inside; once = h.once })
  holds_claim (must false ∷ cs) s h = absurd (omega (arith, h.kept))

-- The blocks that are claimed, and the tests that fail, of a chain, a file and a slot.
claimed_front : (xs ys : List Claim) → claimed ys ≡ [] → claimed (xs ++ ys) ≡ claimed xs
claimed_front xs ys e = gather_append block_in xs ys ∙ rw e (append-nil (claimed xs))

module _ (v : Bytes) where
  pub claimed_chain : (p k u : ℕ) → claimed (chain_claims v p k u) ≡ chain v k u
  unfolding gather chain_claims chain
  claimed_chain p k zero = refl
  claimed_chain p k (suc u) = ap (λ (l : List ℕ). k ∷ l) (claimed_chain k (next v k) u)

  pub failed_chain : (p k u : ℕ) → failed (chain_claims v p k u) ≡ links v p k u
  unfolding sum chain_claims links
  failed_chain p k zero = omega arith
  failed_chain p k (suc u) = omega (arith, failed_chain k (next v k) u)

  -- what is below one pointer, of the claims and of the nodes
  limb_same : {A : Type 0} (f : List Claim → A) (g : List Node → A) (tree : ℕ → ℕ → List Claim) (part : ℕ → ℕ → List Node)
      → f [] ≡ g [] → ((q k : ℕ) → f (tree q k) ≡ g (part q k)) → (q k i : ℕ) → f (limb_claims tree v q k i) ≡ g (limb part v q k i)
  unfolding limb_claims limb
  limb_same f g tree part z h q k i = go (eqb (pointer v k i) 0)
    where
      go : (t : Bool)
          → f (elim t [ true ↦ [] | false ↦ tree (q * 256 + i) (pointer v k i) ])
          ≡ g (elim t [ true ↦ [] | false ↦ part (q * 256 + i) (pointer v k i) ])
      go true = z
      go false = h (q * 256 + i) (pointer v k i)

  module _ (e : ℕ) where
    pub claimed_tree : (h q k : ℕ) → claimed (tree_claims v e h q k) ≡ blocks_in (nodes v h q k)
    unfolding gather tree_claims nodes
    claimed_tree zero q k = refl
    claimed_tree (suc h) q k =
        ap (λ (l : List ℕ). k ∷ l)
        (gather_gather block_in _ (run 0 256)
        ∙ gather_same _ _ (run 0 256) (limb_same claimed blocks_in (tree_claims v e h) (nodes v h) refl (claimed_tree h) q k)
        ∙ sym (map_gather _ (λ x. x.block) (run 0 256)))

    pub failed_tree : (h q k : ℕ) → failed (tree_claims v e h q k) ≡ late e (nodes v h q k)
    unfolding sum tree_claims nodes
    failed_tree zero q k = omega (arith, unless_below (first_below 0 q) e)
    failed_tree (suc h) q k = omega (arith, unless_below (first_below (suc h) q) e, below (failed_tree h))
      where
        below : ((q k : ℕ) → failed (tree_claims v e h q k) ≡ late e (nodes v h q k))
            → failed (gather (limb_claims (tree_claims v e h) v q k) (run 0 256)) ≡ late e (gather (limb (nodes v h) v q k) (run 0 256))
        below each =
            sum_gather failure _ (run 0 256)
            ∙ sum_same _ _ (run 0 256) (limb_same failed (late e) (tree_claims v e h) (nodes v h) refl each q k)
            ∙ sym (sum_gather _ _ (run 0 256))

  pub claimed_of : (K : Sort) (l k s : ℕ) → claimed (claims_of K v l k s) ≡ blocks_of K v s
  unfolding gather claims_of directory_claims file_claims blocks_of
  claimed_of inactive l k s = refl
  claimed_of directory l k s = claimed_front (chain_claims v 0 (key v s) (used v s)) _ refl ∙ claimed_chain 0 (key v s) (used v s)
  claimed_of improper l k s = refl
  claimed_of (file h) l k s =
      claimed_front (tree_claims v (span (eof v s)) h 0 (key v s)) _ refl ∙ claimed_tree (span (eof v s)) h 0 (key v s)

-- the blocks of a file, whose number is compared with its blocks used
pub file_blocks : (v : Bytes) (e h s : ℕ) → sort v s ≡ file h → blocks v s ≡ claimed (tree_claims v e h 0 (key v s))
unfolding blocks_of
file_blocks v e h s p = rw p (sym (claimed_tree v e h 0 (key v s)))

failed_front : (xs ys : List Claim) (k : ℕ) → failed xs ≡ k → failed (xs ++ ys) ≡ k + failed ys
failed_front xs ys k e = sum_append failure xs ys ∙ rw e

-- the sums, in the two orders
regroup_directory : (a b c d e f r o a' e' g x y z x' z' : ℕ) → a ≡ a' → e ≡ e' → r ≡ g + (x + (y + (z + 0)))
    → (x ≡ 0) ↔ (x' ≡ 0) → (z ≡ 0) ↔ (z' ≡ 0)
    → (a + (b + (c + (d + (e + (f + r))))) + o ≡ 0) ↔ (a' + (b + c) + (d + e' + f + g + y + z' + x' + o) ≡ 0)
regroup_directory a b c d e f r o a' e' g x y z x' z' i j k p q =
    (λ h. omega (arith, p.0 (omega arith), q.0 (omega arith)), λ h. omega (arith, p.1 (omega arith), q.1 (omega arith)))

regroup_file : (a b c d r o c' e f : ℕ) → c ≡ c' → r ≡ e + (f + 0)
    → (a + (b + (c + (d + r))) + o ≡ 0) ↔ (a + b + (c' + d + f + e + o) ≡ 0)
regroup_file a b c d r o c' e f i j = (λ h. omega arith, λ h. omega arith)

-- a slot: its tests hold and its blocks are on the volume exactly where it has no fault
module _ (n : ℕ) (v : Bytes) (l d s : ℕ) where
  pub slot_agrees : (K : Sort) → sort v s ≡ K
      → (failed (claims_of K v l (key v d) s) + outside n (blocks v s) ≡ 0) ↔ (faults_of K n v l d s ≡ 0)
  unfolding sum claims_of directory_claims file_claims blocks_of faults_of directory_faults file_faults
  slot_agrees inactive e = (λ h. refl, λ h. rw e)
  slot_agrees directory e =
      regroup_directory _ _ _ _ _ _ _ _ _ _ _ _ _ _ _ _ (unless_not (eqb l 0)) (unless_not (eqb (used v s) 0))
      (failed_front (chain_claims v 0 (key v s) (used v s)) _ _ (failed_chain v 0 (key v s) (used v s)))
      (zero_test (top_faults v s)) (zero_test (twins v (kids v s)))
  slot_agrees improper e = (λ h. absurd (omega arith), λ h. absurd (omega arith))
  slot_agrees (file t) e =
      regroup_file _ _ _ _ _ _ _ _ _ (unless_not (eqb (ftype v s) directory_type))
      (failed_front (tree_claims v (span (eof v s)) t 0 (key v s)) _ _ (failed_tree v (span (eof v s)) t 0 (key v s)))

-- The whole volume.
module _ (v : Bytes) where
  pub claimed_visits : (ws : List (Visit ℕ)) → claimed (gather (claims_at v) ws) ≡ gather (λ w. blocks v w.slot) ws
  claimed_visits ws =
      gather_gather block_in (claims_at v) ws
      ∙ gather_same _ _ ws (λ w. claimed_of v (sort v w.slot) w.levels (key v w.way) w.slot)

  module _ (n : ℕ) where
    pub visits_agree : (ws : List (Visit ℕ))
        → (failed (gather (claims_at v) ws) + outside n (claimed (gather (claims_at v) ws)) ≡ 0)
        ↔ (sum (λ w. faults n v w.levels w.way w.slot) ws ≡ 0)
    visits_agree ws = (λ h. sum_zero _ _ ws (λ w. (one w).0) (sym total ∙ h), λ h. total ∙ sum_zero _ _ ws (λ w. (one w).1) h)
      where
        one : (w : Visit ℕ) → (failed (claims_at v w) + outside n (blocks v w.slot) ≡ 0) ↔ (faults n v w.levels w.way w.slot ≡ 0)
        one w = slot_agrees n v w.levels w.way w.slot (sort v w.slot) refl

        total : failed (gather (claims_at v) ws) + outside n (claimed (gather (claims_at v) ws))
            ≡ sum (λ w. failed (claims_at v w) + outside n (blocks v w.slot)) ws
        total =
            rw (claimed_visits ws, sum_gather failure (claims_at v) ws, sum_gather (λ b. one_if (leb n b)) (λ w. blocks v w.slot) ws)
            (sym (sum_add _ _ ws))

-- boot and map blocks are owned once
module _ (b : ℕ) where
  in_run : (a c : ℕ) → count b (run a c) ≡ one_if (leb a b and ltb b (a + c))
  unfolding ◌and◌
  in_run a c =
      in_or_out a c b (λ l h. rw (le-leb a b l, lt-ltb b (a + c) h) (count_in b a c l h))
      (λ o. rw (and_false (leb a b) (ltb b (a + c)) (λ p q. o (leb-true a b p) (ltb-true b (a + c) q))) (count_out b a c o))

  boot_blocks : is b 0 + is b 1 ≡ one_if (ltb b 2)
  boot_blocks =
      at_or_off b 0 (λ e. rw e)
      (λ o. at_or_off b 1 (λ e. rw e) (λ p. rw (ne_eqb b 0 o, ne_eqb b 1 p, le-ltb b 2 (omega (arith, o, p)))))

  pub count_owned : (n : ℕ) (v : Bytes) → map_block v ≡ map_place
      → count b (owned n v) ≡ count b (claimed (volume_claims v)) + one_if (reserved n b)
  unfolding sum owned reserved
  count_owned n v e = omega (arith, boot_blocks, listed, apart)
    where
      in_map : Bool
      in_map = leb map_place b and ltb b (map_place + map_blocks n)

      listed : count b (run (map_block v) (map_blocks n) ++ gather (λ w. blocks v w.slot) (visits v))
          ≡ one_if in_map + count b (claimed (volume_claims v))
      listed =
          sum_append (is b) (run (map_block v) (map_blocks n)) _
          ∙ ap₂ (λ x y. x + y) (ap (λ m. count b (run m (map_blocks n))) e ∙ in_run map_place (map_blocks n))
          (ap (count b) (sym (claimed_visits v (visits v))))

      apart : one_if (ltb b 2 or in_map) ≡ one_if (ltb b 2) + one_if in_map
      apart = or_one (ltb b 2) in_map (λ p q. omega (arith, ltb-true b 2 p, leb-true map_place b ((and_true (leb map_place b) _).0 q).0))

-- the map, bit by bit
free_most : (m : ℕ) (v : Bytes) (b : ℕ) → free m v b ≤ 1
unfolding free bit
free_most m v b = let q = v (map_at m b) / weight (b % 8) in let h : q % 2 ≤ 1 = omega arith in h

pub map_right_law : (v : Bytes) (s : Seen) (n : ℕ) → (map_right v s n ≡ true) ↔ ((b : ℕ) → b < n → one_if (s b) + free map_place v b ≡ 1)
unfolding map_right
map_right_law v s zero = (λ e b l. absurd (omega arith), λ f. refl)
map_right_law v s (suc n) =
    let here = bit_right (free map_place v n) (s n) (free_most map_place v n) in
    let all = map_right_law v s n in (
      λ e. let p = (and_true (beq (eqb (free map_place v n) 1) (not (s n))) _).0 e in below_more n (all.0 p.1) (here.0 p.0),
      λ f. (and_true _ _).1 (here.1 (f n (omega arith)), all.1 (λ b l. f b (omega arith))),
    )

-- a loop over the map, from block 0 up: one more bit is right, or one is wrong
module _ (v : Bytes) (s : Seen) (i : ℕ) where
  pub map_step : beq (eqb (free map_place v i) 1) (not (s i)) ≡ true → map_right v s (i + 1) ≡ map_right v s i
  unfolding map_right ◌and◌
  map_step e = rw (add-one, map_right, e)

  pub map_wrong : (n : ℕ) → i < n → beq (eqb (free map_place v i) 1) (not (s i)) ≡ false → map_right v s n ≡ false
  map_wrong n l e =
      refuted (map_right v s n)
      (λ r. true≢false (sym ((bit_right (free map_place v i) (s i) (free_most map_place v i)).1 ((map_right_law v s n).0 r i l)) ∙ e))

-- The decision is soundness.
fits_some : (n : ℕ) (v : Bytes) (o : Option Seen) → fits n v o ≡ true → (s : Seen) × (o ≡ some s) × (map_right v s n ≡ true)
unfolding fits
fits_some n v none e = absurd (false≢true e)
fits_some n v (some s) e = (s, refl, e)

module _ (n : ℕ) (v : Bytes) where
  pub decided_facts : proper_size n ≡ true → prodos n v ≡ true → map_block v ≡ map_place
      → fits n v (claim n (volume_claims v) (reserved n)) ≡ true → rest_clear map_place v n ≡ true → Facts n v
  unfolding within
  decided_facts z h e f r =
      let o = fits_some n v (claim n (volume_claims v) (reserved n)) f in
      let m = claim_made n (volume_claims v) (reserved n) o.0 o.1 in
      let size = (and_true (leb 16 n) (leb n 65535)).0 z in
      let free = (map_right_law v o.0 n).0 o.2 in
      record {
        least = leb-true 16 n size.0;
        most = leb-true n 65535 size.1;
        header = h;
        placed = e;
        faultfree = (visits_agree v n (visits v)).0 (omega (arith, m.kept, m.inside));
        once = λ b l. omega (arith, count_owned b n v e, m.added b, free b l);
        rest = r;
      }

  pub facts_hold : Facts n v → Holds n (volume_claims v) (reserved n)
  facts_hold f =
      let kept = (visits_agree v n (visits v)).1 f.faultfree in
      let inside : outside n (claimed (volume_claims v)) ≡ 0 = omega (arith, kept) in
      record {
        kept = omega (arith, kept);
        inside = inside;
        once = λ b. decide (ltb b n) (λ l. omega (arith, count_owned b n v f.placed, f.once b (ltb-true b n l)))
            (λ l. omega (arith, off_volume b n (claimed (volume_claims v)) inside (ltb-false b n l), one_most (reserved n b)));
      }

  pub facts_decided : Facts n v → fits n v (claim n (volume_claims v) (reserved n)) ≡ true
  unfolding fits
  facts_decided f =
      let o = holds_claim n (volume_claims v) (reserved n) (facts_hold f) in
      let m = claim_made n (volume_claims v) (reserved n) o.0 o.1 in
      rw o.1 ((map_right_law v o.0 n).1 (λ b l. omega (arith, count_owned b n v f.placed, m.added b, f.once b l)))

  pub decided : proper_size n ≡ true → prodos n v ≡ true → map_block v ≡ map_place
      → (fits n v (claim n (volume_claims v) (reserved n)) and rest_clear map_place v n) ≡ sound n v
  decided z h e =
      both _ _
      (λ t. let p = (and_true (fits n v (claim n (volume_claims v) (reserved n))) _).0 t in
      facts_sound n v (decided_facts z h e p.0 p.1))
      (λ t. let f = sound_facts n v t in (and_true _ _).1 (facts_decided f, f.rest))

-- the blocks of a chain that was claimed lie on the volume
module _ (n : ℕ) (v : Bytes) where
  pub chain_inside : (p k u : ℕ) (s s' : Seen) → claim n (chain_claims v p k u) s ≡ some s' → outside n (chain v k u) ≡ 0
  chain_inside p k u s s' e = rw claimed_chain at (claim_made n (chain_claims v p k u) s s' e).inside

  pub claimed_inside : (p k u : ℕ) (s s' : Seen) → claim n (chain_claims v p k u) s ≡ some s' → (b : ℕ) → 1 ≤ count b (chain v k u) → b < n
  claimed_inside p k u s s' e b = on_volume b n (chain v k u) (chain_inside p k u s s' e)

  -- the first block, and the others
  pub inside_step : (k u : ℕ) → 0 < u → outside n (chain v k u) ≡ 0 → (k < n) × (outside n (chain v (next v k) (u - 1)) ≡ 0)
  unfolding sum chain
  inside_step k zero h o = absurd (not-suc-le-zero h)
  inside_step k (suc u) h o = (leb-false n k (none_off (leb n k) (omega arith)), rw sub-one (omega arith))
