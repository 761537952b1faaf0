-- The theorems at work. The volume of case 2 has LOG with ABC in block 7, the directory DAYS in block 8, and in it D1 with block 9: it is sound by
-- computation, its blocks have the roles said here, and a path meets no block twice. A volume made by three calls on a fresh one is sound by the
-- theorem, and when LOG is destroyed there D1 is untouched.
use Prim.Native.Nat.{ℕ, zero, suc, ◌+◌, ◌≤◌, ◌<◌}
use mathlib.Core.Path.{◌≡◌, refl, ap, ◌∙◌}
use mathlib.Core.List.{List, [], ◌∷◌}
use mathlib.Core.Bool.{Bool, true}
use lib.Dec.{ltb}
use native.Mathlib.Omega.{arith}
use borrow.Author.Tests.{ltb-true}
use Rattle.model.specs.Bytes.{Bytes, Octets, view, zeros, count, ◌and◌}
use Rattle.model.specs.Names.{parts}
use Rattle.model.specs.Map.{map_blocks, free}
use Rattle.model.specs.Directory.{Sort, file, directory, sort, at, volume, map_place, key, used, chain, kids}
use Rattle.model.specs.File.{nodes, blocks, content}
use Rattle.model.specs.Sound.{sound}
use Rattle.model.specs.Calls.{target, spot}
use Rattle.model.specs.Format.{format_number}
use Rattle.model.specs.Create.{Wanted, create}
use Rattle.model.specs.Destroy.{destroy}
use Rattle.cases.proofs.Cases.{cases, fresh, stamp, site7, LOG, DAYS, D1, abc, make_file, make_directory, write_to}
use Rattle.model.proofs.Laws.Total.{total, reach}
use Rattle.model.proofs.TestLaws.{and_left, and_right}
use Rattle.model.proofs.Laws.Sound.{deep, top}
use Rattle.model.proofs.Laws.Facts.{Seen}
use Rattle.model.proofs.Laws.One.{Kept}
use Rattle.model.proofs.Laws.Destroy.{destroy_sound, destroy_others}
use Rattle.model.proofs.Laws.Octet.{format_octets}
use Rattle.model.proofs.Laws.Format.{format_sound}
use Rattle.model.proofs.Laws.Sequence.{Call, creating, writing, all_after, AllLent, calls_sound}
use Rattle.model.proofs.Laws.Exactly.{Given, create_table, create_exactly}
use Rattle.model.proofs.Laws.Roles.{leaves, Role, folder, body, unused, HasRole, one_role, past_free}
use Rattle.model.proofs.Laws.Twice.{passed, passed_from, passed_blocks, block_once}

abbrev pub plain : Wanted
plain = record { kind = 1; ftype = 0x04; aux = 0; stamp = stamp }

abbrev pub nested : Wanted
nested = record { kind = 0xD; ftype = 0x0F; aux = 0; stamp = stamp }

-- The volume of case 2.
unfoldable pub worked : Bytes
worked =
    let a = make_file 16 LOG (fresh 16) in
    let b = write_to 16 LOG 0 abc 3 a.image in
    let c = make_directory 16 DAYS b.image in
    let d = make_file 16 D1 c.image in
    d.image

-- what is computed of it, at once
pub record Observed : Type 0 where
  pub sound : Bool
  pub log_met : ℕ
  pub log_sort : Sort
  pub log_data : ℕ
  pub days_met : ℕ
  pub days_sort : Sort
  pub days_chain : ℕ
  pub tenth : ℕ
  pub way : List ℕ
  pub again : ℕ

unfoldable pub observed : Bytes → Observed
observed v =
    record {
      sound = sound 16 v;
      log_met = reach (kids v) 27 deep volume top;
      log_sort = sort v 27;
      log_data = count 7 (leaves (nodes v 0 0 (key v 27)));
      days_met = reach (kids v) 28 deep volume top;
      days_sort = sort v 28;
      days_chain = count 8 (chain v (key v 28) (used v 28));
      tenth = free map_place v 10;
      way = passed_blocks v (view D1) (parts (view D1) 14);
      again = (create 8192 v (view LOG) 10 plain).number;
    }

computed : observed worked
    ≡ record {
      sound = true;
      log_met = 1;
      log_sort = file 0;
      log_data = 1;
      days_met = 1;
      days_sort = directory;
      days_chain = 1;
      tenth = 1;
      way = 2 ∷ 3 ∷ 4 ∷ 5 ∷ 8 ∷ [];
      again = 0x47;
    }
unfolding worked observed cases total passed passed_from
computed = refl

-- It is sound. LOG is in slot 2 of block 2, DAYS in slot 3, and both are on the walk.
pub worked_sound : sound 16 worked ≡ true
unfolding observed
worked_sound = ap (λ x. x.sound) computed

log_seen : Seen worked 27
unfolding observed
log_seen = omega (arith, ap (λ x. x.log_met) computed)

days_seen : Seen worked 28
unfolding observed
days_seen = omega (arith, ap (λ x. x.days_met) computed)

-- Block 7 holds data and serves for nothing else, block 8 is a directory's, block 10 is free.
pub block_7 : HasRole worked 16 7 body
unfolding observed
block_7 = (27, 0, log_seen, ap (λ x. x.log_sort) computed, omega (arith, ap (λ x. x.log_data) computed))

pub block_7_only : (r : Role) → HasRole worked 16 7 r → r ≡ body
block_7_only r h = one_role 16 worked worked_sound 7 (omega arith) r body h block_7

pub block_8 : HasRole worked 16 8 folder
unfolding observed
block_8 = (28, days_seen, ap (λ x. x.days_sort) computed, omega (arith, ap (λ x. x.days_chain) computed))

pub block_8_only : (r : Role) → HasRole worked 16 8 r → r ≡ folder
block_8_only r h = one_role 16 worked worked_sound 8 (omega arith) r folder h block_8

pub block_10 : HasRole worked 16 10 unused
unfolding observed
block_10 = ap (λ x. x.tenth) computed

-- The bits of the numbers 16 to 4095 are 0.
pub worked_past : (x : ℕ) → 16 ≤ x → x < 4096 → free map_place worked x ≡ 0
unfolding map_blocks
worked_past x h l = past_free 16 worked worked_sound x h l

-- The path to D1 leads through the blocks 2, 3, 4, 5 and 8, and no block is met twice.
pub to_d1 : passed_blocks worked (view D1) (parts (view D1) 14) ≡ 2 ∷ 3 ∷ 4 ∷ 5 ∷ 8 ∷ []
unfolding observed
to_d1 = ap (λ x. x.way) computed

pub to_d1_once : (b : ℕ) → count b (passed_blocks worked (view D1) (parts (view D1) 14)) ≤ 1
to_d1_once b = block_once 16 worked worked_sound (view D1) (parts (view D1) 14) b

-- LOG cannot be created again: of the table's rows the first that applies is that of $47.
pub log_again : Given (create_table 8192 worked (view LOG) 10 plain (target worked (view LOG) 10)) 0x47
unfolding observed
log_again = ((create_exactly 8192 worked (view LOG) 10 plain).refused 0x47 (λ e. omega arith)).0 (ap (λ x. x.again) computed)

-- Names as bytes.
unfoldable pub bytes : List ℕ → Bool
bytes [] = true
bytes (x ∷ xs) = ltb x 256 and bytes xs

pub bytes_view : (l : List ℕ) → bytes l ≡ true → Octets (view l)
unfolding bytes
bytes_view [] e i = omega arith
bytes_view (x ∷ l) e zero = ltb-true x 256 (and_left _ _ e)
bytes_view (x ∷ l) e (suc i) = bytes_view l (and_right _ _ e) i

pub names_bytes : (bytes site7 ≡ true) × (bytes LOG ≡ true) × (bytes DAYS ≡ true) × (bytes D1 ≡ true) × (bytes (65 ∷ 66 ∷ 67 ∷ []) ≡ true)
unfolding bytes ◌and◌
names_bytes = (refl, refl, refl, refl, refl)

-- A fresh volume of 16 blocks is sound: by the theorem, not by computation.
fresh_number : format_number 8192 (view site7) 5 ≡ 0
unfolding cases
fresh_number = refl

pub fresh_sound : sound 16 (fresh 16) ≡ true
unfolding fresh
fresh_sound = format_sound 8192 zeros (view site7) 5 stamp fresh_number

fresh_octets : Octets (fresh 16)
unfolding fresh
fresh_octets = format_octets 8192 zeros (view site7) 5 stamp (λ i. omega arith) (bytes_view site7 names_bytes.0)

-- The calls that made the volume of case 2.
abbrev four : List Call
four =
    creating (view LOG) 10 plain
    ∷ writing (view LOG) 10 0 abc 3 stamp
    ∷ creating (view DAYS) 11 nested
    ∷ creating (view D1) 14 plain
    ∷ []

four_lent : AllLent four
four_lent = (
  (bytes_view LOG names_bytes.1, omega arith),
  (
    (bytes_view LOG names_bytes.1, bytes_view (65 ∷ 66 ∷ 67 ∷ []) names_bytes.4),
    ((bytes_view DAYS names_bytes.2, omega arith), ((bytes_view D1 names_bytes.3, omega arith), tt)),
  ),
)

pub worked_octets : Octets worked
unfolding worked make_file make_directory write_to
worked_octets = (calls_sound 8192 four (fresh 16) four_lent fresh_octets fresh_sound).1

-- LOG, DAYS and D1 are created: the volume is sound again, without a look at its bytes.
abbrev pub three : List Call
three = creating (view LOG) 10 plain ∷ creating (view DAYS) 11 nested ∷ creating (view D1) 14 plain ∷ []

three_lent : AllLent three
three_lent = (
  (bytes_view LOG names_bytes.1, omega arith),
  ((bytes_view DAYS names_bytes.2, omega arith), ((bytes_view D1 names_bytes.3, omega arith), tt)),
)

unfoldable pub made : Bytes
made = all_after 8192 three (fresh 16)

pub made_sound : sound 16 made ≡ true
unfolding made
made_sound = (calls_sound 8192 three (fresh 16) three_lent fresh_octets fresh_sound).0

made_octets : Octets made
unfolding made
made_octets = (calls_sound 8192 three (fresh 16) three_lent fresh_octets fresh_sound).1

-- D1 is in slot 2 of block 8, LOG in slot 2 of block 2.
pub record Found : Type 0 where
  pub d1_met : ℕ
  pub d1_sort : Sort
  pub d1_blocks : List ℕ
  pub log_spot : ℕ
  pub done : ℕ

unfoldable pub found : Bytes → Found
found v =
    record {
      d1_met = reach (kids v) 105 deep volume top;
      d1_sort = sort v 105;
      d1_blocks = blocks v 105;
      log_spot = spot (target v (view LOG) 10);
      done = (destroy 8192 v (view LOG) 10).number;
    }

made_found : found made ≡ record { d1_met = 1; d1_sort = file 0; d1_blocks = 9 ∷ []; log_spot = 27; done = 0 }
unfolding made found cases total
made_found = refl

-- LOG is destroyed, and is not refused: what is left is sound, and D1 keeps its entry, its block and its bytes.
unfoldable pub left : Bytes
left = (destroy 8192 made (view LOG) 10).image

pub left_done : (destroy 8192 made (view LOG) 10).number ≡ 0
unfolding found
left_done = ap (λ x. x.done) made_found

pub left_sound : sound 16 left ≡ true
unfolding left
left_sound = destroy_sound 8192 made (view LOG) 10 made_octets made_sound

pub d1_kept : Kept made left 105
unfolding left found
d1_kept =
    destroy_others 8192 made (view LOG) 10 made_octets made_sound 105 0 (omega (arith, ap (λ x. x.d1_met) made_found))
    (λ e. omega (arith, ap (λ x. x.log_spot) made_found))
    (ap (λ x. x.d1_sort) made_found)

pub d1_entry : (o : ℕ) → o < 39 → left (at 105 + o) ≡ made (at 105 + o)
d1_entry o l = d1_kept.entry o l

pub d1_block : blocks left 105 ≡ 9 ∷ []
unfolding found
d1_block = d1_kept.owns ∙ ap (λ x. x.d1_blocks) made_found

pub d1_reads : content left 105 ≡ content made 105
d1_reads = d1_kept.reads
