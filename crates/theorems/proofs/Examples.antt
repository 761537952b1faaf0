-- Each theorem at work on the volume of case 2: LOG is in slot 2 of block 2 (place 27), DAYS in slot 3 (28), DAYS/D1 in slot 2 of block 8 (105), and
-- 6 blocks are free. What is computed is computed of that volume; what is said of the volume after a call comes from the theorem.
use Prim.Native.Nat.{ℕ, ◌*◌}
use mathlib.Core.Path.{◌≡◌, refl, ap, ◌∙◌}
use mathlib.Core.List.{List, [], ◌∷◌}
use mathlib.Core.Bool.{true}
use lib.Dec.{eqb}
use lib.ListN.{length}
use native.Mathlib.Omega.{arith}
use borrow.Author.Tests.{eqb-true}
use Rattle.model.specs.Bytes.{Bytes, view, zeros, equal_bytes, ◌and◌}
use Rattle.model.specs.Names.{Part, part, parts, capitals, proper_name}
use Rattle.model.specs.Map.{map_blocks, room}
use Rattle.model.specs.Directory.{file, sort, volume, map_place, eof, Target, missing, there}
use Rattle.model.specs.Kinds.{kind_for}
use Rattle.model.specs.File.{blocks, height, height_for}
use Rattle.model.specs.Calls.{target, home, spot, is_no_volume}
use Rattle.model.specs.Format.{format}
use Rattle.model.specs.Create.{create, create_need}
use Rattle.model.specs.Destroy.{destroy}
use Rattle.model.specs.Rename.{header_named, renamed, is_other, name_taken, rename_number, rename}
use Rattle.model.specs.SetEof.{set_eof}
use Rattle.model.proofs.ByteLaws.{equal_at}
use Rattle.cases.proofs.Cases.{cases, fresh, stamp, site7, days, d1, path, LOG, DAYS, D1}
use Rattle.model.proofs.TestLaws.{and_left, and_right}
use Rattle.cases.proofs.Example.{worked, plain, nested, worked_octets}
use Rattle.paths.proofs.ExampleLaws.{log_path, log_spot, days_spot, d1_path}
use Rattle.theorems.proofs.Spelled.{Spelled, Names, at_last, before, none_left, one_more}
use Rattle.theorems.proofs.Formatted.{Formatted, format_gives, format_accepts}
use Rattle.theorems.proofs.Created.{EmptyDirectory, Created, create_gives}
use Rattle.theorems.proofs.Destroyed.{Destroyed, destroy_gives}
use Rattle.theorems.proofs.Renamed.{Through, renamed_here, on_the_way, Renamed, rename_gives}
use Rattle.theorems.proofs.VolumeRenamed.{VolumeRenamed, FirstNamed, first_named, rename_volume_gives}
use Rattle.theorems.proofs.Resized.{Resized, set_eof_gives}

-- Names and paths as bytes: DAYS/D2, the new names NOTES, WEEKS and HOME, and paths with them, one in small letters.
abbrev pub D2 : List ℕ
D2 = path (site7 ∷ days ∷ (68 ∷ 50 ∷ []) ∷ [])

abbrev pub notes : List ℕ
notes = 78 ∷ 79 ∷ 84 ∷ 69 ∷ 83 ∷ []

abbrev pub small_notes : List ℕ
small_notes = path ((115 ∷ 105 ∷ 116 ∷ 101 ∷ 55 ∷ []) ∷ (110 ∷ 111 ∷ 116 ∷ 101 ∷ 115 ∷ []) ∷ [])

abbrev pub weeks : List ℕ
weeks = 87 ∷ 69 ∷ 69 ∷ 75 ∷ 83 ∷ []

abbrev pub WEEKS-D1 : List ℕ
WEEKS-D1 = path (site7 ∷ weeks ∷ d1 ∷ [])

abbrev pub SITE7 : List ℕ
SITE7 = path (site7 ∷ [])

abbrev pub home' : List ℕ
home' = 72 ∷ 79 ∷ 77 ∷ 69 ∷ []

abbrev pub HOME-D1 : List ℕ
HOME-D1 = path (home' ∷ days ∷ d1 ∷ [])

-- what is computed of the volume, at once
record Observed : Type 0 where
  unused : ℕ
  need : ℕ
  creates : ℕ
  creates_directory : ℕ
  d2_home : ℕ
  destroys : ℕ
  log_length : ℕ
  log_height : ℕ
  log_eof : ℕ
  renames : ℕ
  renames_directory : ℕ
  renames_volume : ℕ
  volume_target : Target
  sets_eof : ℕ

unfoldable observed : Bytes → Observed
observed v =
    record {
      unused = room map_place v 16;
      need = create_need v 28;
      creates = (create 8192 v (view D2) 14 plain).number;
      creates_directory = (create 8192 v (view D2) 14 nested).number;
      d2_home = home (target v (view D2) 14);
      destroys = (destroy 8192 v (view LOG) 10).number;
      log_length = length (blocks v 27);
      log_height = height (sort v 27);
      log_eof = eof v 27;
      renames = (rename 8192 v (view LOG) 10 (view notes) 5).number;
      renames_directory = (rename 8192 v (view DAYS) 11 (view weeks) 5).number;
      renames_volume = (rename 8192 v (view SITE7) 6 (view home') 4).number;
      volume_target = target v (view SITE7) 6;
      sets_eof = (set_eof 8192 v (view LOG) 10 1000 stamp).number;
    }

computed : observed worked
    ≡ record {
      unused = 6;
      need = 1;
      creates = 0;
      creates_directory = 0;
      d2_home = 28;
      destroys = 0;
      log_length = 1;
      log_height = 0;
      log_eof = 3;
      renames = 0;
      renames_directory = 0;
      renames_volume = 0;
      volume_target = there volume volume;
      sets_eof = 0;
    }
unfolding worked observed cases header_named renamed is_other name_taken rename_number rename
computed = refl

-- Names that are the same as capitals, by a test.
spelled_by : (p : Bytes) (x : Part) (q : Bytes) (y : Part)
    → (eqb x.size y.size and equal_bytes (capitals p) x.start (capitals q) y.start x.size) ≡ true → Spelled p x q y
spelled_by p x q y e =
    record {
      sized = eqb-true _ _ (and_left _ _ e);
      same = equal_at (capitals p) x.start (capitals q) y.start x.size (and_right _ _ e);
    }

-- 1. A fresh volume of 16 blocks has 9 free ones, the largest has 65,513, and the map of neither is looked at.
pub fresh_is : Formatted 16 (fresh 16) (view site7) 5
unfolding fresh cases
fresh_is = format_gives 8192 zeros (view site7) 5 stamp refl

pub fresh_space : room map_place (fresh 16) 16 ≡ 9
unfolding map_blocks
fresh_space = fresh_is.space

site7_proper : proper_name (view site7) 0 5 ≡ true
unfolding cases
site7_proper = refl

pub largest_space : room map_place (format (65535 * 512) zeros (view site7) 5 stamp).image 65535 ≡ 65513
unfolding map_blocks
largest_space =
    (format_gives (65535 * 512) zeros (view site7) 5 stamp (format_accepts 65535 zeros (view site7) 5 stamp (omega arith) (omega arith) site7_proper)
    ).space

-- 2. DAYS/D2 is created: its path leads into DAYS, an empty file stands there, and 5 blocks are free. As a directory it has no entry.
abbrev pub with_d2 : Bytes
with_d2 = (create 8192 worked (view D2) 14 plain).image

pub d2_created : Created 16 worked (view D2) 14 plain with_d2
unfolding observed
d2_created = create_gives 8192 worked (view D2) 14 plain worked_octets (ap (λ x. x.creates) computed)

pub d2_found : target with_d2 (view D2) 14 ≡ there 28 d2_created.slot
unfolding observed
d2_found = d2_created.found ∙ ap (λ (d : ℕ). there d d2_created.slot) (ap (λ x. x.d2_home) computed)

pub d2_empty : (sort with_d2 d2_created.slot ≡ file 0) × (eof with_d2 d2_created.slot ≡ 0)
d2_empty = d2_created.stands.plain refl

pub d2_space : room map_place with_d2 16 ≡ 5
unfolding observed
d2_space =
    let need : create_need worked (home (target worked (view D2) 14)) ≡ 1 =
    ap (create_need worked) (ap (λ x. x.d2_home) computed) ∙ ap (λ x. x.need) computed in
    omega (arith, d2_created.space, ap (λ x. x.unused) computed)

pub d2_folder : Created 16 worked (view D2) 14 nested (create 8192 worked (view D2) 14 nested).image
unfolding observed
d2_folder = create_gives 8192 worked (view D2) 14 nested worked_octets (ap (λ x. x.creates_directory) computed)

pub d2_bare : EmptyDirectory (create 8192 worked (view D2) 14 nested).image d2_folder.slot
d2_bare = d2_folder.stands.folder refl

-- 3. LOG is destroyed: its path leads to nothing in the volume's directory, and 7 blocks are free.
abbrev pub without_log : Bytes
without_log = (destroy 8192 worked (view LOG) 10).image

log_home : home (target worked (view LOG) 10) ≡ volume
unfolding home
log_home = ap home log_path

pub log_destroyed : Destroyed 16 worked (view LOG) 10 without_log
unfolding observed
log_destroyed = destroy_gives 8192 worked (view LOG) 10 worked_octets (ap (λ x. x.destroys) computed)

pub log_gone : target without_log (view LOG) 10 ≡ missing volume
log_gone = log_destroyed.gone ∙ ap missing log_home

pub log_space : room map_place without_log 16 ≡ 7
unfolding observed
log_space =
    let one : length (blocks worked (spot (target worked (view LOG) 10))) ≡ 1 =
    ap (λ (s : ℕ). length (blocks worked s)) log_spot ∙ ap (λ x. x.log_length) computed in
    omega (arith, log_destroyed.freed, ap (λ x. x.unused) computed)

-- 4. LOG is renamed to NOTES: the path /site7/notes leads to it, and the old one to nothing. DAYS is renamed to WEEKS: /SITE7/WEEKS/D1 leads to D1.
-- The volume is renamed to HOME: /HOME/DAYS/D1 leads to D1.
abbrev pub with_notes : Bytes
with_notes = (rename 8192 worked (view LOG) 10 (view notes) 5).image

pub log_renamed : Renamed worked (view LOG) 10 (view notes) 5 with_notes (home (target worked (view LOG) 10)) (spot (target worked (view LOG) 10))
unfolding observed
log_renamed =
    rename_gives 8192 worked (view LOG) 10 (view notes) 5 (ap (λ x. x.renames) computed) (λ e. omega (arith, log_spot))

path_parts : (parts (view LOG) 10 ≡ part 1 5 ∷ part 7 3 ∷ []) × (parts (view small_notes) 12 ≡ part 1 5 ∷ part 7 5 ∷ [])
    × (parts (view D1) 14 ≡ part 1 5 ∷ part 7 4 ∷ part 12 2 ∷ []) × (parts (view HOME-D1) 13 ≡ part 1 4 ∷ part 6 4 ∷ part 11 2 ∷ [])
    × (parts (view DAYS) 11 ≡ part 1 5 ∷ part 7 4 ∷ []) × (parts (view WEEKS-D1) 15 ≡ part 1 5 ∷ part 7 5 ∷ part 13 2 ∷ [])
unfolding cases
path_parts = (refl, refl, refl, refl, refl, refl)

notes_names : Names (view LOG) (view small_notes) (λ _ z. Spelled (view small_notes) z (view notes) (part 0 5)) (parts (view LOG) 10) (parts (view small_notes) 12)
unfolding cases
notes_names =
    rw (path_parts.0, path_parts.1)
    (before (spelled_by (view LOG) (part 1 5) (view small_notes) (part 1 5) refl)
    (at_last (spelled_by (view small_notes) (part 7 5) (view notes) (part 0 5) refl)))

pub notes_found : target with_notes (view small_notes) 12 ≡ there volume 27
notes_found =
    log_renamed.found (view small_notes) 12 notes_names ∙ ap (λ (d : ℕ). there d (spot (target worked (view LOG) 10))) log_home
    ∙ ap (there volume) log_spot

pub log_renamed_away : target with_notes (view LOG) 10 ≡ missing volume
unfolding cases
log_renamed_away =
    log_renamed.gone (λ E. let s : ◌≡◌ {A = ℕ} 3 5 = E.sized in omega arith) ∙ ap missing log_home

abbrev pub with_weeks : Bytes
with_weeks = (rename 8192 worked (view DAYS) 11 (view weeks) 5).image

pub days_renamed : Renamed worked (view DAYS) 11 (view weeks) 5 with_weeks (home (target worked (view DAYS) 11)) (spot (target worked (view DAYS) 11))
unfolding observed
days_renamed =
    rename_gives 8192 worked (view DAYS) 11 (view weeks) 5 (ap (λ x. x.renames_directory) computed) (λ e. omega (arith, days_spot))

weeks_names : Through (view DAYS) (view D1) (view WEEKS-D1) (view weeks) (part 0 5) (parts (view DAYS) 11) (parts (view D1) 14) (parts (view WEEKS-D1) 15)
unfolding cases
weeks_names =
    rw (path_parts.4, path_parts.2, path_parts.5)
    (on_the_way (spelled_by (view DAYS) (part 1 5) (view D1) (part 1 5) refl) (spelled_by (view D1) (part 1 5) (view WEEKS-D1) (part 1 5) refl)
    (renamed_here (spelled_by (view DAYS) (part 7 4) (view D1) (part 7 4) refl) (spelled_by (view WEEKS-D1) (part 7 5) (view weeks) (part 0 5) refl)
    (one_more (spelled_by (view D1) (part 12 2) (view WEEKS-D1) (part 13 2) refl) none_left)))

pub weeks_found : target with_weeks (view WEEKS-D1) 15 ≡ there 28 105
unfolding observed
weeks_found = days_renamed.through (view D1) 14 (view WEEKS-D1) 15 weeks_names ∙ d1_path

abbrev pub with_home : Bytes
with_home = (rename 8192 worked (view SITE7) 6 (view home') 4).image

pub volume_renamed_law : VolumeRenamed worked (view home') 4 with_home
unfolding observed spot
volume_renamed_law =
    rename_volume_gives 8192 worked (view SITE7) 6 (view home') 4 (ap (λ x. x.renames_volume) computed)
    (ap spot (ap (λ x. x.volume_target) computed))

home_names : FirstNamed (view D1) (view HOME-D1) (view home') (part 0 4) (parts (view D1) 14) (parts (view HOME-D1) 13)
unfolding cases
home_names =
    rw (path_parts.2, path_parts.3)
    (first_named (spelled_by (view HOME-D1) (part 1 4) (view home') (part 0 4) refl)
    (one_more (spelled_by (view D1) (part 7 4) (view HOME-D1) (part 6 4) refl)
    (one_more (spelled_by (view D1) (part 12 2) (view HOME-D1) (part 11 2) refl) none_left)))

pub d1_found : target with_home (view HOME-D1) 13 ≡ there 28 105
unfolding observed is_no_volume
d1_found =
    let here : target worked (view D1) 14 ≡ there 28 105 = d1_path in
    volume_renamed_law.found (view D1) 14 (ap is_no_volume here) (view HOME-D1) 13 home_names ∙ here

-- 5. EOF of LOG is set to 1000: a sapling, which takes one block for its index, and 5 are free.
abbrev pub with_index : Bytes
with_index = (set_eof 8192 worked (view LOG) 10 1000 stamp).image

pub log_resized : Resized 16 worked (spot (target worked (view LOG) 10)) with_index 1000
unfolding observed
log_resized = set_eof_gives 8192 worked (view LOG) 10 1000 stamp worked_octets (ap (λ x. x.sets_eof) computed)

pub index_space : room map_place with_index 16 ≡ 5
unfolding observed
index_space =
    let low : eof worked (spot (target worked (view LOG) 10)) ≡ 3 = ap (eof worked) log_spot ∙ ap (λ x. x.log_eof) computed in
    let flat : height (sort worked (spot (target worked (view LOG) 10))) ≡ 0 =
    ap (λ (s : ℕ). height (sort worked s)) log_spot ∙ ap (λ x. x.log_height) computed in
    let tall : height_for 1000 ≡ 1 = unfold height_for kind_for in refl in
    omega (arith, log_resized.spends (omega arith), ap (λ x. x.unused) computed)
