-- The theorems at work on the volume of case 2, made by its four calls: LOG with ABC, the directory DAYS, and in it D1. The way to D1 leads over
-- DAYS; no call on LOG changes its path, and when DAYS is renamed to WEEK its path has that name.
use Prim.Native.Nat.{ℕ}
use mathlib.Core.Path.{◌≡◌, refl, sym, ap, ◌∙◌}
use mathlib.Core.List.{List, [], ◌∷◌}
use mathlib.Core.Bool.{Bool, true}
use native.Mathlib.Omega.{arith}
use Rattle.model.specs.Bytes.{Bytes, view, sum, count, ◌and◌}
use Rattle.model.specs.Names.{capitals}
use Rattle.model.specs.Directory.{Sort, file, sort, is_active, volume, kids, Target, there}
use Rattle.model.specs.Calls.{target, spot}
use Rattle.model.specs.Create.{create}
use Rattle.model.specs.Destroy.{destroy}
use Rattle.model.specs.Write.{write}
use Rattle.model.specs.SetEof.{set_eof}
use Rattle.model.specs.Rename.{header_named, renamed, is_other, name_taken, rename_number, rename}
use Rattle.model.specs.Info.{info_set, set_info_number, set_info}
use Rattle.model.specs.Catalog.{text}
use Rattle.cases.proofs.Cases.{cases, stamp, site7, days, d1, path, LOG, DAYS, D1, abc}
use Rattle.model.proofs.Laws.Sound.{sound_facts}
use Rattle.model.proofs.Laws.Facts.{volume_seen}
use Rattle.model.proofs.Laws.One.{Kept}
use Rattle.model.proofs.Laws.Sequence.{Call, renaming, ending, all_after, AllLent, Unnamed}
use Rattle.cases.proofs.Example.{plain, worked, worked_sound, bytes, bytes_view, names_bytes, worked_octets}
use Rattle.paths.specs.Ways.{Way, Names, stored, path as path_of, holder, path_names, replaced, Spells, Holds}
use Rattle.paths.proofs.PathLaws.{path_spells, spells_path}
use Rattle.paths.proofs.WayLaws.{one_way, way_seen}
use Rattle.paths.proofs.CallLaws.{rename_holds, set_info_holds}
use Rattle.paths.proofs.KeptLaws.{create_path, destroy_path, set_info_path, write_path, set_eof_path, rename_path, rename_new_path, calls_path, names_after, names_renamed, all_names_after, calls_new_path, calls_file}

-- Names and paths as bytes.
abbrev week : List ℕ
week = 87 ∷ 69 ∷ 69 ∷ 75 ∷ []

abbrev note : List ℕ
note = 110 ∷ 111 ∷ 116 ∷ 101 ∷ []

-- D1 in WEEK, and LOG as NOTE
abbrev W1 : List ℕ
W1 = path (site7 ∷ week ∷ d1 ∷ [])

abbrev NOTE : List ℕ
NOTE = path (site7 ∷ note ∷ [])

lent : (bytes note ≡ true) × (bytes NOTE ≡ true) × (bytes week ≡ true)
unfolding bytes ◌and◌
lent = (refl, refl, refl)

-- the numbers of six calls on it
abbrev pub numbers_of : Bytes → List ℕ
numbers_of v =
    (destroy 8192 v (view LOG) 10).number
    ∷ (rename 8192 v (view LOG) 10 (view note) 4).number
    ∷ (create 8192 v (view NOTE) 11 plain).number
    ∷ (set_info 8192 v (view LOG) 10 0x01 7 stamp).number
    ∷ (write 8192 v (view LOG) 10 3 abc 3 stamp).number
    ∷ (set_eof 8192 v (view LOG) 10 600 stamp).number
    ∷ []

-- What is computed of it, at once.
record Observed : Type 0 where
  days_in : ℕ
  days_on : Bool
  d1_in : ℕ
  d1_on : Bool
  d1_sort : Sort
  names : Names
  log_target : Target
  log_sort : Sort
  days_target : Target
  week : ℕ
  note_at : ℕ
  log_later : ℕ
  numbers : List ℕ

unfoldable observed : Bytes → Observed
observed v =
    record {
      days_in = count 28 (kids v volume);
      days_on = is_active (sort v 28);
      d1_in = count 105 (kids v 28);
      d1_on = is_active (sort v 105);
      d1_sort = sort v 105;
      names = stored v (volume ∷ 28 ∷ 105 ∷ []);
      log_target = target v (view LOG) 10;
      log_sort = sort v 27;
      days_target = target v (view DAYS) 11;
      week = (rename 8192 v (view DAYS) 11 (view week) 4).number;
      note_at = spot (target (rename 8192 v (view LOG) 10 (view note) 4).image (view NOTE) 11);
      log_later = spot (target (rename 8192 v (view DAYS) 11 (view week) 4).image (view LOG) 10);
      numbers = numbers_of v;
    }

computed : observed worked
    ≡ record {
      days_in = 1;
      days_on = true;
      d1_in = 1;
      d1_on = true;
      d1_sort = file 0;
      names = site7 ∷ days ∷ d1 ∷ [];
      log_target = there volume 27;
      log_sort = file 0;
      days_target = there volume 28;
      week = 0;
      note_at = 27;
      log_later = 27;
      numbers = 0 ∷ 0 ∷ 0 ∷ 0 ∷ 0 ∷ 0 ∷ [];
    }
unfolding worked observed cases text header_named renamed is_other name_taken rename_number rename info_set set_info_number set_info
computed = refl

pub log_path : target worked (view LOG) 10 ≡ there volume 27
unfolding observed
log_path = ap (λ x. x.log_target) computed

pub log_spot : spot (target worked (view LOG) 10) ≡ 27
unfolding spot
log_spot = ap spot log_path

pub days_spot : spot (target worked (view DAYS) 11) ≡ 28
unfolding observed spot
days_spot = ap spot (ap (λ x. x.days_target) computed)

-- D1 is in slot 2 of block 8, in DAYS, which is in slot 3 of block 2. The names along this way are its path.
pub d1_way : Way worked volume (28 ∷ 105 ∷ []) 105
unfolding observed
d1_way = (
  omega (arith, ap (λ x. x.days_in) computed),
  ap (λ x. x.days_on) computed,
  (omega (arith, ap (λ x. x.d1_in) computed), ap (λ x. x.d1_on) computed, refl),
)

spelt : (path_names (view D1) 14 ≡ site7 ∷ days ∷ d1 ∷ []) × (path_names (view W1) 14 ≡ site7 ∷ week ∷ d1 ∷ []) × (text (capitals (view week)) 0 4 ≡ week)
unfolding cases text
spelt = (refl, refl, refl)

pub d1_path : target worked (view D1) 14 ≡ there 28 105
unfolding observed holder
d1_path =
    spells_path 16 worked worked_sound (view D1) 14 28 105
    (record { places = 28 ∷ 105 ∷ []; way = d1_way; names = ap (λ x. x.names) computed ∙ sym spelt.0; held = refl })

pub d1_spells : Spells worked (view D1) 14 28 105
d1_spells = path_spells 16 worked worked_sound (view D1) 14 28 105 d1_path

pub d1_only : (xs : List ℕ) → Way worked volume xs 105 → xs ≡ 28 ∷ 105 ∷ []
d1_only xs w = one_way 16 worked worked_sound 105 xs (28 ∷ 105 ∷ []) w d1_way

-- None of the calls that follow is refused.
pub accepted : numbers_of worked ≡ 0 ∷ 0 ∷ 0 ∷ 0 ∷ 0 ∷ 0 ∷ []
unfolding observed
accepted = ap (λ x. x.numbers) computed

-- NOTE is created, LOG is written, gets another EOF, other access, another name: the path still leads to D1.
pub d1_create : target (create 8192 worked (view NOTE) 11 plain).image (view D1) 14 ≡ there 28 105
d1_create = create_path 8192 worked (view NOTE) 11 plain worked_octets worked_sound (view D1) 14 28 105 d1_path

pub d1_write : target (write 8192 worked (view LOG) 10 3 abc 3 stamp).image (view D1) 14 ≡ there 28 105
d1_write =
    write_path 8192 worked (view LOG) 10 3 abc 3 stamp worked_octets (bytes_view (65 ∷ 66 ∷ 67 ∷ []) names_bytes.4) worked_sound (view D1) 14 28 105 d1_path

pub d1_eof : target (set_eof 8192 worked (view LOG) 10 600 stamp).image (view D1) 14 ≡ there 28 105
d1_eof = set_eof_path 8192 worked (view LOG) 10 600 stamp worked_octets worked_sound (view D1) 14 28 105 d1_path

pub d1_info : target (set_info 8192 worked (view LOG) 10 0x01 7 stamp).image (view D1) 14 ≡ there 28 105
d1_info = set_info_path 8192 worked (view LOG) 10 0x01 7 stamp worked_sound (view D1) 14 28 105 d1_path

pub d1_note : target (rename 8192 worked (view LOG) 10 (view note) 4).image (view D1) 14 ≡ there 28 105
unfolding observed sum
d1_note =
    rename_path 8192 worked (view LOG) 10 (view note) 4 worked_sound (view D1) 14 28 105 d1_path (28 ∷ 105 ∷ []) d1_way
    (rw log_spot refl)

-- LOG is destroyed: the path still leads to D1.
pub d1_left : target (destroy 8192 worked (view LOG) 10).image (view D1) 14 ≡ there 28 105
unfolding observed
d1_left =
    destroy_path 8192 worked (view LOG) 10 worked_octets worked_sound (view D1) 14 28 105
    (λ e. omega (arith, log_spot))
    d1_path

-- DAYS is renamed to WEEK: /SITE7/WEEK/D1 leads to D1.
pub d1_week : target (rename 8192 worked (view DAYS) 11 (view week) 4).image (view W1) 14 ≡ there 28 105
unfolding observed replaced
d1_week =
    rename_new_path 8192 worked (view DAYS) 11 (view week) 4 worked_sound (ap (λ x. x.week) computed) (view D1) 14 28 105 d1_path
    (28 ∷ 105 ∷ []) d1_way (view W1) 14
    (spelt.1 ∙ sym (rw (days_spot, spelt.0, spelt.2) refl))

-- LOG is renamed to NOTE, and NOTE gets the EOF 600: the path still leads to D1.
abbrev two : List Call
two = renaming (view LOG) 10 (view note) 4 ∷ ending (view NOTE) 11 600 stamp ∷ []

two_lent : AllLent two
two_lent = ((bytes_view LOG names_bytes.1, bytes_view note lent.0), (bytes_view NOTE lent.1, tt))

two_unnamed : Unnamed 8192 two worked 105
unfolding observed
two_unnamed = (λ e. omega (arith, log_spot), (λ e. omega (arith, ap (λ x. x.note_at) computed), tt))

pub d1_after : target (all_after 8192 two worked) (view D1) 14 ≡ there 28 105
unfolding observed sum
d1_after =
    calls_path 8192 two worked two_lent worked_octets worked_sound
    (view D1) 14 28 105 d1_path (28 ∷ 105 ∷ []) d1_way
    two_unnamed
    (rw log_spot refl, (tt, tt))

-- DAYS is renamed to WEEK, and LOG gets the EOF 600: /SITE7/WEEK/D1 leads to D1.
abbrev later : List Call
later = renaming (view DAYS) 11 (view week) 4 ∷ ending (view LOG) 10 600 stamp ∷ []

pub d1_later : target (all_after 8192 later worked) (view W1) 14 ≡ there 28 105
unfolding observed all_names_after names_after replaced
d1_later =
    calls_new_path 8192 later worked ((bytes_view DAYS names_bytes.2, bytes_view week lent.2), (bytes_view LOG names_bytes.1, tt)) worked_octets worked_sound
    (view D1) 14 28 105 d1_path (28 ∷ 105 ∷ []) d1_way
    (λ e. omega (arith, days_spot), (λ e. omega (arith, ap (λ x. x.log_later) computed), tt))
    (view W1) 14
    (spelt.1
    ∙ sym
    (names_renamed 8192 (view DAYS) 11 (view week) 4 worked (volume ∷ 28 ∷ 105 ∷ []) (path_names (view D1) 14) (ap (λ x. x.week) computed)
    ∙ rw (days_spot, spelt.0, spelt.2) refl))

-- D1 itself: its entry, blocks and bytes are kept, and so is the way.
pub d1_file : let w = all_after 8192 two worked in
    Kept worked w 105 × (xs : List ℕ) × Way worked volume xs 105 × Way w volume xs 105
    × (path_of w xs ≡ all_names_after 8192 two worked (volume ∷ xs) (path_of worked xs))
unfolding observed
d1_file =
    calls_file 8192 two worked two_lent worked_octets worked_sound 105 0
    (way_seen (sound_facts 16 worked worked_sound) (28 ∷ 105 ∷ []) volume 105 (volume_seen (sound_facts 16 worked worked_sound)) d1_way)
    (ap (λ x. x.d1_sort) computed)
    two_unnamed

-- What LOG holds stays as it gets another name, and other access.
log_file : sort worked (spot (target worked (view LOG) 10)) ≡ file 0
unfolding observed
log_file = rw log_spot (ap (λ x. x.log_sort) computed)

pub log_renamed : Holds worked (rename 8192 worked (view LOG) 10 (view note) 4).image (spot (target worked (view LOG) 10))
log_renamed = rename_holds 8192 worked (view LOG) 10 (view note) 4 worked_sound 0 log_file

pub log_informed : Holds worked (set_info 8192 worked (view LOG) 10 0x01 7 stamp).image (spot (target worked (view LOG) 10))
log_informed = set_info_holds 8192 worked (view LOG) 10 0x01 7 stamp worked_sound 0 log_file
