-- Format: a volume of the given name with no entry, on which just the blocks after the map are free.
use Prim.Native.Nat.{ℕ, ◌+◌, ◌-◌, ◌*◌, ◌≤◌, ◌<◌, ◌/◌, ◌%◌}
use mathlib.Core.Path.{◌≡◌, refl, ap, ◌∙◌}
use mathlib.Core.Bool.{true, not}
use lib.Dec.{eqb}
use native.Mathlib.Omega.{arith}
use native.Mathlib.Nat.{zero-add}
use borrow.Author.Tests.{eq-eqb}
use Rattle.model.specs.Bytes.{Bytes, count, within, ◌and◌}
use Rattle.model.specs.Names.{part, capital, proper_name, same_name}
use Rattle.model.specs.Map.{map_blocks, free, room}
use Rattle.model.specs.Directory.{inactive, sort, at, volume, volume_block, map_place, active_count, kids, active}
use Rattle.model.specs.Sound.{whole_blocks}
use Rattle.model.specs.Refusals.{first, settle}
use Rattle.model.specs.Calls.{total, nothing}
use Rattle.model.specs.Format.{formatted, format_number, format}
use Rattle.model.specs.declared.Stamp.{Stamp}
use Rattle.model.proofs.BitLaws.{fresh_yes, fresh_no, fresh_room}
use Rattle.model.proofs.RefusalLaws.{first_passes}
use Rattle.model.proofs.TestLaws.{and_right, and_both}
use Rattle.model.proofs.Laws.Spelling.{within_is, within_in, bears_same}
use Rattle.model.proofs.Laws.Lookup.{rows_off, not_false}
use Rattle.model.proofs.Laws.Settled.{done_image}
use Rattle.model.proofs.Laws.Format.{new_map, new_bears, new_count, new_off, new_active, new_free}

-- A volume v of n blocks as format leaves it, with the name q of j bytes.
pub record Formatted (n : ℕ) (v q : Bytes) (j : ℕ) : Type 0 where
  pub named : same_name v (at volume) q (part 0 j) ≡ true
  pub spelled : (i : ℕ) → i < j → v (at volume + 1 + i) ≡ capital (q i)
  pub counted : active_count v volume_block ≡ 0
  pub empty : active v (kids v volume) ≡ 0
  pub bare : (s : ℕ) → 1 ≤ count s (kids v volume) → sort v s ≡ inactive
  pub unused : (b : ℕ) → map_place + map_blocks n ≤ b → b < n → free map_place v b ≡ 1
  pub taken : (b : ℕ) → b < map_place + map_blocks n → free map_place v b ≡ 0
  pub space : room map_place v n ≡ n - (map_place + map_blocks n)

module _ (n : ℕ) (q : Bytes) (j : ℕ) (t : Stamp) (large : 16 ≤ n) (small : n ≤ 65535) (proper : proper_name q 0 j ≡ true) where
  abbrev new : Bytes
  new = formatted n q j t

  low : (b : ℕ) → b < map_place + map_blocks n → b < n
  unfolding map_blocks
  low b l = omega arith

  new_space : room map_place new n ≡ n - (map_place + map_blocks n)
  unfolding map_blocks
  new_space = fresh_room (map_place + map_blocks n) n map_place new (λ k l. new_map n q j t large small proper k (omega arith))

  formatted_is : Formatted n new q j
  unfolding at
  formatted_is =
      let B = (new_bears n q j t large small proper).0 in
      let bit = new_free n q j t large small proper in
      record {
        named = bears_same new (at volume) q (part 0 j) B;
        spelled = λ i l. B.spelled i l ∙ ap (λ (k : ℕ). capital (q k)) (zero-add i);
        counted = new_count n q j t large small proper;
        empty = new_active n q j t large small proper;
        bare = new_off n q j t large small proper;
        unused = λ b g l. bit b l ∙ fresh_yes (map_place + map_blocks n) n b g l;
        taken = λ b l. bit b (low b l) ∙ fresh_no (map_place + map_blocks n) n b (λ g h. omega arith);
        space = new_space;
      }

-- What an accepted format gives.
pub format_gives : (len : ℕ) (v q : Bytes) (j : ℕ) (t : Stamp) → (format len v q j t).number ≡ 0 → Formatted (total len) (format len v q j t).image q j
unfolding format settle format_number whole_blocks
format_gives len v q j t e =
    let r = rows_off _ e refl in
    let size = within_is 16 65535 (total len) (and_right _ _ (not_false _ (r 0))) in
    rw (done_image (format_number len q j) nothing v nothing (formatted (total len) q j t) e)
    (formatted_is (total len) q j t size.0 size.1 (not_false _ (r 1)))

-- It is accepted for every size and every proper name.
pub format_accepts : (n : ℕ) (v q : Bytes) (j : ℕ) (t : Stamp) → 16 ≤ n → n ≤ 65535 → proper_name q 0 j ≡ true → (format (n * 512) v q j t).number ≡ 0
unfolding format settle format_number whole_blocks
format_accepts n v q j t large small proper =
    let whole : (eqb (n * 512 % 512) 0 and within 16 65535 (n * 512 / 512)) ≡ true =
    and_both _ _ (eq-eqb (n * 512 % 512) 0 (omega arith)) (within_in 16 65535 (n * 512 / 512) (omega arith) (omega arith)) in
    first_passes _ _ (ap not whole) ∙ first_passes _ _ (ap not proper) ∙ unfold first in refl
