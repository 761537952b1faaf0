-- What the calls leave is bytes again, each below 256: so calls may follow one another. (Destroy has it in Destroy.antt.)
use Prim.Native.Nat.{ℕ, ◌+◌, ◌*◌, ◌<◌, ◌/◌}
use mathlib.Core.Path.{◌≡◌, refl}
use mathlib.Core.List.{List, [], ◌∷◌}
use mathlib.Core.Option.{Option, none, some}
use mathlib.Core.Bool.{Bool, true, false}
use lib.Dec.{eqb}
use native.Mathlib.Omega.{arith}
use Rattle.model.specs.Bytes.{put_word, Bytes, Octets, put, paste, zeros}
use Rattle.model.specs.Names.{Part, part, parts}
use Rattle.model.specs.Map.{map_blocks, taken}
use Rattle.model.specs.Directory.{volume_chain, map_place, Sort, inactive, directory, improper, file, sort, at, volume, key, access, map_block, kids, vacant}
use Rattle.model.specs.Calls.{total, target, home, last_part, stamp_bytes, name_field, backed_up}
use Rattle.model.specs.Format.{linked, header_bytes, volume_header, formatted, format_number, format}
use Rattle.model.specs.Info.{info_set, set_info}
use Rattle.model.specs.Rename.{named, header_named, renamed, rename_number, rename}
use Rattle.model.specs.Create.{Wanted, directory_kind, gained, entry_bytes, subdirectory_header, entered, created_at, created, create_number, create}
use Rattle.model.specs.Sound.{sound}
use Rattle.model.specs.declared.Stamp.{Stamp}
use Rattle.model.proofs.ByteLaws.{octets_put, octets_paste, octets_put_word, octets_put_long}
use Rattle.model.proofs.BitLaws.{taken_octets, fresh_byte}
use Rattle.model.proofs.TestLaws.{and_right}
use Rattle.model.proofs.Laws.Sound.{sound_facts}
use Rattle.model.proofs.Laws.Spelling.{capital_most}
use Rattle.model.proofs.Laws.Lookup.{rows_off, not_false, name_size_law, path_last, open_led, target_led}
use Rattle.model.proofs.Laws.Created.{Wants, want_file, want_directory, wants}
use Rattle.model.proofs.Laws.Noted.{stamp_octets, backed_byte}
use Rattle.model.proofs.Laws.Settled.{settled}

octets_stamp : (f : Bytes) (a : ℕ) (t : Stamp) → Octets f → Octets (paste f a 4 (stamp_bytes t))
octets_stamp f a t o = octets_paste f a 4 (stamp_bytes t) o (λ i h. stamp_octets t i)

name_octets : (k : ℕ) (p : Bytes) (x : Part) → Octets p → k < 16 → x.size < 16 → Octets (name_field k p x)
unfolding name_field
name_octets k p x o h l =
    octets_put _ 0 _ (octets_paste zeros 1 x.size _ (λ i. omega arith) (λ i g. omega (arith, o (x.start + i), capital_most (p (x.start + i))))) (omega arith)

-- format
linked_octets : (f : Bytes) (p : ℕ) (bs : List ℕ) → Octets f → Octets (linked f p bs)
unfolding linked
linked_octets f p [] o = o
linked_octets f p (b ∷ []) o = octets_put_word f (b * 512) p o
linked_octets f p (b ∷ c ∷ r) o = linked_octets (put_word (put_word f (b * 512) p) (b * 512 + 2) c) b (c ∷ r) (octets_put_word _ _ _ (octets_put_word f (b * 512) p o))

head_octets : (k : ℕ) (p : Bytes) (x : Part) (t : Stamp) (access : ℕ) → Octets p → k < 16 → x.size < 16 → access < 256 → Octets (header_bytes k p x t access)
unfolding header_bytes
head_octets k p x t access o h l g =
    octets_put _ _ _ (octets_put _ _ _ (octets_put _ _ _ (octets_stamp _ _ t (name_octets k p x o h l)) g) (omega arith)) (omega arith)

formatted_octets : (n : ℕ) (q : Bytes) (j : ℕ) (t : Stamp) → Octets q → j < 16 → Octets (formatted n q j t)
unfolding formatted volume_header
formatted_octets n q j t o h =
    octets_paste _ _ _ _
    (octets_paste _ _ 39 _ (linked_octets zeros 0 volume_chain (λ i. omega arith))
    (λ i l. octets_put_word _ 0x25 n (octets_put_word _ 0x23 map_place (head_octets 0xF q (part 0 j) t 0xC3 o (omega arith) h (omega arith))) i))
    (λ i l. fresh_byte (map_place + map_blocks n) n i)

pub format_octets : (len : ℕ) (v q : Bytes) (j : ℕ) (t : Stamp) → Octets v → Octets q → Octets (format len v q j t).image
unfolding format format_number
format_octets len v q j t o h =
    settled _ _ v _ _ Octets o (λ e. let r = rows_off _ e refl in formatted_octets (total len) q j t h (name_size_law q 0 j (not_false _ (r 1))))

-- set info
info_octets : (v : Bytes) (s access aux : ℕ) (t : Stamp) → Octets v → access < 256 → Octets (info_set v s access aux t)
unfolding info_set
info_octets v s access aux t o h = octets_stamp _ _ t (octets_put_word _ _ _ (octets_put _ _ _ o h))

pub set_info_octets : (len : ℕ) (v p : Bytes) (k access aux : ℕ) (t : Stamp) → Octets v → access < 256
    → Octets (set_info len v p k access aux t).image
unfolding set_info
set_info_octets len v p k access aux t o h = settled _ _ v _ _ Octets o (λ e. info_octets v _ access aux t o h)

-- rename
named_octets : (v : Bytes) (a : ℕ) (q : Bytes) (j : ℕ) → Octets v → Octets q → j < 16 → Octets (named v a q j)
named_octets v a q j o p h =
    octets_paste v a 16 _ o (λ i l. name_octets (v a / 16) q (part 0 j) p (omega (arith, o a)) h i)

header_named_law : (K : Sort) (v : Bytes) (k : ℕ) (q : Bytes) (j : ℕ) → Octets v → Octets q → j < 16 → Octets (header_named K v k q j)
unfolding header_named
header_named_law inactive v k q j o p h = o
header_named_law directory v k q j o p h = named_octets v (k * 512 + 4) q j o p h
header_named_law improper v k q j o p h = o
header_named_law (file i) v k q j o p h = o

renamed_octets : (v : Bytes) (s : ℕ) (q : Bytes) (j : ℕ) → Octets v → Octets q → j < 16 → Octets (renamed v s q j)
unfolding renamed
renamed_octets v s q j o p h = go (eqb s volume)
  where
    go : (b : Bool) → Octets (elim b [
      | true ↦ named v (at volume) q j
      | false ↦ put (header_named (sort v s) (named v (at s) q j) (key v s) q j) (at s + 0x1E) (backed_up (access v s))
    ])
    go true = named_octets v (at volume) q j o p h
    go false = octets_put _ _ _ (header_named_law (sort v s) _ (key v s) q j (named_octets v (at s) q j o p h) p h) (backed_byte (access v s) (o (at s + 0x1E)))

pub rename_octets : (len : ℕ) (v p : Bytes) (k : ℕ) (q : Bytes) (j : ℕ) → Octets v → Octets q → Octets (rename len v p k q j).image
unfolding rename rename_number
rename_octets len v p k q j o h =
    settled _ _ v _ _ Octets o
    (λ e.
    let r = rows_off _ e refl in
    renamed_octets v _ q j o h (name_size_law q 0 j (and_right _ _ (not_false _ (r 2)))))

-- create
module _ (p : Bytes) (x : Part) (w : Wanted) (path : Octets p) (kind : w.kind < 16) (typed : w.ftype < 256) (short : x.size < 16) where
  entry_octets : (z k : ℕ) → Octets (entry_bytes p x w z k)
  unfolding entry_bytes
  entry_octets z k =
      octets_put_word _ _ _
      (octets_stamp _ _ w.stamp
      (octets_put_word _ _ _
      (octets_put _ _ _
      (octets_stamp _ _ w.stamp
      (octets_put_long _ _ _ (octets_put_word _ _ _ (octets_put_word _ _ _ (octets_put _ _ _ (name_octets w.kind p x path kind short) typed)))))
      (omega arith))))

  header_octets : (s : ℕ) → Octets (subdirectory_header p x w.stamp s)
  unfolding subdirectory_header
  header_octets s =
      octets_put _ _ _
      (octets_put _ _ _
      (octets_put_word _ _ _ (octets_put _ _ _ (head_octets 0xE p x w.stamp 0xE3 path (omega arith) short (omega arith)) (omega arith)))
      (omega arith))
      (omega arith)

  entered_octets : (m : ℕ) (v : Bytes) (d s z : ℕ) → Octets v → Octets (entered m v d s z p x w)
  unfolding entered
  entered_octets m v d s z o =
      octets_paste _ (at s) 39 _ (octets_put_word _ _ _ (go (eqb w.kind directory_kind))) (λ i h. entry_octets z (key v d) i)
    where
      go : (b : Bool) → Octets (elim b as (λ _. Bytes) [ true ↦ paste (taken m v z) (z * 512 + 4) 39 (subdirectory_header p x w.stamp s) | false ↦ taken m v z ])
      go true = octets_paste _ (z * 512 + 4) 39 _ (taken_octets m v z o) (λ i h. header_octets s i)
      go false = taken_octets m v z o

  gained_octets : (m : ℕ) (v : Bytes) (d y z : ℕ) → Octets v → Octets (gained m v d y z)
  unfolding gained
  gained_octets m v d y z o = octets_put_long _ _ _ (octets_put_word _ _ _ (octets_put_word _ _ _ (octets_put_word _ _ _ (taken_octets m v z o))))

  created_octets : (m n : ℕ) (v : Bytes) (d : ℕ) → Octets v → Octets (created m n v d p x w)
  unfolding created created_at
  created_octets m n v d o = go (vacant v (kids v d))
    where
      go : (s : Option ℕ) → Octets (created_at s m n v d p x w)
      go none = entered_octets m _ d _ _ (gained_octets m v d _ _ o)
      go (some s) = entered_octets m v d s _ o

pub create_octets : (len : ℕ) (v p : Bytes) (k : ℕ) (w : Wanted) → Octets v → Octets p → w.ftype < 256 → sound (total len) v ≡ true
    → Octets (create len v p k w).image
unfolding create create_number
create_octets len v p k w o path typed S =
    settled _ _ v _ _ Octets o
    (λ e.
    let facts = sound_facts (total len) v S in
    let r = rows_off _ e refl in
    let O = open_led (target_led facts p k) (r 5) (r 6) (r 7) in
    created_octets p (last_part (parts p k)) w path (low (wants w (not_false _ (r 3)) (r 4))) typed
    (name_size_law p _ _ (path_last p k (not_false _ (r 2)) (omega (arith, O.depth))))
    (map_block v) (total len) v (home (target v p k)) o)
  where
    low : Wants w → w.kind < 16
    low (want_file e f) = omega arith
    low (want_directory e f) = omega arith
