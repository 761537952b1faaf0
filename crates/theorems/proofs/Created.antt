-- Create: the path leads to a new entry in the directory that it led to. It is an empty file or an empty directory of the given type, and its block,
-- with the one that a full directory gains, is no longer free.
use Prim.Native.Nat.{ℕ, ◌+◌, ◌*◌}
use mathlib.Core.Path.{◌≡◌, refl, sym, ap, ◌∙◌}
use mathlib.Core.List.{List}
use mathlib.Core.Bool.{true, false≢true}
use native.Mathlib.Omega.{arith}
use Rattle.model.specs.Bytes.{Bytes, Octets}
use Rattle.model.specs.Names.{Part, parts}
use Rattle.model.specs.Map.{room}
use Rattle.model.specs.Directory.{Sort, directory, file, sort_of, sort, is_active, at, map_place, map_block, active_count, ftype, key, used, eof, kids, active, missing, there, lookup}
use Rattle.model.specs.Refusals.{settle}
use Rattle.model.specs.Calls.{total, target, home, is_there, last_part, nothing}
use Rattle.model.specs.Create.{Wanted, directory_kind, entered, created, create_need, create_number, create}
use Rattle.model.specs.Sound.{sound}
use Rattle.model.proofs.Laws.Lookup.{rows_off, not_false}
use Rattle.model.proofs.Laws.Spelling.{bears_same}
use Rattle.model.proofs.Laws.Create.{Fresh, a_file, a_directory, Creates, made_step, made_bears, made_kind, made_sort, made_key, made_used, made_type, made_eof, made_none, made_active, made_room, made_sound}
use Rattle.model.proofs.Laws.Extend.{grown_room}
use Rattle.model.proofs.Laws.Created.{NewEntry, in_slot, in_block, creates}
use Rattle.model.proofs.Laws.Settled.{done_image}
use Rattle.paths.specs.Ways.{WaysStay}
use Rattle.paths.proofs.NewLaws.{entry_stay}
use Rattle.paths.proofs.KeptLaws.{create_path}
use Rattle.theorems.proofs.Spelled.{spelled_bears, AlikeNames, alike_self}
use Rattle.theorems.proofs.Ways.{Reaches, path_reaches, is_missing_law, reaches_names}
use Rattle.theorems.proofs.Carried.{carried, step_holds, last_found}

-- A directory with no active entry.
pub record EmptyDirectory (u : Bytes) (a : ℕ) : Type 0 where
  pub sorted : sort u a ≡ directory
  pub sized : eof u a ≡ 512
  pub counted : active_count u (key u a) ≡ 0
  pub empty : active u (kids u a) ≡ 0

-- What stands at a is what was wanted.
pub record Stands (u : Bytes) (a : ℕ) (w : Wanted) : Type 0 where
  pub typed : ftype u a ≡ w.ftype
  pub single : used u a ≡ 1
  pub plain : w.kind ≡ 1 → (sort u a ≡ file 0) × (eof u a ≡ 0)
  pub folder : w.kind ≡ directory_kind → EmptyDirectory u a

-- In the directory d the names ps of p, in every spelling, lead to a new entry; c blocks are taken.
record Made (n : ℕ) (v : Bytes) (d : ℕ) (p : Bytes) (ps : List Part) (w : Wanted) (c : ℕ) (u : Bytes) : Type 0 where
  slot : ℕ
  found : (o : Bytes) (os : List Part) → AlikeNames p o ps os → lookup u o os ≡ there d slot
  stands : Stands u slot w
  space : room map_place u n + c ≡ room map_place v n

fresh_active : {v : Bytes} {w : Wanted} {a t : ℕ} {K : Sort} → Fresh v w a K t → is_active K ≡ true
fresh_active (a_file e f) = refl
fresh_active (a_directory e f g) = refl

-- The entry in g, which is v or what v has become.
module _ {n : ℕ} {g : Bytes} {a d z : ℕ} {p : Bytes} {x : Part} {w : Wanted} {K : Sort} {t : ℕ} (C : Creates n g a d z p x w K t) where
  abbrev made : Bytes
  made = entered map_place g d a z p x w

  made_stands : Stands made a w
  made_stands =
      record {
        typed = made_type C;
        single = made_used C;
        plain = λ e. (made_kind C ∙ rw e (unfold sort_of in refl), made_eof C ∙ rw e refl);
        folder = λ e.
            record {
              sorted = made_kind C ∙ rw e (unfold sort_of in refl);
              sized = made_eof C ∙ rw e refl;
              counted = rw (made_key C) (made_none C e);
              empty = made_active C;
            };
      }

  made_found : {v : Bytes} {ps : List Part} → WaysStay v made → Reaches v p ps d x → (q : Bytes) (qs : List Part) → AlikeNames p q ps qs → lookup made q qs ≡ there d a
  made_found stays R q qs M =
      let T = made_step C in
      let D = carried R (reaches_names R M) (λ xs. stays xs d) (step_holds T) in
      last_found T (made_sound C) D.1 (rw (made_sort C) (fresh_active C.fresh))
      (bears_same made (at a) q D.0 (spelled_bears D.2 (made_bears C).0))

entry_made : {n : ℕ} {v : Bytes} {d : ℕ} {p : Bytes} {x : Part} {w : Wanted} {c : ℕ} {u : Bytes} {ps : List Part} → NewEntry n v d p x w c u
    → Reaches v p ps d x → Made n v d p ps w c u
entry_made (in_slot {s} C) R =
    record { slot = s; found = made_found C (entry_stay (in_slot C)) R; stands = made_stands C; space = made_room C }
entry_made (in_block {z = z} E C) R =
    record {
      slot = z * 13;
      found = made_found C (entry_stay (in_block E C)) R;
      stands = made_stands C;
      space = omega (arith, made_room C, grown_room E);
    }

-- What an accepted create of the path p of k bytes does to the volume v of n blocks.
pub record Created (n : ℕ) (v p : Bytes) (k : ℕ) (w : Wanted) (u : Bytes) : Type 0 where
  pub was : target v p k ≡ missing (home (target v p k))
  pub slot : ℕ
  pub found : target u p k ≡ there (home (target v p k)) slot
  -- by every other spelling too
  pub spelled : (o : Bytes) (i : ℕ) → AlikeNames p o (parts p k) (parts o i) → target u o i ≡ there (home (target v p k)) slot
  -- every path to another entry leads there still
  pub elsewhere : (o : Bytes) (i e s : ℕ) → target v o i ≡ there e s → target u o i ≡ there e s
  pub stands : Stands u slot w
  pub space : room map_place u n + create_need v (home (target v p k)) ≡ room map_place v n

module _ (len : ℕ) (v p : Bytes) (k : ℕ) (w : Wanted) (octets : Octets v) where
  abbrev d : ℕ
  d = home (target v p k)

  abbrev u : Bytes
  u = created (map_block v) (total len) v d p (last_part (parts p k)) w

  created_is : create_number len v p k w (target v p k) ≡ 0 → sound (total len) v ≡ true
      → ((o : Bytes) (i e s : ℕ) → target v o i ≡ there e s → target u o i ≡ there e s) → Created (total len) v p k w u
  unfolding create_number is_there
  created_is e S still =
      let r = rows_off _ e refl in
      let R = path_reaches v p (parts p k) (r 5) (r 6) (λ f. false≢true (sym (r 7) ∙ ap is_there f)) in
      let M = entry_made (creates len v p k w octets S e) R in
      record {
        was = is_missing_law (target v p k) (r 5) (r 6) (r 7);
        slot = M.slot;
        found = M.found p (parts p k) (alike_self p (parts p k));
        spelled = λ o i N. M.found o (parts o i) N;
        elsewhere = still;
        stands = M.stands;
        space = M.space;
      }

  create_image : (create len v p k w).number ≡ 0 → (create len v p k w).image ≡ u
  unfolding create settle
  create_image e = done_image _ nothing v nothing _ e

  pub create_gives : (create len v p k w).number ≡ 0 → Created (total len) v p k w (create len v p k w).image
  unfolding create settle create_number
  create_gives e =
      let S = not_false _ (rows_off _ e refl 1) in
      let image = create_image e in
      rw image (created_is e S (λ o i d s f. rw image at (create_path len v p k w octets S o i d s f)))
