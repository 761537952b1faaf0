-- Create: every way stays, also where a full subdirectory gains a block first.
use Prim.Native.Nat.{ℕ}
use mathlib.Core.Path.{refl, sym, ◌∙◌}
use mathlib.Core.List.{[], ◌∷◌}
use mathlib.Core.Bool.{false≢true}
use native.Mathlib.Omega.{arith}
use Rattle.model.specs.Bytes.{Bytes, is}
use Rattle.model.specs.Names.{Part}
use Rattle.model.specs.Directory.{Sort, map_place, slots, kids}
use Rattle.model.specs.Create.{Wanted, gained, entered}
use Rattle.model.specs.Catalog.{name_text}
use Rattle.model.proofs.SumLaws.{sum_append, count_none}
use Rattle.model.proofs.Laws.Keep.{sort_named}
use Rattle.model.proofs.Laws.One.{leaf, inactive_directory}
use Rattle.model.proofs.Laws.Create.{Creates, made_step}
use Rattle.model.proofs.Laws.Extend.{Extends, grown_step, grown_name, grown_kids}
use Rattle.model.proofs.Laws.Created.{NewEntry, in_slot, in_block}
use Rattle.model.proofs.Laws.Near.{named_near}
use Rattle.paths.specs.Ways.{WaysStay}
use Rattle.paths.proofs.TextLaws.{near_text}
use Rattle.paths.proofs.CarryLaws.{Carries, step_carries, stay}

-- An entry in an inactive slot.
made_carries : {n : ℕ} {v : Bytes} {a d z : ℕ} {p : Bytes} {x : Part} {w : Wanted} {K : Sort} {t : ℕ} → Creates n v a d z p x w K t
    → Carries v (entered map_place v d a z p x w) (λ _. ⊥) (name_text v)
made_carries {v = v} {a} C =
    step_carries (made_step C)
    (λ y c _. absurd (count_none y (rw (leaf v a (λ e. inactive_directory (sym C.old ∙ e))) at c)))
    (λ e _. absurd (false≢true (rw C.old at e)))
    (λ y _. refl)

-- A directory gains a block at its end.
grown_carries : {n : ℕ} {v : Bytes} {a d y z : ℕ} → Extends n v a d y z → Carries v (gained map_place v a y z) (λ _. ⊥) (name_text v)
grown_carries {v = v} {a} {z = z} E =
    step_carries (grown_step E)
    (λ t c _. rw (grown_kids E) (omega (arith, sum_append (is t) (kids v a) (slots (z ∷ [])))))
    (λ e _. (rw (sort_named v _ a (grown_name E)) e, near_text a (named_near (grown_name E))))
    (λ t _. refl)

pub entry_stay : {n : ℕ} {v : Bytes} {d : ℕ} {p : Bytes} {x : Part} {w : Wanted} {c : ℕ} {u : Bytes} → NewEntry n v d p x w c u → WaysStay v u
entry_stay (in_slot C) xs s way = stay C.sound (made_carries C) xs s way
entry_stay (in_block E C) xs s way =
    let A = stay E.sound (grown_carries E) xs s way in
    let B = stay C.sound (made_carries C) xs s A.0 in
    (B.0, B.1 ∙ A.1)
