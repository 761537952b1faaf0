-- A file as EOF grows: its bytes at old EOF and after zeroed, then new keys.
use Prim.Native.Nat.{ℕ, ◌+◌, ◌-◌, ◌≤◌, ◌<◌, ◌/◌}
use mathlib.Core.Path.{◌≡◌, refl, sym, ap, subst, ◌∙◌}
use mathlib.Core.Bool.{Bool, true, false}
use lib.Dec.{leb, ltb}
use native.Mathlib.Omega.{arith}
use borrow.Author.Tests.{leb-true, leb-false, ltb-false}
use Rattle.model.specs.Bytes.{Bytes, one_if}
use Rattle.model.specs.Map.{room}
use Rattle.model.specs.Kinds.{kind_for, kind_number}
use Rattle.model.specs.declared.Kind.TheVariants.{Seedling, Sapling, Tree}
use Rattle.model.specs.Directory.{map_place, key, eof}
use Rattle.model.specs.File.{span, height_for, height, above, first_below, file_byte}
use Rattle.model.specs.Grow.{zeroed_from, raised, raised_key}
use Rattle.model.specs.Write.{grown, grown_key}
use Rattle.model.proofs.Laws.Weigh.{weigh, each, tardy, size, weigh_le}
use Rattle.model.proofs.Laws.Move.{by_lt, Fit, Move, move_fit, move_then}
use Rattle.model.proofs.Laws.Take.{Still, still_none}
use Rattle.model.proofs.Laws.Room.{move_room, Keyed, Raised, raised_work}
use Rattle.model.proofs.Laws.Data.{late_hole, work_zero, work_byte}
use Rattle.model.proofs.Laws.Pour.{zeroed}
use Rattle.model.proofs.Laws.Entry.{Ready, fit, was_tall, was_late, eof_most_law}

-- Heights and ends.
heights : Bool → Bool → ℕ
heights b c = kind_number (elim b [ true ↦ Seedling 0 | false ↦ elim c [ true ↦ Sapling 0 | false ↦ Tree 0 ] ]) - 1

height_is : (e : ℕ) → height_for e ≡ heights (leb e 512) (leb e 131072)
unfolding height_for kind_for heights
height_is e = refl

pub height_le : (e f : ℕ) → e ≤ f → height_for e ≤ height_for f
height_le e f l = rw (height_is e, height_is f) (go (leb e 512) refl (leb e 131072) refl (leb f 512) refl (leb f 131072) refl)
  where
    go : (b : Bool) → leb e 512 ≡ b → (c : Bool) → leb e 131072 ≡ c → (x : Bool) → leb f 512 ≡ x → (y : Bool) → leb f 131072 ≡ y
        → heights b c ≤ heights x y
    go true p c q x r y u = unfold heights in omega arith
    go false p c q true r y u = absurd (let s = leb-false e 512 p in let t = leb-true f 512 r in omega arith)
    go false p true q false r true u = unfold heights in omega arith
    go false p true q false r false u = unfold heights in omega arith
    go false p false q false r true u = absurd (let s = leb-false e 131072 q in let t = leb-true f 131072 u in omega arith)
    go false p false q false r false u = unfold heights in omega arith

pub height_path : (e r : ℕ) → e < 16777216 → r < span e → 0 ≡ above (height_for e) r
unfolding span
height_path e r l m = rw (height_is e) (go (leb e 512) refl (leb e 131072) refl)
  where
    go : (b : Bool) → leb e 512 ≡ b → (c : Bool) → leb e 131072 ≡ c → 0 ≡ above (heights b c) r
    go true p c q = unfold heights above in (let s = leb-true e 512 p in omega arith)
    go false p true q = unfold heights above in (let s = leb-true e 131072 q in omega arith)
    go false p false q = unfold heights above in omega arith

span_le : (e f : ℕ) → e ≤ f → span e ≤ span f
unfolding span
span_le e f l = omega arith

pub span_some : (e : ℕ) → 1 ≤ span e
unfolding span
span_some e = omega arith

pub span_most : (e : ℕ) → e < 16777216 → span e ≤ 65536
unfolding span
span_most e l = omega arith

pub span_in : (e i : ℕ) → i < e → i / 512 < span e
unfolding span
span_in e i l = omega arith

late_le : (s t : ℕ) (v : Bytes) (h q k : ℕ) → s ≤ t → weigh (tardy s) v h q k ≡ 0 → weigh (tardy t) v h q k ≡ 0
late_le s t v h q k l z =
    omega (arith, weigh_le (tardy t) (tardy s) v h q k (λ m r b _. go m r (leb s (first_below m r)) refl (leb t (first_below m r)) refl))
  where
    go : (m r : ℕ) (b : Bool) → leb s (first_below m r) ≡ b → (c : Bool) → leb t (first_below m r) ≡ c → one_if c ≤ one_if b
    go m r b p false q = omega arith
    go m r true p true q = omega arith
    go m r false p true q = absurd (let x = leb-false s (first_below m r) p in let y = leb-true t (first_below m r) q in omega arith)

-- From the end o to the end e: nodes stay, bytes below o stay, those from o on are zero.
pub record Grown (n : ℕ) (v : Bytes) (h k o : ℕ) (w : Bytes) (g l e : ℕ) : Type 0 where
  pub move : Move n v h 0 k w g 0 l
  pub ends : weigh (tardy (span e)) w g 0 l ≡ 0
  pub keyed : Keyed v h k w g l
  pub more : size w g 0 l ≡ size v h 0 k + (g - h)
  pub below : (i : ℕ) → i < o → file_byte w g l i ≡ file_byte v h k i
  pub past : (i : ℕ) → o ≤ i → i < e → file_byte w g l i ≡ 0

-- the first half: only data bytes change
record Ended (n : ℕ) (v : Bytes) (h k o e : ℕ) (f : Bytes) : Type 0 where
  still : Still n v h 0 k f
  below : (i : ℕ) → i < o → file_byte f h k i ≡ file_byte v h k i
  past : (i : ℕ) → o ≤ i → i < e → i / 512 < span o → file_byte f h k i ≡ 0

module _ {n : ℕ} {v : Bytes} {a d h : ℕ} (R : Ready n v a d h) (e : ℕ) (longer : eof v a ≤ e) (small : e < 16777216)
    (enough : height_for e - h ≤ room map_place v n) where
  old_path : (r : ℕ) → r < span (eof v a) → 0 ≡ above h r
  old_path r l = rw (was_tall R) (height_path (eof v a) r (eof_most_law R) l)

  -- then new keys
  keys : (f : Bytes) → Ended n v h (key v a) (eof v a) e f
      → Grown n v h (key v a) (eof v a) (raised map_place n f (key v a) (height_for e - h)) (height_for e)
      (raised_key map_place n f (key v a) (height_for e - h)) e
  keys f Z =
      let A = Z.still in
      let G : Fit n f h 0 (key v a) = move_fit (fit R) A.move in
      let up : h ≤ height_for e = rw (was_tall R) (height_le (eof v a) e longer) in
      let B : Raised n (span e) (height_for e - h) f h (key v a) (raised map_place n f (key v a) (height_for e - h)) (height_for e)
      (raised_key map_place n f (key v a) (height_for e - h)) =
      raised_work n (span e) (height_for e - h) h (height_for e) (key v a) f (span_some e) (omega arith) G
      (omega (arith, A.weights (each (λ _. 1)), move_room (fit R) A.move)) in
      let H = move_fit G B.work.move in
      let late : weigh (tardy (span (eof v a))) f h 0 (key v a) ≡ 0 = A.weights (tardy (span (eof v a))) ∙ was_late R in
      let new_path : (i : ℕ) → i < e → 0 ≡ above (height_for e) (i / 512) = λ i l. height_path e (i / 512) small (span_in e i l) in
      record {
        move = move_then A.move B.work.move;
        ends = B.work.timely (late_le (span (eof v a)) (span e) f h 0 (key v a) (span_le (eof v a) e longer) late);
        keyed = λ x o. B.keyed x o ∙ A.weights x;
        more = omega (arith, A.weights (each (λ _. 1)), B.more);
        below = λ i l.
            work_byte B.work H i (new_path i (omega arith)) (old_path (i / 512) (span_in (eof v a) i l)) ∙ Z.below i l;
        past = λ i l m. by_lt (i / 512) (span (eof v a))
            (λ s. work_byte B.work H i (new_path i m) (old_path (i / 512) s) ∙ Z.past i l m s)
            (λ s. work_zero B.work H i (new_path i m) (λ b _. late_hole (span (eof v a)) f h 0 (key v a) (i / 512) b late s));
      }

  -- with the height in question as x
  abbrev Grows : ℕ → Bool → Type 0
  Grows x b =
      let f : Bytes = elim b [ true ↦ zeroed_from v x (key v a) (eof v a) | false ↦ v ] in
      Grown n v h (key v a) (eof v a) (raised map_place n f (key v a) (height_for e - x)) (height_for e)
      (raised_key map_place n f (key v a) (height_for e - x)) e

  pub grow : Grown n v h (key v a) (eof v a) (grown map_place n v a e) (height_for e) (grown_key map_place n v a e) e
  unfolding grown grown_key
  grow = subst (λ (x : ℕ). Grows x (ltb (eof v a) e)) (ap height (sym R.kind)) (go (ltb (eof v a) e) refl)
    where
      go : (b : Bool) → ltb (eof v a) e ≡ b → Grows h b
      go true t =
          let Z = zeroed (fit R) (eof v a) old_path in
          keys (zeroed_from v h (key v a) (eof v a))
          (record {
            still = Z.still;
            below = λ i l. Z.below i l (old_path (i / 512) (span_in (eof v a) i l));
            past = λ i l m s. Z.past i l s;
          })
      go false t =
          let l = ltb-false (eof v a) e t in
          keys v (record { still = still_none (fit R); below = λ i m. refl; past = λ i m o s. absurd (omega arith) })
