-- What the commands share that change the image: what was done and said as what a command leaves. Assumes nothing.
use Rattle.std.specs.Prelude.{Result}
use Rattle.model.specs.declared.Refusal.{Refusal}
use Prim.Native.Nat.{ℕ, ◌+◌, ◌-◌, ◌≤◌, ◌<◌}
use mathlib.Core.Path.{◌≡◌, refl, ap, subst}
use mathlib.Core.List.{List, [], ◌∷◌}
use mathlib.Core.Bool.{true, false}
use lib.ListN.{length, take, drop}
use borrow.Author.Tests.{le-leb, lt-leb}
use Rattle.model.specs.Bytes.{Bytes, view, paste}
use Rattle.model.specs.declared.Stamp.{Stamp}
use Rattle.model.specs.Refusals.{Outcome}
use Rattle.model.specs.Calls.{Nothing}
use Rattle.model.specs.Answers.{Does, Writes, answer_number, transferred}
use Rattle.ink.specs.Ink.{Sheet, sheet}
use Rattle.ink.specs.declared.Ink.{Ink}
use Rattle.ink.proofs.InkLaws.{prints_as}
use Rattle.replies.specs.Lines.{ok_line, reply, number}
use Rattle.std.specs.Result.{is_ok}
use Rattle.lines.specs.declared.BadLine.{BadLine}
use Rattle.lines.specs.Commands.{cut, held}
use Rattle.lines.specs.Left.{Leaves, Says}
use Rattle.lines.proofs.PartLaws.{text_as}
use Rattle.lines.proofs.LeftLaws.{none_leaves, if_so, if_not}
use Rattle.changes.specs.Changes.{answered, moved, laid_in}

-- What holds of a part of the room and of a stamp holds of the first text and the stamp of the fields.
pub stamped_as : (P : Bytes → ℕ → Stamp → Type 0) (vs ts : List ℕ) (i : ℕ) {s : Stamp} → view vs 0 ≤ length ts
    → s ≡ record { date = view vs i; time = view vs (i + 1) } → P (view (take (view vs 0 - 0) (drop 0 ts))) (length (take (view vs 0 - 0) (drop 0 ts))) s
    → P (cut (view ts) 0 (view vs 0)) (view vs 0) (record { date = view vs i; time = view vs (i + 1) })
stamped_as P vs ts i h e p =
    text_as (λ b k. P b k (record { date = view vs i; time = view vs (i + 1) })) vs ts h
    (subst (λ (x : Stamp). P (view (take (view vs 0 - 0) (drop 0 ts))) (length (take (view vs 0 - 0) (drop 0 ts))) x) e p)

-- A call was done or refused, and said.
pub does_leaves : {o : Outcome Nothing} {n : ℕ} {a : Result (Unit {0}) Refusal} {s : Sheet} {r : Result (Unit {0}) BadLine} {k : Ink} {l p : List ℕ} (vs ts bs : List ℕ) → Does o n a l
    → Says true (reply (answer_number a) (ok_line [] [])) s r k p → Leaves (answered (held vs ts bs) o) s r k l bs p
does_leaves vs ts bs d t =
    record {
      good = t.good;
      image = d.bytes;
      buffer = refl;
      page = prints_as (ap (λ (k : ℕ). reply k (ok_line [] [])) d.said) t.page;
    }

-- Bytes g of a buffer were written, and it is said how many.
pub writes_leaves : (o : Bytes → Outcome ℕ) (b : List ℕ) {g : Bytes} {n : ℕ} {t : Result ℕ Refusal} {s : Sheet} {r : Result (Unit {0}) BadLine} {k : Ink} {l p : List ℕ} → view b ≡ g
    → Writes (o (view b)) n t l → Says true (reply (answer_number t) (ok_line (number ∷ []) (transferred t ∷ []))) s r k p → Leaves (moved (o g) g) s r k l b p
writes_leaves o b {g} {n} {t} {s} {r} {k} {l} {p} e w q =
    subst (λ (x : Bytes). Leaves (moved (o x) x) s r k l b p) e
    (record {
      good = q.good;
      image = w.bytes;
      buffer = refl;
      page = prints_as (cc (w.said, w.moved)) q.page;
    })

-- Bytes that do not lie in the image, and bytes that do.
module _ (n : ℕ) (g : Bytes) (vs bs : List ℕ) {r : Result (Unit {0}) BadLine} {k : Ink} {p : List ℕ} where
  pub laid_bad : (img : List ℕ) → is_ok r ≡ false → n < view vs 0 + view vs 1
      → Leaves (laid_in n (view img) (held vs [] bs) g) (sheet k p) r k img bs p
  unfolding laid_in
  laid_bad img e h = if_not _ _ _ (lt-leb (view vs 0 + view vs 1) n h) (none_leaves e)

  pub laid_done : (v : Bytes) {s : Sheet} {i : List ℕ} → view vs 0 + view vs 1 ≤ n → view i ≡ paste v (view vs 0) (view vs 1) g
      → Says true (reply 0 (ok_line [] [])) s r k p → Leaves (laid_in n v (held vs [] bs) g) s r k i bs p
  unfolding laid_in ok_line reply
  laid_done v h e t = if_so _ _ _ (le-leb (view vs 0 + view vs 1) n h) (record { good = t.good; image = e; buffer = refl; page = t.page })
