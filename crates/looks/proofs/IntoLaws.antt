-- The call read with a buffer of equal bytes, and what is said of it. Assumes nothing.
use Rattle.std.specs.Prelude.{Result}
use Rattle.model.specs.declared.Refusal.{Refusal}
use Prim.Native.Nat.{ℕ}
use mathlib.Core.Path.{◌≡◌, ◌∙◌}
use mathlib.Core.List.{List}
use lib.ListN.{length}
use Rattle.model.specs.Bytes.{Bytes, view, paste, same}
use Rattle.model.specs.Refusals.{Outcome}
use Rattle.model.specs.Read.{Filled, read}
use Rattle.model.specs.Answers.{Reads, answer_number, transferred}
use Rattle.ink.specs.Ink.{Sheet, sheet, Prints}
use Rattle.ink.specs.declared.Ink.{Ink}
use Rattle.replies.specs.Lines.{reply, read_line}
use Rattle.lines.proofs.PartLaws.{paste_whole}
use Rattle.looks.specs.Looks.{equals, ReadsInto}

-- the buffer before, filled, and after
pub read_filled : (n : ℕ) (v p : Bytes) (k at x : ℕ) (l m : List ℕ) {r : (Result ℕ Refusal)} {b : List ℕ} → length m ≡ length l → view m ≡ paste (view l) 0 (length l) (same x)
    → Reads (read n v p k at (view m) (length m)) (length m) r b → Reads (read n v p k at (equals (length l) x) (length l)) (length l) r b
read_filled n v p k at x l m e f h = rw (f ∙ paste_whole l (same x), e) at h

pub into_reads : {o : Outcome Filled} {n : ℕ} {r : (Result ℕ Refusal)} {b p : List ℕ} {s : Sheet} {k : Ink} → Reads o n r b
    → Prints (reply (answer_number r) (read_line (transferred r) (view b) (length b))) s (sheet k p) → ReadsInto o n s k b p
into_reads h w = record { buffer = h.bytes; page = rw (h.said, h.moved, h.bytes, h.size) at w }
