-- What holds of the image as it was, and of the new one where a call is not refused, holds of what the call leaves.
use Prim.Native.Nat.{ℕ}
use mathlib.Core.Path.{◌≡◌, refl, ◌∙◌}
use Rattle.model.specs.Bytes.{Bytes}
use Rattle.model.specs.Refusals.{settle}
use Rattle.model.proofs.ByteLaws.{at_or_off}
use Rattle.model.proofs.RefusalLaws.{settle_refused, settle_accepted}
use Rattle.model.proofs.Laws.Facts.{Seen}
use Rattle.model.proofs.Laws.One.{Kept, Others}

pub settled : {P : Type 0} (k : ℕ) (r : P) (old : Bytes) (d : P) (new : Bytes) (Q : Bytes → Type 0) → Q old → (k ≡ 0 → Q new)
    → Q (settle k r old d new).image
unfolding settle
settled k r old d new Q q f =
    at_or_off k 0 (λ e. rw (settle_accepted k r old d new e).1 (f e)) (λ n. rw (settle_refused k r old d new n).1 q)

pub done_image : {P : Type 0} (k : ℕ) (r : P) (old : Bytes) (d : P) (new : Bytes) → k ≡ 0 → (settle k r old d new).image ≡ new
unfolding settle
done_image k r old d new e = (settle_accepted k r old d new e).1

-- Files as they were.
pub kept_self : {v : Bytes} {x : ℕ} → Seen v x → Kept v v x
kept_self s = record { seen = s; entry = λ o l. refl; sorted = refl; owns = refl; bytes = λ b c j l. refl; reads = refl }

pub kept_trans : {v w u : Bytes} {x : ℕ} → Kept v w x → Kept w u x → Kept v u x
kept_trans A B =
    record {
      seen = B.seen;
      entry = λ o l. B.entry o l ∙ A.entry o l;
      sorted = B.sorted ∙ A.sorted;
      owns = B.owns ∙ A.owns;
      bytes = λ b c j l. B.bytes b (rw A.owns c) j l ∙ A.bytes b c j l;
      reads = B.reads ∙ A.reads;
    }

pub others_self : (v : Bytes) (a : ℕ) → Others v v a
others_self v a x h s k e = kept_self s
