-- A byte and a name put behind the first n bytes of a buffer. Assumes nothing.
use Prim.Native.Nat.{ℕ, ◌+◌, ◌<◌}
use mathlib.Core.Path.{◌≡◌, ap, ◌∙◌}
use mathlib.Core.List.{List, [], ◌∷◌, ◌++◌, append_assoc}
use native.Mathlib.Omega.{arith}
use lib.ListN.{length, set, take, length-set}
use borrow.Rule.Slice.PartMut.{put_mid}
use Rattle.std.proofs.lemmas.List.{take_more_set}
use Rattle.std.proofs.lemmas.Slice.{take-put_mid}

pub put_behind : (b : List ℕ) (n x k e : ℕ) (name : List ℕ) → n < length b → e ≡ n + 1 + length name
    → take e (put_mid (n + 1) k (set b n x) name) ≡ take n b ++ (x ∷ name)
put_behind b n x k e name h q =
    take-put_mid (n + 1) k (set b n x) name e q (omega (arith, length-set {A = ℕ}))
    ∙ ap (λ l. l ++ name) (take_more_set b n x h)
    ∙ append_assoc (take n b) (x ∷ []) name
