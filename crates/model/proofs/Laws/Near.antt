-- Names whose first byte may change in its high half, the kind: the name stays.
use Prim.Native.Nat.{ℕ, ◌+◌, ◌≤◌, ◌<◌, ◌%◌}
use mathlib.Core.Path.{◌≡◌, refl, ap}
use mathlib.Core.List.{List, [], ◌∷◌}
use mathlib.Core.Bool.{true, false}
use native.Mathlib.Omega.{arith}
use native.Mathlib.Nat.{add-zero, add_assoc}
use Rattle.model.specs.Bytes.{Bytes, sum, count, ◌and◌}
use Rattle.model.specs.Names.{proper_name, capital, capitals, capital_name, alike, Part, same_name}
use Rattle.model.specs.Directory.{at, sort, is_active}
use Rattle.model.specs.Sound.{twins_of, twins}
use borrow.Author.Tests.{ne_eqb}
use Rattle.model.proofs.ByteLaws.{at_or_off, equal_cong}
use Rattle.model.proofs.SumLaws.{is_self}
use Rattle.model.proofs.Laws.Frame.{Named, name_bytes_same}

pub record Near (v v' : Bytes) (a : ℕ) : Type 0 where
  pub sized : v' a % 16 ≡ v a % 16
  pub rest : (i : ℕ) → i < 15 → v' (a + 1 + i) ≡ v (a + 1 + i)

pub named_near : {v v' : Bytes} {a : ℕ} → Named v v' a → Near v v' a
named_near {v} {v'} {a} f =
    let z : v' a ≡ v a = rw add-zero at (f 0 (omega arith)) in
    record { sized = rw z refl; rest = λ i l. rw (add_assoc a 1 i) (f (1 + i) (omega arith)) }

pub capital_near : {v v' : Bytes} {a : ℕ} → Near v v' a → capital_name v' a ≡ capital_name v a
unfolding capital_name proper_name
capital_near {v} {v'} {a} N =
    let k = v a % 16 in
    let g : (i : ℕ) → i < k → v' (a + 1 + i) ≡ v (a + 1 + i) = λ i l. N.rest i (omega arith) in
    let z : v' (a + 1) ≡ v (a + 1) = rw add-zero at (N.rest 0 (omega arith)) in
    rw (
      N.sized,
      z,
      name_bytes_same v v' (a + 1) k g,
      equal_cong v' (a + 1) (λ i. capital (v' i)) (a + 1) k v (a + 1) (λ i. capital (v i)) (a + 1) g (λ i l. ap capital (g i l)),
    )
    refl

alike_near : {v v' : Bytes} {a b : ℕ} → Near v v' a → Near v v' b → alike v' a b ≡ alike v a b
unfolding alike
alike_near {v} {v'} {a} {b} N M =
    rw (
      N.sized,
      M.sized,
      equal_cong v' (a + 1) v' (b + 1) (v a % 16) v (a + 1) v (b + 1) (λ i l. N.rest i (omega arith)) (λ i l. M.rest i (omega arith)),
    )
    refl

twin_near : (v v' : Bytes) (s : ℕ) (ss : List ℕ) → Near v v' (at s)
    → ((t : ℕ) → 1 ≤ count t ss → (is_active (sort v' t) ≡ is_active (sort v t)) × Near v v' (at t)) → twins_of v' s ss ≡ twins_of v s ss
unfolding twins_of sum
twin_near v v' s [] f g = refl
twin_near v v' s (t ∷ ss) f g =
    let h = g t (omega (arith, is_self t)) in
    rw (h.0, alike_near f h.1, twin_near v v' s ss f (λ x k. g x (omega arith))) refl

pub twins_near : (v v' : Bytes) (ss : List ℕ)
    → ((t : ℕ) → 1 ≤ count t ss → (is_active (sort v' t) ≡ is_active (sort v t)) × Near v v' (at t)) → twins v' ss ≡ twins v ss
unfolding twins sum
twins_near v v' [] g = refl
twins_near v v' (s ∷ ss) g =
    let h = g s (omega (arith, is_self s)) in
    let rest : (t : ℕ) → 1 ≤ count t ss → (is_active (sort v' t) ≡ is_active (sort v t)) × Near v v' (at t) = λ t k. g t (omega arith) in
    let x = twin_near v v' s ss h.1 rest in
    let y = twins_near v v' ss rest in
    λ i. elim (h.0 i) [ true ↦ x i + y i | false ↦ y i ]

-- the name of a path's part
pub same_near : {v v' : Bytes} {a : ℕ} (p : Bytes) (x : Part) → Near v v' a → same_name v' a p x ≡ same_name v a p x
unfolding same_name
same_near {v} {v'} {a} p x N =
    at_or_off (v a % 16) x.size
    (λ e.
    rw (
      N.sized,
      equal_cong v' (a + 1) (capitals p) x.start x.size v (a + 1) (capitals p) x.start (λ i m. N.rest i (omega arith)) (λ i m. refl),
    )
    refl)
    (λ d. unfold ◌and◌ in rw (N.sized, ne_eqb (v a % 16) x.size d) refl)
