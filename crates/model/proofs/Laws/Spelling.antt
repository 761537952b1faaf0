-- Names as they are given and as they are stored, and twins where one entry of a directory has another name.
use Prim.Native.Nat.{ℕ, zero, suc, ◌+◌, ◌-◌, ◌*◌, ◌≤◌, ◌<◌, ◌/◌}
use mathlib.Core.Path.{◌≡◌, refl, sym, ap, ◌∙◌}
use mathlib.Core.List.{List, [], ◌∷◌, ◌++◌}
use mathlib.Core.Bool.{Bool, true, false, false≢true}
use lib.Dec.{eqb}
use native.Mathlib.Omega.{arith}
use native.Mathlib.Nat.{add-zero, add_assoc}
use borrow.Author.Tests.{eqb-true, eqb-false, eq-eqb, leb-true, le-leb}
use Rattle.model.specs.Bytes.{Bytes, sum, count, is, one_if, from, zeros, within, ◌and◌, ◌or◌}
use Rattle.model.specs.Names.{Part, name_most, capital, capitals, letter, name_byte, name_bytes, proper_name, name_size, capital_name, same_name, alike}
use Rattle.model.specs.Directory.{sort, is_active, at}
use Rattle.model.specs.Sound.{twins_of, twins}
use Rattle.model.specs.Calls.{name_field}
use Rattle.model.proofs.ByteLaws.{put_at, put_off, paste_in, equal_at, equal_all}
use Rattle.model.proofs.BitLaws.{is_no}
use Rattle.model.proofs.SumLaws.{is_self, sum_append, sum_mem, sum_zero}
use Rattle.model.proofs.Laws.Frame.{Named, alike_same, twins_same}
use Rattle.model.proofs.TestLaws.{and_left, and_right, and_both}

-- Bytes of names.
pub within_in : (low high x : ℕ) → low ≤ x → x ≤ high → within low high x ≡ true
unfolding within
within_in low high x p q = and_both _ _ (le-leb low x p) (le-leb x high q)

pub within_is : (low high x : ℕ) → within low high x ≡ true → (low ≤ x) × (x ≤ high)
unfolding within
within_is low high x e = (leb-true low x (and_left _ _ e), leb-true x high (and_right _ _ e))

within_off : (low high x : ℕ) → (low ≤ x → x ≤ high → ⊥) → within low high x ≡ false
within_off low high x n = go (within low high x) refl
  where
    go : (b : Bool) → within low high x ≡ b → b ≡ false
    go true e = let r = within_is low high x e in absurd (n r.0 r.1)
    go false e = refl

pub capital_small : (c : ℕ) → within 97 122 c ≡ true → capital c ≡ c - 32
unfolding capital
capital_small c e = rw (e, capital) refl

pub capital_other : (c : ℕ) → within 97 122 c ≡ false → capital c ≡ c
unfolding capital
capital_other c e = rw (e, capital) refl

pub capital_most : (c : ℕ) → capital c ≤ c
capital_most c = go (within 97 122 c) refl
  where
    go : (b : Bool) → within 97 122 c ≡ b → capital c ≤ c
    go true e = rw (capital_small c e) (omega arith)
    go false e = rw (capital_other c e) (omega arith)

capital_twice : (c : ℕ) → capital (capital c) ≡ capital c
capital_twice c = go (within 97 122 c) refl
  where
    go : (b : Bool) → within 97 122 c ≡ b → capital (capital c) ≡ capital c
    go true e = let r = within_is 97 122 c e in rw (capital_small c e) (capital_other (c - 32) (within_off 97 122 (c - 32) (λ p q. omega arith)))
    go false e = ap capital (capital_other c e)

letter_capital : (c : ℕ) → letter (capital c) ≡ letter c
unfolding letter
letter_capital c = ap (within 65 90) (capital_twice c)

small_letter : (c : ℕ) → within 97 122 c ≡ true → letter (capital c) ≡ true
unfolding letter
small_letter c e =
    let r = within_is 97 122 c e in
    rw (capital_twice c, capital_small c e) (within_in 65 90 (c - 32) (omega arith) (omega arith))

byte_capital : (c : ℕ) → name_byte c ≡ true → name_byte (capital c) ≡ true
unfolding name_byte ◌or◌
byte_capital c h = go (within 97 122 c) refl
  where
    go : (b : Bool) → within 97 122 c ≡ b → name_byte (capital c) ≡ true
    go true e = rw (small_letter c e) refl
    go false e = rw (capital_other c e) h

bytes_at : (p : Bytes) (a k : ℕ) → name_bytes p a k ≡ true → (i : ℕ) → i < k → name_byte (p (a + i)) ≡ true
unfolding name_bytes
bytes_at p a zero e i l = absurd (omega arith)
bytes_at p a (suc k) e i l = go (name_byte (p a)) refl e (bytes_at p (a + 1) k)
  where
    go : (b : Bool) → name_byte (p a) ≡ b → elim b as (λ _. Bool) [ true ↦ name_bytes p (a + 1) k | false ↦ false ] ≡ true
        → (name_bytes p (a + 1) k ≡ true → (i : ℕ) → i < k → name_byte (p (a + 1 + i)) ≡ true) → name_byte (p (a + i)) ≡ true
    go false f g r = absurd (false≢true g)
    go true f g r = here i l
      where
        here : (i : ℕ) → i < suc k → name_byte (p (a + i)) ≡ true
        here zero l = rw (add-zero a) f
        here (suc i) l = let e : a + suc i ≡ a + 1 + i = omega arith in rw e (r g i (omega arith))

bytes_all : (p : Bytes) (a k : ℕ) → ((i : ℕ) → i < k → name_byte (p (a + i)) ≡ true) → name_bytes p a k ≡ true
unfolding name_bytes
bytes_all p a zero f = refl
bytes_all p a (suc k) f =
    rw (rw add-zero at (f 0 (omega arith)), name_bytes) (bytes_all p (a + 1) k (λ i l. rw (add_assoc a 1 i) (f (1 + i) (omega arith))))

-- The name stored at a is the name x of p, as capitals.
pub record Bears (v : Bytes) (a : ℕ) (p : Bytes) (x : Part) : Type 0 where
  pub sized : name_size v a ≡ x.size
  pub spelled : (i : ℕ) → i < x.size → v (a + 1 + i) ≡ capital (p (x.start + i))

module _ (v : Bytes) (a : ℕ) (p : Bytes) (x : Part) where
  pub same_bears : same_name v a p x ≡ true → Bears v a p x
  unfolding same_name
  same_bears e =
      record {
        sized = eqb-true _ _ (and_left _ _ e);
        spelled = equal_at v (a + 1) (capitals p) x.start x.size (and_right _ _ e);
      }

  pub bears_same : Bears v a p x → same_name v a p x ≡ true
  unfolding same_name
  bears_same B = and_both _ _ (eq-eqb _ _ B.sized) (equal_all v (a + 1) (capitals p) x.start x.size B.spelled)

  pub bears_capital : Bears v a p x → proper_name p x.start x.size ≡ true → capital_name v a ≡ true
  unfolding capital_name proper_name
  bears_capital B e =
      let size = within_is 1 name_most x.size (and_left _ _ e) in
      let first : v (a + 1) ≡ capital (p x.start) = rw (add-zero (a + 1), add-zero x.start) at (B.spelled 0 (omega (arith, size.0))) in
      rw B.sized
      (and_both _ _
      (and_both _ _ (and_left _ _ e)
      (and_both _ _ (rw first (letter_capital (p x.start) ∙ and_left _ _ (and_right _ _ e)))
      (bytes_all v (a + 1) x.size
      (λ i l. rw (B.spelled i l) (byte_capital _ (bytes_at p x.start x.size (and_right _ _ (and_right _ _ e)) i l))))))
      (equal_all v (a + 1) (capitals v) (a + 1) x.size (λ i l. rw (B.spelled i l) (sym (capital_twice _)))))

  -- names that are alike bear the same
  pub bears_alike : (b : ℕ) → Bears v a p x → Bears v b p x → alike v a b ≡ true
  unfolding alike
  bears_alike b A B =
      and_both _ _ (eq-eqb _ _ (A.sized ∙ sym B.sized))
      (rw A.sized (equal_all v (a + 1) v (b + 1) x.size (λ i l. A.spelled i l ∙ sym (B.spelled i l))))

  pub alike_bears : (b : ℕ) → alike v a b ≡ true → Bears v a p x → Bears v b p x
  unfolding alike
  alike_bears b e A =
      record {
        sized = sym (eqb-true _ _ (and_left _ _ e)) ∙ A.sized;
        spelled = λ i l. sym (equal_at v (a + 1) v (b + 1) (name_size v a) (and_right _ _ e) i (rw A.sized l)) ∙ A.spelled i l;
      }

  pub alike_back : (b : ℕ) → alike v b a ≡ true → Bears v a p x → Bears v b p x
  unfolding alike
  alike_back b e A =
      let same = eqb-true _ _ (and_left _ _ e) in
      record {
        sized = same ∙ A.sized;
        spelled = λ i l. equal_at v (b + 1) v (a + 1) (name_size v b) (and_right _ _ e) i (rw (same, A.sized) l) ∙ A.spelled i l;
      }

  -- a name that was stored
  pub stored : (k : ℕ) → x.size < 16 → ((i : ℕ) → i < 16 → v (a + i) ≡ name_field k p x i) → Bears v a p x × (v a / 16 ≡ k)
  unfolding name_field
  stored k s f =
      let h : v a ≡ k * 16 + x.size = rw add-zero at (f 0 (omega arith) ∙ put_at _ 0 (k * 16 + x.size)) in
      (record { sized = rw h (omega arith); spelled = one }, rw h (omega arith))
    where
      one : (i : ℕ) → i < x.size → v (a + 1 + i) ≡ capital (p (x.start + i))
      one i l =
          let e : 1 + i - 1 ≡ i = omega arith in
          rw (add_assoc a 1 i)
          (f (1 + i) (omega arith) ∙ put_off _ 0 _ (1 + i) (λ q. omega arith)
          ∙ paste_in zeros 1 x.size (from (capitals p) x.start) (1 + i) (omega arith) (omega arith)
          ∙ ap (λ j. capital (p (x.start + j))) e)

-- what a name that stays bears
pub bears_named : (v v' : Bytes) (b : ℕ) (q : Bytes) (x : Part) → x.size < 16 → Named v v' b → Bears v' b q x → Bears v b q x
bears_named v v' b q x s f B =
    record {
      sized = rw (← rw add-zero at (f 0 (omega arith))) B.sized;
      spelled = λ i l. sym (rw (add_assoc b 1 i) (f (1 + i) (omega arith))) ∙ B.spelled i l;
    }

-- Twins.
not_both : (p q : Bool) → (p ≡ true → q ≡ true → ⊥) → one_if (p and q) ≡ 0
unfolding ◌and◌
not_both true true f = absurd (f refl refl)
not_both true false f = refl
not_both false q f = refl

both_one : (p q : Bool) → p ≡ true → q ≡ true → 1 ≤ one_if (p and q)
both_one p q e f = rw (and_both p q e f) (omega arith)

-- inactive entries have no twins
pub twins_off : (v : Bytes) (ss : List ℕ) → ((s : ℕ) → 1 ≤ count s ss → is_active (sort v s) ≡ false) → twins v ss ≡ 0
unfolding twins sum
twins_off v [] f = refl
twins_off v (s ∷ ss) f = rw (f s (omega (arith, is_self s)), twins) (twins_off v ss (λ t c. f t (omega arith)))

pub twins_append : (v : Bytes) (ss tt : List ℕ) → ((s : ℕ) → 1 ≤ count s tt → is_active (sort v s) ≡ false) → twins v (ss ++ tt) ≡ twins v ss
unfolding twins twins_of sum ◌and◌
twins_append v [] tt f = twins_off v tt f
twins_append v (s ∷ ss) tt f =
    let more : sum (λ t. one_if (is_active (sort v t) and alike v (at s) (at t))) tt ≡ 0 = sum_zero _ tt (λ t c. rw (f t c) refl) in
    let x : twins_of v s (ss ++ tt) ≡ twins_of v s ss = omega (arith, more, sum_append (λ t. one_if (is_active (sort v t) and alike v (at s) (at t))) ss tt) in
    let y = twins_append v ss tt f in
    λ i. elim (is_active (sort v s)) [ true ↦ x i + y i | false ↦ y i ]

-- two active entries with names that are alike
pub twins_two : (v : Bytes) (s t : ℕ) (ss : List ℕ) → (s ≡ t → ⊥) → 1 ≤ count s ss → 1 ≤ count t ss → is_active (sort v s) ≡ true
    → is_active (sort v t) ≡ true → alike v (at s) (at t) ≡ true → alike v (at t) (at s) ≡ true → 1 ≤ twins v ss
unfolding twins twins_of sum
twins_two v s t [] n c d e f g h = absurd (omega arith)
twins_two v s t (x ∷ ss) n c d e f g h = go (eqb s x) refl (eqb t x) refl (twins_two v s t ss n)
  where
    found : (y : ℕ) → is_active (sort v x) ≡ true → is_active (sort v y) ≡ true → alike v (at x) (at y) ≡ true → 1 ≤ count y ss
        → 1 ≤ elim (is_active (sort v x)) as (λ _. ℕ) [ true ↦ twins_of v x ss + twins v ss | false ↦ twins v ss ]
    found y i j k l =
        rw i
        (omega
        (arith, sum_mem (λ t. one_if (is_active (sort v t) and alike v (at x) (at t))) y ss l, both_one (is_active (sort v y)) (alike v (at x) (at y)) j k))

    more : 1 ≤ twins v ss → (b : Bool) → 1 ≤ elim b as (λ _. ℕ) [ true ↦ twins_of v x ss + twins v ss | false ↦ twins v ss ]
    more k true = omega arith
    more k false = k

    go : (b : Bool) → eqb s x ≡ b → (b' : Bool) → eqb t x ≡ b'
        → (1 ≤ count s ss → 1 ≤ count t ss → is_active (sort v s) ≡ true → is_active (sort v t) ≡ true → alike v (at s) (at t) ≡ true
        → alike v (at t) (at s) ≡ true → 1 ≤ twins v ss)
        → 1 ≤ elim (is_active (sort v x)) as (λ _. ℕ) [ true ↦ twins_of v x ss + twins v ss | false ↦ twins v ss ]
    go true p true q r = absurd (n (eqb-true s x p ∙ sym (eqb-true t x q)))
    go true p false q r =
        let i = eqb-true s x p in
        found t (rw (← i) e) f (rw (← i) g) (omega (arith, is_no t x (eqb-false t x q)))
    go false p true q r =
        let i = eqb-true t x q in
        found s (rw (← i) f) e (rw (← i) h) (omega (arith, is_no s x (eqb-false s x p)))
    go false p false q r =
        more (r (omega (arith, is_no s x (eqb-false s x p))) (omega (arith, is_no t x (eqb-false t x q))) e f g h) (is_active (sort v x))

-- one entry a of a list has another name, or none, and no other active entry has that
pub twins_change : (v v' : Bytes) (a : ℕ) (ss : List ℕ) → count a ss ≤ 1
    → ((t : ℕ) → 1 ≤ count t ss → (t ≡ a → ⊥) → (sort v' t ≡ sort v t) × Named v v' (at t))
    → ((t : ℕ) → 1 ≤ count t ss → (t ≡ a → ⊥) → is_active (sort v' a) ≡ true → is_active (sort v t) ≡ true
    → (alike v' (at a) (at t) ≡ true → ⊥) × (alike v' (at t) (at a) ≡ true → ⊥))
    → twins v ss ≡ 0 → twins v' ss ≡ 0
unfolding twins twins_of sum
twins_change v v' a [] once f g z = refl
twins_change v v' a (s ∷ ss) once f g z = go (eqb s a) refl (twins_change v v' a ss)
  where
    pick : (b : Bool) (x y : ℕ) → (b ≡ true → x ≡ 0) → y ≡ 0 → ◌≡◌ {A = ℕ} (elim b [ true ↦ x + y | false ↦ y ]) 0
    pick true x y p q = omega (arith, p refl)
    pick false x y p q = q

    parts : (b : Bool) (x y : ℕ) → ◌≡◌ {A = ℕ} (elim b [ true ↦ x + y | false ↦ y ]) 0 → (b ≡ true → x ≡ 0) × (y ≡ 0)
    parts true x y p = (λ _. omega arith, omega arith)
    parts false x y p = (λ q. absurd (false≢true q), p)

    old : (is_active (sort v s) ≡ true → twins_of v s ss ≡ 0) × (twins v ss ≡ 0)
    old = parts (is_active (sort v s)) (twins_of v s ss) (twins v ss) z

    go : (b : Bool) → eqb s a ≡ b
        → (count a ss ≤ 1 → ((t : ℕ) → 1 ≤ count t ss → (t ≡ a → ⊥) → (sort v' t ≡ sort v t) × Named v v' (at t))
        → ((t : ℕ) → 1 ≤ count t ss → (t ≡ a → ⊥) → is_active (sort v' a) ≡ true → is_active (sort v t) ≡ true
        → (alike v' (at a) (at t) ≡ true → ⊥) × (alike v' (at t) (at a) ≡ true → ⊥)) → twins v ss ≡ 0 → twins v' ss ≡ 0)
        → ◌≡◌ {A = ℕ} (elim (is_active (sort v' s)) [ true ↦ twins_of v' s ss + twins v' ss | false ↦ twins v' ss ]) 0
    go true e r =
        let i = eqb-true s a e in
        let gone : count a ss ≡ 0 = omega (arith, is_self a, ap (is a) i) in
        let far : (t : ℕ) → 1 ≤ count t ss → t ≡ a → ⊥ = λ t c q. omega (arith, rw q at c) in
        pick (is_active (sort v' s)) (twins_of v' s ss) (twins v' ss)
        (λ h.
        sum_zero _ ss (λ t c. not_both _ _ (λ p q.
        (g t (omega arith) (far t c) (rw (← i) h) (rw (← (f t (omega arith) (far t c)).0) p)).0 (rw (← i) q))))
        (twins_same v v' ss (λ t c. f t (omega arith) (far t c)) ∙ old.1)
    go false e r =
        let k = eqb-false s a e in
        let here = f s (omega (arith, is_self s)) k in
        pick (is_active (sort v' s)) (twins_of v' s ss) (twins v' ss)
        (λ h.
        let h' : is_active (sort v s) ≡ true = rw (← here.0) h in
        sum_zero _ ss (λ t c. each t c h' (eqb t a) refl here.1 (g s (omega (arith, is_self s)) k) (old.0 h')))
        (r (omega arith) (λ t c. f t (omega arith)) (λ t c. g t (omega arith)) old.1)
      where
        each : (t : ℕ) → 1 ≤ count t ss → is_active (sort v s) ≡ true → (b : Bool) → eqb t a ≡ b → Named v v' (at s)
            → (is_active (sort v' a) ≡ true → is_active (sort v s) ≡ true → (alike v' (at a) (at s) ≡ true → ⊥) × (alike v' (at s) (at a) ≡ true → ⊥))
            → twins_of v s ss ≡ 0 → one_if (is_active (sort v' t) and alike v' (at s) (at t)) ≡ 0
        each t c h true m n o z = let i = eqb-true t a m in rw i (not_both _ _ (λ p q. (o p h).1 q))
        each t c h false m n o z =
            let there = f t (omega arith) (eqb-false t a m) in
            rw (there.0, alike_same v v' (at s) (at t) n there.1)
            (omega (arith, sum_mem (λ t. one_if (is_active (sort v t) and alike v (at s) (at t))) t ss c))
