-- How the cursor's steps run through the parts of a path. Assumes nothing.
use mathlib.Core.Path.{◌≡◌, refl, sym, ◌∙◌}
use mathlib.Core.Bool.{Bool, true, false}
use mathlib.Core.List.{List, [], ◌∷◌}
use Prim.Native.Nat.{ℕ, zero, suc, ◌+◌, ◌-◌, ◌*◌, ◌≤◌, ◌<◌}
use lib.ListN.{length, get_or}
use lib.Dec.{eqb, ltb}
use native.Mathlib.Omega.{arith}
use borrow.Author.Tests.{eqb-true, eqb-false, ltb-true, ltb-false, lt-ltb, le-ltb}
use Rattle.model.specs.Bytes.{Bytes, ◌and◌}
use Rattle.model.specs.Names.{slash, name_most, path_most, name_end, proper_name, Part, part, parts_from, parts, proper_parts, proper_path}
use Rattle.names.specs.declared.Cursor.{Cursor}
use Rattle.names.specs.declared.Step.TheVariants.{Name, End, Bad}
use Rattle.names.specs.Steps.{found, step_end, proper_step, step_at, parts_left, last_part, last_start}
pub use Rattle.model.proofs.Laws.Lookup.{name_some as name_size_law}
use Rattle.model.proofs.ByteLaws.{place_here, place_more, place_from, place_upto}
use Rattle.names.proofs.Laws.{and_left, and_right, within_true, last_here, last_more}

never : {A : Type 0} → true ≡ false → A
never e = let z : ◌≡◌ {A = ℕ} 0 1 = cc in absurd (let w : ⊥ = omega arith in w)

module _ (p : Bytes) (n a : ℕ) where
  pub step_end_law : n ≤ a → step_at p n a ≡ End
  unfolding step_at
  step_end_law h = rw (le-ltb a n h, step_at)

  pub step_name : a < n → proper_step p n a ≡ true → step_at p n a ≡ found (a + 1) (step_end p n a)
  unfolding step_at
  step_name h e = rw (lt-ltb a n h, e, step_at)

  pub step_bad : a < n → proper_step p n a ≡ false → step_at p n a ≡ Bad
  unfolding step_at
  step_bad h e = rw (lt-ltb a n h, e, step_at)

  -- a step goes on by a byte at least, and not past the end
  pub step_after : a + 1 ≤ step_end p n a
  step_after = place_from p slash (a + 1) (n - (a + 1))

  pub step_fits : a < n → step_end p n a ≤ n
  step_fits h = let t : step_end p n a ≤ a + 1 + (n - (a + 1)) = place_upto p slash (a + 1) (n - (a + 1)) in omega arith

  pub parts_more : (k : ℕ) → a < n → parts_from p n a (suc k) ≡ part (a + 1) (step_end p n a - (a + 1)) ∷ parts_from p n (step_end p n a) k
  unfolding parts_from
  parts_more k h = rw (lt-ltb a n h, parts_from)

  pub parts_done : (k : ℕ) → n ≤ a → parts_from p n a k ≡ []
  unfolding parts_from
  parts_done zero h = refl
  parts_done (suc k) h = rw (le-ltb a n h, parts_from)

  pub proper_good : (xs : List Part) → proper_step p n a ≡ true → proper_parts p (part (a + 1) (step_end p n a - (a + 1)) ∷ xs) ≡ proper_parts p xs
  unfolding proper_parts proper_step
  proper_good xs e = let x : a + 1 - 1 ≡ a = omega arith in rw (x, e, proper_parts)

  pub proper_bad : (xs : List Part) → proper_step p n a ≡ false → proper_parts p (part (a + 1) (step_end p n a - (a + 1)) ∷ xs) ≡ false
  unfolding proper_parts proper_step
  proper_bad xs e = let x : a + 1 - 1 ≡ a = omega arith in rw (x, e, proper_parts)

-- what a step that found a name from s to e says
pub record Stepped (p : Bytes) (n a s e : ℕ) (c : Cursor) : Type 0 where
  pub before : a < n
  pub start : s ≡ a + 1
  pub stop : e ≡ step_end p n a
  pub next : c.at ≡ e
  pub proper : proper_step p n a ≡ true

module _ (p : Bytes) (n a : ℕ) where
  found_by : (s e : ℕ) (c : Cursor) (x y : Bool) → ltb a n ≡ x → proper_step p n a ≡ y → step_at p n a ≡ Name s e c → Stepped p n a s e c
  found_by s e c false y u v h =
      let w : End ≡ Name s e c = sym (step_end_law p n a (ltb-false _ _ u)) ∙ h in
      let z : ◌≡◌ {A = ℕ} 0 1 = cc in
      absurd (let i : ⊥ = omega arith in i)
  found_by s e c true false u v h =
      let w : Bad ≡ Name s e c = sym (step_bad p n a (ltb-true _ _ u) v) ∙ h in
      let z : ◌≡◌ {A = ℕ} 0 1 = cc in
      absurd (let i : ⊥ = omega arith in i)
  found_by s e c true true u v h =
      let w : found (a + 1) (step_end p n a) ≡ Name s e c = sym (step_name p n a (ltb-true _ _ u) v) ∙ h in
      record { before = ltb-true _ _ u; start = cc; stop = cc; next = cc; proper = v }

  pub step_found : (s e : ℕ) (c : Cursor) → step_at p n a ≡ Name s e c → Stepped p n a s e c
  step_found s e c h = found_by s e c (ltb a n) (proper_step p n a) refl refl h

  ends_by : (x y : Bool) → ltb a n ≡ x → proper_step p n a ≡ y → step_at p n a ≡ End → n ≤ a
  ends_by false y u v h = ltb-false _ _ u
  ends_by true false u v h =
      let w : Bad ≡ End = sym (step_bad p n a (ltb-true _ _ u) v) ∙ h in
      let z : ◌≡◌ {A = ℕ} 0 1 = cc in
      omega arith
  ends_by true true u v h =
      let w : found (a + 1) (step_end p n a) ≡ End = sym (step_name p n a (ltb-true _ _ u) v) ∙ h in
      let z : ◌≡◌ {A = ℕ} 0 1 = cc in
      omega arith

  pub step_ends : step_at p n a ≡ End → n ≤ a
  step_ends h = ends_by (ltb a n) (proper_step p n a) refl refl h

  fails_by : (x y : Bool) → ltb a n ≡ x → proper_step p n a ≡ y → step_at p n a ≡ Bad → (a < n) × (proper_step p n a ≡ false)
  fails_by false y u v h =
      let w : End ≡ Bad = sym (step_end_law p n a (ltb-false _ _ u)) ∙ h in
      let z : ◌≡◌ {A = ℕ} 0 1 = cc in
      absurd (let i : ⊥ = omega arith in i)
  fails_by true false u v h = (ltb-true _ _ u, v)
  fails_by true true u v h =
      let w : found (a + 1) (step_end p n a) ≡ Bad = sym (step_name p n a (ltb-true _ _ u) v) ∙ h in
      let z : ◌≡◌ {A = ℕ} 0 1 = cc in
      absurd (let i : ⊥ = omega arith in i)

  pub step_fails : step_at p n a ≡ Bad → (a < n) × (proper_step p n a ≡ false)
  step_fails h = fails_by (ltb a n) (proper_step p n a) refl refl h

-- the fuel does not matter where there is enough
module _ (p : Bytes) (n : ℕ) where
  fuel_by : (a k m : ℕ) (b : Bool) → ltb a n ≡ b
      → parts_from p n (step_end p n a) k ≡ parts_from p n (step_end p n a) m
      → parts_from p n a (suc k) ≡ parts_from p n a (suc m)
  fuel_by a k m true e h = rw (parts_more p n a k (ltb-true _ _ e), parts_more p n a m (ltb-true _ _ e), h)
  fuel_by a k m false e h = rw (parts_done p n a (suc k) (ltb-false _ _ e), parts_done p n a (suc m) (ltb-false _ _ e))

  pub fuel : (a k m : ℕ) → n - a ≤ k → n - a ≤ m → parts_from p n a k ≡ parts_from p n a m
  fuel a zero m h g = parts_done p n a zero (omega arith) ∙ sym (parts_done p n a m (omega arith))
  fuel a (suc k) zero h g = parts_done p n a (suc k) (omega arith) ∙ sym (parts_done p n a zero (omega arith))
  fuel a (suc k) (suc m) h g =
      let s : a + 1 ≤ step_end p n a = step_after p n a in
      fuel_by a k m (ltb a n) refl (fuel (step_end p n a) k m (omega arith) (omega arith))

  pub left_start : parts p n ≡ parts_left p n 0
  unfolding parts
  left_start = let e : n - 0 ≡ n = omega arith in rw e

  pub left_done : (a : ℕ) → n ≤ a → parts_left p n a ≡ []
  left_done a h = parts_done p n a (n - a) h

  pub left_more : (a : ℕ) → a < n → parts_left p n a ≡ part (a + 1) (step_end p n a - (a + 1)) ∷ parts_left p n (step_end p n a)
  left_more a h =
      let s : a + 1 ≤ step_end p n a = step_after p n a in
      let e : n - a ≡ suc (n - (a + 1)) = omega arith in
      let f : parts_from p n (step_end p n a) (n - (a + 1)) ≡ parts_left p n (step_end p n a) = fuel (step_end p n a) (n - (a + 1)) (n - step_end p n a) (omega arith) (omega arith) in
      rw (e, parts_more p n a (n - (a + 1)) h, f)

-- what a proper name, a proper step and a proper list of parts are made of
module _ (p : Bytes) (n a : ℕ) (h : proper_step p n a ≡ true) where
  pub step_slash : p a ≡ slash
  unfolding proper_step
  step_slash = eqb-true _ _ (and_left _ _ h)

  pub step_proper : proper_name p (a + 1) (step_end p n a - (a + 1)) ≡ true
  unfolding proper_step
  step_proper = and_right _ _ h

  pub step_size : (1 ≤ step_end p n a - (a + 1)) × (step_end p n a - (a + 1) ≤ name_most)
  step_size = name_size_law p (a + 1) (step_end p n a - (a + 1)) step_proper

module _ (p : Bytes) (x : Part) (xs : List Part) where
  head_by : (b : Bool) → (eqb (p (x.start - 1)) slash and proper_name p x.start x.size) ≡ b → proper_parts p (x ∷ xs) ≡ true
      → ((eqb (p (x.start - 1)) slash and proper_name p x.start x.size) ≡ true) × (proper_parts p xs ≡ true)
  unfolding proper_parts
  head_by true e h = (e, rw (e, proper_parts) at h)
  head_by false e h = never (sym (rw (e, proper_parts) at h))

  pub proper_head : proper_parts p (x ∷ xs) ≡ true → (p (x.start - 1) ≡ slash) × (proper_name p x.start x.size ≡ true)
  proper_head h =
      let t = (head_by (eqb (p (x.start - 1)) slash and proper_name p x.start x.size) refl h).0 in
      (eqb-true _ _ (and_left _ _ t), and_right _ _ t)

  pub proper_tail : proper_parts p (x ∷ xs) ≡ true → proper_parts p xs ≡ true
  proper_tail h = (head_by (eqb (p (x.start - 1)) slash and proper_name p x.start x.size) refl h).1

-- each part of a proper list has a proper name, behind a slash
pub proper_each : (p : Bytes) (xs : List Part) (x : Part) (i : ℕ) → proper_parts p xs ≡ true → i < length xs
    → (p ((get_or xs i x).start - 1) ≡ slash) × (proper_name p (get_or xs i x).start (get_or xs i x).size ≡ true)
proper_each p [] x i h l = absurd (let w : ⊥ = omega arith in w)
proper_each p (y ∷ ys) x zero h l = proper_head p y ys h
proper_each p (y ∷ ys) x (suc i) h l = proper_each p ys x i (proper_tail p y ys h) (omega arith)

-- where a list of parts that begins with the step's is proper, so is the step
module _ (p : Bytes) (n a : ℕ) (xs : List Part) where
  first_by : (b : Bool) → proper_step p n a ≡ b → proper_parts p (part (a + 1) (step_end p n a - (a + 1)) ∷ xs) ≡ true → proper_step p n a ≡ true
  first_by true e h = e
  first_by false e h = never (sym h ∙ proper_bad p n a xs e)

  pub first_proper : proper_parts p (part (a + 1) (step_end p n a - (a + 1)) ∷ xs) ≡ true → proper_step p n a ≡ true
  first_proper h = first_by (proper_step p n a) refl h

-- where the parts from a on are proper, the step finds the first of them and leaves the others
module _ (p : Bytes) (n a : ℕ) (here : a < n) where
  pub parts_proper : (k : ℕ) → proper_parts p (parts_from p n a (suc k)) ≡ true → proper_step p n a ≡ true
  parts_proper k h = first_proper p n a _ (rw (parts_more p n a k here) at h)

  pub parts_name : (k : ℕ) → proper_parts p (parts_from p n a (suc k)) ≡ true → step_at p n a ≡ found (a + 1) (step_end p n a)
  parts_name k h = step_name p n a here (parts_proper k h)

  pub left_proper : proper_parts p (parts_left p n a) ≡ true → proper_step p n a ≡ true
  left_proper h = first_proper p n a _ (rw (left_more p n a here) at h)

  pub left_name : proper_parts p (parts_left p n a) ≡ true → step_at p n a ≡ found (a + 1) (step_end p n a)
  left_name h = step_name p n a here (left_proper h)

  pub left_good : proper_step p n a ≡ true → proper_parts p (parts_left p n a) ≡ proper_parts p (parts_left p n (step_end p n a))
  left_good e = rw (left_more p n a here) (proper_good p n a _ e)

  pub left_bad : proper_step p n a ≡ false → proper_parts p (parts_left p n a) ≡ false
  left_bad e = rw (left_more p n a here) (proper_bad p n a _ e)

  pub left_rest : proper_parts p (parts_left p n a) ≡ true → proper_parts p (parts_left p n (step_end p n a)) ≡ true
  left_rest h = sym (left_good (left_proper h)) ∙ h

-- what a caller of the cursor knows when it holds a name
module _ (p : Bytes) (n a s e : ℕ) (c : Cursor) (w : Stepped p n a s e c) where
  pub stepped_bounds : (a + 2 ≤ e) × (e ≤ n)
  stepped_bounds =
      let t = step_size p n a w.proper in
      let u = step_fits p n a w.before in
      let x : e ≡ step_end p n a = w.stop in
      (omega arith, omega arith)

  pub stepped_name : (p a ≡ slash) × (proper_name p s (e - s) ≡ true)
  stepped_name = (step_slash p n a w.proper, rw (w.start, w.stop) (step_proper p n a w.proper))

  pub stepped_parts : (k : ℕ) → parts_from p n a (suc k) ≡ part s (e - s) ∷ parts_from p n e k
  stepped_parts k = rw (w.start, w.stop) (parts_more p n a k w.before)

  pub stepped_left : parts_left p n a ≡ part s (e - s) ∷ parts_left p n e
  stepped_left = rw (w.start, w.stop) (left_more p n a w.before)

  pub stepped_proper : proper_parts p (parts_left p n a) ≡ proper_parts p (parts_left p n e)
  stepped_proper = rw w.stop (left_good p n a w.before w.proper)

-- a name takes two bytes at least
module _ (p : Bytes) (n : ℕ) where
  most_by : (a k : ℕ) (b : Bool) → ltb a n ≡ b → proper_parts p (parts_left p n a) ≡ true
      → (proper_parts p (parts_left p n (step_end p n a)) ≡ true → 2 * length (parts_left p n (step_end p n a)) ≤ n - step_end p n a)
      → 2 * length (parts_left p n a) ≤ n - a
  most_by a k true e h f =
      let l : a < n = ltb-true _ _ e in
      let t = step_size p n a (left_proper p n a l h) in
      let u = step_fits p n a l in
      let r = f (left_rest p n a l h) in
      rw (left_more p n a l) (omega arith)
  most_by a k false e h f = rw (left_done p n a (ltb-false _ _ e)) (omega arith)

  most : (k a : ℕ) → n - a ≤ k → proper_parts p (parts_left p n a) ≡ true → 2 * length (parts_left p n a) ≤ n - a
  most zero a l h = rw (left_done p n a (omega arith)) (omega arith)
  most (suc k) a l h =
      let s : a + 1 ≤ step_end p n a = step_after p n a in
      most_by a k (ltb a n) refl h (λ g. most k (step_end p n a) (omega arith) g)

  pub left_most : (a : ℕ) → proper_parts p (parts_left p n a) ≡ true → 2 * length (parts_left p n a) ≤ n - a
  left_most a h = most (n - a) a (omega arith) h

-- where no slash stands in k bytes from b on, the last name begins where it did before them
module _ (p : Bytes) where
  same_by : (b k : ℕ) (t : Bool) → eqb (p b) slash ≡ t → name_end p b (suc k) ≡ b + suc k
      → (name_end p (b + 1) k ≡ b + 1 + k → last_start p (b + 1 + k) ≡ last_start p (b + 1))
      → last_start p (b + suc k) ≡ last_start p b
  same_by b k true e h f =
      let x : name_end p b (suc k) ≡ b = place_here p slash b (suc k) (eqb-true _ _ e) in
      absurd (let w : ⊥ = omega arith in w)
  same_by b k false e h f =
      let x : name_end p b (suc k) ≡ name_end p (b + 1) k = place_more p slash b (suc k) k refl (eqb-false _ _ e) in
      let y : b + suc k ≡ b + 1 + k = omega arith in
      rw y (f (omega arith) ∙ last_more p (b + 1) b (omega arith) (eqb-false _ _ e))

  pub last_same : (b k : ℕ) → name_end p b k ≡ b + k → last_start p (b + k) ≡ last_start p b
  last_same b zero h = let y : b + 0 ≡ b = omega arith in rw y
  last_same b (suc k) h = same_by b k (eqb (p b) slash) refl h (λ g. last_same (b + 1) k g)

  -- the step that ends with the path has found the last name
  pub last_step : (n a : ℕ) → a < n → proper_step p n a ≡ true → step_end p n a ≡ n → last_start p n ≡ a + 1
  last_step n a l h e =
      let y : a + 1 + (n - (a + 1)) ≡ n = omega arith in
      let z : name_end p (a + 1) (n - (a + 1)) ≡ a + 1 + (n - (a + 1)) = e ∙ sym y in
      (rw y at (last_same (a + 1) (n - (a + 1)) z)) ∙ last_here p (a + 1) a (omega arith) (step_slash p n a h)

-- the last part of a proper path
module _ (p : Bytes) (n : ℕ) where
  last_by : (a : ℕ) (x : Part) (b : Bool) → a < n → ltb (step_end p n a) n ≡ b → proper_parts p (parts_left p n a) ≡ true
      → (step_end p n a < n → (y : Part) → last_part y (parts_left p n (step_end p n a)) ≡ part (last_start p n) (n - last_start p n))
      → last_part x (parts_left p n a) ≡ part (last_start p n) (n - last_start p n)
  unfolding last_part
  last_by a x true l e h f = rw (left_more p n a l) (f (ltb-true _ _ e) _)
  last_by a x false l e h f =
      let u : n ≤ step_end p n a = ltb-false _ _ e in
      let v = step_fits p n a l in
      let w : step_end p n a ≡ n = omega arith in
      let s : last_start p n ≡ a + 1 = last_step p n a l (left_proper p n a l h) w in
      rw (left_more p n a l, left_done p n (step_end p n a) u, s, w)

  last_of_law : (k a : ℕ) (x : Part) → n - a ≤ k → a < n → proper_parts p (parts_left p n a) ≡ true
      → last_part x (parts_left p n a) ≡ part (last_start p n) (n - last_start p n)
  last_of_law zero a x m l h = absurd (let w : ⊥ = omega arith in w)
  last_of_law (suc k) a x m l h =
      let s : a + 1 ≤ step_end p n a = step_after p n a in
      last_by a x (ltb (step_end p n a) n) l refl h (λ g y. last_of_law k (step_end p n a) y (omega arith) g (left_rest p n a l h))

  pub left_last : (a : ℕ) (x : Part) → a < n → proper_parts p (parts_left p n a) ≡ true
      → last_part x (parts_left p n a) ≡ part (last_start p n) (n - last_start p n)
  left_last a x l h = last_of_law (n - a) a x (omega arith) l h

pub last_proper : (p : Bytes) (x : Part) (xs : List Part) → proper_name p x.start x.size ≡ true → proper_parts p xs ≡ true
    → proper_name p (last_part x xs).start (last_part x xs).size ≡ true
unfolding last_part
last_proper p x [] h g = h
last_proper p x (y ∷ ys) h g = last_proper p y ys (proper_head p y ys g).1 (proper_tail p y ys g)

-- a proper path of n bytes
module _ (p : Bytes) (n : ℕ) (proper : proper_path p n ≡ true) where
  pub path_size : (1 ≤ n) × (n ≤ path_most)
  unfolding proper_path
  path_size = within_true 1 path_most n (and_left _ _ proper)

  pub path_parts : proper_parts p (parts p n) ≡ true
  unfolding proper_path
  path_parts = and_right _ _ proper

  pub path_left : proper_parts p (parts_left p n 0) ≡ true
  path_left = rw (← left_start p n) path_parts

  pub path_first : parts p n ≡ part 1 (step_end p n 0 - 1) ∷ parts_left p n (step_end p n 0)
  path_first = left_start p n ∙ left_more p n 0 path_size.0

  pub path_some : 1 ≤ length (parts p n)
  path_some = rw path_first (omega arith)

  pub path_most_law : 2 * length (parts p n) ≤ n
  path_most_law = let m = left_most p n 0 path_left in rw (left_start p n) (omega arith)

  pub path_each : (x : Part) (i : ℕ) → i < length (parts p n) → (1 ≤ (get_or (parts p n) i x).size) × ((get_or (parts p n) i x).size ≤ name_most)
  path_each x i l = name_size_law p _ _ (proper_each p (parts p n) x i path_parts l).1

  pub path_last : (x : Part) → last_part x (parts p n) ≡ part (last_start p n) (n - last_start p n)
  path_last x = rw (left_start p n) (left_last p n 0 x path_size.0 path_left)

  -- so the last name, which a call stores, is a proper name
  pub path_last_name : proper_name p (last_start p n) (n - last_start p n) ≡ true
  unfolding last_part
  path_last_name =
      let l = path_size.0 in
      let x = part 1 (step_end p n 0 - 1) in
      let e : last_part x (x ∷ parts_left p n (step_end p n 0)) ≡ part (last_start p n) (n - last_start p n) = rw path_first at (path_last x) in
      rw e at (last_proper p x (parts_left p n (step_end p n 0)) (step_proper p n 0 (left_proper p n 0 l path_left)) (left_rest p n 0 l path_left))
