-- A slot or a name that is lent as a part is tested as it is where it stands in the whole. Assumes nothing.
use mathlib.Core.Path.{◌≡◌, refl, sym, ap, ◌∙◌}
use mathlib.Core.Bool.{Bool, true, false}
use mathlib.Core.List.{List}
use Prim.Native.Nat.{ℕ, zero, suc, ◌+◌, ◌-◌, ◌≤◌, ◌<◌}
use lib.Dec.{eqb}
use lib.ListN.{length, get_or, take, drop, length-drop}
use lib.Seq.{get_or-take, get_or-drop, length-take-le}
use native.Mathlib.Omega.{arith}
use borrow.Author.Tests.{eqb-true}
use Rattle.model.specs.Bytes.{Bytes, view, equal_bytes, ◌and◌, within}
use Rattle.model.specs.Names.{capital, capitals, name_byte, name_bytes, proper_name, name_size, Part, part, capital_name, same_name, alike}
use Rattle.std.specs.Bool.{MatchBool}
use Rattle.model.proofs.ByteLaws.{equal_all, equal_not}
use Rattle.names.specs.Steps.{alike_names}
use Rattle.names.proofs.Laws.{bytes_each, bytes_not}

-- the k bytes of f from a on are those of g from b on
abbrev pub SameRun : ℕ → Bytes → ℕ → Bytes → ℕ → Type 0
SameRun k f a g b = (i : ℕ) → i < k → f (a + i) ≡ g (b + i)

-- what is read of a part that was lent
part_byte : (xs : List ℕ) (a k i : ℕ) → i < k → get_or (take k (drop a xs)) i 0 ≡ get_or xs (a + i) 0
part_byte xs a k i l = get_or-take k (drop a xs) i 0 l ∙ get_or-drop a xs i 0

pub part_run : (xs : List ℕ) (a k : ℕ) → SameRun k (view (take k (drop a xs))) 0 (view xs) a
part_run xs a k i l = let e : 0 + i ≡ i = omega arith in rw e (part_byte xs a k i l)

pub drop_run : (xs : List ℕ) (a k : ℕ) → SameRun k (view (drop a xs)) 0 (view xs) a
drop_run xs a k i l = let e : 0 + i ≡ i = omega arith in rw e (get_or-drop a xs i 0)

module _ (f g : Bytes) (a b k : ℕ) (h : SameRun (suc k) f a g b) where
  run_here : f a ≡ g b
  run_here =
      let x : a + 0 ≡ a = omega arith in
      let y : b + 0 ≡ b = omega arith in
      rw (x, y) at (h 0 (omega arith))

  run_next : SameRun k f (a + 1) g (b + 1)
  run_next i l =
      let x : a + 1 + i ≡ a + (i + 1) = omega arith in
      let y : b + 1 + i ≡ b + (i + 1) = omega arith in
      rw (x, y) (h (i + 1) (omega arith))

-- a run within a run
pub run_in_law : (f g : Bytes) (a b k c m : ℕ) → c + m ≤ k → SameRun k f a g b → SameRun m f (a + c) g (b + c)
run_in_law f g a b k c m l h i j =
    let x : a + c + i ≡ a + (c + i) = omega arith in
    let y : b + c + i ≡ b + (c + i) = omega arith in
    rw (x, y) (h (c + i) (omega arith))

module _ (f f' g g' : Bytes) (a a' b b' k : ℕ) (p : f a ≡ f' a') (q : g b ≡ g' b') where
  equal_by : (t : Bool) → eqb (f' a') (g' b') ≡ t → equal_bytes f (a + 1) g (b + 1) k ≡ equal_bytes f' (a' + 1) g' (b' + 1) k
      → equal_bytes f a g b (suc k) ≡ equal_bytes f' a' g' b' (suc k)
  unfolding equal_bytes
  equal_by true e h = rw (p, q, e, equal_bytes) h
  equal_by false e h = rw (p, q, e, equal_bytes)

pub equal_run : (f f' g g' : Bytes) (a a' b b' k : ℕ) → SameRun k f a f' a' → SameRun k g b g' b'
    → equal_bytes f a g b k ≡ equal_bytes f' a' g' b' k
unfolding equal_bytes
equal_run f f' g g' a a' b b' zero p q = refl
equal_run f f' g g' a a' b b' (suc k) p q =
    equal_by f f' g g' a a' b b' k (run_here f f' a a' k p) (run_here g g' b b' k q) (eqb (f' a') (g' b')) refl
    (equal_run f f' g g' (a + 1) (a' + 1) (b + 1) (b' + 1) k (run_next f f' a a' k p) (run_next g g' b b' k q))

module _ (f g : Bytes) (a b k : ℕ) (p : f a ≡ g b) where
  bytes_by : (t : Bool) → name_byte (g b) ≡ t → name_bytes f (a + 1) k ≡ name_bytes g (b + 1) k → name_bytes f a (suc k) ≡ name_bytes g b (suc k)
  unfolding name_bytes
  bytes_by true e h = rw (p, e, name_bytes) h
  bytes_by false e h = rw (p, e, name_bytes)

pub bytes_run : (f g : Bytes) (a b k : ℕ) → SameRun k f a g b → name_bytes f a k ≡ name_bytes g b k
unfolding name_bytes
bytes_run f g a b zero h = refl
bytes_run f g a b (suc k) h =
    bytes_by f g a b k (run_here f g a b k h) (name_byte (g b)) refl (bytes_run f g (a + 1) (b + 1) k (run_next f g a b k h))

pub proper_run : (f g : Bytes) (a b k : ℕ) → SameRun k f a g b → proper_name f a k ≡ proper_name g b k
unfolding proper_name within ◌and◌
proper_run f g a b zero h = refl
proper_run f g a b (suc k) h = rw (run_here f g a b k h, bytes_run f g a b (suc k) h)

-- What a look at each byte of a part, or of two parts of one size, has found is the test of the run in the whole.
module _ (xs : List ℕ) (a k : ℕ) where
  pub bytes_decided : (r : Bool)
      → MatchBool r ((i : ℕ) → i < k → true ≡ name_byte (get_or (take k (drop a xs)) i 0)) ((i : ℕ) × (i < k) × (false ≡ name_byte (get_or (take k (drop a xs)) i 0)))
      → r ≡ name_bytes (view xs) a k
  bytes_decided true h = sym (bytes_each (view xs) a k (λ i l. h i l ∙ ap name_byte (part_byte xs a k i l)))
  bytes_decided false h = sym (bytes_not (view xs) a k h.0 h.1 (h.2 ∙ ap name_byte (part_byte xs a k h.0 h.1)))

  pub capitals_decided : (ys : List ℕ) (b : ℕ) (r : Bool)
      → MatchBool r ((i : ℕ) → i < k → get_or (take k (drop a xs)) i 0 ≡ capital (get_or (take k (drop b ys)) i 0)) ((i : ℕ) × (i < k) × (get_or (take k (drop a xs)) i 0 ≡ capital (get_or (take k (drop b ys)) i 0) → ⊥))
      → r ≡ equal_bytes (view xs) a (capitals (view ys)) b k
  capitals_decided ys b true h =
      sym (equal_all (view xs) a (capitals (view ys)) b k (λ i l. sym (part_byte xs a k i l) ∙ h i l ∙ ap capital (part_byte ys b k i l)))
  capitals_decided ys b false h =
      sym (equal_not (view xs) a (capitals (view ys)) b k h.0 h.1 (λ e. h.2 (part_byte xs a k h.0 h.1 ∙ e ∙ ap capital (sym (part_byte ys b k h.0 h.1)))))

-- a name of k bytes, which stands from s on in the path p
module _ (f p : Bytes) (s k : ℕ) (lent : SameRun k f 0 p s) where
  pub part_proper : proper_name f 0 k ≡ proper_name p s k
  part_proper = proper_run f p 0 s k lent

  pub part_same : (v : Bytes) (a : ℕ) → same_name v a f (part 0 k) ≡ same_name v a p (part s k)
  unfolding same_name
  part_same v a =
      ap (λ t. eqb (name_size v a) k and t)
      (equal_run v v (capitals f) (capitals p) (a + 1) (a + 1) 0 s k (λ i l. refl) (λ i l. ap capital (lent i l)))

-- a slot of 39 bytes, which stands from o on in the image v
module _ (f v : Bytes) (o : ℕ) (lent : SameRun 39 f 0 v o) where
  slot_byte : f 0 ≡ v o
  slot_byte = run_here f v 0 o 38 lent

  slot_name : (k : ℕ) → k < 16 → SameRun k f 1 v (o + 1)
  slot_name k l = run_in_law f v 0 o 39 1 k (omega arith) lent

  pub slot_capital : capital_name f 0 ≡ capital_name v o
  unfolding capital_name
  slot_capital =
      let r = slot_name (name_size v o) (omega arith) in
      rw (slot_byte, proper_run f v 1 (o + 1) (name_size v o) r, equal_run f v (capitals f) (capitals v) 1 (o + 1) 1 (o + 1) (name_size v o) r (λ i l. ap capital (r i l)))

  same_by : (p : Bytes) (x : Part) (b : Bool) → eqb (name_size v o) x.size ≡ b → same_name f 0 p x ≡ same_name v o p x
  unfolding same_name ◌and◌
  same_by p x true e =
      let w : name_size v o ≡ x.size = eqb-true _ _ e in
      rw (slot_byte, e, equal_run f v (capitals p) (capitals p) 1 (o + 1) x.start x.start x.size (slot_name x.size (omega arith)) (λ i l. refl))
  same_by p x false e = rw (slot_byte, e)

  pub slot_same : (p : Bytes) (x : Part) → same_name f 0 p x ≡ same_name v o p x
  slot_same p x = same_by p x (eqb (name_size v o) x.size) refl

pub slots_alike : (f g v : Bytes) (a b : ℕ) → SameRun 39 f 0 v a → SameRun 39 g 0 v b → alike_names f g ≡ alike v a b
unfolding alike_names alike
slots_alike f g v a b p q =
    let l : name_size v a < 16 = omega arith in
    rw (slot_byte f v a p, slot_byte g v b q, equal_run f v g v 1 (a + 1) 1 (b + 1) (name_size v a) (slot_name f v a p (name_size v a) l) (slot_name g v b q (name_size v a) l))

-- the name from s up to e of a path, and the rest of a path from s on, compared with a stored name
module _ (v : Bytes) (a : ℕ) (xs : List ℕ) (s : ℕ) where
  pub same_at : (e : ℕ) → s ≤ e → e ≤ length xs
      → same_name v a (view (take (e - s) (drop s xs))) (part 0 (length (take (e - s) (drop s xs)))) ≡ same_name v a (view xs) (part s (e - s))
  same_at e l m =
      let n : length (take (e - s) (drop s xs)) ≡ e - s = length-take-le (e - s) (drop s xs) (simp length-drop (omega arith)) in
      ap (λ k. same_name v a (view (take (e - s) (drop s xs))) (part 0 k)) n
      ∙ part_same (view (take (e - s) (drop s xs))) (view xs) s (e - s) (part_run xs s (e - s)) v a

  pub same_last : same_name v a (view (drop s xs)) (part 0 (length (drop s xs))) ≡ same_name v a (view xs) (part s (length xs - s))
  same_last =
      ap (λ k. same_name v a (view (drop s xs)) (part 0 k)) (length-drop s xs)
      ∙ part_same (view (drop s xs)) (view xs) s (length xs - s) (drop_run xs s (length xs - s)) v a
