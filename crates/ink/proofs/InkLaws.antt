-- Texts emitted one after the other are emitted as one, and what a page then shows. Assumes nothing.
use Prim.Native.Nat.{ℕ, zero, suc, ◌+◌, ◌-◌, ◌≤◌, ◌<◌, min}
use mathlib.Core.Path.{◌≡◌, refl, sym, ap, ◌∙◌}
use mathlib.Core.List.{List, [], ◌∷◌, ◌++◌}
use mathlib.Core.Bool.{Bool, true, false}
use native.Mathlib.Omega.{arith}
use lib.Dec.{ltb}
use lib.ListN.{length, set, length-set}
use borrow.Author.Tests.{ltb-true, ltb-false, lt-ltb, le-ltb}
use Rattle.model.specs.Bytes.{Bytes, view, put, paste, from}
use Rattle.model.proofs.ByteLaws.{view_set, paste_by, paste_none, paste_cong, paste_at, paste_out, put_at, put_off}
use Rattle.ink.specs.Ink.{Sheet, sheet, inked, emit, Prints, Shows}
use Rattle.ink.specs.declared.Ink.{Ink}

-- a text in two parts
pub emit_append : (xs ys : List ℕ) (s : Sheet) → emit (xs ++ ys) s ≡ emit ys (emit xs s)
unfolding emit
emit_append [] ys s = refl
emit_append (x ∷ xs) ys s = emit_append xs ys (inked x s)

pub prints_none : {s : Sheet} → Prints [] s s
unfolding emit
prints_none = record { same = refl }

infixr 20 ◌then◌
pub ◌then◌ : {xs ys : List ℕ} {s t u : Sheet} → Prints xs s t → Prints ys t u → Prints (xs ++ ys) s u
◌then◌ {xs} {ys} {s} {t} {u} p q = record { same = q.same ∙ ap (emit ys) p.same ∙ sym (emit_append xs ys s) }

-- a text by another name
pub prints_as : {xs ys : List ℕ} {s t : Sheet} → xs ≡ ys → Prints xs s t → Prints ys s t
prints_as {s = s} e p = record { same = p.same ∙ ap (λ l. emit l s) e }

pub byte_as : {x y : ℕ} {s t : Sheet} → x ≡ y → Prints (x ∷ []) s t → Prints (y ∷ []) s t
byte_as e p = prints_as (ap (λ z. z ∷ []) e) p

-- In a loop: what is left to emit, once its first part is emitted, and at the end.
pub emit_rest : {xs : List ℕ} {s t : Sheet} (ys zs : List ℕ) (w : Sheet) → zs ≡ xs ++ ys → Prints xs s t → emit zs s ≡ w → emit ys t ≡ w
emit_rest {xs} {s} ys zs w e p h = ap (emit ys) p.same ∙ sym (emit_append xs ys s) ∙ ap (λ l. emit l s) (sym e) ∙ h

pub emit_done : (zs all : List ℕ) (s s₀ : Sheet) → zs ≡ [] → emit zs s ≡ emit all s₀ → Prints all s₀ s
unfolding emit
emit_done zs all s s₀ e h = record { same = ap (λ l. emit l s) (sym e) ∙ h }

-- One byte: skipped, laid on the page, or past its end.
module _ (k a x : ℕ) (page : List ℕ) where
  pub byte_skipped : 0 < k → Prints (x ∷ []) (sheet (record { skip = k; at = a }) page) (sheet (record { skip = k - 1; at = a }) page)
  unfolding emit inked
  byte_skipped h = record { same = rw (lt-ltb 0 k h, inked) }

  pub byte_laid : k ≤ 0 → a < length page → Prints (x ∷ []) (sheet (record { skip = k; at = a }) page) (sheet (record { skip = k; at = a + 1 }) (set page a x))
  unfolding emit inked
  byte_laid h l = record { same = rw (le-ltb 0 k h, lt-ltb a (length page) l, inked, view_set page a x l, length-set) }

  pub byte_past : k ≤ 0 → length page ≤ a → Prints (x ∷ []) (sheet (record { skip = k; at = a }) page) (sheet (record { skip = k; at = a }) page)
  unfolding emit inked
  byte_past h l = record { same = rw (le-ltb 0 k h, le-ltb a (length page) l, inked) }

-- What emitting a text leaves: a page of n bytes, of which a were written, with k bytes of the text to be skipped.
record Laid (xs : List ℕ) (k a n : ℕ) (f : Bytes) (t : Sheet) : Type 0 where
  written : t.at ≡ a + min (n - a) (length xs - k)
  size : t.size ≡ n
  bytes : t.bytes ≡ paste f a (min (n - a) (length xs - k)) (from (view xs) k)

paste_first : (f : Bytes) (a x w k : ℕ) (xs : List ℕ) → k ≤ 0 → paste (put f a x) (a + 1) w (from (view xs) k) ≡ paste f a (w + 1) (from (view (x ∷ xs)) k)
paste_first f a x w k xs h = paste_by (paste (put f a x) (a + 1) w (from (view xs) k)) f a (w + 1) (from (view (x ∷ xs)) k) inside outside
  where
    inside : (i : ℕ) → i < w + 1 → paste (put f a x) (a + 1) w (from (view xs) k) (a + i) ≡ view (x ∷ xs) (k + i)
    inside zero l =
        let p : a + 0 ≡ a = omega arith in
        let q : k + 0 ≡ 0 = omega arith in
        rw (p, q) (paste_out (put f a x) (a + 1) w (from (view xs) k) a (λ u v. omega arith) ∙ put_at f a x)
    inside (suc i) l =
        let p : a + suc i ≡ a + 1 + i = omega arith in
        let q : k + suc i ≡ suc (k + i) = omega arith in
        rw (p, q) (paste_at (put f a x) (a + 1) w (from (view xs) k) i (omega arith))

    outside : (i : ℕ) → (a ≤ i → i < a + (w + 1) → ⊥) → paste (put f a x) (a + 1) w (from (view xs) k) i ≡ f i
    outside i n =
        paste_out (put f a x) (a + 1) w (from (view xs) k) i (λ u v. n (omega arith) (omega arith))
        ∙ put_off f a x i (λ e. n (omega arith) (omega arith))

module _ (k a n : ℕ) (f : Bytes) where
  page : Sheet
  page = record { skip = k; at = a; size = n; bytes = f }

laid : (xs : List ℕ) (k a n : ℕ) (f : Bytes) → a ≤ n → Laid xs k a n f (emit xs (page k a n f))
unfolding emit inked page
laid [] k a n f h =
    let e : min (n - a) (0 - k) ≡ 0 = omega arith in
    record { written = omega arith; size = refl; bytes = rw e (sym (paste_none f a (from (view []) k))) }
laid (x ∷ xs) k a n f h = go (ltb 0 k) refl (ltb a n) refl (laid xs)
  where
    Rest : Type 0
    Rest = (k a n : ℕ) (f : Bytes) → a ≤ n → Laid xs k a n f (emit xs (page k a n f))

    skipped : 0 < k → Laid xs (k - 1) a n f (emit xs (page (k - 1) a n f)) → Laid (x ∷ xs) k a n f (emit xs (page (k - 1) a n f))
    skipped l r =
        let e : length xs - (k - 1) ≡ suc (length xs) - k = omega arith in
        record {
          written = rw e at r.written;
          size = r.size;
          bytes =
              r.bytes
              ∙ ap (λ j. paste f a (min (n - a) j) (from (view xs) (k - 1))) e
              ∙ paste_cong f a (min (n - a) (suc (length xs) - k)) (from (view xs) (k - 1)) (from (view (x ∷ xs)) k)
              (λ i b. let q : k + i ≡ suc (k - 1 + i) = omega arith in ap (view (x ∷ xs)) (sym q));
        }

    put_down : k ≤ 0 → a < n → Laid xs k (a + 1) n (put f a x) (emit xs (page k (a + 1) n (put f a x))) → Laid (x ∷ xs) k a n f (emit xs (page k (a + 1) n (put f a x)))
    put_down z l r =
        let w = min (n - (a + 1)) (length xs - k) in
        let e : w + 1 ≡ min (n - a) (suc (length xs) - k) = omega arith in
        record {
          written = omega (arith, r.written);
          size = r.size;
          bytes = r.bytes ∙ paste_first f a x w k xs z ∙ ap (λ j. paste f a j (from (view (x ∷ xs)) k)) e;
        }

    full : n ≤ a → Laid xs k a n f (emit xs (page k a n f)) → Laid (x ∷ xs) k a n f (emit xs (page k a n f))
    full l r =
        let p : min (n - a) (length xs - k) ≡ 0 = omega arith in
        let q : min (n - a) (suc (length xs) - k) ≡ 0 = omega arith in
        record {
          written = omega (arith, r.written);
          size = r.size;
          bytes = r.bytes ∙ rw (p, q) (paste_none f a (from (view xs) k) ∙ sym (paste_none f a (from (view (x ∷ xs)) k)));
        }

    go : (b : Bool) → ltb 0 k ≡ b → (c : Bool) → ltb a n ≡ c → Rest → Laid (x ∷ xs) k a n f (emit xs (inked x (page k a n f)))
    go true p c q r = rw (p, inked) (skipped (ltb-true 0 k p) (r (k - 1) a n f h))
    go false p true q r = rw (p, q, inked) (put_down (ltb-false 0 k p) (ltb-true a n q) (r k (a + 1) n (put f a x) (omega (arith, ltb-true a n q))))
    go false p false q r = rw (p, q, inked) (full (ltb-false a n q) (r k a n f h))

-- what a page shows once the whole text was emitted
pub shows : (all : List ℕ) (offset : ℕ) (old new : List ℕ) (r : Ink)
    → Prints all (sheet (record { skip = offset; at = 0 }) old) (sheet r new) → Shows all offset old r.at new
unfolding page
shows all offset old new r p =
    let l = laid all offset 0 (length old) (view old) (omega arith) in
    let e : r.at ≡ min (length old) (length all - offset) = ap (λ t. t.at) p.same ∙ l.written ∙ omega arith in
    record {
      shown = e;
      size = ap (λ t. t.size) p.same ∙ l.size;
      bytes = ap (λ t. t.bytes) p.same ∙ l.bytes ∙ ap (λ j. paste (view old) 0 j (from (view all) offset)) (omega arith);
    }

-- emitting keeps the page's size
inked_size : (x : ℕ) (s : Sheet) → (inked x s).size ≡ s.size
unfolding inked
inked_size x s = go (ltb 0 s.skip) (ltb s.at s.size)
  where
    go : (b c : Bool)
        → (elim b as (λ _. Sheet) [
          | true ↦ record { skip = s.skip - 1; at = s.at; size = s.size; bytes = s.bytes }
          | false ↦ elim c as (λ _. Sheet) [ true ↦ record { skip = s.skip; at = s.at + 1; size = s.size; bytes = put s.bytes s.at x } | false ↦ s ]
        ]).size ≡ s.size
    go true c = refl
    go false true = refl
    go false false = refl

emit_size : (xs : List ℕ) (s : Sheet) → (emit xs s).size ≡ s.size
unfolding emit
emit_size [] s = refl
emit_size (x ∷ xs) s = emit_size xs (inked x s) ∙ inked_size x s

pub same_size : {xs : List ℕ} {s t : Sheet} → Prints xs s t → t.size ≡ s.size
same_size {xs} {s} p = ap (λ t. t.size) p.same ∙ emit_size xs s
