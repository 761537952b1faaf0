-- What is known of a sound volume, as plain facts. Assumes nothing.
use mathlib.Core.Path.{◌≡◌, refl, sym, subst}
use mathlib.Core.List.{List}
use mathlib.Core.Bool.{Bool, true, false, false≢true}
use mathlib.Core.Logic.{◌↔◌}
use Prim.Native.Nat.{ℕ, zero, suc, ◌+◌, ◌≤◌, ◌<◌}
use native.Mathlib.Omega.{arith}
use borrow.Author.Tests.{eqb-true, eqb-false, eq-eqb, leb-true, le-leb}
use lib.Dec.{eqb, leb}
use Rattle.model.specs.Bytes.{Bytes, sum, count, gather, within}
use Rattle.model.specs.Map.{free, rest_clear}
use Rattle.model.specs.Directory.{sort, map_place, map_block}
use Rattle.model.specs.Walk.{walk, visits}
use Rattle.model.specs.Sound.{proper_size, prodos, volume_faults, top_faults, directory_faults, faults_of, faults, owned, each_once, faultless, sound}
use Rattle.claims.proofs.TestLaws.{refuted, and_true, ne_zero, below_more}

-- all faults of the volume, counted
abbrev pub all_faults : ℕ → Bytes → ℕ
all_faults n v = sum (λ w. faults n v w.levels w.way w.slot) (visits v)

pub record Facts (n : ℕ) (v : Bytes) : Type 0 where
  pub least : 16 ≤ n
  pub most : n ≤ 65535
  pub header : prodos n v ≡ true
  pub placed : map_block v ≡ map_place
  pub faultfree : all_faults n v ≡ 0
  pub once : (b : ℕ) → b < n → count b (owned n v) + free map_place v b ≡ 1
  pub rest : rest_clear map_place v n ≡ true

pub each_once_law : (m : ℕ) (v : Bytes) (os : List ℕ) (n : ℕ)
    → (each_once m v os n ≡ true) ↔ ((b : ℕ) → b < n → count b os + free m v b ≡ 1)
unfolding each_once
each_once_law m v os zero = (λ e b l. absurd (omega arith), λ f. refl)
each_once_law m v os (suc n) = go (eqb (count n os + free m v n) 1) refl (each_once_law m v os n)
  where
    go : (t : Bool) → eqb (count n os + free m v n) 1 ≡ t → (each_once m v os n ≡ true) ↔ ((b : ℕ) → b < n → count b os + free m v b ≡ 1)
        → (elim t [ true ↦ each_once m v os n | false ↦ false ] ≡ true) ↔ ((b : ℕ) → b < suc n → count b os + free m v b ≡ 1)
    go true p q = (λ e. below_more n (q.0 e) (eqb-true _ 1 p), λ f. q.1 (λ b l. f b (omega arith)))
    go false p q = (λ e. absurd (false≢true e), λ f. absurd (eqb-false _ 1 p (f n (omega arith))))

part : (a b c d e r : ℕ) → a + (b + (c + d) + e) + r ≡ 0 → d ≡ 0
part a b c d e r h = omega arith

-- the walk begins with the volume, whose faults count the map's place
pub map_placed : (n : ℕ) (v : Bytes) → all_faults n v ≡ 0 → map_block v ≡ map_place
unfolding sum walk gather sort faults_of directory_faults top_faults volume_faults
map_placed n v h = ne_zero (map_block v) map_place (part _ _ _ _ _ _ h)

pub sound_facts : (n : ℕ) (v : Bytes) → sound n v ≡ true → Facts n v
unfolding sound faultless within
sound_facts n v e =
    let p = (and_true (proper_size n) _).0 e in
    let q = (and_true (prodos n v) _).0 p.1 in
    let r = (and_true (faultless n v) _).0 q.1 in
    let t = (and_true (each_once (map_block v) v (owned n v) n) _).0 r.1 in
    let size = (and_true (leb 16 n) (leb n 65535)).0 p.0 in
    let none = eqb-true (all_faults n v) 0 r.0 in
    let z = map_placed n v none in
    record {
      least = leb-true 16 n size.0;
      most = leb-true n 65535 size.1;
      header = q.0;
      placed = z;
      faultfree = none;
      once = (each_once_law map_place v (owned n v) n).0 (subst (λ m. each_once m v (owned n v) n ≡ true) z t.0);
      rest = subst (λ m. rest_clear m v n ≡ true) z t.1;
    }

pub facts_sound : (n : ℕ) (v : Bytes) → Facts n v → sound n v ≡ true
unfolding sound faultless within
facts_sound n v f =
    (and_true (proper_size n) _).1 (
      (and_true (leb 16 n) _).1 (le-leb 16 n f.least, le-leb n 65535 f.most),
      (and_true (prodos n v) _).1 (
        f.header,
        (and_true (faultless n v) _).1 (
          eq-eqb (all_faults n v) 0 f.faultfree,
          (and_true (each_once (map_block v) v (owned n v) n) _).1 (
            subst (λ m. each_once m v (owned n v) n ≡ true) (sym f.placed) ((each_once_law map_place v (owned n v) n).1 f.once),
            subst (λ m. rest_clear m v n ≡ true) (sym f.placed) f.rest,
          ),
        ),
      ),
    )

pub not_prodos_law : (n : ℕ) (v : Bytes) → prodos n v ≡ false → sound n v ≡ false
not_prodos_law n v e = refuted (sound n v) (λ s. let z : ◌≡◌ {A = ℕ} 0 1 = cc (sound_facts n v s).header in omega arith)

pub not_placed : (n : ℕ) (v : Bytes) → (map_block v ≡ map_place → ⊥) → sound n v ≡ false
not_placed n v h = refuted (sound n v) (λ s. h (sound_facts n v s).placed)
