-- Moves of one file: blocks go between its tree and the map. What a move may touch, how moves join, and that a move below one pointer is a move of
-- the whole tree. Walk, entry and EOF play no part here.
use Prim.Native.Nat.{ℕ, zero, suc, ◌+◌, ◌*◌, ◌≤◌, ◌<◌, ◌/◌, ◌%◌}
use mathlib.Core.Path.{◌≡◌, refl, sym, ◌∙◌}
use mathlib.Core.Bool.{Bool, true, false}
use lib.Dec.{ltb}
use native.Mathlib.Omega.{arith}
use borrow.Author.Tests.{ltb-true, ltb-false}
use Rattle.model.specs.Bytes.{Bytes, Octets, put, is}
use Rattle.model.specs.Map.{map_blocks, map_at, free, taken, given, rest_clear}
use Rattle.model.specs.Directory.{map_place}
use Rattle.model.specs.File.{pointer, put_pointer}
use Rattle.model.proofs.ByteLaws.{put_at, put_off, octets_put}
use Rattle.model.proofs.BitLaws.{map_at_in, map_at_off, taken_in, taken_out, taken_free, given_out, MapSame}
use Rattle.model.proofs.SumLaws.{is_self}
use Rattle.model.proofs.Laws.Frame.{Alike, pointer_in}
use Rattle.model.proofs.Laws.Weigh.{Gauge, weigh, each, has, part, has_key, part_has, part_two, part_same, weigh_same, weigh_one, arm_full, Blank}

pub by_zero : {P : Type 0} (x : ℕ) → (x ≡ 0 → P) → (1 ≤ x → P) → P
by_zero zero f g = f refl
by_zero (suc x) f g = g (omega arith)

pub by_lt : {P : Type 0} (x y : ℕ) → (x < y → P) → (y ≤ x → P) → P
by_lt {P} x y f g = go (ltb x y) refl
  where
    go : (b : Bool) → ltb x y ≡ b → P
    go true e = f (ltb-true x y e)
    go false e = g (ltb-false x y e)

-- a block that holds no part of the map
abbrev pub Off : ℕ → ℕ → Type 0
Off n b = map_place ≤ b → b < map_place + map_blocks n → ⊥

pub map_low : (n b : ℕ) → 16 ≤ n → b < map_place + map_blocks n → b < n
unfolding map_blocks
map_low n b h l = omega arith

-- the map stays where its blocks do
pub map_alike : (n : ℕ) (w w' : Bytes) → ((b : ℕ) → map_place ≤ b → b < map_place + map_blocks n → Alike 512 w w' b) → MapSame map_place n w w'
map_alike n w w' f i l h =
    let e : i ≡ i / 512 * 512 + i % 512 = omega arith in
    rw e (f (i / 512) (omega arith) (omega arith) (i % 512) (omega arith))

-- Pointers.
module _ (w : Bytes) (k i p : ℕ) where
  pub pointer_off : (b : ℕ) → i < 256 → (b ≡ k → ⊥) → Alike 512 w (put_pointer w k i p) b
  unfolding put_pointer
  pointer_off b il d j l = put_off _ _ _ _ (λ e. d (omega arith)) ∙ put_off _ _ _ _ (λ e. d (omega arith))

  pub pointer_at : p < 65536 → pointer (put_pointer w k i p) k i ≡ p
  unfolding put_pointer pointer
  pointer_at h =
      rw (
        put_at (put w (k * 512 + i) (p % 256)) (k * 512 + 256 + i) (p / 256 % 256),
        put_off (put w (k * 512 + i) (p % 256)) (k * 512 + 256 + i) (p / 256 % 256) (k * 512 + i) (λ e. omega arith),
        put_at w (k * 512 + i) (p % 256),
      )
      (omega arith)

  pub pointer_other : (j : ℕ) → i < 256 → j < 256 → (j ≡ i → ⊥) → pointer (put_pointer w k i p) k j ≡ pointer w k j
  unfolding put_pointer pointer
  pointer_other j il jl d =
      rw (
        put_off (put w (k * 512 + i) (p % 256)) (k * 512 + 256 + i) (p / 256 % 256) (k * 512 + j) (λ e. omega arith),
        put_off w (k * 512 + i) (p % 256) (k * 512 + j) (λ e. d (omega arith)),
        put_off (put w (k * 512 + i) (p % 256)) (k * 512 + 256 + i) (p / 256 % 256) (k * 512 + 256 + j) (λ e. d (omega arith)),
        put_off w (k * 512 + i) (p % 256) (k * 512 + 256 + j) (λ e. omega arith),
      )
      refl

  pub octets_pointer : Octets w → Octets (put_pointer w k i p)
  unfolding put_pointer
  octets_pointer o = octets_put _ _ _ (octets_put w _ _ o (omega arith)) (omega arith)

-- A block taken, and one given back.
module _ (n : ℕ) (w : Bytes) (z : ℕ) (zn : z < n) where
  in_map_law : (b j : ℕ) → j < 512 → b * 512 + j ≡ map_at map_place z → Off n b → ⊥
  unfolding map_at
  in_map_law b j l e o = let m = map_at_in map_place n z zn in o (omega arith) (omega arith)

  pub taken_alike : (b : ℕ) → (b ≡ z → ⊥) → Off n b → Alike 512 w (taken map_place w z) b
  taken_alike b d o j l = taken_out map_place w z (b * 512 + j) (λ p q. d (omega arith)) (λ e. in_map_law b j l e o)

  pub taken_blank : Blank (taken map_place w z) z
  taken_blank j l = taken_in map_place w z (z * 512 + j) (omega arith) (omega arith)

  pub taken_level : Octets w → Off n z → free map_place w z ≡ 1 → (b : ℕ) → b < n → free map_place w b ≡ free map_place (taken map_place w z) b + is z b
  taken_level o m f b l = let e = taken_free map_place w z b o (map_at_off map_place n z b l m) in omega (arith, rw f at e)

  pub given_alike : (b : ℕ) → Off n b → Alike 512 w (given map_place w z) b
  given_alike b o j l = given_out map_place w z (b * 512 + j) (λ e. in_map_law b j l e o)

-- A tree on the volume, no block twice or free; boot and map blocks are not at hand.
pub record Fit (n : ℕ) (w : Bytes) (h q k : ℕ) : Type 0 where
  pub large : 16 ≤ n
  pub small : n ≤ 65535
  pub bytes : Octets w
  pub rest : rest_clear map_place w n ≡ true
  pub range : (b : ℕ) → 1 ≤ has w h q k b → b < n
  pub apart : (b : ℕ) → b < n → has w h q k b + free map_place w b ≤ 1
  pub boot : has w h q k 0 + free map_place w 0 ≡ 0
  pub plan : (b : ℕ) → map_place ≤ b → b < map_place + map_blocks n → has w h q k b + free map_place w b ≡ 0

-- Owners and free blocks are balanced; bytes change only in blocks of the tree, in free ones and in the map.
pub record Move (n : ℕ) (w : Bytes) (h q k : ℕ) (w' : Bytes) (h' q' k' : ℕ) : Type 0 where
  pub bytes : Octets w'
  pub rest : rest_clear map_place w' n ≡ true
  pub range : (b : ℕ) → 1 ≤ has w' h' q' k' b → b < n
  pub level : (b : ℕ) → b < n → has w' h' q' k' b + free map_place w' b ≡ has w h q k b + free map_place w b
  pub same : (b : ℕ) → b < n → has w h q k b + free map_place w b ≡ 0 → Off n b → Alike 512 w w' b

module _ {n : ℕ} {w : Bytes} {h q k : ℕ} (F : Fit n w h q k) where
  pub move_none : Move n w h q k w h q k
  move_none = record { bytes = F.bytes; rest = F.rest; range = F.range; level = λ b l. refl; same = λ b l z m j k. refl }

  pub move_fit : {w' : Bytes} {h' q' k' : ℕ} → Move n w h q k w' h' q' k' → Fit n w' h' q' k'
  move_fit T =
      record {
        large = F.large;
        small = F.small;
        bytes = T.bytes;
        rest = T.rest;
        range = T.range;
        apart = λ b l. omega (arith, F.apart b l, T.level b l);
        boot = omega (arith, F.boot, T.level 0 (omega (arith, F.large)));
        plan = λ b p q. omega (arith, F.plan b p q, T.level b (map_low n b F.large q));
      }

  -- the blocks of the tree
  pub fit_off : (b : ℕ) → 1 ≤ has w h q k b → Off n b
  fit_off b m p q = omega (arith, F.plan b p q)

  pub fit_some : (b : ℕ) → 1 ≤ has w h q k b → b ≡ 0 → ⊥
  fit_some b m e = omega (arith, F.boot, rw e at m)

  pub fit_key : k < n
  fit_key = F.range k (has_key w h q k)

  -- a free block
  module _ (z : ℕ) (zn : z < n) (zf : free map_place w z ≡ 1) where
    pub free_off : Off n z
    free_off p q = omega (arith, F.plan z p q)

    pub free_some : z ≡ 0 → ⊥
    free_some e = omega (arith, F.boot, rw e at zf)

    pub free_out : (b : ℕ) → 1 ≤ has w h q k b → b ≡ z → ⊥
    free_out b m e = omega (arith, F.apart z zn, rw e at m)

pub move_then : {n : ℕ} {w : Bytes} {h q k : ℕ} {w' : Bytes} {h' q' k' : ℕ} {w'' : Bytes} {h'' q'' k'' : ℕ}
    → Move n w h q k w' h' q' k' → Move n w' h' q' k' w'' h'' q'' k'' → Move n w h q k w'' h'' q'' k''
move_then T U =
    record {
      bytes = U.bytes;
      rest = U.rest;
      range = U.range;
      level = λ b l. U.level b l ∙ T.level b l;
      same = λ b l z m j k. U.same b l (T.level b l ∙ z) m j k ∙ T.same b l z m j k;
    }

-- Below a pointer.
module _ {n : ℕ} {w : Bytes} {h q k i : ℕ} (F : Fit n w (suc h) q k) (il : i < 256) (full : pointer w k i ≡ 0 → ⊥) where
  pub fit_below : Fit n w h (q * 256 + i) (pointer w k i)
  fit_below =
      record {
        large = F.large;
        small = F.small;
        bytes = F.bytes;
        rest = F.rest;
        range = λ b m. F.range b (omega (arith, part_has w h q k i b il full));
        apart = λ b l. omega (arith, F.apart b l, part_has w h q k i b il full);
        boot = omega (arith, F.boot, part_has w h q k i 0 il full);
        plan = λ b p r. omega (arith, F.plan b p r, part_has w h q k i b il full);
      }

  module _ {w' : Bytes} (T : Move n w h (q * 256 + i) (pointer w k i) w' h (q * 256 + i) (pointer w k i)) where
    pub lift_kept : (b : ℕ) → 1 ≤ has w (suc h) q k b → has w h (q * 256 + i) (pointer w k i) b ≡ 0 → Alike 512 w w' b
    lift_kept b m z = let r = F.range b m in T.same b r (omega (arith, F.apart b r)) (fit_off F b m)

    lift_key : Alike 512 w w' k
    lift_key =
        lift_kept k (has_key w (suc h) q k)
        (omega (arith, F.apart k (fit_key F), part_has w h q k i k il full, is_self k))

    pub lift_pointer : (j : ℕ) → j < 256 → pointer w' k j ≡ pointer w k j
    lift_pointer j m = pointer_in w w' k j lift_key m

    pub lift_part : (g : Gauge) (j : ℕ) → j < 256 → (j ≡ i → ⊥) → part g w' h q k j ≡ part g w h q k j
    lift_part g j m d =
        part_same g w w' h q k j (lift_pointer j m)
        (λ z. weigh_same g w w' h (q * 256 + j) (pointer w k j) (λ b t.
        let some : 1 ≤ has w (suc h) q k b = omega (arith, part_has w h q k j b m z) in
        lift_kept b some
        (omega (
          arith,
          F.apart b (F.range b some),
          part_two w h q k i j b il m (λ s. d (sym s)),
          arm_full (λ r p. has w h r p b) w q k j z,
          arm_full (λ r p. has w h r p b) w q k i full,
        ))))

    pub lift_full : (g : Gauge) → part g w' h q k i ≡ weigh g w' h (q * 256 + i) (pointer w k i)
    lift_full g = let e = lift_pointer i il in rw (← e) (arm_full _ w' q k i (λ z. full (sym e ∙ z)))

    pub lift_weigh : (g : Gauge)
        → weigh g w' (suc h) q k + weigh g w h (q * 256 + i) (pointer w k i) ≡ weigh g w (suc h) q k + weigh g w' h (q * 256 + i) (pointer w k i)
    lift_weigh g = omega (arith, arm_full (λ r p. weigh g w h r p) w q k i full, lift_full g, weigh_one g w w' h q k i il (lift_part g))

    pub lift : Move n w (suc h) q k w' (suc h) q k
    lift =
        record {
          bytes = T.bytes;
          rest = T.rest;
          range = λ b m. by_zero (has w (suc h) q k b)
              (λ z. T.range b (omega (arith, lift_weigh (each (is b))))) (F.range b);
          level = λ b r. omega (arith, lift_weigh (each (is b)), T.level b r);
          same = λ b r z m. T.same b r (omega (arith, part_has w h q k i b il full)) m;
        }
