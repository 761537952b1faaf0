-- An image as a volume: the rows $52 and $5A, and what it means that neither applies.
use Rattle.std.specs.Prelude.{Result, Ok, Err}
use Rattle.model.specs.declared.Refusal.{Refusal}
use Prim.Native.Nat.{ℕ, ◌*◌, ◌/◌, ◌%◌, ◌≤◌}
use mathlib.Core.Path.{◌≡◌, refl}
use mathlib.Core.List.{List, ◌∷◌}
use mathlib.Core.Bool.{Bool, true, false, not}
use lib.Dec.{eqb}
use native.Mathlib.Omega.{arith}
use borrow.Author.Tests.{eqb-true}
use Rattle.model.specs.Bytes.{Bytes, ◌and◌}
use Rattle.model.specs.Directory.{map_block, map_place}
use Rattle.model.specs.Sound.{proper_size, whole_blocks, prodos, sound}
use Rattle.model.specs.Refusals.{refusal_number, Row, first}
use Rattle.model.specs.Calls.{total, not_prodos, not_sound}
use Rattle.model.specs.declared.Refusal.TheVariants.{NotProdos, NotSound}
use Rattle.claims.proofs.SoundFacts.{sound_facts}
use Rattle.claims.proofs.TestLaws.{and_true}
use Rattle.opening.specs.Opened.{volume_in}

-- the number of a refused image, or what the rows that follow give
abbrev pub volume_or : Result ℕ Refusal → ℕ → ℕ
volume_or (Ok n) x = x
volume_or (Err r) x = refusal_number r

-- $52 and $5A
pub volume_first : (len : ℕ) (v : Bytes) (rest : List Row) → first (not_prodos len v ∷ not_sound len v ∷ rest) ≡ volume_or (volume_in len v) (first rest)
unfolding first volume_in
volume_first len v rest = go (whole_blocks len and prodos (total len) v) (sound (total len) v)
  where
    go : (a b : Bool) → elim (not a) as (λ _. ℕ) [ true ↦ 0x52 | false ↦ elim (not b) [ true ↦ 0x5A | false ↦ first rest ] ]
        ≡ volume_or (elim a as (λ _. Result ℕ Refusal) [ true ↦ elim b [ true ↦ Ok (total len) | false ↦ Err NotSound ] | false ↦ Err NotProdos ]) (first rest)
    go true true = refl
    go true false = refl
    go false b = refl

-- an image that is a sound volume: its size and its map
pub record Fits (len : ℕ) (v : Bytes) (n : ℕ) : Type 0 where
  pub size : n ≡ total len
  pub whole : len ≡ n * 512
  pub least : 16 ≤ n
  pub most : n ≤ 65535
  pub sane : sound n v ≡ true
  pub placed : map_block v ≡ map_place

pub fits : (len : ℕ) (v : Bytes) → whole_blocks len ≡ true → sound (total len) v ≡ true → Fits len v (total len)
unfolding whole_blocks
fits len v w h =
    let f = sound_facts (total len) v h in
    let t = eqb-true (len % 512) 0 ((and_true (eqb (len % 512) 0) (proper_size (len / 512))).0 w).0 in
    record { size = refl; whole = omega arith; least = f.least; most = f.most; sane = h; placed = f.placed }

pub volume_sound : (len : ℕ) (v : Bytes) (n : ℕ) → volume_in len v ≡ Ok n → Fits len v n
unfolding volume_in
volume_sound len v n e = go (whole_blocks len and prodos (total len) v) (sound (total len) v) refl refl e
  where
    go : (a b : Bool) → whole_blocks len and prodos (total len) v ≡ a → sound (total len) v ≡ b
        → elim a as (λ _. Result ℕ Refusal) [ true ↦ elim b [ true ↦ Ok (total len) | false ↦ Err NotSound ] | false ↦ Err NotProdos ] ≡ Ok n → Fits len v n
    go true true p q r = let z : total len ≡ n = cc in rw (← z) (fits len v ((and_true (whole_blocks len) (prodos (total len) v)).0 p).0 q)
    go true false p q r = let z : ◌≡◌ {A = ℕ} 0 1 = cc in absurd (omega arith)
    go false b p q r = let z : ◌≡◌ {A = ℕ} 0 1 = cc in absurd (omega arith)
