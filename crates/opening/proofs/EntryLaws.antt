-- The entry that a path leads to on a sound volume: it is active and of one of the four kinds, and what its slot says is what the walk reads.
use Rattle.std.specs.Prelude.{Some, None}
use Prim.Native.Nat.{ℕ, zero, suc, ◌-◌, ◌≤◌, ◌<◌}
use mathlib.Core.Path.{◌≡◌, refl, sym, ap, ◌∙◌}
use mathlib.Core.Bool.{Bool, true, false}
use lib.Dec.{leb, eqb}
use native.Mathlib.Omega.{arith}
use borrow.Author.Tests.{eqb-true, ne_eqb, lt-leb}
use Rattle.model.specs.Bytes.{Bytes}
use Rattle.model.specs.Names.{parts}
use Rattle.model.specs.Kinds.{kind_number, key_of, kind_for}
use Rattle.model.specs.Directory.{at, volume, volume_block, Sort, inactive, directory, improper, file, sort, sort_of, is_active, is_directory, key, eof, access, there}
use Rattle.model.specs.File.{height_for}
use Rattle.model.specs.Sound.{sound}
use Rattle.model.specs.Calls.{target}
use Rattle.model.specs.declared.Kind.{Kind}
use Rattle.model.specs.declared.Kind.TheVariants.{Seedling, Sapling, Tree, Directory}
use Rattle.model.proofs.Laws.Keep.{sort_at, field_at, eof_at}
use Rattle.facts.specs.Reached.{Met, Led, led_there}
use Rattle.facts.proofs.LookupLaws.{lookup_led}
use Rattle.facts.proofs.SlotLaws.{improper_fault}
use Rattle.directory.specs.Slots.{kind_of, entry_of, entry_with}
use Rattle.opening.specs.Sorts.{is_folder, height_of, data_height}

-- a slot that a path leads to
pub record Named (v : Bytes) (d s : ℕ) : Type 0 where
  pub level : ℕ
  pub met : Met v level d s
  pub active : is_active (sort v s) ≡ true
  pub proper : sort v s ≡ improper → ⊥

pub led_named : (n : ℕ) (v : Bytes) (d s : ℕ) → sound n v ≡ true → Led v (there d s) → Named v d s
led_named n v d s h (led_there {l = l} m o k a) = record { level = l; met = k; active = a; proper = improper_fault n h k }

pub target_named : (n : ℕ) (v p : Bytes) (k d s : ℕ) → sound n v ≡ true → target v p k ≡ there d s → Named v d s
target_named n v p k d s h e = led_named n v d s h (rw e at (lookup_led n v p (parts p k) h))

sort_high : (c : ℕ) → 4 ≤ c → sort_of c ≡ elim (eqb c 13) as (λ _. Sort) [ true ↦ directory | false ↦ improper ]
unfolding sort_of
sort_high c h = rw (ne_eqb c 0 (λ e. omega arith), lt-leb c 3 (omega arith), sort_of) refl

kind_high : (c k : ℕ) → 4 ≤ c → (sort_of c ≡ improper → ⊥) → kind_number (kind_of (sort_of c) k) ≡ c
kind_high c k h p = go (eqb c 13) refl (sort_high c h)
  where
    go : (b : Bool) → eqb c 13 ≡ b → sort_of c ≡ elim b as (λ _. Sort) [ true ↦ directory | false ↦ improper ] → kind_number (kind_of (sort_of c) k) ≡ c
    go true e q = rw q (sym (eqb-true c 13 e))
    go false e q = absurd (p q)

-- a proper kind's number is the half byte it was read from
pub kind_back : (c k : ℕ) → is_active (sort_of c) ≡ true → (sort_of c ≡ improper → ⊥) → kind_number (kind_of (sort_of c) k) ≡ c
unfolding sort_of
kind_back zero k a p = let z : ◌≡◌ {A = ℕ} 0 1 = cc in absurd (omega arith)
kind_back (suc zero) k a p = refl
kind_back (suc (suc zero)) k a p = refl
kind_back (suc (suc (suc zero))) k a p = refl
kind_back (suc (suc (suc (suc c)))) k a p = kind_high (suc (suc (suc (suc c)))) k (omega arith) p

-- only a directory has no height
pub folder : (k : Kind) → data_height k ≡ None → is_folder k ≡ true
folder (Seedling b) e = absurd (cc)
folder (Sapling b) e = absurd (cc)
folder (Tree b) e = absurd (cc)
folder (Directory b) e = refl

-- a data file has its own
pub plain : (k : Kind) (h : ℕ) → data_height k ≡ Some h → (is_folder k ≡ false) × (h ≡ height_of k)
plain (Seedling b) h e = (refl, cc)
plain (Sapling b) h e = (refl, cc)
plain (Tree b) h e = (refl, cc)
plain (Directory b) h e = absurd (cc)

-- the two ways to tell a height agree: none is 3
pub height_some : (k : Kind) (h : ℕ) → (data_height k ≡ Some h → (h ≡ height_of k) × (h < 3)) × (h ≡ height_of k → h < 3 → data_height k ≡ Some h)
height_some (Seedling b) h = (λ e. let z : h ≡ 0 = cc in (z, omega arith), λ z l. ap Some (sym z))
height_some (Sapling b) h = (λ e. let z : h ≡ 1 = cc in (z, omega arith), λ z l. ap Some (sym z))
height_some (Tree b) h = (λ e. let z : h ≡ 2 = cc in (z, omega arith), λ z l. ap Some (sym z))
height_some (Directory b) h = (λ e. absurd (cc), λ z l. absurd (omega arith))

pub height_none : (k : Kind) → (data_height k ≡ None → height_of k ≡ 3) × (height_of k ≡ 3 → data_height k ≡ None)
height_none (Seedling b) = (λ e. absurd (cc), λ e. absurd (omega arith))
height_none (Sapling b) = (λ e. absurd (cc), λ e. absurd (omega arith))
height_none (Tree b) = (λ e. absurd (cc), λ e. absurd (omega arith))
height_none (Directory b) = (λ e. refl, λ e. refl)

pub folder_height : (k : Kind) → height_of k ≡ 3 → is_folder k ≡ true
folder_height k e = folder k ((height_none k).1 e)

pub no_folder : (k : Kind) → (height_of k ≡ 3 → ⊥) → is_folder k ≡ false
no_folder (Seedling b) e = refl
no_folder (Sapling b) e = refl
no_folder (Tree b) e = refl
no_folder (Directory b) e = absurd (e refl)

-- a proper kind and the sort it was read from
pub folder_sort : (K : Sort) (k : ℕ) → is_active K ≡ true → (K ≡ improper → ⊥) → is_folder (kind_of K k) ≡ is_directory K
folder_sort inactive k a p = let z : ◌≡◌ {A = ℕ} 0 1 = cc in absurd (omega arith)
folder_sort directory k a p = refl
folder_sort improper k a p = absurd (p refl)
folder_sort (file zero) k a p = refl
folder_sort (file (suc zero)) k a p = refl
folder_sort (file (suc (suc h))) k a p = refl

pub height_sort : (h k : ℕ) → h < 3 → height_of (kind_of (file h) k) ≡ h
height_sort zero k l = refl
height_sort (suc zero) k l = refl
height_sort (suc (suc zero)) k l = refl
height_sort (suc (suc (suc h))) k l = absurd (omega arith)

pub key_sort : (K : Sort) (k : ℕ) → key_of (kind_of K k) ≡ k
key_sort inactive k = refl
key_sort directory k = refl
key_sort improper k = refl
key_sort (file zero) k = refl
key_sort (file (suc zero)) k = refl
key_sort (file (suc (suc h))) k = refl

pub height_small : (e : ℕ) → height_for e < 3
unfolding height_for kind_for
height_small e = go (leb e 512) (leb e 131072)
  where
    go : (a b : Bool) → kind_number (elim a as (λ _. Kind) [ true ↦ Seedling 0 | false ↦ elim b [ true ↦ Sapling 0 | false ↦ Tree 0 ] ]) - 1 < 3
    go true b = omega arith
    go false true = omega arith
    go false false = omega arith

-- what the decoded entry at a place says
module _ (v : Bytes) (d s : ℕ) (w : Named v d s) (off : s ≡ volume → ⊥) where
  pub kind_is : (entry_of v (at s)).kind ≡ kind_of (sort v s) (key v s)
  unfolding entry_of entry_with
  kind_is = rw (sort_at v s off, field_at v s 0x11 volume_block off) refl

  pub folder_is : is_folder (entry_of v (at s)).kind ≡ is_directory (sort v s)
  folder_is = ap is_folder kind_is ∙ folder_sort (sort v s) (key v s) w.active w.proper

  pub eof_is : (entry_of v (at s)).eof ≡ eof v s
  unfolding entry_of entry_with
  eof_is = sym (eof_at v s off)

  pub access_is : (entry_of v (at s)).access ≡ access v s
  unfolding entry_of entry_with
  access_is = refl

  pub file_is : is_folder (entry_of v (at s)).kind ≡ false → (hh : ℕ) × (sort v s ≡ file hh)
  file_is e = go (sort v s) refl (sym folder_is ∙ e) w.active w.proper
    where
      go : (K : Sort) → sort v s ≡ K → is_directory K ≡ false → is_active K ≡ true → (K ≡ improper → ⊥) → (hh : ℕ) × (sort v s ≡ file hh)
      go inactive q b a p = let z : ◌≡◌ {A = ℕ} 0 1 = cc in absurd (omega arith)
      go directory q b a p = let z : ◌≡◌ {A = ℕ} 0 1 = cc in absurd (omega arith)
      go improper q b a p = absurd (p refl)
      go (file hh) q b a p = (hh, q)
