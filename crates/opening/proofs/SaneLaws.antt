-- A sound volume can be looked through: every directory that a path can lead to has its chain on the volume and proper slots.
use Prim.Native.Nat.{ℕ, ◌<◌}
use mathlib.Core.Path.{◌≡◌}
use mathlib.Core.List.{List, [], ◌∷◌, Memᴰ}
use mathlib.Core.Bool.{true}
use Rattle.model.specs.Bytes.{Bytes}
use Rattle.model.specs.Directory.{directory, sort, key, used, chain, slots_below, kids}
use Rattle.model.specs.Sound.{sound}
use Rattle.facts.specs.Reached as met
use Rattle.facts.proofs.BlockLaws.{met_directory}
use Rattle.facts.proofs.LookupLaws.{met_kid, volume_directory}
use Rattle.facts.proofs.SlotLaws.{improper_fault, kid_entry}
use Rattle.directory.specs.Search.{Each, listed, Searchable}
use Rattle.directory.specs.Lookup.{Reached, top, below, Sane}

among : (s : ℕ) (ss : List ℕ) → Memᴰ s ss → met.Among s ss
among s [] m = elim m [ ]
among s (t ∷ ss) (Memᴰ.head e) = rw e met.Among.here
among s (t ∷ ss) (Memᴰ.tail m) = met.Among.later (among s ss m)

each_inside : (n : ℕ) (bs : List ℕ) → met.Inside n bs → Each (λ b. b < n) bs
each_inside n [] h x m = elim m [ ]
each_inside n (b ∷ bs) h x (Memᴰ.head e) = rw e h.0
each_inside n (b ∷ bs) h x (Memᴰ.tail m) = each_inside n bs h.1 x m

-- a directory that is met can be searched
searchable : (n : ℕ) {l e d : ℕ} {v : Bytes} → sound n v ≡ true → met.Met v l e d → sort v d ≡ directory → Searchable n v (key v d) (used v d)
unfolding slots_below
searchable n {l} {e} {d} {v} h m o =
    record {
      inside = each_inside n (chain v (key v d) (used v d)) (met_directory h m o).chained;
      entries = λ s a.
          let b : met.Among s (kids v d) = rw o (among s (listed v (key v d) (used v d)) a) in
          record { entry = kid_entry n h m o s b; proper = improper_fault n h (met_kid n h m o b).1 };
    }

pub record Known (v : Bytes) (d : ℕ) : Type 0 where
  pub level : ℕ
  pub parent : ℕ
  pub met : met.Met v level parent d
  pub sorted : sort v d ≡ directory

reached : (n : ℕ) (v : Bytes) {d : ℕ} → sound n v ≡ true → Reached v d → Known v d
unfolding slots_below
reached n v h top = record { level = _; parent = _; met = met.Met.top; sorted = volume_directory v }
reached n v h (below {d = d} {s = s} r a o) =
    let k = reached n v h r in
    let m = met_kid n h k.met k.sorted (among s (kids v d) a) in
    record { level = m.0; parent = d; met = m.1; sorted = o }

pub sane : (n : ℕ) (v : Bytes) → sound n v ≡ true → Sane n v
sane n v h d r = let k = reached n v h r in searchable n h k.met k.sorted
