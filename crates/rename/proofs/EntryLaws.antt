-- The entry that a path opened: its directory can be searched, its slot and its header are on the image.
use Prim.Native.Nat.{ℕ, zero, suc, ◌+◌, ◌≤◌, ◌<◌}
use mathlib.Core.Path.{◌≡◌, refl, sym, ap, ◌∙◌}
use mathlib.Core.Bool.{true}
use native.Mathlib.Omega.{arith}
use Rattle.model.specs.Bytes.{Bytes}
use Rattle.model.specs.Names.{parts}
use Rattle.model.specs.Directory.{at, volume, Sort, inactive, directory, improper, file, sort, is_active, key, used, chain, slots_below, kids, there}
use Rattle.model.specs.Calls.{total, target}
use Rattle.model.specs.declared.Kind.TheVariants.{Directory}
use Rattle.model.specs.declared.Place.{Place}
use Rattle.model.specs.declared.Entry.{Entry}
use Rattle.facts.specs.Reached.{Inside, Led, led_there}
use Rattle.facts.proofs.BlockLaws.{met_directory}
use Rattle.facts.proofs.LookupLaws.{lookup_led}
use Rattle.directory.specs.Slots.{place_number, place_of, kind_of, entry_of}
use Rattle.directory.specs.Search.{listed}
use Rattle.directory.specs.Lookup.{home_of}
use Rattle.directory.specs.declared.Home.{Home}
use Rattle.directory.proofs.SlotLaws.{place_number_law, at_place}
use Rattle.directory.proofs.AnswerLaws.{place_counted, lookup_lands}
use Rattle.opening.proofs.SaneLaws.{sane}
use Rattle.opening.proofs.VolumeLaws.{Fits}
use Rattle.opening.proofs.PlaceLaws.{entry_inside}
use Rattle.opening.proofs.EntryLaws.{Named, target_named, kind_is}
use Rattle.rename.specs.Renamed.{Header, Held}

-- only a directory decodes as one
kind_directory : (K : Sort) (b k : ℕ) → is_active K ≡ true → (K ≡ improper → ⊥) → kind_of K b ≡ Directory k → (K ≡ directory) × (b ≡ k)
kind_directory inactive b k a p e = let z : ◌≡◌ {A = ℕ} 0 1 = cc in absurd (omega arith)
kind_directory directory b k a p e = (refl, cc)
kind_directory improper b k a p e = absurd (p refl)
kind_directory (file zero) b k a p e = let z : ◌≡◌ {A = ℕ} 0 1 = cc in absurd (omega arith)
kind_directory (file (suc zero)) b k a p e = let z : ◌≡◌ {A = ℕ} 0 1 = cc in absurd (omega arith)
kind_directory (file (suc (suc h))) b k a p e = let z : ◌≡◌ {A = ℕ} 0 1 = cc in absurd (omega arith)

chain_first : (n : ℕ) (v : Bytes) (k u : ℕ) → 1 ≤ u → Inside n (chain v k u) → k < n
unfolding chain
chain_first n v k zero l h = absurd (omega arith)
chain_first n v k (suc u) l h = h.0

led_home : (v : Bytes) (d s : ℕ) → Led v (there d s) → sort v d ≡ directory
led_home v d s (led_there m o k a) = o

module _ (len : ℕ) (v p : Bytes) (k d s : ℕ) (f : Fits len v (total len)) (t : target v p k ≡ there d s) (off : s ≡ volume → ⊥) where
  pub entry_named : Named v d s
  entry_named = target_named (total len) v p k d s f.sane t

  -- the slots that the code searches
  pub home_kids : kids v d ≡ listed v (key v d) (used v d)
  unfolding slots_below
  home_kids = ap (λ K. slots_below K v d) (led_home v d s (rw t at (lookup_led (total len) v p (parts p k) f.sane)))

  entry_header : Header (entry_of v (at s)).kind len
  entry_header b e =
      let w = entry_named in
      let q = kind_directory (sort v s) (key v s) b w.active w.proper (sym (kind_is v d s w off) ∙ e) in
      let g = met_directory f.sane w.met q.0 in
      let l : key v s < total len = chain_first (total len) v (key v s) (used v s) g.some g.chained in
      let m : b < total len = rw (← q.1) l in
      omega (arith, f.whole)

  pub entry_held : Held (total len) len v (home_of v d) (place_of s) (entry_of v (at s))
  entry_held =
      record {
        most = f.most;
        whole = f.whole;
        search = sane (total len) v f.sane d ((lookup_lands v p (parts p k)).there_home d s t);
        counted = place_counted s (place_of s) refl;
        inside = entry_inside len v p k d s f t off;
        entry = ap (λ x. entry_of v (at x)) (sym (place_number_law s));
        header = entry_header;
      }

-- the slot of an entry that is held
pub held_fits : {n len : ℕ} {v : Bytes} {h : Home} {l : Place} {x : Entry} → Held n len v h l x → at (place_number l) + 39 ≤ len
held_fits {l = l} g = rw (at_place l g.counted) (omega (arith, g.counted.0, g.counted.1, g.inside, g.whole))
