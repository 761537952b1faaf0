-- Calls one after another, refused ones included: soundness is kept, and a file that none of them names is as it was.
use Prim.Native.Nat.{ℕ, ◌<◌}
use mathlib.Core.Path.{◌≡◌}
use mathlib.Core.List.{List, [], ◌∷◌}
use mathlib.Core.Bool.{true}
use Rattle.model.specs.Bytes.{Bytes, Octets}
use Rattle.model.specs.Directory.{sort, file, volume}
use Rattle.model.specs.Calls.{total, target, spot}
use Rattle.model.specs.Create.{Wanted, create}
use Rattle.model.specs.Destroy.{destroy}
use Rattle.model.specs.Rename.{rename}
use Rattle.model.specs.Info.{set_info, get_info, space}
use Rattle.model.specs.Read.{read}
use Rattle.model.specs.Write.{write}
use Rattle.model.specs.SetEof.{set_eof}
use Rattle.model.specs.Sound.{sound}
use Rattle.model.specs.declared.Stamp.{Stamp}
use Rattle.model.proofs.RefusalLaws.{get_info_image, space_image, read_image}
use Rattle.model.proofs.Laws.Facts.{Seen}
use Rattle.model.proofs.Laws.One.{Kept, Others}
use Rattle.model.proofs.Laws.Settled.{kept_self, kept_trans}
use Rattle.model.proofs.Laws.Info.{set_info_sound, set_info_others}
use Rattle.model.proofs.Laws.Rename.{rename_sound, rename_others}
use Rattle.model.proofs.Laws.Destroy.{destroy_sound, destroy_others, destroy_octets}
use Rattle.model.proofs.Laws.Created.{create_sound, create_files}
use Rattle.model.proofs.Laws.Written.{write_sound, write_others, write_octets}
use Rattle.model.proofs.Laws.Reset.{set_eof_sound, set_eof_others, set_eof_octets}
use Rattle.model.proofs.Laws.Octet.{set_info_octets, rename_octets, create_octets}

-- The calls but format, with what is lent and given to them.
pub data Call : Type 0 where
  creating : (p : Bytes) (k : ℕ) (w : Wanted) → Call
  destroying : (p : Bytes) (k : ℕ) → Call
  renaming : (p : Bytes) (k : ℕ) (q : Bytes) (j : ℕ) → Call
  informing : (p : Bytes) (k access aux : ℕ) (t : Stamp) → Call
  asking : (p : Bytes) (k : ℕ) → Call
  measuring : Call
  reading : (p : Bytes) (k pos : ℕ) (b : Bytes) (size : ℕ) → Call
  writing : (p : Bytes) (k pos : ℕ) (b : Bytes) (size : ℕ) (t : Stamp) → Call
  ending : (p : Bytes) (k e : ℕ) (t : Stamp) → Call

-- what is lent is bytes, and so are type and access
abbrev pub Lent : Call → Type 0
Lent (creating p k w) = Octets p × (w.ftype < 256)
Lent (destroying p k) = Octets p
Lent (renaming p k q j) = Octets p × Octets q
Lent (informing p k access aux t) = Octets p × (access < 256)
Lent (asking p k) = Octets p
Lent measuring = Unit {0}
Lent (reading p k pos b size) = Octets p × Octets b
Lent (writing p k pos b size t) = Octets p × Octets b
Lent (ending p k e t) = Octets p

-- the image of len bytes that a call leaves
abbrev pub after : ℕ → Call → Bytes → Bytes
after len (creating p k w) v = (create len v p k w).image
after len (destroying p k) v = (destroy len v p k).image
after len (renaming p k q j) v = (rename len v p k q j).image
after len (informing p k access aux t) v = (set_info len v p k access aux t).image
after len (asking p k) v = (get_info len v p k).image
after len measuring v = (space len v).image
after len (reading p k pos b size) v = (read len v p k pos b size).image
after len (writing p k pos b size t) v = (write len v p k pos b size t).image
after len (ending p k e t) v = (set_eof len v p k e t).image

-- the place that it names to be changed: create and the calls that only tell name none that a file has, and so the volume stands for it
abbrev pub names : Call → Bytes → ℕ
names (creating p k w) v = volume
names (destroying p k) v = spot (target v p k)
names (renaming p k q j) v = spot (target v p k)
names (informing p k access aux t) v = spot (target v p k)
names (asking p k) v = volume
names measuring v = volume
names (reading p k pos b size) v = volume
names (writing p k pos b size t) v = spot (target v p k)
names (ending p k e t) v = spot (target v p k)

-- what a call keeps
pub record Right (n : ℕ) (v w : Bytes) (a : ℕ) : Type 0 where
  pub octets : Octets w
  pub sound : sound n w ≡ true
  pub others : Others v w a

-- an image that is as it was
same_right : (n : ℕ) (v w : Bytes) → w ≡ v → Octets v → sound n v ≡ true → Right n v w volume
same_right n v w e o s = record { octets = rw e o; sound = rw e s; others = rw e (λ x h q _ f. kept_self q) }

pub call_right : (len : ℕ) (c : Call) (v : Bytes) → Lent c → Octets v → sound (total len) v ≡ true → Right (total len) v (after len c v) (names c v)
call_right len (creating p k w) v l o s =
    record {
      octets = create_octets len v p k w o l.0 l.1 s;
      sound = create_sound len v p k w o s;
      others = λ x h q _ e. create_files len v p k w o s x h q e;
    }
call_right len (destroying p k) v l o s =
    record { octets = destroy_octets len v p k o s; sound = destroy_sound len v p k o s; others = destroy_others len v p k o s }
call_right len (renaming p k q j) v l o s =
    record { octets = rename_octets len v p k q j o l.1; sound = rename_sound len v p k q j s; others = rename_others len v p k q j s }
call_right len (informing p k access aux t) v l o s =
    record {
      octets = set_info_octets len v p k access aux t o l.1;
      sound = set_info_sound len v p k access aux t s;
      others = set_info_others len v p k access aux t s;
    }
call_right len (asking p k) v l o s = same_right (total len) v _ (get_info_image len v p k) o s
call_right len measuring v l o s = same_right (total len) v _ (space_image len v) o s
call_right len (reading p k pos b size) v l o s = same_right (total len) v _ (read_image len v p k pos b size) o s
call_right len (writing p k pos b size t) v l o s =
    record {
      octets = write_octets len v p k pos b size t o l.1;
      sound = write_sound len v p k pos b size t o l.1 s;
      others = write_others len v p k pos b size t o l.1;
    }
call_right len (ending p k e t) v l o s =
    record { octets = set_eof_octets len v p k e t o; sound = set_eof_sound len v p k e t o s; others = set_eof_others len v p k e t o }

-- One after another.
abbrev pub all_after : ℕ → List Call → Bytes → Bytes
all_after len [] v = v
all_after len (c ∷ cs) v = all_after len cs (after len c v)

abbrev pub AllLent : List Call → Type 0
AllLent [] = Unit {0}
AllLent (c ∷ cs) = Lent c × AllLent cs

-- no call names the place x when its turn comes
abbrev pub Unnamed : ℕ → List Call → Bytes → ℕ → Type 0
Unnamed len [] v x = Unit {0}
Unnamed len (c ∷ cs) v x = (x ≡ names c v → ⊥) × Unnamed len cs (after len c v) x

pub calls_sound : (len : ℕ) (cs : List Call) (v : Bytes) → AllLent cs → Octets v → sound (total len) v ≡ true
    → (sound (total len) (all_after len cs v) ≡ true) × Octets (all_after len cs v)
calls_sound len [] v l o s = (s, o)
calls_sound len (c ∷ cs) v l o s = let R = call_right len c v l.0 o s in calls_sound len cs (after len c v) l.1 R.octets R.sound

pub calls_kept : (len : ℕ) (cs : List Call) (v : Bytes) → AllLent cs → Octets v → sound (total len) v ≡ true
    → (x h : ℕ) → Seen v x → sort v x ≡ file h → Unnamed len cs v x → Kept v (all_after len cs v) x
calls_kept len [] v l o s x h q e u = kept_self q
calls_kept len (c ∷ cs) v l o s x h q e u =
    let R = call_right len c v l.0 o s in
    let K = R.others x h q u.0 e in
    kept_trans K (calls_kept len cs (after len c v) l.1 R.octets R.sound x h K.seen (rw K.sorted e) u.1)
