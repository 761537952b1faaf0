-- The commands of a script that change the image, as docs/REPLAY.md has them: each with its fields f, on an image v of n bytes and with a
-- buffer of m bytes.
use Rattle.std.specs.Prelude.{ℕ, ◌+◌, ◌≡◌, List, [], ◌∷◌, true, false, leb, length}
use Rattle.model.specs.Bytes.{Bytes, paste, same}
use Rattle.model.specs.Refusals.{Outcome}
use Rattle.model.specs.Calls.{Nothing}
use Rattle.model.specs.Format.{format}
use Rattle.model.specs.Create.{create}
use Rattle.model.specs.Destroy.{destroy}
use Rattle.model.specs.Rename.{rename}
use Rattle.model.specs.Info.{set_info}
use Rattle.model.specs.SetEof.{set_eof}
use Rattle.model.specs.Write.{write}
use Rattle.model.specs.declared.Stamp.{Stamp}
use Rattle.script.specs.Fields.{Fields, text_most}
use Rattle.replies.specs.Lines.{ok_line, reply, number}
use Rattle.lines.specs.declared.Call.{Call}
use Rattle.lines.specs.declared.Call.TheVariants as call
use Rattle.lines.specs.declared.Change.{Change}
use Rattle.lines.specs.declared.Change.TheVariants as change
use Rattle.lines.specs.declared.Command.TheVariants as command
use Rattle.lines.specs.Commands.{cut, first_text, Fitting}
use Rattle.lines.specs.Left.{Left, bad_left}

-- the stamp of fields i and i + 1
abbrev pub stamp_of : Fields → ℕ → Stamp
stamp_of f i = record { date = f.values i; time = f.values (i + 1) }

-- `format NAME DATE TIME`
abbrev pub formatted : ℕ → Bytes → Fields → Outcome Nothing
formatted n v f = format n v (first_text f) (f.values 0) (stamp_of f 1)

-- `create PATH KIND TYPE AUX DATE TIME`
abbrev pub created : ℕ → Bytes → Fields → Outcome Nothing
created n v f = create n v (first_text f) (f.values 0) (record { kind = f.values 1; ftype = f.values 2; aux = f.values 3; stamp = stamp_of f 4 })

-- `destroy PATH`
abbrev pub destroyed : ℕ → Bytes → Fields → Outcome Nothing
destroyed n v f = destroy n v (first_text f) (f.values 0)

-- `rename PATH NAME`
abbrev pub renamed : ℕ → Bytes → Fields → Outcome Nothing
renamed n v f = rename n v (first_text f) (f.values 0) (cut f.room text_most (f.values 1)) (f.values 1)

-- `setinfo PATH ACCESS AUX DATE TIME`
abbrev pub informed : ℕ → Bytes → Fields → Outcome Nothing
informed n v f = set_info n v (first_text f) (f.values 0) (f.values 1) (f.values 2) (stamp_of f 3)

-- `seteof PATH EOF DATE TIME`
abbrev pub ended : ℕ → Bytes → Fields → Outcome Nothing
ended n v f = set_eof n v (first_text f) (f.values 0) (f.values 1) (stamp_of f 2)

-- `write PATH POSITION DATE TIME DATA`, with the first bytes of a buffer
abbrev pub written : ℕ → Bytes → Fields → Bytes → Outcome ℕ
written n v f b = write n v (first_text f) (f.values 0) (f.values 1) (cut b 0 (f.values 4)) (f.values 4) (stamp_of f 2)

-- The fields of a call: values within what its forms allow, and the room of its texts. No call has data, so the size m of a buffer bounds none.
pub record Asks (k : Call) (vs ts : List ℕ) : Type 0 where
  pub m : ℕ
  pub values : Fitting (command.Change (change.Call k)) m vs
  pub room : length ts ≡ 256

-- the calls by their names
unfoldable pub called : Call → ℕ → Bytes → Fields → Outcome Nothing
called call.Format n v f = formatted n v f
called call.Create n v f = created n v f
called call.Destroy n v f = destroyed n v f
called call.Rename n v f = renamed n v f
called call.SetInfo n v f = informed n v f
called call.SetEof n v f = ended n v f

-- a call that is done or refused, and one that transfers bytes
abbrev pub answered : Fields → Outcome Nothing → Left
answered f o = record { good = true; text = reply o.number (ok_line [] []); image = o.image; buffer = f.buffer }

abbrev pub moved : Outcome ℕ → Bytes → Left
moved o b = record { good = true; text = reply o.number (ok_line (number ∷ []) (o.parts ∷ [])); image = o.image; buffer = b }

-- `fill PATH POSITION DATE TIME COUNT BYTE`: "with COUNT equal bytes"
unfoldable pub filled : ℕ → Bytes → ℕ → Fields → Left
filled n v m f =
    elim (leb (f.values 4) m) [
      | true ↦
          let b = paste f.buffer 0 (f.values 4) (same (f.values 5)) in
          moved (written n v f b) b
      | false ↦ bad_left v f.buffer
    ]

-- `set ADDRESS DATA` and `setrun ADDRESS COUNT BYTE`: bytes of g put into the image at an address, where they lie in it
unfoldable pub laid_in : ℕ → Bytes → Fields → Bytes → Left
laid_in n v f g =
    elim (leb (f.values 0 + f.values 1) n) [
      | true ↦ record { good = true; text = ok_line [] []; image = paste v (f.values 0) (f.values 1) g; buffer = f.buffer }
      | false ↦ bad_left v f.buffer
    ]

-- each command by its name
unfoldable pub changed : Change → ℕ → Bytes → ℕ → Fields → Left
changed (change.Call k) n v m f = answered f (called k n v f)
changed change.Write n v m f = moved (written n v f f.buffer) f.buffer
changed change.Fill n v m f = filled n v m f
changed change.Set n v m f = laid_in n v f f.buffer
changed change.SetRun n v m f = laid_in n v f (same (f.values 2))
