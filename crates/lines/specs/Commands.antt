-- What a line of a script says, as docs/REPLAY.md has it: the command of its word, and the fields behind it. A line is s, of n bytes.
use Rattle.std.specs.Prelude.{ℕ, List, [], ◌∷◌, Bool, true, false, length, Result, Ok, Err}
use Rattle.model.specs.Bytes.{Bytes, view, paste, from, zeros}
use Rattle.model.specs.Catalog.{space'}
use Rattle.script.specs.Fields.{Fields, Fits, is_word, end_at, read_fields}
use Rattle.lines.specs.declared.Look.{Look}
use Rattle.lines.specs.declared.Look.TheVariants as look
use Rattle.lines.specs.declared.Call.{Call}
use Rattle.lines.specs.declared.Call.TheVariants as call
use Rattle.lines.specs.declared.Change.{Change}
use Rattle.lines.specs.declared.Change.TheVariants as change
use Rattle.lines.specs.declared.BadFields.{BadFields}
use Rattle.lines.specs.declared.Command.{Command}
use Rattle.lines.specs.declared.Command.TheVariants as command

-- a command and its word
pub record Named : Type 0 where
  pub word : List ℕ
  pub command : Command

-- `digest`, `block`, `space`, `getinfo`, `read`, `find`, `blocks`, `bytes`
abbrev pub look_words : List Named
look_words =
    record { word = 100 ∷ 105 ∷ 103 ∷ 101 ∷ 115 ∷ 116 ∷ []; command = command.Look look.Digest }
    ∷ record { word = 98 ∷ 108 ∷ 111 ∷ 99 ∷ 107 ∷ []; command = command.Look look.Block }
    ∷ record { word = 115 ∷ 112 ∷ 97 ∷ 99 ∷ 101 ∷ []; command = command.Look look.Space }
    ∷ record { word = 103 ∷ 101 ∷ 116 ∷ 105 ∷ 110 ∷ 102 ∷ 111 ∷ []; command = command.Look look.GetInfo }
    ∷ record { word = 114 ∷ 101 ∷ 97 ∷ 100 ∷ []; command = command.Look look.Read }
    ∷ record { word = 102 ∷ 105 ∷ 110 ∷ 100 ∷ []; command = command.Look look.Find }
    ∷ record { word = 98 ∷ 108 ∷ 111 ∷ 99 ∷ 107 ∷ 115 ∷ []; command = command.Blocks }
    ∷ record { word = 98 ∷ 121 ∷ 116 ∷ 101 ∷ 115 ∷ []; command = command.Bytes }
    ∷ []

-- `format`, `create`, `destroy`, `rename`, `setinfo`, `seteof`, `write`, `fill`, `set`, `setrun`
abbrev pub change_words : List Named
change_words =
    record { word = 102 ∷ 111 ∷ 114 ∷ 109 ∷ 97 ∷ 116 ∷ []; command = command.Change (change.Call call.Format) }
    ∷ record { word = 99 ∷ 114 ∷ 101 ∷ 97 ∷ 116 ∷ 101 ∷ []; command = command.Change (change.Call call.Create) }
    ∷ record { word = 100 ∷ 101 ∷ 115 ∷ 116 ∷ 114 ∷ 111 ∷ 121 ∷ []; command = command.Change (change.Call call.Destroy) }
    ∷ record { word = 114 ∷ 101 ∷ 110 ∷ 97 ∷ 109 ∷ 101 ∷ []; command = command.Change (change.Call call.Rename) }
    ∷ record { word = 115 ∷ 101 ∷ 116 ∷ 105 ∷ 110 ∷ 102 ∷ 111 ∷ []; command = command.Change (change.Call call.SetInfo) }
    ∷ record { word = 115 ∷ 101 ∷ 116 ∷ 101 ∷ 111 ∷ 102 ∷ []; command = command.Change (change.Call call.SetEof) }
    ∷ record { word = 119 ∷ 114 ∷ 105 ∷ 116 ∷ 101 ∷ []; command = command.Change change.Write }
    ∷ record { word = 102 ∷ 105 ∷ 108 ∷ 108 ∷ []; command = command.Change change.Fill }
    ∷ record { word = 115 ∷ 101 ∷ 116 ∷ []; command = command.Change change.Set }
    ∷ record { word = 115 ∷ 101 ∷ 116 ∷ 114 ∷ 117 ∷ 110 ∷ []; command = command.Change change.SetRun }
    ∷ []

-- the command whose word passes a test, or another where none does
unfoldable pub named : (List ℕ → Bool) → List Named → Command → Command
named p [] other = other
named p (x ∷ xs) other = elim (p x.word) [ true ↦ x.command | false ↦ named p xs other ]

-- the line's word, which ends at e, is w
abbrev pub says : Bytes → ℕ → ℕ → List ℕ → Bool
says s n e w = is_word s n e (view w) (length w)

abbrev pub look_from : Bytes → ℕ → ℕ → Command
look_from s n e = named (says s n e) look_words command.Unknown

abbrev pub change_from : Bytes → ℕ → ℕ → Command
change_from s n e = named (says s n e) change_words (look_from s n e)

-- a line by its word; "the command is unknown" where there is none
unfoldable pub command_of : Bytes → ℕ → Command
command_of s n = change_from s n (end_at s n space' 0)

-- the command that reading a line answers, where its fields are good and where they are bad
abbrev pub named_by : Result Command BadFields → Command
named_by (Ok k) = k
named_by (Err e) = e.command

-- The forms of a command's fields: T a text, S a second one, D data, N a number, H one of at most 65,535, B a byte.
abbrev pub look_forms : Look → List ℕ
look_forms look.Digest = []
look_forms look.Block = 78 ∷ []
look_forms look.Space = []
look_forms look.GetInfo = 84 ∷ []
look_forms look.Read = 84 ∷ 78 ∷ 78 ∷ []
look_forms look.Find = 84 ∷ []

abbrev pub call_forms : Call → List ℕ
call_forms call.Format = 84 ∷ 72 ∷ 72 ∷ []
call_forms call.Create = 84 ∷ 66 ∷ 66 ∷ 72 ∷ 72 ∷ 72 ∷ []
call_forms call.Destroy = 84 ∷ []
call_forms call.Rename = 84 ∷ 83 ∷ []
call_forms call.SetInfo = 84 ∷ 66 ∷ 72 ∷ 72 ∷ 72 ∷ []
call_forms call.SetEof = 84 ∷ 78 ∷ 72 ∷ 72 ∷ []

abbrev pub change_forms : Change → List ℕ
change_forms (change.Call k) = call_forms k
change_forms change.Write = 84 ∷ 78 ∷ 72 ∷ 72 ∷ 68 ∷ []
change_forms change.Fill = 84 ∷ 78 ∷ 72 ∷ 72 ∷ 78 ∷ 66 ∷ []
change_forms change.Set = 78 ∷ 68 ∷ []
change_forms change.SetRun = 78 ∷ 78 ∷ 66 ∷ []

abbrev pub forms_of : Command → List ℕ
forms_of command.Blocks = 78 ∷ []
forms_of command.Bytes = 78 ∷ []
forms_of (command.Look k) = look_forms k
forms_of (command.Change k) = change_forms k
forms_of command.Unknown = []

-- the fields of the line in some forms, behind a place, with a buffer of m bytes
abbrev pub fields_in : Bytes → ℕ → ℕ → ℕ → List ℕ → Bytes → Bytes → Bytes → Fields
fields_in s n m at forms values room buffer =
    read_fields s n m (view forms) 0 (length forms) (record { at = at; values = values; room = room; buffer = buffer })

-- the fields of a line in the forms of its command
unfoldable pub asked : Bytes → ℕ → ℕ → Bytes → Bytes → Bytes → Fields
asked s n m values room buffer = fields_in s n m (end_at s n space' 0) (forms_of (command_of s n)) values room buffer

-- the values are within what the forms of a command allow, with a buffer of m bytes
abbrev pub Fitting : Command → ℕ → List ℕ → Type 0
Fitting k m vs = Fits m (view (forms_of k)) (length (forms_of k)) (view vs)

-- the fields that arrays hold, and those of a line, wherever the last one ends
abbrev pub held : List ℕ → List ℕ → List ℕ → Fields
held vs ts bs = record { at = 0; values = view vs; room = view ts; buffer = view bs }

abbrev pub unplaced : Fields → Fields
unplaced f = record { at = 0; values = f.values; room = f.room; buffer = f.buffer }

-- the k bytes of f from a on, and no others
abbrev pub cut : Bytes → ℕ → ℕ → Bytes
cut f a k = paste zeros 0 k (from f a)

-- the first text of some fields
abbrev pub first_text : Fields → Bytes
first_text f = cut f.room 0 (f.values 0)
