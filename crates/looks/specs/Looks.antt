-- The commands of a script that only look, as docs/REPLAY.md has them: each with its fields f, on an image v of n bytes and with a buffer of m bytes.
use Rattle.model.specs.declared.Refusal.{Refusal}
use Rattle.std.specs.Prelude.{ℕ, zero, suc, ◌+◌, ◌-◌, ◌*◌, ◌/◌, ◌≡◌, List, [], ◌∷◌, Bool, true, false, leb, eqb, Result, Ok, Err}
use Rattle.model.specs.Bytes.{Bytes, view, paste, same, zeros, word}
use Rattle.model.specs.Catalog.{refused_line}
use Rattle.model.specs.Refusals.{refusal_number, Outcome}
use Rattle.model.specs.Info.{get_info, space}
use Rattle.model.specs.Read.{Filled, read}
use Rattle.ink.specs.Ink.{Sheet, sheet, Prints}
use Rattle.ink.specs.declared.Ink.{Ink}
use Rattle.opening.specs.Opened.{opened_by}
use Rattle.opening.specs.declared.Opened.{Opened}
use Rattle.opening.specs.declared.Opened.TheVariants as opened
use Rattle.script.specs.Fields.{Fields}
use Rattle.replies.specs.Lines.{ok_line, reply, number, info_forms, info_values, read_line, digest_line, bytes_line}
use Rattle.lines.specs.declared.Look.{Look}
use Rattle.lines.specs.declared.Look.TheVariants as look
use Rattle.lines.specs.Commands.{cut, first_text}
use Rattle.lines.specs.Left.{Left, bad_left}

-- k equal bytes
abbrev pub equals : ℕ → ℕ → Bytes
equals k x = paste zeros 0 k (same x)

-- `block B`: whether the image has it, and its bytes
abbrev pub has_block : ℕ → ℕ → Bool
has_block n b = leb (b * 512 + 512) n

unfoldable pub block_line : ℕ → Bytes → ℕ → List ℕ
block_line n v b = elim (has_block n b) [ true ↦ bytes_line (cut v (b * 512) 512) 512 | false ↦ [] ]

-- `space`
unfoldable pub space_line : ℕ → Bytes → List ℕ
space_line n v = let o = space n v in reply o.number (ok_line (number ∷ number ∷ []) (o.parts.total ∷ o.parts.unused ∷ []))

-- `getinfo PATH`
unfoldable pub info_line : ℕ → Bytes → Bytes → ℕ → List ℕ
info_line n v path k = let o = get_info n v path k in reply o.number (ok_line info_forms (info_values o.parts))

-- `read PATH POSITION COUNT`: "with a buffer of COUNT bytes, each $A5 before"
unfoldable pub read_outcome : ℕ → Bytes → Fields → Outcome Filled
read_outcome n v f = read n v (first_text f) (f.values 0) (f.values 1) (equals (f.values 2) 0xA5) (f.values 2)

unfoldable pub read_look : ℕ → Bytes → ℕ → Fields → Left
read_look n v m f =
    elim (leb (f.values 2) m) [
      | true ↦
          let o = read_outcome n v f in
          record {
            good = true;
            text = reply o.number (read_line o.parts.moved o.parts.buffer (f.values 2));
            image = v;
            buffer = paste f.buffer 0 (f.values 2) o.parts.buffer;
          }
      | false ↦ bad_left v f.buffer
    ]

-- The same with a buffer of its own, where read has the outcome o: the buffer of size bytes and the page, which was s.
pub record ReadsInto (o : Outcome Filled) (size : ℕ) (s : Sheet) (r : Ink) (b p : List ℕ) : Type 0 where
  pub buffer : view b ≡ o.parts.buffer
  pub page : Prints (reply o.number (read_line o.parts.moved o.parts.buffer size)) s (sheet r p)

-- "how many blocks of its directory are read until it is found, 1 for one in the key block": from a block on, at most k more than x;
-- most is the number of blocks
unfoldable pub read_until : Bytes → ℕ → ℕ → ℕ → ℕ → ℕ → ℕ
read_until v most goal zero b x = x
read_until v most goal (suc k) b x =
    elim (eqb b goal) [
      | true ↦ x
      | false ↦ elim (leb most b) [ true ↦ x | false ↦ read_until v most goal k (word v (b * 512 + 2)) (x + 1) ]
    ]

abbrev pub blocks_read : ℕ → Bytes → ℕ → ℕ → ℕ
blocks_read n v key goal = read_until v (n / 512) goal (n / 512 - 1) key 1

abbrev pub place_forms : List ℕ
place_forms = number ∷ number ∷ number ∷ []

-- `find PATH`: "where its entry stands"; "for the volume `OK 2 1 1`"
unfoldable pub found_line : ℕ → Bytes → Result Opened Refusal → List ℕ
found_line n v (Err r) = refused_line (refusal_number r)
found_line n v (Ok (opened.Volume x)) = ok_line place_forms (2 ∷ 1 ∷ 1 ∷ [])
found_line n v (Ok (opened.Entry x home place entry)) = ok_line place_forms (place.block ∷ place.slot ∷ blocks_read n v home.key place.block ∷ [])

-- what a command leaves that changes nothing but the page
abbrev pub saying : Bool → List ℕ → Bytes → Fields → Left
saying good text v f = record { good = good; text = text; image = v; buffer = f.buffer }

-- each command by its name
unfoldable pub looked : Look → ℕ → Bytes → ℕ → Fields → Left
looked look.Digest n v m f = saying true (digest_line v n) v f
looked look.Block n v m f = saying (has_block n (f.values 0)) (block_line n v (f.values 0)) v f
looked look.Space n v m f = saying true (space_line n v) v f
looked look.GetInfo n v m f = saying true (info_line n v (first_text f) (f.values 0)) v f
looked look.Read n v m f = read_look n v m f
looked look.Find n v m f = saying true (found_line n v (opened_by n v (first_text f) (f.values 0))) v f
