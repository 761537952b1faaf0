-- A script played line by line, as docs/REPLAY.md has it. What is printed goes on a page, which is written out and used again from its start when
-- it has no room for a line.
use Rattle.std.specs.Prelude.{ℕ, zero, suc, ◌+◌, ◌-◌, ◌*◌, ◌≡◌, List, [], ◌++◌, Bool, true, false, Result, Ok, Err, leb, ltb, eqb, length}
use Rattle.std.specs.Result.{is_ok}
use Rattle.model.specs.Bytes.{Bytes, view, paste, zeros, clear, ◌and◌, ◌or◌}
use Rattle.model.specs.Catalog.{newline}
use Rattle.ink.specs.Ink.{Sheet, sheet, emit, Prints}
use Rattle.ink.specs.declared.Ink.{Ink}
use Rattle.script.specs.Fields.{Fields, end_at}
use Rattle.replies.specs.Lines.{ok_line, bad_line}
use Rattle.lines.specs.declared.Command.{Command}
use Rattle.lines.specs.declared.Command.TheVariants as command
use Rattle.lines.specs.Commands.{command_of, asked, unplaced, cut}
use Rattle.lines.specs.Left.{Left}
use Rattle.looks.specs.Looks.{looked}
use Rattle.changes.specs.Changes.{changed}
use Rattle.lines.specs.declared.BadLine.{BadLine}

-- "A line of more than 4,096 bytes [..] is bad"; no line that is printed is longer either.
abbrev pub line_most : ℕ
line_most = 4096

abbrev pub page_most : ℕ
page_most = 65536

-- The rooms that are lent, by their lengths.
pub record Rooms : Type 0 where
  pub image : ℕ
  pub buffer : ℕ
  pub page : ℕ

-- Between two lines: the image's length, its room, the buffer, the page and how many bytes of it are in use.
pub record Stage : Type 0 where
  pub size : ℕ
  pub image : Bytes
  pub buffer : Bytes
  pub page : Bytes
  pub used : ℕ

-- What a command leaves: the image's length and its room, the buffer, whether the line was good and what is printed.
pub record After : Type 0 where
  pub size : ℕ
  pub image : Bytes
  pub buffer : Bytes
  pub good : Bool
  pub text : List ℕ

-- a bad line
abbrev pub refused : Stage → Bytes → After
refused t buffer = record { size = t.size; image = t.image; buffer = buffer; good = false; text = [] }

-- `blocks N` and `bytes LENGTH`: "a new image of N x 512 zero bytes", of so many where the room has them
unfoldable pub renewed : Rooms → ℕ → Stage → Bytes → After
renewed r wanted t buffer =
    elim (leb wanted r.image) [
      | true ↦ record { size = wanted; image = clear t.image 0 wanted; buffer = buffer; good = true; text = ok_line [] [] }
      | false ↦ refused t buffer
    ]

-- what a command on the image as it is leaves
abbrev pub on_image : Stage → Left → After
on_image t o = record { size = t.size; image = paste t.image 0 t.size o.image; buffer = o.buffer; good = o.good; text = o.text }

-- a command with its fields
unfoldable pub obeyed : Rooms → Command → Stage → Fields → After
obeyed r command.Blocks t f = renewed r (f.values 0 * 512) t f.buffer
obeyed r command.Bytes t f = renewed r (f.values 0) t f.buffer
obeyed r (command.Look k) t f = on_image t (looked k t.size (cut t.image 0 t.size) r.buffer f)
obeyed r (command.Change k) t f = on_image t (changed k t.size (cut t.image 0 t.size) r.buffer f)
obeyed r command.Unknown t f = refused t f.buffer

-- a line that is not too long: "Every field is checked before anything is done."
unfoldable pub answered : Rooms → Bytes → ℕ → Stage → After
answered r s n t =
    let f = asked s n r.buffer zeros zeros t.buffer in
    elim (eqb f.at n) [ true ↦ obeyed r (command_of s n) t (unplaced f) | false ↦ refused t f.buffer ]

unfoldable pub commanded : Rooms → Bytes → ℕ → Stage → After
commanded r s n t = elim (leb n line_most) [ true ↦ answered r s n t | false ↦ refused t t.buffer ]

-- "An empty line, and a line whose first byte is `#`, print nothing."
unfoldable pub is_silent : Bytes → ℕ → Bool
is_silent s n = eqb n 0 or leb n line_most and eqb (s 0) 35

-- how many bytes of the page are in use before a line is printed: none where it was written out
unfoldable pub ready : ℕ → ℕ
ready used = elim (leb used (page_most - line_most)) [ true ↦ used | false ↦ 0 ]

-- "A bad line prints `BAD LINE n` with its number": what a line prints
unfoldable pub printed : After → ℕ → List ℕ
printed o x = elim o.good [ true ↦ o.text | false ↦ o.text ++ bad_line x ]

abbrev pub page_of : Rooms → Stage → Sheet
page_of r t = record { skip = 0; at = ready t.used; size = r.page; bytes = t.page }

-- line x, which is s of n bytes
unfoldable pub played : Rooms → Bytes → ℕ → ℕ → Stage → Stage
played r s n x t =
    elim (is_silent s n) [
      | true ↦ t
      | false ↦
          let o = commanded r s n t in
          let p = emit (printed o x) (page_of r t) in
          record { size = o.size; image = o.image; buffer = o.buffer; page = p.bytes; used = p.at }
    ]

-- the lines of a script s of n bytes from a place on, which x lines precede; k lines at most
unfoldable pub played_from : Rooms → Bytes → ℕ → ℕ → ℕ → ℕ → Stage → Stage
played_from r s n zero a x t = t
played_from r s n (suc k) a x t =
    elim (ltb a n) [
      | true ↦
          let e = end_at s n newline a in
          let u = played r (cut s a (e - a)) (e - a) (x + 1) t in
          elim (eqb e n) [ true ↦ u | false ↦ played_from r s n k (e + 1) (x + 1) u ]
      | false ↦ t
    ]

-- "The image has length 0 at the start."; a line has a byte, its newline, or is the last
abbrev pub played_all : Rooms → Bytes → ℕ → Bytes → Bytes → Bytes → Stage
played_all r s n image buffer page = played_from r s n (n + 1) 0 0 (record { size = 0; image = image; buffer = buffer; page = page; used = 0 })

-- A script of n bytes: "for a larger one the line `SCRIPT TOO LARGE` is printed and nothing is done".
unfoldable pub staged : Rooms → Bytes → ℕ → Bytes → Bytes → Bytes → Stage
staged r s n image buffer page =
    elim (leb n 1048576) [ true ↦ played_all r s n image buffer page | false ↦ record { size = 0; image = image; buffer = buffer; page = page; used = 0 } ]

abbrev pub rooms : List ℕ → List ℕ → List ℕ → Rooms
rooms image buffer page = record { image = length image; buffer = length buffer; page = length page }

-- The rooms hold what a stage says.
pub record Holds (t : Stage) (i b p : List ℕ) : Type 0 where
  pub image : view i ≡ t.image
  pub buffer : view b ≡ t.buffer
  pub page : view p ≡ t.page

-- The stage of an image of so many bytes, in the rooms as they are.
abbrev pub stage : ℕ → ℕ → List ℕ → List ℕ → List ℕ → Stage
stage size used i b p = record { size = size; image = view i; buffer = view b; page = view p; used = used }

-- The image's length behind a command: where its line is bad it answers none, and the length is the one before.
abbrev pub size_left : ℕ → Result ℕ BadLine → ℕ
size_left had (Ok n) = n
size_left had (Err e) = had

-- A command that had an image of `had` bytes and the page s left this: its answer, the ink, the image, the buffer and the page. Where its line is
-- bad the text is empty, and ink and page are those before.
pub record Leaves (o : After) (had : ℕ) (s : Sheet) (r : Result ℕ BadLine) (k : Ink) (i b p : List ℕ) : Type 0 where
  pub size : size_left had r ≡ o.size
  pub good : is_ok r ≡ o.good
  pub image : view i ≡ o.image
  pub buffer : view b ≡ o.buffer
  pub page : Prints o.text s (sheet k p)

-- A new image was asked for, of so many bytes: of a room v of `room` bytes, whose image had `had`, this is left.
pub record Renews (room wanted had : ℕ) (v : Bytes) (s : Sheet) (r : Result ℕ BadLine) (k : Ink) (i p : List ℕ) : Type 0 where
  pub good : is_ok r ≡ leb wanted room
  pub size : size_left had r ≡ elim (leb wanted room) [ true ↦ wanted | false ↦ had ]
  pub image : view i ≡ elim (leb wanted room) [ true ↦ clear v 0 wanted | false ↦ v ]
  pub page : Prints (elim (leb wanted room) [ true ↦ ok_line [] [] | false ↦ [] ]) s (sheet k p)
