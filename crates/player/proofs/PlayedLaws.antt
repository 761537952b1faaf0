-- What the tests and the calls of player's functions say of its definitions. Assumes nothing.
use Prim.Native.Nat.{ℕ, suc, ◌+◌, ◌-◌, ◌≤◌, ◌<◌}
use mathlib.Core.Path.{◌≡◌, refl, sym, ap, ◌∙◌}
use mathlib.Core.List.{List, [], ◌++◌}
use mathlib.Core.Bool.{Bool, true, false}
use native.Mathlib.Omega.{arith}
use lib.Dec.{eqb, leb}
use lib.ListN.{length, replicate, take, drop}
use borrow.Author.Tests.{le-leb, lt-leb, lt-ltb, le-ltb, eq-eqb, ne_eqb}
use Rattle.model.specs.Bytes.{Bytes, view, paste, zeros, clear, ◌and◌, ◌or◌}
use Rattle.model.specs.Catalog.{newline}
use Rattle.model.proofs.ByteLaws.{length_part, part_self}
use Rattle.ink.specs.Ink.{Sheet, sheet, Prints}
use Rattle.ink.specs.declared.Ink.{Ink}
use Rattle.ink.proofs.InkLaws.{◌then◌}
use Rattle.script.specs.Fields.{Fields, end_at, Takes}
use Rattle.replies.specs.Lines.{ok_line, bad_line}
use Rattle.lines.specs.declared.Command.{Command}
use Rattle.lines.specs.declared.Command.TheVariants as command
use Rattle.std.specs.Prelude.{Result, Ok, Err}
use Rattle.std.specs.Result.{is_ok}
use Rattle.lines.specs.declared.BadLine.{BadLine}
use Rattle.lines.specs.Commands.{command_of, asked, held, unplaced, cut}
use Rattle.lines.specs.Left.{Left}
use Rattle.lines.specs.Left as left
use Rattle.lines.proofs.PartLaws.{view_cut, view_zeros, part_as, front_back}
use Rattle.player.specs.Played.{Rooms, Stage, After, refused, renewed, on_image, obeyed, answered, commanded, is_silent, ready, printed, page_of, played, played_from, played_all, staged, rooms, Holds, stage, size_left, Leaves, Renews}

-- A line that prints nothing.
module _ (s : Bytes) (n : ℕ) where
  pub silent_empty : n ≡ 0 → true ≡ is_silent s n
  unfolding is_silent ◌or◌
  silent_empty h = rw (eq-eqb n 0 h, ◌or◌)

  pub silent_long : 4096 < n → false ≡ is_silent s n
  unfolding is_silent ◌or◌ ◌and◌
  silent_long h = rw (ne_eqb n 0 (λ e. omega arith), lt-leb n 4096 h, ◌or◌, ◌and◌)

  pub silent_byte : (n ≡ 0 → ⊥) → n ≤ 4096 → eqb (s 0) 35 ≡ is_silent s n
  unfolding is_silent ◌or◌ ◌and◌
  silent_byte h l = rw (ne_eqb n 0 h, le-leb n 4096 l, ◌or◌, ◌and◌)

-- The page before a line.
pub ready_same : (used : ℕ) → used ≤ 61440 → used ≡ ready used
unfolding ready
ready_same used h = rw (le-leb used 61440 h, ready)

pub ready_empty : (used : ℕ) → 61440 < used → 0 ≡ ready used
unfolding ready
ready_empty used h = rw (lt-leb used 61440 h, ready)

-- What a command leaves, by another name.
pub leaves_as : {o u : After} {had : ℕ} {s : Sheet} {r : Result ℕ BadLine} {k : Ink} {i b p : List ℕ} → o ≡ u → Leaves u had s r k i b p → Leaves o had s r k i b p
leaves_as e l = rw e l

-- A new image, as it was asked for.
pub renewed_leaves : (image buffer page : List ℕ) (wanted size used : ℕ) {s : Sheet} {r : Result ℕ BadLine} {k : Ink} {i p : List ℕ} → Renews (length image) wanted size (view image) s r k i p
    → Leaves (renewed (rooms image buffer page) wanted (stage size used image buffer page) (view buffer)) size s r k i buffer p
unfolding renewed
renewed_leaves image buffer page wanted size used {s} {r} {k} {i} {p} h = go (leb wanted (length image)) h.size h.good h.image h.page
  where
    go : (b : Bool) → size_left size r ≡ elim b [ true ↦ wanted | false ↦ size ] → is_ok r ≡ b → view i ≡ elim b [ true ↦ clear (view image) 0 wanted | false ↦ view image ]
        → Prints (elim b [ true ↦ ok_line [] [] | false ↦ [] ]) s (sheet k p)
        → Leaves (elim b [
          | true ↦ record { size = wanted; image = clear (view image) 0 wanted; buffer = view buffer; good = true; text = ok_line [] [] }
          | false ↦ refused (stage size used image buffer page) (view buffer)
        ]) size s r k i buffer p
    go true e g f w = record { size = e; good = g; image = f; buffer = refl; page = w }
    go false e g f w = record { size = e; good = g; image = f; buffer = refl; page = w }

-- A command on the image, which is lent as the first bytes of its room: what it does goes by the image's length and bytes, and ys come back for them.
module _ (image : List ℕ) (size : ℕ) (fits : size ≤ length image) where
  pub on_image_law : (does : ℕ → Bytes → Left) (used : ℕ) (buffer page ys : List ℕ) {s : Sheet} {r : Result (Unit {0}) BadLine} {told : Result ℕ BadLine} {k : Ink} {i b p : List ℕ}
      → view i ≡ paste (view image) 0 size (view ys) → size_left size told ≡ size → is_ok told ≡ is_ok r
      → left.Leaves (does (length (take (size - 0) (drop 0 image))) (view (take (size - 0) (drop 0 image)))) s r k ys b p
      → Leaves (on_image (stage size used image buffer page) (does size (cut (view image) 0 size))) size s told k i b p
  on_image_law does used buffer page ys {s} {r} {told} {k} {i} {b} {p} e kept same l =
      let m = part_as (λ v n. left.Leaves (does n v) s r k ys b p) image 0 size size (omega arith) fits l in
      record { size = kept; good = same ∙ m.good; image = e ∙ ap (paste (view image) 0 size) m.image; buffer = m.buffer; page = m.page }

  -- what only looks gives the same bytes back
  pub looked_back : view image ≡ paste (view image) 0 size (view (take (size - 0) (drop 0 image)))
  looked_back = let d : size - 0 ≡ size = omega arith in rw d (sym (part_self image 0 size))

  pub changed_back : (ys : List ℕ) → length ys ≡ length (take (size - 0) (drop 0 image)) → view (ys ++ drop (size - 0) (drop 0 image)) ≡ paste (view image) 0 size (view ys)
  changed_back ys e = let d : size - 0 ≡ size = omega arith in front_back image ys size fits (e ∙ length_part image 0 (size - 0) (omega arith) ∙ d)

-- A command by its name.
pub obeyed_by : (r : Rooms) (t : Stage) (f : Fields) {k j : Command} {had : ℕ} {s : Sheet} {told : Result ℕ BadLine} {ink : Ink} {i b p : List ℕ} → k ≡ j → Leaves (obeyed r j t f) had s told ink i b p
    → Leaves (obeyed r k t f) had s told ink i b p
obeyed_by r t f e l = leaves_as (ap (λ k. obeyed r k t f) e) l

-- What a stage says of the buffer and the page says nothing to a command with its fields.
obeyed_same : (r : Rooms) (k : Command) (f : Fields) (size u v : ℕ) (i b c p q : List ℕ) → obeyed r k (stage size u i b p) f ≡ obeyed r k (stage size v i c q) f
unfolding obeyed renewed
obeyed_same r command.Blocks f size u v i b c p q = refl
obeyed_same r command.Bytes f size u v i b c p q = refl
obeyed_same r (command.Look k) f size u v i b c p q = refl
obeyed_same r (command.Change k) f size u v i b c p q = refl
obeyed_same r command.Unknown f size u v i b c p q = refl

-- A line that is too long.
pub commanded_long : (r : Rooms) (s : Bytes) (n : ℕ) (t : Stage) → 4096 < n → commanded r s n t ≡ refused t t.buffer
unfolding commanded
commanded_long r s n t h = rw (lt-leb n 4096 h, commanded)

-- A line whose fields were read, into values and a room of zeros: a bad one, and a good one.
module _ (line image buffer page : List ℕ) (size used : ℕ) (short : length line ≤ 4096) (good : Bool) (vs texts b : List ℕ)
    (k : Takes (asked (view line) (length line) (length buffer) (view (replicate {A = ℕ} 8 0)) (view (replicate {A = ℕ} 256 0)) (view buffer)) (length line) good vs texts b) where
  taken : Takes (asked (view line) (length line) (length buffer) zeros zeros (view buffer)) (length line) good vs texts b
  taken = rw (view_zeros 256) at (rw (view_zeros 8) at k)

  ends : (g : Bool) → good ≡ g → eqb (asked (view line) (length line) (length buffer) zeros zeros (view buffer)).at (length line) ≡ g
  ends g h = sym taken.good ∙ h

  pub commanded_bad : good ≡ false
      → commanded (rooms image buffer page) (view line) (length line) (stage size used image buffer page) ≡ refused (stage size used image buffer page) (view b)
  unfolding commanded answered
  commanded_bad h = rw (le-leb (length line) 4096 short, ends false h, commanded, answered) (ap (refused (stage size used image buffer page)) (sym taken.buffer))

  pub commanded_good : (c : Command) (told : Result ℕ BadLine) (ink : Ink) (s : Sheet) (i b' p : List ℕ) → good ≡ true → c ≡ command_of (view line) (length line) → length b ≡ length buffer
      → Leaves (obeyed (rooms image b page) c (stage size used image b page) (held vs texts b)) size s told ink i b' p
      → Leaves (commanded (rooms image buffer page) (view line) (length line) (stage size used image buffer page)) size s told ink i b' p
  unfolding commanded answered
  commanded_good c told ink s i b' p h e n l =
      rw (le-leb (length line) 4096 short, ends true h, commanded, answered)
      (rw (← taken.values, ← taken.room, ← taken.buffer, ← e, ← n, obeyed_same (rooms image b page) c (held vs texts b) size used used image buffer b page page) l)

-- What is in use of the page says nothing to a command.
commanded_same : (r : Rooms) (s : Bytes) (n size u v : ℕ) (i b p : List ℕ) → commanded r s n (stage size u i b p) ≡ commanded r s n (stage size v i b p)
unfolding commanded answered
commanded_same r s n size u v i b p =
    let f = asked s n r.buffer zeros zeros (view b) in
    let t = stage size u i b p in
    ap (λ (o : After). elim (leb n 4096) [ true ↦ elim (eqb f.at n) [ true ↦ o | false ↦ refused t f.buffer ] | false ↦ refused t t.buffer ])
    (obeyed_same r (command_of s n) (unplaced f) size u v i b b p p)

-- A line played.
module _ (r : Rooms) (s : Bytes) (n x : ℕ) (t : Stage) where
  pub played_silent : true ≡ is_silent s n → t ≡ played r s n x t
  unfolding played
  played_silent h = rw (← h, played)

  played_by : (size : ℕ) (told : Ink) (i b p : List ℕ) → false ≡ is_silent s n → size ≡ (commanded r s n t).size
      → view i ≡ (commanded r s n t).image → view b ≡ (commanded r s n t).buffer
      → Prints (printed (commanded r s n t) x) (page_of r t) (sheet told p) → stage size told.at i b p ≡ played r s n x t
  unfolding played
  played_by size told i b p h e f g k = rw (← h, ap (λ u. u.at) k.same, ap (λ u. u.bytes) k.same, e, f, g, played)

-- A line that is no comment: a good one, and a bad one.
module _ (line image buffer page : List ℕ) (x size used : ℕ) (ink : Ink) (r : Result ℕ BadLine) (k : Ink) (i b p : List ℕ) (loud : false ≡ is_silent (view line) (length line))
    (blank : ink ≡ record { skip = 0; at = ready used })
    (l : Leaves (commanded (rooms image buffer page) (view line) (length line) (stage size ink.at image buffer page)) size (sheet ink page) r k i b p) where
  does : After
  does = commanded (rooms image buffer page) (view line) (length line) (stage size used image buffer page)

  same : commanded (rooms image buffer page) (view line) (length line) (stage size ink.at image buffer page) ≡ does
  unfolding does
  same = commanded_same (rooms image buffer page) (view line) (length line) size ink.at used image buffer page

  fresh : sheet ink page ≡ page_of (rooms image buffer page) (stage size used image buffer page)
  fresh = rw blank

  ended : (told : Ink) (p' : List ℕ) → Prints (printed does x) (page_of (rooms image buffer page) (stage size used image buffer page)) (sheet told p')
      → stage (size_left size r) told.at i b p' ≡ played (rooms image buffer page) (view line) (length line) x (stage size used image buffer page)
  unfolding does
  ended told p' w =
      played_by (rooms image buffer page) (view line) (length line) x (stage size used image buffer page) (size_left size r) told i b p' loud (l.size ∙ ap (λ u. u.size) same)
      (l.image ∙ ap (λ u. u.image) same)
      (l.buffer ∙ ap (λ u. u.buffer) same)
      w

  pub line_good : (n : ℕ) → r ≡ Ok n → stage n k.at i b p ≡ played (rooms image buffer page) (view line) (length line) x (stage size used image buffer page)
  unfolding printed
  line_good n h =
      let e : does.good ≡ true = sym (l.good ∙ ap (λ u. u.good) same) ∙ ap is_ok h in
      rw h at (ended k p (rw (e, printed) (rw (same, fresh) at l.page)))

  pub line_bad : (e : BadLine) (told : Ink) (p' : List ℕ) → r ≡ Err e → Prints (bad_line x) (sheet k p) (sheet told p')
      → stage size told.at i b p' ≡ played (rooms image buffer page) (view line) (length line) x (stage size used image buffer page)
  unfolding printed
  line_bad e told p' h w =
      let f : does.good ≡ false = sym (l.good ∙ ap (λ u. u.good) same) ∙ ap is_ok h in
      rw h at (ended told p' (rw (f, printed) (rw (same, fresh) at l.page then w)))

-- The lines from a place on, which x lines precede: none, the last, and one that others follow.
module _ (r : Rooms) (s : Bytes) (n : ℕ) where
  abbrev pub rest : ℕ → ℕ → Stage → Stage
  rest a x t = played_from r s n (n + 1 - x) a x t

  abbrev pub turn : ℕ → ℕ → ℕ → Stage → Stage
  turn a e x t = played r (cut s a (e - a)) (e - a) (x + 1) t

  pub rest_none : (a x : ℕ) (t : Stage) → n ≤ a → x ≤ n → rest a x t ≡ t
  unfolding played_from
  rest_none a x t h l = let f : n + 1 - x ≡ suc (n - x) = omega arith in rw (f, le-ltb a n h, played_from)

  rest_last : (a e x : ℕ) (t : Stage) → a < n → x ≤ a → e ≡ end_at s n newline a → e ≡ n → rest a x t ≡ turn a e x t
  unfolding played_from
  rest_last a e x t h l p q = let f : n + 1 - x ≡ suc (n - x) = omega arith in rw (p, f, lt-ltb a n h, eq-eqb (end_at s n newline a) n (sym p ∙ q), played_from)

  rest_more : (a e x : ℕ) (t : Stage) → a < n → x ≤ a → e ≡ end_at s n newline a → (e ≡ n → ⊥) → rest a x t ≡ rest (e + 1) (x + 1) (turn a e x t)
  unfolding played_from
  rest_more a e x t h l p q =
      let f : n + 1 - x ≡ suc (n - x) = omega arith in
      let g : n + 1 - (x + 1) ≡ n - x = omega arith in
      rw (p, f, g, lt-ltb a n h, ne_eqb (end_at s n newline a) n (λ z. q (p ∙ z)), played_from)

  pub rest_all : (t : Stage) → rest 0 0 t ≡ played_from r s n (n + 1) 0 0 t
  rest_all t = let f : n + 1 - 0 ≡ n + 1 = omega arith in rw f

-- A turn of the loop: the line is lent as a part of the text, and the rooms have kept their lengths.
module _ (text i₀ b₀ p₀ i b p : List ℕ) (a e x : ℕ) (t u : Stage) (image : length i ≡ length i₀) (buffer : length b ≡ length b₀) (page : length p ≡ length p₀)
    (starts : a ≤ e) (ends : e ≤ length text)
    (line : u ≡ played (rooms i b p) (view (take (e - a) (drop a text))) (length (take (e - a) (drop a text))) (x + 1) t) where
  turned : u ≡ turn (rooms i₀ b₀ p₀) (view text) (length text) a e x t
  turned =
      line
      ∙ rw (image, buffer, page, length_part text a (e - a) (omega arith), view_cut text a (e - a))

  module _ (all : Stage) (inside : a < length text) (counted : x ≤ a) (found : e ≡ end_at (view text) (length text) newline a)
      (so_far : rest (rooms i₀ b₀ p₀) (view text) (length text) a x t ≡ all) where
    pub turn_last : e ≡ length text → u ≡ all
    turn_last h = turned ∙ sym (rest_last (rooms i₀ b₀ p₀) (view text) (length text) a e x t inside counted found h) ∙ so_far

    pub turn_again : (e ≡ length text → ⊥) → rest (rooms i₀ b₀ p₀) (view text) (length text) (e + 1) (x + 1) u ≡ all
    turn_again h =
        ap (rest (rooms i₀ b₀ p₀) (view text) (length text) (e + 1) (x + 1)) turned
        ∙ sym (rest_more (rooms i₀ b₀ p₀) (view text) (length text) a e x t inside counted found h)
        ∙ so_far

-- The rooms at the end.
pub holds : (t : Stage) (size used : ℕ) (i b p : List ℕ) → stage size used i b p ≡ t → Holds t i b p
holds t size used i b p e = record { image = ap (λ u. u.image) e; buffer = ap (λ u. u.buffer) e; page = ap (λ u. u.page) e }

module _ (r : Rooms) (s : Bytes) (n : ℕ) (i b p : Bytes) where
  pub staged_large : 1048577 ≤ n → record { size = 0; image = i; buffer = b; page = p; used = 0 } ≡ staged r s n i b p
  unfolding staged
  staged_large h = rw (lt-leb n 1048576 (omega arith), staged)

  pub staged_played : n < 1048577 → played_all r s n i b p ≡ staged r s n i b p
  unfolding staged
  staged_played h = rw (le-leb n 1048576 (omega arith), staged)
