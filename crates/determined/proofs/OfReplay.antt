-- Equal results of the commands of a script, and of a script played.
use Prim.Native.Nat.{ℕ}
use mathlib.Core.Path.{◌≡◌, refl, sym, ap, ◌∙◌}
use mathlib.Core.List.{List}
use Rattle.std.specs.Result.{is_ok}
use Rattle.std.specs.Prelude.{Result, Ok, Err}
use mir.Syntax.{Dict}
use denote.RattleType.{RattleType}
use denote.Param.Laws.{Laws}
use Rattle.std.specs.declared.io.traits.Write.{Ghosts}
use Rattle.model.specs.Bytes.{Bytes, view}
use Rattle.ink.specs.Ink.{Sheet}
use Rattle.ink.specs.declared.Ink.{Ink}
use Rattle.lines.specs.declared.BadLine.{BadLine}
use Rattle.lines.specs.Left.{Left, Leaves}
use Rattle.determined.proofs.Determined.{Determined}
use Rattle.determined.proofs.OfInk.{prints_same}
use Rattle.looks.proofs.run.Reads as looks-reads
use Rattle.looks.proofs.run.Kinds as looks-kinds
use Rattle.changes.proofs.run.Reads as changes-reads
use Rattle.changes.proofs.run.Kinds as changes-kinds
use Rattle.player.proofs.play.Reads as play-reads
use Rattle.player.proofs.play.Kinds as play-kinds

-- image, buffer and page
pub record Rooms : Type 0 where
  pub image : Bytes
  pub buffer : Bytes
  pub page : Bytes

abbrev pub rooms : Bytes → Bytes → Bytes → Rooms
rooms f g h = record { image = f; buffer = g; page = h }

rooms_same : {f₁ f₂ g₁ g₂ h₁ h₂ : Bytes} → f₁ ≡ f₂ → g₁ ≡ g₂ → h₁ ≡ h₂ → rooms f₁ g₁ h₁ ≡ rooms f₂ g₂ h₂
rooms_same p q r = rw (p, q, r)

-- the ink and the rooms
pub record Inked : Type 0 where
  pub ink : Ink
  pub rooms : Rooms

abbrev pub inked : Ink → Rooms → Inked
inked k t = record { ink = k; rooms = t }

leaves_same : (o : Left) (s : Sheet) (r₁ r₂ : Result (Unit {0}) BadLine) (k₁ : Ink) (i₁ b₁ p₁ : List ℕ) (k₂ : Ink) (i₂ b₂ p₂ : List ℕ)
    → Leaves o s r₁ k₁ i₁ b₁ p₁ → Leaves o s r₂ k₂ i₂ b₂ p₂
    → (r₁ ≡ r₂) × (inked k₁ (rooms (view i₁) (view b₁) (view p₁)) ≡ inked k₂ (rooms (view i₂) (view b₂) (view p₂)))
leaves_same o s r₁ r₂ k₁ i₁ b₁ p₁ k₂ i₂ b₂ p₂ l m =
    let e = prints_same o.text s k₁ k₂ p₁ p₂ l.page m.page in
    let t = rooms_same (l.image ∙ sym m.image) (l.buffer ∙ sym m.buffer) (ap view e.1) in
    (said_same r₁ r₂ (l.good ∙ sym m.good), rw (e.0, t))
  where
    said_same : (r₁ r₂ : Result (Unit {0}) BadLine) → is_ok r₁ ≡ is_ok r₂ → r₁ ≡ r₂
    said_same (Ok a) (Ok b) p = refl
    said_same (Ok a) (Err e) p = cc
    said_same (Err e) (Ok b) p = cc
    said_same (Err e) (Err f) p = refl

-- the image is lent to be read
pub looks_one : Determined _ looks-kinds.ps looks-kinds.r looks-reads.Post Inked
    (λ _ a w. inked w.1.1.1.1.1.1.0 (rooms (view a.1.0.now) (view w.1.1.1.1.0) (view w.1.1.1.1.1.0)))
looks_one κs a r₁ r₂ w₁ w₂ p q =
    leaves_same _ _ r₁ r₂ w₁.1.1.1.1.1.1.0 a.1.0.now w₁.1.1.1.1.0 w₁.1.1.1.1.1.0 w₂.1.1.1.1.1.1.0 a.1.0.now w₂.1.1.1.1.0 w₂.1.1.1.1.1.0 p q

pub changes_one : Determined _ changes-kinds.ps changes-kinds.r changes-reads.Post Inked
    (λ _ _ w. inked w.1.1.1.1.1.1.0 (rooms (view w.1.0) (view w.1.1.1.1.0) (view w.1.1.1.1.1.0)))
changes_one κs a r₁ r₂ w₁ w₂ p q =
    leaves_same _ _ r₁ r₂ w₁.1.1.1.1.1.1.0 w₁.1.0 w₁.1.1.1.1.0 w₁.1.1.1.1.1.0 w₂.1.1.1.1.1.1.0 w₂.1.0 w₂.1.1.1.1.0 w₂.1.1.1.1.1.0 p q

-- whatever the lines are written to
pub play_one : (W : RattleType) (laws : Laws W) (ghosts : Ghosts W.Denot) (dict : Dict)
    → Determined _ (play-kinds.ps W laws) (play-kinds.r W laws) (play-reads.Post W laws ghosts dict) Rooms (λ _ _ w. rooms (view w.1.0) (view w.1.1.0) (view w.1.1.1.0))
play_one W laws ghosts dict κs a r₁ r₂ w₁ w₂ p q = (refl, rooms_same (p.image ∙ sym q.image) (p.buffer ∙ sym q.buffer) (p.page ∙ sym q.page))
