-- `sound::Turn::own_directory` meets its contract. The tests come in the order of the claims.
use Prim.{tt}
use mathlib.Core.Path.{sym, ap, ◌∙◌}
use Prim.Native.Nat.{ℕ}
use native.Mathlib.Omega.{arith}
use Rattle.model.specs.Bytes.{view}
use Rattle.model.specs.Directory.{used}
use Rattle.claims.proofs.ClaimLaws.{taken, refused}
use Rattle.marks.specs.Marks.{marks}
use Rattle.directory.specs.Search.{listed}
use Rattle.sound.proofs.WorkLaws.{must_last, no_level, misnamed, misfit, chain_left, fields_some, directory_kids, used_read}
use Rattle.sound.proofs.Turn.own_directory.Goals as goal
use Rattle.sound.proofs.Turn.own_directory.Goals.{then-self-eq0-via-then-self-eq0, then-self-eq0-via-else-self-eq0+then-not-entry_right, then-self-eq0-via-else-self-eq0+else-not-entry_right+then-not-directory_right, then-self-eq0-via-else-self-eq0+else-not-entry_right+else-not-directory_right+then-not-open_directory}

-- the first test that failed
pub returns-then-self-eq0 : goal.returns-then-self-eq0
returns-then-self-eq0 c =
    let a = c.args in
    let self = a.self.now in
    let p = c.requires in
    let v = view self.volume.img.now in
    let s = marks a.seen.now in record {
      seen_after = elim c.then-self-eq0.branch [
        | then-self-eq0-via-then-self-eq0 w ↦ no_level self.volume.n v self.levels self.home self.place s p.sort w.if-self-eq0.true
        | then-self-eq0-via-else-self-eq0+then-not-entry_right w ↦ misnamed self.volume.n v self.levels self.home self.place s p.sort w.if-self-eq0.false _ w.entry_right.ensures w.if-not-entry_right.true
        | then-self-eq0-via-else-self-eq0+else-not-entry_right+then-not-directory_right w ↦ misfit self.volume.n v self.levels self.home self.place s p.sort w.if-self-eq0.false _ w.entry_right.ensures
            a.entry p.describes.1 w.if-not-entry_right.false _ w.directory_right.ensures w.if-not-directory_right.true
        | then-self-eq0-via-else-self-eq0+else-not-entry_right+else-not-directory_right+then-not-open_directory w ↦ sym (refused self.volume.n _ _ s (marks w.open_directory.new.seen) w.open_directory.result w.if-not-open_directory.true w.open_directory.ensures.seen_after)
            ∙ chain_left self.volume.n v self.levels self.home self.place s p.sort w.if-self-eq0.false _ w.entry_right.ensures
            a.entry p.describes.1 w.if-not-entry_right.false _ w.directory_right.ensures w.if-not-directory_right.false a.key p.describes.0
      ];
      leads = tt;
    }

pub open_directory-requires : goal.open_directory-requires
open_directory-requires c =
    let a = c.args in
    let p = c.requires in
    let f = c.directory_right in
    let some = fields_some a.entry.ftype a.entry.used _ (sym f.ensures ∙ c.if-not-directory_right.false) in
    (some, omega arith, p.describes.0)

pub returns : goal.returns
returns c =
    let a = c.args in
    let self = a.self.now in
    let p = c.requires in
    let v = view self.volume.img.now in
    let e = c.entry_right in
    let f = c.directory_right in
    let k = c.open_directory in
    let fit = c.if-not-directory_right.false in
    let done = c.if-not-open_directory.false in
    let left = chain_left self.volume.n v self.levels self.home self.place (marks a.seen.now) p.sort c.if-self-eq0.false e.result e.ensures
    a.entry p.describes.1 c.if-not-entry_right.false f.result f.ensures fit a.key p.describes.0 in record {
      seen_after = must_last self.volume.n (marks k.new.seen) _ ∙ sym (taken self.volume.n _ _ (marks a.seen.now) (marks k.new.seen) k.result done k.ensures.seen_after) ∙ left;
      leads = record {
        below =
            directory_kids v self.place p.sort
            ∙ ap (λ (b : ℕ). listed v b (used v self.place)) (sym p.describes.0)
            ∙ ap (λ (u : ℕ). listed v a.key u) (sym (used_read v self.place a.entry p.describes.1));
        start = p.describes.0;
        some = fields_some a.entry.ftype a.entry.used _ (sym f.ensures ∙ fit);
        inside = k.ensures.inside done;
        level = omega (arith, c.if-self-eq0.false);
      };
    }
