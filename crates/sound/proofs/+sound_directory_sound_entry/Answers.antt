-- `sound::Volume::sound_directory` and `sound::Turn::sound_entry`, which call each other, meet their contracts. An entry's measure is twice its levels, a directory's
-- one more. Both loops keep what is still to be claimed: the entries ahead.
use Prim.Native.Nat.{ℕ, ◌+◌, ◌-◌}
use mathlib.Core.List.{List}
use mathlib.Core.Path.{◌≡◌, sym, ap, ◌∙◌}
use Rattle.model.specs.Bytes.{view, gather}
use Rattle.claims.specs.Claims.{claim, outcome}
use Rattle.marks.specs.Marks.{marks}
use Rattle.checks.proofs.Laws.{coming, coming_next}
use Rattle.sound.specs.Work.{entry_work, right_of}
use Rattle.sound.specs.declared.Own.{Own}
use Rattle.sound.proofs.WorkLaws.{entry_wrong, entry_whole, entry_inner, inner_work, opened, nothing_below, still_some, entries_start, entries_step, entries_wrong, entries_done, entries_next, list_wrong, list_right}
use native.Mathlib.Omega.{arith}
use Rattle.sound.proofs.+sound_directory_sound_entry.Goals as goal

pub Volume::sound_directory-loop-done-init : goal.Volume::sound_directory-loop-done-init
Volume::sound_directory-loop-done-init t c =
    let a = c.args in
    let self = a.self.now in
    let v = view self.img.now in
    let z : a.used - 0 ≡ a.used = omega arith in
    (coming v self.n a.key a.used _ z c.requires.inside, (λ h. omega arith), rw z (entries_start self.n v a.levels a.key (marks a.seen.now) a.used (omega arith)))

pub Volume::sound_directory-returns-then-not-sound_entry : goal.Volume::sound_directory-returns-then-not-sound_entry
Volume::sound_directory-returns-then-not-sound_entry t c =
    let a = c.args in
    let self = a.self.now in
    let v = view self.img.now in
    let l = c.loop-done in
    let m = c.loop-place in
    let e = c.sound_entry in
    list_wrong self.n v a.levels a.key a.used (marks a.seen.now) (marks e.new.seen)
    (entries_wrong self.n v a.levels a.key m.place l.block (a.used - (l._done + 1)) (marks m.seen) (marks e.new.seen) e.result
    c.loop-place-test.true e.ensures c.if-not-sound_entry.true
    ∙ m.invariant
    ∙ ap (λ (ss : List ℕ). claim self.n (gather (entry_work v a.levels a.key) ss) (marks l.seen)) (sym (still_some v l.first l.block (a.used - l._done) (a.used - (l._done + 1)) (omega arith)))
    ∙ l.invariant.2)

pub Volume::sound_directory-loop-place-preserved : goal.Volume::sound_directory-loop-place-preserved
Volume::sound_directory-loop-place-preserved t c =
    let a = c.args in
    let self = a.self.now in
    let l = c.loop-done in
    let m = c.loop-place in
    let e = c.sound_entry in
    entries_step self.n (view self.img.now) a.levels a.key m.place l.block (a.used - (l._done + 1)) (marks m.seen) (marks e.new.seen) e.result
    c.loop-place-test.true e.ensures c.if-not-sound_entry.false
    ∙ m.invariant

pub Volume::sound_directory-loop-done-preserved : goal.Volume::sound_directory-loop-done-preserved
Volume::sound_directory-loop-done-preserved t c =
    let a = c.args in
    let self = a.self.now in
    let l = c.loop-done in
    let m = c.loop-place in
    let g = c.get_word-block in
    let v = view self.img.now in (
      coming_next v self.n l.block (a.used - l._done) _ _ g.ensures.value (omega arith) (omega arith) l.invariant.0.inside,
      (λ h. omega arith),
      entries_next self.n v a.levels a.key m.place l.block (a.used - (l._done + 1)) (marks m.seen) g.result c.loop-place-test.false g.ensures.value
          ∙ m.invariant
          ∙ ap (λ (ss : List ℕ). claim self.n (gather (entry_work v a.levels a.key) ss) (marks l.seen)) (sym (still_some v l.first l.block (a.used - l._done) (a.used - (l._done + 1)) (omega arith)))
          ∙ l.invariant.2,
    )

pub Volume::sound_directory-returns : goal.Volume::sound_directory-returns
Volume::sound_directory-returns t c =
    let a = c.args in
    let self = a.self.now in
    let v = view self.img.now in
    let l = c.loop-done in
    let u = c.unlike in
    list_right self.n v a.levels a.key a.used (marks a.seen.now) (marks l.seen) u.result u.ensures
    (entries_done self.n v a.levels a.key (marks l.seen) l.first l.block (a.used - l._done) (omega arith) ∙ l.invariant.2)

pub Turn::sound_entry-overflow_sub-self : goal.Turn::sound_entry-overflow_sub-self
Turn::sound_entry-overflow_sub-self t c =
    let self = c.args.self.now in
    let k = c.own_claims in
    let o = opened self.volume.n (view self.volume.img.now) self.levels self.place k.result _ _ c.in-Inner.is k.ensures.leads in
    omega (arith, o.level)

pub Turn::sound_entry-sound_directory-requires : goal.Turn::sound_entry-sound_directory-requires
Turn::sound_entry-sound_directory-requires t c =
    let self = c.args.self.now in
    let k = c.own_claims in
    let o = opened self.volume.n (view self.volume.img.now) self.levels self.place k.result _ _ c.in-Inner.is k.ensures.leads in
    (omega (arith, o.level), (o.some, o.inside))

pub Turn::sound_entry-returns-in-Wrong : goal.Turn::sound_entry-returns-in-Wrong
Turn::sound_entry-returns-in-Wrong t c =
    let a = c.args in
    let self = a.self.now in
    let v = view self.volume.img.now in
    let k = c.own_claims in
    entry_wrong self.volume.n v self.levels self.home self.place (marks a.seen.now) (marks k.new.seen) (right_of v k.result) k.ensures.seen_after
    (ap (right_of v) c.in-Wrong.is)

pub Turn::sound_entry-returns-in-Whole : goal.Turn::sound_entry-returns-in-Whole
Turn::sound_entry-returns-in-Whole t c =
    let a = c.args in
    let self = a.self.now in
    let v = view self.volume.img.now in
    let k = c.own_claims in
    let e = c.in-Whole.is in
    entry_whole self.volume.n v self.levels self.home self.place (marks a.seen.now) (marks k.new.seen) (right_of v k.result) k.ensures.seen_after
    (ap (right_of v) e) (nothing_below self.volume.n v self.levels self.place k.result e k.ensures.leads)

pub Turn::sound_entry-returns-in-Inner : goal.Turn::sound_entry-returns-in-Inner
Turn::sound_entry-returns-in-Inner t c =
    let a = c.args in
    let self = a.self.now in
    let v = view self.volume.img.now in
    let k = c.own_claims in
    let e = c.in-Inner.is in
    let o = opened self.volume.n v self.levels self.place k.result _ _ e k.ensures.leads in
    let s = marks k.new.seen in
    let answer = sym (ap (λ (r : Own). outcome (right_of v r) s) e) ∙ k.ensures.seen_after in
    c.sound_directory.ensures
    ∙ inner_work self.volume.n v self.levels self.place _ _ s o
    ∙ entry_inner self.volume.n v self.levels self.home self.place (marks a.seen.now) s _ answer o.level
