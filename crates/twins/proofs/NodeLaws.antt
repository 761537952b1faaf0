-- The nodes' children on each side, where one node is stored. Assumes nothing.
use Prim.Native.Nat.{ℕ, ◌<◌}
use mathlib.Core.Path.{◌≡◌, ap, ◌∙◌, fun_ext}
use mathlib.Core.List.{List}
use lib.ListN.{length, get_or, set}
use lib.Seq.{get_or-set_same, get_or-set_other}
use Rattle.model.specs.Bytes.{put}
use Rattle.model.proofs.ByteLaws.{at_or_off, put_by}
use Rattle.twins.specs.declared.Node.{Node}
use Rattle.twins.specs.Twins.{leaf, lefts, rights}

module _ (ns : List Node) (i : ℕ) (x : Node) (h : i < length ns) where
  pub lefts_set : lefts (set ns i x) ≡ put (lefts ns) i x.left
  unfolding lefts
  lefts_set =
      put_by (lefts (set ns i x)) (lefts ns) i x.left (ap (λ (n : Node). n.left) (get_or-set_same ns i x leaf h))
      (λ j n. ap (λ (m : Node). m.left) (get_or-set_other ns i j x leaf n))

  pub rights_set : rights (set ns i x) ≡ put (rights ns) i x.right
  unfolding rights
  rights_set =
      put_by (rights (set ns i x)) (rights ns) i x.right (ap (λ (n : Node). n.right) (get_or-set_same ns i x leaf h))
      (λ j n. ap (λ (m : Node). m.right) (get_or-set_other ns i j x leaf n))

  -- the same child on that side
  pub lefts_kept : x.left ≡ (get_or ns i leaf).left → lefts (set ns i x) ≡ lefts ns
  unfolding lefts
  lefts_kept e =
      fun_ext (λ j. at_or_off j i (λ p. rw p (ap (λ (n : Node). n.left) (get_or-set_same ns i x leaf h) ∙ e))
      (λ n. ap (λ (m : Node). m.left) (get_or-set_other ns i j x leaf n)))

  pub rights_kept : x.right ≡ (get_or ns i leaf).right → rights (set ns i x) ≡ rights ns
  unfolding rights
  rights_kept e =
      fun_ext (λ j. at_or_off j i (λ p. rw p (ap (λ (n : Node). n.right) (get_or-set_same ns i x leaf h) ∙ e))
      (λ n. ap (λ (m : Node). m.right) (get_or-set_other ns i j x leaf n)))
