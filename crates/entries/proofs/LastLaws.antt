-- The last name of a proper path, lent as a part of it, is stored as the path's last part. Assumes nothing.
use mathlib.Core.Path.{◌≡◌, refl, sym, ap, ◌∙◌}
use mathlib.Core.Bool.{true}
use mathlib.Core.List.{List, [], ◌∷◌}
use Prim.Native.Nat.{ℕ, ◌-◌, ◌≤◌}
use lib.ListN.{length, drop, length-drop}
use Rattle.model.specs.Bytes.{Bytes, view}
use Rattle.model.specs.Names.{Part, part, parts, proper_path}
use Rattle.model.specs.Calls.{last_part}
use Rattle.model.specs.Create.{Wanted, entry_bytes, subdirectory_header}
use Rattle.model.specs.declared.Stamp.{Stamp}
use Rattle.names.specs.Steps.{last_start, step_end, parts_left}
use Rattle.names.specs.Steps.{last_part as last_of}
use Rattle.names.proofs.CursorLaws.{path_first, path_last, path_last_name, name_size_law}
use Rattle.names.proofs.PartLaws.{drop_run}
use Rattle.entries.proofs.Laws.{part_entry, part_subdirectory}

same_last : (x : Part) (xs : List Part) → last_part (x ∷ xs) ≡ last_of x xs
unfolding last_part last_of
same_last x [] = refl
same_last x (y ∷ r) = same_last y r

-- of one part at least
last_of_law : (x : Part) (xs : List Part) (y : Part) (r : List Part) → xs ≡ y ∷ r → last_part xs ≡ last_of x xs
unfolding last_of
last_of_law x xs y r e = ap last_part e ∙ same_last y r ∙ sym (ap (last_of x) e)

pub path_part : (p : Bytes) (n : ℕ) → proper_path p n ≡ true → last_part (parts p n) ≡ part (last_start p n) (n - last_start p n)
path_part p n h =
    last_of_law (part 0 0) (parts p n) (part 1 (step_end p n 0 - 1)) (parts_left p n (step_end p n 0)) (path_first p n h) ∙ path_last p n h (part 0 0)

module _ (xs : List ℕ) (proper : proper_path (view xs) (length xs) ≡ true) where
  abbrev start : ℕ
  start = last_start (view xs) (length xs)

  abbrev name : List ℕ
  name = drop start xs

  -- it is short enough to be stored
  pub last_size : length name ≤ 15
  last_size = rw (length-drop start xs) (name_size_law (view xs) start (length xs - start) (path_last_name (view xs) (length xs) proper)).1

  pub last_entry : (w : Wanted) (z d : ℕ)
      → entry_bytes (view name) (part 0 (length name)) w z d ≡ entry_bytes (view xs) (last_part (parts (view xs) (length xs))) w z d
  last_entry w z d =
      ap (λ k. entry_bytes (view name) (part 0 k) w z d) (length-drop start xs)
      ∙ part_entry (view name) (view xs) start (length xs - start) (drop_run xs start (length xs - start)) w z d
      ∙ ap (λ x. entry_bytes (view xs) x w z d) (sym (path_part (view xs) (length xs) proper))

  pub last_subdirectory : (t : Stamp) (d : ℕ)
      → subdirectory_header (view name) (part 0 (length name)) t d ≡ subdirectory_header (view xs) (last_part (parts (view xs) (length xs))) t d
  last_subdirectory t d =
      ap (λ k. subdirectory_header (view name) (part 0 k) t d) (length-drop start xs)
      ∙ part_subdirectory (view name) (view xs) start (length xs - start) (drop_run xs start (length xs - start)) t d
      ∙ ap (λ x. subdirectory_header (view xs) x t d) (sym (path_part (view xs) (length xs) proper))
