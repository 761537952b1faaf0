-- The answers of the calls as this paper's numbers and values, and what a public contract says with them.
-- "All other parts of a refused answer are 0."
use Rattle.model.specs.declared.Refusal.{Refusal}
use Rattle.std.specs.Prelude.{ℕ, ◌≡◌, List, length, Result, Ok, Err}
use Rattle.model.specs.Bytes.{view}
use Rattle.model.specs.Refusals.{refusal_number, Outcome}
use Rattle.model.specs.Calls.{Nothing}
use Rattle.model.specs.Info.{no_info, Space, no_space}
use Rattle.model.specs.Read.{Filled}
use Rattle.model.specs.declared.Info.{Info}
use Rattle.model.specs.declared.Space as told

-- 0 where the call is done
abbrev pub answer_number : {A : Type 0} → Result A Refusal → ℕ
answer_number (Ok a) = 0
answer_number (Err r) = refusal_number r

abbrev pub transferred : Result ℕ Refusal → ℕ
transferred (Ok k) = k
transferred (Err r) = 0

abbrev pub info_told : Result Info Refusal → Info
info_told (Ok i) = i
info_told (Err r) = no_info

abbrev pub space_told : Result told.Space Refusal → Space
space_told (Ok s) = record { total = s.total; unused = s.free }
space_told (Err r) = no_space

-- What a call that changes the image does, where its definition has the outcome o: r is its answer, l the image of n bytes it leaves.
pub record Does (o : Outcome Nothing) (n : ℕ) (r : Result (Unit {0}) Refusal) (l : List ℕ) : Type 0 where
  pub said : answer_number r ≡ o.number
  pub size : length l ≡ n
  pub bytes : view l ≡ o.image

-- write
pub record Writes (o : Outcome ℕ) (n : ℕ) (r : Result ℕ Refusal) (l : List ℕ) : Type 0 where
  pub said : answer_number r ≡ o.number
  pub moved : transferred r ≡ o.parts
  pub size : length l ≡ n
  pub bytes : view l ≡ o.image

-- read: l is the buffer of n bytes
pub record Reads (o : Outcome Filled) (n : ℕ) (r : Result ℕ Refusal) (l : List ℕ) : Type 0 where
  pub said : answer_number r ≡ o.number
  pub moved : transferred r ≡ o.parts.moved
  pub size : length l ≡ n
  pub bytes : view l ≡ o.parts.buffer

-- get info and space only tell
pub record Tells (o : Outcome Info) (r : Result Info Refusal) : Type 0 where
  pub said : answer_number r ≡ o.number
  pub told : info_told r ≡ o.parts

pub record Measures (o : Outcome Space) (r : Result told.Space Refusal) : Type 0 where
  pub said : answer_number r ≡ o.number
  pub told : space_told r ≡ o.parts
