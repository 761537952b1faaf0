-- The bytes of a new entry and of a new subdirectory's header, field by field.
use Prim.Native.Nat.{ℕ, ◌≤◌, ◌<◌}
use mathlib.Core.Path.{◌≡◌, ◌∙◌}
use mathlib.Core.Bool.{Bool, true, false}
use lib.Dec.{eqb}
use native.Mathlib.Omega.{arith}
use Rattle.model.specs.Bytes.{Bytes, zeros, word, long}
use Rattle.model.specs.Names.{Part}
use Rattle.model.specs.Directory.{block_of, slot_of, slot_size, slots_in_block}
use Rattle.model.specs.Calls.{name_field}
use Rattle.model.specs.Format.{header_bytes}
use Rattle.model.specs.Create.{Wanted, directory_kind, entry_bytes, subdirectory_header}
use Rattle.model.specs.declared.Stamp.{Stamp}
use Rattle.model.proofs.ByteLaws.{put_at, put_off, paste_before, paste_after, put_word_out, put_long_out, word_put_word, word_put_word_off, word_put_off, word_paste_off, word_put_long_off, long_put_long, long_put_word_off, long_put_off, long_paste_off}

pub name_rest : (k : ℕ) (p : Bytes) (x : Part) (i : ℕ) → x.size < 16 → 16 ≤ i → name_field k p x i ≡ 0
unfolding name_field
name_rest k p x i h l = put_off _ 0 _ i (λ e. omega arith) ∙ paste_after zeros 1 x.size _ i (omega arith)

-- the EOF of a new entry
abbrev pub new_size : Wanted → ℕ
new_size w = elim (eqb w.kind directory_kind) [ true ↦ 512 | false ↦ 0 ]

-- an entry
module _ (p : Bytes) (x : Part) (w : Wanted) (z k : ℕ) where
  pub entry_name : (i : ℕ) → i < 16 → entry_bytes p x w z k i ≡ name_field w.kind p x i
  unfolding entry_bytes
  entry_name i l =
      put_word_out _ 0x25 k i (λ g h. omega arith)
      ∙ paste_before _ 0x21 4 _ i (omega arith)
      ∙ put_word_out _ 0x1F w.aux i (λ g h. omega arith)
      ∙ put_off _ 0x1E 0xE3 i (λ g. omega arith)
      ∙ paste_before _ 0x18 4 _ i (omega arith)
      ∙ put_long_out _ 0x15 _ i (λ g h. omega arith)
      ∙ put_word_out _ 0x13 1 i (λ g h. omega arith)
      ∙ put_word_out _ 0x11 z i (λ g h. omega arith)
      ∙ put_off _ 0x10 w.ftype i (λ g. omega arith)

  pub entry_type : entry_bytes p x w z k 0x10 ≡ w.ftype
  unfolding entry_bytes
  entry_type =
      put_word_out _ 0x25 k 0x10 (λ g h. omega arith)
      ∙ paste_before _ 0x21 4 _ 0x10 (omega arith)
      ∙ put_word_out _ 0x1F w.aux 0x10 (λ g h. omega arith)
      ∙ put_off _ 0x1E 0xE3 0x10 (λ g. omega arith)
      ∙ paste_before _ 0x18 4 _ 0x10 (omega arith)
      ∙ put_long_out _ 0x15 _ 0x10 (λ g h. omega arith)
      ∙ put_word_out _ 0x13 1 0x10 (λ g h. omega arith)
      ∙ put_word_out _ 0x11 z 0x10 (λ g h. omega arith)
      ∙ put_at _ 0x10 w.ftype

  pub entry_key : z < 65536 → word (entry_bytes p x w z k) 0x11 ≡ z
  unfolding entry_bytes
  entry_key l =
      word_put_word_off _ 0x25 k 0x11 (λ g h. omega arith)
      ∙ word_paste_off _ 0x21 4 _ 0x11 (λ g h. omega arith)
      ∙ word_put_word_off _ 0x1F w.aux 0x11 (λ g h. omega arith)
      ∙ word_put_off _ 0x1E 0xE3 0x11 (λ g h. omega arith)
      ∙ word_paste_off _ 0x18 4 _ 0x11 (λ g h. omega arith)
      ∙ word_put_long_off _ 0x15 _ 0x11 (λ g h. omega arith)
      ∙ word_put_word_off _ 0x13 1 0x11 (λ g h. omega arith)
      ∙ word_put_word _ 0x11 z l

  pub entry_used : word (entry_bytes p x w z k) 0x13 ≡ 1
  unfolding entry_bytes
  entry_used =
      word_put_word_off _ 0x25 k 0x13 (λ g h. omega arith)
      ∙ word_paste_off _ 0x21 4 _ 0x13 (λ g h. omega arith)
      ∙ word_put_word_off _ 0x1F w.aux 0x13 (λ g h. omega arith)
      ∙ word_put_off _ 0x1E 0xE3 0x13 (λ g h. omega arith)
      ∙ word_paste_off _ 0x18 4 _ 0x13 (λ g h. omega arith)
      ∙ word_put_long_off _ 0x15 _ 0x13 (λ g h. omega arith)
      ∙ word_put_word _ 0x13 1 (omega arith)

  size_small : (b : Bool) → elim b as (λ _. ℕ) [ true ↦ 512 | false ↦ 0 ] < 16777216
  size_small true = omega arith
  size_small false = omega arith

  pub entry_eof : long (entry_bytes p x w z k) 0x15 ≡ new_size w
  unfolding entry_bytes
  entry_eof =
      long_put_word_off _ 0x25 k 0x15 (λ g h. omega arith)
      ∙ long_paste_off _ 0x21 4 _ 0x15 (λ g h. omega arith)
      ∙ long_put_word_off _ 0x1F w.aux 0x15 (λ g h. omega arith)
      ∙ long_put_off _ 0x1E 0xE3 0x15 (λ g h. omega arith)
      ∙ long_paste_off _ 0x18 4 _ 0x15 (λ g h. omega arith)
      ∙ long_put_long _ 0x15 (new_size w) (size_small (eqb w.kind directory_kind))

  pub entry_up : k < 65536 → word (entry_bytes p x w z k) 0x25 ≡ k
  unfolding entry_bytes
  entry_up l = word_put_word _ 0x25 k l

-- a header
module _ (p : Bytes) (x : Part) (t : Stamp) (s : ℕ) where
  pub header_name : (i : ℕ) → i < 16 → subdirectory_header p x t s i ≡ name_field 0xE p x i
  unfolding subdirectory_header header_bytes
  header_name i l =
      put_off _ 0x26 slot_size i (λ g. omega arith)
      ∙ put_off _ 0x25 (slot_of s) i (λ g. omega arith)
      ∙ put_word_out _ 0x23 (block_of s) i (λ g h. omega arith)
      ∙ put_off _ 0x10 0x75 i (λ g. omega arith)
      ∙ put_off _ 0x20 slots_in_block i (λ g. omega arith)
      ∙ put_off _ 0x1F slot_size i (λ g. omega arith)
      ∙ put_off _ 0x1E 0xE3 i (λ g. omega arith)
      ∙ paste_before _ 0x18 4 _ i (omega arith)

  pub header_size : subdirectory_header p x t s 0x1F ≡ slot_size
  unfolding subdirectory_header header_bytes
  header_size =
      put_off _ 0x26 slot_size 0x1F (λ g. omega arith)
      ∙ put_off _ 0x25 (slot_of s) 0x1F (λ g. omega arith)
      ∙ put_word_out _ 0x23 (block_of s) 0x1F (λ g h. omega arith)
      ∙ put_off _ 0x10 0x75 0x1F (λ g. omega arith)
      ∙ put_off _ 0x20 slots_in_block 0x1F (λ g. omega arith)
      ∙ put_at _ 0x1F slot_size

  pub header_slots_law : subdirectory_header p x t s 0x20 ≡ slots_in_block
  unfolding subdirectory_header header_bytes
  header_slots_law =
      put_off _ 0x26 slot_size 0x20 (λ g. omega arith)
      ∙ put_off _ 0x25 (slot_of s) 0x20 (λ g. omega arith)
      ∙ put_word_out _ 0x23 (block_of s) 0x20 (λ g h. omega arith)
      ∙ put_off _ 0x10 0x75 0x20 (λ g. omega arith)
      ∙ put_at _ 0x20 slots_in_block

  pub header_count : x.size < 16 → (i : ℕ) → 0x21 ≤ i → i < 0x23 → subdirectory_header p x t s i ≡ 0
  unfolding subdirectory_header header_bytes
  header_count l i g h =
      put_off _ 0x26 slot_size i (λ e. omega arith)
      ∙ put_off _ 0x25 (slot_of s) i (λ e. omega arith)
      ∙ put_word_out _ 0x23 (block_of s) i (λ e f. omega arith)
      ∙ put_off _ 0x10 0x75 i (λ e. omega arith)
      ∙ put_off _ 0x20 slots_in_block i (λ e. omega arith)
      ∙ put_off _ 0x1F slot_size i (λ e. omega arith)
      ∙ put_off _ 0x1E 0xE3 i (λ e. omega arith)
      ∙ paste_after _ 0x18 4 _ i (omega arith)
      ∙ name_rest 0xE p x i l (omega arith)

  pub header_block : block_of s < 65536 → word (subdirectory_header p x t s) 0x23 ≡ block_of s
  unfolding subdirectory_header
  header_block l =
      word_put_off _ 0x26 slot_size 0x23 (λ g h. omega arith)
      ∙ word_put_off _ 0x25 (slot_of s) 0x23 (λ g h. omega arith)
      ∙ word_put_word _ 0x23 (block_of s) l

  pub header_slot : subdirectory_header p x t s 0x25 ≡ slot_of s
  unfolding subdirectory_header
  header_slot = put_off _ 0x26 slot_size 0x25 (λ g. omega arith) ∙ put_at _ 0x25 (slot_of s)

  pub header_parent : subdirectory_header p x t s 0x26 ≡ slot_size
  unfolding subdirectory_header
  header_parent = put_at _ 0x26 slot_size
