-- "Traps for the trainee" that no worked case reaches: a second small table, computed like the first.
use Prim.Native.Nat.{ℕ, ◌+◌}
use mathlib.Core.Path.{◌≡◌, refl}
use mathlib.Core.List.{List, [], ◌∷◌}
use mathlib.Core.Bool.{Bool, true}
use Rattle.model.specs.Bytes.{Bytes, put, put_word}
use Rattle.model.specs.Map.{given}
use Rattle.model.specs.Refusals.{Outcome}
use Rattle.model.specs.Calls.{Nothing}
use Rattle.model.specs.Catalog.{catalog, decimal_before, hex_digit, text, line, first_line, listing, refused_line, too_large_line}
use Rattle.cases.proofs.Computing.{computing}
use Rattle.cases.proofs.Cases.{◌says◌, all, LOG, D1, write_to, read_from, set_eof_of, two, three, unused, abc, counting, after2, cases}

-- Old bytes past EOF: LOG has ABC; EOF 1, then EOF 3 again, or one byte more written: B and C do not come back.
old_bytes : Bytes → List Bool
old_bytes v =
    let a = set_eof_of 16 LOG 1 v in
    let b = set_eof_of 16 LOG 3 a.image in
    let c = write_to 16 LOG 1 abc 1 a.image in
    (a.image 3585 says 66)
    ∷ (b.number says 0)
    ∷ (b.image 3584 says 65)
    ∷ (b.image 3585 says 0)
    ∷ (b.image 3586 says 0)
    ∷ (c.number says 0)
    ∷ (c.image 3585 says 65)
    ∷ (c.image 3586 says 0)
    ∷ []

-- D1 with 513 bytes whose pointer 0 is made a hole: 2 used, block 9 free. Shrunk to a seedling, index 10 is zeroed and serves.
holed : Bytes → Bytes
holed v = put_word (given 6 (put v 5120 0) 9) (4139 + 0x13) 2

rows_hole : Outcome ℕ → Outcome Nothing → List Bool
rows_hole a b =
    let w = b.image in
    (a.number says 0)
    ∷ (b.number says 0)
    ∷ (w 4139 says 0x12)
    ∷ (two w (4139 + 0x11) says 10)
    ∷ (two w (4139 + 0x13) says 1)
    ∷ (w 5121 says 0)
    ∷ (unused 16 w says 6)
    ∷ []

hole_first : Bytes → List Bool
hole_first v =
    let a = write_to 16 D1 0 counting 513 v in
    let w = holed a.image in
    let b = set_eof_of 16 D1 100 w in
    rows_hole a b

-- A hole between: EOF 1,500 of D1, then two bytes at 1,400: blocks 9 and 12 are data, file block 1 is a hole and reads as zero.
rows_between : Outcome Nothing → Outcome ℕ → List Bool
rows_between a b =
    let v = b.image in
    let c = read_from 16 D1 600 900 v in
    (a.number says 0)
    ∷ (two a.image (4139 + 0x13) says 2)
    ∷ (b.number says 0)
    ∷ (two v (4139 + 0x13) says 3)
    ∷ (v 5120 says 9)
    ∷ (v 5121 says 0)
    ∷ (v 5122 says 11)
    ∷ (three v (4139 + 0x15) says 1500)
    ∷ (c.parts.moved says 900)
    ∷ (c.parts.buffer 0 says 0)
    ∷ (c.parts.buffer 800 says 1)
    ∷ (c.parts.buffer 801 says 2)
    ∷ (c.parts.buffer 802 says 0)
    ∷ []

hole_between : Bytes → List Bool
hole_between v =
    let a = set_eof_of 16 D1 1500 v in
    let b = write_to 16 D1 1400 counting 2 a.image in
    rows_between a b

-- what `catalog` prints after case 2, line by line
printed : List ℕ
printed =
    83 ∷ 73 ∷ 84 ∷ 69 ∷ 55 ∷ 32 ∷ 49 ∷ 54 ∷ 32 ∷ 54 ∷ 10
    ∷ 49 ∷ 32 ∷ 48 ∷ 52 ∷ 32 ∷ 49 ∷ 32 ∷ 51 ∷ 32 ∷ 47 ∷ 83 ∷ 73 ∷ 84 ∷ 69 ∷ 55 ∷ 47 ∷ 76 ∷ 79 ∷ 71 ∷ 10
    ∷ 68 ∷ 32 ∷ 48 ∷ 70 ∷ 32 ∷ 49 ∷ 32 ∷ 53 ∷ 49 ∷ 50 ∷ 32 ∷ 47 ∷ 83 ∷ 73 ∷ 84 ∷ 69 ∷ 55 ∷ 47 ∷ 68 ∷ 65 ∷ 89 ∷ 83 ∷ 10
    ∷ 49 ∷ 32 ∷ 48 ∷ 52 ∷ 32 ∷ 49 ∷ 32 ∷ 48 ∷ 32 ∷ 47 ∷ 83 ∷ 73 ∷ 84 ∷ 69 ∷ 55 ∷ 47 ∷ 68 ∷ 65 ∷ 89 ∷ 83 ∷ 47 ∷ 68 ∷ 49 ∷ 10
    ∷ []

same_text : List ℕ → List ℕ → List Bool
same_text [] [] = []
same_text [] (y ∷ ys) = (0 says 1) ∷ []
same_text (x ∷ xs) [] = (0 says 1) ∷ []
same_text (x ∷ xs) (y ∷ ys) = (x says y) ∷ same_text xs ys

listed : Bytes → List Bool
listed v = same_text (catalog 8192 v) printed

-- no image of 16 blocks, and one that is not sound: the map calls block 7 free
refused_images : Bytes → List Bool
refused_images v = same_text (catalog 8191 v) (82 ∷ 69 ∷ 70 ∷ 85 ∷ 83 ∷ 69 ∷ 68 ∷ 32 ∷ 53 ∷ 50 ∷ 10 ∷ [])

unsound_images : Bytes → List Bool
unsound_images v = same_text (catalog 8192 (put v 3072 1)) (82 ∷ 69 ∷ 70 ∷ 85 ∷ 83 ∷ 69 ∷ 68 ∷ 32 ∷ 53 ∷ 65 ∷ 10 ∷ [])

unfoldable traps : ℕ
unfolding old_bytes holed rows_hole hole_first rows_between hole_between printed same_text listed refused_images unsound_images catalog decimal_before hex_digit text line first_line listing refused_line too_large_line cases computing
traps = 0

old_bytes_law : all (after2 old_bytes) ≡ true
unfolding traps
old_bytes_law = refl

hole_first_law : all (after2 hole_first) ≡ true
unfolding traps
hole_first_law = refl

hole_between_law : all (after2 hole_between) ≡ true
unfolding traps
hole_between_law = refl

catalog_listed : all (after2 listed) ≡ true
unfolding traps
catalog_listed = refl

catalog_refused : all (after2 refused_images) ≡ true
unfolding traps
catalog_refused = refl

catalog_unsound : all (after2 unsound_images) ≡ true
unfolding traps
catalog_unsound = refl
