-- Cases 1 to 8 of "Worked on paper", marked (P): a table of what the definitions compute beside what document 01 says, and one theorem.
-- Every call of a case tests the whole of soundness first. Rows read raw bytes of the image, numbers of refusals and transferred counts.
use Prim.Native.Nat.{ℕ, zero, suc, ◌+◌, ◌*◌}
use mathlib.Core.Path.{◌≡◌, refl}
use mathlib.Core.List.{List, [], ◌∷◌, ◌++◌}
use mathlib.Core.Bool.{Bool, true, false}
use lib.ListN.{length}
use lib.Dec.{eqb}
use Rattle.model.specs.Bytes.{Bytes, view, zeros, is, sum, run}
use Rattle.model.specs.Refusals.{Outcome}
use Rattle.model.specs.Calls.{Nothing}
use Rattle.model.specs.Format.{format}
use Rattle.model.specs.Create.{create}
use Rattle.model.specs.Destroy.{destroy}
use Rattle.model.specs.Info.{space}
use Rattle.model.specs.Read.{Filled, read}
use Rattle.model.specs.Write.{write}
use Rattle.model.specs.SetEof.{set_eof}
use Rattle.model.specs.declared.Stamp.{Stamp}
use Rattle.cases.proofs.Computing.{computing}

infix 45 ◌says◌
-- A row: what is computed, and what document 01 says.
abbrev pub ◌says◌ : ℕ → ℕ → Bool
x says y = eqb x y

abbrev pub all : List Bool → Bool
all [] = true
all (true ∷ rows) = all rows
all (false ∷ rows) = false

-- Names and paths as bytes, and the calls on a volume of n blocks.
abbrev pub stamp : Stamp
stamp = record { date = 0x1234; time = 0x5678 }

abbrev pub site7 : List ℕ
site7 = 83 ∷ 73 ∷ 84 ∷ 69 ∷ 55 ∷ []

abbrev pub log : List ℕ
log = 76 ∷ 79 ∷ 71 ∷ []

abbrev pub days : List ℕ
days = 68 ∷ 65 ∷ 89 ∷ 83 ∷ []

abbrev pub d1 : List ℕ
d1 = 68 ∷ 49 ∷ []

abbrev pub path : List (List ℕ) → List ℕ
path [] = []
path (x ∷ xs) = 47 ∷ x ++ path xs

abbrev pub LOG : List ℕ
LOG = path (site7 ∷ log ∷ [])

abbrev pub DAYS : List ℕ
DAYS = path (site7 ∷ days ∷ [])

abbrev pub D1 : List ℕ
D1 = path (site7 ∷ days ∷ d1 ∷ [])

unfoldable pub fresh : ℕ → Bytes
fresh n = (format (n * 512) zeros (view site7) 5 stamp).image

unfoldable pub make_file : ℕ → List ℕ → Bytes → Outcome Nothing
make_file n p v = create (n * 512) v (view p) (length p) (record { kind = 1; ftype = 0x04; aux = 0; stamp = stamp })

unfoldable pub make_directory : ℕ → List ℕ → Bytes → Outcome Nothing
make_directory n p v = create (n * 512) v (view p) (length p) (record { kind = 0xD; ftype = 0x0F; aux = 0; stamp = stamp })

unfoldable pub write_to : ℕ → List ℕ → ℕ → Bytes → ℕ → Bytes → Outcome ℕ
write_to n p position data' size v = write (n * 512) v (view p) (length p) position data' size stamp

unfoldable pub read_from : ℕ → List ℕ → ℕ → ℕ → Bytes → Outcome Filled
read_from n p position size v = read (n * 512) v (view p) (length p) position zeros size

unfoldable pub set_eof_of : ℕ → List ℕ → ℕ → Bytes → Outcome Nothing
set_eof_of n p e v = set_eof (n * 512) v (view p) (length p) e stamp

unfoldable pub destroy_of : ℕ → List ℕ → Bytes → Outcome Nothing
destroy_of n p v = destroy (n * 512) v (view p) (length p)

abbrev pub two : Bytes → ℕ → ℕ
two v a = v a + 256 * v (a + 1)

abbrev pub three : Bytes → ℕ → ℕ
three v a = two v a + 65536 * v (a + 2)

unfoldable pub unused : ℕ → Bytes → ℕ
unused n v = (space (n * 512) v).parts.unused

-- the bytes A B C; and bytes that count on from 1
abbrev pub abc : Bytes
abc = view (65 ∷ 66 ∷ 67 ∷ [])

abbrev pub counting : Bytes
counting i = i + 1

-- 1. "V fresh: map $01 $FF, 9 free. 280 blocks: $01, then 34 of $FF."
unfoldable pub case1 : Bytes → Bytes → List Bool
case1 v w =
    (v 3072 says 0x01)
    ∷ (v 3073 says 0xFF)
    ∷ (v 3074 says 0)
    ∷ ((space 8192 v).number says 0)
    ∷ ((space 8192 v).parts.total says 16)
    ∷ (unused 16 v says 9)
    ∷ (w 3072 says 0x01)
    ∷ (sum (λ i. is (w i) 0xFF) (run 3073 34) says 34)
    ∷ (w 3107 says 0)
    ∷ (unused 280 w says 273)
    ∷ []

-- 2. "Create LOG (type $04): block 7. Write ABC at 0. Create directory DAYS: block 8. Create DAYS/D1 ($04): block 9. Map $00 $3F, 6 free."
-- LOG is in slot 2 of block 2 (address 1067), DAYS in slot 3 (1106), D1 in slot 2 of block 8 (4139).
unfoldable pub rows2 : Outcome Nothing → Outcome ℕ → Outcome Nothing → Outcome Nothing → List Bool
rows2 a b c d =
    let v = d.image in
    (a.number says 0)
    ∷ (two a.image (1067 + 0x11) says 7)
    ∷ (b.number says 0)
    ∷ (b.parts says 3)
    ∷ (c.number says 0)
    ∷ (two c.image (1106 + 0x11) says 8)
    ∷ (d.number says 0)
    ∷ (v 3072 says 0x00)
    ∷ (v 3073 says 0x3F)
    ∷ (unused 16 v says 6)
    ∷ (v 1067 says 0x13)
    ∷ (v (1067 + 0x10) says 0x04)
    ∷ (three v (1067 + 0x15) says 3)
    ∷ (v 3584 says 65)
    ∷ (v 3585 says 66)
    ∷ (v 3586 says 67)
    ∷ (v 3587 says 0)
    ∷ (v 1106 says 0xD4)
    ∷ (v (1106 + 0x10) says 0x0F)
    ∷ (two v (1024 + 0x25) says 2)
    ∷ (v 4100 says 0xE4)
    ∷ (two v (4096 + 0x25) says 1)
    ∷ (two v (4096 + 0x27) says 2)
    ∷ (v (4096 + 0x29) says 3)
    ∷ (v (4096 + 0x2A) says 39)
    ∷ (v 4139 says 0x12)
    ∷ (two v (4139 + 0x11) says 9)
    ∷ (two v (4139 + 0x25) says 8)
    ∷ []

unfoldable pub case2 : Bytes → List Bool
case2 v =
    let a = make_file 16 LOG v in
    let b = write_to 16 LOG 0 abc 3 a.image in
    let c = make_directory 16 DAYS b.image in
    let d = make_file 16 D1 c.image in
    rows2 a b c d

-- a case that begins with the volume of case 2
unfoldable pub after2 : (Bytes → List Bool) → List Bool
after2 rows =
    let a = make_file 16 LOG (fresh 16) in
    let b = write_to 16 LOG 0 abc 3 a.image in
    let c = make_directory 16 DAYS b.image in
    let d = make_file 16 D1 c.image in
    let v = d.image in
    rows v

-- 3. "Then 513 bytes to D1: index 10, pointers 9 and 11; 3 used, 4 free."
unfoldable pub rows3 : Outcome ℕ → List Bool
rows3 a =
    let v = a.image in
    (a.number says 0)
    ∷ (a.parts says 513)
    ∷ (v 4139 says 0x22)
    ∷ (two v (4139 + 0x11) says 10)
    ∷ (two v (4139 + 0x13) says 3)
    ∷ (three v (4139 + 0x15) says 513)
    ∷ (v 5120 says 9)
    ∷ (v 5376 says 0)
    ∷ (v 5121 says 11)
    ∷ (v 5377 says 0)
    ∷ (v 5122 says 0)
    ∷ (v 4608 says 1)
    ∷ (v 5119 says 512)
    ∷ (v 5632 says 513)
    ∷ (v 5633 says 0)
    ∷ (v 3073 says 0x0F)
    ∷ (unused 16 v says 4)
    ∷ []

unfoldable pub case3 : Bytes → List Bool
case3 v =
    let a = write_to 16 D1 0 counting 513 v in
    rows3 a

-- 4. "Then EOF 131,073: master 12, 4 used. Then EOF 100: key 9, 1 used, 6 free."
unfoldable pub rows4 : Outcome Nothing → Outcome Nothing → List Bool
rows4 a b =
    let v = a.image in
    let w = b.image in
    (a.number says 0)
    ∷ (v 4139 says 0x32)
    ∷ (two v (4139 + 0x11) says 12)
    ∷ (two v (4139 + 0x13) says 4)
    ∷ (three v (4139 + 0x15) says 131073)
    ∷ (v 6144 says 10)
    ∷ (v 6400 says 0)
    ∷ (v 6145 says 0)
    ∷ (unused 16 v says 3)
    ∷ (b.number says 0)
    ∷ (w 4139 says 0x12)
    ∷ (two w (4139 + 0x11) says 9)
    ∷ (two w (4139 + 0x13) says 1)
    ∷ (three w (4139 + 0x15) says 100)
    ∷ (w 4608 says 1)
    ∷ (w 4708 says 101)
    ∷ (w 5121 says 11)
    ∷ (w 6144 says 10)
    ∷ (w 3073 says 0x3F)
    ∷ (unused 16 w says 6)
    ∷ []

unfoldable pub case4 : Bytes → List Bool
case4 v =
    let a = write_to 16 D1 0 counting 513 v in
    let b = set_eof_of 16 D1 131073 a.image in
    let c = set_eof_of 16 D1 100 b.image in
    rows4 b c

-- 5. "After 2, 3,072 bytes to D1 fit exactly; 3,073 give $48."
unfoldable pub rows5 : Outcome ℕ → Outcome ℕ → List Bool
rows5 a b =
    let v = a.image in
    let w = b.image in
    (a.number says 0)
    ∷ (a.parts says 3072)
    ∷ (two v (4139 + 0x13) says 7)
    ∷ (v 3073 says 0x00)
    ∷ (v 8191 says 3072)
    ∷ (unused 16 v says 0)
    ∷ (b.number says 0x48)
    ∷ (b.parts says 0)
    ∷ (w 4139 says 0x12)
    ∷ (two w (4139 + 0x11) says 9)
    ∷ (w 4608 says 0)
    ∷ (w 5120 says 0)
    ∷ (w 3072 says 0x00)
    ∷ (w 3073 says 0x3F)
    ∷ (unused 16 w says 6)
    ∷ []

unfoldable pub case5 : Bytes → List Bool
case5 v =
    let a = write_to 16 D1 0 counting 3072 v in
    let b = write_to 16 D1 0 counting 3073 v in
    rows5 a b

-- 6. "After 2: write at position 4 of LOG $4D; read 1 at 3 $4C, read 0 at 3 succeeds; destroy DAYS $4E."
unfoldable pub case6 : Bytes → List Bool
case6 v =
    let a = write_to 16 LOG 4 abc 1 v in
    let b = read_from 16 LOG 3 1 v in
    let c = read_from 16 LOG 3 0 v in
    let d = read_from 16 LOG 1 9 v in
    let e = destroy_of 16 DAYS v in
    (a.number says 0x4D)
    ∷ (a.parts says 0)
    ∷ (b.number says 0x4C)
    ∷ (b.parts.moved says 0)
    ∷ (c.number says 0)
    ∷ (c.parts.moved says 0)
    ∷ (d.number says 0)
    ∷ (d.parts.moved says 2)
    ∷ (d.parts.buffer 0 says 66)
    ∷ (d.parts.buffer 1 says 67)
    ∷ (d.parts.buffer 2 says 0)
    ∷ (e.number says 0x4E)
    ∷ (e.image 1106 says 0xD4)
    ∷ []

-- 7. "15-byte name accepted, 16 $40; 64-byte proper path accepted, 65 $40; `/SITE7/` $40."
-- The path of 64 bytes: the volume, three directories with names of 15 bytes, and a name of 9.
unfoldable pub letters : ℕ → List ℕ
letters zero = []
letters (suc k) = 65 ∷ letters k

unfoldable pub long3 : List (List ℕ)
long3 = site7 ∷ letters 15 ∷ letters 15 ∷ letters 15 ∷ []

unfoldable pub rows7 : Outcome Nothing → Outcome Nothing → Outcome Nothing → Outcome Nothing → Outcome Nothing → List Bool
rows7 a b c d e =
    (a.number says 0)
    ∷ (a.image 1067 says 0xDF)
    ∷ (b.number says 0)
    ∷ (c.number says 0)
    ∷ (d.number says 0)
    ∷ (e.number says 0x40)
    ∷ []

unfoldable pub case7 : Bytes → List Bool
case7 v =
    let a = make_directory 16 (path (site7 ∷ letters 15 ∷ [])) v in
    let b = make_directory 16 (path (site7 ∷ letters 15 ∷ letters 15 ∷ [])) a.image in
    let c = make_directory 16 (path long3) b.image in
    let d = make_file 16 (path (long3 ++ (letters 9 ∷ []))) c.image in
    let e = make_file 16 (path (long3 ++ (letters 10 ∷ []))) c.image in
    ((make_file 16 (path (site7 ∷ letters 16 ∷ [])) v).number says 0x40)
    ∷ ((make_file 16 (path (site7 ∷ [] ∷ [])) v).number says 0x40)
    ∷ (length (path (long3 ++ (letters 9 ∷ []))) says 64)
    ∷ rows7 a b c d e

-- 8. "32 blocks, DAYS at 7, twelve files in 8 to 19: the thirteenth takes 20 for the directory and 21."
unfoldable pub day : ℕ → List ℕ
day i = path (site7 ∷ days ∷ (68 ∷ (65 + i) ∷ []) ∷ [])

-- c files more, the first of them number i; their blocks, beside those document 01 gives
unfoldable pub files_from : ℕ → ℕ → Bytes → Bytes
files_from i zero v = v
files_from i (suc c) v =
    let a = make_file 32 (day i) v in
    let w = a.image in
    files_from (i + 1) c w

unfoldable pub rows8 : Bytes → Outcome Nothing → List Bool
rows8 v a =
    let w = a.image in
    (sum (λ i. is (two v (3588 + 39 * (i + 1) + 0x11)) (8 + i)) (run 0 12) says 12)
    ∷ (two v (3584 + 0x25) says 12)
    ∷ (two v (3584 + 2) says 0)
    ∷ (unused 32 v says 12)
    ∷ (a.number says 0)
    ∷ (two w (3584 + 2) says 20)
    ∷ (two w 10240 says 7)
    ∷ (two w (10240 + 2) says 0)
    ∷ (w 10244 says 0x12)
    ∷ (two w (10244 + 0x11) says 21)
    ∷ (two w (10244 + 0x25) says 7)
    ∷ (two w (1067 + 0x13) says 2)
    ∷ (three w (1067 + 0x15) says 1024)
    ∷ (two w (3584 + 0x25) says 13)
    ∷ (unused 32 w says 10)
    ∷ []

unfoldable pub case8 : Bytes → List Bool
case8 v =
    let a = make_directory 32 DAYS v in
    let w = files_from 0 12 a.image in
    let b = make_file 32 (day 12) w in
    (two w (1067 + 0x11) says 7) ∷ rows8 w b

-- to open this opens the cases
unfoldable pub cases : ℕ
unfolding case1 rows2 case2 rows3 case3 rows4 case4 rows5 case5 case6 letters long3 rows7 case7 day files_from rows8 case8 fresh make_file make_directory write_to read_from set_eof_of destroy_of unused after2 computing
cases = 0

right1 : all (case1 (fresh 16) (fresh 280)) ≡ true
unfolding cases
right1 = refl

right2 : all (case2 (fresh 16)) ≡ true
unfolding cases
right2 = refl

right3 : all (after2 case3) ≡ true
unfolding cases
right3 = refl

right4 : all (after2 case4) ≡ true
unfolding cases
right4 = refl

right5 : all (after2 case5) ≡ true
unfolding cases
right5 = refl

right6 : all (after2 case6) ≡ true
unfolding cases
right6 = refl

right7 : all (case7 (fresh 16)) ≡ true
unfolding cases
right7 = refl

right8 : all (case8 (fresh 32)) ≡ true
unfolding cases
right8 = refl

-- The worked cases: the definitions give what document 01 says.
pub record WorkedCases : Type 0 where
  pub one : all (case1 (fresh 16) (fresh 280)) ≡ true
  pub two' : all (case2 (fresh 16)) ≡ true
  pub three' : all (after2 case3) ≡ true
  pub four : all (after2 case4) ≡ true
  pub five : all (after2 case5) ≡ true
  pub six : all (after2 case6) ≡ true
  pub seven : all (case7 (fresh 16)) ≡ true
  pub eight : all (case8 (fresh 32)) ≡ true

pub worked_cases : WorkedCases
worked_cases = record { one = right1; two' = right2; three' = right3; four = right4; five = right5; six = right6; seven = right7; eight = right8 }
