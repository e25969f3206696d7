-- ReadBack: the records of a run tell the run.
use Rattle.std.proofs.Common.{◌≡◌, ℕ, suc, ◌+◌, ◌^◌, ◌<◌, ◌≤◌, ◌==◌, ◌&&◌, Bool, true, false, cond, List, [], ◌∷◌, length, map, refl, ap, ◌∙◌, arith, Option, Some, None, Result, Ok, ℤ, bytes_eq, codes, decimal, nat_lt, nat_le}
use Rattle.std.specs.Fmt.{signed_decimal}
use Rattle.std.specs.List.{list_all}
use Rattle.std.specs.Char.{is_ascii_digit}
use Rattle.std.proofs.lemmas.Bool.Decides.{nat_tests}
use Rattle.std.proofs.lemmas.Slice.Eq.{bytes_eq-Decides}
use Rattle.input_rows.specs.RowsOf.{values_after}
use Rattle.vcp_base.specs.Limits.{most_cycles, most_names}
use Rattle.vcp_base.specs.Types.{fits}
use Rattle.vcp_base.specs.declared.ty.Ty.TheVariants as ty
use Rattle.pictures.specs.declared.waves.fault.RunTextFault.{RunTextFault}
use Rattle.pictures.specs.declared.waves.ending.Mark.{Mark}
use Rattle.pictures.specs.declared.waves.ending.Ending.{Ending}
use Rattle.pictures.specs.declared.waves.lines.Line.{Line}
use Rattle.pictures.specs.declared.waves.lines.Line.TheVariants as line
use Rattle.pictures.specs.Ending.{mark_of}
use Rattle.pictures.specs.Printed.{is_row, IsPrintable}
use Rattle.pictures.specs.RunOf.{Recorded, row_of_values, line_with, row_line, line_of, last_with, last_line, ended_with, told_from, run_of_records}
use Rattle.pictures.specs.Values.{values_of}
use Rattle.pictures.proofs.Numbers.{IsDigits, decimal_is, value_is_read}

-- ---- rows

pub parts : (a b : Bool) → (a && b) ≡ true → (a ≡ true) × (b ≡ true)
parts true b h = (refl, h)
parts false b h = absurd cc

eq_of : (n m : ℕ) → (n == m) ≡ true → n ≡ m
eq_of n m h = grind (arith, nat_tests)

values_read : (column : ℕ) (row : List ℤ) → list_all (fits ty.Lint) row ≡ true → values_of column (map signed_decimal row) ≡ Ok row
values_read column [] h = refl
values_read column (v ∷ row) h =
    let both = parts (fits ty.Lint v) (list_all (fits ty.Lint) row) h in
    ap (λ (o : Option ℤ). values_after column o (values_of (column + 1) (map signed_decimal row))) (value_is_read v both.0)
    ∙ ap (values_after column (Some v)) (values_read (column + 1) row both.1)

-- the cells of the row of a cycle
abbrev pub row_cells : ℕ → List ℤ → List (List ℕ)
row_cells cycle row = decimal cycle ∷ map signed_decimal row

length_cells : (row : List ℤ) → length (map signed_decimal row) ≡ length row
length_cells [] = refl
length_cells (v ∷ row) = ap suc (length_cells row)

same_count : (a b : ℕ) → a ≡ b → (a == b) ≡ true
same_count a b e = grind (arith, nat_tests)

below : (a b : ℕ) → a < b → nat_lt a b ≡ true
below a b h = grind (arith, nat_tests)

chosen : (a b e : Bool) (x y z w : Result Line RunTextFault) → a ≡ true → b ≡ true → e ≡ true → cond a (cond b (cond e x y) z) w ≡ x
chosen a b e x y z w h k l = rw (h, k, l) refl

row_read : (width cycle : ℕ) (row : List ℤ) → is_row width row ≡ true → cycle < most_cycles → line_of width cycle (row_cells cycle row) ≡ Ok (line.Row row)
row_read width cycle row h few =
    let both = parts (length row == width) (list_all (fits ty.Lint) row) h in
    let count : length (map signed_decimal row) ≡ width = length_cells row ∙ eq_of (length row) width both.0 in
    ap (λ (a : Bool). cond a (row_line width cycle (map signed_decimal row)) (ended_with (last_line cycle (decimal cycle) (map signed_decimal row))))
    ((bytes_eq-Decides (decimal cycle) (decimal cycle)).1 refl)
    ∙ (chosen true (nat_lt cycle most_cycles) (length (map signed_decimal row) == width) _ _ _
    (ended_with (last_line cycle (decimal cycle) (map signed_decimal row))) refl (below cycle most_cycles few) (same_count (length (map signed_decimal row)) width count)
    ∙ ap (λ (r : Result (List ℤ) ℕ). line_with (row_of_values (cycle + 2) r)) (values_read 2 row both.1))

-- ---- the last line

-- a text that begins with a digit is no last line
no_last : (n : ℕ) (c : ℕ) (text : List ℕ) → is_ascii_digit c ≡ true → mark_of n (c ∷ text) ≡ None
no_last n c text h =
    let e : (c == 101) ≡ false = grind (arith, nat_tests) in
    let s : (c == 115) ≡ false = grind (arith, nat_tests) in
    let r : (c == 114) ≡ false = grind (arith, nat_tests) in
    rw (e, s, r) refl

digits_are_no_last_line : (n m : ℕ) (ds : List ℕ) → IsDigits m ds → mark_of n ds ≡ None
digits_are_no_last_line n m [] is = let e = is.some in absurd cc
digits_are_no_last_line n m (c ∷ ds) is = no_last n c ds (parts (is_ascii_digit c) (list_all is_ascii_digit ds) is.digits).0

not_number : (cycle : ℕ) (text : List ℕ) (m : Mark) (b : Bool) → cycle < 2 ^ 64 → mark_of cycle text ≡ Some m → bytes_eq text (decimal cycle) ≡ b → b ≡ false
not_number cycle text m false small known is = refl
not_number cycle text m true small known is =
    let same : text ≡ decimal cycle = (bytes_eq-Decides text (decimal cycle)).0 is in
    let none : mark_of cycle text ≡ None = ap (mark_of cycle) same ∙ digits_are_no_last_line cycle cycle (decimal cycle) (decimal_is cycle small) in
    absurd cc

last_read : (width cycle : ℕ) (text : List ℕ) (m : Mark) → cycle < 2 ^ 64 → mark_of cycle text ≡ Some m
    → line_of width cycle (text ∷ []) ≡ Ok (line.Last (record { mark = m; text = text }))
last_read width cycle text m small known =
    ap (λ (a : Bool). cond a (row_line width cycle []) (ended_with (last_with cycle text (mark_of cycle text))))
    (not_number cycle text m (bytes_eq text (decimal cycle)) small known refl)
    ∙ ap (λ (o : Option Mark). ended_with (last_with cycle text o)) known

-- ---- all lines

abbrev pub line_records : ℕ → List (List ℤ) → List ℕ → List (List (List ℕ))
line_records cycle [] last = (last ∷ []) ∷ []
line_records cycle (row ∷ rows) last = row_cells cycle row ∷ line_records (cycle + 1) rows last

pub lines_read : (width cycle n : ℕ) (rows : List (List ℤ)) (ending : Ending) → list_all (is_row width) rows ≡ true → cycle + length rows ≡ n → n ≤ most_cycles
    → mark_of n ending.text ≡ Some ending.mark
    → told_from width cycle (line_records cycle rows ending.text) ≡ record { rows = rows; behind = Ok ending }
lines_read width cycle n [] ending h e few known =
    let here : cycle ≡ n = omega arith in
    let mark_here : mark_of cycle ending.text ≡ Some ending.mark = rw here known in
    rw (last_read width cycle ending.text ending.mark (omega arith) mark_here) refl
lines_read width cycle n (row ∷ rows) ending h e few known =
    let both = parts (is_row width row) (list_all (is_row width) rows) h in
    let next : cycle + 1 + length rows ≡ n = omega arith in
    rw (row_read width cycle row both.0 (omega arith), lines_read width (cycle + 1) n rows ending both.1 next few known) refl

-- the records of a run
abbrev pub run_records : Recorded → List (List (List ℕ))
run_records run = (codes "cycle" ∷ run.names) ∷ line_records 0 run.rows run.ending.text

few_names : (n : ℕ) → n ≤ most_names → nat_le n most_names ≡ true
few_names n h = grind (arith, nat_tests)

pub records_read : (run : Recorded) → IsPrintable run → run_of_records (run_records run) ≡ Ok run
records_read run is =
    let all : 0 + length run.rows ≡ length run.rows = omega arith in
    rw (
      few_names (length run.names) is.few,
      lines_read (length run.names) 0 (length run.rows) run.rows run.ending is.rows all is.short is.known,
    ) refl
