-- CsvLines: the records that `csv` gives of what a run prints.
use Rattle.std.proofs.Common.{◌≡◌, ℕ, zero, suc, ◌+◌, ◌-◌, ◌^◌, ◌<◌, ◌≤◌, ◌==◌, ◌||◌, not, Bool, true, false, List, [], ◌∷◌, ◌++◌, length, map, flat_map, get_or, refl, sym, ap, ◌∙◌, arith, add-one, append_assoc, length-append, Some, None, Ok, ℤ, pos, negsuc, codes, decimal}
use Rattle.std.specs.Fmt.{signed_decimal}
use Rattle.std.specs.List.{list_all}
use Rattle.std.specs.Char.{is_ascii_digit}
use Rattle.std.proofs.lemmas.Bool.Decides.{nat_tests}
use Rattle.std.proofs.lemmas.List.{append-nil}
use Rattle.std.proofs.lemmas.List.Folds.{flat_map-map}
use Rattle.csv.specs.Machine.{next_record}
use Rattle.csv.specs.Quoting.{needs_byte}
use Rattle.csv.specs.Reading.{records_from, records, default_config, strip_bom}
use Rattle.csv.specs.Writing.{row_text as csv_row, fields_text, field_text, needs_quotes, default_writer, is_blank}
use Rattle.csv.specs.declared.parser.State.TheVariants as st
use Rattle.csv.proofs.RoundTrip.{read-write}
use Rattle.vcp_base.specs.Types.{fits}
use Rattle.vcp_base.specs.declared.ty.Ty.TheVariants as ty
use Rattle.run_report.specs.Lines.{name_cell, value_cell, header_text, row_text}
use Rattle.pictures.specs.Ending.{mark_of}
use Rattle.pictures.specs.Printed.{rows_text, printed, is_plain, is_row, IsPrintable}
use Rattle.pictures.specs.RunOf.{Recorded, run_of, run_of_records, ends_a_line}
use Rattle.pictures.proofs.Numbers.{IsDigits, decimal_is, low, low_negative}
use Rattle.pictures.proofs.ReadBack.{parts, row_cells, line_records, run_records, records_read}

-- ---- plain texts

quiet : (p q r s : Bool) → not (p || q || r || s) ≡ true → (p || q || (r || s) || false || false) ≡ false
quiet true q r s h = absurd cc
quiet false true r s h = absurd cc
quiet false false true s h = absurd cc
quiet false false false true h = absurd cc
quiet false false false false h = refl

plain_byte : (b : ℕ) → not (b == 44 || b == 34 || b == 13 || b == 10) ≡ true → needs_byte default_writer b ≡ false
plain_byte b h = quiet (b == 44) (b == 34) (b == 13) (b == 10) h

none_of : (a b : Bool) → a ≡ false → b ≡ false → (a || b) ≡ false
none_of a b h k = rw (h, k) refl

plain_quotes : (text : List ℕ) → is_plain text ≡ true → needs_quotes default_writer text ≡ false
plain_quotes [] h = refl
plain_quotes (b ∷ text) h =
    let both = parts (not (b == 44 || b == 34 || b == 13 || b == 10)) (is_plain text) h in
    none_of (needs_byte default_writer b) (needs_quotes default_writer text) (plain_byte b both.0) (plain_quotes text both.1)

field_same : (text : List ℕ) → is_plain text ≡ true → field_text default_writer text ≡ text
field_same text h = rw (plain_quotes text h) refl

fields_same : (texts : List (List ℕ)) → list_all is_plain texts ≡ true → fields_text default_writer texts ≡ flat_map name_cell texts
unfolding fields_text
fields_same [] h = refl
fields_same (text ∷ texts) h =
    let both = parts (is_plain text) (list_all is_plain texts) h in
    rw (field_same text both.0, fields_same texts both.1) refl

-- ---- one line

-- the line of fields
abbrev line_text : List ℕ → List (List ℕ) → List ℕ
line_text first more = first ++ (flat_map name_cell more ++ codes "\n")

not_zero : (n : ℕ) → (suc n == 0) ≡ false
not_zero n = grind (arith, nat_tests)

shown_body : (c : ℕ) (text : List ℕ) (more : List (List ℕ)) → is_plain (c ∷ text) ≡ true → is_blank default_writer ((c ∷ text) ∷ more) ≡ false
unfolding is_blank
shown_body c text [] h = rw (field_same (c ∷ text) h) (not_zero (length text))
shown_body c text (next ∷ more) h = refl

row_same : (c : ℕ) (text : List ℕ) (more : List (List ℕ)) → is_plain (c ∷ text) ≡ true → list_all is_plain more ≡ true
    → csv_row default_writer ((c ∷ text) ∷ more) ≡ line_text (c ∷ text) more
row_same c text more h k =
    rw (shown_body c text more h, field_same (c ∷ text) h, fields_same more k) (append_assoc (c ∷ text) (flat_map name_cell more) (codes "\n"))

one_line : (c : ℕ) (text : List ℕ) (more : List (List ℕ)) (tail : List ℕ) → is_plain (c ∷ text) ≡ true → list_all is_plain more ≡ true
    → next_record default_config st.StartRecord [] [] (line_text (c ∷ text) more ++ tail) ≡ Some ((c ∷ text) ∷ more, st.StartRecord, tail)
one_line c text more tail h k =
    ap (λ (t : List ℕ). next_record default_config st.StartRecord [] [] (t ++ tail)) (sym (row_same c text more h k)) ∙ read-write ((c ∷ text) ∷ more) tail

-- ---- rows are plain

plain_digits : (ds : List ℕ) → list_all is_ascii_digit ds ≡ true → is_plain ds ≡ true
plain_digits [] h = refl
plain_digits (d ∷ ds) h =
    let both = parts (is_ascii_digit d) (list_all is_ascii_digit ds) h in
    rw (plain_digit d both.0, plain_digits ds both.1) refl
  where
    plain_digit : (d : ℕ) → is_ascii_digit d ≡ true → not (d == 44 || d == 34 || d == 13 || d == 10) ≡ true
    plain_digit d h = grind (arith, nat_tests)

plain_value : (v : ℤ) → fits ty.Lint v ≡ true → is_plain (signed_decimal v) ≡ true
plain_value (pos n) h = plain_digits (decimal n) (decimal_is n (low n h)).digits
plain_value (negsuc n) h = plain_digits (decimal (suc n)) (decimal_is (suc n) (low_negative n h)).digits

plain_values : (row : List ℤ) → list_all (fits ty.Lint) row ≡ true → list_all is_plain (map signed_decimal row) ≡ true
plain_values [] h = refl
plain_values (v ∷ row) h =
    let both = parts (fits ty.Lint v) (list_all (fits ty.Lint) row) h in
    rw (plain_value v both.0, plain_values row both.1) refl

row_line_text : (cycle : ℕ) (row : List ℤ) → row_text cycle row ≡ line_text (decimal cycle) (map signed_decimal row)
row_line_text cycle row = ap (λ (t : List ℕ). decimal cycle ++ (t ++ codes "\n")) (sym (flat_map-map name_cell signed_decimal row))

-- a row's line is read
row_line_read : (cycle : ℕ) (row : List ℤ) (tail : List ℕ) → cycle < 2 ^ 64 → list_all (fits ty.Lint) row ≡ true
    → next_record default_config st.StartRecord [] [] (row_text cycle row ++ tail) ≡ Some (row_cells cycle row, st.StartRecord, tail)
row_line_read cycle row tail small h =
    rw (row_line_text cycle row) (of_digits (decimal cycle) (decimal_is cycle small))
  where
    of_digits : (ds : List ℕ) → IsDigits cycle ds
        → next_record default_config st.StartRecord [] [] (line_text ds (map signed_decimal row) ++ tail) ≡ Some (ds ∷ map signed_decimal row, st.StartRecord, tail)
    of_digits [] is = let e = is.some in absurd cc
    of_digits (c ∷ ds) is = one_line c ds (map signed_decimal row) tail (plain_digits (c ∷ ds) is.digits) (plain_values row h)

-- ---- all records

some_row : (width : ℕ) (row : List ℤ) → is_row width row ≡ true → list_all (fits ty.Lint) row ≡ true
some_row width row h = (parts (length row == width) (list_all (fits ty.Lint) row) h).1

nothing_left : (n : ℕ) → records_from default_config (suc n) st.StartRecord [] ≡ []
unfolding records_from next_record
nothing_left n = refl

then_records : (n : ℕ) (xs tail : List ℕ) (fields : List (List ℕ)) → next_record default_config st.StartRecord [] [] xs ≡ Some (fields, st.StartRecord, tail)
    → records_from default_config (suc n) st.StartRecord xs ≡ fields ∷ records_from default_config n st.StartRecord tail
unfolding records_from
then_records n xs tail fields e = rw e refl

last_records : (n : ℕ) (c : ℕ) (text : List ℕ) → is_plain (c ∷ text) ≡ true
    → records_from default_config (suc (suc n)) st.StartRecord ((c ∷ text) ++ codes "\n") ≡ ((c ∷ text) ∷ []) ∷ []
last_records n c text h =
    let line : next_record default_config st.StartRecord [] [] ((c ∷ text) ++ codes "\n") ≡ Some ((c ∷ text) ∷ [], st.StartRecord, []) =
    ap (λ (t : List ℕ). next_record default_config st.StartRecord [] [] t) (sym (append-nil ((c ∷ text) ++ codes "\n"))) ∙ one_line c text [] [] h refl in
    then_records (suc n) ((c ∷ text) ++ codes "\n") [] ((c ∷ text) ∷ []) line ∙ ap (λ (rs : List (List (List ℕ))). ((c ∷ text) ∷ []) ∷ rs) (nothing_left n)

rows_records : (n width cycle c : ℕ) (rows : List (List ℤ)) (text : List ℕ) → length rows + 1 < n → cycle + length rows < 2 ^ 64
    → list_all (is_row width) rows ≡ true → is_plain (c ∷ text) ≡ true
    → records_from default_config n st.StartRecord (rows_text cycle rows ++ ((c ∷ text) ++ codes "\n")) ≡ line_records cycle rows (c ∷ text)
rows_records zero width cycle c rows text fuel small h plain = absurd (omega arith)
rows_records (suc zero) width cycle c rows text fuel small h plain = absurd (omega arith)
rows_records (suc (suc n)) width cycle c [] text fuel small h plain = last_records n c text plain
rows_records (suc (suc n)) width cycle c (row ∷ rows) text fuel small h plain =
    let last = (c ∷ text) ++ codes "\n" in
    let both = parts (is_row width row) (list_all (is_row width) rows) h in
    let tail = rows_text (cycle + 1) rows ++ last in
    ap (records_from default_config (suc (suc n)) st.StartRecord) (append_assoc (row_text cycle row) (rows_text (cycle + 1) rows) last)
    ∙ (then_records (suc n) (row_text cycle row ++ tail) tail (row_cells cycle row) (row_line_read cycle row tail (omega arith) (some_row width row both.0))
    ∙ ap (λ (rs : List (List (List ℕ))). row_cells cycle row ∷ rs)
    (rows_records (suc n) width (cycle + 1) c rows text (omega arith) (omega arith) both.1 plain))

long_rows : (cycle : ℕ) (rows : List (List ℤ)) → length rows ≤ length (rows_text cycle rows)
long_rows cycle [] = omega arith
long_rows cycle (row ∷ rows) =
    let more = long_rows (cycle + 1) rows in
    let here : length (row_text cycle row) ≡ length (decimal cycle) + (length (flat_map value_cell row) + 1) =
    length-append (decimal cycle) (flat_map value_cell row ++ codes "\n") ∙ ap (λ (n : ℕ). length (decimal cycle) + n) (length-append (flat_map value_cell row) (codes "\n")) in
    let all = length-append (row_text cycle row) (rows_text (cycle + 1) rows) in
    omega (arith, here, all, more)

-- ---- the whole text

no_mark : (text : List ℕ) (n : ℕ) → text ≡ [] → mark_of n text ≡ None
no_mark text n e = rw e refl

unmarked : (text : List ℕ) → strip_bom (codes "cycle" ++ text) ≡ codes "cycle" ++ text
unfolding strip_bom
unmarked text = refl

last_byte : (text : List ℕ) (b : ℕ) → get_or (text ++ b ∷ []) (length text) 0 ≡ b
last_byte [] b = refl
last_byte (c ∷ text) b = last_byte text b

ends : (text : List ℕ) → ends_a_line (text ++ codes "\n") ≡ true
ends text =
    let long : length (text ++ codes "\n") - 1 ≡ length text = omega (arith, length-append text (codes "\n")) in
    ap (λ (i : ℕ). get_or (text ++ codes "\n") i 0 == 10) long ∙ ap (λ (b : ℕ). b == 10) (last_byte text 10)

printed_records : (run : Recorded) (c : ℕ) (text : List ℕ) → run.ending.text ≡ c ∷ text → IsPrintable run
    → records default_config (printed run) ≡ run_records run
printed_records run c text e is =
    let last = (c ∷ text) ++ codes "\n" in
    let rows = rows_text 0 run.rows in
    let line = line_text (codes "cycle") run.names in
    let plain : is_plain (c ∷ text) ≡ true = ap is_plain (sym e) ∙ is.plain in
    let told : printed run ≡ line ++ (rows ++ last) = ap (λ (t : List ℕ). header_text run.names ++ (rows ++ (t ++ codes "\n"))) e in
    let head_long : length line ≡ 5 + (length (flat_map name_cell run.names) + 1) =
    length-append (codes "cycle") (flat_map name_cell run.names ++ codes "\n")
    ∙ ap (λ (n : ℕ). 5 + n) (length-append (flat_map name_cell run.names) (codes "\n")) in
    let all_long = length-append line (rows ++ last) in
    let tail_long = length-append rows last in
    let rows_long = long_rows 0 run.rows in
    let fuel : length run.rows + 1 < length (line ++ (rows ++ last)) = omega (arith, head_long, all_long, tail_long, rows_long) in
    let small : 0 + length run.rows < 2 ^ 64 = omega (arith, is.short) in
    ap (records default_config) told
    ∙ (rw add-one
    (then_records (length (line ++ (rows ++ last))) (line ++ (rows ++ last)) (rows ++ last) (codes "cycle" ∷ run.names)
    (one_line 99 (codes "ycle") run.names (rows ++ last) refl is.names)
    ∙ ap (λ (rs : List (List (List ℕ))). (codes "cycle" ∷ run.names) ∷ rs)
    (rows_records (length (line ++ (rows ++ last))) (length run.names) 0 c run.rows text fuel small is.rows plain
    ∙ ap (line_records 0 run.rows) (sym e))))

whole_line : (run : Recorded) → printed run ≡ (header_text run.names ++ (rows_text 0 run.rows ++ run.ending.text)) ++ codes "\n"
whole_line run = simp append_assoc

by_last : (run : Recorded) (text : List ℕ) → run.ending.text ≡ text → IsPrintable run → records default_config (printed run) ≡ run_records run
by_last run [] e is =
    let none : mark_of (length run.rows) run.ending.text ≡ None = no_mark run.ending.text (length run.rows) e in
    let known = is.known in
    absurd cc
by_last run (c ∷ text) e is = printed_records run c text e is

-- what a run prints is read back
pub printed_is_read : (run : Recorded) → IsPrintable run → run_of (printed run) ≡ Ok run
printed_is_read run is =
    let unchanged : strip_bom (printed run) ≡ printed run = unmarked _ in
    let told : run_of_records (records default_config (strip_bom (printed run))) ≡ Ok run =
    ap (λ (t : List ℕ). run_of_records (records default_config t)) unchanged ∙ (ap run_of_records (by_last run run.ending.text refl is) ∙ records_read run is) in
    let ended : ends_a_line (printed run) ≡ true = ap ends_a_line (whole_line run) ∙ ends (header_text run.names ++ (rows_text 0 run.rows ++ run.ending.text)) in
    rw (ended, told) refl
