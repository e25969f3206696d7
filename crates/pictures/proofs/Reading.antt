-- Reading: what is read so far, and one more.
use Rattle.std.proofs.Common.{◌≡◌, ℕ, zero, suc, ◌+◌, ◌≤◌, ◌<◌, List, [], ◌∷◌, ◌++◌, length, drop, slice_get, Option, Some, None, Result, Ok, Err, ℤ, refl, ap, ◌∙◌, append_assoc, add-one, arith, true, false, codes, decimal, bytes_eq, nat_le, not, IfOk, ◌≢◌, Bool, sym, subst}
use Rattle.std.proofs.lemmas.List.{append-nil}
use Rattle.std.proofs.lemmas.Bool.Decides.{nat_tests}
use Rattle.std.proofs.lemmas.List.Elements.{All-push}
use Rattle.std.proofs.lemmas.List.{length_push}
use Rattle.std.proofs.lemmas.Bool.{true≢false}
use Rattle.input_rows.specs.RecordsLeft.{Takes}
use Rattle.input_rows.specs.RowsOf.{values_after}
use Rattle.vcp_base.specs.Limits.{most_cycles, most_names}
use Rattle.pictures.specs.declared.waves.fault.RunTextFault.{RunTextFault}
use Rattle.pictures.specs.declared.waves.fault.RunTextFault.TheVariants as fault
use Rattle.pictures.specs.declared.waves.ending.Ending.{Ending}
use Rattle.pictures.specs.declared.waves.lines.Line.TheVariants as line
use Rattle.pictures.specs.declared.waves.lines.Line.{Line}
use Rattle.pictures.specs.Told.{Tells, IfRow, HasWidth}
use Rattle.pictures.specs.Values.{printed_value, values_of, behind}
use Rattle.pictures.specs.RunOf.{ToldLines, line_of, row_line, last_line, ended_with, last_of, told_from, names_of}

-- ---- cells

dropped : {X : Type 0} (xs : List X) (j : ℕ) (x : X) → slice_get xs j ≡ Some x → drop j xs ≡ x ∷ drop (suc j) xs
dropped [] j x e = absurd cc
dropped (y ∷ xs) zero x e = let same : y ≡ x = cc in rw same refl
dropped (y ∷ xs) (suc j) x e = dropped xs j x e

pub at_drop : {X : Type 0} (xs : List X) (j : ℕ) (x : X) → slice_get xs j ≡ Some x → drop j xs ≡ x ∷ drop (j + 1) xs
at_drop xs j x e = rw (add-one j) (dropped xs j x e)

pub none_left : {X : Type 0} (xs : List X) (j : ℕ) → length xs ≤ j → drop j xs ≡ []
none_left [] zero h = refl
none_left [] (suc j) h = refl
none_left (x ∷ xs) zero h = absurd (omega arith)
none_left (x ∷ xs) (suc j) h = none_left xs j (omega arith)

value_more : (row : List ℤ) (column : ℕ) (v : ℤ) (more : Result (List ℤ) ℕ) → behind row (values_after column (Some v) more) ≡ behind (row ++ v ∷ []) more
value_more row column v (Ok values) = rw (append_assoc row (v ∷ []) values) refl
value_more row column v (Err later) = refl

-- a cell that is a value
pub one_value : (fields : List (List ℕ)) (j : ℕ) (row : List ℤ) (cell : List ℕ) (v : ℤ) (all : Result (List ℤ) ℕ) → slice_get fields j ≡ Some cell
    → printed_value cell ≡ Some v → all ≡ behind row (values_of (j + 1) (drop j fields)) → all ≡ behind (row ++ v ∷ []) (values_of (j + 1 + 1) (drop (j + 1) fields))
one_value fields j row cell v all at is e =
    let first : drop j fields ≡ cell ∷ drop (j + 1) fields = at_drop fields j cell at in
    e ∙ (ap (λ (cells : List (List ℕ)). behind row (values_of (j + 1) cells)) first
    ∙ (ap (λ (o : Option ℤ). behind row (values_after (j + 1) o (values_of (j + 1 + 1) (drop (j + 1) fields)))) is
    ∙ value_more row (j + 1) v (values_of (j + 1 + 1) (drop (j + 1) fields))))

-- a cell that is none
pub no_value : (fields : List (List ℕ)) (j : ℕ) (row : List ℤ) (cell : List ℕ) (all : Result (List ℤ) ℕ) → slice_get fields j ≡ Some cell
    → printed_value cell ≡ None → all ≡ behind row (values_of (j + 1) (drop j fields)) → all ≡ Err (j + 1)
no_value fields j row cell all at is e =
    let first : drop j fields ≡ cell ∷ drop (j + 1) fields = at_drop fields j cell at in
    e ∙ (ap (λ (cells : List (List ℕ)). behind row (values_of (j + 1) cells)) first
    ∙ ap (λ (o : Option ℤ). behind row (values_after (j + 1) o (values_of (j + 1 + 1) (drop (j + 1) fields)))) is)

-- ---- the header

pub one_name : (fields names rest : List (List ℕ)) (j : ℕ) (name : List ℕ) → slice_get fields j ≡ Some name → rest ≡ names ++ drop j fields
    → rest ≡ (names ++ name ∷ []) ++ drop (j + 1) fields
one_name fields names rest j name at e = e ∙ rw (at_drop fields j name at, append_assoc names (name ∷ []) (drop (j + 1) fields)) refl

pub all_names : (fields names rest : List (List ℕ)) (j : ℕ) → length fields ≤ j → rest ≡ names ++ drop j fields → rest ≡ names
all_names fields names rest j h e = e ∙ rw (none_left fields j h) (append-nil names)

few_names : (n : ℕ) → n ≤ 1024 → nat_le n most_names ≡ true
few_names n h = grind (arith, nat_tests)

many_names : (n : ℕ) → 1024 < n → nat_le n most_names ≡ false
many_names n h = grind (arith, nat_tests)

pub header_names : (fields : List (List ℕ)) (first : List ℕ) (names : List (List ℕ)) → slice_get fields 0 ≡ Some first
    → bytes_eq first (codes "cycle") ≡ true → length fields ≤ 1025 → drop 1 fields ≡ names → names_of fields ≡ Ok names
header_names [] first names at is few e = absurd cc
header_names (f ∷ fields) first names at is few e =
    let same : f ≡ first = cc in
    let known : bytes_eq f (codes "cycle") ≡ true = rw same is in
    rw (known, few_names (length fields) (omega arith)) (ap (λ (ns : List (List ℕ)). Ok ns) e)

pub header_of_many : (fields : List (List ℕ)) (first : List ℕ) → slice_get fields 0 ≡ Some first
    → bytes_eq first (codes "cycle") ≡ true → 1025 < length fields → names_of fields ≡ Err fault.Names
header_of_many [] first at is many = absurd cc
header_of_many (f ∷ fields) first at is many =
    let same : f ≡ first = cc in
    let known : bytes_eq f (codes "cycle") ≡ true = rw same is in
    rw (known, many_names (length fields) (omega arith)) refl

pub no_header : (fields : List (List ℕ)) (first : List ℕ) → slice_get fields 0 ≡ Some first
    → bytes_eq first (codes "cycle") ≡ false → names_of fields ≡ Err fault.Header
no_header [] first at is = absurd cc
no_header (f ∷ fields) first at is =
    let same : f ≡ first = cc in
    let known : bytes_eq f (codes "cycle") ≡ false = rw same is in
    rw known refl

not_false : (b : Bool) → not b ≡ false → b ≡ true
not_false true e = refl
not_false false e = absurd (true≢false e)

not_true : (b : Bool) → not b ≡ true → b ≡ false
not_true true e = absurd (true≢false (sym e))
not_true false e = refl

pub is_cycle : (first word : List ℕ) (differs : Bool) → differs ≡ not (bytes_eq first word) → differs ≡ false → word ≡ codes "cycle"
    → bytes_eq first (codes "cycle") ≡ true
is_cycle first word differs e is known = ap (λ w. bytes_eq first w) (sym known) ∙ not_false (bytes_eq first word) (sym e ∙ is)

pub no_cycle : (first word : List ℕ) (differs : Bool) → differs ≡ not (bytes_eq first word) → differs ≡ true → word ≡ codes "cycle"
    → bytes_eq first (codes "cycle") ≡ false
no_cycle first word differs e is known = ap (λ w. bytes_eq first w) (sym known) ∙ not_true (bytes_eq first word) (sym e ∙ is)

pub few_named : (fields names : List (List ℕ)) → length fields ≤ 1025 → drop 1 fields ≡ names → length names ≤ most_names
few_named [] names few e = subst (λ (ns : List (List ℕ)). length ns ≤ most_names) e (omega arith)
few_named (f ∷ fields) names few e =
    let h : suc (length fields) ≤ 1025 = few in
    subst (λ (ns : List (List ℕ)). length ns ≤ most_names) e (omega (arith, h))

pub empty_header : (fields : List (List ℕ)) → length fields ≡ 0 → names_of fields ≡ Err fault.Header
empty_header [] e = refl
empty_header (f ∷ fields) e = absurd (omega arith)

-- ---- one line

pub some_cells : (n m : ℕ) → (n ≡ 0 → ⊥) → n ≡ m → 0 < m
some_cells n zero none e = absurd (none e)
some_cells n (suc m) none e = omega arith

pub no_cells : (w c : ℕ) (fields : List (List ℕ)) → length fields ≡ 0 → line_of w c fields ≡ Err (fault.Line (c + 2))
no_cells w c [] e = refl
no_cells w c (f ∷ fields) e = absurd (omega arith)

-- whether a line begins with the number of its cycle
pub begins_with : (first word text : List ℕ) (c : ℕ) (same : Bool) → same ≡ bytes_eq first word → word ≡ text → text ≡ decimal c
    → bytes_eq first (decimal c) ≡ same
begins_with first word text c same e is number = sym (e ∙ ap (λ w. bytes_eq first w) (is ∙ number))

-- it is a row then
pub is_row : (w c : ℕ) (fields : List (List ℕ)) (first : List ℕ) → slice_get fields 0 ≡ Some first → bytes_eq first (decimal c) ≡ true
    → line_of w c fields ≡ row_line w c (drop 1 fields)
is_row w c [] first at is = absurd cc
is_row w c (f ∷ fields) first at is =
    let same : f ≡ first = cc in
    let known : bytes_eq f (decimal c) ≡ true = rw same is in
    rw known refl

-- and else the last line
pub is_last : (w c : ℕ) (fields : List (List ℕ)) (first : List ℕ) (count : ℕ) (answer : Result Ending RunTextFault) → slice_get fields 0 ≡ Some first
    → bytes_eq first (decimal c) ≡ false → count ≡ length fields
    → ((more : List (List ℕ)) → count ≡ length more + 1 → last_line c first more ≡ answer) → line_of w c fields ≡ ended_with answer
is_last w c [] first count answer at is many last = absurd cc
is_last w c (f ∷ fields) first count answer at is many last =
    let same : f ≡ first = cc in
    let known : bytes_eq f (decimal c) ≡ false = rw same is in
    let ends : last_line c f fields ≡ answer = rw same (last fields (many ∙ sym (add-one (length fields)))) in
    rw known (ap ended_with ends)

pub row_fits : (w c : ℕ) (read : Result Line RunTextFault) → IfOk read (λ line. IfRow line (λ row. length row ≡ w)) → IfOk read (λ line. c < most_cycles)
    → IfOk read (λ line. IfRow line (λ row. (length row ≡ w) × (c < most_cycles)))
row_fits w c (Ok (line.Row row)) wide early = (wide, early)
row_fits w c (Ok (line.Last ending)) wide early = tt
row_fits w c (Err why) wide early = tt

-- ---- lines

-- rows before what is told
abbrev pub onto : List (List ℤ) → ToldLines → ToldLines
onto rows told = record { rows = rows ++ told.rows; behind = told.behind }

pub row_told : (w c : ℕ) (rows : List (List ℤ)) (row : List ℤ) (cells : List (List ℕ)) (more : List (List (List ℕ))) (told : ToldLines)
    → told ≡ onto rows (told_from w c (cells ∷ more)) → line_of w c cells ≡ Ok (line.Row row) → told ≡ onto (rows ++ row ∷ []) (told_from w (c + 1) more)
row_told w c rows row cells more told e is =
    e ∙ rw (is, append_assoc rows (row ∷ []) (told_from w (c + 1) more).rows) refl

pub refused_told : (w c : ℕ) (rows : List (List ℤ)) (why : RunTextFault) (cells : List (List ℕ)) (more : List (List (List ℕ))) (told : ToldLines)
    → told ≡ onto rows (told_from w c (cells ∷ more)) → line_of w c cells ≡ Err why → told.behind ≡ Err why
refused_told w c rows why cells more told e is = ap (λ (t : ToldLines). t.behind) e ∙ rw is refl

pub last_told : (w c : ℕ) (rows : List (List ℤ)) (ending : Ending) (cells : List (List ℕ)) (more : List (List (List ℕ))) (told : ToldLines)
    → told ≡ onto rows (told_from w c (cells ∷ more)) → line_of w c cells ≡ Ok (line.Last ending)
    → told ≡ record { rows = rows; behind = last_of (c + 2) ending more }
last_told w c rows ending cells more told e is = e ∙ rw (is, append-nil rows) refl

pub nothing_told : (w c : ℕ) (rows : List (List ℤ)) (told : ToldLines) → told ≡ onto rows (told_from w c []) → told.behind ≡ Err fault.End
nothing_told w c rows told e = ap (λ (t : ToldLines). t.behind) e

-- ---- a walk over the lines, where a record was taken from those that were left, or none was

-- what was told from the begin, where these rows were read and the lines of these records are still to be read
abbrev pub Stands : ℕ → ℕ → List (List ℤ) → Option (List (List (List ℕ))) → ToldLines → Type 0
Stands w c rows left told = (more : List (List (List ℕ))) × (left ≡ Some more) × (told ≡ onto rows (told_from w c more))

taken : (old new : Option (List (List (List ℕ)))) (cells : List (List ℕ)) (found : Bool) → Takes old new cells found → found ≡ true
    → (more : List (List (List ℕ))) × (old ≡ Some (cells ∷ more)) × (new ≡ Some more)
taken old new cells true takes is = takes
taken old new cells false takes is = absurd (true≢false (sym is))

none_taken : (old new : Option (List (List (List ℕ)))) (cells : List (List ℕ)) (found : Bool) → Takes old new cells found → found ≡ false → old ≡ Some []
none_taken old new cells true takes is = absurd (true≢false is)
none_taken old new cells false takes is = takes.0

known : (w c : ℕ) (rows : List (List ℤ)) (left : Option (List (List (List ℕ)))) (told : ToldLines) (records : List (List (List ℕ)))
    → Stands w c rows left told → left ≡ Some records → told ≡ onto rows (told_from w c records)
known w c rows left told records stands is =
    let some : Some (stands.0) ≡ Some records = sym stands.1 ∙ is in
    let same : stands.0 ≡ records = cc in
    stands.2 ∙ ap (λ (m : List (List (List ℕ))). onto rows (told_from w c m)) same

pub row_at : (w c : ℕ) (rows all : List (List ℤ)) (old new : Option (List (List (List ℕ)))) (cells : List (List ℕ)) (found : Bool) (told : ToldLines)
    (row : List ℤ) → Stands w c rows old told → Takes old new cells found → found ≡ true → line_of w c cells ≡ Ok (line.Row row)
    → all ≡ rows ++ row ∷ [] → Stands w (c + 1) all new told
row_at w c rows all old new cells found told row stands takes is read e =
    let k = taken old new cells found takes is in (
      k.0,
      k.2,
      row_told w c rows row cells k.0 told (known w c rows old told (cells ∷ k.0) stands k.1) read
          ∙ ap (λ (rs : List (List ℤ)). onto rs (told_from w (c + 1) k.0)) (sym e),
    )

pub refused_at : (w c : ℕ) (rows : List (List ℤ)) (old new : Option (List (List (List ℕ)))) (cells : List (List ℕ)) (found : Bool) (told : ToldLines)
    (why : RunTextFault) → Stands w c rows old told → Takes old new cells found → found ≡ true → line_of w c cells ≡ Err why → told.behind ≡ Err why
refused_at w c rows old new cells found told why stands takes is read =
    let k = taken old new cells found takes is in
    refused_told w c rows why cells k.0 told (known w c rows old told (cells ∷ k.0) stands k.1) read

pub last_at : (w c : ℕ) (rows : List (List ℤ)) (old new : Option (List (List (List ℕ)))) (cells : List (List ℕ)) (found : Bool) (told : ToldLines)
    (ending : Ending) (answer : Result Ending RunTextFault) → Stands w c rows old told → Takes old new cells found → found ≡ true
    → line_of w c cells ≡ Ok (line.Last ending) → ((more : List (List (List ℕ))) → new ≡ Some more → last_of (c + 2) ending more ≡ answer)
    → told ≡ record { rows = rows; behind = answer }
last_at w c rows old new cells found told ending answer stands takes is read last =
    let k = taken old new cells found takes is in
    subst (λ (b : Result Ending RunTextFault). told ≡ record { rows = rows; behind = b }) (last k.0 k.2)
    (last_told w c rows ending cells k.0 told (known w c rows old told (cells ∷ k.0) stands k.1) read)

pub nothing_at : (w c : ℕ) (rows : List (List ℤ)) (old new : Option (List (List (List ℕ)))) (cells : List (List ℕ)) (found : Bool) (told : ToldLines)
    → Stands w c rows old told → Takes old new cells found → found ≡ false → told.behind ≡ Err fault.End
nothing_at w c rows old new cells found told stands takes is =
    nothing_told w c rows told (known w c rows old told [] stands (none_taken old new cells found takes is))

-- what is told of a refusal
pub tells_refusal : (told : ToldLines) (result : Result (List (List ℤ) × Ending) RunTextFault) (why : RunTextFault) → result ≡ Err why
    → (why ≢ fault.Memory → told.behind ≡ Err why) → Tells told result
tells_refusal told result why e is = subst (Tells told) (sym e) is

pub no_memory : (told : ToldLines) (result : Result (List (List ℤ) × Ending) RunTextFault) → result ≡ Err fault.Memory → Tells told result
no_memory told result e = tells_refusal told result fault.Memory e (λ other. absurd (other refl))

-- the rows with one more
pub wide_more : (w c : ℕ) (rows all : List (List ℤ)) (row : List ℤ) (read : Line) → HasWidth w rows → read ≡ line.Row row
    → IfRow read (λ row. (length row ≡ w) × (c < most_cycles)) → all ≡ rows ++ row ∷ [] → HasWidth w all
wide_more w c rows all row read wide is fact e =
    let fits = subst (λ (l : Line). IfRow l (λ row. (length row ≡ w) × (c < most_cycles))) is fact in
    subst (HasWidth w) (sym e) (All-push (λ (r : List ℤ). length r ≡ w) rows row wide fits.0)

pub few_more : (w c : ℕ) (row : List ℤ) (read : Line) → read ≡ line.Row row → IfRow read (λ row. (length row ≡ w) × (c < most_cycles)) → c + 1 ≤ most_cycles
few_more w c row read is fact =
    let fits = subst (λ (l : Line). IfRow l (λ row. (length row ≡ w) × (c < most_cycles))) is fact in
    omega (arith, fits.1)

pub count_more : (c : ℕ) (rows all : List (List ℤ)) (row : List ℤ) → length rows ≡ c → all ≡ rows ++ row ∷ [] → length all ≡ c + 1
count_more c rows all row count e = ap length e ∙ (length_push rows row ∙ ap (λ n. n + 1) count)
