-- KeptAnswers: the answers of a run, and the words that are kept of them.
use Rattle.std.proofs.Common.{◌≡◌, ◌≢◌, ℕ, zero, suc, ◌+◌, ◌*◌, ◌<◌, ◌≤◌, true, false, List, [], ◌∷◌, ◌++◌, length, take, drop, slice_get, slice_index_or, Option, Some, None, ℤ, refl, sym, ap, subst, ◌∙◌, arith}
use Rattle.std.proofs.lemmas.List.{append-nil, length-append, length-drop, take-append-le, drop-append-le}
use Rattle.vcp_base.specs.declared.kind.StopKind.{StopKind}
use Rattle.vcp_base.specs.declared.kind.StopKind.TheVariants as stop
use Rattle.coded_unit.specs.declared.call.Answer.{Answer}
use Rattle.coded_unit.specs.declared.call.Answer.TheVariants as answer
use Rattle.coded_unit.specs.Log.{Entry}
use Rattle.op_graph.specs.declared.op.Op.{Op}
use Rattle.op_graph.specs.Lists.{Lists}
use Rattle.signature_table.specs.Signatures.{Numbers}
use Rattle.coded_machine.specs.declared.cycle_end.CycleEnd.{CycleEnd}
use Rattle.coded_machine.specs.declared.cycle_end.CycleEnd.TheVariants as end
use Rattle.coded_machine.specs.Calls.{CallsOf, AllWords, Whole}
use Rattle.coded_machine.specs.CycleEnds.{end_of, end_or, first_stop, outputs_of, stored_words}
use Rattle.coded_machine.specs.Honest.{stop_answer}
use Rattle.coded_machine.specs.Runs.{AllCycles, AllReleased, Outcome, calls_over, followed_by, outcome_over, setting_at, unless_ended}
use Rattle.coded_machine.specs.State.{word_in}
use Rattle.fault_injector.specs.Kept.{front_words, stop_kind}
use Rattle.fault_injector.specs.References.{words_answered, kept_cycles}

-- ---- one cycle

-- the answers of whole cycle are no more than its operations
pub whole_few : (ops : List Op) (answers : List Answer) → Whole ops answers → length answers ≤ length ops
whole_few [] [] w = omega arith
whole_few [] (a ∷ answers) w = absurd w
whole_few (op ∷ ops) [] w = absurd w
whole_few (op ∷ ops) (answer.Word x ∷ answers) w = omega (arith, whole_few ops answers w)
whole_few (op ∷ ops) (answer.Range ∷ answers) w = let none : answers ≡ [] = w in omega (arith, ap length none)
whole_few (op ∷ ops) (answer.DivZero ∷ answers) w = let none : answers ≡ [] = w in omega (arith, ap length none)
whole_few (op ∷ ops) (answer.Operand ∷ answers) w = let none : answers ≡ [] = w in omega (arith, ap length none)

-- words alone are all kept
pub words_split : (answers : List Answer) → AllWords answers → answers ≡ words_answered (front_words answers)
words_split [] w = refl
words_split (answer.Word x ∷ answers) w = ap (λ (us : List Answer). answer.Word x ∷ us) (words_split answers w.1)
words_split _ w = let e : false ≡ true = w.0 in absurd cc

pub words_counted : (answers : List Answer) → AllWords answers → length (front_words answers) ≡ length answers
words_counted [] w = refl
words_counted (answer.Word x ∷ answers) w = ap suc (words_counted answers w.1)
words_counted _ w = let e : false ≡ true = w.0 in absurd cc

-- where each operation answered a word, the answers are words alone
pub whole_words : (ops : List Op) (answers : List Answer) → Whole ops answers → length (front_words answers) ≡ length ops → AllWords answers
whole_words [] [] w e = tt
whole_words [] (a ∷ answers) w e = absurd w
whole_words (op ∷ ops) [] w e = absurd w
whole_words (op ∷ ops) (answer.Word x ∷ answers) w e = (refl, whole_words ops answers w (omega (arith, e)))
whole_words (op ∷ ops) _ w e = absurd (omega (arith, e))

-- and where one didn't, the stop is the cycle's end
pub stop_split : (ops : List Op) (answers : List Answer) (k : ℕ) (later : CycleEnd) → Whole ops answers → length (front_words answers) < length ops
    → answers ≡ words_answered (front_words answers) ++ stop_answer (stop_kind (end_or (first_stop k answers) later))
stop_split [] answers k later w few = absurd (omega (arith, few))
stop_split (op ∷ ops) [] k later w few = absurd w
stop_split (op ∷ ops) (answer.Word x ∷ answers) k later w few =
    ap (λ (us : List Answer). answer.Word x ∷ us) (stop_split ops answers (suc k) later w (omega (arith, few)))
stop_split (op ∷ ops) (answer.Range ∷ answers) k later w few = let none : answers ≡ [] = w in ap (λ (us : List Answer). answer.Range ∷ us) none
stop_split (op ∷ ops) (answer.DivZero ∷ answers) k later w few = let none : answers ≡ [] = w in ap (λ (us : List Answer). answer.DivZero ∷ us) none
stop_split (op ∷ ops) (answer.Operand ∷ answers) k later w few = let none : answers ≡ [] = w in ap (λ (us : List Answer). answer.Operand ∷ us) none

pub stop_there : (ops : List Op) (answers : List Answer) (k : ℕ) (later : CycleEnd) → Whole ops answers → length (front_words answers) < length ops
    → (why : StopKind) × (stop_kind (end_or (first_stop k answers) later) ≡ Some why)
stop_there [] answers k later w few = absurd (omega (arith, few))
stop_there (op ∷ ops) [] k later w few = absurd w
stop_there (op ∷ ops) (answer.Word x ∷ answers) k later w few = stop_there ops answers (suc k) later w (omega (arith, few))
stop_there (op ∷ ops) (answer.Range ∷ answers) k later w few = (stop.Range, refl)
stop_there (op ∷ ops) (answer.DivZero ∷ answers) k later w few = (stop.DivZero, refl)
stop_there (op ∷ ops) (answer.Operand ∷ answers) k later w few = (stop.Operand, refl)

-- the words up to the first that is none, from an operation on
pub front_more : (answers : List Answer) (k : ℕ) (w : ℤ) → word_in (slice_get answers k) ≡ Some w
    → front_words (drop k answers) ≡ w ∷ front_words (drop (k + 1) answers)
front_more [] k w is = absurd cc
front_more (answer.Word x ∷ answers) zero w is = let same : x ≡ w = cc in ap (λ (y : ℤ). y ∷ front_words answers) same
front_more (answer.Range ∷ answers) zero w is = absurd cc
front_more (answer.DivZero ∷ answers) zero w is = absurd cc
front_more (answer.Operand ∷ answers) zero w is = absurd cc
front_more (a ∷ answers) (suc k) w is =
    let on : suc k + 1 ≡ suc (k + 1) = omega arith in
    front_more answers k w is ∙ ap (λ (j : ℕ). w ∷ front_words (drop j (a ∷ answers))) (sym on)

pub front_ends : (answers : List Answer) (k : ℕ) → word_in (slice_get answers k) ≡ None → front_words (drop k answers) ≡ []
front_ends [] zero is = refl
front_ends [] (suc k) is = refl
front_ends (answer.Word x ∷ answers) zero is = absurd cc
front_ends (answer.Range ∷ answers) zero is = refl
front_ends (answer.DivZero ∷ answers) zero is = refl
front_ends (answer.Operand ∷ answers) zero is = refl
front_ends (a ∷ answers) (suc k) is = front_ends answers k is

-- ---- how many words are kept of a cycle, and room for them

pub nothing_more : (n : ℕ) → n ≡ n + 0
nothing_more n = omega arith

pub one_counted : (len old k : ℕ) → len ≡ old + k → len + 1 ≡ old + (k + 1)
one_counted len old k is = omega (arith, is)

pub whole_drop : (answers : List Answer) → answers ≡ drop 0 answers
whole_drop [] = refl
whole_drop (a ∷ answers) = refl

pub room_next : (len old k n cap now : ℕ) → len ≡ old + k → k < n → old + n ≤ cap → cap ≤ now → len < now
room_next len old k n cap now is below room more = omega (arith, is, below, room, more)

pub fewer_words : (old words front : List ℤ) (k n : ℕ) → old ++ front ≡ words → length words ≡ length old + k → k < n → length front < n
fewer_words old words front k n is count below = omega (arith, ap length is, length-append old front, count, below)

pub all_words : (old words front : List ℤ) (k n : ℕ) → old ++ front ≡ words → length words ≡ length old + k → n ≤ k → k ≤ n → length front ≡ n
all_words old words front k n is count past few = omega (arith, ap length is, length-append old front, count, past, few)

-- ---- the cycles that are kept

take_length : (n : ℕ) (front : List ℤ) → length front ≡ n → take n front ≡ front
take_length zero [] e = refl
take_length zero (w ∷ front) e = absurd (omega (arith, e))
take_length (suc n) [] e = absurd (omega (arith, e))
take_length (suc n) (w ∷ front) e = ap (λ (ws : List ℤ). w ∷ ws) (take_length n front (omega (arith, e)))

-- behind whole cycles one more, of any words and end
pub kept_more : (n whole : ℕ) (words more : List ℤ) (cycle : List Answer) (later : ℕ) (s : Option StopKind) → length words ≡ whole * n
    → kept_cycles n later more s ≡ cycle ∷ []
    → kept_cycles n (whole + later) (words ++ more) s ≡ kept_cycles n whole words None ++ cycle ∷ []
kept_more n zero [] more cycle later s flat is = let none : 0 + later ≡ later = omega arith in ap (λ (k : ℕ). kept_cycles n k more s) none ∙ is
kept_more n zero (w ∷ words) more cycle later s flat is = let none : 0 * n ≡ 0 = grind arith in absurd (omega (arith, flat, none))
kept_more n (suc whole) words more cycle later s flat is =
    let one : suc whole * n ≡ n + whole * n = grind arith in
    let enough : n ≤ length words = omega (arith, flat, one) in
    let rest : length (drop n words) ≡ whole * n = length-drop n words ∙ omega (arith, flat, one) in
    let on : suc whole + later ≡ suc (whole + later) = omega arith in
    ap (λ (k : ℕ). kept_cycles n k (words ++ more) s) on
    ∙ (ap (λ (ws : List ℤ). words_answered ws ∷ kept_cycles n (whole + later) (drop n (words ++ more)) s) (take-append-le n words more enough)
    ∙ (ap (λ (ws : List ℤ). words_answered (take n words) ∷ kept_cycles n (whole + later) ws s) (drop-append-le n words more enough)
    ∙ ap (λ (cs : List (List Answer)). words_answered (take n words) ∷ cs) (kept_more n whole (drop n words) more cycle later s rest is)))

pub kept_whole : (n : ℕ) (front : List ℤ) (cycle : List Answer) → length front ≡ n → cycle ≡ words_answered front → kept_cycles n 1 front None ≡ cycle ∷ []
kept_whole n front cycle count is = ap (λ (ws : List ℤ). words_answered ws ∷ []) (take_length n front count) ∙ ap (λ (c : List Answer). c ∷ []) (sym is)

pub kept_stop : (n : ℕ) (front : List ℤ) (cycle : List Answer) (s : Option StopKind) (why : StopKind) → s ≡ Some why
    → cycle ≡ words_answered front ++ stop_answer s → kept_cycles n 0 front s ≡ cycle ∷ []
kept_stop n front cycle s why some is =
    ap (λ (o : Option StopKind). kept_cycles n 0 front o) some
    ∙ (ap (λ (o : Option StopKind). (words_answered front ++ stop_answer o) ∷ []) (sym some) ∙ ap (λ (c : List Answer). c ∷ []) (sym is))

drop_none : (k : ℕ) → let none : List ℤ = [] in drop k none ≡ none
drop_none zero = refl
drop_none (suc k) = refl

drop_drop : (m k : ℕ) (xs : List ℤ) → drop k (drop m xs) ≡ drop (m + k) xs
drop_drop zero k xs = let none : 0 + k ≡ k = omega arith in ap (λ (j : ℕ). drop j xs) (sym none)
drop_drop (suc m) k [] = drop_none k ∙ sym (drop_none (suc m + k))
drop_drop (suc m) k (x ∷ xs) = let on : suc m + k ≡ suc (m + k) = omega arith in drop_drop m k xs ∙ ap (λ (j : ℕ). drop j (x ∷ xs)) (sym on)

-- how many there are, and each of them
abbrev pub count_stop : Option StopKind → ℕ
count_stop None = 0
count_stop (Some why) = 1

pub kept_within : (n whole : ℕ) (words : List ℤ) (s : Option StopKind) (i : ℕ) → i < whole
    → slice_get (kept_cycles n whole words s) i ≡ Some (words_answered (take n (drop (i * n) words)) ++ stop_answer None)
kept_within n zero words s i within = absurd (omega (arith, within))
kept_within n (suc whole) words s zero within =
    let none : 0 * n ≡ 0 = grind arith in
    ap (λ (k : ℕ). Some (words_answered (take n (drop k words)))) (sym none)
    ∙ ap (λ (us : List Answer). Some us) (sym (append-nil (words_answered (take n (drop (0 * n) words)))))
kept_within n (suc whole) words s (suc i) within =
    let on : n + i * n ≡ suc i * n = grind arith in
    kept_within n whole (drop n words) s i (omega (arith, within))
    ∙ ap (λ (ws : List ℤ). Some (words_answered (take n ws) ++ stop_answer None)) (drop_drop n (i * n) words ∙ ap (λ (k : ℕ). drop k words) on)

pub kept_last : (n whole : ℕ) (words : List ℤ) (s : Option StopKind) (i : ℕ) → whole ≤ i → i < length (kept_cycles n whole words s)
    → slice_get (kept_cycles n whole words s) i ≡ Some (words_answered (drop (i * n) words) ++ stop_answer s)
kept_last n zero words None i past within = absurd (omega (arith, within))
kept_last n zero words (Some why) zero past within =
    let none : 0 * n ≡ 0 = grind arith in
    ap (λ (k : ℕ). Some (words_answered (drop k words) ++ stop_answer (Some why))) (sym none)
kept_last n zero words (Some why) (suc i) past within = absurd (omega (arith, within))
kept_last n (suc whole) words s zero past within = absurd (omega (arith, past))
kept_last n (suc whole) words s (suc i) past within =
    let on : n + i * n ≡ suc i * n = grind arith in
    kept_last n whole (drop n words) s i (omega (arith, past)) (omega (arith, within))
    ∙ ap (λ (ws : List ℤ). Some (words_answered ws ++ stop_answer s)) (drop_drop n (i * n) words ∙ ap (λ (k : ℕ). drop k words) on)

pub kept_count : (n whole : ℕ) (words : List ℤ) (s : Option StopKind) → length (kept_cycles n whole words s) ≡ whole + count_stop s
kept_count n zero words None = refl
kept_count n zero words (Some why) = refl
kept_count n (suc whole) words s = let e = kept_count n whole (drop n words) s in omega (arith, e)

-- ---- runs over rows, of which some are left

pub calls_front : (g : Lists) (t : Numbers) (n : ℕ) (held : List ℤ) (front rest : List (List ℤ)) (cycles : List (List Answer))
    → length cycles ≤ length front → calls_over g t n held (front ++ rest) cycles ≡ calls_over g t n held front cycles
calls_front g t n held front rest [] few = refl
calls_front g t n held [] rest (answers ∷ cycles) few = absurd (omega (arith, few))
calls_front g t n held (row ∷ front) rest (answers ∷ cycles) few =
    ap (λ (es : List Entry). CallsOf (setting_at g t n held row) answers ++ es)
    (calls_front g t (suc n) (stored_words g answers) front rest cycles (omega (arith, few)))

all_step : (e : CycleEnd) (A : Type 0) (B : Type 0) → e ≡ end.Released → A → unless_ended e A B
all_step end.Released A B is a = a
all_step (end.Stopped k why) A B is a = absurd cc
all_step (end.Refused i found wanted) A B is a = absurd cc

all_end : (e : CycleEnd) (A : Type 0) (B : Type 0) → e ≢ end.Released → B → unless_ended e A B
all_end end.Released A B not b = absurd (not refl)
all_end (end.Stopped k why) A B not b = b
all_end (end.Refused i found wanted) A B not b = b

-- released cycles, and then one that isn't, are all cycles of a run over rows of which more are left
pub all_ended : (g : Lists) (t : Numbers) (n : ℕ) (front rest : List (List ℤ)) (row : List ℤ) (cycles : List (List Answer)) (answers : List Answer) (m : ℕ)
    → AllReleased g t n cycles → length front ≡ length cycles → m ≡ n + length cycles → Whole g.operations answers → end_of g t m answers ≢ end.Released
    → AllCycles g t n (front ++ row ∷ rest) (cycles ++ answers ∷ [])
all_ended g t n [] rest row [] answers m released count at whole not =
    let here : m ≡ n = omega (arith, at) in
    (whole, all_end (end_of g t n answers) _ _ (subst (λ (k : ℕ). end_of g t k answers ≢ end.Released) here not) refl)
all_ended g t n [] rest row (c ∷ cycles) answers m released count at whole not = absurd (omega (arith, count))
all_ended g t n (r ∷ front) rest row [] answers m released count at whole not = absurd (omega (arith, count))
all_ended g t n (r ∷ front) rest row (c ∷ cycles) answers m released count at whole not = (
  released.0,
  all_step (end_of g t n c) _ _ released.1
      (all_ended g t (suc n) front rest row cycles answers m released.2 (omega (arith, count)) (omega (arith, at)) whole not),
)

-- ---- how each cycle of a run ended

pub not_released : (e : CycleEnd) (A B : Type 0) → unless_ended e A B → (B → ⊥) → (e ≡ end.Released) × A
not_released end.Released A B u none = (refl, u)
not_released (end.Stopped k why) A B u none = absurd (none u)
not_released (end.Refused i found wanted) A B u none = absurd (none u)

last_end : (e : CycleEnd) (row : List ℤ) → (followed_by e row (record { rows = []; end = end.Released })).end ≡ e
last_end end.Released row = refl
last_end (end.Stopped k why) row = refl
last_end (end.Refused i found wanted) row = refl

later_end : (e : CycleEnd) (row : List ℤ) (later : Outcome) → e ≡ end.Released → (followed_by e row later).end ≡ later.end
later_end end.Released row later is = refl
later_end (end.Stopped k why) row later is = absurd cc
later_end (end.Refused i found wanted) row later is = absurd cc

pub ended_inside : (g : Lists) (t : Numbers) (n : ℕ) (rows : List (List ℤ)) (cycles : List (List Answer)) (i : ℕ) → AllCycles g t n rows cycles
    → i + 1 < length cycles → end_of g t (n + i) (slice_index_or cycles i []) ≡ end.Released
ended_inside g t n rows [] i all within = absurd (omega (arith, within))
ended_inside g t n [] (answers ∷ cycles) i all within = absurd all
ended_inside g t n (row ∷ rows) (answers ∷ []) i all within = absurd (omega (arith, within))
ended_inside g t n (row ∷ rows) (answers ∷ next ∷ cycles) zero all within =
    let here : n + 0 ≡ n = omega arith in
    ap (λ (k : ℕ). end_of g t k answers) here ∙ (not_released (end_of g t n answers) _ _ all.1 (λ none. absurd cc)).0
ended_inside g t n (row ∷ rows) (answers ∷ next ∷ cycles) (suc i) all within =
    let on : n + suc i ≡ suc n + i = omega arith in
    let later = (not_released (end_of g t n answers) _ _ all.1 (λ none. absurd cc)).1 in
    ap (λ (k : ℕ). end_of g t k (slice_index_or (next ∷ cycles) i [])) on
    ∙ ended_inside g t (suc n) rows (next ∷ cycles) i later (omega (arith, within))

pub ended_last : (g : Lists) (t : Numbers) (n : ℕ) (rows : List (List ℤ)) (cycles : List (List Answer)) (i : ℕ) → AllCycles g t n rows cycles
    → i + 1 ≡ length cycles → end_of g t (n + i) (slice_index_or cycles i []) ≡ (outcome_over g t n cycles).end
ended_last g t n rows [] i all last = absurd (omega (arith, last))
ended_last g t n [] (answers ∷ cycles) i all last = absurd all
ended_last g t n (row ∷ rows) (answers ∷ []) zero all last =
    let here : n + 0 ≡ n = omega arith in
    ap (λ (k : ℕ). end_of g t k answers) here ∙ sym (last_end (end_of g t n answers) (outputs_of g answers))
ended_last g t n (row ∷ rows) (answers ∷ []) (suc i) all last = absurd (omega (arith, last))
ended_last g t n (row ∷ rows) (answers ∷ next ∷ cycles) zero all last = absurd (omega (arith, last))
ended_last g t n (row ∷ rows) (answers ∷ next ∷ cycles) (suc i) all last =
    let on : n + suc i ≡ suc n + i = omega arith in
    let later = not_released (end_of g t n answers) _ _ all.1 (λ none. absurd cc) in
    ap (λ (k : ℕ). end_of g t k (slice_index_or (next ∷ cycles) i [])) on
    ∙ (ended_last g t (suc n) rows (next ∷ cycles) i later.1 (omega (arith, last))
    ∙ sym (later_end (end_of g t n answers) (outputs_of g answers) (outcome_over g t (suc n) (next ∷ cycles)) later.0))

-- there are no more cycles than rows
unless_few : (e : CycleEnd) (A : Type 0) (cycles : List (List Answer)) (k : ℕ) → (A → length cycles ≤ k) → unless_ended e A (cycles ≡ []) → length cycles ≤ k
unless_few end.Released A cycles k h u = h u
unless_few (end.Stopped op why) A cycles k h u = let none : cycles ≡ [] = u in omega (arith, ap length none)
unless_few (end.Refused i found wanted) A cycles k h u = let none : cycles ≡ [] = u in omega (arith, ap length none)

pub cycles_few : (g : Lists) (t : Numbers) (n : ℕ) (rows : List (List ℤ)) (cycles : List (List Answer)) → AllCycles g t n rows cycles
    → length cycles ≤ length rows
cycles_few g t n [] [] all = omega arith
cycles_few g t n [] (answers ∷ cycles) all = absurd all
cycles_few g t n (row ∷ rows) [] all = absurd all
cycles_few g t n (row ∷ rows) (answers ∷ cycles) all =
    omega (arith, unless_few (end_of g t n answers) _ cycles (length rows) (cycles_few g t (suc n) rows cycles) all.1)
