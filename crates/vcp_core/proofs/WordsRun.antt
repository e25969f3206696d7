-- WordsRun: how far the run of an image came of which the words of one cycle are printed, from what running its graph leaves.
use Rattle.std.proofs.Common.{ℕ, zero, suc, ◌+◌, ◌≡◌, ◌≤◌, ◌<◌, ◌⊎◌, inl, inr, Bool, true, false, cond, nat_le, refl, sym, ap, subst, ◌∙◌, List, [], ◌∷◌, length, slice_index_or, Option, Some, None, arith, ℤ}
use Rattle.std.proofs.lemmas.Bool.Decides.{nat_tests}
use Rattle.std.proofs.lemmas.List.{length-take}
use Rattle.input_rows.specs.declared.fault.RowFault.{RowFault}
use Rattle.input_rows.specs.RowsOf.{RowsLeft, behind_wanted, through}
use Rattle.coded_unit.specs.declared.call.Answer.{Answer as Given}
use Rattle.op_graph.specs.Lists.{Lists}
use Rattle.signature_table.specs.Signatures.{Numbers, table_of}
use Rattle.coded_machine.specs.declared.cycle_end.CycleEnd.{CycleEnd}
use Rattle.coded_machine.specs.declared.cycle_end.CycleEnd.TheVariants as cycle
use Rattle.coded_machine.specs.Calls.{Whole}
use Rattle.coded_machine.specs.CycleEnds.{end_of, outputs_of}
use Rattle.coded_machine.specs.Runs.{AllCycles, Outcome, followed_by, outcome_over, unless_ended}
use Rattle.coded_machine.specs.State.{State}
use Rattle.coded_machine.specs.Leaves.{last_answers}
use Rattle.vcp_inputs.specs.Answer.{image}
use Rattle.vcp_inputs.specs.CycleWords.{word_lines, words_among, words_in}
use Rattle.vcp_inputs.specs.Reports.{RunEnd, complete, end_read, subject_outputs, refused, stopped}
use Rattle.vcp_inputs.specs.Printing.{each_word, last_part}
use Rattle.vcp_inputs.specs.RunKind.{run_read}
use Rattle.vcp_inputs.specs.Forms.{Code}
use Rattle.vcp_core.specs.Tasks.{words_job, table_code}
use Rattle.vcp_core.specs.Shown.{RunCame}
use Rattle.vcp_core.specs.TraceRun.{answered_words, traced_text, words_then}
use Rattle.vcp_core.proofs.JobRun.{as-many, complete-is}

-- ---- rows through a cycle

module _ (n : ℕ) (left : RowsLeft) where
  pub through-few : length (through n left).rows ≤ n + 1
  through-few = omega (arith, length-take (n + 1) left.rows)

  wanted-all : (b : Bool) (o : Option RowFault) → behind_wanted b None o ≡ None → b ≡ true
  wanted-all true o is = refl
  wanted-all false None is = absurd cc
  wanted-all false (Some why) is = absurd cc

  pub through-all : (through n left).refusal ≡ None → length (through n left).rows ≡ n + 1
  through-all is =
      let many : nat_le (n + 1) (length left.rows) ≡ true = wanted-all (nat_le (n + 1) (length left.rows)) left.refusal is in
      let enough : n + 1 ≤ length left.rows = grind (arith, nat_tests) in
      omega (arith, length-take (n + 1) left.rows, enough)

-- ---- cycles and their answers

-- how many cycles there are, by the rows that were released and the end
abbrev pub Counts : ℕ → ℕ → CycleEnd → Type 0
Counts released cycles cycle.Released = released ≡ cycles
Counts released cycles e = suc released ≡ cycles

count-next : (e : CycleEnd) (i j : ℕ) → Counts i j e → Counts (suc i) (suc j) e
count-next cycle.Released i j is = ap suc is
count-next (cycle.Stopped k why) i j is = ap suc is
count-next (cycle.Refused output f w) i j is = ap suc is

count-step : (e : CycleEnd) (row : List ℤ) (o : Outcome) (More : Type 0) (cycles : List (List Given)) → unless_ended e More (cycles ≡ [])
    → (More → Counts (length o.rows) (length cycles) o.end) →
    Counts (length (followed_by e row o).rows) (suc (length cycles)) (followed_by e row o).end
count-step cycle.Released row o More cycles h go = count-next o.end (length o.rows) (length cycles) (go h)
count-step (cycle.Stopped k why) row o More cycles h go = ap (λ (l : List (List Given)). suc (length l)) (sym h)
count-step (cycle.Refused i f w) row o More cycles h go = ap (λ (l : List (List Given)). suc (length l)) (sym h)

pub cycles-count : (g : Lists) (t : Numbers) (k : ℕ) (rows : List (List ℤ)) (cycles : List (List Given)) → AllCycles g t k rows cycles
    → Counts (length (outcome_over g t k cycles).rows) (length cycles) (outcome_over g t k cycles).end
cycles-count g t k [] [] all = refl
cycles-count g t k [] (a ∷ cycles) all = absurd all
cycles-count g t k (row ∷ rows) [] all = absurd all
cycles-count g t k (row ∷ rows) (a ∷ cycles) all =
    count-step (end_of g t k a) (outputs_of g a) (outcome_over g t (suc k) cycles) (AllCycles g t (suc k) rows cycles) cycles all.1
    (λ more. cycles-count g t (suc k) rows cycles more)

few-step : (e : CycleEnd) (More : Type 0) (cycles : List (List Given)) (r : ℕ) → unless_ended e More (cycles ≡ []) → (More → length cycles ≤ r)
    → suc (length cycles) ≤ suc r
few-step cycle.Released More cycles r h go = omega (arith, go h)
few-step (cycle.Stopped k why) More cycles r h go = rw h (omega arith)
few-step (cycle.Refused i f w) More cycles r h go = rw h (omega arith)

-- there are no more cycles than rows
pub cycles-few : (g : Lists) (t : Numbers) (k : ℕ) (rows : List (List ℤ)) (cycles : List (List Given)) → AllCycles g t k rows cycles
    → length cycles ≤ length rows
cycles-few g t k [] [] all = omega arith
cycles-few g t k [] (a ∷ cycles) all = absurd all
cycles-few g t k (row ∷ rows) [] all = absurd all
cycles-few g t k (row ∷ rows) (a ∷ cycles) all =
    few-step (end_of g t k a) (AllCycles g t (suc k) rows cycles) cycles (length rows) all.1 (λ more. cycles-few g t (suc k) rows cycles more)

-- the answers of the last cycle
last-is : (cycles : List (List Given)) (n : ℕ) → length cycles ≡ suc n → last_answers cycles ≡ slice_index_or cycles n []
last-is [] n is = absurd (omega (arith, is))
last-is (a ∷ []) zero is = refl
last-is (a ∷ []) (suc n) is = absurd (omega (arith, is))
last-is (a ∷ b ∷ cycles) zero is = absurd (omega (arith, is))
last-is (a ∷ b ∷ cycles) (suc n) is = last-is (b ∷ cycles) n (omega (arith, is))

-- no cycle is there behind the last one
none-is : (cycles : List (List Given)) (n : ℕ) → length cycles ≤ n → slice_index_or cycles n [] ≡ []
none-is [] n few = refl
none-is (a ∷ cycles) zero few = absurd (omega (arith, few))
none-is (a ∷ cycles) (suc n) few = none-is cycles n (omega (arith, few))

unless-some : (e : CycleEnd) (More P : Type 0) (a : List Given) (cycles : List (List Given)) → unless_ended e More ((a ∷ cycles) ≡ []) → (More → P) → P
unless-some cycle.Released More P a cycles h go = go h
unless-some (cycle.Stopped k why) More P a cycles h go = absurd cc
unless-some (cycle.Refused i f w) More P a cycles h go = absurd cc

-- the last cycle is whole
last-whole : (g : Lists) (t : Numbers) (k : ℕ) (rows : List (List ℤ)) (cycles : List (List Given)) → AllCycles g t k rows cycles → 0 < length cycles
    → Whole g.operations (last_answers cycles)
last-whole g t k rows [] all some = absurd (omega (arith, some))
last-whole g t k [] (a ∷ cycles) all some = absurd all
last-whole g t k (row ∷ rows) (a ∷ []) all some = all.0
last-whole g t k (row ∷ rows) (a ∷ b ∷ cycles) all some =
    unless-some (end_of g t k a) (AllCycles g t (suc k) rows (b ∷ cycles)) (Whole g.operations (last_answers (b ∷ cycles))) b cycles all.1
    (λ more. last-whole g t (suc k) rows (b ∷ cycles) more (omega arith))

-- the answers of the last cycle are whole, where there is one
pub answers-whole : (g : Lists) (t : Numbers) (rows : List (List ℤ)) (cycles : List (List Given)) → AllCycles g t 0 rows cycles
    → (last_answers cycles ≡ []) ⊎ Whole g.operations (last_answers cycles)
answers-whole g t rows [] all = inl refl
answers-whole g t rows (a ∷ cycles) all = inr (last-whole g t 0 rows (a ∷ cycles) all (omega arith))

-- how many cycles there are of a run over the rows through cycle n, where so many were released
pub record HasCycles (n released cycles : ℕ) : Type 0 where
  pub begun : n ≤ released → cycles ≡ suc n
  pub before : (n ≤ released → ⊥) → cycles ≤ n

not-begun-by : (b : Bool) (n released cycles : ℕ) → nat_le n released ≡ b → suc released ≡ cycles → (n ≤ released → ⊥) → cycles ≤ n
not-begun-by true n released cycles test is not = absurd (not (grind (arith, nat_tests)))
not-begun-by false n released cycles test is not = grind (arith, nat_tests)

not-begun : (n released cycles : ℕ) → suc released ≡ cycles → (n ≤ released → ⊥) → cycles ≤ n
not-begun n released cycles is not = not-begun-by (nat_le n released) n released cycles refl is not

has-cycles : (n released cycles rows : ℕ) (e : CycleEnd) → Counts released cycles e → cycles ≤ rows → rows ≤ n + 1
    → (e ≡ cycle.Released → (cycles ≡ rows) × (rows ≡ n + 1)) → HasCycles n released cycles
has-cycles n released cycles rows cycle.Released is few within all =
    let (whole, many) = all refl in
    record { begun = λ below. omega (arith, whole, many); before = λ not. absurd (not (omega (arith, is, whole, many))) }
has-cycles n released cycles rows (cycle.Stopped k why) is few within all =
    record { begun = λ below. omega (arith, is, few, within, below); before = λ not. not-begun n released cycles is not }
has-cycles n released cycles rows (cycle.Refused i f w) is few within all =
    record { begun = λ below. omega (arith, is, few, within, below); before = λ not. not-begun n released cycles is not }

-- ---- the words

answered-by : (n released : ℕ) (b : Bool) (cycles : List (List Given)) → nat_le n released ≡ b → HasCycles n released (length cycles)
    → cond b (words_among (last_answers cycles)) [] ≡ words_in n cycles
answered-by n released true cycles is has =
    let below : n ≤ released = grind (arith, nat_tests) in
    ap words_among (last-is cycles n (has.begun below))
answered-by n released false cycles is has =
    let not : n ≤ released → ⊥ = λ below. let yes : nat_le n released ≡ true = grind (arith, nat_tests) in cc in
    ap words_among (sym (none-is cycles n (has.before not)))

-- ---- what is printed

-- a cycle's end that is told as one that ends the run is told so whatever is behind the rows
words-same-by : (lines : List ℕ) (names : List (List ℕ)) (k : ℕ) (e : RunEnd) (behind : Option RowFault) → (e ≡ complete → behind ≡ None)
    → words_then lines names k e None ≡ words_then lines names k e behind
words-same-by lines names k complete behind h = ap (words_then lines names k complete) (sym (h refl))
words-same-by lines names k (stopped s) behind h = refl
words-same-by lines names k (refused i f w) behind h = refl

-- the last part of what is printed where a run came to this end
last-words : (code : Code) (n : ℕ) (names : List (List ℕ)) (rows : List (List ℤ)) (words : List ℤ) (g : Lists) (own e : RunEnd) (behind : Option RowFault) →
    last_part (each_word g code n) names (record { rows = rows; end = own; words = words }) e behind
    ≡ words_then (word_lines g (table_of code.seed code.step g) n 0 g.operations words) names (length rows) e behind
last-words code n names rows words g own complete None = refl
last-words code n names rows words g own complete (Some why) = refl
last-words code n names rows words g own (stopped s) behind = refl
last-words code n names rows words g own (refused i f w) behind = refl

-- ---- the job

-- each row through cycle n was taken, unless the run ended before
module _ (g : Lists) (n : ℕ) (name : List ℕ) (t : Numbers) (left : RowsLeft) (few-rows : length left.rows ≤ n + 1)
    (all-there : left.refusal ≡ None → length left.rows ≡ n + 1) {R : Type 0} (Keeps : R → List (List ℤ) → Type 0) (kept now : R)
    (cycles : List (List Given)) (m : State) (e : CycleEnd) (came : RunCame Keeps kept now (words_job name n g (table_code t) left) g cycles m e) where
  abbrev names : List (List ℕ)
  names = subject_outputs (image g)

  abbrev table : Numbers
  table = table_of t.seed t.step g

  abbrev outcome_is : Outcome
  outcome_is = outcome_over g table 0 cycles

  -- the lines of the run's words
  abbrev lines_of : List ℕ
  lines_of = word_lines g table n 0 g.operations (words_in n cycles)

  has : HasCycles n m.cycles (length cycles)
  has =
      let counts : Counts (length outcome_is.rows) (length cycles) outcome_is.end = cycles-count g table 0 left.rows cycles came.came.all in
      has-cycles n m.cycles (length cycles) (length left.rows) e
      (subst (λ x. Counts m.cycles (length cycles) x) came.came.end_is (subst (λ r. Counts r (length cycles) outcome_is.end) (sym came.machine.cycles) counts))
      (cycles-few g table 0 left.rows cycles came.came.all) few-rows
      (λ released. (as-many g table 0 left.rows cycles came.came.all (came.came.end_is ∙ released), all-there (came.all_taken released)))

  words-are : answered_words m n ≡ words_in n cycles
  words-are = ap (λ xs. cond (nat_le n m.cycles) (words_among xs) []) came.machine.answers ∙ answered-by n m.cycles (nat_le n m.cycles) cycles refl has

  -- what is printed of the machine is what is read off the answers
  text-is : traced_text m names n e ≡ words_then lines_of names (length outcome_is.rows) (end_read g e) left.refusal
  text-is =
      ap (λ ws. words_then (word_lines m.graph m.table n 0 m.graph.operations ws) names m.cycles (end_read m.graph e) None) words-are
      ∙ ap (λ (h : Lists). words_then (word_lines h m.table n 0 h.operations (words_in n cycles)) names m.cycles (end_read h e) None) came.machine.graph
      ∙ ap (λ u. words_then (word_lines g u n 0 g.operations (words_in n cycles)) names m.cycles (end_read g e) None) came.machine.table
      ∙ ap (λ k. words_then lines_of names k (end_read g e) None) came.machine.cycles
      ∙ words-same-by lines_of names (length outcome_is.rows) (end_read g e) left.refusal (λ c. came.all_taken (complete-is g e came.there c))

  -- which is the last part of what is printed of the run
  pub last-part-is : traced_text m names n e
      ≡ last_part (each_word g (table_code t) n) names (run_read (words_job name n g (table_code t) left) g cycles) (end_read g e) left.refusal
  last-part-is = text-is
      ∙ sym (last-words (table_code t) n names outcome_is.rows (words_in n cycles) g (end_read g outcome_is.end) (end_read g e) left.refusal)
