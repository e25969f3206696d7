-- WordsHonest: where all answers are right, the words of a cycle are those that are meant.
use Rattle.std.proofs.Common.{ℕ, zero, suc, ◌+◌, ◌≡◌, ◌≤◌, ◌<◌, refl, ap, subst, ◌∙◌, List, [], ◌∷◌, ◌++◌, length, Option, Some, None, arith, ℤ}
use Rattle.vcp_base.specs.declared.code.Profile.{Profile}
use Rattle.vcp_base.specs.declared.kind.StopKind.{StopKind}
use Rattle.vcp_base.specs.declared.kind.StopKind.TheVariants as stop
use Rattle.vcp_base.specs.Limits.{most_cycles}
use Rattle.coded_unit.specs.declared.call.Answer.{Answer as Given}
use Rattle.coded_unit.specs.Log.{Entry}
use Rattle.coded_unit.specs.Words.{coded}
use Rattle.op_graph.specs.Lists.{Lists}
use Rattle.op_graph.specs.Rules.{IsGraph}
use Rattle.op_graph.specs.GraphRun.{Cycle, cycle, initial, stored}
use Rattle.signature_table.specs.Signatures.{Numbers, IsTable, expected, stamp_before, table_of}
use Rattle.coded_machine.specs.declared.cycle_end.CycleEnd.{CycleEnd}
use Rattle.coded_machine.specs.Calls.{AllRight, CallsOf}
use Rattle.coded_machine.specs.CycleEnds.{end_of, initial_words, stored_words}
use Rattle.coded_machine.specs.Honest.{CellsHold, HonestCells, HonestCycles, StandsFor, end_at, stop_answer, words_from}
use Rattle.coded_machine.specs.Runs.{AllCycles, calls_over, setting_at, unless_ended}
use Rattle.vcp_inputs.specs.Forms.{Code}
use Rattle.vcp_inputs.specs.CycleWords.{cycle_begun, unless_stopped, words_among, words_begun, words_for, words_in, words_meant}
use Rattle.vcp_core.specs.Tasks.{table_code}

-- ---- one cycle

-- a stop is no word
no-words : (o : Option StopKind) → words_among (stop_answer o) ≡ []
no-words None = refl
no-words (Some stop.Range) = refl
no-words (Some stop.DivZero) = refl
no-words (Some stop.Operand) = refl

-- the words among the words of values and a stop
among-words : (p : Profile) (code : Code) (n k : ℕ) (values : List ℤ) (o : Option StopKind)
    → words_among (words_from p code.seed code.step n k values ++ stop_answer o) ≡ words_for p code n k values
among-words p code n k [] o = no-words o
among-words p code n k (v ∷ values) o = ap (λ ws. coded p v (expected p code.seed code.step k n) ∷ ws) (among-words p code n (suc k) values o)

-- ---- calls

right-front : (xs ys : List Entry) → AllRight (xs ++ ys) → AllRight xs
right-front [] ys h = tt
right-front (x ∷ xs) ys h = (h.0, right-front xs ys h.1)

right-back : (xs ys : List Entry) → AllRight (xs ++ ys) → AllRight ys
right-back [] ys h = h
right-back (x ∷ xs) ys h = right-back xs ys h.1

-- ---- the cycles after one

module _ (p : Profile) (code : Code) (j k : ℕ) (cycles : List (List Given)) (later : Option Cycle) where
  in-none : cycles ≡ [] → words_in k cycles ≡ []
  in-none is = ap (words_in k) is

  after-stop : (o : Option StopKind) (len : ℕ) (e : CycleEnd) (More : Type 0) → e ≡ end_at len o → unless_ended e More (cycles ≡ [])
      → (o ≡ None → More → words_in k cycles ≡ words_begun p code j later) →
      words_in k cycles ≡ words_begun p code j (unless_stopped o later)
  after-stop None len e More is h go = go refl (subst (λ x. unless_ended x More (cycles ≡ [])) is h)
  after-stop (Some why) len e More is h go = in-none (subst (λ x. unless_ended x More (cycles ≡ [])) is h)

-- ---- a run

module _ (laws : HonestCycles) (g : Lists) (t : Numbers) (graph : IsGraph g) (table : IsTable t) where
  words-from-cells : (m : ℕ) (held values : List ℤ) (rows : List (List ℤ)) (cycles : List (List Given)) (k : ℕ) → m + length rows ≤ most_cycles
      → CellsHold g t.seed (stamp_before t.step m) held values →
      AllRight (calls_over g t m held rows cycles) → AllCycles g t m rows cycles → words_in k cycles ≡ words_begun g.profile (table_code t) (m + k)
      (cycle_begun g values rows k)
  words-from-cells m held values [] [] k few hold right all = refl
  words-from-cells m held values [] (a ∷ cycles) k few hold right all = absurd all
  words-from-cells m held values (row ∷ rows) [] k few hold right all = absurd all
  words-from-cells m held values (row ∷ rows) (a ∷ cycles) zero few hold right all =
      let s : StandsFor (setting_at g t m held row) values a =
      laws (setting_at g t m held row) values a graph table (omega (arith, few)) hold
      (right-front _ (calls_over g t (suc m) (stored_words g a) rows cycles) right) all.0 in
      let c : Cycle = cycle g values row in
      let here : m ≡ m + zero = omega arith in
      ap words_among s.answers_are ∙ among-words g.profile (table_code t) m 0 c.values c.stop ∙ ap (λ j. words_for g.profile (table_code t) j 0 c.values) here
  words-from-cells m held values (row ∷ rows) (a ∷ cycles) (suc k) few hold right all =
      let rest : List Entry = calls_over g t (suc m) (stored_words g a) rows cycles in
      let s : StandsFor (setting_at g t m held row) values a =
      laws (setting_at g t m held row) values a graph table (omega (arith, few)) hold (right-front _ rest right) all.0 in
      let c : Cycle = cycle g values row in
      let next : m + 1 ≡ suc m = omega arith in
      let shift : suc m + k ≡ m + suc k = omega arith in
      after-stop g.profile (table_code t) (m + suc k) k cycles (cycle_begun g (stored g c.values) rows k) c.stop (length c.values) (end_of g t m a)
      (AllCycles g t (suc m) rows cycles) s.end_is all.1
      (λ none more.
      words-from-cells (suc m) (stored_words g a) (stored g c.values) rows cycles k (omega (arith, few))
      (subst (λ j. CellsHold g t.seed (stamp_before t.step j) (stored_words g a) (stored g c.values)) next (s.cells_are none))
      (right-back (CallsOf (setting_at g t m held row) a) rest right) more
      ∙ ap (λ j. words_begun g.profile (table_code t) j (cycle_begun g (stored g c.values) rows k)) shift)

  -- from the first cycle on
  pub words-right : HonestCells → (rows : List (List ℤ)) (cycles : List (List Given)) (n : ℕ) → length rows ≤ most_cycles
      → AllRight (calls_over g t 0 (initial_words g t.seed) rows cycles) → AllCycles g t 0 rows cycles → words_in n cycles ≡ words_meant g (table_code t) n rows
  words-right cells rows cycles n few right all =
      let here : 0 + n ≡ n = omega arith in
      words-from-cells 0 (initial_words g t.seed) (initial g) rows cycles n (omega (arith, few)) (cells g t.seed t.step graph) right all
      ∙ ap (λ j. words_begun g.profile (table_code t) j (cycle_begun g (initial g) rows n)) here

-- the words of a run over the rows through cycle n, by what these calls promise
pub meant-words : HonestCycles → HonestCells → (g : Lists) (t : Numbers) (rows : List (List ℤ)) (n : ℕ) → IsGraph g → IsTable t → t ≡ table_of t.seed t.step g
    → length rows ≤ n + 1 → n < most_cycles → (cycles : List (List Given)) →
    AllRight (calls_over g (table_of t.seed t.step g) 0 (initial_words g t.seed) rows cycles) → AllCycles g
    (table_of t.seed t.step g) 0 rows cycles → words_in n cycles ≡ words_meant g (table_code t) n rows
meant-words laws cells g t rows n graph table is few below cycles right all =
    words-right laws g (table_of t.seed t.step g) graph (subst IsTable is table) cells rows cycles n (omega (arith, few, below)) right all
