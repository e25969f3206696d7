-- Longer: a run on the first of some rows, as one on all of them.
use Rattle.std.proofs.Common.{ℕ, suc, ◌≤◌, ◌≡◌, ◌≢◌, refl, ap, subst, sym, ◌∙◌, ℤ, List, [], ◌∷◌, ◌++◌, append-nil, length, arith, ◌⊎◌, inl, inr}
use Rattle.coded_unit.specs.declared.call.Answer.{Answer}
use Rattle.op_graph.specs.Lists.{Lists}
use Rattle.signature_table.specs.Signatures.{Numbers}
use Rattle.coded_machine.specs.declared.cycle_end.CycleEnd.{CycleEnd}
use Rattle.coded_machine.specs.declared.cycle_end.CycleEnd.TheVariants as end
use Rattle.coded_machine.specs.Calls.{CallsOf}
use Rattle.coded_machine.specs.CycleEnds.{end_of, outputs_of, stored_words}
use Rattle.coded_machine.specs.Runs.{setting_at, calls_over, Outcome, followed_by, outcome_over, unless_ended, AllCycles}
use Rattle.coded_machine.specs.RowRuns.{SomeCycles}

-- there is a row for each cycle
unless_cases : (e : CycleEnd) (P Q R : Type 0) → unless_ended e P Q → (P → R) → (Q → R) → R
unless_cases end.Released P Q R h f k = f h
unless_cases (end.Stopped op why) P Q R h f k = k h
unless_cases (end.Refused i found wanted) P Q R h f k = k h

pub cycles_within : (g : Lists) (t : Numbers) (n : ℕ) (rows : List (List ℤ)) (cycles : List (List Answer)) → AllCycles g t n rows cycles
    → length cycles ≤ length rows
cycles_within g t n [] [] all = omega arith
cycles_within g t n [] (answers ∷ cycles) all = absurd all
cycles_within g t n (row ∷ rows) [] all = absurd all
cycles_within g t n (row ∷ rows) (answers ∷ cycles) all =
    let none : cycles ≡ [] → length (answers ∷ cycles) ≤ length (row ∷ rows) = λ is. omega (arith, ap length is) in
    let more : AllCycles g t (suc n) rows cycles → length (answers ∷ cycles) ≤ length (row ∷ rows) =
    λ h. omega (arith, cycles_within g t (suc n) rows cycles h) in
    unless_cases (end_of g t n answers) (AllCycles g t (suc n) rows cycles) (cycles ≡ []) (length (answers ∷ cycles) ≤ length (row ∷ rows)) all.1 more none

-- the calls are those of the first rows
pub calls_longer : (g : Lists) (t : Numbers) (n : ℕ) (held : List ℤ) (rows more : List (List ℤ)) (cycles : List (List Answer)) → length cycles ≤ length rows
    → calls_over g t n held (rows ++ more) cycles ≡ calls_over g t n held rows cycles
calls_longer g t n held rows more [] few = refl
calls_longer g t n held [] more (answers ∷ cycles) few = absurd (omega arith)
calls_longer g t n held (row ∷ rows) more (answers ∷ cycles) few =
    ap (λ es. CallsOf (setting_at g t n held row) answers ++ es) (calls_longer g t (suc n) (stored_words g answers) rows more cycles (omega arith))

-- ---- the cycles of a run that may go on

unless_other : (e : CycleEnd) (P R Q : Type 0) → (P → R) → unless_ended e P Q → unless_ended e R Q
unless_other end.Released P R Q f h = f h
unless_other (end.Stopped op why) P R Q f h = h
unless_other (end.Refused i found wanted) P R Q f h = h

pub some_of_all : (g : Lists) (t : Numbers) (n : ℕ) (rows more : List (List ℤ)) (cycles : List (List Answer)) → AllCycles g t n rows cycles
    → SomeCycles g t n (rows ++ more) cycles
some_of_all g t n rows more [] all = tt
some_of_all g t n [] more (answers ∷ cycles) all = absurd all
some_of_all g t n (row ∷ rows) more (answers ∷ cycles) all = (
  all.0,
  unless_other (end_of g t n answers) (AllCycles g t (suc n) rows cycles) (SomeCycles g t (suc n) (rows ++ more) cycles) (cycles ≡ [])
      (some_of_all g t (suc n) rows more cycles) all.1,
)

-- ---- the cycles of a run that came to its end

-- the later outcome ended otherwise, where the first cycle was released
ended_later : (e : CycleEnd) (row : List ℤ) (later : Outcome) (P R Q : Type 0) → (followed_by e row later).end ≢ end.Released
    → (later.end ≢ end.Released → P → R) → unless_ended e P Q → unless_ended e R Q
ended_later end.Released row later P R Q not f h = f not h
ended_later (end.Stopped op why) row later P R Q not f h = h
ended_later (end.Refused i found wanted) row later P R Q not f h = h

all_longer : (g : Lists) (t : Numbers) (n : ℕ) (rows more : List (List ℤ)) (cycles : List (List Answer)) → (outcome_over g t n cycles).end ≢ end.Released
    → AllCycles g t n rows cycles → AllCycles g t n (rows ++ more) cycles
all_longer g t n rows more [] not all = absurd (not refl)
all_longer g t n [] more (answers ∷ cycles) not all = absurd all
all_longer g t n (row ∷ rows) more (answers ∷ cycles) not all = (
  all.0,
  ended_later (end_of g t n answers) (outputs_of g answers) (outcome_over g t (suc n) cycles) (AllCycles g t (suc n) rows cycles)
      (AllCycles g t (suc n) (rows ++ more) cycles) (cycles ≡ []) not (λ later. all_longer g t (suc n) rows more cycles later) all.1,
)

-- the cycles of a run that ended otherwise than by a release, or on all rows
pub all_cycles : (g : Lists) (t : Numbers) (rows more : List (List ℤ)) (cycles : List (List Answer))
    → ((outcome_over g t 0 cycles).end ≢ end.Released) ⊎ (more ≡ []) → AllCycles g t 0 rows cycles → AllCycles g t 0 (rows ++ more) cycles
all_cycles g t rows more cycles (inl not) all = all_longer g t 0 rows more cycles not all
all_cycles g t rows more cycles (inr none) all = subst (λ xs. AllCycles g t 0 xs cycles) (sym (append-nil rows) ∙ ap (λ xs. rows ++ xs) (sym none)) all
