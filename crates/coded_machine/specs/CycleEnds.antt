-- CycleEnds: how a cycle ends, read off the answers to its calls.
use Rattle.std.specs.Prelude.{ℕ, suc, ◌≡◌, ◌≢◌, ◌==◌, ◌⊎◌, true, false, cond, List, [], ◌∷◌, length, map, slice_get, Option, Some, None, ℤ}
use Rattle.vcp_base.specs.declared.code.Profile.{Profile}
use Rattle.vcp_base.specs.declared.kind.StopKind.{StopKind}
use Rattle.vcp_base.specs.declared.kind.StopKind.TheVariants as stop
use Rattle.vcp_base.specs.Types.{fits}
use Rattle.coded_unit.specs.declared.call.Answer.{Answer}
use Rattle.coded_unit.specs.declared.call.Answer.TheVariants as answer
use Rattle.coded_unit.specs.Words.{modulo, value_part, coded}
use Rattle.op_graph.specs.declared.op.Outlet.{Outlet}
use Rattle.op_graph.specs.Lists.{Lists, cells}
use Rattle.signature_table.specs.Signatures.{Numbers, signature, expected}
use Rattle.coded_machine.specs.declared.cycle_end.CycleEnd.{CycleEnd}
use Rattle.coded_machine.specs.declared.cycle_end.CycleEnd.TheVariants as end
use Rattle.coded_machine.specs.Calls.{word_at, AllWords}

-- the stop that an answer is, if it is one
abbrev pub stop_of : Answer → Option StopKind
stop_of (answer.Word w) = None
stop_of answer.Range = Some stop.Range
stop_of answer.DivZero = Some stop.DivZero
stop_of answer.Operand = Some stop.Operand

-- operation k stopped, or what came later
abbrev pub stop_or : ℕ → Option StopKind → Option CycleEnd → Option CycleEnd
stop_or k (Some why) later = Some (end.Stopped k why)
stop_or k None later = later

-- the first answer that is a stop, from operation k on
abbrev pub first_stop : ℕ → List Answer → Option CycleEnd
first_stop k [] = None
first_stop k (a ∷ answers) = stop_or k (stop_of a) (first_stop (suc k) answers)

-- the first of these outputs whose OUT answered a value part that is outside the output's type
abbrev pub first_outside : Profile → List Answer → List Outlet → Option CycleEnd
first_outside p answers [] = None
first_outside p answers (o ∷ outputs) =
    cond (fits o.ty (value_part p (word_at answers o.op))) (first_outside p answers outputs) (Some (end.Stopped o.op stop.Operand))

-- the first of these outputs, which are counted from `number`, whose OUT answered another residue in cycle n than the expected one
abbrev pub first_refused : Profile → Numbers → ℕ → List Answer → ℕ → List Outlet → Option CycleEnd
first_refused p t n answers number [] = None
first_refused p t n answers number (o ∷ outputs) =
    cond (modulo p (word_at answers o.op) == expected p t.seed t.step o.op n)
    (first_refused p t n answers (suc number) outputs)
    (Some (end.Refused number (modulo p (word_at answers o.op)) (expected p t.seed t.step o.op n)))

-- this end, or the later one where there is none
abbrev pub end_or : Option CycleEnd → CycleEnd → CycleEnd
end_or (Some e) later = e
end_or None later = later

-- A cycle stops at the first answer that is a stop; else at the first output whose value part is outside its type;
-- else it is refused at the first output whose residue is not the expected one; else its outputs are released.
abbrev pub end_of : Lists → Numbers → ℕ → List Answer → CycleEnd
end_of g t n answers =
    end_or (first_stop 0 answers)
    (end_or (first_outside g.profile answers g.outputs)
    (end_or (first_refused g.profile t n answers 0 g.outputs) end.Released))

-- the row of outputs: each has the value part that its OUT answered
abbrev pub outputs_of : Lists → List Answer → List ℤ
outputs_of g answers = map (λ o. value_part g.profile (word_at answers o.op)) g.outputs

-- what the cells hold next: each has the word that its STORE answered
abbrev pub stored_words : Lists → List Answer → List ℤ
stored_words g answers = map (λ n. word_at answers n) g.stores

-- what the cells hold before cycle 0: each has the word of its initial value with the signature of its STORE, at stamp 0
abbrev pub initial_words : Lists → ℕ → List ℤ
initial_words g seed = map (λ c. coded g.profile c.init (signature g.profile seed c.store)) (cells g)

-- the value part that each of these outputs' OUT answered is in the output's type
abbrev pub AllInside : Profile → List Answer → List Outlet → Type 0
AllInside p answers [] = Unit {0}
AllInside p answers (o ∷ outputs) = (fits o.ty (value_part p (word_at answers o.op)) ≡ true) × AllInside p answers outputs

-- the residue that each of these outputs' OUT answered in cycle n is the expected one
abbrev pub AllExpected : Profile → Numbers → ℕ → List Answer → List Outlet → Type 0
AllExpected p t n answers [] = Unit {0}
AllExpected p t n answers (o ∷ outputs) = (modulo p (word_at answers o.op) ≡ expected p t.seed t.step o.op n) × AllExpected p t n answers outputs

-- Every operation was answered by a word, every OUT's value part is in the type of its output, and every OUT's residue is the expected one.
pub record Accepted (g : Lists) (t : Numbers) (n : ℕ) (answers : List Answer) : Type 0 where
  pub all : length answers ≡ length g.operations
  pub words : AllWords answers
  pub inside : AllInside g.profile answers g.outputs
  pub expected : AllExpected g.profile t n answers g.outputs

-- operation k answered this stop
abbrev pub Answered : List Answer → ℕ → StopKind → Type 0
Answered answers k why = (a : Answer) × (slice_get answers k ≡ Some a) × (stop_of a ≡ Some why)

-- one of these outputs has operation k as its OUT, which answered a value part outside the output's type
abbrev pub Outside : Profile → List Answer → List Outlet → ℕ → Type 0
Outside p answers outputs k = (i : ℕ) × (o : Outlet) × (slice_get outputs i ≡ Some o) × (o.op ≡ k) × (fits o.ty (value_part p (word_at answers k)) ≡ false)

-- the OUT of output i answered this residue in cycle n, where another one is expected
abbrev pub Unexpected : Profile → Numbers → ℕ → List Answer → List Outlet → ℕ → ℕ → ℕ → Type 0
Unexpected p t n answers outputs i found wanted =
    (o : Outlet) × (slice_get outputs i ≡ Some o) × (found ≡ modulo p (word_at answers o.op)) × (wanted ≡ expected p t.seed t.step o.op n) × (found ≢ wanted)

-- Why a cycle with these answers ends so: all is accepted; or that operation answered that stop, or is an OUT whose value part
-- is outside its output's type; or that output has that residue, and not the expected one.
abbrev pub Cause : Lists → Numbers → ℕ → List Answer → CycleEnd → Type 0
Cause g t n answers end.Released = Accepted g t n answers
Cause g t n answers (end.Stopped k why) = Answered answers k why ⊎ ((why ≡ stop.Operand) × Outside g.profile answers g.outputs k)
Cause g t n answers (end.Refused i found wanted) = Unexpected g.profile t n answers g.outputs i found wanted
