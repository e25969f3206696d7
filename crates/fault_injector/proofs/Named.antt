-- Named: the verdict that is read off a rerun names an output or an operation of the graph, and a cycle that has a row.
use Rattle.std.proofs.Common.{◌≡◌, ◌<◌, ◌≤◌, ◌+◌, ℕ, suc, ℤ, Bool, true, false, cond, List, [], ◌∷◌, ◌++◌, length, slice_get, Option, Some, None, IfSome, refl, ◌==◌, arith, length-append}
use Rattle.vcp_base.specs.Differences.{Difference, first_difference}
use Rattle.vcp_base.specs.Kinds.{same}
use Rattle.vcp_base.specs.Types.{fits}
use Rattle.vcp_base.specs.declared.code.Profile.{Profile}
use Rattle.vcp_base.specs.declared.kind.StopKind.{StopKind}
use Rattle.vcp_base.specs.declared.kind.StopKind.TheVariants as stop
use Rattle.coded_unit.specs.Words.{modulo, value_part}
use Rattle.coded_unit.specs.declared.call.Answer.{Answer}
use Rattle.coded_unit.specs.declared.call.Answer.TheVariants as answer
use Rattle.op_graph.specs.GraphRun.{Stop}
use Rattle.op_graph.specs.Laws.{EntryLaws}
use Rattle.op_graph.specs.Lists.{Lists}
use Rattle.op_graph.specs.Rules.{IsGraph}
use Rattle.op_graph.specs.declared.op.Op.{Op}
use Rattle.op_graph.specs.declared.op.Outlet.{Outlet}
use Rattle.signature_table.specs.Signatures.{Numbers, expected}
use Rattle.coded_machine.specs.Calls.{is_word, word_at}
use Rattle.coded_machine.specs.CycleEnds.{end_of, end_or, first_stop, first_outside, first_refused, outputs_of, stored_words}
use Rattle.coded_machine.specs.declared.cycle_end.CycleEnd.{CycleEnd}
use Rattle.coded_machine.specs.declared.cycle_end.CycleEnd.TheVariants as end
use Rattle.fault_script.specs.Changes.{Acts}
use Rattle.fault_injector.specs.RunLaw.{Words}
use Rattle.fault_injector.specs.Names.{Names}
use Rattle.fault_injector.specs.Verdicts.{judged, stops_alike}
use Rattle.fault_injector.specs.declared.verdicts.Verdict.{Verdict}
use Rattle.fault_injector.specs.declared.verdicts.Verdict.TheVariants as verdict
use Rattle.fault_injector.specs.Reruns.{Again, CycleAgain, InCycles, Part, Source, has, asks, ended, after_answer, again, cycle_again, go_on, read_cycle, refusal_in, runs_again, source, stop_in, unless_judged}
use Rattle.fault_injector.specs.Touched.{held_marks}
use Rattle.fault_injector.proofs.OutputsRead.{values_count}

-- ---- a cycle has no more answers than there are operations

few_next : (b : Bool) (own : List Answer) (next : List Answer → Part) (left : List Answer) (n : ℕ) → length own ≤ n → length (next left).own ≤ n
    → length (after_answer b own next left).own ≤ n
few_next true own next left n first second = second
few_next false own next left n first second = first

few_on : (before : List Answer) (s : Source) (next : Answer → List Answer → Part) (left : List Answer) (n : ℕ) → length before ≤ n
    → ((a : Answer) (rest : List Answer) → length (next a rest).own ≤ n) → length (go_on before s next left).own ≤ n
few_on before (has a) next left n first later = later a left
few_on before (asks call act word) next [] n first later = first
few_on before (asks call act word) next (given ∷ left) n first later = later _ left
few_on before ended next left n first later = first

few_own : (c : CycleAgain) (before : List Answer) (ops : List Op) (left : List Answer) → length (again c before ops left).own ≤ length before + length ops
few_own c before [] left = omega arith
few_own c before (op ∷ ops) left =
    let n = length before + length (op ∷ ops) in
    few_on before (source c before op)
    (λ a rest. after_answer (is_word a) (before ++ a ∷ []) (λ more. again c (before ++ a ∷ []) ops more) rest) left n (omega arith)
    (λ a rest.
    let one_more : length (before ++ a ∷ []) ≡ length before + 1 = length-append before (a ∷ []) in
    few_next (is_word a) (before ++ a ∷ []) (λ more. again c (before ++ a ∷ []) ops more) rest n (omega (arith, one_more))
    (omega (arith, one_more, few_own c (before ++ a ∷ []) ops rest)))

-- ---- the end of a cycle

-- the output or the operation that a cycle's end names is below these numbers of outputs and of operations
abbrev EndNames : ℕ → ℕ → CycleEnd → Type 0
EndNames outputs operations end.Released = Unit {0}
EndNames outputs operations (end.Stopped op kind) = op < operations
EndNames outputs operations (end.Refused output found wanted) = output < outputs

stop_within : (outputs all k : ℕ) (answers : List Answer) → k + length answers ≤ all → IfSome (first_stop k answers) (EndNames outputs all)
stop_within outputs all k [] count = tt
stop_within outputs all k (answer.Word w ∷ answers) count = stop_within outputs all (suc k) answers (omega (arith, count))
stop_within outputs all k _ count = omega (arith, count)

-- where one of two ends names what is there, so does the one that a test takes
one_of : (outputs all : ℕ) (b : Bool) (later : Option CycleEnd) (e : CycleEnd) → IfSome later (EndNames outputs all) → EndNames outputs all e →
    IfSome (cond b later (Some e)) (EndNames outputs all)
one_of outputs all true later e first second = first
one_of outputs all false later e first second = second

outside_within : (outputs all : ℕ) (p : Profile) (answers : List Answer) (outlets : List Outlet) →
    ((i : ℕ) (o : Outlet) → slice_get outlets i ≡ Some o → o.op < all) → IfSome (first_outside p answers outlets) (EndNames outputs all)
outside_within outputs all p answers [] there = tt
outside_within outputs all p answers (o ∷ outlets) there =
    one_of outputs all (fits o.ty (value_part p (word_at answers o.op))) (first_outside p answers outlets) (end.Stopped o.op stop.Operand)
    (outside_within outputs all p answers outlets (λ i x is. there (suc i) x is)) (there 0 o refl)

refused_within : (outputs all : ℕ) (p : Profile) (t : Numbers) (n : ℕ) (answers : List Answer) (number : ℕ) (outlets : List Outlet) →
    number + length outlets ≡ outputs → IfSome (first_refused p t n answers number outlets) (EndNames outputs all)
refused_within outputs all p t n answers number [] count = tt
refused_within outputs all p t n answers number (o ∷ outlets) count =
    one_of outputs all (modulo p (word_at answers o.op) == expected p t.seed t.step o.op n) (first_refused p t n answers (suc number) outlets)
    (end.Refused number (modulo p (word_at answers o.op)) (expected p t.seed t.step o.op n))
    (refused_within outputs all p t n answers (suc number) outlets (omega (arith, count))) (omega (arith, count))

either_end : (outputs all : ℕ) (r : Option CycleEnd) (e : CycleEnd) → IfSome r (EndNames outputs all) → EndNames outputs all e →
    EndNames outputs all (end_or r e)
either_end outputs all None e first second = second
either_end outputs all (Some x) e first second = first

end_within : EntryLaws → (g : Lists) (t : Numbers) (n : ℕ) (answers : List Answer) → IsGraph g → length answers ≤ length g.operations →
    EndNames (length g.outputs) (length g.operations) (end_of g t n answers)
end_within laws g t n answers graph few =
    let outputs = length g.outputs in
    let all = length g.operations in
    let stopped = stop_within outputs all 0 answers (omega (arith, few)) in
    let outside = outside_within outputs all g.profile answers g.outputs (λ i o there. (laws.output g i o graph.part there).operation) in
    let refused = refused_within outputs all g.profile t n answers 0 g.outputs (omega arith) in
    let last = first_refused g.profile t n answers 0 g.outputs in
    either_end outputs all (first_stop 0 answers) (end_or (first_outside g.profile answers g.outputs) (end_or last end.Released)) stopped
    (either_end outputs all (first_outside g.profile answers g.outputs) (end_or last end.Released) outside
    (either_end outputs all last end.Released refused tt))

-- ---- the first output with another value

-- where there is a difference, its place is below this number of outputs
abbrev PlaceWithin : ℕ → Option Difference → Type 0
PlaceWithin outputs d = IfSome d (λ (w : Difference). w.place < outputs)

wrong_later : (b : Bool) (outputs : ℕ) (later : Option Difference) (w : Difference) → PlaceWithin outputs later → w.place < outputs
    → PlaceWithin outputs (cond b later (Some w))
wrong_later true outputs later w first second = first
wrong_later false outputs later w first second = second

wrong_within : (outputs number : ℕ) (row wants : List ℤ) → number + length row ≡ outputs → PlaceWithin outputs (first_difference row wants number)
wrong_within outputs number [] wants count = tt
wrong_within outputs number (got ∷ row) [] count = tt
wrong_within outputs number (got ∷ row) (want ∷ wants) count =
    wrong_later (same got want) outputs (first_difference row wants (suc number)) (record { place = number; first = got; second = want })
    (wrong_within outputs (suc number) row wants (omega (arith, count))) (omega (arith, count))

-- ---- verdicts

-- what a verdict names is there: an output, an operation, and one of so many cycles
pub record Named (outputs operations cycles : ℕ) (v : Verdict) : Type 0 where
  pub names : Names outputs operations v
  pub cycle : InCycles cycles v

same_or_stopped : (b : Bool) (outputs operations cycles n k : ℕ) (why : StopKind) → k < operations → n < cycles
    → Named outputs operations cycles (cond b verdict.Same (verdict.Stopped n k why))
same_or_stopped true outputs operations cycles n k why within below = record { names = tt; cycle = tt }
same_or_stopped false outputs operations cycles n k why within below = record { names = within; cycle = below }

named_by : (outputs operations cycles n : ℕ) (e : CycleEnd) (o : Option Stop) (w : Option Difference) → n < cycles → EndNames outputs operations e
    → PlaceWithin outputs w
    → IfSome (judged n (stop_in e) (refusal_in e) o w) (Named outputs operations cycles)
named_by outputs operations cycles n (end.Stopped k why) o w below within wrong =
    same_or_stopped (stops_alike (record { op = k; kind = why }) o) outputs operations cycles n k why within below
named_by outputs operations cycles n (end.Refused number found wanted) o w below within wrong = record { names = within; cycle = below }
named_by outputs operations cycles n end.Released (Some s) w below within wrong = record { names = tt; cycle = below }
named_by outputs operations cycles n end.Released None (Some w) below within wrong = record { names = wrong; cycle = below }
named_by outputs operations cycles n end.Released None None below within wrong = tt

named_cycle : EntryLaws → (g : Lists) (t : Numbers) (n cycles : ℕ) (own other : List Answer) → IsGraph g → length own ≤ length g.operations → n < cycles
    → IfSome (read_cycle g t n own other) (Named (length g.outputs) (length g.operations) cycles)
named_cycle laws g t n cycles own other graph few below =
    let outputs = length g.outputs in
    let operations = length g.operations in
    named_by outputs operations cycles n (end_of g t n own) (stop_in (end_of g t n other)) (first_difference (outputs_of g own) (outputs_of g other) 0) below
    (end_within laws g t n own graph few)
    (wrong_within outputs 0 (outputs_of g own) (outputs_of g other) (omega (arith, values_count g own)))

-- the verdict of a cycle, or else the one that the later cycles come to
named_step : (P : Verdict → Type 0) (b : Bool) (v : Option Verdict) (part : Part) (next : List Answer → Again) → P verdict.Same → IfSome v P
    → P (next part.left).verdict → P (unless_judged b v part next).verdict
named_step P true v part next none here later = none
named_step P false (Some v) part next none here later = here
named_step P false None part next none here later = later

pub runs_named : EntryLaws → (t : Numbers) (g : Lists) (acts : Acts) (cycles : ℕ) → IsGraph g → (rows : List (List ℤ)) (others : List (List Answer)) (n : ℕ)
    (past : Words) (held : List ℤ) (cell_marks : List Bool) (left : List Answer) → n + length rows ≡ cycles
    → Named (length g.outputs) (length g.operations) cycles (runs_again t g acts n past held cell_marks rows others left).verdict
runs_named laws t g acts cycles graph [] others n past held cell_marks left count = record { names = tt; cycle = tt }
runs_named laws t g acts cycles graph (row ∷ rows) [] n past held cell_marks left count = record { names = tt; cycle = tt }
runs_named laws t g acts cycles graph (row ∷ rows) (other ∷ others) n past held cell_marks left count =
    let c = cycle_again t g acts n past held cell_marks row other in
    let part = again c [] g.operations left in
    let words : Words = record { held = held; answers = part.own } in
    let next : List Answer → Again = λ rest. runs_again t g acts (suc n) words (stored_words g part.own) (held_marks g c.touched) rows others rest in
    named_step (Named (length g.outputs) (length g.operations) cycles) part.too_few (read_cycle g t n part.own other) part next
    (record { names = tt; cycle = tt })
    (named_cycle laws g t n cycles part.own other graph (omega (arith, few_own c [] g.operations left)) (omega (arith, count)))
    (runs_named laws t g acts cycles graph rows others (suc n) words (stored_words g part.own) (held_marks g c.touched) part.left (omega (arith, count)))
