use Rattle.std.proofs.Common.{◌≡◌, ◌<◌, ◌∙◌, Some, None, ap, sym, length, take, slice_get, arith, subst, ℕ}
use Rattle.std.proofs.lemmas.Result.{err_from_is_err_and}
use Rattle.coded_machine.specs.State.{word_in}
use Rattle.op_graph.specs.Lists.{Lists}
use Rattle.vcp_inputs.specs.CycleWords.{word_lines}
use Rattle.vcp_core.proofs.Written.{writes_same}
use Rattle.vcp_core.proofs.WordsPrinted.{begun, goes-on, fails, no-more, all-words, lines_to, whole-there}
use Rattle.vcp_core.proofs.tracing.print_words.Goals as goal

pub returns-in_err-trace_line-in-Some : goal.returns-in_err-trace_line-in-Some
returns-in_err-trace_line-in-Some g c =
    let m = c.args.machine.now in
    let q = err_from_is_err_and c.from_residual.result c.from_residual.ensures.1 in
    let below : c.words.i < length m.graph.operations =
    subst (λ (n : ℕ). c.words.i < n) (c.len-i-end.ensures.count ∙ ap (λ (h : Lists). length h.operations) c.graph-graph.ensures) c.words-test.true in
    let there : word_in (slice_get m.answers c.words.i) ≡ Some c.in-Some.word = sym c.word.ensures ∙ c.in-Some.is in
    let whole = whole-there m.graph.operations m.answers c.words.i c.in-Some.word c.requires.whole there in
    rw q.1 (writes_same
    (fails m.graph m.table c.args.cycle c.words.i m.answers _ _ _ _ _ _ whole below c.words.invariant c.in-Some.word there
    c.in_err-trace_line-in-Some.field-0.0 q.0 (rw (c.graph-graph.ensures, c.table-table.ensures) at c.in_err-trace_line-in-Some.ensures))
    (ap (λ ws. word_lines m.graph m.table c.args.cycle 0 m.graph.operations ws)
    (begun m c.args.cycle c.cycles.result c.cycles.ensures.value c.if-cycles-cycle.false)))

pub returns-in-None : goal.returns-in-None
returns-in-None g c =
    let m = c.args.machine.now in
    let none : word_in (slice_get m.answers c.words.i) ≡ None = sym c.word.ensures ∙ c.in-None.is in
    writes_same c.words.invariant
    (ap (λ ws. word_lines m.graph m.table c.args.cycle 0 m.graph.operations ws)
    (begun m c.args.cycle c.cycles.result c.cycles.ensures.value c.if-cycles-cycle.false
    ∙ no-more c.words.i m.graph.operations m.answers c.requires.whole none))

pub words-preserved : goal.words-preserved
words-preserved g c =
    let m = c.args.machine.now in
    let below : c.words.i < length m.graph.operations =
    subst (λ (n : ℕ). c.words.i < n) (c.len-i-end.ensures.count ∙ ap (λ (h : Lists). length h.operations) c.graph-graph.ensures) c.words-test.true in
    let there : word_in (slice_get m.answers c.words.i) ≡ Some c.in-Some.word = sym c.word.ensures ∙ c.in-Some.is in
    let whole = whole-there m.graph.operations m.answers c.words.i c.in-Some.word c.requires.whole there in
    goes-on m.graph m.table c.args.cycle c.words.i m.answers _ _ _ _ _ _ whole below c.words.invariant c.in-Some.word there
    (rw (c.graph-graph.ensures, c.table-table.ensures) at c.in_ok-trace_line-in-Some.ensures)

pub returns : goal.returns
returns g c =
    let m = c.args.machine.now in
    let end : c.words.i ≡ length m.graph.operations =
    omega (arith, c.words-test.false, c.words.auto.i-end, c.len-i-end.ensures.count, ap (λ (h : Lists). length h.operations) c.graph-graph.ensures) in
    writes_same c.words.invariant
    (ap (λ ws. word_lines m.graph m.table c.args.cycle 0 m.graph.operations ws)
    (begun m c.args.cycle c.cycles.result c.cycles.ensures.value c.if-cycles-cycle.false)
    ∙ ap (λ xs. lines_to m.graph m.table c.args.cycle xs) (sym (ap (λ k. take k m.answers) end ∙ all-words m.graph.operations m.answers c.requires.whole)))
