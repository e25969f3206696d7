use Rattle.std.proofs.Common.{◌≡◌, ℕ, ℤ, List, sym, ap, ◌∙◌, arith, length}
use Rattle.vcp_base.specs.declared.code.Profile.{Profile}
use Rattle.coded_unit.specs.declared.call.Answer.{Answer}
use Rattle.op_graph.specs.Lists.{cells}
use Rattle.coded_unit.specs.Words.{modulo}
use Rattle.signature_table.specs.Signatures.{expected}
use Rattle.coded_machine.specs.Calls.{word_at}
use Rattle.coded_machine.proofs.Places.{length-corrections, refused_passed, refused_here}
use Rattle.coded_machine.proofs.cycle_end.first_refused.Goals as goal

found_is : (p : Profile) (answers : List Answer) (k : ℕ) {q : Profile} {word : ℤ} {r : ℕ} → r ≡ modulo q word → q ≡ p → word ≡ word_at answers k
    → r ≡ modulo p (word_at answers k)
found_is p answers k {word = word} is code there = is ∙ ap (λ q. modulo q word) code ∙ ap (modulo p) there

pub expected-expected-requires-clause-operation : goal.expected-expected-requires-clause-operation
expected-expected-requires-clause-operation c =
    let g = c.args.graph.now in
    let t = c.args.table.now in
    omega (
      arith,
      (c.entries_keep_their_rules.ensures.output g c.outputs.i c.output-outlet.result c.requires.graph.part c.output-outlet.ensures).operation,
      ap length c.requires.table.1,
      length-corrections g.profile t.seed t.step (cells g) 0 g.operations,
    )

pub returns-then-found-expected : goal.returns-then-found-expected
returns-then-found-expected c =
    let g = c.args.graph.now in
    let t = c.args.table.now in
    let o = c.output-outlet.result in
    let found = found_is g.profile c.args.answers.now o.op c.split-found.ensures.residue c.profile.ensures.value c.word_at.ensures in
    let wanted = c.expected-expected.ensures.value ∙ ap (λ p. expected p t.seed t.step o.op c.args.cycle) c.requires.table.0 in
    rw (found, wanted)
    (sym (c.outputs.invariant
    ∙ refused_here g.profile t c.args.cycle c.args.answers.now g.outputs c.outputs.i o c.output-outlet.ensures
    (λ e. c.if-found-expected.true (found ∙ e ∙ sym wanted))))

pub outputs-preserved : goal.outputs-preserved
outputs-preserved c =
    let g = c.args.graph.now in
    let t = c.args.table.now in
    let o = c.output-outlet.result in
    let found = found_is g.profile c.args.answers.now o.op c.split-found.ensures.residue c.profile.ensures.value c.word_at.ensures in
    let wanted = c.expected-expected.ensures.value ∙ ap (λ p. expected p t.seed t.step o.op c.args.cycle) c.requires.table.0 in
    c.outputs.invariant
    ∙ refused_passed g.profile t c.args.cycle c.args.answers.now g.outputs c.outputs.i o c.output-outlet.ensures (sym found ∙ c.if-found-expected.false ∙ wanted)
