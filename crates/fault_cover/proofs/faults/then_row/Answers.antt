use Rattle.std.proofs.Common.{◌≡◌, ◌∙◌, map, ap, sym, arith}
use Rattle.std.specs.Option.{option_to_list}
use Rattle.fault_cover.specs.Candidates.{candidate, columns}
use Rattle.fault_cover.specs.Classes.{fault_at}
use Rattle.fault_cover.proofs.Enumerating.{stands}
use Rattle.fault_cover.proofs.Going.{made_more, passes_none, passes_same}
use Rattle.fault_cover.proofs.faults.then_row.Goals as goal

pub faults-init : goal.faults-init
faults-init g c = λ stops survey. passes_none

pub then_fault-listener-requires-clause-stands : goal.then_fault-listener-requires-clause-stands
then_fault-listener-requires-clause-stands g c = λ d is.
    stands c.args.class c.args.subject.now.graph.now c.args.k c.args.op.now c.args.j c.faults.i
    (omega (arith, c.faults-test.true, c.faults.auto.i-end, c.columns-i-end.ensures)) d (c.candidate-fault.ensures ∙ ap option_to_list is)

pub faults-preserved : goal.faults-preserved
faults-preserved g c = λ stops survey.
    made_more (fault_at c.args.k) (λ i. candidate c.args.class c.args.subject.now.graph.now c.args.k c.args.op.now c.args.j i) c.faults.i
    (c.faults.invariant stops survey)
    (passes_same _ _ (c.then_fault-listener.ensures stops survey) (ap (map (fault_at c.args.k)) (sym c.candidate-fault.ensures)))

pub returns : goal.returns
returns g c =
    let all : c.faults.i ≡ columns c.args.class c.args.subject.now.graph.now c.args.k c.args.op.now =
    omega (arith, c.faults-test.false, c.faults.auto.i-end, c.columns-i-end.ensures) in
    rw all at c.faults.invariant
