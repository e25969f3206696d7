use Rattle.std.proofs.Common.{◌≡◌, ⊎_elim, inl, inr, true, sym, subst, ◌∙◌, arith}
use Rattle.graph_passes.specs.Marking.{Takes, OfOneCell, Follows}
use Rattle.graph_passes.specs.Tables.{marked}
use Rattle.graph_passes.proofs.Needing.{takes_inside, takes_reads, reads_takes}
use Rattle.graph_passes.proofs.Queueing.{grows_on, marked_inside}
use Rattle.graph_passes.proofs.needed.mark_following.Goals as goal

pub operation-op-requires : goal.operation-op-requires
operation-op-requires c =
    let inside = marked_inside c.args.marks.now c.args.q c.requires.here in
    omega (arith, inside, c.requires.many)

pub mark_operands-requires-clause-there : goal.mark_operands-requires-clause-there
mark_operands-requires-clause-there c = λ k takes.
    let g = c.args.graph.now in
    let inside = takes_inside g c.args.q c.operation-op.result k (λ q n j r. c.operands_are_there.ensures.earlier g q n j c.requires.graph.part r)
    c.operation-op.ensures takes in
    omega (arith, inside, c.requires.many)

pub other_of_cell-other-requires-clause-there : goal.other_of_cell-other-requires-clause-there
other_of_cell-other-requires-clause-there c =
    let inside = marked_inside c.args.marks.now c.args.q c.requires.here in
    omega (arith, inside, c.requires.many)

pub mark-requires-clause-place : goal.mark-requires-clause-place
mark-requires-clause-place c = omega (arith, c.other_of_cell-other.ensures.there, c.mark_operands.ensures.grows.many, c.requires.many)

pub mark-requires-clause-queue : goal.mark-requires-clause-queue
mark-requires-clause-queue c = c.mark_operands.ensures.grows.lists

pub returns-clause-grows : goal.returns-clause-grows
returns-clause-grows c =
    let g = c.args.graph.now in
    let q = c.args.q in
    let op = c.operation-op.result in
    let other = c.other_of_cell-other.result in
    grows_on (Takes op) (λ k. k ≡ other) (Follows g q) _ _ _ _ _ _ c.mark_operands.ensures.grows c.mark.ensures.grows
    (λ k takes. inr (record { why = inl (takes_reads g q op k c.operation-op.ensures takes) }))
    (λ k e. ⊎_elim
    (λ (same : other ≡ q). inl (subst (λ n. marked c.args.marks.now n ≡ true) (sym (e ∙ same)) c.requires.here))
    (λ (cell : OfOneCell g q other). inr (record { why = inr (subst (OfOneCell g q) (sym e) cell) }))
    c.other_of_cell-other.ensures.sound)

pub returns-clause-marked : goal.returns-clause-marked
returns-clause-marked c =
    let g = c.args.graph.now in
    let q = c.args.q in
    λ k follows. elim follows.why [
      | inl reads ↦ c.mark.ensures.grows.kept k
          (c.mark_operands.ensures.marked k (reads_takes g q c.operation-op.result k reads.0 c.operation-op.ensures reads.1))
      | inr cell ↦ subst (λ n. marked c.mark.new.marks n ≡ true) (sym (c.other_of_cell-other.ensures.complete k cell)) c.mark.ensures.marked
    ]
