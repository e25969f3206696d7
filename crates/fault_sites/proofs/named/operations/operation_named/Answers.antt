use Rattle.std.proofs.Common.{◌≡◌, ◌++◌, ◌+◌, ◌<◌, ℕ, Bool, Result, IfOk, length, add-one, arith, refl, sym, ap, subst, ◌∙◌, Option}
use Rattle.op_graph.specs.declared.op.Op.{Op}
use Rattle.fault_sites.specs.declared.named.refused.Why.{Why}
use Rattle.fault_sites.specs.NamedOperations.{named_below, number_if, found_next, is_named_there, the_one}
use Rattle.fault_sites.proofs.Found.{found_more, next_below}
use Rattle.fault_sites.proofs.named.operations.operation_named.Goals as goal

pub operations-init : goal.operations-init
operations-init c = record { so_far = refl; there = tt }

pub operations-preserved : goal.operations-preserved
operations-preserved c =
    let g = c.args.graph.now in
    let i = c.operations.i in
    let b = c.is_named.result in
    let is : is_named_there g c.args.kind c.args.name.now _ ≡ b =
    ap (λ (o : Option Op). is_named_there g c.args.kind c.args.name.now o) c.operation-op.ensures ∙ sym c.is_named.ensures in
    record {
      so_far =
          rw (add-one i)
          (ap (λ (b : Bool). the_one (named_below g c.args.kind c.args.name.now i ++ number_if b i)) is
          ∙ (found_more (named_below g c.args.kind c.args.name.now i) i b
          ∙ (ap (λ (r : Result ℕ Why). found_next r i b) c.operations.invariant.so_far ∙ sym c.with_next-found.ensures)));
      there =
          subst (λ (r : Result ℕ Why). IfOk r (λ k. k < i + 1)) (sym c.with_next-found.ensures)
          (next_below c.operations.found i b c.operations.invariant.there);
    }

pub returns-clause-value : goal.returns-clause-value
returns-clause-value c =
    let all : c.operations.i ≡ length c.args.graph.now.operations =
    omega (arith, c.operations-test.false, c.operations.auto.i-end, c.len-i-end.ensures.count) in
    let found = rw all at c.operations.invariant.so_far in
    sym found

pub returns-clause-there : goal.returns-clause-there
returns-clause-there c =
    let all : c.operations.i ≡ length c.args.graph.now.operations =
    omega (arith, c.operations-test.false, c.operations.auto.i-end, c.len-i-end.ensures.count) in
    rw all at c.operations.invariant.there
