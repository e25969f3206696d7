use Rattle.std.proofs.Common.{ap, arith, Ok, Err, Result}
use Rattle.image_file.specs.declared.fields.fault.ReadError.{ReadError}
use Rattle.image_file.specs.declared.whole.Whole.{Whole}
use Rattle.image_file.specs.Views.{parts}
use Rattle.image_file.proofs.Found.{is_found, is_fault, reads_err, reads_ok}
use Rattle.image_file.proofs.image.answered.Goals as goal

pub into_graph-requires-clause-fits : goal.into_graph-requires-clause-fits
into_graph-requires-clause-fits c = (is_found c.args.bytes.now (Ok c.in-Ok.whole) (λ i. omega (arith, c.type_inv.bytes i)) c.in-Ok.ensures.is).0

pub returns-in-Err : goal.returns-in-Err
returns-in-Err c =
    let e : Result Whole ReadError = Err c.in-Err.error in
    reads_err c.args.bytes.now c.in-Err.error c.told.result
    (λ f is. is_fault c.args.bytes.now e (λ i. omega (arith, c.type_inv.bytes i)) c.in-Err.ensures.is f (ap (λ x. Err x) is))
    c.told.ensures.memory c.told.ensures.fault

pub returns-in-Ok-into_graph : goal.returns-in-Ok-into_graph
returns-in-Ok-into_graph c =
    let found = is_found c.args.bytes.now (Ok c.in-Ok.whole) (λ i. omega (arith, c.type_inv.bytes i)) c.in-Ok.ensures.is in
    reads_ok c.args.bytes.now (parts c.in-Ok.whole) c.in-Ok-into_graph.both.0 c.in-Ok-into_graph.both.1 found.0
    found.1 c.in-Ok-into_graph.ensures.graph c.in-Ok-into_graph.ensures.table
