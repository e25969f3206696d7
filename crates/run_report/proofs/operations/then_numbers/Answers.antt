use Rattle.std.proofs.Common.{◌≡◌, ◌<◌, arith, get_or, length, take}
use Rattle.std.proofs.lemmas.List.{append-nil, take_all}
use Rattle.std.proofs.lemmas.Option.{slice_get-get_or}
use Rattle.run_report.specs.OperationLines.{number_cell}
use Rattle.run_report.proofs.Texts.{flat_map-next}
use Rattle.run_report.proofs.operations.then_numbers.Goals as goal

pub numbers-init : goal.numbers-init
numbers-init g c sink name text is = rw append-nil is

pub numbers-preserved : goal.numbers-preserved
numbers-preserved g c sink name text is =
    let numbers = c.args.numbers.now in
    let inside : c.numbers.i < length numbers = omega arith in
    let next = get_or numbers c.numbers.i 0 in
    rw (flat_map-next number_cell text numbers c.numbers.i next (slice_get-get_or numbers c.numbers.i 0 inside))
    (c.numbered-pen.ensures _ _ _ (c.numbers.invariant sink name text is))

pub returns : goal.returns
returns g c sink name text is =
    let whole : take c.numbers.i c.args.numbers.now ≡ c.args.numbers.now = take_all c.numbers.i c.args.numbers.now (omega arith) in
    rw whole at (c.numbers.invariant sink name text is)
