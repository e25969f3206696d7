use Rattle.std.proofs.Common.{refl, sym, ◌∙◌, Ok, Err}
use Rattle.st_tree.specs.ProgramViews.{program_tree}
use Rattle.st_tree.specs.Spelling.{bytes_in}
use Rattle.st_parser.specs.ExprMachine.{Context}
use Rattle.st_parser.specs.ProgramViews.{program}
use Rattle.st_parser.proofs.Running.{run-from, fault-kept, inside-at, at-end}
use Rattle.st_parser.proofs.parsing.read_program.Goals as goal

pub returns-in-Err : goal.returns-in-Err
returns-in-Err c =
    let k : Context = record { bytes = bytes_in c.args.text.now; most = c.args.most } in
    fault-kept (program c.program_step.new.parsed) _ _ _ c.in-Err.ensures
    (λ f is. sym c.loop-i.invariant
    ∙ run-from k c.args.tokens.now.end c.args.tokens.now.tokens c.loop-i.i c.at.result (program c.loop-i.parsed c.loop-i.place) (Err f) c.at.ensures is)

pub loop-i-preserved : goal.loop-i-preserved
loop-i-preserved c =
    let k : Context = record { bytes = bytes_in c.args.text.now; most = c.args.most } in
    sym (run-from k c.args.tokens.now.end c.args.tokens.now.tokens c.loop-i.i c.at.result (program c.loop-i.parsed c.loop-i.place)
    (Ok (program c.program_step.new.parsed c.in-Ok.next)) c.at.ensures c.in-Ok.ensures)
    ∙ c.loop-i.invariant

pub loop-i-init : goal.loop-i-init
loop-i-init c = refl

pub at-requires : goal.at-requires
at-requires c = rw c.len-i-end.ensures at c.loop-i-test.true

pub program_step-requires : goal.program_step-requires
program_step-requires c = record { inside = inside-at c.args.text.now c.args.tokens.now.tokens c.loop-i.i c.at.result c.requires.inside c.at.ensures }

pub returns : goal.returns
returns c =
    let k : Context = record { bytes = bytes_in c.args.text.now; most = c.args.most } in
    at-end program_tree k c.args.tokens.now.end c.end.result c.args.tokens.now.tokens c.loop-i.i c.len-i-end.result (program c.loop-i.parsed c.loop-i.place)
    c.finish.result _ c.loop-i-test.false c.len-i-end.ensures c.end.ensures c.loop-i.invariant c.finish.ensures
