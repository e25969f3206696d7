use Rattle.std.proofs.Common.{◌≡◌, drop}
use Rattle.st_tree.specs.Spelling.{bytes_in}
use Rattle.st_parser.specs.ProgramMachine.{run, read_program}
use Rattle.st_parser.specs.ProgramViews.{program}
use Rattle.st_parser.proofs.parsing.read_program.Given as goal

abbrev pub invariant-loop-i : goal.invariant-loop-i
invariant-loop-i l =
    run (record { bytes = bytes_in l.fn.text; most = l.fn.most }) l.tokens.end (drop l.i l.tokens.tokens) (program l.parsed l.place)
    ≡ read_program (record { bytes = bytes_in l.fn.text; most = l.fn.most }) l.tokens.end l.tokens.tokens
