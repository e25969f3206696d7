use Rattle.std.proofs.Common.{◌∙◌, arith}
use Rattle.coded_unit.proofs.Multiples.{read_back, less_residue}
use Rattle.coded_unit.proofs.beside.multiple_in.Goals as goal

pub returns : goal.returns
returns c =
    read_back c.args.profile c.less_residue.result c.args.parts.value
    (c.less_residue.ensures ∙ less_residue c.args.profile c.args.word c.args.parts.value c.args.parts.residue c.requires.value c.requires.residue)
    (grind arith) (grind arith)
