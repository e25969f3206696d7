use Rattle.coded_unit.proofs.Parts.{Split, split_of}
use Rattle.coded_unit.proofs.word.Word.split.Goals as goal

all : (c : goal.After-parts) → Split c.args.profile c.args.self c.parts.result.0 c.parts.result.1
all c =
    split_of c.args.profile c.self.inside.code c.args.self c.parts.result.0 c.parts.result.1 c.self.invariant c.self.view_is c.parts.ensures.value
    c.parts.ensures.residue

pub returns-clause-value : goal.returns-clause-value
returns-clause-value c = (all c).value

pub returns-clause-residue : goal.returns-clause-residue
returns-clause-residue c = (all c).residue

pub returns-clause-below : goal.returns-clause-below
returns-clause-below c = (all c).below

pub returns-clause-whole : goal.returns-clause-whole
returns-clause-whole c = (all c).whole

pub returns-clause-small : goal.returns-clause-small
returns-clause-small c = (all c).small

pub returns-clause-one : goal.returns-clause-one
returns-clause-one c = (all c).one
