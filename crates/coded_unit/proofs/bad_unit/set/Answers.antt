use Rattle.std.proofs.Common.{sym, ◌∙◌}
use Rattle.coded_unit.proofs.Replacements.{apart, looked_up}
use Rattle.coded_unit.proofs.bad_unit.set.Goals as goal

pub returns-clause-set : goal.returns-clause-set
returns-clause-set c =
    sym (looked_up c.args.number c.insert.new.self.entries) ∙ c.in_ok-insert.ensures.updates.1

pub returns-clause-others : goal.returns-clause-others
returns-clause-others c = λ n differ.
    sym (looked_up n c.insert.new.self.entries)
    ∙ c.in_ok-insert.ensures.updates.2 n (apart c.args.number n differ)
    ∙ looked_up n c.args.replacements.now.entries
