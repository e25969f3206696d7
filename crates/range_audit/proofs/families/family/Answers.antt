use Rattle.range_audit.proofs.families.family.Goals as goal

pub returns-then-is : goal.returns-then-is
returns-then-is c = c.is_family-is.ensures c.if-is.true
