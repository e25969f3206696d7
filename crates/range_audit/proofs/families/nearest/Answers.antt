use Rattle.range_audit.proofs.families.nearest.Goals as goal

pub returns-then-is_family : goal.returns-then-is_family
returns-then-is_family c = c.is_family.ensures c.if-is_family.true
