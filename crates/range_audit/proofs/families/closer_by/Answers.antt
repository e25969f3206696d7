use Rattle.range_audit.proofs.families.closer_by.Goals as goal

pub with_family-requires-clause-always : goal.with_family-requires-clause-always
with_family-requires-clause-always c = c.in-Some.ensures
