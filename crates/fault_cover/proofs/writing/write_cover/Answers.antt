use Rattle.fault_cover.proofs.writing.write_cover.Goals as goal

pub write_classes-requires-clause-table : goal.write_classes-requires-clause-table
write_classes-requires-clause-table g c = c.requires.table

pub write_classes-requires-clause-mapped : goal.write_classes-requires-clause-mapped
write_classes-requires-clause-mapped g c = c.requires.survey

pub write_classes-requires-in-All-clause-table : goal.write_classes-requires-in-All-clause-table
write_classes-requires-in-All-clause-table g c = c.requires.table

pub write_classes-requires-in-All-clause-mapped : goal.write_classes-requires-in-All-clause-mapped
write_classes-requires-in-All-clause-mapped g c = c.requires.survey
