use Rattle.range_audit.proofs.cells.store_at.Goals as goal

pub returns : goal.returns
returns c =
    (c.entries_keep_their_rules.ensures.store c.args.graph.now c.args.place c.store_of.result c.len-count.ensures.rules.part c.store_of.ensures).store
