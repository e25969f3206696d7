use Rattle.il_front.proofs.judging.listed.Goals as goal

pub returns-in-Ok-append_lines-clause-ok : goal.returns-in-Ok-append_lines-clause-ok
returns-in-Ok-append_lines-clause-ok c = c.in-Ok-append_lines.ensures.ok c.args.slots.now.items.items c.in-Ok.ensures

pub returns-clause-err : goal.returns-clause-err
returns-clause-err c = c.in-Err-append_lines.ensures.err c.args.slots.now.items.items c.in-Ok.ensures
