use Rattle.std.proofs.Common.{length, rules, ap, sym, ◌∙◌}
use Rattle.st_plain.proofs.Cells.{fit-length}
use Rattle.st_plain.proofs.plain.run_cycle.Goals as goal

pub set_inputs-requires-clause-before : goal.set_inputs-requires-clause-before
set_inputs-requires-clause-before c =
    fit-length c.args.program.now.slots c.args.before.now c.requires.fit ∙ ap length (sym (c.deref.ensures.value ∙ c.slots-slots.ensures.slots))

pub set_inputs-requires-clause-places : goal.set_inputs-requires-clause-places
set_inputs-requires-clause-places c =
    c.requires.places ∙ fit-length c.args.program.now.slots c.args.before.now c.requires.fit
    ∙ ap length (sym (c.deref.ensures.value ∙ c.slots-slots.ensures.slots))

pub returns : goal.returns
returns c = search rules
