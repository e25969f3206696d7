use Rattle.std.proofs.Common.{inl, refl, sym, subst}
use Rattle.signature_table.specs.Signatures.{Numbers, IsTableOf}
use Rattle.vcp_core.proofs.Performing.{still}
use Rattle.vcp_inputs.specs.Forms.{as_code}
use Rattle.vcp_core.proofs.JobFacts.{carried-as, width-is, memory-causes}
use Rattle.vcp_core.proofs.printed.run_program.Goals as goal

pub new-requires-clause-seed : goal.new-requires-clause-seed
new-requires-clause-seed g c = c.requires.code.seed

pub new-requires-clause-step_from : goal.new-requires-clause-step_from
new-requires-clause-step_from g c = c.requires.code.step_from

pub new-requires-clause-step_to : goal.new-requires-clause-step_to
new-requires-clause-step_to g c = c.requires.code.step_to

pub run_printed-requires-clause-table : goal.run_printed-requires-clause-table
run_printed-requires-clause-table g c = subst (λ (t : Numbers). IsTableOf t c.in-Ok.graph) (sym c.in-Ok-new.ensures.numbers) (refl, refl)

pub run_printed-requires-clause-width : goal.run_printed-requires-clause-width
run_printed-requires-clause-width g c =
    width-is c.in-Ok.graph c.args.program.now c.args.rows.now.types c.in-Ok.ensures.means c.requires.types

pub returns-in-Ok-new-clause-ran : goal.returns-in-Ok-new-clause-ran
returns-in-Ok-new-clause-ran g c s name p words stands shows =
    c.run_printed.ensures.ran s (as_code c.args.code) name p words
    (carried-as c.args.program.now (as_code c.args.code) c.args.rows.now c.in-Ok.graph c.in-Ok-new.table s stands c.in-Ok.ensures
    c.in-Ok-new.ensures.numbers c.requires.types c.requires.typed)
    (shows c.in-Ok.graph)

-- ---- there is no memory

pub returns-in-Err-clause-ran : goal.returns-in-Err-clause-ran
returns-in-Err-clause-ran g c s name p words stands shows = inl (still _)

pub returns-clause-ran : goal.returns-clause-ran
returns-clause-ran g c s name p words stands shows = inl (still _)

pub returns-in-Err-clause-causes : goal.returns-in-Err-clause-causes
returns-in-Err-clause-causes g c = memory-causes _

pub returns-clause-causes : goal.returns-clause-causes
returns-clause-causes g c = memory-causes _
