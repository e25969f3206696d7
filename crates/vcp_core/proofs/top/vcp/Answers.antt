use Rattle.vcp_inputs.specs.Forms.{form, form_of}
use Rattle.vcp_core.proofs.Facts.{if_some_is}
use Rattle.vcp_core.proofs.top.vcp.Goals as goal

pub returns-in-Some-clause-performed : goal.returns-in-Some-clause-performed
returns-in-Some-clause-performed g c = if_some_is (form_of c.args.words.now) (form c.in-Some.command) _ c.in-Some.ensures.form c.serve.ensures
