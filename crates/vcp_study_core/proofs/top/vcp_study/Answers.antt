use Rattle.vcp_study_core.specs.Forms.{form, form_of}
use Rattle.vcp_study_core.proofs.Facts.{if_some_is}
use Rattle.vcp_study_core.proofs.top.vcp_study.Goals as goal

pub returns-in-Some-clause-studied : goal.returns-in-Some-clause-studied
returns-in-Some-clause-studied g c = if_some_is (form_of c.args.words.now) (form c.in-Some.command) _ c.in-Some.ensures.form c.serve.ensures
