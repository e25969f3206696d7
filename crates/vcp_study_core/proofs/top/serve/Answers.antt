use Rattle.std.proofs.Common.{refl, ap, sym, inl, inr}
use Rattle.vcp_study_core.specs.CarriedOut.{status_of}
use Rattle.vcp_study_core.proofs.Facts.{appends-nothing}
use Rattle.vcp_study_core.proofs.top.serve.Goals as goal

pub returns-in-Ok-true : goal.returns-in-Ok-true
returns-in-Ok-true g c = (_, _, c.in-Ok-true.ensures, inl (sym (ap status_of c.in-Ok-true.field-0-test), appends-nothing _, refl))

pub returns-in-Ok-false : goal.returns-in-Ok-false
returns-in-Ok-false g c = (_, _, c.in-Ok-false.ensures, inl (sym (ap status_of c.in-Ok-false.field-0-test), appends-nothing _, refl))

pub returns-in-Ok : goal.returns-in-Ok
returns-in-Ok g c = (_, _, c.in-Err.ensures, inl (c.fault_status.ensures, c.in-Ok.ensures.whole, c.in-Ok.ensures.cause.stayed))

pub returns-in-Err-tell : goal.returns-in-Err-tell
returns-in-Err-tell g c = (_, _, c.in-Err.ensures, inr (refl, c.in-Err-tell.ensures.cause.failed, c.in-Err-tell.ensures.part))
