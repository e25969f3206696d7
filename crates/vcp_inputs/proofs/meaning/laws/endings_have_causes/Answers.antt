use Rattle.vcp_inputs.proofs.Causing.{done_has_status, done_is_meant, endings_have_causes, giving_up_has_causes}
use Rattle.vcp_inputs.proofs.meaning.laws.endings_have_causes.Goals as goal

pub returns : goal.returns
returns c = record { meant = done_is_meant; statuses = done_has_status; ended = endings_have_causes; given_up = giving_up_has_causes }
