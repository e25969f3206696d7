-- Kept: what is kept of the answers of a cycle.
use Rattle.std.specs.Prelude.{List, [], ◌∷◌, Option, Some, None, ℤ}
use Rattle.vcp_base.specs.declared.kind.StopKind.{StopKind}
use Rattle.coded_unit.specs.declared.call.Answer.{Answer}
use Rattle.coded_unit.specs.declared.call.Answer.TheVariants as answer
use Rattle.coded_machine.specs.declared.cycle_end.CycleEnd.{CycleEnd}
use Rattle.coded_machine.specs.declared.cycle_end.CycleEnd.TheVariants as end

-- the words up to the first answer that is none
abbrev pub front_words : List Answer → List ℤ
front_words (answer.Word w ∷ answers) = w ∷ front_words answers
front_words _ = []

-- why a cycle stopped that ended so
abbrev pub stop_kind : CycleEnd → Option StopKind
stop_kind (end.Stopped k why) = Some why
stop_kind (end.Refused number found wanted) = None
stop_kind end.Released = None
