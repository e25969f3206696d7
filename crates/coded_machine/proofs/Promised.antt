-- Promised: what the crates below promise, on which the words of honest cycles rest.
use Rattle.std.proofs.Common.{ℕ, ◌<◌, ◌≤◌}
use Rattle.vcp_base.specs.declared.code.Profile.{Profile}
use Rattle.vcp_base.specs.Code.{modulus}
use Rattle.vcp_base.specs.Limits.{most_step, most_cycles}
use Rattle.coded_unit.specs.declared.call.Call.{Call}
use Rattle.coded_unit.specs.Right.{Right}
use Rattle.coded_unit.specs.Step.{StepLaw}
use Rattle.coded_unit.specs.WordLaws.{WordLaws}
use Rattle.op_graph.specs.Laws.{OperandLaws, EntryLaws, CellLaws, ReadLaws}
use Rattle.signature_table.specs.Signatures.{expected}

-- words split in one way; right answers keep the step law; expected residues are residues
pub record Coded : Type 0 where
  pub words : (p : Profile) → WordLaws p
  pub steps : (call : Call) → StepLaw call (Right call)
  pub residues : (p : Profile) (seed step i n : ℕ) → step ≤ most_step → n < most_cycles → expected p seed step i n < modulus p

pub record Laws : Type 0 where
  pub coded : Coded
  pub typed : OperandLaws
  pub entries : EntryLaws
  pub cells : CellLaws
  pub reads : ReadLaws
