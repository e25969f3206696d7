-- Answer: what is written and the status; what is run, and which groups of faults are judged.
use Rattle.std.specs.Prelude.{ℕ, ℤ, List, []}
use Rattle.op_graph.specs.Lists.{Lists}
use Rattle.signature_table.specs.Signatures.{Numbers}
use Rattle.fault_script.specs.declared.act.Fault.{Fault}
use Rattle.vcp_typed.specs.SourceRun.{Program}
use Rattle.il_front.specs.Accumulator.{Il}

-- what is written to the two sinks, and the status
pub record Answer : Type 0 where
  pub out : List ℕ
  pub err : List ℕ
  pub status : ℕ

-- what is run on a unit: a program, by any graph that means it; an instruction list, by any that means its typed program; or the graph of an
-- image
pub data Subject : Type 0 where
  source : Program → Subject
  listed : Il → Subject
  image : Lists → Subject

-- Groups of faults to be judged, or to be held by a pair of channels: over which graph, with which table (of a pair that of the first channel),
-- on which rows of inputs, and which groups, in order.
pub record Campaign : Type 0 where
  pub graph : Lists
  pub table : Numbers
  pub rows : List (List ℤ)
  pub groups : List (List Fault)

-- a text is printed and nothing else
abbrev pub printed : List ℕ → Answer
printed text = record { out = text; err = []; status = 0 }
