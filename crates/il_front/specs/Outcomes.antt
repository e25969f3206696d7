-- Outcomes: what functions answer, beside the definition's answer. Want of memory may come in place of any.
use Rattle.std.specs.Prelude.{◌≡◌, ◌⊎◌, ◌<◌, ◌≤◌, ℕ, ℤ, List, length, Result, Ok, Err}
use Rattle.vcp_base.specs.Limits.{most_names, most_size}
use Rattle.st_types.specs.declared.fault.TypeFault.TheVariants as typing
use Rattle.vcp_typed.specs.Size.{size}
use Rattle.vcp_typed.specs.SourceRun.{Program, source_run}
use Rattle.vcp_typed.specs.declared.slot.Slot.{Slot}
use Rattle.vcp_typed.specs.TStmtTree.{TStmtTrees}
use Rattle.il_front.specs.declared.fault.IlFault.{IlFault}
use Rattle.il_front.specs.declared.fault.IlFault.TheVariants as fault
use Rattle.il_front.specs.declared.judging.Taken.{Taken}
use Rattle.il_front.specs.Accumulator.{Il, acc_run}
use Rattle.il_front.specs.Judging.{Judged, taken, faulted}
use Rattle.il_front.specs.TypedForm.{typed_il}
use Rattle.il_front.specs.Answers.{IsIl, IsFew, first_place}

-- a line is judged so
abbrev pub Judges : Result Taken IlFault → Judged → Type 0
Judges (Ok t) j = j ≡ taken t.instruction t.ty
Judges (Err f) j = (f ≡ fault.Memory) ⊎ (j ≡ faulted f)

-- why an instruction list is beyond the limits
abbrev pub IsBeyond : Il → IlFault → Type 0
IsBeyond i f =
    (f ≡ fault.Memory) ⊎ (((f ≡ fault.Types (typing.Names first_place)) × (most_names < length (typed_il i).slots))
    ⊎ ((f ≡ fault.Types typing.Size) × IsFew i × (most_size < size (typed_il i))))

-- these variables and statements are those of the list's typed program, which is within the limits
pub record Builds (i : Il) (slots : List Slot) (body : TStmtTrees) : Type 0 where
  pub is : record { slots = slots; body = body } ≡ typed_il i
  pub few : IsFew i
  pub room : size (typed_il i) ≤ most_size

-- the program is the typed one of the instruction list that the text is
abbrev pub IsTypedIl : List ℕ → Program → Type 0
IsTypedIl text p = (i : Il) × IsIl text i × (p ≡ typed_il i)

-- the program has, over every list of rows, the rows of outputs and the end of the run of the instruction list that the text is
abbrev pub RunsAsListed : List ℕ → Program → Type 0
RunsAsListed text p = (i : Il) × IsIl text i × ((rows : List (List ℤ)) → source_run p rows ≡ acc_run i rows)

-- and so has the typed program of each instruction list
abbrev pub AccumulatorRuns : Type 0
AccumulatorRuns = (text : List ℕ) (i : Il) (rows : List (List ℤ)) → IsIl text i → source_run (typed_il i) rows ≡ acc_run i rows
