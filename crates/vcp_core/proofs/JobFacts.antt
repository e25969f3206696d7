-- What the calls of a job's run give, as its lemmas take it.
use Rattle.std.proofs.Common.{ℕ, suc, [], ◌∷◌, ◌++◌, append_assoc, ◌≡◌, ◌≢◌, ◌<◌, ◌≤◌, refl, sym, ap, subst, ◌∙◌, List, length, map, slice_get, Option, None, Some, Result, Ok, Err, All, arith, ℤ}
use Rattle.std.proofs.lemmas.List.{length-map}
use Rattle.std.specs.Io.KnownBytes.{Appends}
use Rattle.vcp_base.specs.Limits.{most_cycles}
use Rattle.vcp_base.specs.Types.{AreIn}
use Rattle.vcp_base.specs.declared.columns.Column.{Column}
use Rattle.vcp_base.specs.declared.kind.StopKind.{StopKind}
use Rattle.vcp_base.specs.declared.ty.Ty.{Ty}
use Rattle.vcp_typed.specs.Fitting.{AreRows, input_types}
use Rattle.vcp_typed.specs.SourceRun.{Program}
use Rattle.input_rows.specs.RowsOf.{RowsLeft}
use Rattle.coded_unit.specs.declared.call.Answer.{Answer}
use Rattle.op_graph.specs.declared.op.Op.{Op}
use Rattle.op_graph.specs.Lists.{Lists, column, output_column}
use Rattle.op_graph.specs.Rules.{IsGraph}
use Rattle.signature_table.specs.Signatures.{IsTable, Numbers, table_of}
use Rattle.coded_machine.specs.declared.cycle_end.CycleEnd.{CycleEnd}
use Rattle.coded_machine.specs.declared.cycle_end.CycleEnd.TheVariants as cycle
use Rattle.coded_machine.specs.State.{State}
use Rattle.flat_expr.specs.Told.{Means, halted_at}
use Rattle.coded_machine.specs.declared.rows.fault.RunFault.{RunFault}
use Rattle.coded_machine.specs.declared.rows.fault.RunFault.TheVariants as given_up
use Rattle.coded_machine.specs.FirstRows.{FirstRowsFollow, FirstRowsLaw}
use Rattle.coded_machine.specs.RowRuns.{RunsRows, SomeCycles}
use Rattle.coded_machine.specs.Stops.{GrowsToStop, TellsStop}
use Rattle.run_report.specs.Lines.{stop_text}
use Rattle.vcp_outside.specs.Counts.{Rose}
use Rattle.vcp_outside.specs.Seen.{SinkSeen}
use Rattle.coded_machine.specs.Leaves.{Leaves}
use Rattle.coded_machine.specs.Moments.{Moment}
use Rattle.vcp_inputs.specs.Forms.{Code}
use Rattle.vcp_inputs.specs.Answer.{Subject, source}
use Rattle.vcp_inputs.specs.GraphsOf.{StandsFor}
use Rattle.vcp_inputs.specs.Reports.{end_read, end_told, subject_outputs, run_status}
use Rattle.vcp_core.specs.MachineRun.{CarriesOut, EndsAtStop, HasCauses, IsThere, StandsAs}
use Rattle.vcp_core.proofs.JobRun.{append-all}
use Rattle.vcp_core.proofs.PlainNames.{inputs-count}

-- rows of values of these types, as a list of rows
all-rows : (types : List Ty) (rows : List (List ℤ)) → All (AreIn types) rows → AreRows types rows
all-rows types [] h = tt
all-rows types (row ∷ rows) h = (h 0 row (omega arith), all-rows types rows (λ k d below. h (suc k) d (omega (arith, below))))

-- a graph that stands for a program is run in the place of what the program stands as, on rows that fit its inputs
pub carried-as : (p : Program) (code : Code) (left : RowsLeft) (g : Lists) (t : Numbers) (s : Subject) → StandsAs p left s → StandsFor p g
    → t ≡ table_of code.seed code.step g → left.types ≡ input_types p.slots → All (AreIn left.types) left.rows → CarriesOut g t left s code
carried-as p code left g t s stood stands table types typed = record {
  may = stood.may g stands;
  numbers = table;
  names = ap (map (λ (c : Column). c.name)) stands.means.outputs ∙ stood.names;
  told = stands.means.runs left.rows (subst (λ types. AreRows types left.rows) types (all-rows left.types left.rows typed)) ∙ stood.told;
}

-- a program stands as itself
pub as-itself : (p : Program) (left : RowsLeft) → StandsAs p left (source p)
as-itself p left = record { may = λ g stands. stands; names = refl; told = refl }

-- the names of the outputs
pub names-are : (g : Lists) (t : Numbers) (left : RowsLeft) (s : Subject) (code : Code) (outputs : List Column) → CarriesOut g t left s code
    → outputs ≡ map (output_column g.names) g.outputs → map (λ (c : Column). c.name) outputs ≡ subject_outputs s
names-are g t left s code outputs carries is = ap (map (λ (c : Column). c.name)) is ∙ carries.names

-- and have a value for each input of the graph
pub width-is : (g : Lists) (p : Program) (types : List Ty) → Means g p → types ≡ input_types p.slots → length types ≡ length g.inputs
width-is g p types means is = ap length is ∙ sym (inputs-count p.slots) ∙ ap length (sym means.inputs) ∙ length-map g.inputs (column g.names)

-- what a machine's run leaves, by these numbers, where this is printed of each row
pub leaves-shown : (n : State) (g : Lists) (t u : Numbers) (left : RowsLeft) (text shown : ℕ → List ℤ → List ℕ) (before after : Moment)
    (kept_before kept_after : List (List ℤ) → Type 0) (r : Result CycleEnd RunFault) → t ≡ u → text ≡ shown →
    Leaves g t left text before after kept_before kept_after n r → Leaves g u left shown before after kept_before kept_after n r
leaves-shown n g t u left text shown before after kept_before kept_after r same is h =
    subst (λ (x : ℕ → List ℤ → List ℕ). Leaves g u left x before after kept_before kept_after n r) is
    (subst (λ (x : Numbers). Leaves g x left text before after kept_before kept_after n r) same h)

-- the rows before a wrong answer, by the numbers of a job's code
pub first-rows : FirstRowsLaw → (g : Lists) (t u : Numbers) (rows : List (List ℤ)) → IsGraph g → IsTable t → t ≡ u → length rows ≤ most_cycles →
    (cycles : List (List Answer)) → SomeCycles g u 0 rows cycles → FirstRowsFollow g u rows cycles
first-rows law g t u rows graph table is few cycles = law g u rows cycles graph (subst IsTable is table) few

-- a run that failed has cause, where the count rose if a write failed
pub failed-causes : (before after : Moment) (why : RunFault) → (why ≡ given_up.Write → Rose before.out.faults after.out.faults)
    → (why ≢ given_up.Write → after.out.faults ≡ before.out.faults) → HasCauses before after (Err why)
failed-causes before after why rose stayed = record {
  write = λ is. rose cc;
  refused = λ is. absurd cc;
  stopped = λ is. absurd cc;
  stayed = λ no. stayed (λ is. no (ap Err is));
}

-- memory was wanted, and nothing was done
pub memory_unwritten : {V : Type 0} → (let r : Result V RunFault = Err given_up.Memory in r) ≡ Err given_up.Write → ⊥
memory_unwritten is = cc

pub memory-causes : (here : Moment) → HasCauses here here (Err given_up.Memory)
memory-causes here = failed-causes here here given_up.Memory (λ is. absurd cc) (λ no. refl)

-- what is printed first, of the rows and last was written, where the log grew to the stop at which the run ended
pub stop-told : (before after : Moment) (x y : SinkSeen) (first rows last : List ℕ) (n k : ℕ) (why : StopKind) (e : CycleEnd) →
    Appends before.out.written x.written first → Appends x.written y.written rows → Appends y.written after.out.written last → EndsAtStop last n e →
    e ≡ cycle.Stopped k why → GrowsToStop before.unit.log after.unit.log n k why → TellsStop stop_text before after k why
stop-told before after x y first rows last n k why e head lines end ends is grows =
    let stop : EndsAtStop last n (cycle.Stopped k why) = subst (EndsAtStop last n) is ends in
    record {
      cycle = n;
      told = stop.1;
      kind = stop.2;
      front = (first ++ rows) ++ stop.0;
      log = grows;
      written = append-all before.out.written y.written after.out.written (first ++ rows) last _
          (append-all before.out.written x.written y.written first rows _ head lines refl) end
          (append_assoc (first ++ rows) stop.0 (stop_text n stop.1) ∙ ap (λ l. (first ++ rows) ++ l) (sym stop.3));
    }

-- a row couldn't be written
pub rows-rose : (g : Lists) (t : Numbers) (left : RowsLeft) (text : ℕ → List ℤ → List ℕ) (before after : Moment) (why : RunFault)
    → RunsRows g t left text before after (Err why) → why ≡ given_up.Write → Rose before.out.faults after.out.faults
rows-rose g t left text before after given_up.Write run is = run.ends.0
rows-rose g t left text before after given_up.Memory run is = absurd cc
rows-rose g t left text before after (given_up.Rows f) run is = absurd cc

-- the operation that stopped is there, and so is the output that is refused
pub there-is : {E : Type 0} (m : State) (g : Lists) (e : CycleEnd) (ok : Result CycleEnd E) → ok ≡ Ok e → m.graph ≡ g
    → ((k : ℕ) (why : StopKind) → ok ≡ Ok (cycle.Stopped k why) → k < length m.graph.operations) →
    ((i found wanted : ℕ) → ok ≡ Ok (cycle.Refused i found wanted) → i < length m.graph.outputs) → IsThere g e
there-is m g cycle.Released ok is same placed numbered = tt
there-is m g (cycle.Stopped k why) ok is same placed numbered = subst (λ (x : Lists). k < length x.operations) same (placed k why is)
there-is m g (cycle.Refused i found wanted) ok is same placed numbered = subst (λ (x : Lists). i < length x.outputs) same (numbered i found wanted is)

-- the status of a stop is that of no other end
pub stopped-is : (g : Lists) (e : CycleEnd) → 2 ≡ run_status (end_read g e) None → (k : ℕ) × (why : StopKind) × (e ≡ cycle.Stopped k why)
stopped-is g cycle.Released is = absurd (omega (arith, is))
stopped-is g (cycle.Stopped k why) is = (k, why, refl)
stopped-is g (cycle.Refused i found wanted) is = absurd (omega (arith, is))

not-three : (g : Lists) (why : StopKind) (o : Option Op) → 3 ≡ run_status (end_told (halted_at g why o)) None → ⊥
not-three g why None is = omega (arith, is)
not-three g why (Some op) is = omega (arith, is)

-- and so is that of an output that is refused
pub refused-is : (g : Lists) (e : CycleEnd) → 3 ≡ run_status (end_read g e) None → (i : ℕ) × (found : ℕ) × (wanted : ℕ) × (e ≡ cycle.Refused i found wanted)
refused-is g cycle.Released is = absurd (omega (arith, is))
refused-is g (cycle.Stopped k why) is = absurd (not-three g why (slice_get g.operations k) is)
refused-is g (cycle.Refused i found wanted) is = (i, found, wanted, refl)
