-- Last: the last line of a pair's run, as it is printed, and the stop that it tells.
use Rattle.std.proofs.Common.{ℕ, zero, suc, ◌<◌, ◌≡◌, ◌≢◌, refl, subst, arith, List, [], ◌∷◌, ◌++◌, length, slice_get, Option, Some, None, Result, IfSome}
use Rattle.std.specs.Io.KnownBytes.{Appends}
use Rattle.vcp_base.specs.Stops.{ToldStop, told_stop}
use Rattle.vcp_base.specs.declared.kind.StopKind.{StopKind}
use Rattle.vcp_outside.specs.Seen.{SinkSeen}
use Rattle.vcp_outside.specs.Written.{Writes}
use Rattle.vcp_outside.specs.declared.failed.Failed.{Failed}
use Rattle.op_graph.specs.declared.op.Op.{Op}
use Rattle.op_graph.specs.Lists.{Lists, turns_of}
use Rattle.run_report.specs.Lines.{stop_text}
use Rattle.coded_machine.specs.Moments.{Moment}
use Rattle.coded_machine.specs.Stops.{GrowsToStop, TellsStop}
use Rattle.coded_machine.proofs.Writing.{appends_on}
use Rattle.pair_channel.specs.declared.pair_end.PairEnd.{PairEnd}
use Rattle.pair_channel.specs.declared.pair_end.PairEnd.TheVariants as pair
use Rattle.pair_channel.specs.PairDone.{PairIsThere}
use Rattle.pair_channel.specs.PairLines.{halt_text, pair_last}

there_is : (ops : List Op) (k : ℕ) → k < length ops → slice_get ops k ≢ None
there_is [] k below is = absurd (omega (arith, below))
there_is (op ∷ ops) zero below is = cc
there_is (op ∷ ops) (suc k) below is = there_is ops k (omega (arith, below)) is

-- the line of a stop of an operation that is there
module _ (g : Lists) (n : ℕ) (why : StopKind) (old new : Option (List ℕ)) (f h : ℕ) (r : Result (Unit {0}) Failed) where
  stop_by : (o : Option Op) → o ≢ None → IfSome o (λ op. Writes old new f h (stop_text n (told_stop g.names why op.spot (turns_of g op.turn))) r)
      → Writes old new f h (halt_text g n why o) r
  stop_by None some w = absurd (some refl)
  stop_by (Some op) some w = w

  pub stop_written : (k : ℕ) → k < length g.operations
      → IfSome (slice_get g.operations k) (λ op. Writes old new f h (stop_text n (told_stop g.names why op.spot (turns_of g op.turn))) r)
      → Writes old new f h (halt_text g n why (slice_get g.operations k)) r
  stop_written k below w = stop_by (slice_get g.operations k) (there_is g.operations k below) w

-- ---- the stop that it tells

stop_line : (g : Lists) (n : ℕ) (why : StopKind) (o : Option Op) → o ≢ None → (told : ToldStop) × (told.kind ≡ why) × (halt_text g n why o ≡ stop_text n told)
stop_line g n why None some = absurd (some refl)
stop_line g n why (Some op) some = (told_stop g.names why op.spot (turns_of g op.turn), refl, refl)

-- the header, the rows and the line of a stop were written, where the log grew to that stop
pub stop_told : (g : Lists) (n op : ℕ) (why : StopKind) (e : PairEnd) (before after : Moment) (x y : SinkSeen) (header rows : List ℕ) →
    e ≡ pair.Stopped op why → PairIsThere g e → Appends before.out.written x.written header → Appends x.written y.written rows →
    Appends y.written after.out.written (pair_last g n e None) → GrowsToStop before.unit.log after.unit.log n op why →
    TellsStop stop_text before after op why
stop_told g n op why e before after x y header rows is there h r l grows =
    let below : op < length g.operations = subst (PairIsThere g) is there in
    let (told, kind, line) = stop_line g n why (slice_get g.operations op) (there_is g.operations op below) in
    let last : Appends y.written after.out.written (stop_text n told) =
    subst (Appends y.written after.out.written) line (subst (λ (f : PairEnd). Appends y.written after.out.written (pair_last g n f None)) is l) in
    record {
      cycle = n;
      told = told;
      kind = kind;
      front = header ++ rows;
      log = grows;
      written = appends_on before.out.written y.written after.out.written (header ++ rows) (stop_text n told)
          (appends_on before.out.written x.written y.written header rows h r) last;
    }
