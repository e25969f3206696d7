-- There: the operation and the output that a pair's end names are the graph's.
use Rattle.std.proofs.Common.{ℕ, ◌≡◌, refl, ap, subst, sym, ◌∙◌, List, length, arith, ℤ, Option}
use Rattle.std.proofs.lemmas.List.{length-map}
use Rattle.std.proofs.lemmas.Option.{slice_get_within}
use Rattle.vcp_base.specs.declared.kind.StopKind.{StopKind}
use Rattle.coded_unit.specs.Log.{Entry, GrowsBy}
use Rattle.coded_unit.specs.Seen.{UnitSeen}
use Rattle.coded_unit.specs.declared.call.Answer.{Answer}
use Rattle.op_graph.specs.Laws.{EntryLaws}
use Rattle.op_graph.specs.Lists.{Lists}
use Rattle.op_graph.specs.Rules.{IsGraph}
use Rattle.signature_table.specs.Signatures.{Numbers}
use Rattle.coded_machine.specs.declared.cycle_end.CycleEnd.{CycleEnd}
use Rattle.coded_machine.specs.declared.cycle_end.CycleEnd.TheVariants as end
use Rattle.coded_machine.specs.Calls.{Whole}
use Rattle.coded_machine.specs.CycleEnds.{Cause, outputs_of}
use Rattle.coded_machine.specs.Stops.{GrowsToStop}
use Rattle.coded_machine.proofs.Stopping.{refusal_numbered, stop_placed, stopped_log}
use Rattle.pair_channel.specs.declared.pair_end.PairEnd.{PairEnd}
use Rattle.pair_channel.specs.declared.pair_end.PairEnd.TheVariants as pair
use Rattle.pair_channel.specs.PairEnds.{PairCause}
use Rattle.pair_channel.specs.PairStates.{PairState, after_pair}
use Rattle.pair_channel.specs.PairTurns.{PairTurn}
use Rattle.pair_channel.specs.PairDone.{IsNumbered, PairIsThere}

numbered : (g : Lists) (t : Numbers) (n : ℕ) (answers : List Answer) (e : CycleEnd) → Cause g t n answers e → IsNumbered g e
numbered g t n answers end.Released cause = tt
numbered g t n answers (end.Stopped op why) cause = tt
numbered g t n answers (end.Refused i found wanted) cause = refusal_numbered g t n answers (end.Refused i found wanted) i found wanted cause refl

pub is_there : EntryLaws → (g : Lists) (p q : PairState) (row out_before out_now : List ℤ) (e : PairEnd) (x y z w : UnitSeen) → IsGraph g →
    p.first.graph ≡ g → p.second.graph ≡ g → PairTurn p q row e out_before out_now x y z w → PairIsThere g e
is_there laws g p q row out_before out_now pair.Released x y z w graph one two turn = tt
is_there laws g p q row out_before out_now (pair.Stopped op why) x y z w graph one two turn =
    let cause : Cause g p.first.table p.first.cycles q.first.answers turn.first_end =
    subst (λ (h : Lists). Cause h p.first.table p.first.cycles q.first.answers turn.first_end) one turn.first_cause in
    let whole : Whole g.operations q.first.answers = subst (λ (h : Lists). Whole h.operations q.first.answers) one turn.first.whole in
    stop_placed laws g p.first.table p.first.cycles q.first.answers turn.first_end op why graph whole cause turn.cause.0
is_there laws g p q row out_before out_now (pair.Parted a b) x y z w graph one two turn =
    let first : Cause g p.first.table p.first.cycles q.first.answers turn.first_end =
    subst (λ (h : Lists). Cause h p.first.table p.first.cycles q.first.answers turn.first_end) one turn.first_cause in
    let second : Cause g p.second.table p.second.cycles q.second.answers turn.second_end =
    subst (λ (h : Lists). Cause h p.second.table p.second.cycles q.second.answers turn.second_end) two turn.second_cause in (
      subst (IsNumbered g) (sym turn.cause.0) (numbered g p.first.table p.first.cycles q.first.answers turn.first_end first),
      subst (IsNumbered g) (sym turn.cause.1) (numbered g p.second.table p.second.cycles q.second.answers turn.second_end second),
    )
is_there laws g p q row out_before out_now (pair.Differ i a b) x y z w graph one two turn =
    let wide : length (outputs_of p.first.graph q.first.answers) ≡ length p.first.graph.outputs = length-map p.first.graph.outputs _ in
    let within = slice_get_within (outputs_of p.first.graph q.first.answers) i a turn.cause.2.here in
    omega (arith, within, wide, ap (λ (h : Lists). length h.outputs) one)

-- the calls of the first channel end in the stop that both channels have
pub stops_log : EntryLaws → (g : Lists) (p q : PairState) (row out_before out_now : List ℤ) (e : PairEnd) (op : ℕ) (why : StopKind) (x y z w : UnitSeen)
    (start : Option (List Entry)) (earlier : List Entry) → IsGraph g → p.first.graph ≡ g → p.first.cycles ≡ p.cycles →
    PairTurn p q row e out_before out_now x y z w → e ≡ pair.Stopped op why → GrowsBy start x.log earlier → GrowsToStop start y.log q.cycles op why
stops_log laws g p q row out_before out_now e op why x y z w start earlier graph one together turn is h =
    let cause : PairCause turn.first_end turn.second_end (outputs_of p.first.graph q.first.answers) (outputs_of p.second.graph q.second.answers)
    (pair.Stopped op why) =
    subst (PairCause turn.first_end turn.second_end (outputs_of p.first.graph q.first.answers) (outputs_of p.second.graph q.second.answers)) is turn.cause in
    let count : q.cycles ≡ p.cycles = ap (λ (r : PairState). r.cycles) (turn.pair_is ∙ ap (after_pair p q.first q.second) is) in
    subst (λ (n : ℕ). GrowsToStop start y.log n op why) (together ∙ sym count)
    (stopped_log laws p.first q.first row turn.first_end op why start x.log y.log earlier x.wrong y.wrong (subst IsGraph (sym one) graph) turn.first
    turn.first_cause cause.0 h)
