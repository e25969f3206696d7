use Rattle.std.proofs.Common.{◌≡◌, ◌∷◌, ◌++◌, List, [], ℕ, rules, drop, sym, ◌∙◌, slice_get, w64}
use mir.Val.{SFits}
use Rattle.std.proofs.Math.Facts.{to_z-of_z}
use Rattle.std.proofs.lemmas.Option.{IfSome_then}
use Rattle.vcp_base.specs.declared.turns.Turn.{Turn}
use Rattle.run_report.proofs.Turns.{first_left, none_left, told_next, told_all, named_left, next_text}
use Rattle.vcp_outside.specs.Pens.{Goes}
use Rattle.run_report.proofs.graph_stop.then_turns_round.Goals as goal

pub turns-preserved : goal.turns-preserved
turns-preserved g c =
    let names : List (List ℕ) = c.args.graph.now.names in
    let turn : Turn = c.in-Some.turn in
    let left : c.turns.turns ≡ turn ∷ drop 1 c.turns.turns = first_left c.turns.turns turn (sym c.in-Some.is ∙ c.next.ensures.turn) in
    let fits : SFits w64 turn.value = search rules in
    let told = told_next names c.turns-turns.result c.turns.turns turn _
    (λ text. Goes (g.P.Pen.seen c.args.pen) (g.P.Pen.seen c.then_turn-pen.result) text)
    c.turns.invariant.told left
    (λ text gathers sink name front is. rw (next_text names turn c.name.result.now front text c.name.ensures)
    (rw (to_z-of_z {w = w64} {z = turn.value} fits) at (c.then_turn-pen.ensures sink name (front ++ text) (gathers sink name front is)))) in
    record {
      told = rw c.next.ensures.rest told;
      named = rw c.next.ensures.rest (named_left names c.turns.turns turn c.turns.invariant.named left).1;
    }

pub returns : goal.returns
returns g c =
    let none : c.turns.turns ≡ [] = none_left c.turns.turns (sym c.in_default.is ∙ c.next.ensures.turn) in
    let told = told_all c.args.graph.now.names c.turns-turns.result c.turns.turns _ c.turns.invariant.told none in
    IfSome_then (slice_get c.args.graph.now.operations c.args.op) c.turns-turns.ensures.turns (λ o is. rw is at told)
