use Rattle.std.proofs.Common.{◌≡◌, ◌<◌, length, Err, refl, sym, subst}
use Rattle.std.proofs.lemmas.Result.{err_from_is_err_and}
use Rattle.vcp_base.specs.Limits.{most_operations}
use Rattle.op_graph.specs.declared.build.Build.TheVariants as build
use Rattle.flat_expr.specs.Closing.{Closes}
use Rattle.flat_expr.specs.State.{State, Finishes, whole_size}
use Rattle.flat_expr.proofs.Closing.{closes_begin, finishes}
use Rattle.flat_expr.proofs.Ended.{ends_full, handed}
use Rattle.flat_expr.proofs.flat.Flat.finish.Goals as goal

pub returns-in_err-close_outputs-clause-refuses : goal.returns-in_err-close_outputs-clause-refuses
returns-in_err-close_outputs-clause-refuses c =
    let a : State =
    record {
      slots = c.self.inside.slots.now.items.items;
      graph = c.self.inside.graph;
      known = c.self.inside.known.items;
      path = c.self.inside.path;
      turn = c.self.inside.turn;
      nought = c.self.inside.nought;
      unit = c.self.inside.unit;
    } in
    let begin = closes_begin a c.self.invariant in
    let r = c.from_residual.result in
    let ended = handed a _ (λ g. Unit {0}) c.close_outputs.result r _ c.in_err-close_outputs.was c.from_residual.ensures.1 (c.close_outputs.ensures a begin refl) in
    subst (λ (s : State). r ≡ Err build.Full → most_operations < whole_size s) c.self.view_is (ends_full a _ r ended)

pub close_cells-requires : goal.close_cells-requires
close_cells-requires c =
    let a : State =
    record {
      slots = c.self.inside.slots.now.items.items;
      graph = c.self.inside.graph;
      known = c.self.inside.known.items;
      path = c.self.inside.path;
      turn = c.self.inside.turn;
      nought = c.self.inside.nought;
      unit = c.self.inside.unit;
    } in
    let begin = closes_begin a c.self.invariant in
    let outs = subst (λ l. Closes a (length a.slots) 0 c.close_outputs.new.graph l) (sym c.deref.ensures.value) (c.in_ok-close_outputs.ensures a begin refl) in
    (a, length a.slots, outs, refl)

pub returns-in_err-close_cells-clause-refuses : goal.returns-in_err-close_cells-clause-refuses
returns-in_err-close_cells-clause-refuses c =
    let a : State =
    record {
      slots = c.self.inside.slots.now.items.items;
      graph = c.self.inside.graph;
      known = c.self.inside.known.items;
      path = c.self.inside.path;
      turn = c.self.inside.turn;
      nought = c.self.inside.nought;
      unit = c.self.inside.unit;
    } in
    let begin = closes_begin a c.self.invariant in
    let outs = subst (λ l. Closes a (length a.slots) 0 c.close_outputs.new.graph l) (sym c.deref.ensures.value) (c.in_ok-close_outputs.ensures a begin refl) in
    let r = c.from_residual-in_err-close_cells.result in
    let ended = handed a _ (λ g. Unit {0}) c.close_cells.result r _ c.in_err-close_cells.was c.from_residual-in_err-close_cells.ensures.1
    (c.close_cells.ensures a (length a.slots) outs refl) in
    subst (λ (s : State). r ≡ Err build.Full → most_operations < whole_size s) c.self.view_is (ends_full a _ r ended)

pub finish-requires : goal.finish-requires
finish-requires c =
    let a : State =
    record {
      slots = c.self.inside.slots.now.items.items;
      graph = c.self.inside.graph;
      known = c.self.inside.known.items;
      path = c.self.inside.path;
      turn = c.self.inside.turn;
      nought = c.self.inside.nought;
      unit = c.self.inside.unit;
    } in
    let begin = closes_begin a c.self.invariant in
    let outs = subst (λ l. Closes a (length a.slots) 0 c.close_outputs.new.graph l) (sym c.deref.ensures.value) (c.in_ok-close_outputs.ensures a begin refl) in
    (c.in_ok-close_cells.ensures a (length a.slots) outs refl).so_far

pub returns-clause-made : goal.returns-clause-made
returns-clause-made c =
    let a : State =
    record {
      slots = c.self.inside.slots.now.items.items;
      graph = c.self.inside.graph;
      known = c.self.inside.known.items;
      path = c.self.inside.path;
      turn = c.self.inside.turn;
      nought = c.self.inside.nought;
      unit = c.self.inside.unit;
    } in
    let begin = closes_begin a c.self.invariant in
    let outs = subst (λ l. Closes a (length a.slots) 0 c.close_outputs.new.graph l) (sym c.deref.ensures.value) (c.in_ok-close_outputs.ensures a begin refl) in
    let all = c.in_ok-close_cells.ensures a (length a.slots) outs refl in
    subst (λ (s : State). Finishes s c.finish.result) c.self.view_is
    (subst (λ g. Finishes a g) (sym c.finish.ensures) (finishes a (length c.close_cells.new.graph.loads) c.close_cells.new.graph c.deref.result.now refl all))

pub returns-in_err-close_outputs-clause-made : goal.returns-in_err-close_outputs-clause-made
returns-in_err-close_outputs-clause-made c = rw (err_from_is_err_and c.from_residual.result c.from_residual.ensures.1).1 tt

pub returns-in_err-close_cells-clause-made : goal.returns-in_err-close_cells-clause-made
returns-in_err-close_cells-clause-made c =
    rw (err_from_is_err_and c.from_residual-in_err-close_cells.result c.from_residual-in_err-close_cells.ensures.1).1 tt
