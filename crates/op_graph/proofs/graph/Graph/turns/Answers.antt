use Rattle.std.proofs.Common.{◌≡◌, ◌<◌, ◌≤◌, length, slice_get, IfSome, All, reverse, ap, sym, ◌∙◌, subst, refl}
use Rattle.std.proofs.lemmas.Option.{slice_get_read}
use Rattle.vcp_base.specs.declared.turns.Turn.{Turn}
use Rattle.op_graph.specs.Lists.{Lists, turns_back, turns_of}
use Rattle.op_graph.proofs.Fitting.{turn_there}
use Rattle.op_graph.proofs.Turns.{turns_named}
use Rattle.op_graph.proofs.graph.Graph.turns.Goals as goal

pub turns_round-requires-clause-there : goal.turns_round-requires-clause-there
turns_round-requires-clause-there c =
    let ops = c.self.inside.lists.operations.items in
    let lt : c.args.i < length ops = subst (λ (g : Lists). c.args.i < length g.operations) (sym c.self.view_is) c.requires in
    let there = slice_get_read ops (length ops) c.args.i c.index-op.result.now refl lt c.index-op.ensures in
    let le = turn_there
    (record {
      profile = c.self.inside.lists.profile;
      names = c.self.inside.lists.names.items;
      inputs = c.self.inside.lists.inputs.items;
      outputs =
          c.self.inside.lists.outputs.items;
      loads = c.self.inside.lists.loads.items;
      stores = c.self.inside.lists.stores.items;
      turn_nodes =
          c.self.inside.lists.turn_nodes.items;
      operations = ops;
    }) c.args.i c.index-op.result.now c.self.invariant.part there in
    subst (λ l. c.index-op.result.now.turn ≤ length l) (sym c.deref.ensures.value) le

pub returns-clause-turns : goal.returns-clause-turns
returns-clause-turns c =
    let ops = c.self.inside.lists.operations.items in
    let lt : c.args.i < length ops = subst (λ (g : Lists). c.args.i < length g.operations) (sym c.self.view_is) c.requires in
    let there = slice_get_read ops (length ops) c.args.i c.index-op.result.now refl lt c.index-op.ensures in
    let turns : c.turns_round.result ≡ turns_back (reverse c.self.inside.lists.turn_nodes.items) c.index-op.result.now.turn = c.turns_round.ensures
    ∙ ap (λ l. turns_back (reverse l) c.index-op.result.now.turn) c.deref.ensures.value in
    subst (λ (g : Lists). IfSome (slice_get g.operations c.args.i) (λ op. c.turns_round.result ≡ turns_of g op.turn)) c.self.view_is
    (subst (λ o. IfSome o (λ op. c.turns_round.result ≡ turns_back (reverse c.self.inside.lists.turn_nodes.items) op.turn)) (sym there) turns)

pub returns-clause-named : goal.returns-clause-named
returns-clause-named c =
    let nodes = c.self.inside.lists.turn_nodes.items in
    let turns : c.turns_round.result ≡ turns_back (reverse nodes) c.index-op.result.now.turn = c.turns_round.ensures
    ∙ ap (λ l. turns_back (reverse l) c.index-op.result.now.turn) c.deref.ensures.value in
    let named = turns_named
    (record {
      profile = c.self.inside.lists.profile;
      names = c.self.inside.lists.names.items;
      inputs = c.self.inside.lists.inputs.items;
      outputs =
          c.self.inside.lists.outputs.items;
      loads = c.self.inside.lists.loads.items;
      stores = c.self.inside.lists.stores.items;
      turn_nodes = nodes;
      operations =
          c.self.inside.lists.operations.items;
    }) c.index-op.result.now.turn c.self.invariant.part in
    subst (λ (g : Lists). All (λ (t : Turn). t.name < length g.names) c.turns_round.result) c.self.view_is
    (subst (λ l. All (λ (t : Turn). t.name < length c.self.inside.lists.names.items) l) (sym turns) named)
