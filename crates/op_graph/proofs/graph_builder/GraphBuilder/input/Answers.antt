use Rattle.std.proofs.Common.{arith, rules, sym, subst, ◌≡◌}
use Rattle.std.proofs.lemmas.Grind.{common_steps}
use Rattle.std.proofs.lemmas.Int.{to_z-of_z}
use Rattle.op_graph.specs.Lists.{Lists}
use Rattle.op_graph.specs.Rules.{IsPart}
use Rattle.op_graph.specs.Building.{with_input}
use Rattle.op_graph.proofs.Parts.{with_input_fits}
use Rattle.op_graph.proofs.graph_builder.GraphBuilder.input.Goals as goal

pub invariant_of-self-2 : goal.invariant_of-self-2
invariant_of-self-2 c =
    let v : Lists = c.args.self.now in
    let new : Lists =
    record {
      profile = c.self.inside.profile;
      names = c.self.inside.names.items;
      inputs = c.append_both.new.entries.items;
      outputs = c.self.inside.outputs.items;
      loads = c.self.inside.loads.items;
      stores = c.self.inside.stores.items;
      turn_nodes =
          c.self.inside.turn_nodes.items;
      operations = c.append_both.new.operations.items;
    } in
    let e : new ≡ with_input v c.args.name c.args.ty c.args.spot = first_of (search rules, grind (arith, common_steps, to_z-of_z)) in
    subst IsPart (sym e)
    (with_input_fits v c.args.name c.args.ty c.args.spot
    (subst IsPart c.self.view_is c.self.invariant) c.requires.front c.requires.name c.requires.name_rises (omega arith, omega arith) c.requires.ty)
