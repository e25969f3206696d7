use Rattle.std.proofs.Common.{◌<◌, ◌∙◌, w64, sym, subst}
use Rattle.std.proofs.lemmas.Int.{to_z-of_z}
use Rattle.vcp_base.specs.Limits.{most_cycles}
use Rattle.coded_machine.proofs.Reading.{call_is}
use Rattle.coded_machine.proofs.calling.call_after.Goals as goal

pub begun_cycle-begun-requires : goal.begun_cycle-begun-requires
begun_cycle-begun-requires c = record { table = c.requires.table; cycle = c.requires.cycle }

pub call_from-requires : goal.call_from-requires
call_from-requires c = record {
  here = c.requires.here;
  table = c.requires.table;
  cycle = subst (λ n. n < most_cycles) (sym c.begun_cycle-begun.ensures.cycle) c.requires.cycle;
  begun = c.begun_cycle-begun.ensures.begun;
}

pub returns : goal.returns
returns c =
    let s = c.args.setting.now in
    let input = to_z-of_z w64 c.own_input.result (record { sfits = c.own_input.type_inv }) in
    record {
      call = call_is s.graph.now s.table.now s.held.now s.row.now c.args.answers.now c.args.op.now _ _ _ c.call_from.ensures.call
          c.begun_cycle-begun.ensures.cycle c.operand.ensures c.operand-2.ensures c.operand-3.ensures (λ is. input ∙ c.own_input.ensures is);
      asked = c.call_from.ensures.asked;
    }
