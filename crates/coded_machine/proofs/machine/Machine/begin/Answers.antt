use Rattle.std.proofs.Common.{◌≡◌, ap, ◌∙◌, None, arith}
use Rattle.coded_machine.specs.State.{State}
use Rattle.coded_machine.proofs.machine.Machine.begin.Goals as goal

pub invariant_of-self : goal.invariant_of-self
invariant_of-self c =
    let going : c.self.inside.ended ≡ None = ap (λ (m : State). m.ended) c.self.view_is ∙ c.requires.going in
    record {
      graph = c.self.invariant.graph;
      table = c.self.invariant.table;
      table_of = c.self.invariant.table_of;
      room = omega (arith, c.self.invariant.room, c.clear.ensures.capacity);
      cells = c.self.invariant.cells;
      few = rw c.clear.ensures.items (omega arith);
      progress = rw c.clear.ensures.items tt;
      cycles = c.self.invariant.cycles;
      closed = rw going tt;
    }
