use Rattle.std.proofs.Common.{sym, subst}
use Rattle.pictures.specs.VerdictLooks.{verdict_looks}
use Rattle.pictures.specs.WorstVerdict.{IsWorstLook}
use Rattle.pictures.proofs.WorstIs.{worst_look}
use Rattle.pictures.proofs.verdicts.laws.each_operation_has_its_worst_verdict.Goals as goal

pub returns : goal.returns
returns c g groups vs places =
    let whole = c.a_graph_is_drawn_whole.ensures.whole g (verdict_looks groups vs) places in record {
      operations = record {
        many = whole.operations.many;
        each = λ n op there.
            let drawn = whole.operations.each n op there in (
              drawn.0,
              drawn.1,
              record {
                number = drawn.2.number;
                operation = drawn.2.operation;
                own = drawn.2.own;
                look = subst (IsWorstLook groups vs n) (sym drawn.2.look) (worst_look groups vs n);
                place = drawn.2.place;
              },
            );
      };
      reads = whole.reads;
    }
