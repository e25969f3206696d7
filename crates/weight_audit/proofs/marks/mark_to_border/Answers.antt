use Rattle.std.proofs.Common.{suc, ◌∙◌}
use Rattle.weight_audit.proofs.Marking.{crossed_sound, crossed_complete}
use Rattle.weight_audit.proofs.marks.mark_to_border.Goals as goal

pub returns : goal.returns
returns c = record {
  are = λ out borders are.
      let g = c.args.graph.now in
      let e = c.sweep.ensures in
      let s = c.mark_stores.ensures in
      record {
        many = e.many ∙ s.many;
        sound = e.sound out (suc borders) (crossed_sound g out borders c.args.later.now c.mark_stores.new.marks are.sound s.sound);
        complete = crossed_complete g out borders c.args.later.now c.sweep.new.marks are.complete (λ q k j le. e.closed q k j)
            (λ k l crosses later. e.kept k (s.marked k l crosses later));
      };
}
