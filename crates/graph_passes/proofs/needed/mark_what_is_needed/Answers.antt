use Rattle.graph_passes.proofs.Needing.{may_be_kept}
use Rattle.graph_passes.proofs.needed.mark_what_is_needed.Goals as goal

pub returns : goal.returns
returns c =
    let f = c.mark_what_follows.ensures in
    let s = c.mark_what_stays.ensures in
    record {
      many = f.many;
      may = may_be_kept c.args.graph.now c.mark_what_follows.new.marks (λ i op there must. f.kept i (s.stays i op there must)) f.closed;
      needed = λ i here. f.sound s.needed i here;
    }
