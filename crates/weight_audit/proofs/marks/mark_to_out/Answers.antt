use Rattle.std.proofs.Common.{◌≡◌, ◌⊎◌, true, false, length, ap, subst, ◌∙◌, arith}
use Rattle.std.proofs.lemmas.List.{length-replicate}
use Rattle.weight_audit.specs.Sweeping.{mark}
use Rattle.weight_audit.proofs.Marking.{out_sound, out_complete}
use Rattle.weight_audit.proofs.marks.mark_to_out.Goals as goal

pub mark-requires : goal.mark-requires
mark-requires c =
    let many = ap length c.requires.none ∙ length-replicate (length c.args.graph.now.operations) false in
    record { place = omega (arith, many, c.requires.out) }

pub sweep-requires : goal.sweep-requires
sweep-requires c = record { count = c.mark.ensures.many ∙ ap length c.requires.none ∙ length-replicate (length c.args.graph.now.operations) false }

pub returns : goal.returns
returns c =
    let g = c.args.graph.now in
    let count = length g.operations in
    record {
      many = c.sweep.ensures.many ∙ c.mark.ensures.many ∙ ap length c.requires.none ∙ length-replicate count false;
      sound = c.sweep.ensures.sound c.args.out 0
          (out_sound g c.args.out count c.mark.new.marks
          (λ k now. subst (λ xs. (mark xs k ≡ true) ⊎ (k ≡ c.args.out)) c.requires.none (c.mark.ensures.sound k now)));
      complete = out_complete g c.args.out c.sweep.new.marks (λ q k j le. c.sweep.ensures.closed q k j) (c.sweep.ensures.kept c.args.out c.mark.ensures.marked);
    }
