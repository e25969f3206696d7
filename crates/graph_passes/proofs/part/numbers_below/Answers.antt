use Rattle.std.proofs.Common.{◌≡◌, ◌<◌, ℕ, ◌+◌, ◌∷◌, [], length, suc, cond, sym, ap, subst, ◌∙◌, length-append, arith}
use Rattle.graph_passes.specs.Part.{below}
use Rattle.graph_passes.specs.Tables.{marked, number_at}
use Rattle.graph_passes.proofs.ByTables.{each_pushed}
use Rattle.graph_passes.proofs.Rising.{below_few}
use Rattle.graph_passes.proofs.part.numbers_below.Goals as goal

pub one_more-count-requires : goal.one_more-count-requires
one_more-count-requires c =
    let few = below_few (marked c.args.marks.now) c.marks.i in
    omega (arith, few, c.marks.invariant.count, c.requires, c.marks-test.true)

pub marks-preserved : goal.marks-preserved
marks-preserved c =
    let i = c.marks.invariant in
    let marks = marked c.args.marks.now in
    let next : c.marks.i + 1 ≡ suc c.marks.i = omega arith in
    record {
      many = ap length c.in_ok-push.ensures.items ∙ length-append c.marks.numbers.items (c.marks.count ∷ []) ∙ ap (λ n. n + 1) i.many;
      count = c.one_more-count.ensures ∙ ap (λ n. cond (marks c.marks.i) (suc n) n) i.count ∙ ap (below marks) (sym next);
      each = subst (λ xs. (k : ℕ) → k < c.marks.i + 1 → number_at xs k ≡ below marks k) (sym c.in_ok-push.ensures.items)
          (each_pushed 0 (λ k v. v ≡ below marks k) c.marks.numbers.items c.marks.count c.marks.i i.many i.each i.count);
    }
