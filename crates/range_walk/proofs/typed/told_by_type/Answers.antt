use Rattle.std.proofs.Common.{◌≡◌, true, sym, subst, ◌∙◌}
use Rattle.std.proofs.lemmas.Option.{same_Some}
use Rattle.range_walk.specs.Intervals.{LiesIn}
use Rattle.range_walk.specs.Known.{can_stop_so}
use Rattle.range_walk.specs.Walking.{Tells}
use Rattle.range_walk.proofs.Allowed.{is_cut, cut_can, cut_tells}
use Rattle.range_walk.proofs.typed.told_by_type.Goals as goal

pub returns : goal.returns
returns c =
    let g = c.args.graph.now in
    let op = c.operation-op.result in
    let t = c.args.told in
    let rules = c.entries_keep_their_rules.ensures.operation g c.args.i op c.len-count.ensures.rules.part c.operation-op.ensures in
    let cut = is_cut op t.stops c.both_hold-by_range.result c.both_hold-by_zero.result c.can_leave-leaves.result c.divides-is_division.result
    c.can_leave-leaves.ensures c.divides-is_division.ensures c.both_hold-by_range.ensures c.both_hold-by_zero.ensures in
    record {
      tells = λ held row vs other there tells.
          let same = same_Some op other (sym c.operation-op.ensures ∙ there) in
          let told : Tells held row vs op t = subst (λ o. Tells held row vs o t) (sym same) tells in
          subst (λ o. Tells held row vs o (record { range = c.in_type-range.result; stops = record { range = c.both_hold-by_range.result; div_zero = c.both_hold-by_zero.result } })) same
          (cut_tells c.operands_are_in_their_types.ensures _ _ _ op rules held row vs t c.in_type-range.result _ c.in_type-range.ensures.holds cut told);
      able = λ other why there may.
          let same = same_Some op other (sym c.operation-op.ensures ∙ there) in
          subst (λ o. can_stop_so why o ≡ true) same (cut_can op t.stops _ cut why may);
      types = λ other there.
          let same = same_Some op other (sym c.operation-op.ensures ∙ there) in
          subst (λ o. LiesIn o.ty c.in_type-range.result) same c.in_type-range.ensures.lies;
    }
