use Rattle.std.proofs.Common.{◌+◌, ◌*◌, ◌≤◌, List, ℤ, length, Some, take, drop, sym, ap, subst, ◌∙◌}
use Rattle.input_rows.proofs.Flat.{row_of_list, width_is}
use Rattle.input_rows.proofs.row_list.RowList.get.Goals as goal

pub copy_row-requires : goal.copy_row-requires
copy_row-requires c =
    let s = c.self.inside in
    let row = row_of_list c.args.self.now s.count s.width s.values.items c.args.i c.self.view_is c.self.invariant c.requires.there in
    record {
      width = sym (width_is c.args.self.now s.count s.width s.values.items c.args.i
          (length c.args.out.now) c.self.view_is c.self.invariant c.requires.there c.requires.width);
      there = subst (λ (vs : List ℤ). c.args.i * s.width + s.width ≤ length vs) (sym c.deref.ensures.value) row.within;
    }

pub returns : goal.returns
returns c =
    let s = c.self.inside in
    let row = row_of_list c.args.self.now s.count s.width s.values.items c.args.i c.self.view_is c.self.invariant c.requires.there in
    row.there ∙ ap (λ (r : List ℤ). Some r) (sym (c.copy_row.ensures ∙ ap (λ (vs : List ℤ). take s.width (drop (c.args.i * s.width) vs)) c.deref.ensures.value))
