use Rattle.std.proofs.Common.{◌≡◌, true, subst, sym, ◌∙◌, arith}
use Rattle.std.proofs.lemmas.Option.{slice_get_within}
use Rattle.op_graph.specs.Lists.{cells}
use Rattle.weight_audit.specs.Sweeping.{mark}
use Rattle.weight_audit.proofs.Marking.{store_marked, store_sound}
use Rattle.weight_audit.proofs.Places.{load_inside, store_inside}
use Rattle.weight_audit.proofs.marks.mark_stores.Goals as goal

pub cross-requires : goal.cross-requires
cross-requires c = record {
  store = (
      let inside = store_inside c.args.graph.now c.cells.i c.cell.result c.requires.graph.part
      (λ k n part there. c.entries_keep_their_rules.ensures.store c.args.graph.now k n part there) c.cell.ensures in
      omega (arith, inside, c.cells.invariant.many));
  load = (
      let inside = load_inside c.args.graph.now c.cells.i c.cell.result c.requires.graph.part
      (λ k n part there. c.entries_keep_their_rules.ensures.load c.args.graph.now k n part there) c.cell.ensures in
      omega (arith, inside, c.requires.count));
}

pub cells-preserved : goal.cells-preserved
cells-preserved c =
    let held = cells c.args.graph.now in
    let i = c.cells.invariant in
    let e = c.cross.ensures in
    record {
      many = e.many ∙ i.many;
      marked = store_marked held c.cells.i c.cell.result c.args.later.now c.cells.marks c.cross.new.marks c.cell.ensures e.kept e.marked i.marked;
      sound = store_sound held c.cells.i c.cell.result c.args.later.now c.cells.marks c.cross.new.marks c.cell.ensures e.sound i.sound;
    }

pub returns : goal.returns
returns c = record {
  many = c.cells.invariant.many;
  sound = c.cells.invariant.sound;
  marked =
      λ k l crosses later.
      let within = slice_get_within (cells c.args.graph.now) crosses.number crosses.cell crosses.there in
      subst (λ n. mark c.cells.marks n ≡ true) crosses.store
      (c.cells.invariant.marked crosses.number crosses.cell (omega (arith, within, c.cells-test.false, c.cells-i-end.ensures.count)) crosses.there
      (subst (λ n. mark c.args.later.now n ≡ true) (sym crosses.load) later));
}
