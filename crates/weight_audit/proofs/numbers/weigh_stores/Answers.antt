use Rattle.std.proofs.Common.{◌≡◌, suc, ◌+◌, pos, length, sym, subst, ◌∙◌, arith}
use Rattle.op_graph.specs.Lists.{cells}
use Rattle.weight_audit.specs.Sweeping.{AreResidues}
use Rattle.weight_audit.proofs.Places.{load_inside, store_inside}
use Rattle.weight_audit.proofs.Residues.{are_zeros}
use Rattle.weight_audit.proofs.Sweep.{CrossedUpTo, none_crossed, one_crossed, all_crossed}
use Rattle.weight_audit.proofs.numbers.weigh_stores.Goals as goal

pub cells-init : goal.cells-init
cells-init c =
    let g = c.args.graph.now in
    let p = c.args.profile in
    let count = length g.operations in
    let zeros : AreResidues p count (λ k. pos 0) c.args.numbers.now =
    subst (λ xs. AreResidues p count (λ k. pos 0) xs) (sym c.requires.zeros) (are_zeros p count (c.words_split_in_one_way.ensures p)) in
    record { many = zeros.many; are = λ weights a. none_crossed p count (cells g) weights c.args.numbers.now zeros }

pub cross-requires : goal.cross-requires
cross-requires c = record {
  store = (
      let inside = store_inside c.args.graph.now c.cells.i c.cell.result c.requires.graph.part
      (λ k n part there. c.entries_keep_their_rules.ensures.store c.args.graph.now k n part there) c.cell.ensures in
      omega (arith, inside, c.cells.invariant.many));
  load = (
      let inside = load_inside c.args.graph.now c.cells.i c.cell.result c.requires.graph.part
      (λ k n part there. c.entries_keep_their_rules.ensures.load c.args.graph.now k n part there) c.cell.ensures in
      omega (arith, inside, c.requires.many));
}

pub cells-preserved : goal.cells-preserved
cells-preserved c =
    let g = c.args.graph.now in
    let p = c.args.profile in
    let count = length g.operations in
    let inside = load_inside g c.cells.i c.cell.result c.requires.graph.part
    (λ k n part there. c.entries_keep_their_rules.ensures.load g k n part there) c.cell.ensures in
    record {
      many = c.cross.ensures.many ∙ c.cells.invariant.many;
      are = λ weights a. subst (λ n. CrossedUpTo p count (cells g) weights n c.cross.new.numbers) (let e : suc c.cells.i ≡ c.cells.i + 1 = omega arith in e)
          (one_crossed p count (cells g) weights c.cells.i c.cell.result c.args.later.now c.cells.numbers c.cross.new.numbers
          (c.words_split_in_one_way.ensures p) c.cell.ensures inside a (c.cells.invariant.are weights a) (λ f r. c.cross.ensures.residues count f r));
    }

pub returns-clause-residues : goal.returns-clause-residues
returns-clause-residues c = λ weights a.
    let g = c.args.graph.now in
    all_crossed c.args.profile (length g.operations) (cells g) weights c.cells.i c.cells.numbers
    (omega (arith, c.cells-test.false, c.cells-i-end.ensures.count)) (c.cells.invariant.are weights a)
