use Rattle.std.proofs.Common.{◌≡◌, ◌⊎◌, ⊎_elim, inl, inr, ◌+◌, ◌≤◌, ◌||◌, Bool, true, false, refl, sym, ◌∙◌, arith}
use Rattle.std.proofs.lemmas.Option.{slice_get_within}
use Rattle.op_graph.specs.Lists.{cells}
use Rattle.fault_cover.specs.Walks.{missing}
use Rattle.fault_cover.proofs.Cells.{load_inside, store_inside}
use Rattle.fault_cover.proofs.Crossing.{all_done, crossed_swept, crossed_done, crossed_found, crossed_within, crossed_none, crossed_most, crossed_less}
use Rattle.fault_cover.proofs.Sweeping.{swept_none}
use Rattle.fault_cover.proofs.nearest.cross_all.Goals as goal

neither : (a b : Bool) → (a || b) ≡ false → (a ≡ false) × (b ≡ false)
neither false b e = (refl, e)
neither true b e = absurd cc

one_of : (a b : Bool) → (a || b) ≡ true → (a ≡ true) ⊎ (b ≡ true)
one_of true b e = inl refl
one_of false b e = inr e

pub cells-init : goal.cells-init
cells-init c = record {
  many = c.requires.count;
  swept = swept_none (c.args.borders + 1) c.args.found.now;
  done = λ j d lt there. absurd (omega (arith, lt));
  found = λ wanted are. are;
  within = λ k n e. let few = c.requires.within k n e in omega (arith, few);
  none = λ no k. refl;
  most = let same : missing c.args.graph.now c.args.found.now ≤ missing c.args.graph.now c.args.found.now = omega arith in same;
  fewer = λ yes. absurd cc;
}

pub cross-first-requires-clause-store : goal.cross-first-requires-clause-store
cross-first-requires-clause-store c =
    let inside = store_inside c.args.graph.now c.cells.i c.cell.result c.entries_keep_their_rules.ensures c.requires.graph.part c.cell.ensures in
    omega (arith, inside, c.cells.invariant.many)

pub cross-first-requires-clause-load : goal.cross-first-requires-clause-load
cross-first-requires-clause-load c =
    let inside = load_inside c.args.graph.now c.cells.i c.cell.result c.entries_keep_their_rules.ensures c.requires.graph.part c.cell.ensures in
    omega (arith, inside, c.cells.invariant.many)

pub cells-preserved : goal.cells-preserved
cells-preserved c =
    let g = c.args.graph.now in
    let b = c.args.borders in
    let first = c.args.found.now in
    let old = c.cells.found in
    let new = c.cross-first.new.found in
    let cell = c.cell.result in
    let i = c.cells.i in
    let there = c.cell.ensures in
    let v = c.cells.invariant in
    let e = c.cross-first.ensures in
    let within = c.requires.within in
    let closed = c.requires.crosses in
    let most = crossed_most g b first old new cell i there within closed v.swept e.here e.other in
    record {
      many = e.many ∙ v.many;
      swept = crossed_swept g b first old new cell i there within closed v.swept e.here e.other;
      done = crossed_done g b first old new cell i there within closed v.swept e.here e.other v.done;
      found = λ wanted are. crossed_found g b first old new cell i there within closed v.swept e.here e.other wanted are (v.found wanted are);
      within = crossed_within g b first old new cell i there within closed v.swept e.here e.other v.within;
      none = λ no.
          let both = neither c.cells.more c.cross-first.result (sym c.either_holds-more.ensures ∙ no) in
          crossed_none g b first old new cell i there within closed v.swept e.here e.other (v.none both.0) (sym e.first ∙ both.1);
      most = let le = v.most in omega (arith, most, le);
      fewer = λ yes. ⊎_elim
          (λ (h : c.cells.more ≡ true). let less = v.fewer h in omega (arith, most, less))
          (λ (h : c.cross-first.result ≡ true).
          let less = crossed_less g b first old new cell i there within closed v.swept e.here e.other (sym e.first ∙ h) in
          let le = v.most in
          omega (arith, less, le))
          (one_of c.cells.more c.cross-first.result (sym c.either_holds-more.ensures ∙ yes));
    }

pub returns-clause-crosses : goal.returns-clause-crosses
returns-clause-crosses c =
    let g = c.args.graph.now in
    all_done g c.args.borders c.args.found.now c.cells.found c.cells.invariant.swept (λ j d there.
    let inside = slice_get_within (cells g) j d there in
    c.cells.invariant.done j d (omega (arith, inside, c.cells-test.false, c.cells-i-end.ensures.count)) there)
