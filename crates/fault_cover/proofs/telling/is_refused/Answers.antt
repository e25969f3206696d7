use Rattle.std.proofs.Common.{◌≡◌, ◌≢◌, ◌<◌, ⊎_elim, ◌==◌, true, false, pos, slice_get, Some, subst, sym, arith}
use Rattle.std.proofs.lemmas.Bool.Decides.{eqb_tells}
use Rattle.std.proofs.lemmas.Option.{slice_get_within}
use Rattle.vcp_base.specs.Code.{modulus}
use Rattle.fault_cover.specs.Sources.{Refuses, comes}
use Rattle.fault_cover.proofs.Adding.{there_is}
use Rattle.fault_cover.proofs.Dividing.{refuses_back, refuses_of}
use Rattle.fault_cover.proofs.telling.is_refused.Goals as goal

pub refuses-refused-requires : goal.refuses-refused-requires
refuses-refused-requires c = subst (λ q. c.comes-residue.result < modulus q) (sym c.profile.ensures.value) c.comes-residue.ensures.below

pub outputs-init : goal.outputs-init
outputs-init c = λ from is i o low lt there refuses. omega (arith, low, lt)

pub outputs-preserved : goal.outputs-preserved
outputs-preserved c = λ from is i o low lt there refuses. ⊎_elim
    (λ (h : ((i == c.outputs.output) ≡ true) × (i ≡ c.outputs.output)).
    let g = c.args.graph.now in
    let came = c.comes-residue.ensures.value from o is (subst (λ m. slice_get g.outputs m ≡ Some o) h.1 there) in
    let back = refuses_back g.profile (c.words_split_in_one_way.ensures g.profile) c.args.any (comes g o.op c.args.borders from) refuses in
    c.refuses-refused.ensures.no c.if-refused.false (subst (λ q. Refuses q c.args.any (pos c.comes-residue.result)) (sym c.profile.ensures.value)
    (subst (λ n. Refuses g.profile c.args.any (pos n)) (sym came) back)))
    (λ (h : ((i == c.outputs.output) ≡ false) × (i ≢ c.outputs.output)).
    c.outputs.invariant from is i o low (let ne = h.1 in omega (arith, lt, ne)) there refuses)
    (eqb_tells i c.outputs.output)

pub returns-then-refused-clause-yes : goal.returns-then-refused-clause-yes
returns-then-refused-clause-yes c = λ from is yes.
    let g = c.args.graph.now in
    let o = there_is g.outputs c.outputs.output (omega (arith, c.outputs-test.true, c.outputs-output-end.ensures)) in
    let came = c.comes-residue.ensures.value from o.0 is o.1 in
    let refused = subst (λ q. Refuses q c.args.any (pos c.comes-residue.result)) c.profile.ensures.value (c.refuses-refused.ensures.yes c.if-refused.true) in
    record {
      output = c.outputs.output;
      outlet = o.0;
      there = o.1;
      refuses = refuses_of g.profile (c.words_split_in_one_way.ensures g.profile) c.args.any (comes g o.0.op c.args.borders from)
          (subst (λ n. Refuses g.profile c.args.any (pos n)) came refused);
    }

pub returns-clause-no : goal.returns-clause-no
returns-clause-no c = λ from is no i o low there refuses.
    let inside = slice_get_within c.args.graph.now.outputs i o there in
    c.outputs.invariant from is i o low (omega (arith, inside, c.outputs-test.false, c.outputs-output-end.ensures)) there refuses
