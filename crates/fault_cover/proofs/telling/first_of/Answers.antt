use Rattle.std.proofs.Common.{◌≡◌, ◌≢◌, ⊎_elim, ◌==◌, true, false, ap, sym, subst, ◌∙◌, slice_get, Some, arith}
use Rattle.std.proofs.lemmas.Bool.Decides.{eqb_tells}
use Rattle.std.proofs.lemmas.Option.{slice_get_within}
use Rattle.fault_cover.specs.declared.starts.Start.{Start}
use Rattle.fault_cover.specs.Walks.{further, kept, nearer, NotFurther}
use Rattle.fault_cover.proofs.Nearing.{nearer_either, nearer_first, nearer_second, no_further_through}
use Rattle.fault_cover.proofs.telling.first_of.Goals as goal

one_start : {a b : Start} → Some a ≡ Some b → a ≡ b
one_start e = cc

pub starts-init : goal.starts-init
starts-init c = record {
  reached = λ n e. absurd cc;
  least = λ j s lt there. absurd (omega (arith, lt));
}

pub starts-preserved : goal.starts-preserved
starts-preserved c =
    let found = c.args.found.now in
    let starts = c.args.starts.now in
    let start = c.item-start.result in
    let i = c.starts.i in
    let v = c.starts.invariant in
    let old = c.starts.first in
    let x = further (kept found start.op) start.borders in
    let is : c.nearer-first.result ≡ nearer old x = c.nearer-first.ensures ∙ ap (nearer old) c.first_from.ensures in
    record {
      reached = λ n e. ⊎_elim
          (λ (h : nearer old x ≡ old). v.reached n (sym h ∙ sym is ∙ e))
          (λ (h : nearer old x ≡ x). (i, start, c.item-start.ensures, sym h ∙ sym is ∙ e))
          (nearer_either old x);
      least = λ j s lt there. subst (λ y. NotFurther y (further (kept found s.op) s.borders)) (sym is) (⊎_elim
          (λ (h : ((j == i) ≡ true) × (j ≡ i)).
          subst (λ (y : Start). NotFurther (nearer old x) (further (kept found y.op) y.borders))
          (one_start (sym c.item-start.ensures ∙ subst (λ m. slice_get starts m ≡ Some s) h.1 there)) (nearer_second old x))
          (λ (h : ((j == i) ≡ false) × (j ≢ i)).
          no_further_through (nearer old x) old (further (kept found s.op) s.borders) (nearer_first old x)
          (v.least j s (let ne = h.1 in omega (arith, lt, ne)) there))
          (eqb_tells j i));
    }

pub returns : goal.returns
returns c = record {
  reached = c.starts.invariant.reached;
  least = λ j s there.
      let inside = slice_get_within c.args.starts.now j s there in
      c.starts.invariant.least j s (omega (arith, inside, c.starts-test.false)) there;
}
