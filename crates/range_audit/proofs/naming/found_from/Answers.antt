use Rattle.std.proofs.Common.{◌≡◌, ℕ, length, slice_get, Some, below_more, sym, ap, subst, ◌∙◌, arith}
use Rattle.std.proofs.lemmas.Option.{slice_get_within, same_Some}
use Rattle.range_audit.specs.Searching.{Box, IsInBox, IsFound}
use Rattle.range_audit.proofs.naming.found_from.Goals as goal

pub boxes-preserved : goal.boxes-preserved
boxes-preserved c =
    let g = c.args.graph.now in
    let boxes = c.args.boxes.now.list.items in
    let at = c.at.ensures in
    let many = length g.stores in
    let i = c.boxes.invariant in
    let new = c.in_ok-more.more in
    let P : ℕ → Type 0 = λ j. (b : Box) → slice_get boxes j ≡ Some b → IsFound g.operations c.args.inputs.now (IsInBox many b.items) new in
    record {
      known = c.in_ok-more.ensures.known;
      stops = c.in_ok-more.ensures.stops;
      found = below_more P c.boxes.k
          (λ j lt b at_j. record {
            fits = λ held row vs inside row_in given. c.in_ok-more.ensures.fits vs ((i.found j lt b at_j).fits held row vs inside row_in given);
            names = λ held row vs op why inside row_in given there own no e.
                c.in_ok-more.ensures.named why (length vs) ((i.found j lt b at_j).names held row vs op why inside row_in given there own no e);
          })
          (λ b there.
          let same = ap (λ (v : Box). v.items) (same_Some at.0 b (sym at.1 ∙ there)) in
          subst (λ rs. IsFound g.operations c.args.inputs.now (IsInBox many rs) new) (sym at.2 ∙ same) c.in_ok-more.ensures.here);
    }

pub returns : goal.returns
returns c =
    let all = c.boxes.invariant in
    record {
      known = all.known;
      stops = all.stops;
      found = record {
        fits = λ held row vs inside row_in given.
            let lt = slice_get_within c.args.boxes.now.list.items inside.0 inside.1 inside.2 in
            (all.found inside.0 (omega (arith, lt, c.boxes-test.false, c.boxes.auto.k-end, c.len-k-end.ensures)) inside.1 inside.2).fits held row vs inside.3 row_in given;
        names = λ held row vs op why inside row_in given there own no e.
            let lt = slice_get_within c.args.boxes.now.list.items inside.0 inside.1 inside.2 in
            let at_box = all.found inside.0 (omega (arith, lt, c.boxes-test.false, c.boxes.auto.k-end, c.len-k-end.ensures)) inside.1 inside.2 in
            at_box.names held row vs op why inside.3 row_in given there own no e;
      };
    }
