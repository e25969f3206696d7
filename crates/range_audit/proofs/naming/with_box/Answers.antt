use Rattle.std.proofs.Common.{inl, inr, length, sym, ◌∙◌}
use Rattle.range_audit.proofs.Steps.{and_so}
use Rattle.range_audit.proofs.naming.with_box.Goals as goal

pub found_by-requires : goal.found_by-requires
found_by-requires c = record {
  stops = c.requires.stops ∙ sym c.requires.known;
  others = c.in_ok-here.ensures.known ∙ sym c.requires.known;
  other_stops = c.in_ok-here.ensures.stops ∙ sym c.requires.known;
}

pub returns-then-not-has_values : goal.returns-then-not-has_values
returns-then-not-has_values c = record {
  known = c.requires.known;
  stops = c.requires.stops;
  fits = λ vs fit. fit;
  named = λ why i e. e;
  here = record {
    fits = λ held row vs inside row_in given. absurd (c.has_values.ensures.none c.if-not-has_values.true held inside);
    names = λ held row vs op why inside row_in given there own no e. absurd (c.has_values.ensures.none c.if-not-has_values.true held inside);
  };
}

pub returns : goal.returns
returns c = and_so c.found_by.result c.found_by.ensures (λ found more.
    let here = c.in_ok-here.ensures.found in
    record {
      known = more.known ∙ c.requires.known;
      stops = more.stops ∙ c.requires.known;
      fits = λ vs fit. more.fits vs (inl fit);
      named = λ why i e. more.named why i (inl e);
      here = record {
        fits = λ held row vs inside row_in given. more.fits vs (inr (here.fits held row vs inside.1 row_in given));
        names = λ held row vs op why inside row_in given there own no e.
            more.named why (length vs) (inr (here.names held row vs op why inside.1 row_in given there own no e));
      };
    })
