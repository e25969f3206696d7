use Rattle.std.proofs.Common.{length, refl, sym, ◌∙◌}
use Rattle.range_audit.proofs.families.with_family.Goals as goal

pub found_by-requires : goal.found_by-requires
found_by-requires c = record {
  stops = c.requires.sound.stops ∙ sym c.requires.sound.known;
  others = c.in-Ok.ensures.known ∙ sym c.requires.sound.known;
  other_stops = c.in-Ok.ensures.stops ∙ sym c.requires.sound.known;
}

pub returns : goal.returns
returns c =
    let g = c.args.graph.now in
    let sound = c.requires.sound in
    let found = c.in-Ok.ensures.found in
    let is = c.in-Ok-found_by.ensures in
    record {
      known = is.known ∙ sound.known;
      stops = is.stops ∙ sound.known;
      found = record {
        fits = λ held row vs at_first row_in given.
            is.fits vs (sound.found.fits held row vs at_first row_in given, found.fits held row vs (c.requires.always held at_first) row_in given);
        names = λ held row vs op why at_first row_in given there own no e.
            is.named why (length vs) (
              sound.found.names held row vs op why at_first row_in given there own no e,
              found.names held row vs op why (c.requires.always held at_first) row_in given there own no e,
            );
      };
      able = λ i op why there may. sound.able i op why there (is.first refl why i may);
      types = is.types refl g.operations sound.types;
    }
