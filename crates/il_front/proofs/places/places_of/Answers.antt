use Rattle.il_front.specs.declared.places.Places.{Places}
use Rattle.il_front.proofs.PlaceLaws.{used-same}
use Rattle.il_front.proofs.places.places_of.Goals as goal

pub returns-clause-used : goal.returns-clause-used
returns-clause-used c =
    let p : Places = record {
      declared = c.args.declared;
      bools = c.uses.result;
      ints = c.uses-2.result;
      dints = c.uses-3.result;
      lints = c.uses-4.result;
    } in
    used-same p c.args.code.now c.uses.ensures c.uses-2.ensures c.uses-3.ensures c.uses-4.ensures
