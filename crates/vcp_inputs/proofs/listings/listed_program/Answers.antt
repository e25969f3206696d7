use Rattle.std.proofs.Common.{◌≢◌, rules}
use borrow.Author.Tests.{tests}
use Rattle.il_front.specs.declared.fault.IlFault.TheVariants as il
use Rattle.vcp_inputs.specs.Listings.{no_listing}
use Rattle.vcp_inputs.proofs.Causes.{listing_placed}
use Rattle.vcp_inputs.proofs.listings.listed_program.Goals as goal

pub returns-in-Err-clause-err : goal.returns-in-Err-clause-err
returns-in-Err-clause-err c =
    let other : c.in-Err.fault ≢ il.Memory = search (tests, rules) in
    no_listing c.in-Err.fault other c.in-Err.ensures.err

pub returns-in-Err-clause-caused : goal.returns-in-Err-clause-caused
returns-in-Err-clause-caused c =
    let other : c.in-Err.fault ≢ il.Memory = search (tests, rules) in
    listing_placed c.args.text.now c.in-Err.fault c.in-Err.ensures.err other
