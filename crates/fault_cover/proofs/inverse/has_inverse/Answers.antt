use Rattle.std.proofs.Common.{arith, subst}
use Rattle.std.proofs.lemmas.Int.{ints}
use Rattle.fault_cover.specs.Euclid.{IsBezout}
use Rattle.fault_cover.proofs.Dividing.{constant_comes, inverse_found, inverse_none}
use Rattle.fault_cover.proofs.inverse.has_inverse.Goals as goal

pub returns-clause-yes : goal.returns-clause-yes
returns-clause-yes c = λ tried.
    let tried_is = c.product.ensures in
    inverse_found c.args.profile (c.words_split_in_one_way.ensures c.args.profile) c.args.z c.divided-found.result.factor c.remainder.result _
    c.remainder.ensures.value (omega (arith, ints, tried_is.value, tried_is.low, tried_is.high)) tried

pub returns-clause-no : goal.returns-clause-no
returns-clause-no c = λ tried.
    let tried_is = c.product.ensures in
    inverse_none c.args.profile (c.words_split_in_one_way.ensures c.args.profile) c.args.z c.divided-found.result.factor c.divided-found.result.divisor
    c.remainder.result _
    (subst (λ n. IsBezout c.args.profile c.args.z n c.args.z c.divided-found.result.divisor c.divided-found.result.factor) c.modulus.ensures.value
    c.divided-found.ensures.bezout)
    c.remainder.ensures.value (omega (arith, ints, tried_is.value, tried_is.low, tried_is.high)) tried

pub divided-found-requires-clause-first : goal.divided-found-requires-clause-first
divided-found-requires-clause-first c =
    constant_comes c.args.profile (c.words_split_in_one_way.ensures c.args.profile) c.args.z c.modulus.result c.modulus.ensures.value
