use Rattle.std.proofs.Common.{◌+◌, ◌++◌, ◌∷◌, drop, sym, ap, ◌∙◌, refl}
use Rattle.std.proofs.lemmas.Result.{IfOk-from_err}
use Rattle.std.proofs.lemmas.Option.{slice_get-get_or}
use Rattle.fault_cover.specs.Beginnings.{starts_of}
use Rattle.fault_cover.proofs.Gathering.{made_all, made_more, made_none}
use Rattle.fault_cover.proofs.starts.starts_by.Goals as goal

pub readings-init : goal.readings-init
readings-init c =
    let p = c.args.profile in
    let rs = c.args.readings.now in
    ap (λ xs. xs ++ starts_of p (drop 0 rs)) c.new-starts.ensures ∙ made_none (starts_of p) rs

pub readings-preserved : goal.readings-preserved
readings-preserved c =
    let p = c.args.profile in
    let rs = c.args.readings.now in
    let i = c.readings.i in
    ap (λ xs. xs ++ starts_of p (drop (i + 1) rs)) c.in_ok-push.ensures.ok
    ∙ made_more (starts_of p) rs i _ c.start_by.result c.readings.starts _ (slice_get-get_or rs i _ c.readings-test.true)
    (λ more. ap (λ s. s ∷ starts_of p more) (sym c.start_by.ensures)) c.readings.invariant

pub returns : goal.returns
returns c = made_all (starts_of c.args.profile) c.args.readings.now c.readings.i c.readings.starts _ c.readings-test.false refl c.readings.invariant

pub returns-in_err-push : goal.returns-in_err-push
returns-in_err-push c = IfOk-from_err c.from_residual.result _ c.from_residual.ensures.0
