use Rattle.std.proofs.Common.{◌≡◌, Some, None, ap, sym, ◌∙◌, drop, arith}
use Rattle.vcp_study_core.specs.Forms.{names_in, sum_with}
use Rattle.vcp_study_core.specs.SumSteps.{as_behind}
use Rattle.vcp_study_core.proofs.Sums.{sound}
use Rattle.vcp_study_core.proofs.SumWords.{few_names, form_behind, no_parts, some_parts}
use Rattle.vcp_study_core.proofs.words.sum_words.Goals as goal

pub returns-in_default-clause-form : goal.returns-in_default-clause-form
returns-in_default-clause-form c = form_behind c.args.words.now None c.in_default.ensures.behind

pub returns-then-behind-eq0-clause-form : goal.returns-then-behind-eq0-clause-form
returns-then-behind-eq0-clause-form c =
    sym (no_parts c.args.words.now (as_behind c.in-Some.behind) c.if-behind-eq0.true)
    ∙ form_behind c.args.words.now (Some (as_behind c.in-Some.behind)) c.in-Some.ensures.behind

pub returns-clause-form : goal.returns-clause-form
returns-clause-form c =
    let d = as_behind c.in-Some.behind in
    let words = c.args.words.now in
    let names : names_in d.parts (drop 2 c.args.all.now) ≡ names_in d.parts words = ap (names_in d.parts) (sym c.requires) in
    ap Some (ap (λ ns. sum_with ns d.rows) names)
    ∙ (sym (some_parts words d c.if-behind-eq0.false) ∙ form_behind words (Some d) c.in-Some.ensures.behind)

pub returns-clause-sound : goal.returns-clause-sound
returns-clause-sound c =
    let d = c.in-Some.behind in
    let names = names_in d.parts (drop 2 c.args.all.now) in
    sound names d.rows (omega (arith, few_names d.parts (drop 2 c.args.all.now), c.in-Some.ensures.parts)) c.in-Some.ensures.few
