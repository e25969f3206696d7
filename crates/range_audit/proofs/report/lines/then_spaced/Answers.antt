use Rattle.std.proofs.Common.{◌≡◌, ◌≢◌, ◌==◌, ℕ, cond, List, [], ◌++◌, length, codes, ap}
use Rattle.std.proofs.lemmas.Bool.{eqb-true, false_from_ne_true}
use Rattle.range_audit.specs.RangeText.{spaced}
use Rattle.range_audit.proofs.report.lines.then_spaced.Goals as goal

-- a name that is there
spaced_some : (name : List ℕ) → length name ≢ 0 → spaced name ≡ codes " " ++ name
spaced_some name some = ap (λ b. cond b [] (codes " " ++ name)) (false_from_ne_true (length name == 0) (λ e. some (eqb-true (length name) 0 e)))

pub returns-then-name-ne0 : goal.returns-then-name-ne0
returns-then-name-ne0 g c = rw (spaced_some c.args.name.now c.if-name-ne0.true) c.texts.ensures
