use Rattle.std.proofs.Common.{◌≡◌, ◌-◌, true, false, ◌&&◌, not, codes, bytes_eq, sym, arith}
use Rattle.vcp_base.specs.Limits.{most_step}
use Rattle.vcp_inputs.proofs.CodeWords.{code_by_options, from_least, no_option, not_both, not_free, seed_next, step_next}
use Rattle.vcp_inputs.proofs.words.words_left.CommandWords.code.Goals as goal
use Rattle.vcp_inputs.proofs.words.words_left.CommandWords.code.Goals.{else-not-has_seed-via-then-not-has_seed+else-same_bytes, else-not-has_seed-via-else-not-has_seed}
use Rattle.vcp_inputs.proofs.words.words_left.CommandWords.code.Goals.{else-not-has_step-via-then-not-has_step+else-same_bytes-2, else-not-has_step-via-else-not-has_step}

pub options-init : goal.options-init
options-init c = record { left = code_by_options c.args.self.now; seed = omega arith; step_from = omega arith; step_to = omega arith }

-- ---- `--seed`

pub options-preserved-then-same_bytes : goal.options-preserved-then-same_bytes
options-preserved-then-same_bytes c =
    let free : c.options.has_seed ≡ false = c.if-not-has_seed.true in
    let is : bytes_eq c.in-Some.option.now (codes "--seed") ≡ true = cc in
    record {
      left = seed_next _ c.options.has_seed c.options.has_step c.options.seed c.options.step c.options.self c.next.new.self c.in-Some.option.now _
          c.options.invariant.left c.in-Some.ensures.some free is c.in-Some-number.ensures.number;
      seed = omega (arith, c.in-Some-number.ensures.most);
      step_from = c.options.invariant.step_from;
      step_to = c.options.invariant.step_to;
    }

pub returns-in_default-number-clause-code : goal.returns-in_default-number-clause-code
returns-in_default-number-clause-code c =
    let free : c.options.has_seed ≡ false = c.if-not-has_seed.true in
    let is : bytes_eq c.in-Some.option.now (codes "--seed") ≡ true = cc in
    sym (seed_next _ c.options.has_seed c.options.has_step c.options.seed c.options.step c.options.self c.next.new.self c.in-Some.option.now _
    c.options.invariant.left c.in-Some.ensures.some free is c.in_default-number.ensures.number)

-- ---- `--step`

pub options-preserved : goal.options-preserved
options-preserved c =
    let other : (not c.options.has_seed && bytes_eq c.in-Some.option.now (codes "--seed")) ≡ false = elim c.else-not-has_seed.branch [
      | else-not-has_seed-via-then-not-has_seed+else-same_bytes w ↦ let here : bytes_eq c.in-Some.option.now (codes "--seed") ≡ false = cc in
          not_both (not c.options.has_seed) (bytes_eq c.in-Some.option.now (codes "--seed")) here
      | else-not-has_seed-via-else-not-has_seed w ↦ not_free c.options.has_seed (bytes_eq c.in-Some.option.now (codes "--seed")) w.if-not-has_seed.false
    ] in
    let free : c.options.has_step ≡ false = c.if-not-has_step.true in
    let is : bytes_eq c.in-Some.option.now (codes "--step") ≡ true = cc in
    record {
      left = step_next _ c.options.has_seed c.options.has_step c.options.seed c.options.step c.options.self c.next.new.self c.in-Some.option.now _
          c.options.invariant.left c.in-Some.ensures.some other free is c.in-Some-number-2.ensures.number;
      seed = c.options.invariant.seed;
      step_from = from_least 1 most_step _ _ c.next.new.self c.in-Some-number-2.ensures.number;
      step_to = c.in-Some-number-2.ensures.most;
    }

pub returns-in_default-number-2-clause-code : goal.returns-in_default-number-2-clause-code
returns-in_default-number-2-clause-code c =
    let other : (not c.options.has_seed && bytes_eq c.in-Some.option.now (codes "--seed")) ≡ false = elim c.else-not-has_seed.branch [
      | else-not-has_seed-via-then-not-has_seed+else-same_bytes w ↦ let here : bytes_eq c.in-Some.option.now (codes "--seed") ≡ false = cc in
          not_both (not c.options.has_seed) (bytes_eq c.in-Some.option.now (codes "--seed")) here
      | else-not-has_seed-via-else-not-has_seed w ↦ not_free c.options.has_seed (bytes_eq c.in-Some.option.now (codes "--seed")) w.if-not-has_seed.false
    ] in
    let free : c.options.has_step ≡ false = c.if-not-has_step.true in
    let is : bytes_eq c.in-Some.option.now (codes "--step") ≡ true = cc in
    sym (step_next _ c.options.has_seed c.options.has_step c.options.seed c.options.step c.options.self c.next.new.self c.in-Some.option.now _
    c.options.invariant.left c.in-Some.ensures.some other free is c.in_default-number-2.ensures.number)

-- ---- neither

pub returns-else-not-has_step-clause-code : goal.returns-else-not-has_step-clause-code
returns-else-not-has_step-clause-code c =
    let other : (not c.options.has_seed && bytes_eq c.in-Some.option.now (codes "--seed")) ≡ false = elim c.else-not-has_seed.branch [
      | else-not-has_seed-via-then-not-has_seed+else-same_bytes w ↦ let here : bytes_eq c.in-Some.option.now (codes "--seed") ≡ false = cc in
          not_both (not c.options.has_seed) (bytes_eq c.in-Some.option.now (codes "--seed")) here
      | else-not-has_seed-via-else-not-has_seed w ↦ not_free c.options.has_seed (bytes_eq c.in-Some.option.now (codes "--seed")) w.if-not-has_seed.false
    ] in
    let neither : (not c.options.has_step && bytes_eq c.in-Some.option.now (codes "--step")) ≡ false = elim c.else-not-has_step.branch [
      | else-not-has_step-via-then-not-has_step+else-same_bytes-2 w ↦ let here : bytes_eq c.in-Some.option.now (codes "--step") ≡ false = cc in
          not_both (not c.options.has_step) (bytes_eq c.in-Some.option.now (codes "--step")) here
      | else-not-has_step-via-else-not-has_step w ↦ not_free c.options.has_step (bytes_eq c.in-Some.option.now (codes "--step")) w.if-not-has_step.false
    ] in
    sym (no_option _ c.options.has_seed c.options.has_step c.options.seed c.options.step c.options.self c.next.new.self c.in-Some.option.now
    c.options.invariant.left c.in-Some.ensures.some other neither)
