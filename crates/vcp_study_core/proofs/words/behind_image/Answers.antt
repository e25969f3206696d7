use Rattle.std.proofs.Common.{◌≡◌, ℕ, ◌+◌, ◌-◌, ap, sym, ◌∙◌, arith}
use Rattle.std.specs.Option.{option_map}
use Rattle.verdict_tables.specs.Parts.{most_parts}
use Rattle.vcp_study_core.specs.Forms.{behind_of}
use Rattle.vcp_study_core.specs.SumSteps.{as_behind}
use Rattle.vcp_study_core.proofs.SumWords.{and_before, none_next, ended, goes_on, last_next, none_before}
use Rattle.vcp_study_core.proofs.words.behind_image.Goals as goal

pub parts-init : goal.parts-init
parts-init c = none_before (behind_of most_parts c.args.words.now)

pub parts-preserved : goal.parts-preserved
parts-preserved c =
    c.parts.invariant
    ∙ goes_on (most_parts - c.parts.i) (most_parts - (c.parts.i + 1)) c.parts.i c.parts.words c.next_behind.new.words c.in-Some.next
    (omega (arith, c.parts-test.true)) c.in-Some.ensures.next (c.in-None-ended.ensures.behind c.next_behind.new.words)

pub returns-in-None-clause-behind : goal.returns-in-None-clause-behind
returns-in-None-clause-behind c =
    sym (c.parts.invariant ∙ ap (option_map (and_before c.parts.i)) (none_next (most_parts - c.parts.i) c.parts.words c.in-None.ensures.next))

pub returns-in-Some-ended-clause-behind : goal.returns-in-Some-ended-clause-behind
returns-in-Some-ended-clause-behind c =
    sym (c.parts.invariant
    ∙ ended (most_parts - c.parts.i) c.parts.i c.parts.words c.next_behind.new.words c.in-Some.next (as_behind c.in-Some-ended.behind) c.in-Some.ensures.next
    (c.in-Some-ended.ensures.behind c.next_behind.new.words))

pub returns-in-None-next_behind-clause-behind : goal.returns-in-None-next_behind-clause-behind
returns-in-None-next_behind-clause-behind c =
    sym (c.parts.invariant
    ∙ ap (option_map (and_before c.parts.i)) (none_next (most_parts - c.parts.i) c.parts.words c.in-None-next_behind.ensures.next))

pub returns-in-Some-next_behind-clause-behind : goal.returns-in-Some-next_behind-clause-behind
returns-in-Some-next_behind-clause-behind c =
    let all : c.parts.i ≡ most_parts = omega (arith, c.parts-test.false, c.parts.auto.i-end) in
    let none : most_parts - c.parts.i ≡ 0 = omega (arith, all) in
    let so : behind_of most_parts c.args.words.now ≡ option_map (and_before most_parts) (behind_of 0 c.parts.words) =
    c.parts.invariant ∙ (ap (λ (n : ℕ). option_map (and_before c.parts.i) (behind_of n c.parts.words)) none
    ∙ ap (λ (n : ℕ). option_map (and_before n) (behind_of 0 c.parts.words)) all) in
    sym (so ∙ last_next most_parts c.parts.words c.next_behind-2.new.words c.in-Some-next_behind.last (option_map as_behind c.ended-in-Some-next_behind.result)
    c.in-Some-next_behind.ensures.next (c.ended-in-Some-next_behind.ensures.behind c.next_behind-2.new.words))
