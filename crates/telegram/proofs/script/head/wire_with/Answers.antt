use Rattle.std.proofs.Common.{sym}
use Rattle.vcp_base.specs.Limits.{seeds, most_step, most_cycles}
use Rattle.telegram.specs.Sendings.{most_senders}
use Rattle.telegram.proofs.InRange.{between_is, below_is, no_senders, no_listen, no_age, no_seed, no_step, all_five}
use Rattle.telegram.proofs.script.head.wire_with.Goals as goal

pub returns-in_default : goal.returns-in_default
returns-in_default c =
    let senders = between_is 1 most_senders c.args.senders _ _ c.ranges.senders c.number_between.ensures.number c.in_default.is in
    record { wire = sym (no_senders c.args.senders c.args.listen c.args.age c.args.seed c.args.step senders); fits = tt }

pub returns-in_default-number_below : goal.returns-in_default-number_below
returns-in_default-number_below c =
    let senders = between_is 1 most_senders c.args.senders _ _ c.ranges.senders c.number_between.ensures.number c.in-Some.is in
    let listen = below_is c.in-Some.senders c.args.listen _ _ c.ranges.listen c.number_below.ensures.number c.in_default-number_below.is in
    record { wire = sym (no_listen c.args.senders c.args.listen c.args.age c.args.seed c.args.step _ senders listen); fits = tt }

pub returns-in_default-number_below-2 : goal.returns-in_default-number_below-2
returns-in_default-number_below-2 c =
    let senders = between_is 1 most_senders c.args.senders _ _ c.ranges.senders c.number_between.ensures.number c.in-Some.is in
    let listen = below_is c.in-Some.senders c.args.listen _ _ c.ranges.listen c.number_below.ensures.number c.in-Some-number_below.is in
    let age = below_is most_cycles c.args.age _ _ c.ranges.age c.number_below-2.ensures.number c.in_default-number_below-2.is in
    record { wire = sym (no_age c.args.senders c.args.listen c.args.age c.args.seed c.args.step _ _ senders listen age); fits = tt }

pub returns-in_default-number_below-3 : goal.returns-in_default-number_below-3
returns-in_default-number_below-3 c =
    let senders = between_is 1 most_senders c.args.senders _ _ c.ranges.senders c.number_between.ensures.number c.in-Some.is in
    let listen = below_is c.in-Some.senders c.args.listen _ _ c.ranges.listen c.number_below.ensures.number c.in-Some-number_below.is in
    let age = below_is most_cycles c.args.age _ _ c.ranges.age c.number_below-2.ensures.number c.in-Some-number_below-2.is in
    let seed = below_is seeds c.args.seed _ _ c.ranges.seed c.number_below-3.ensures.number c.in_default-number_below-3.is in
    record { wire = sym (no_seed c.args.senders c.args.listen c.args.age c.args.seed c.args.step _ _ _ senders listen age seed); fits = tt }

pub returns-in_default-number_between : goal.returns-in_default-number_between
returns-in_default-number_between c =
    let senders = between_is 1 most_senders c.args.senders _ _ c.ranges.senders c.number_between.ensures.number c.in-Some.is in
    let listen = below_is c.in-Some.senders c.args.listen _ _ c.ranges.listen c.number_below.ensures.number c.in-Some-number_below.is in
    let age = below_is most_cycles c.args.age _ _ c.ranges.age c.number_below-2.ensures.number c.in-Some-number_below-2.is in
    let seed = below_is seeds c.args.seed _ _ c.ranges.seed c.number_below-3.ensures.number c.in-Some-number_below-3.is in
    let step = between_is 1 most_step c.args.step _ _ c.ranges.step c.number_between-2.ensures.number c.in_default-number_between.is in
    record { wire = sym (no_step c.args.senders c.args.listen c.args.age c.args.seed c.args.step _ _ _ _ senders listen age seed step); fits = tt }

pub returns : goal.returns
returns c =
    let senders = between_is 1 most_senders c.args.senders _ _ c.ranges.senders c.number_between.ensures.number c.in-Some.is in
    let listen = below_is c.in-Some.senders c.args.listen _ _ c.ranges.listen c.number_below.ensures.number c.in-Some-number_below.is in
    let age = below_is most_cycles c.args.age _ _ c.ranges.age c.number_below-2.ensures.number c.in-Some-number_below-2.is in
    let seed = below_is seeds c.args.seed _ _ c.ranges.seed c.number_below-3.ensures.number c.in-Some-number_below-3.is in
    let step = between_is 1 most_step c.args.step _ _ c.ranges.step c.number_between-2.ensures.number c.in-Some-number_between.is in
    record {
      wire = sym (all_five c.args.senders c.args.listen c.args.age c.args.seed c.args.step _ _ _ _ _ senders listen age seed step);
      fits = record {
        senders = c.in-Some.ensures.most;
        listen = c.in-Some-number_below.ensures.below;
        seed = c.in-Some-number_below-3.ensures.below;
        step_from = c.in-Some-number_between.ensures.least;
        step_to = c.in-Some-number_between.ensures.most;
      };
    }
