use Rattle.std.proofs.Common.{◌≡◌, length, refl, sym, rules}
use Rattle.vcp_outside.proofs.Gathering.{written_at_once, grown, gathered_more, same_after, fails_on, no_room}
use Rattle.vcp_outside.proofs.line.Line.text.Goals as goal

pub returns-then-not-append-clause-gathers : goal.returns-then-not-append-clause-gathers
returns-then-not-append-clause-gathers g c start before text is =
    let unfit : c.append.new.self ≡ c.self.inside.pending = c.append.ensures.stays c.if-append.false in
    let too_long : c.append-2.new.self ≡ c.self-2.inside.pending = search rules in
    let opened = rw (← c.self.view_is) at is in
    let kept = rw (← unfit) at opened in
    let flushed = rw (← c.self-2.view_is) at (c.flush.ensures.gathers start before text kept) in
    let none = rw (← c.self-2.view_is) at c.flush.ensures.empty in
    written_at_once _ _ _ _ _ _ _ _ _ _ _ flushed none (rw too_long none) (c.then-self-inside.ensures.writes start before)

pub returns-else-not-append : goal.returns-else-not-append
returns-else-not-append g c = search rules

pub look_again-requires-clause-place : goal.look_again-requires-clause-place
look_again-requires-clause-place g c = c.len-at.ensures.bound

pub look_again-requires-clause-piece : goal.look_again-requires-clause-piece
look_again-requires-clause-piece g c fits =
    record { front = c.self.inside.pending; place = sym c.len-at.ensures.value; joined = c.append.ensures.there c.if-append.true }

pub returns-then-append-clause-gathers : goal.returns-then-append-clause-gathers
returns-then-append-clause-gathers g c =
    gathered_more c.args.bytes.now (grown _ c.args.bytes.now c.self.view_is c.look_again.ensures (c.append.ensures.there c.if-append.true))

pub returns-then-append-clause-unwritten : goal.returns-then-append-clause-unwritten
returns-then-append-clause-unwritten g c fits = refl

pub returns-then-append-clause-kept : goal.returns-then-append-clause-kept
returns-then-append-clause-kept g c fits = grown _ c.args.bytes.now c.self.view_is c.look_again.ensures (c.append.ensures.there c.if-append.true)

pub returns-then-append-clause-after_failure : goal.returns-then-append-clause-after_failure
returns-then-append-clause-after_failure g c = same_after c.args.self.now.so_far c.args.out.now

pub returns-then-append-clause-stays_failed : goal.returns-then-append-clause-stays_failed
returns-then-append-clause-stays_failed g c =
    fails_on c.args.self.now c.args.bytes.now (grown _ c.args.bytes.now c.self.view_is c.look_again.ensures (c.append.ensures.there c.if-append.true))

pub returns-then-not-append-clause-unwritten : goal.returns-then-not-append-clause-unwritten
returns-then-not-append-clause-unwritten g c fits =
    absurd (no_room (length c.args.bytes.now) _ c.append.result c.self.view_is c.append.ensures.fits c.if-append.false fits)

pub returns-then-not-append-clause-kept : goal.returns-then-not-append-clause-kept
returns-then-not-append-clause-kept g c fits =
    absurd (no_room (length c.args.bytes.now) _ c.append.result c.self.view_is c.append.ensures.fits c.if-append.false fits)
