use Rattle.std.proofs.Common.{rules, ◌≡◌, ◌<◌, ◌+◌, List, length, sym, subst, ◌∙◌, arith}
use Rattle.std.specs.Str.Lines.{lines}
use Rattle.vcp_base.specs.Lines.{Line, read_lines}
use Rattle.telegram.specs.declared.event.Event.{Event}
use Rattle.telegram.specs.Reads.{behind}
use Rattle.telegram.specs.ScriptOf.{events_of}
use Rattle.telegram.proofs.Reading.{AreRead, one_event, one_read}
use Rattle.telegram.proofs.script.reader.events.Goals as goal

pub lines-preserved : goal.lines-preserved
lines-preserved c =
    let w = c.args.wire.now in
    let line : Line = record { number = c.in-Some.at; text = c.in-Some.line.now } in
    let begun = c.lines.begun + c.cycles-begun.result in
    let before = read_lines (c.lines.number + 1) (lines c.lines.rest.now) in
    let more = read_lines (c.in-Some.at + 1) (lines c.in-Some.more.now) in
    let after = c.cycles-begun.ensures.after c.lines.begun in
    let some : 0 < length c.lines.rest.now = omega (arith, c.in-Some.ensures.shorter) in
    let room = c.lines.invariant.room some in
    record {
      left =
          subst (λ (es : List Event). events_of w 0 (read_lines (c.args.before + 1) (lines c.args.bytes.now)) ≡ behind es (events_of w begun more))
          (sym c.in-Ok-push.ensures.ok)
          (c.lines.invariant.left
          ∙ one_event w c.lines.begun begun c.lines.events line before more c.in-Ok.event c.in-Some.ensures.some c.in-Ok.ensures.event after);
      read =
          subst (λ (es : List Event). AreRead w es begun) (sym c.in-Ok-push.ensures.ok)
          (one_read w c.lines.events c.in-Ok.event c.lines.begun begun after c.in-Ok.ensures.fits c.lines.invariant.read);
      short = omega (arith, c.in-Some.ensures.number, c.lines.invariant.short);
      few = omega (arith, room, some, c.cycles-begun.ensures.few);
      room = λ left. let feed = c.in-Some.ensures.feed left in omega (arith, room, feed, c.cycles-begun.ensures.few);
    }

pub returns : goal.returns
returns c = search rules
