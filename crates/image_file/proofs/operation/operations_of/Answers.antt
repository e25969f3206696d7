use Rattle.std.proofs.Common.{◌≡◌, ◌∙◌, ℕ, List, length, Ok, arith, refl, sym, ap, subst}
use Rattle.std.proofs.lemmas.List.{length_push}
use Rattle.op_graph.specs.declared.op.Op.{Op}
use Rattle.op_graph.specs.Rules.{place_of}
use Rattle.op_graph.specs.declared.rules.Place.{Place}
use Rattle.image_file.specs.Image.{Said, op_by, op_piece}
use Rattle.image_file.specs.Readings.{GoesOn}
use Rattle.image_file.specs.Views.{said_of}
use Rattle.image_file.proofs.Loop.{one_more, is_done}
use Rattle.image_file.proofs.Chains.{none_is, stopped}
use Rattle.image_file.proofs.operation.operations_of.Goals as goal

pub place-place-requires-clause-rising : goal.place-place-requires-clause-rising
place-place-requires-clause-rising c =
    c.requires.rising (c.entries.invariant.0.before (none_is c.entries.bytes.fault (sym c.is_some.ensures ∙ c.if-is_some.false)))

pub op_of-entry-requires-clause-few : goal.op_of-entry-requires-clause-few
op_of-entry-requires-clause-few c =
    let len = c.entries.invariant.1 (none_is c.entries.bytes.fault (sym c.is_some.ensures ∙ c.if-is_some.false)) in
    rw c.deref.ensures.value (omega (arith, len, c.requires.few, c.entries-test.true))

pub entries-preserved : goal.entries-preserved
entries-preserved c =
    let s : Said = said_of c.args.s.now in
    let len = c.entries.invariant.1 (none_is c.entries.bytes.fault (sym c.is_some.ensures ∙ c.if-is_some.false)) in
    let here : c.place-place.result ≡ place_of s.scope (length c.entries.found.items) = c.place-place.ensures.place ∙ ap (place_of s.scope) (sym len) in
    let known = subst (λ (b : List Op). GoesOn {B = Op × List ℕ} c.entries.bytes.fault c.op_of-entry.new.bytes.fault
    ((op_by c.place-place.result s b).read c.entries.bytes.left.now)
    (Ok (c.op_of-entry.result, c.op_of-entry.new.bytes.left.now))) c.deref.ensures.value c.op_of-entry.ensures in
    let reads = subst (λ (q : Place). GoesOn {B = Op × List ℕ} c.entries.bytes.fault c.op_of-entry.new.bytes.fault
    ((op_by q s c.entries.found.items).read c.entries.bytes.left.now)
    (Ok (c.op_of-entry.result, c.op_of-entry.new.bytes.left.now))) here known in
    let more = length_push c.entries.found.items c.op_of-entry.result in (
      one_more (λ b. (op_piece s b).read) c.entries.found.items c.entries.found.items _ c.args.count c.entries.i c.op_of-entry.result
          c.entries.invariant.0 c.entries-test.true refl reads c.push.ensures.keeps c.push.ensures.pushed,
      λ o. rw (c.push.ensures.pushed o) (omega (arith, len, more)),
      c.place-place.ensures.past,
    )

pub returns-then-is_some : goal.returns-then-is_some
returns-then-is_some c = stopped c.entries.invariant.0 (sym c.is_some.ensures ∙ c.if-is_some.true)

pub returns : goal.returns
returns c =
    is_done (λ b. (op_piece (said_of c.args.s.now) b).read) c.entries.found.items c.args.count c.entries.i (omega (arith, c.entries-test)) c.entries.invariant.0
