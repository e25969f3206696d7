use Rattle.std.proofs.Common.{◌≤◌, List, [], length, sym, subst, ◌∙◌}
use Rattle.vcp_base.specs.Limits.{most_names}
use Rattle.vcp_typed.specs.declared.slot.Slot.{Slot}
use Rattle.vcp_typed.specs.Checked.{SlotsFit, IsChecked}
use Rattle.il_front.specs.Accumulator.{Il}
use Rattle.il_front.proofs.Whole.{TypingLaws, typed-checked}
use Rattle.il_front.proofs.Built.{listed_code, listed_refuses, limits_refuse, is_il}
use Rattle.il_front.proofs.reading.behind.Goals as goal

pub listed-requires-clause-fit : goal.listed-requires-clause-fit
listed-requires-clause-fit c = subst (λ (ss : List Slot). SlotsFit [] ss) (sym c.slots.ensures.slots) c.slots.ensures.checked.slots

pub listed-requires-clause-few : goal.listed-requires-clause-few
listed-requires-clause-few c = subst (λ (ss : List Slot). length ss ≤ most_names) (sym c.slots.ensures.slots) c.slots.ensures.checked.few

pub built-requires : goal.built-requires
built-requires c = subst (λ (ss : List Slot). length ss ≤ most_names) (sym c.into_slots-slots.ensures) c.slots.ensures.checked.few

pub returns-in-Err-clause-err : goal.returns-in-Err-clause-err
returns-in-Err-clause-err c =
    listed_refuses c.args.text.now c.args.tokens.now.tokens c.args.head c.requires.head c.slots.result.now.items.items c.args.tokens.now.end
    c.head_count.result _
    c.requires.end c.head_count.ensures.count c.slots.ensures.slots c.in-Err.ensures.err

pub returns-clause-err : goal.returns-clause-err
returns-clause-err c =
    let i : Il = record { slots = c.into_slots-slots.result.items.items; code = c.deref.result.now } in
    limits_refuse c.args.text.now c.args.tokens.now.tokens c.args.head c.requires.head i _ c.into_slots-slots.ensures
    (listed_code c.args.text.now c.args.tokens.now.tokens c.args.head c.slots.result.now.items.items i.slots c.args.tokens.now.end c.head_count.result
    c.in-Ok.code.items i.code c.requires.end c.head_count.ensures.count c.slots.ensures.slots c.into_slots-slots.ensures c.deref.ensures.value
    c.in-Ok.ensures.ok)
    c.in-Err-built.ensures.err

pub new-requires : goal.new-requires
new-requires c =
    let i : Il = record { slots = c.into_slots-slots.result.items.items; code = c.deref.result.now } in
    let built = c.in-Ok-built.ensures.ok in
    let laws : TypingLaws = record {
      parts = record { widens_to = c.widened_parts_are_checked.ensures.widened; meets = c.widened_parts_are_checked.ensures.common };
      literal = c.widened_parts_are_checked.ensures.literal;
      keeps = c.faultless_programs_are_checked.ensures.keeps;
      named = c.slots_have_declared_names.ensures;
    } in
    subst IsChecked (sym built.is)
    (typed-checked laws c.args.text.now i
    (is_il c.args.text.now c.args.tokens.now.tokens c.args.head c.requires.head i c.into_slots-slots.ensures
    (listed_code c.args.text.now c.args.tokens.now.tokens c.args.head c.slots.result.now.items.items i.slots c.args.tokens.now.end c.head_count.result
    c.in-Ok.code.items i.code c.requires.end c.head_count.ensures.count c.slots.ensures.slots c.into_slots-slots.ensures c.deref.ensures.value
    c.in-Ok.ensures.ok) built.few built.room)
    c.requires.head.names)

pub returns-in-Ok-built-clause-ok : goal.returns-in-Ok-built-clause-ok
returns-in-Ok-built-clause-ok c =
    let i : Il = record { slots = c.into_slots-slots.result.items.items; code = c.deref.result.now } in
    let built = c.in-Ok-built.ensures.ok in (
      i,
      is_il c.args.text.now c.args.tokens.now.tokens c.args.head c.requires.head i c.into_slots-slots.ensures
          (listed_code c.args.text.now c.args.tokens.now.tokens c.args.head c.slots.result.now.items.items i.slots c.args.tokens.now.end c.head_count.result
          c.in-Ok.code.items i.code c.requires.end c.head_count.ensures.count c.slots.ensures.slots c.into_slots-slots.ensures c.deref.ensures.value
          c.in-Ok.ensures.ok) built.few built.room,
      c.new.ensures ∙ built.is,
    )
