use Rattle.std.proofs.Common.{◌<◌, ◌≤◌, ℕ, inl, inr, refl, subst, ◌∙◌}
use Rattle.vcp_typed.specs.SourceRun.{Program}
use Rattle.vcp_typed.specs.TStmtViews.{tstmt_trees}
use Rattle.il_front.specs.Accumulator.{Il}
use Rattle.il_front.proofs.CodeSize.{many_statements}
use Rattle.il_front.proofs.Built.{parts_are, slots_are, few_slots, many_slots, small_size, large_size}
use Rattle.il_front.proofs.reading.built.Goals as goal

pub returns-then-len-clause-err : goal.returns-then-len-clause-err
returns-then-len-clause-err c =
    let i : Il = record { slots = c.args.slots.now.items.items; code = c.args.code.now } in
    let s = c.add_all_hidden.new.slots.items.items in
    inr (inl (
      refl,
      many_slots i s (slots_are i c.places_of-places.result s c.places_of-places.ensures.used (c.add_all_hidden.ensures.is c.if-full.false))
          (subst (λ (n : ℕ). 1024 < n) c.len-2.ensures c.if-len.true),
    ))

pub returns-then-code-clause-err : goal.returns-then-code-clause-err
returns-then-code-clause-err c =
    let i : Il = record { slots = c.args.slots.now.items.items; code = c.args.code.now } in
    let s = c.add_all_hidden.new.slots.items.items in
    inr (inr (
      refl,
      few_slots i s (slots_are i c.places_of-places.result s c.places_of-places.ensures.used (c.add_all_hidden.ensures.is c.if-full.false))
          (subst (λ (n : ℕ). n ≤ 1024) c.len-2.ensures c.if-len.false),
      many_statements i c.if-code.true,
    ))

pub returns-then-size_of-gt-MOST_SIZE-clause-err : goal.returns-then-size_of-gt-MOST_SIZE-clause-err
returns-then-size_of-gt-MOST_SIZE-clause-err c =
    let i : Il = record { slots = c.args.slots.now.items.items; code = c.args.code.now } in
    let s = c.add_all_hidden.new.slots.items.items in
    let b = tstmt_trees c.statements-body.result.items.items in
    let p : Program = record { slots = s; body = b } in
    inr (inr (
      refl,
      few_slots i s (slots_are i c.places_of-places.result s c.places_of-places.ensures.used (c.add_all_hidden.ensures.is c.if-full.false))
          (subst (λ (n : ℕ). n ≤ 1024) c.len-2.ensures c.if-len.false),
      large_size i p c.size_of.result
          (parts_are i c.places_of-places.result s b (c.places_of-places.ensures.declared ∙ c.len.ensures) c.places_of-places.ensures.used
          (c.add_all_hidden.ensures.is c.if-full.false) (c.statements-body.ensures.is c.if-full-2.false))
          c.size_of.ensures c.if-size_of-gt-MOST_SIZE.true,
    ))

pub returns-clause-ok : goal.returns-clause-ok
returns-clause-ok c =
    let i : Il = record { slots = c.args.slots.now.items.items; code = c.args.code.now } in
    let s = c.add_all_hidden.new.slots.items.items in
    let b = tstmt_trees c.statements-body.result.items.items in
    let p : Program = record { slots = s; body = b } in
    let is = parts_are i c.places_of-places.result s b (c.places_of-places.ensures.declared ∙ c.len.ensures) c.places_of-places.ensures.used
    (c.add_all_hidden.ensures.is c.if-full.false) (c.statements-body.ensures.is c.if-full-2.false) in
    record {
      is = is;
      few = few_slots i s (slots_are i c.places_of-places.result s c.places_of-places.ensures.used (c.add_all_hidden.ensures.is c.if-full.false))
          (subst (λ (n : ℕ). n ≤ 1024) c.len-2.ensures c.if-len.false);
      room = small_size i p c.size_of.result is c.size_of.ensures c.if-size_of-gt-MOST_SIZE.false;
    }
