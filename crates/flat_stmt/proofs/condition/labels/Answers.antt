use Rattle.std.proofs.Common.{arith, subst, take}
use Rattle.std.proofs.lemmas.List.{take_all}
use Rattle.std.proofs.lemmas.List.Elements.{All-get_or}
use Rattle.vcp_base.specs.declared.ty.Ty.TheVariants as type_of
use Rattle.vcp_typed.specs.Checked.{IsLabel}
use Rattle.std.specs.Prelude.{sum_by}
use Rattle.vcp_typed.specs.Size.{label_size}
use Rattle.flat_expr.specs.State.{Makes, reserved}
use Rattle.flat_stmt.specs.Conditions.{any_labelled}
use Rattle.flat_stmt.proofs.Conditions.{first_label, next_label, label_sum_fits, first_fits}
use Rattle.flat_stmt.proofs.Rooms.{handed_on, none_more}
use Rattle.flat_stmt.proofs.Statements.{admitted_later}
use Rattle.flat_stmt.proofs.condition.labels.Goals as goal

pub label-requires : goal.label-requires
label-requires c = record {
  number = c.requires.number;
  code = c.requires.code;
  k = c.requires.k;
  label = All-get_or (IsLabel c.args.ty) c.args.labels.now 0 _ c.requires.some c.requires.labels;
}

pub label_too-requires : goal.label_too-requires
label_too-requires c =
    let made = c.rest.invariant.made in record {
      number = c.requires.number;
      code = admitted_later c.args.flat.now c.rest.flat c.args.ty made.follows.profile c.requires.code;
      k = made.follows.typed c.args.ty c.args.k c.requires.k;
      so_far = made.place;
      label = All-get_or (IsLabel c.args.ty) c.args.labels.now c.rest.i _ c.rest-test.true c.requires.labels;
    }

pub rest-init : goal.rest-init
rest-init c = record {
  made = first_label c.laws_of_states.ensures c.args.flat.now c.label.new.flat c.args.k c.in_ok-so_far.so_far c.args.labels.now _ c.requires.some c.in_ok-so_far.ensures;
  inside = omega (arith, c.requires.some);
}

pub returns-in_err-so_far : goal.returns-in_err-so_far
returns-in_err-so_far c =
    handed_on _ _ c.args.flat.now c.args.flat.now 0 _ (sum_by label_size c.args.labels.now) c.label.result c.from_residual.result _
    c.in_err-so_far.was c.from_residual.ensures.1 (none_more (reserved c.args.flat.now)) (first_fits c.args.labels.now _ c.requires.some) c.label.ensures

pub returns-in_err-so_far-2 : goal.returns-in_err-so_far-2
returns-in_err-so_far-2 c =
    handed_on _ _ c.args.flat.now c.rest.flat (sum_by label_size (take c.rest.i c.args.labels.now)) _ (sum_by label_size c.args.labels.now)
    c.label_too.result c.from_residual-in_err-so_far-2.result _ c.in_err-so_far-2.was c.from_residual-in_err-so_far-2.ensures.1
    c.rest.invariant.made.count (label_sum_fits c.args.labels.now c.rest.i _ (omega (arith, c.rest-test.true))) c.label_too.ensures

pub rest-preserved : goal.rest-preserved
rest-preserved c = record {
  made = next_label c.laws_of_states.ensures c.args.flat.now c.rest.flat c.label_too.new.flat c.args.ty c.args.k c.rest.so_far c.in_ok-so_far-2.so_far c.args.labels.now c.rest.i _ (omega (arith, c.rest-test.true)) c.requires.k c.rest.invariant.made c.in_ok-so_far-2.ensures;
  inside = omega (arith, c.rest-test.true);
}

pub returns : goal.returns
returns c =
    let all = take_all c.rest.i c.args.labels.now c.rest-test.false in
    subst
    (λ ls. Makes c.args.flat.now c.rest.flat type_of.Bool (sum_by label_size ls) (any_labelled c.args.k ls) c.rest.so_far) all c.rest.invariant.made
