use Rattle.std.proofs.Common.{refl, sym, ◌∙◌, arith}
use Rattle.std.proofs.lemmas.Result.{IfOk-weaker}
use Rattle.flat_expr.proofs.Conversions.{wider, others_are_numbers, copied_whole}
use Rattle.flat_expr.proofs.Operators.{copied}
use Rattle.flat_expr.proofs.Refusals.{more_refuses}
use Rattle.flat_expr.proofs.flat.Flat.convert.Goals as goal

pub add-requires : goal.add-requires
add-requires c = record {
  plain = refl;
  types = c.requires.types;
  from = c.requires.from;
  ty = c.requires.to;
  a = c.requires.a;
  b = refl;
  c = refl;
}

pub returns-then-has_all-clause-made : goal.returns-then-has_all-clause-made
returns-then-has_all-clause-made c =
    let all = sym c.has_all.ensures ∙ c.if-has_all.true in
    IfOk-weaker c.add.result _ _ (λ k p.
    copied_whole c.args.self.now c.add.new.self c.args.from c.args.to c.args.a k c.args.spot all c.requires.a
    (copied c.args.self.now c.add.new.self c.args.from c.args.to c.args.a k c.args.spot (wider c.args.from c.args.to all) c.requires.a p)) c.add.ensures.made

pub returns-then-has_all-clause-refuses : goal.returns-then-has_all-clause-refuses
returns-then-has_all-clause-refuses c = more_refuses c.args.self.now c.add.new.self 1 2 c.add.result (omega arith) c.add.ensures.refuses

pub narrow-requires : goal.narrow-requires
narrow-requires c = record {
  types = c.requires.types;
  number = others_are_numbers c.args.from c.args.to (sym c.has_all.ensures ∙ c.if-has_all.false);
  from = c.requires.from;
  to = c.requires.to;
  a = c.requires.a;
}

pub returns-else-has_all-clause-made : goal.returns-else-has_all-clause-made
returns-else-has_all-clause-made c = c.narrow.ensures.made

pub returns-else-has_all-clause-refuses : goal.returns-else-has_all-clause-refuses
returns-else-has_all-clause-refuses c = c.narrow.ensures.refuses
