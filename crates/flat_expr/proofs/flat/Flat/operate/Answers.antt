use Rattle.std.proofs.Common.{◌≡◌, ◌≤◌, true, sym, subst, refl, ◌∙◌, arith}
use Rattle.vcp_base.specs.declared.ty.Ty.TheVariants as ty
use Rattle.op_graph.specs.Rules.{types_fit}
use Rattle.vcp_typed.specs.Size.{operator_size}
use Rattle.flat_expr.specs.State.{IsA, is_comparison}
use Rattle.flat_expr.proofs.Forms.{Masks, alone, alone_made, denied_made, denied_types, masked_made, masks, of_left, of_right, room}
use Rattle.flat_expr.proofs.Ops.{OfTwo}
use Rattle.flat_expr.proofs.Refusals.{more_refuses}
use Rattle.flat_expr.proofs.flat.Flat.operate.Goals as goal

pub calculate-requires : goal.calculate-requires
calculate-requires c =
    let op = c.args.op in
    let how = sym c.in-Masked.is ∙ c.manner_of.ensures in
    let m = subst (λ k. Masks k c.in-Masked.one c.args.ty) (sym c.operation_kind-kind.ensures) (masks op c.in-Masked.one c.args.ty how c.requires.types) in
    record {
      kind = m.arithmetic;
      one = m.divisor;
      number = m.number;
      code = c.requires.code;
      a = subst (λ k. IsA c.args.ty c.args.self.now.graph.operations k) (sym c.in_order-x.ensures.left) (of_left (λ k. IsA c.args.ty c.args.self.now.graph.operations k) op c.args.a c.args.b c.requires.a c.requires.b);
      b = subst (λ k. IsA c.args.ty c.args.self.now.graph.operations k) (sym c.in_order-x.ensures.right) (of_right (λ k. IsA c.args.ty c.args.self.now.graph.operations k) op c.args.a c.args.b c.requires.a c.requires.b);
    }

pub returns-in-Masked-clause-made : goal.returns-in-Masked-clause-made
returns-in-Masked-clause-made c =
    masked_made c.args.self.now c.calculate.new.self c.args.op c.in-Masked.one c.args.ty c.args.a c.args.b _ _ _ c.args.spot c.calculate.result
    c.operation_kind-kind.ensures c.in_order-x.ensures.left c.in_order-x.ensures.right (sym c.in-Masked.is ∙ c.manner_of.ensures) c.calculate.ensures.made

pub returns-in-Masked-clause-refuses : goal.returns-in-Masked-clause-refuses
returns-in-Masked-clause-refuses c =
    more_refuses c.args.self.now c.calculate.new.self 3 (operator_size c.args.op) c.calculate.result (room c.args.op) c.calculate.ensures.refuses

pub add-requires : goal.add-requires
add-requires c =
    let op = c.args.op in
    let ops = c.args.self.now.graph.operations in
    let two = subst (λ k. OfTwo k c.args.ty ty.Bool) (sym c.operation_kind-kind.ensures)
    (alone op c.args.ty (sym c.in-Alone.is ∙ c.manner_of.ensures) c.requires.types) in
    let reads = two.reads ops c.in_order-x.result.0 c.in_order-x.result.1
    (subst (λ k. IsA c.args.ty c.args.self.now.graph.operations k) (sym c.in_order-x.ensures.left) (of_left (λ k. IsA c.args.ty c.args.self.now.graph.operations k) op c.args.a c.args.b c.requires.a c.requires.b))
    (subst (λ k. IsA c.args.ty c.args.self.now.graph.operations k) (sym c.in_order-x.ensures.right) (of_right (λ k. IsA c.args.ty c.args.self.now.graph.operations k) op c.args.a c.args.b c.requires.a c.requires.b)) in
    record { plain = two.plain; types = two.types; from = c.requires.code; ty = refl; a = reads.0; b = reads.1; c = reads.2 }

pub returns-in-Alone-clause-made : goal.returns-in-Alone-clause-made
returns-in-Alone-clause-made c =
    alone_made c.args.self.now c.add.new.self c.args.op c.args.ty c.args.a c.args.b _ _ _ c.args.spot c.add.result
    c.operation_kind-kind.ensures c.in_order-x.ensures.left c.in_order-x.ensures.right (sym c.in-Alone.is ∙ c.manner_of.ensures) c.add.ensures.made

pub returns-in-Alone-clause-refuses : goal.returns-in-Alone-clause-refuses
returns-in-Alone-clause-refuses c =
    let least : 1 ≤ operator_size c.args.op = let three = room c.args.op in omega (arith, three) in
    more_refuses c.args.self.now c.add.new.self 1 (operator_size c.args.op) c.add.result least c.add.ensures.refuses

pub deny-requires : goal.deny-requires
deny-requires c =
    let op = c.args.op in
    let types = subst (λ k. (is_comparison k ≡ true) × (types_fit k c.args.ty ty.Bool ≡ true)) (sym c.operation_kind-kind.ensures)
    (denied_types op c.args.ty (sym c.in-Denied.is ∙ c.manner_of.ensures) c.requires.types) in
    record {
      kind = types.0;
      types = types.1;
      code = c.requires.code;
      a = subst (λ k. IsA c.args.ty c.args.self.now.graph.operations k) (sym c.in_order-x.ensures.left) (of_left (λ k. IsA c.args.ty c.args.self.now.graph.operations k) op c.args.a c.args.b c.requires.a c.requires.b);
      b = subst (λ k. IsA c.args.ty c.args.self.now.graph.operations k) (sym c.in_order-x.ensures.right) (of_right (λ k. IsA c.args.ty c.args.self.now.graph.operations k) op c.args.a c.args.b c.requires.a c.requires.b);
    }

pub returns-in-Denied-clause-made : goal.returns-in-Denied-clause-made
returns-in-Denied-clause-made c =
    denied_made c.args.self.now c.deny.new.self c.args.op c.args.ty c.args.a c.args.b _ _ _ c.args.spot c.deny.result
    c.operation_kind-kind.ensures c.in_order-x.ensures.left c.in_order-x.ensures.right (sym c.in-Denied.is ∙ c.manner_of.ensures) c.deny.ensures.made

pub returns-in-Denied-clause-refuses : goal.returns-in-Denied-clause-refuses
returns-in-Denied-clause-refuses c =
    let least : 2 ≤ operator_size c.args.op = let three = room c.args.op in omega (arith, three) in
    more_refuses c.args.self.now c.deny.new.self 2 (operator_size c.args.op) c.deny.result least c.deny.ensures.refuses
