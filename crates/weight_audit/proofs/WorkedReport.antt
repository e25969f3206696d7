-- Worked: lines of audits, and audits of small graphs, by what is kept of them.
use Rattle.std.proofs.Common.{refl, ◌≡◌, ℕ, ◌∷◌, [], ◌++◌, ℤ, pos, true, false, codes}
use Rattle.std.specs.Fmt.{digits}
use Rattle.vcp_base.specs.declared.spot.Spot.{Spot}
use Rattle.vcp_base.specs.declared.code.Profile.TheVariants as profile
use Rattle.vcp_base.specs.declared.ty.Ty.TheVariants as ty
use Rattle.vcp_base.specs.declared.kind.Kind.{Kind}
use Rattle.vcp_base.specs.declared.kind.Kind.TheVariants as kind
use Rattle.op_graph.specs.declared.op.Op.{Op}
use Rattle.op_graph.specs.Lists.{Lists, nothing}
use Rattle.op_graph.specs.Building.{with_name, with_input, with_load, with_op, with_output, with_store}
use Rattle.weight_audit.specs.Audit.{Audit}
use Rattle.weight_audit.specs.AuditLines.{reached_text, blind_text}
use Rattle.weight_audit.specs.AuditText.{audit_text}

-- the lines alone
audited : reached_text (codes "y") 0 3 1 ++ (blind_text 0 kind.Input ++ reached_text (codes "lights") 8 51 0)
    ≡ codes "y 0 reached 3 blind 1\nblind 0 INPUT\nlights 8 reached 51 blind 0\n"
unfolding digits
audited = refl

abbrev here : Spot
here = record { line = 0; col = 0 }

-- an operation on DINT values, which reads a and b
on_dint : Kind → ℕ → ℕ → ℤ → Op
on_dint k a b imm = record { kind = k; from = ty.Dint; ty = ty.Dint; a = a; b = b; c = 0; imm = imm; spot = here; turn = 0 }

-- `y := x - x`: INPUT, SUB, OUT
difference : Lists
difference =
    let x = with_input (with_name (with_name (nothing profile.Narrow) (codes "x")) (codes "y")) 0 ty.Dint here in
    with_output (with_op x (on_dint kind.Sub 0 0 (pos 0))) 1 ty.Dint 1 here

difference_kept : Audit
difference_kept = record { operations = 3; horizon = 0; outputs = (record { weights = 0 ∷ 1 ∷ 1 ∷ []; reached = true ∷ true ∷ true ∷ [] } ∷ []) ∷ [] }

of_a_difference : audit_text difference difference_kept 0 ≡ codes "y 0 reached 3 blind 1\nblind 0 INPUT\n"
unfolding digits difference difference_kept on_dint
of_a_difference = refl

-- `n := n + 1; y := n;`: LOAD, CONST, ADD, OUT, STORE
counter : Lists
counter =
    let named = with_name (with_name (nothing profile.Narrow) (codes "y")) (codes "n") in
    let added = with_op (with_op (with_load named 1 ty.Dint (pos 0) here) (on_dint kind.Const 0 0 (pos 1))) (on_dint kind.Add 0 1 (pos 0)) in
    with_store (with_output added 0 ty.Dint 2 here) ty.Dint 2 here

counter_kept : Audit
counter_kept = record {
  operations = 5;
  horizon = 1;
  outputs = (
      record { weights = 1 ∷ 1 ∷ 1 ∷ 1 ∷ 0 ∷ []; reached = true ∷ true ∷ true ∷ true ∷ false ∷ [] }
      ∷ record { weights = 1 ∷ 1 ∷ 1 ∷ 0 ∷ 1 ∷ []; reached = true ∷ true ∷ true ∷ false ∷ true ∷ [] } ∷ []) ∷ [];
}

of_a_counter : audit_text counter counter_kept 1 ≡ codes "y 0 reached 4 blind 0\ny 1 reached 4 blind 0\n"
unfolding digits counter counter_kept on_dint
of_a_counter = refl
