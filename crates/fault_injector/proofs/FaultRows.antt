-- Worked rows of verdicts and totals, computed by the definitions alone.
use Rattle.std.proofs.Common.{◌≡◌, [], ◌∷◌, ◌++◌, refl, pos, negsuc, codes}
use Rattle.std.specs.Fmt.{digits}
use Rattle.vcp_base.specs.declared.code.Profile.TheVariants as profile
use Rattle.vcp_base.specs.declared.kind.StopKind.TheVariants as stop
use Rattle.vcp_base.specs.declared.kind.Kind.TheVariants as kind
use Rattle.vcp_base.specs.declared.ty.Ty.{Ty}
use Rattle.vcp_base.specs.declared.ty.Ty.TheVariants as ty
use Rattle.op_graph.specs.declared.op.Op.{Op}
use Rattle.op_graph.specs.Lists.{Lists, nothing}
use Rattle.fault_injector.specs.declared.verdicts.Verdict.TheVariants as verdict
use Rattle.fault_injector.specs.FaultLines.{verdict_text, totals_of, totals_text}

-- a graph with an output y, and with ADDs at 4:8
abbrev named : Ty → Lists
named t =
    let add : Op = record { kind = kind.Add; from = t; ty = t; a = 0; b = 1; c = 0; imm = pos 0; spot = record { line = 4; col = 8 }; turn = 0 } in
    record (nothing profile.Narrow) { names = codes "y" ∷ []; outputs = record { name = 0; ty = t; op = 2 } ∷ []; operations = add ∷ add ∷ add ∷ [] }

verdicts : verdict_text (named ty.Dint) 1 (verdict.Wrong 0 0 (pos 7) (pos 6))
    ++ (verdict_text (named ty.Dint) 2 (verdict.Refused 0 0 429496731 644245096)
    ++ (verdict_text (named ty.Dint) 3
    (verdict.Stopped 0 2 stop.Operand)
    ++ (verdict_text (named ty.Int) 4 (verdict.RanOn 0) ++ verdict_text (named ty.Int) 5 verdict.Same)))
    ≡ codes "1 wrong 0 y got 7 want 6\n2 refused 0 y found 429496731 expected 644245096\n3 stopped 0 2 OPERAND 4:8\n4 ran-on 0\n5 same\n"
unfolding digits
verdicts = refl

wrong_below_zero : verdict_text (named ty.Dint) 1 (verdict.Wrong 0 0 (pos 5) (negsuc 4)) ≡ codes "1 wrong 0 y got 5 want -5\n"
unfolding digits
wrong_below_zero = refl

totals_of_three : totals_text
    (totals_of (verdict.Wrong 0 0 (pos 7) (pos 6) ∷ verdict.Refused 0 0 429496731 644245096 ∷ verdict.Refused 0 0 214748366 644245096 ∷ []))
    ≡ codes "faults 3 same 0 wrong 1 ran-on 0 refused 2 stopped 0\n"
unfolding digits
totals_of_three = refl

totals_of_each : totals_text
    (totals_of (verdict.Same ∷ verdict.Wrong 1 0 (pos 1) (pos 0) ∷ verdict.RanOn 0 ∷ verdict.Refused 3 0 1 2 ∷ verdict.Stopped 5 32 stop.Operand ∷ []))
    ≡ codes "faults 5 same 1 wrong 1 ran-on 1 refused 1 stopped 1\n"
unfolding digits
totals_of_each = refl

totals_of_none : totals_text (totals_of []) ≡ codes "faults 0 same 0 wrong 0 ran-on 0 refused 0 stopped 0\n"
unfolding digits
totals_of_none = refl
