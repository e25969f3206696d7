-- Worked: expected residues at the ends of their ranges, and the corrections of `n := n + 1; y := n;` with seed 0 and step 1.
use Rattle.std.proofs.Common.{refl, ◌≡◌, ℕ, ◌∷◌, [], List, pos, ℤ}
use Rattle.vcp_base.specs.declared.code.Profile.TheVariants as profile
use Rattle.vcp_base.specs.declared.ty.Ty.TheVariants as ty
use Rattle.vcp_base.specs.declared.kind.Kind.{Kind}
use Rattle.vcp_base.specs.declared.kind.Kind.TheVariants as kind
use Rattle.coded_unit.specs.Words.{modulo}
use Rattle.op_graph.specs.declared.op.Op.{Op}
use Rattle.op_graph.specs.declared.op.Cell.{Cell}
use Rattle.signature_table.specs.Signatures.{signature, expected, corrections_from}

expected-last : expected profile.Narrow 1073741823 1000 0 999999 ≡ 2073741823
unfolding signature
expected-last = refl

expected-first : expected profile.Narrow 1073741823 1000 1 0 ≡ 214749364
unfolding signature
expected-first = refl

wide-last : expected profile.Wide 1073741823 1000 0 999999 ≡ 2073741823
unfolding signature
wide-last = refl

wide-first : expected profile.Wide 1073741823 1000 1 0 ≡ 922337204759220404
unfolding signature
wide-first = refl

-- an operation on DINT values, which reads a and b
on_dint : Kind → ℕ → ℕ → ℤ → Op
on_dint k a b imm = record { kind = k; from = ty.Dint; ty = ty.Dint; a = a; b = b; c = 0; imm = imm; spot = record { line = 0; col = 0 }; turn = 0 }

counter : List Op
counter = on_dint kind.Load 0 0 (pos 0) ∷ on_dint kind.Const 0 0 (pos 1) ∷ on_dint kind.Add 0 1 (pos 0) ∷ on_dint kind.Out 2 0 (pos 0) ∷ on_dint kind.Store 2 0
    (pos 0) ∷ []

counter_cells : List Cell
counter_cells = (record { name = 1; ty = ty.Dint; init = pos 0; load = 0; store = 4 }) ∷ []

corrections_from-counter : corrections_from profile.Narrow 0 1 counter_cells 0 counter ≡ 1288490188 ∷ 214748365 ∷ 214748365 ∷ 214748365 ∷ 429496730 ∷ []
unfolding counter counter_cells on_dint signature modulo
corrections_from-counter = refl

signatures-counter : signature profile.Narrow 0 0 ∷ signature profile.Narrow 0 1 ∷ signature profile.Narrow 0 2 ∷ signature profile.Narrow 0 3
    ∷ signature profile.Narrow 0 4 ∷ [] ≡ 0 ∷ 214748365 ∷ 429496730 ∷ 644245095 ∷ 858993460 ∷ []
unfolding signature
signatures-counter = refl
