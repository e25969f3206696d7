-- Worked: faults of small graphs, worked by hand.
use Rattle.std.proofs.Common.{refl, ◌≡◌, ℕ, ◌∷◌, [], ℤ, pos, codes}
use Rattle.std.specs.Fmt.{digits}
use Rattle.vcp_base.specs.declared.spot.Spot.{Spot}
use Rattle.vcp_base.specs.declared.code.Profile.TheVariants as profile
use Rattle.vcp_base.specs.declared.ty.Ty.TheVariants as ty
use Rattle.vcp_base.specs.declared.kind.Kind.{Kind}
use Rattle.vcp_base.specs.declared.kind.Kind.TheVariants as kind
use Rattle.coded_unit.specs.Words.{modulo}
use Rattle.op_graph.specs.declared.op.Op.{Op}
use Rattle.op_graph.specs.Lists.{Lists, nothing}
use Rattle.op_graph.specs.Building.{entry_op, with_name, with_input, with_load, with_op, with_output, with_store}
use Rattle.signature_table.specs.Signatures.{Numbers, table_of, signature}
use Rattle.fault_script.specs.declared.act.Act.TheVariants as act
use Rattle.fault_cover.specs.declared.disturbance.Disturbance.TheVariants as disturbance
use Rattle.fault_cover.specs.declared.effect.Effect.TheVariants as told
use Rattle.fault_cover.specs.Classes.{additions, lates, rests}
use Rattle.fault_cover.specs.CoverText.{column_text, heard_as, single_text, tally}
use Rattle.fault_cover.specs.Sources.{comes, readings, sources}

abbrev here : Spot
here = record { line = 0; col = 0 }

-- an operation on DINT values, which reads a and b
abbrev on_dint : Kind → ℕ → ℕ → ℤ → Op
on_dint k a b imm = record { kind = k; from = ty.Dint; ty = ty.Dint; a = a; b = b; c = 0; imm = imm; spot = here; turn = 0 }

abbrev named_one : ℕ → Lists
named_one n = with_name (nothing profile.Narrow) (n ∷ [])

-- `y := (a + b) + (a*c - a*d)`: four INPUTs, ADD, MUL, MUL, SUB, ADD, OUT
abbrev register : Lists
register =
    let inputs = with_input (with_input (with_input (with_input (named_one 121) 1 ty.Dint here) 2 ty.Dint here) 3 ty.Dint here) 4 ty.Dint here in
    let products = with_op (with_op (with_op inputs (on_dint kind.Add 0 1 (pos 0))) (on_dint kind.Mul 0 2 (pos 0))) (on_dint kind.Mul 0 3 (pos 0)) in
    with_output (with_op (with_op products (on_dint kind.Sub 5 6 (pos 0))) (on_dint kind.Add 4 7 (pos 0))) 0 ty.Dint 8 here

abbrev first_input : Op
first_input = entry_op kind.Input ty.Dint 0 0 here

abbrev table : Numbers
table = record { profile = profile.Narrow; seed = 305419896; step = 10; corrections = [] }

-- the word of `a` is read three times
readings-register : readings register 0
    ≡ record { op = 4; operand = 0; borders = 0; multiplier = pos 1 } ∷ record { op = 5; operand = 0; borders = 0; multiplier = pos 2 }
    ∷ record { op = 6; operand = 0; borders = 0; multiplier = pos 2 } ∷ []
readings-register = refl

-- so it may change behind the first reading alone
rests-register : rests register 0 first_input ≡ disturbance.AddToRest 1 ∷ []
rests-register = refl

-- what is added there comes to the output as nothing: twice it, less twice it
comes-rest : modulo profile.Narrow (comes register 9 0 (sources table register 0 first_input (disturbance.AddToRest 1))) ≡ 0
unfolding modulo signature
comes-rest = refl

-- before all readings it comes once
comes-add : comes register 9 0 (sources table register 0 first_input disturbance.AddToResult) ≡ pos 1
unfolding modulo signature
comes-add = refl

-- a skipped INPUT is late by the step
comes-skip : modulo profile.Narrow (comes register 9 0 (sources table register 0 first_input (disturbance.Does act.Skip))) ≡ 2147483637
unfolding modulo signature
comes-skip = refl

-- `n := n + 1; y := n;` with inputs a and b: INPUT, INPUT, LOAD, CONST, ADD, OUT, STORE
abbrev counter : Lists
counter =
    let inputs = with_input (with_input (named_one 121) 1 ty.Dint here) 2 ty.Dint here in
    let added = with_op (with_op (with_load inputs 3 ty.Dint (pos 0) here) (on_dint kind.Const 0 0 (pos 1))) (on_dint kind.Add 2 3 (pos 0)) in
    with_store (with_output added 0 ty.Dint 4 here) ty.Dint 4 here

abbrev load : Op
load = entry_op kind.Load ty.Dint 0 0 here

-- With the seed 0 and the step 1 the LOAD may read the word of `b`: its signature is that of the STORE, less the step.
comes-from : comes counter 5 0 (sources (table_of 0 1 counter) counter 2 load (disturbance.Does (act.OperandFrom 0 1))) ≡ pos 0
unfolding modulo signature
comes-from = refl

comes-from-step : comes counter 5 0 (sources (table_of 0 2 counter) counter 2 load (disturbance.Does (act.OperandFrom 0 1))) ≡ pos 1
unfolding modulo signature
comes-from-step = refl

-- `y := x + 1`: INPUT, CONST, ADD, OUT
abbrev sum : Lists
sum = with_output (with_op (with_op (with_input (named_one 121) 1 ty.Dint here) (on_dint kind.Const 0 0 (pos 1))) (on_dint kind.Add 0 1 (pos 0))) 0 ty.Dint
    2 here

-- each operand of the ADD may be the word of the cycle before of the ADD or of the OUT
lates-sum : lates sum 2 (on_dint kind.Add 0 1 (pos 0))
    ≡ disturbance.Late 0 2 ∷ disturbance.Late 0 3 ∷ disturbance.Late 1 2 ∷ disturbance.Late 1 3 ∷ []
lates-sum = refl

additions-sum : additions (on_dint kind.Add 0 1 (pos 0)) ≡ disturbance.AddToResult ∷ disturbance.AddToOperand 0 ∷ disturbance.AddToOperand 1 ∷ []
additions-sum = refl

-- ---- lines

late-text : single_text (record { op = 6; does = disturbance.Late 2 8 }) ≡ codes "operand N 6 2 late 8"
unfolding digits
late-text = refl

rest-text : single_text (record { op = 0; does = disturbance.AddToRest 1 }) ≡ codes "rest N 0 1 add any"
unfolding digits
rest-text = refl

add-text : single_text (record { op = 3; does = disturbance.AddToResult }) ≡ codes "result N 3 add any"
unfolding digits
add-text = refl

operator-text : single_text (record { op = 2; does = disturbance.Does (act.Operator kind.Neg) }) ≡ codes "operator N 2 NEG"
unfolding digits
operator-text = refl

column-2376 : column_text 2376 ≡ codes "        2376"
unfolding digits
column-2376 = refl

column-0 : column_text 0 ≡ codes "           0"
unfolding digits
column-0 = refl

tally-shows : tally (heard_as 0 disturbance.AddToResult (told.Shows 0 1) ∷ []) ≡ record { refused = 0; nothing = 0; shows = 1; runs_on = 0; beyond = 0 }
tally-shows = refl
