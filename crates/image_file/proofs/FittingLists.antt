-- What keeps the rules of a graph has an image: names, inputs, outputs and turn nodes.
use Rattle.std.proofs.Common.{◌≡◌, ℕ, ◌≤◌, not, nat_le, true, List, [], ◌∷◌, length, All, refl, ap, arith}
use Rattle.std.proofs.lemmas.Bool.{lt-ltb}
use Rattle.std.proofs.lemmas.Bool.Decides.{nat_tests}
use Rattle.std.specs.Int.{w64}
use Rattle.op_graph.specs.declared.op.Var.{Var}
use Rattle.op_graph.specs.declared.op.Outlet.{Outlet}
use Rattle.op_graph.specs.declared.op.TurnNode.{TurnNode}
use Rattle.std.specs.Prelude.{FitsSigned}
use Rattle.vcp_base.specs.declared.code.Profile.{Profile}
use Rattle.vcp_base.specs.Code.{admits}
use Rattle.vcp_base.specs.Names.{NameFits, is_name}
use Rattle.vcp_base.specs.Limits.{most_names, most_turn_nodes, most_operations}
use Rattle.op_graph.specs.Rules.{Each, InputFits, OutputFits, TurnNodeFits}
use Rattle.image_file.proofs.Entries.{each_more}
use Rattle.image_file.specs.Entries.{name_by, name_piece, input_piece, output_piece, turn_piece}
use Rattle.image_file.proofs.Kept.{and, none_any, all_rises, each_with_all}

pub le_true : (a b : ℕ) → a ≤ b → nat_le a b ≡ true
le_true a b h = grind (arith, nat_tests)

name_long : (n : List ℕ) → is_name n ≡ true → 1 ≤ length n
name_long [] e = absurd cc
name_long (c ∷ cs) e = omega arith

pub names_fit : (xs : List (List ℕ)) → Each (NameFits (λ n. n)) [] xs → Each (λ b. (name_piece b).fits) [] xs
unfolding name_by
names_fit xs h =
    each_more (NameFits (λ n. n)) (λ b. (name_piece b).fits) (length xs) [] xs (omega arith)
    (λ b x lt r. (
      (omega (arith, r.short), and _ _ (le_true _ _ (name_long x r.letters)) (le_true _ _ r.short)),
      ((refl, and _ _ r.letters (ap not (none_any x b r.new))), tt),
    )) h

pub inputs_fit : (p : Profile) (names : ℕ) (xs : List Var) → names ≤ most_names → All (λ v. admits p v.ty ≡ true) xs → Each (InputFits names) [] xs
    → Each (λ b. (input_piece p names b).fits) [] xs
unfolding input_piece
inputs_fit p names xs few types h =
    each_more (λ b v. InputFits names b v × (admits p v.ty ≡ true)) (λ b. (input_piece p names b).fits) (length xs) [] xs (omega arith)
    (λ b x lt q. let r = q.0 in
    ((omega (arith, r.name), and _ _ (lt-ltb _ _ r.name) (all_rises (λ (w : Var). w.name) x.name b r.name_rises)), ((q.1, refl), tt)))
    (each_with_all (InputFits names) (λ v. admits p v.ty ≡ true) [] xs types h)

pub outputs_fit : (p : Profile) (names operations : ℕ) (xs : List Outlet) → names ≤ most_names → operations ≤ most_operations
    → All (λ o. admits p o.ty ≡ true) xs → Each (OutputFits names operations) [] xs → Each (λ b. (output_piece p names operations b).fits) [] xs
unfolding output_piece
outputs_fit p names operations xs few short types h =
    each_more (λ b o. OutputFits names operations b o × (admits p o.ty ≡ true)) (λ b. (output_piece p names operations b).fits) (length xs) [] xs (omega arith)
    (λ b x lt q. let r = q.0 in (
      (omega (arith, r.name), and _ _ (lt-ltb _ _ r.name) (all_rises (λ (w : Outlet). w.name) x.name b r.name_rises)),
      ((q.1, refl), ((omega (arith, r.operation), and _ _ (lt-ltb _ _ r.operation) (all_rises (λ (w : Outlet). w.op) x.op b r.operation_rises)), tt)),
    ))
    (each_with_all (OutputFits names operations) (λ o. admits p o.ty ≡ true) [] xs types h)

pub turns_fit : (names : ℕ) (xs : List TurnNode) → names ≤ most_names → length xs ≤ most_turn_nodes → All (λ t. FitsSigned w64 t.value) xs
    → Each (TurnNodeFits names) [] xs → Each (λ b. (turn_piece names b).fits) [] xs
unfolding turn_piece
turns_fit names xs few short wide h =
    each_more (λ b t. TurnNodeFits names b t × FitsSigned w64 t.value) (λ b. (turn_piece names b).fits) (length xs) [] xs (omega arith)
    (λ b x lt r. ((omega (arith, r.0.parent), le_true _ _ r.0.parent), ((omega (arith, r.0.name), lt-ltb _ _ r.0.name), ((r.1, refl), tt))))
    (each_with_all (TurnNodeFits names) (λ t. FitsSigned w64 t.value) [] xs wide h)
