-- What keeps the rules of a graph has an image: operations, where their numbers have the format's widths.
use Rattle.std.proofs.Common.{◌≡◌, ℕ, ◌*◌, ◌<◌, ◌≤◌, ◌^◌, ℤ, pos, negsuc, true, false, List, [], length, All, Option, Some, None, refl, sym, ap, ◌∙◌, arith, inl, inr}
use Rattle.std.proofs.lemmas.Bool.{eqb-true, leb-true, cases_lt}
use Rattle.std.proofs.lemmas.Option.{slice_get_past}
use Rattle.std.specs.Int.{w64, byte_len}
use Rattle.std.proofs.lemmas.Int.{ints}
use Rattle.std.specs.Prelude.{FitsSigned}
use Rattle.vcp_base.specs.declared.code.Profile.{Profile}
use Rattle.vcp_base.specs.declared.code.Profile.TheVariants as profile
use Rattle.vcp_base.specs.Code.{modulus}
use Rattle.vcp_base.specs.Limits.{most_turn_nodes, most_operations}
use Rattle.vcp_base.specs.declared.ty.Ty.{Ty}
use Rattle.vcp_base.specs.Types.{within}
use Rattle.coded_unit.specs.Words.{modulo}
use Rattle.op_graph.specs.declared.op.Op.{Op}
use Rattle.op_graph.specs.Rules.{Each, Operates, PlaceFits, Admitted, operand_fits, turn_fits}
use Rattle.op_graph.specs.declared.rules.Entry.{Entry}
use Rattle.image_file.proofs.Entries.{each_more, eqb_self}
use Rattle.image_file.specs.Image.{Said, op_by, op_piece, corrected, op_number, op_operands}
use Rattle.image_file.specs.Codes.{correction_width}
use Rattle.image_file.proofs.Kept.{each_with_all}

clash : false ≡ true → ⊥
clash e = cc

operand_small : (earlier : List Op) (t : Option Ty) (n : ℕ) → length earlier ≤ most_operations → operand_fits earlier t n ≡ true → n < 2 ^ 32
operand_small earlier None n few e = let zero_is : n ≡ 0 = eqb-true n 0 e in omega arith
operand_small earlier (Some t) n few e =
    elim (cases_lt n (length earlier)) [
      | inl lt ↦ omega arith
      | inr le ↦ absurd (clash (sym (ap (λ (o : Option Op). elim o [ None ↦ false | Some op ↦ within op.ty t ]) (slice_get_past earlier n le)) ∙ e))
    ]

turn_small : (o : Option Entry) (count n : ℕ) → count ≤ most_turn_nodes → turn_fits o count n ≡ true → n < 2 ^ 32
turn_small None count n few e = let le = leb-true _ _ e in omega arith
turn_small (Some o) count n few e = let zero_is : n ≡ 0 = eqb-true n 0 e in omega arith

modulo_below : (p : Profile) (z : ℤ) → modulo p z < modulus p
unfolding modulo
modulo_below profile.Narrow (pos n) = omega (arith, ints)
modulo_below profile.Narrow (negsuc n) = omega (arith, ints)
modulo_below profile.Wide (pos n) = omega (arith, ints)
modulo_below profile.Wide (negsuc n) = omega (arith, ints)

residue_small : (p : Profile) (n : ℕ) → n < modulus p → n < 2 ^ (8 * byte_len (correction_width p))
residue_small profile.Narrow n lt = omega arith
residue_small profile.Wide n lt = omega arith

-- the numbers of an operation have the widths of the format, and its types are of the code
abbrev pub Sized : Profile → Op → Type 0
Sized p op = PlaceFits op.spot × FitsSigned w64 op.imm × Admitted p op

pub operations_fit : (s : Said) (ops : List Op) → length ops ≤ most_operations → s.turn_nodes ≤ most_turn_nodes → All (Sized s.profile) ops
    → Each (Operates s.scope s.turn_nodes) [] ops → Each (λ b. (op_piece s b).fits) [] ops
unfolding op_by op_operands op_number corrected
operations_fit s ops few turns sized h =
    each_more (λ b o. Operates s.scope s.turn_nodes b o × Sized s.profile o) (λ b. (op_piece s b).fits) (length ops) [] ops (omega arith) (λ b o lt r.
    let f = r.0 in
    let z = r.1 in (
      (tt, f.kind),
      (
        (z.2.0, f.from),
        (
          (z.2.1, f.ty),
          (
            (operand_small b _ o.a (omega arith) f.a, f.a),
            (
              (operand_small b _ o.b (omega arith) f.b, f.b),
              (
                (operand_small b _ o.c (omega arith) f.c, f.c),
                (
                  (z.1, f.imm),
                  (
                    (z.0.0, refl),
                    (
                      (z.0.1, refl),
                      (
                        (turn_small _ s.turn_nodes o.turn turns f.turn, f.turn),
                        (
                          (residue_small s.profile _ (modulo_below s.profile _), eqb_self _),
                          tt,
                        ),
                      ),
                    ),
                  ),
                ),
              ),
            ),
          ),
        ),
      ),
    )) (each_with_all (Operates s.scope s.turn_nodes) (Sized s.profile) [] ops sized h)
