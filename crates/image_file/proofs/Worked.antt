-- The image of `y := x + 1` with seed 0 and step 1, byte by byte.
use Rattle.std.proofs.Common.{◌≡◌, ℕ, pos, List, [], ◌∷◌, refl, arith, Bool, true, false, zero, suc, nat_lt, ◌&&◌}
use Rattle.vcp_base.specs.declared.code.Profile.TheVariants as profile
use Rattle.vcp_base.specs.declared.ty.Ty.TheVariants as ty
use Rattle.vcp_base.specs.declared.kind.Kind.TheVariants as kind
use Rattle.op_graph.specs.Lists.{Lists}
use Rattle.coded_unit.specs.Words.{modulo}
use Rattle.signature_table.specs.Signatures.{signature}
use Rattle.std.specs.List.{list_all}
use Rattle.std.proofs.lemmas.Bool.{ltb-true}
use Rattle.image_file.specs.declared.fields.fault.FieldFault.TheVariants as left
use Rattle.image_file.specs.declared.fault.ImageFault.TheVariants as at
use Rattle.image_file.specs.Graphs.{ImageFaultAt}
use Rattle.image_file.proofs.PieceLaws.{IsBytes, all_fails}
use Rattle.image_file.proofs.Sections.{image_law}
use Rattle.image_file.specs.Entries.{name_by, input_piece, output_piece}
use Rattle.image_file.specs.Image.{image_of, image_piece, head_piece, counts_piece, op_by, corrected, op_of, entry_counts, later_counts, op_number, op_operands, later_lists}

plus_one : Lists
plus_one = record {
  profile = profile.Narrow;
  names = (120 ∷ []) ∷ (121 ∷ []) ∷ [];
  inputs = (record { name = 0; ty = ty.Dint }) ∷ [];
  outputs = (record { name = 1; ty = ty.Dint; op = 3 }) ∷ [];
  loads = [];
  stores = [];
  turn_nodes = [];
  operations = op_of kind.Input ty.Dint ty.Dint 0 0 0 (pos 0) 2 11 0 ∷ op_of kind.Const ty.Dint ty.Dint 0 0 0
      (pos 1) 4 10 0 ∷ op_of kind.Add ty.Dint ty.Dint 0 1 0 (pos 0) 4 8 0 ∷ op_of kind.Out ty.Dint ty.Dint 2 0 0 (pos 0) 3 12 0 ∷ [];
}

image_bytes : List ℕ
image_bytes =
    86 ∷ 67 ∷ 80 ∷ 65 ∷ 78 ∷ 66 ∷ 68 ∷ 10 ∷ 0 ∷ 1 ∷ 0 ∷ 1 ∷ 0 ∷ 0 ∷ 0 ∷ 0 ∷ 0 ∷ 0 ∷ 0 ∷ 2 ∷ 0 ∷ 0 ∷ 0 ∷ 1 ∷ 0 ∷ 0 ∷ 0 ∷ 1 ∷ 0 ∷ 0
    ∷ 0 ∷ 0 ∷ 0 ∷ 0 ∷ 0 ∷ 0 ∷ 0 ∷ 0 ∷ 0 ∷ 4
    ∷ 0 ∷ 0 ∷ 0 ∷ 1 ∷ 120 ∷ 0 ∷ 0 ∷ 0 ∷ 1 ∷ 121
    ∷ 0 ∷ 0 ∷ 0 ∷ 0 ∷ 2
    ∷ 0 ∷ 0 ∷ 0 ∷ 1 ∷ 2 ∷ 0 ∷ 0 ∷ 0 ∷ 3
    ∷ 0 ∷ 2 ∷ 2 ∷ 0 ∷ 0 ∷ 0 ∷ 0 ∷ 0 ∷ 0 ∷ 0 ∷ 0 ∷ 0 ∷ 0 ∷ 0 ∷ 0 ∷ 0 ∷ 0 ∷ 0 ∷ 0 ∷ 0 ∷ 0 ∷ 0 ∷ 0 ∷ 0 ∷ 0 ∷ 0 ∷ 2 ∷ 0 ∷ 0 ∷ 0
    ∷ 11 ∷ 0 ∷ 0 ∷ 0 ∷ 0 ∷ 0 ∷ 0 ∷ 0 ∷ 0
    ∷ 1 ∷ 2 ∷ 2 ∷ 0 ∷ 0 ∷ 0 ∷ 0 ∷ 0 ∷ 0 ∷ 0 ∷ 0 ∷ 0 ∷ 0 ∷ 0 ∷ 0 ∷ 0 ∷ 0 ∷ 0 ∷ 0 ∷ 0 ∷ 0 ∷ 0 ∷ 1 ∷ 0 ∷ 0 ∷ 0 ∷ 4 ∷ 0 ∷ 0 ∷ 0
    ∷ 10 ∷ 0 ∷ 0 ∷ 0 ∷ 0 ∷ 12 ∷ 204 ∷ 204 ∷ 205
    ∷ 8 ∷ 2 ∷ 2 ∷ 0 ∷ 0 ∷ 0 ∷ 0 ∷ 0 ∷ 0 ∷ 0 ∷ 1 ∷ 0 ∷ 0 ∷ 0 ∷ 0 ∷ 0 ∷ 0 ∷ 0 ∷ 0 ∷ 0 ∷ 0 ∷ 0 ∷ 0 ∷ 0 ∷ 0 ∷ 0 ∷ 4 ∷ 0 ∷ 0 ∷ 0
    ∷ 8 ∷ 0 ∷ 0 ∷ 0 ∷ 0 ∷ 12 ∷ 204 ∷ 204 ∷ 205
    ∷ 4 ∷ 2 ∷ 2 ∷ 0 ∷ 0 ∷ 0 ∷ 2 ∷ 0 ∷ 0 ∷ 0 ∷ 0 ∷ 0 ∷ 0 ∷ 0 ∷ 0 ∷ 0 ∷ 0 ∷ 0 ∷ 0 ∷ 0 ∷ 0 ∷ 0 ∷ 0 ∷ 0 ∷ 0 ∷ 0 ∷ 3 ∷ 0 ∷ 0 ∷ 0
    ∷ 12 ∷ 0 ∷ 0 ∷ 0 ∷ 0 ∷ 12 ∷ 204 ∷ 204 ∷ 205 ∷ []

its_image : image_of plus_one 0 1 ≡ image_bytes
unfolding plus_one image_bytes image_piece later_lists head_piece counts_piece entry_counts later_counts name_by input_piece output_piece op_by op_operands op_number corrected signature modulo
its_image = refl

-- the same graph in the wide code
wide_bytes : List ℕ
wide_bytes =
    86 ∷ 67 ∷ 80 ∷ 65 ∷ 78 ∷ 66 ∷ 68 ∷ 10 ∷ 0 ∷ 2 ∷ 0 ∷ 1 ∷ 0 ∷ 0 ∷ 0 ∷ 0 ∷ 0 ∷ 0 ∷ 0 ∷ 2 ∷ 0 ∷ 0 ∷ 0 ∷ 1 ∷ 0 ∷ 0 ∷ 0 ∷ 1 ∷ 0 ∷ 0
    ∷ 0 ∷ 0 ∷ 0 ∷ 0 ∷ 0 ∷ 0 ∷ 0 ∷ 0 ∷ 0 ∷ 4
    ∷ 0 ∷ 0 ∷ 0 ∷ 1 ∷ 120 ∷ 0 ∷ 0 ∷ 0 ∷ 1 ∷ 121
    ∷ 0 ∷ 0 ∷ 0 ∷ 0 ∷ 2
    ∷ 0 ∷ 0 ∷ 0 ∷ 1 ∷ 2 ∷ 0 ∷ 0 ∷ 0 ∷ 3
    ∷ 0 ∷ 2 ∷ 2 ∷ 0 ∷ 0 ∷ 0 ∷ 0 ∷ 0 ∷ 0 ∷ 0 ∷ 0 ∷ 0 ∷ 0 ∷ 0 ∷ 0 ∷ 0 ∷ 0 ∷ 0 ∷ 0 ∷ 0 ∷ 0 ∷ 0 ∷ 0 ∷ 0 ∷ 0 ∷ 0 ∷ 2 ∷ 0 ∷ 0 ∷ 0
    ∷ 11 ∷ 0 ∷ 0 ∷ 0 ∷ 0 ∷ 0 ∷ 0 ∷ 0 ∷ 0 ∷ 0 ∷ 0 ∷ 0 ∷ 0
    ∷ 1 ∷ 2 ∷ 2 ∷ 0 ∷ 0 ∷ 0 ∷ 0 ∷ 0 ∷ 0 ∷ 0 ∷ 0 ∷ 0 ∷ 0 ∷ 0 ∷ 0 ∷ 0 ∷ 0 ∷ 0 ∷ 0 ∷ 0 ∷ 0 ∷ 0 ∷ 1 ∷ 0 ∷ 0 ∷ 0 ∷ 4 ∷ 0 ∷ 0 ∷ 0
    ∷ 10 ∷ 0 ∷ 0 ∷ 0 ∷ 0 ∷ 12 ∷ 204 ∷ 204 ∷ 204 ∷ 204 ∷ 204 ∷ 204 ∷ 205
    ∷ 8 ∷ 2 ∷ 2 ∷ 0 ∷ 0 ∷ 0 ∷ 0 ∷ 0 ∷ 0 ∷ 0 ∷ 1 ∷ 0 ∷ 0 ∷ 0 ∷ 0 ∷ 0 ∷ 0 ∷ 0 ∷ 0 ∷ 0 ∷ 0 ∷ 0 ∷ 0 ∷ 0 ∷ 0 ∷ 0 ∷ 4 ∷ 0 ∷ 0 ∷ 0
    ∷ 8 ∷ 0 ∷ 0 ∷ 0 ∷ 0 ∷ 28 ∷ 204 ∷ 204 ∷ 204 ∷ 204 ∷ 204 ∷ 204 ∷ 204
    ∷ 4 ∷ 2 ∷ 2 ∷ 0 ∷ 0 ∷ 0 ∷ 2 ∷ 0 ∷ 0 ∷ 0 ∷ 0 ∷ 0 ∷ 0 ∷ 0 ∷ 0 ∷ 0 ∷ 0 ∷ 0 ∷ 0 ∷ 0 ∷ 0 ∷ 0 ∷ 0 ∷ 0 ∷ 0 ∷ 0 ∷ 3 ∷ 0 ∷ 0 ∷ 0
    ∷ 12 ∷ 0 ∷ 0 ∷ 0 ∷ 0 ∷ 28 ∷ 204 ∷ 204 ∷ 204 ∷ 204 ∷ 204 ∷ 204 ∷ 204 ∷ []

its_wide_image : image_of (record plus_one { profile = profile.Wide }) 0 1 ≡ wide_bytes
unfolding plus_one wide_bytes image_piece later_lists head_piece counts_piece entry_counts later_counts name_by input_piece output_piece op_by op_operands op_number corrected signature modulo
its_wide_image = refl

-- byte 180 as CE: the correction of the third operation is another one
broken : List ℕ
broken =
    86 ∷ 67 ∷ 80 ∷ 65 ∷ 78 ∷ 66 ∷ 68 ∷ 10 ∷ 0 ∷ 1 ∷ 0 ∷ 1 ∷ 0 ∷ 0 ∷ 0 ∷ 0 ∷ 0 ∷ 0 ∷ 0 ∷ 2 ∷ 0 ∷ 0 ∷ 0 ∷ 1 ∷ 0 ∷ 0 ∷ 0 ∷ 1 ∷ 0 ∷ 0
    ∷ 0 ∷ 0 ∷ 0 ∷ 0 ∷ 0 ∷ 0 ∷ 0 ∷ 0 ∷ 0 ∷ 4
    ∷ 0 ∷ 0 ∷ 0 ∷ 1 ∷ 120 ∷ 0 ∷ 0 ∷ 0 ∷ 1 ∷ 121
    ∷ 0 ∷ 0 ∷ 0 ∷ 0 ∷ 2
    ∷ 0 ∷ 0 ∷ 0 ∷ 1 ∷ 2 ∷ 0 ∷ 0 ∷ 0 ∷ 3
    ∷ 0 ∷ 2 ∷ 2 ∷ 0 ∷ 0 ∷ 0 ∷ 0 ∷ 0 ∷ 0 ∷ 0 ∷ 0 ∷ 0 ∷ 0 ∷ 0 ∷ 0 ∷ 0 ∷ 0 ∷ 0 ∷ 0 ∷ 0 ∷ 0 ∷ 0 ∷ 0 ∷ 0 ∷ 0 ∷ 0 ∷ 2 ∷ 0 ∷ 0 ∷ 0
    ∷ 11 ∷ 0 ∷ 0 ∷ 0 ∷ 0 ∷ 0 ∷ 0 ∷ 0 ∷ 0
    ∷ 1 ∷ 2 ∷ 2 ∷ 0 ∷ 0 ∷ 0 ∷ 0 ∷ 0 ∷ 0 ∷ 0 ∷ 0 ∷ 0 ∷ 0 ∷ 0 ∷ 0 ∷ 0 ∷ 0 ∷ 0 ∷ 0 ∷ 0 ∷ 0 ∷ 0 ∷ 1 ∷ 0 ∷ 0 ∷ 0 ∷ 4 ∷ 0 ∷ 0 ∷ 0
    ∷ 10 ∷ 0 ∷ 0 ∷ 0 ∷ 0 ∷ 12 ∷ 204 ∷ 204 ∷ 205
    ∷ 8 ∷ 2 ∷ 2 ∷ 0 ∷ 0 ∷ 0 ∷ 0 ∷ 0 ∷ 0 ∷ 0 ∷ 1 ∷ 0 ∷ 0 ∷ 0 ∷ 0 ∷ 0 ∷ 0 ∷ 0 ∷ 0 ∷ 0 ∷ 0 ∷ 0 ∷ 0 ∷ 0 ∷ 0 ∷ 0 ∷ 4 ∷ 0 ∷ 0 ∷ 0
    ∷ 8 ∷ 0 ∷ 0 ∷ 0 ∷ 0 ∷ 12 ∷ 204 ∷ 204 ∷ 206
    ∷ 4 ∷ 2 ∷ 2 ∷ 0 ∷ 0 ∷ 0 ∷ 2 ∷ 0 ∷ 0 ∷ 0 ∷ 0 ∷ 0 ∷ 0 ∷ 0 ∷ 0 ∷ 0 ∷ 0 ∷ 0 ∷ 0 ∷ 0 ∷ 0 ∷ 0 ∷ 0 ∷ 0 ∷ 0 ∷ 0 ∷ 3 ∷ 0 ∷ 0 ∷ 0
    ∷ 12 ∷ 0 ∷ 0 ∷ 0 ∷ 0 ∷ 12 ∷ 204 ∷ 204 ∷ 205 ∷ []

and : (a b : Bool) → (a && b) ≡ true → (a ≡ true) × (b ≡ true)
and true b e = (refl, e)
and false b e = absurd cc

small : (bytes : List ℕ) → list_all (λ b. nat_lt b 256) bytes ≡ true → IsBytes bytes
small [] e i = omega arith
small (b ∷ bytes) e zero = ltb-true _ _ (and (nat_lt b 256) (list_all (λ b. nat_lt b 256) bytes) e).0
small (b ∷ bytes) e (suc i) = small bytes (and (nat_lt b 256) (list_all (λ b. nat_lt b 256) bytes) e).1 i

its_fault : ImageFaultAt broken (at.Table 177 214748366 214748365)
unfolding broken image_piece later_lists head_piece counts_piece entry_counts later_counts name_by input_piece output_piece op_by op_operands op_number corrected signature modulo
its_fault = (left.Table 43 214748366 214748365, all_fails image_piece image_law broken (left.Table 43 214748366 214748365) (small broken refl) refl, refl)

too_short : ImageFaultAt (86 ∷ 67 ∷ 80 ∷ 65 ∷ 78 ∷ 66 ∷ 68 ∷ 10 ∷ 0 ∷ []) (at.Short 9)
unfolding image_piece later_lists head_piece counts_piece entry_counts later_counts
too_short = (
  left.Short,
  all_fails image_piece image_law (86 ∷ 67 ∷ 80 ∷ 65 ∷ 78 ∷ 66 ∷ 68 ∷ 10 ∷ 0 ∷ []) left.Short
      (small (86 ∷ 67 ∷ 80 ∷ 65 ∷ 78 ∷ 66 ∷ 68 ∷ 10 ∷ 0 ∷ []) refl) refl,
  refl,
)
