-- Sections: the laws of each piece of the image, a line for each field.
use Rattle.std.proofs.Common.{◌≡◌, ℕ, zero, suc, ◌+◌, ◌*◌, ◌^◌, ◌<◌, ◌==◌, ◌&&◌, nat_lt, nat_le, ℤ, Bool, true, cond, List, length, map, Some, None, refl, sym, ap, subst, ◌∙◌, arith}
use Rattle.std.specs.Int.{byte_len, w16, w32, w64, cast_signed, cast_unsigned}
use mir.Val.{SFits}
use Rattle.std.proofs.lemmas.Bool.{eqb-true}
use Rattle.std.proofs.lemmas.Int.{to_z-of_z, of_z-to_z}
use Rattle.std.proofs.Math.Facts.{sfits_to_z, Fits-of_z}
use Rattle.vcp_base.specs.declared.ty.Ty.{Ty}
use Rattle.vcp_base.specs.declared.ty.Ty.TheVariants as ty
use Rattle.vcp_base.specs.declared.kind.Kind.{Kind}
use Rattle.vcp_base.specs.declared.kind.Kind.TheVariants as kind
use Rattle.vcp_base.specs.declared.code.Profile.{Profile}
use Rattle.vcp_base.specs.declared.code.Profile.TheVariants as profile
use Rattle.vcp_base.specs.Code.{admits}
use Rattle.vcp_base.specs.Limits.{seeds, most_step, most_names, most_name_bytes, most_cells, most_turn_nodes, most_operations}
use Rattle.vcp_base.specs.Spellings.{ty_code, kind_code}
use Rattle.vcp_base.specs.Types.{fits}
use Rattle.op_graph.specs.declared.op.Op.{Op}
use Rattle.op_graph.specs.declared.op.Var.{Var}
use Rattle.op_graph.specs.declared.op.Outlet.{Outlet}
use Rattle.op_graph.specs.declared.op.Cell.{Cell}
use Rattle.op_graph.specs.declared.op.TurnNode.{TurnNode}
use Rattle.op_graph.specs.Rules.{place_of, entry_of, kind_fits, from_fits, ty_fits, reads_as, operand_fits, imm_fits, turn_fits}
use Rattle.op_graph.specs.declared.rules.Place.{Place}
use Rattle.image_file.specs.declared.fields.fault.FieldFault.{FieldFault}
use Rattle.image_file.specs.declared.fields.fault.FieldFault.TheVariants.{Version, Field, Operand, Table}
use Rattle.image_file.specs.Codes.{version_code, version_of, correction_width, type_of, kind_of}
use Rattle.image_file.specs.Fields.{Anything, Is16, Is32, number16, number32, number, signed, type_field, kind_field, operand, residue, version_field}
use Rattle.image_file.specs.Entries.{rises, name_fits, name_by, lower, name_piece, input_piece, output_piece, cell_piece, turn_piece}
use Rattle.image_file.specs.Image.{Head, counts_piece, head_piece, Said, op_of, correction_of, corrected, op_by, op_piece, said, head_with, head_of, parts_with, image_piece, entry_counts, later_counts, op_number, op_operands, later_lists}
use Rattle.image_file.proofs.PieceLaws.{Lawful, before_law, whole_law, fixed_law, byte_law, field_law, text_law, listed_law, Codes, IsWide, wide16, wide32, wide64}

kind_stands : (n : ℕ) (a : Kind) → kind_of n ≡ Some a → kind_code a ≡ n
kind_stands zero a e = let same : kind.Input ≡ a = cc in ap kind_code (sym same)
kind_stands (suc zero) a e = let same : kind.Const ≡ a = cc in ap kind_code (sym same)
kind_stands (suc (suc zero)) a e = let same : kind.Load ≡ a = cc in ap kind_code (sym same)
kind_stands (suc (suc (suc zero))) a e = let same : kind.Store ≡ a = cc in ap kind_code (sym same)
kind_stands (suc (suc (suc (suc zero)))) a e = let same : kind.Out ≡ a = cc in ap kind_code (sym same)
kind_stands (suc (suc (suc (suc (suc zero))))) a e = let same : kind.Conv ≡ a = cc in ap kind_code (sym same)
kind_stands (suc (suc (suc (suc (suc (suc zero)))))) a e = let same : kind.Neg ≡ a = cc in ap kind_code (sym same)
kind_stands (suc (suc (suc (suc (suc (suc (suc zero))))))) a e = let same : kind.Not ≡ a = cc in ap kind_code (sym same)
kind_stands (suc (suc (suc (suc (suc (suc (suc (suc zero)))))))) a e = let same : kind.Add ≡ a = cc in ap kind_code (sym same)
kind_stands (suc (suc (suc (suc (suc (suc (suc (suc (suc zero))))))))) a e = let same : kind.Sub ≡ a = cc in ap kind_code (sym same)
kind_stands (suc (suc (suc (suc (suc (suc (suc (suc (suc (suc zero)))))))))) a e = let same : kind.Mul ≡ a = cc in ap kind_code (sym same)
kind_stands (suc (suc (suc (suc (suc (suc (suc (suc (suc (suc (suc zero))))))))))) a e = let same : kind.Div ≡ a = cc in ap kind_code (sym same)
kind_stands (suc (suc (suc (suc (suc (suc (suc (suc (suc (suc (suc (suc zero)))))))))))) a e = let same : kind.Mod ≡ a = cc in ap kind_code (sym same)
kind_stands (suc (suc (suc (suc (suc (suc (suc (suc (suc (suc (suc (suc (suc zero))))))))))))) a e = let same : kind.Eq ≡ a = cc in ap kind_code (sym same)
kind_stands (suc (suc (suc (suc (suc (suc (suc (suc (suc (suc (suc (suc (suc (suc zero)))))))))))))) a e = let same : kind.Lt ≡ a = cc in
    ap kind_code (sym same)
kind_stands (suc (suc (suc (suc (suc (suc (suc (suc (suc (suc (suc (suc (suc (suc (suc zero))))))))))))))) a e = let same : kind.And ≡ a = cc in
    ap kind_code (sym same)
kind_stands (suc (suc (suc (suc (suc (suc (suc (suc (suc (suc (suc (suc (suc (suc (suc (suc zero)))))))))))))))) a e = let same : kind.Or ≡ a = cc in
    ap kind_code (sym same)
kind_stands (suc (suc (suc (suc (suc (suc (suc (suc (suc (suc (suc (suc (suc (suc (suc (suc (suc zero))))))))))))))))) a e = let same : kind.Xor ≡ a = cc in
    ap kind_code (sym same)
kind_stands (suc (suc (suc (suc (suc (suc (suc (suc (suc (suc (suc (suc (suc (suc (suc (suc (suc (suc zero)))))))))))))))))) a e = let same : kind.Sel ≡ a =
    cc in ap kind_code (sym same)
kind_stands (suc (suc (suc (suc (suc (suc (suc (suc (suc (suc (suc (suc (suc (suc (suc (suc (suc (suc (suc n))))))))))))))))))) a e = absurd cc

kind_again : (a : Kind) → kind_of (kind_code a) ≡ Some a
kind_again kind.Input = refl
kind_again kind.Const = refl
kind_again kind.Load = refl
kind_again kind.Store = refl
kind_again kind.Out = refl
kind_again kind.Conv = refl
kind_again kind.Neg = refl
kind_again kind.Not = refl
kind_again kind.Add = refl
kind_again kind.Sub = refl
kind_again kind.Mul = refl
kind_again kind.Div = refl
kind_again kind.Mod = refl
kind_again kind.Eq = refl
kind_again kind.Lt = refl
kind_again kind.And = refl
kind_again kind.Or = refl
kind_again kind.Xor = refl
kind_again kind.Sel = refl

kind_below : (a : Kind) → kind_code a < 256
kind_below kind.Input = omega arith
kind_below kind.Const = omega arith
kind_below kind.Load = omega arith
kind_below kind.Store = omega arith
kind_below kind.Out = omega arith
kind_below kind.Conv = omega arith
kind_below kind.Neg = omega arith
kind_below kind.Not = omega arith
kind_below kind.Add = omega arith
kind_below kind.Sub = omega arith
kind_below kind.Mul = omega arith
kind_below kind.Div = omega arith
kind_below kind.Mod = omega arith
kind_below kind.Eq = omega arith
kind_below kind.Lt = omega arith
kind_below kind.And = omega arith
kind_below kind.Or = omega arith
kind_below kind.Xor = omega arith
kind_below kind.Sel = omega arith

no_type : (a : Ty) → None ≡ Some a → ⊥
no_type a e = cc

ty_stands : (p : Profile) (n : ℕ) (a : Ty) → type_of p n ≡ Some a → (ty_code a ≡ n) × (admits p a ≡ true)
ty_stands p zero a e = let same : ty.Bool ≡ a = cc in subst (λ (t : Ty). (ty_code t ≡ 0) × (admits p t ≡ true)) same (refl, refl)
ty_stands p (suc zero) a e = let same : ty.Int ≡ a = cc in subst (λ (t : Ty). (ty_code t ≡ 1) × (admits p t ≡ true)) same (refl, refl)
ty_stands p (suc (suc zero)) a e = let same : ty.Dint ≡ a = cc in subst (λ (t : Ty). (ty_code t ≡ 2) × (admits p t ≡ true)) same (refl, refl)
ty_stands profile.Narrow (suc (suc (suc zero))) a e = absurd (no_type a e)
ty_stands profile.Wide (suc (suc (suc zero))) a e = let same : ty.Lint ≡ a = cc in
    subst (λ (t : Ty). (ty_code t ≡ 3) × (admits profile.Wide t ≡ true)) same (refl, refl)
ty_stands p (suc (suc (suc (suc n)))) a e = absurd (no_type a e)

ty_again : (p : Profile) (a : Ty) → admits p a ≡ true → type_of p (ty_code a) ≡ Some a
ty_again p ty.Bool h = refl
ty_again p ty.Int h = refl
ty_again p ty.Dint h = refl
ty_again p ty.Lint h = ap (λ (b : Bool). cond b (Some ty.Lint) None) h

ty_below : (a : Ty) → ty_code a < 256
ty_below ty.Bool = omega arith
ty_below ty.Int = omega arith
ty_below ty.Dint = omega arith
ty_below ty.Lint = omega arith

version_stands : (n : ℕ) (p : Profile) → version_of n ≡ Some p → version_code p ≡ n
version_stands zero p e = absurd cc
version_stands (suc zero) p e = let same : profile.Narrow ≡ p = cc in ap version_code (sym same)
version_stands (suc (suc zero)) p e = let same : profile.Wide ≡ p = cc in ap version_code (sym same)
version_stands (suc (suc (suc n))) p e = absurd cc

version_again : (p : Profile) → version_of (version_code p) ≡ Some p
version_again profile.Narrow = refl
version_again profile.Wide = refl

version_below : (p : Profile) → version_code p < 2 ^ 16
version_below profile.Narrow = omega arith
version_below profile.Wide = omega arith

version_codes : Codes version_of version_code Anything (2 ^ 16)
version_codes = record { stands = λ n a lt e. (version_stands n a e, tt); again = λ a h. version_again a; below = λ a h. version_below a }

kind_codes : Codes kind_of kind_code Anything 256
kind_codes = record { stands = λ n a lt e. (kind_stands n a e, tt); again = λ a h. kind_again a; below = λ a h. kind_below a }

ty_codes : (p : Profile) → Codes (type_of p) ty_code (λ t. admits p t ≡ true) 256
ty_codes p = record { stands = λ n a lt e. ty_stands p n a e; again = λ a h. ty_again p a h; below = λ a h. ty_below a }

some_is : (n a : ℕ) → Some n ≡ Some a → n ≡ a
some_is n a e = cc

some_int : (n a : ℤ) → Some n ≡ Some a → n ≡ a
some_int n a e = cc

codes16 : Codes (λ n. Some n) (λ n. n) Is16 (2 ^ 16)
codes16 = record { stands = λ n a lt e. let same : n ≡ a = some_is n a e in (sym same, subst Is16 same lt); again = λ a h. refl; below = λ a h. h }

codes32 : Codes (λ n. Some n) (λ n. n) Is32 (2 ^ 32)
codes32 = record { stands = λ n a lt e. let same : n ≡ a = some_is n a e in (sym same, subst Is32 same lt); again = λ a h. refl; below = λ a h. h }

signed_codes : Codes (λ n. Some (cast_signed w64 n)) (cast_unsigned w64) (SFits w64) (2 ^ 64)
signed_codes = record {
  stands = λ n a lt e. let same : cast_signed w64 n ≡ a = some_int _ _ e in
      (ap (cast_unsigned w64) (sym same) ∙ of_z-to_z w64 n lt, subst (SFits w64) same (sfits_to_z {w = w64} {n = n} (record { fits = lt })));
  again = λ a h. ap (λ z. Some z) (to_z-of_z w64 a h);
  below = λ a h. (Fits-of_z {w = w64} {z = a} h).fits;
}

-- ---- kinds of fields

law16 : (ok : ℕ → Bool) (d : ℕ → ℕ → FieldFault) → Lawful Anything (number16 ok d)
law16 ok d = field_law w16 wide16 (λ n. Some n) (λ n. n) Is16 codes16 ok d

law32 : (ok : ℕ → Bool) (d : ℕ → ℕ → FieldFault) → Lawful Anything (number32 ok d)
law32 ok d = field_law w32 wide32 (λ n. Some n) (λ n. n) Is32 codes32 ok d

number_law : (ok : ℕ → Bool) → Lawful Anything (number ok)
number_law ok = law32 ok (λ left n. Field left)

operand_law : (ok : ℕ → Bool) → Lawful Anything (operand ok)
operand_law ok = law32 ok (λ left n. Operand left)

signed_law : (ok : ℤ → Bool) → Lawful Anything (signed ok)
signed_law ok = field_law w64 wide64 (λ n. Some (cast_signed w64 n)) (cast_unsigned w64) (SFits w64) signed_codes ok (λ left n. Field left)

type_law : (p : Profile) (ok : Ty → Bool) → Lawful Anything (type_field p ok)
type_law p ok = byte_law (type_of p) ty_code (λ t. admits p t ≡ true) (ty_codes p) ok (λ left. Field left)

version_law : Lawful Anything version_field
version_law = field_law w16 wide16 version_of version_code Anything version_codes (λ p. true) (λ left n. Version left)

-- numbers of the width of a correction
abbrev IsResidue : Profile → ℕ → Type 0
IsResidue p n = n < 2 ^ (8 * byte_len (correction_width p))

residue_wide : (p : Profile) → IsWide (correction_width p) (2 ^ (8 * byte_len (correction_width p)))
residue_wide profile.Narrow = wide32
residue_wide profile.Wide = wide64

residue_codes : (p : Profile) → Codes (λ n. Some n) (λ n. n) (IsResidue p) (2 ^ (8 * byte_len (correction_width p)))
residue_codes p =
    record { stands = λ n a lt e. let same : n ≡ a = some_is n a e in (sym same, subst (IsResidue p) same lt); again = λ a h. refl; below = λ a h. h }

residue_law : (p : Profile) (expected : ℕ) → Lawful Anything (residue p expected)
residue_law p expected =
    field_law (correction_width p) (residue_wide p) (λ n. Some n) (λ n. n) (IsResidue p) (residue_codes p) (λ n. n == expected)
    (λ left n. Table left n expected)

kind_law : (ok : Kind → Bool) → Lawful Anything (kind_field ok)
kind_law ok = byte_law kind_of kind_code Anything kind_codes ok (λ left. Field left)

abbrev input_with : ℕ → Ty → Var
input_with name t = record { name = name; ty = t }

input_is : (name name' : ℕ) (t t' : Ty) → name ≡ name' → t ≡ t' → input_with name t ≡ input_with name' t'
input_is name name' t t' e0 e1 = ap (λ x. input_with x t) e0 ∙ ap (λ x. input_with name' x) e1

pub input_law : (p : Profile) (names : ℕ) (earlier : List Var) → Lawful Anything (input_piece p names earlier)
unfolding input_piece
input_law p names earlier =
    before_law Anything _ _ _ (number_law (λ n. nat_lt n names && rises (λ w. w.name) earlier n)) (λ name hname.
    before_law _ _ _ _ (type_law p (λ t. true)) (λ t ht.
    whole_law _ (input_with name t) ((tt, refl), refl) (λ z meant. input_is _ _ _ _ meant.0.1 meant.1)))

abbrev output_with : ℕ → Ty → ℕ → Outlet
output_with name t op = record { name = name; ty = t; op = op }

output_is : (name name' : ℕ) (t t' : Ty) (op op' : ℕ) → name ≡ name' → t ≡ t' → op ≡ op' → output_with name t op ≡ output_with name' t' op'
output_is name name' t t' op op' e0 e1 e2 = ap (λ x. output_with x t op) e0 ∙ ap (λ x. output_with name' x op) e1 ∙ ap (λ x. output_with name' t' x) e2

pub output_law : (p : Profile) (names operations : ℕ) (earlier : List Outlet) → Lawful Anything (output_piece p names operations earlier)
unfolding output_piece
output_law p names operations earlier =
    before_law Anything _ _ _ (number_law (λ n. nat_lt n names && rises (λ w. w.name) earlier n)) (λ name hname.
    before_law _ _ _ _ (type_law p (λ t. true)) (λ t ht.
    before_law _ _ _ _ (number_law (λ n. nat_lt n operations && rises (λ w. w.op) earlier n)) (λ op hop.
    whole_law _ (output_with name t op) (((tt, refl), refl), refl) (λ z meant. output_is _ _ _ _ _ _ meant.0.0.1 meant.0.1 meant.1))))

abbrev cell_with : ℕ → Ty → ℤ → ℕ → ℕ → Cell
cell_with name t init load store = record { name = name; ty = t; init = init; load = load; store = store }

cell_is : (name name' : ℕ) (t t' : Ty) (init init' : ℤ) (load load' : ℕ) (store store' : ℕ) → name ≡ name' → t ≡ t' → init ≡ init' → load ≡ load'
    → store ≡ store' → cell_with name t init load store ≡ cell_with name' t' init' load' store'
cell_is name name' t t' init init' load load' store store' e0 e1 e2 e3 e4 = ap (λ x. cell_with x t init load store) e0
    ∙ ap (λ x. cell_with name' x init load store) e1 ∙ ap (λ x. cell_with name' t' x load store) e2 ∙ ap (λ x. cell_with name' t' init' x store) e3
    ∙ ap (λ x. cell_with name' t' init' load' x) e4

pub cell_law : (p : Profile) (names operations : ℕ) (earlier : List Cell) → Lawful Anything (cell_piece p names operations earlier)
unfolding cell_piece
cell_law p names operations earlier =
    before_law Anything _ _ _ (number_law (λ n. nat_lt n names)) (λ name hname.
    before_law _ _ _ _ (type_law p (λ t. true)) (λ t ht.
    before_law _ _ _ _ (signed_law (fits t)) (λ init hinit.
    before_law _ _ _ _ (number_law (λ n. nat_lt n operations && rises (λ c. c.load) earlier n)) (λ load hload.
    before_law _ _ _ _ (number_law (λ n. nat_lt load n && nat_lt n operations && rises (λ c. c.store) earlier n)) (λ store hstore.
    whole_law _ (cell_with name t init load store) (((((tt, refl), refl), refl), refl), refl)
    (λ z meant. cell_is _ _ _ _ _ _ _ _ _ _ meant.0.0.0.0.1 meant.0.0.0.1 meant.0.0.1 meant.0.1 meant.1))))))

abbrev turn_with : ℕ → ℕ → ℤ → TurnNode
turn_with parent name value = record { parent = parent; name = name; value = value }

turn_is : (parent parent' : ℕ) (name name' : ℕ) (value value' : ℤ) → parent ≡ parent' → name ≡ name' → value ≡ value'
    → turn_with parent name value ≡ turn_with parent' name' value'
turn_is parent parent' name name' value value' e0 e1 e2 = ap (λ x. turn_with x name value) e0 ∙ ap (λ x. turn_with parent' x value) e1
    ∙ ap (λ x. turn_with parent' name' x) e2

pub turn_law : (names : ℕ) (earlier : List TurnNode) → Lawful Anything (turn_piece names earlier)
unfolding turn_piece
turn_law names earlier =
    before_law Anything _ _ _ (number_law (λ n. nat_le n (length earlier))) (λ parent hparent.
    before_law _ _ _ _ (number_law (λ n. nat_lt n names)) (λ name hname.
    before_law _ _ _ _ (signed_law (λ v. true)) (λ value hvalue.
    whole_law _ (turn_with parent name value) (((tt, refl), refl), refl) (λ z meant. turn_is _ _ _ _ _ _ meant.0.0.1 meant.0.1 meant.1))))

name_by_law : (keys : List (List ℕ)) → Lawful Anything (name_by keys)
unfolding name_by
name_by_law keys =
    before_law Anything _ _ _ (number_law (λ n. nat_le 1 n && nat_le n most_name_bytes)) (λ n hn.
    before_law _ _ _ _ (text_law n (name_fits keys) (λ left. Field left)) (λ t ht.
    whole_law _ t ((tt, ht.0), refl) (λ z meant. meant.1)))

pub name_law : (earlier : List (List ℕ)) → Lawful Anything (name_piece earlier)
name_law earlier = name_by_law (map lower earlier)

head_is : (p p' : Profile) (step step' : ℕ) (seed seed' : ℕ) (names names' : ℕ) (inputs inputs' : ℕ) (outputs outputs' : ℕ) (cells cells' : ℕ)
    (turn_nodes turn_nodes' : ℕ)
    (operations operations' : ℕ) → p ≡ p' → step ≡ step' → seed ≡ seed' → names ≡ names' → inputs ≡ inputs' → outputs ≡ outputs' → cells ≡ cells' → turn_nodes
    ≡ turn_nodes' → operations ≡ operations' → head_with p step seed names inputs outputs cells turn_nodes operations
    ≡ head_with p' step' seed' names' inputs' outputs' cells' turn_nodes' operations'
head_is p p' step step' seed seed' names names' inputs inputs' outputs outputs' cells cells' turn_nodes turn_nodes' operations operations' e0 e1 e2 e3 e4
    e5 e6 e7 e8 =
    ap (λ x. head_with x step seed names inputs outputs cells turn_nodes operations) e0
    ∙ ap (λ x. head_with p' x seed names inputs outputs cells turn_nodes operations) e1
    ∙ ap (λ x. head_with p' step' x names inputs outputs cells turn_nodes operations) e2
    ∙ ap (λ x. head_with p' step' seed' x inputs outputs cells turn_nodes operations) e3
    ∙ ap (λ x. head_with p' step' seed' names' x outputs cells turn_nodes operations) e4
    ∙ ap (λ x. head_with p' step' seed' names' inputs' x cells turn_nodes operations) e5
    ∙ ap (λ x. head_with p' step' seed' names' inputs' outputs' x turn_nodes operations) e6
    ∙ ap (λ x. head_with p' step' seed' names' inputs' outputs' cells' x operations) e7
    ∙ ap (λ x. head_with p' step' seed' names' inputs' outputs' cells' turn_nodes' x) e8

counts_law : Lawful Anything counts_piece
unfolding counts_piece entry_counts later_counts
counts_law =
    before_law Anything _ (λ h. h.profile) _ version_law (λ p hp.
    before_law _ _ _ _ (law16 (λ n. nat_le 1 n && nat_le n most_step) (λ left n. Field left)) (λ step hstep.
    before_law _ _ _ _ (number_law (λ n. nat_lt n seeds)) (λ seed hseed.
    before_law _ _ _ _ (number_law (λ n. nat_le n most_names)) (λ names hnames.
    before_law _ _ _ _ (number_law (λ n. nat_le n most_names)) (λ inputs hinputs.
    before_law _ _ _ _ (number_law (λ n. nat_le n most_names)) (λ outputs houtputs.
    before_law _ _ _ _ (number_law (λ n. nat_le n most_cells)) (λ cells hcells.
    before_law _ _ _ _ (number_law (λ n. nat_le n most_turn_nodes)) (λ turn_nodes hturn_nodes.
    before_law _ _ _ _ (number_law (λ n. nat_le (inputs + outputs + 2 * cells) n && nat_le n most_operations)) (λ operations hoperations.
    whole_law _ (head_with p step seed names inputs outputs cells turn_nodes operations) (
      (
        (((((((tt, refl), refl), refl), refl), refl), refl), refl),
        refl,
      ),
      refl,
    ) (λ z meant. head_is _ _ _ _ _ _ _ _ _ _ _ _ _ _ _ _ _ _ meant.0.0.0.0.0.0.0.0.1 meant.0.0.0.0.0.0.0.1 meant.0.0.0.0.0.0.1
    meant.0.0.0.0.0.1 meant.0.0.0.0.1 meant.0.0.0.1 meant.0.0.1 meant.0.1 meant.1))))))))))

pub head_law : Lawful Anything head_piece
unfolding head_piece
head_law = fixed_law _ _ _
    (fixed_law _ _ _ (fixed_law _ _ _ (fixed_law _ _ _ (fixed_law _ _ _ (fixed_law _ _ _ (fixed_law _ _ _ (fixed_law _ _ _ counts_law)))))))

abbrev op_with : Kind → Ty → Ty → ℕ → ℕ → ℕ → ℤ → ℕ → ℕ → ℕ → Op
op_with k from to a b c imm line col turn = op_of k from to a b c imm line col turn

op_is : (k k' : Kind) (from from' : Ty) (to to' : Ty) (a a' : ℕ) (b b' : ℕ) (c c' : ℕ) (imm imm' : ℤ) (line line' : ℕ) (col col' : ℕ) (turn turn' : ℕ) → k ≡ k'
    → from ≡ from' → to ≡ to' → a ≡ a' → b ≡ b' → c ≡ c' → imm ≡ imm' → line ≡ line' → col ≡ col' → turn ≡ turn'
    → op_with k from to a b c imm line col turn ≡ op_with k' from' to' a' b' c' imm' line' col' turn'
op_is k k' from from' to to' a a' b b' c c' imm imm' line line' col col' turn turn' e0 e1 e2 e3 e4 e5 e6 e7 e8 e9 =
    ap (λ x. op_with x from to a b c imm line col turn) e0 ∙ ap (λ x. op_with k' x to a b c imm line col turn) e1
    ∙ ap (λ x. op_with k' from' x a b c imm line col turn) e2 ∙ ap (λ x. op_with k' from' to' x b c imm line col turn) e3
    ∙ ap (λ x. op_with k' from' to' a' x c imm line col turn) e4 ∙ ap (λ x. op_with k' from' to' a' b' x imm line col turn) e5
    ∙ ap (λ x. op_with k' from' to' a' b' c' x line col turn) e6 ∙ ap (λ x. op_with k' from' to' a' b' c' imm' x col turn) e7
    ∙ ap (λ x. op_with k' from' to' a' b' c' imm' line' x turn) e8 ∙ ap (λ x. op_with k' from' to' a' b' c' imm' line' col' x) e9

op_by_law : (p : Place) (s : Said) (earlier : List Op) → Lawful Anything (op_by p s earlier)
unfolding op_by op_operands op_number corrected
op_by_law p s earlier =
    before_law Anything _ _ _ (kind_law (kind_fits p)) (λ k hk.
    before_law _ _ _ _ (type_law s.profile (from_fits (entry_of p k) k)) (λ from hfrom.
    before_law _ _ _ _ (type_law s.profile (ty_fits k from)) (λ to hto.
    before_law _ _ _ _ (operand_law (operand_fits earlier (reads_as k from 0))) (λ a ha.
    before_law _ _ _ _ (operand_law (operand_fits earlier (reads_as k from 1))) (λ b hb.
    before_law _ _ _ _ (operand_law (operand_fits earlier (reads_as k from 2))) (λ c hc.
    before_law _ _ _ _ (signed_law (imm_fits (entry_of p k) k to)) (λ imm himm.
    before_law _ _ _ _ (number_law (λ n. true)) (λ line hline.
    before_law _ _ _ _ (number_law (λ n. true)) (λ col hcol.
    before_law _ _ _ _ (number_law (turn_fits (entry_of p k) s.turn_nodes)) (λ turn hturn.
    before_law _ _ (λ o. correction_of s earlier o) _ (residue_law s.profile (correction_of s earlier (op_of k from to a b c imm line col turn))) (λ n hn.
    whole_law _ (op_with k from to a b c imm line col turn) (
      ((((((((((tt, refl), refl), refl), refl), refl), refl), refl), refl), refl), refl),
      sym
          (eqb-true n _ hn.1),
    ) (λ z meant. op_is _ _ _ _ _ _ _ _ _ _ _ _ _ _ _ _ _ _ _ _ meant.0.0.0.0.0.0.0.0.0.0.1 meant.0.0.0.0.0.0.0.0.0.1
    meant.0.0.0.0.0.0.0.0.1 meant.0.0.0.0.0.0.0.1 meant.0.0.0.0.0.0.1 meant.0.0.0.0.0.1 meant.0.0.0.0.1 meant.0.0.0.1 meant.0.0.1 meant.0.1))))))))))))

pub op_law : (s : Said) (earlier : List Op) → Lawful Anything (op_piece s earlier)
op_law s earlier = op_by_law (place_of s.scope (length earlier)) s earlier

parts_is : (p p' : Profile) (step step' : ℕ) (seed seed' : ℕ) (names names' : List (List ℕ)) (inputs inputs' : List Var) (outputs outputs' : List Outlet)
    (cs cs' : List Cell) (turn_nodes turn_nodes' : List TurnNode)
    (operations operations' : List Op) → p ≡ p' → step ≡ step' → seed ≡ seed' → names ≡ names' → inputs ≡ inputs' → outputs ≡ outputs' → cs ≡ cs' → turn_nodes
    ≡ turn_nodes' → operations ≡ operations' → parts_with p step seed names inputs outputs cs turn_nodes operations
    ≡ parts_with p' step' seed' names' inputs' outputs' cs' turn_nodes' operations'
parts_is p p' step step' seed seed' names names' inputs inputs' outputs outputs' cs cs' turn_nodes turn_nodes' operations operations' e0 e1 e2 e3 e4 e5 e6
    e7 e8 =
    ap (λ x. parts_with x step seed names inputs outputs cs turn_nodes operations) e0
    ∙ ap (λ x. parts_with p' x seed names inputs outputs cs turn_nodes operations) e1
    ∙ ap (λ x. parts_with p' step' x names inputs outputs cs turn_nodes operations) e2
    ∙ ap (λ x. parts_with p' step' seed' x inputs outputs cs turn_nodes operations) e3
    ∙ ap (λ x. parts_with p' step' seed' names' x outputs cs turn_nodes operations) e4
    ∙ ap (λ x. parts_with p' step' seed' names' inputs' x cs turn_nodes operations) e5
    ∙ ap (λ x. parts_with p' step' seed' names' inputs' outputs' x turn_nodes operations) e6
    ∙ ap (λ x. parts_with p' step' seed' names' inputs' outputs' cs' x operations) e7
    ∙ ap (λ x. parts_with p' step' seed' names' inputs' outputs' cs' turn_nodes' x) e8

pub image_law : Lawful Anything image_piece
unfolding image_piece later_lists
image_law =
    before_law Anything _ head_of _ head_law (λ h hh.
    before_law _ _ _ _ (listed_law h.names name_piece name_law) (λ ns hns.
    before_law _ _ _ _ (listed_law h.inputs (input_piece h.profile h.names) (input_law h.profile h.names)) (λ is his.
    before_law _ _ _ _ (listed_law h.outputs (output_piece h.profile h.names h.operations) (output_law h.profile h.names h.operations)) (λ os hos.
    before_law _ _ _ _ (listed_law h.cells (cell_piece h.profile h.names h.operations) (cell_law h.profile h.names h.operations)) (λ cs hcs.
    before_law _ _ _ _ (listed_law h.turn_nodes (turn_piece h.names) (turn_law h.names)) (λ ts hts.
    before_law _ _ _ _
    (listed_law h.operations (op_piece (said h.profile h.seed h.step is os cs h.turn_nodes)) (op_law (said h.profile h.seed h.step is os cs h.turn_nodes)))
    (λ ks hks.
    whole_law _ (parts_with h.profile h.step h.seed ns is os cs ts ks)
    (((((((tt, head_is _ _ _ _ _ _ _ _ _ _ _ _ _ _ _ _ _ _ refl refl refl hns.0 his.0 hos.0 hcs.0 hts.0 hks.0), refl), refl), refl), refl), refl), refl)
    (λ z meant. parts_is _ _ _ _ _ _ _ _ _ _ _ _ _ _ _ _ _ _ (ap (λ (x : Head). x.profile) meant.0.0.0.0.0.0.1) (ap (λ (x : Head). x.step) meant.0.0.0.0.0.0.1)
    (ap (λ (x : Head). x.seed) meant.0.0.0.0.0.0.1) meant.0.0.0.0.0.1 meant.0.0.0.0.1 meant.0.0.0.1 meant.0.0.1 meant.0.1 meant.1))))))))
