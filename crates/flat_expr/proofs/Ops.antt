-- Ops: operations that the rules allow, and the places of operands.
use Rattle.std.proofs.Common.{◌≡◌, ℕ, zero, suc, ◌<◌, ◌≤◌, ℤ, pos, Bool, true, false, ◌&&◌, List, [], ◌∷◌, ◌++◌, length, slice_get, Option, Some, None, refl}
use Rattle.std.proofs.Common.{ap, ◌∙◌, arith, nat_le}
use Rattle.std.proofs.lemmas.Bool.Decides.{nat_tests}
use Rattle.std.proofs.lemmas.Option.{slice_get_within}
use Rattle.vcp_base.specs.declared.ty.Ty.{Ty}
use Rattle.vcp_base.specs.declared.ty.Ty.TheVariants as ty
use Rattle.vcp_base.specs.declared.kind.Kind.{Kind}
use Rattle.vcp_base.specs.declared.kind.Kind.TheVariants as kind
use Rattle.vcp_base.specs.Types.{within}
use Rattle.op_graph.specs.declared.op.Op.{Op}
use Rattle.op_graph.specs.Building.{nowhere}
use Rattle.op_graph.specs.Rules.{kind_fits, entry_of, imm_fits, reads_as, operand_fits, types_fit, is_number}
use Rattle.vcp_base.specs.Values.{at}
use Rattle.op_graph.specs.GraphRun.{own, read}
use Rattle.flat_expr.specs.State.{IsA, IsPlace, is_plain, is_arithmetic, is_comparison, reads}

-- what the rules and the run say of a plain kind
pub record Plain (k : Kind) : Type 0 where
  pub kind : kind_fits nowhere k ≡ true
  pub entry : entry_of nowhere k ≡ None
  pub imm : (to : Ty) → imm_fits None k to (pos 0) ≡ true
  pub reads : (from : Ty) (j : ℕ) → reads_as k from j ≡ reads k from j
  pub read : (cells vs : List ℤ) (imm : ℤ) (n : ℕ) → read cells vs k imm n ≡ at vs n
  pub own : (row : List ℤ) (imm : ℤ) → own row k imm ≡ imm

pub plain : (k : Kind) → is_plain k ≡ true → Plain k
plain kind.Input h = absurd cc
plain kind.Const h = absurd cc
plain kind.Load h = absurd cc
plain kind.Store h = absurd cc
plain kind.Out h = absurd cc
plain kind.Conv h = record { kind = refl; entry = refl; imm = λ to. refl; reads = λ from j. refl; read = λ cells vs imm n. refl; own = λ row imm. refl }
plain kind.Neg h = record { kind = refl; entry = refl; imm = λ to. refl; reads = λ from j. refl; read = λ cells vs imm n. refl; own = λ row imm. refl }
plain kind.Not h = record { kind = refl; entry = refl; imm = λ to. refl; reads = λ from j. refl; read = λ cells vs imm n. refl; own = λ row imm. refl }
plain kind.Add h = record { kind = refl; entry = refl; imm = λ to. refl; reads = λ from j. refl; read = λ cells vs imm n. refl; own = λ row imm. refl }
plain kind.Sub h = record { kind = refl; entry = refl; imm = λ to. refl; reads = λ from j. refl; read = λ cells vs imm n. refl; own = λ row imm. refl }
plain kind.Mul h = record { kind = refl; entry = refl; imm = λ to. refl; reads = λ from j. refl; read = λ cells vs imm n. refl; own = λ row imm. refl }
plain kind.Div h = record { kind = refl; entry = refl; imm = λ to. refl; reads = λ from j. refl; read = λ cells vs imm n. refl; own = λ row imm. refl }
plain kind.Mod h = record { kind = refl; entry = refl; imm = λ to. refl; reads = λ from j. refl; read = λ cells vs imm n. refl; own = λ row imm. refl }
plain kind.Eq h = record { kind = refl; entry = refl; imm = λ to. refl; reads = λ from j. refl; read = λ cells vs imm n. refl; own = λ row imm. refl }
plain kind.Lt h = record { kind = refl; entry = refl; imm = λ to. refl; reads = λ from j. refl; read = λ cells vs imm n. refl; own = λ row imm. refl }
plain kind.And h = record { kind = refl; entry = refl; imm = λ to. refl; reads = λ from j. refl; read = λ cells vs imm n. refl; own = λ row imm. refl }
plain kind.Or h = record { kind = refl; entry = refl; imm = λ to. refl; reads = λ from j. refl; read = λ cells vs imm n. refl; own = λ row imm. refl }
plain kind.Xor h = record { kind = refl; entry = refl; imm = λ to. refl; reads = λ from j. refl; read = λ cells vs imm n. refl; own = λ row imm. refl }
plain kind.Sel h = record { kind = refl; entry = refl; imm = λ to. refl; reads = λ from j. refl; read = λ cells vs imm n. refl; own = λ row imm. refl }

both_true : (a b : Bool) → (a && b) ≡ true → (a ≡ true) × (b ≡ true)
both_true true true h = (refl, refl)
both_true true false h = absurd cc
both_true false b h = absurd cc

pub get_push : {X : Type 0} (xs : List X) (y : X) (i : ℕ) → i < length xs → slice_get (xs ++ y ∷ []) i ≡ slice_get xs i
get_push [] y i lt = absurd (omega arith)
get_push (x ∷ xs) y zero lt = refl
get_push (x ∷ xs) y (suc i) lt = get_push xs y i (omega arith)

pub get_last : {X : Type 0} (xs : List X) (y : X) → slice_get (xs ++ y ∷ []) (length xs) ≡ Some y
get_last [] y = refl
get_last (x ∷ xs) y = get_last xs y

pub turn_is : (n m : ℕ) → n ≤ m → nat_le n m ≡ true
turn_is n m h = grind (arith, nat_tests)

-- ---- places

pub within_self : (t : Ty) → within t t ≡ true
within_self ty.Bool = refl
within_self ty.Int = refl
within_self ty.Dint = refl
within_self ty.Lint = refl

-- an operation that may be read as a type
pub record There (t : Ty) (ops : List Op) (k : ℕ) : Type 0 where
  pub op : Op
  pub is : slice_get ops k ≡ Some op
  pub type : within op.ty t ≡ true

there_of : (t : Ty) (ops : List Op) (k : ℕ) (o : Option Op) → slice_get ops k ≡ o → (elim o [ None ↦ false | Some op ↦ within op.ty t ]) ≡ true → There t ops k
there_of t ops k None e h = absurd cc
there_of t ops k (Some op) e h = record { op = op; is = e; type = h }

pub there : (t : Ty) (ops : List Op) (k : ℕ) → IsA t ops k → There t ops k
there t ops k h = there_of t ops k (slice_get ops k) refl h

pub isa : (t : Ty) (ops : List Op) (k : ℕ) (op : Op) → slice_get ops k ≡ Some op → within op.ty t ≡ true → IsA t ops k
isa t ops k op e h = ap (λ o. elim o [ None ↦ false | Some op ↦ within op.ty t ]) e ∙ h

pub isa_below : (t : Ty) (ops : List Op) (k : ℕ) → IsA t ops k → k < length ops
isa_below t ops k h = let p = there t ops k h in slice_get_within ops k p.op p.is

pub isa_push : (t : Ty) (ops : List Op) (op : Op) (k : ℕ) → IsA t ops k → IsA t (ops ++ op ∷ []) k
isa_push t ops op k h =
    let p = there t ops k h in
    isa t (ops ++ op ∷ []) k p.op (get_push ops op k (isa_below t ops k h) ∙ p.is) p.type

pub isa_last : (t : Ty) (ops : List Op) (op : Op) (k : ℕ) → k ≡ length ops → op.ty ≡ t → IsA t (ops ++ op ∷ []) k
isa_last t ops op k e h = isa t (ops ++ op ∷ []) k op (ap (slice_get (ops ++ op ∷ [])) e ∙ get_last ops op) (ap (λ x. within x t) h ∙ within_self t)

pub place_push : (t : Ty) (ops : List Op) (op : Op) (o : Option ℕ) → IsPlace t ops o → IsPlace t (ops ++ op ∷ []) o
place_push t ops op None h = h
place_push t ops op (Some k) h = isa_push t ops op k h

-- ---- what an addition requires

pub less_types : (t : Ty) → is_number t ≡ true → types_fit kind.Lt t ty.Bool ≡ true
less_types t h = ap (λ b. b && true) h

pub sel_types : (t : Ty) → types_fit kind.Sel t t ≡ true
sel_types ty.Bool = refl
sel_types ty.Int = refl
sel_types ty.Dint = refl
sel_types ty.Lint = refl

pub neg_types : (t : Ty) → is_number t ≡ true → types_fit kind.Neg t t ≡ true
neg_types ty.Bool h = absurd cc
neg_types ty.Int h = refl
neg_types ty.Dint h = refl
neg_types ty.Lint h = refl

-- arithmetic, and a comparison, of two operands in their type
pub record OfTwo (k : Kind) (from to : Ty) : Type 0 where
  pub plain : is_plain k ≡ true
  pub types : types_fit k from to ≡ true
  pub reads : (ops : List Op) (a b : ℕ) → IsA from ops a → IsA from ops b
      → (operand_fits ops (reads k from 0) a ≡ true) × (operand_fits ops (reads k from 1) b ≡ true) × (operand_fits ops (reads k from 2) 0 ≡ true)

pub arithmetic_of_two : (k : Kind) (t : Ty) → is_arithmetic k ≡ true → is_number t ≡ true → OfTwo k t t
arithmetic_of_two kind.Add t h n = record { plain = refl; types = neg_types t n; reads = λ ops a b ha hb. (ha, hb, refl) }
arithmetic_of_two kind.Sub t h n = record { plain = refl; types = neg_types t n; reads = λ ops a b ha hb. (ha, hb, refl) }
arithmetic_of_two kind.Mul t h n = record { plain = refl; types = neg_types t n; reads = λ ops a b ha hb. (ha, hb, refl) }
arithmetic_of_two kind.Div t h n = record { plain = refl; types = neg_types t n; reads = λ ops a b ha hb. (ha, hb, refl) }
arithmetic_of_two kind.Mod t h n = record { plain = refl; types = neg_types t n; reads = λ ops a b ha hb. (ha, hb, refl) }
arithmetic_of_two _ t h n = absurd cc

pub comparison_of_two : (k : Kind) (t : Ty) → is_comparison k ≡ true → types_fit k t ty.Bool ≡ true → OfTwo k t ty.Bool
comparison_of_two kind.Eq t h n = record { plain = refl; types = n; reads = λ ops a b ha hb. (ha, hb, refl) }
comparison_of_two kind.Lt t h n = record { plain = refl; types = n; reads = λ ops a b ha hb. (ha, hb, refl) }
comparison_of_two _ t h n = absurd cc
