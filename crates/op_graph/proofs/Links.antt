-- Links: what an operation of a graph reads is there.
use Rattle.std.proofs.Common.{ℕ, zero, suc, ◌+◌, ◌<◌, ◌≤◌, ◌≡◌, ◌==◌, refl, ap, subst, Bool, true, false, cond, nat_lt, List, [], ◌∷◌, ◌++◌, length, take}
use Rattle.std.proofs.Common.{slice_get, Option, Some, None, ℤ, pos, arith}
use Rattle.std.specs.Prelude.{unsigned_abs}
use Rattle.std.specs.Option.{is_some}
use Rattle.std.proofs.lemmas.Bool.Decides.{nat_tests, Decides-int_eq}
use Rattle.std.proofs.lemmas.List.{length-take-le}
use Rattle.std.proofs.lemmas.Option.{slice_get_within}
use Rattle.vcp_base.specs.declared.ty.Ty.{Ty}
use Rattle.vcp_base.specs.declared.kind.Kind.{Kind}
use Rattle.vcp_base.specs.declared.kind.Kind.TheVariants as kind
use Rattle.vcp_base.specs.Kinds.{operands}
use Rattle.vcp_base.specs.Types.{within}
use Rattle.op_graph.specs.declared.op.Op.{Op}
use Rattle.op_graph.specs.Lists.{Lists}
use Rattle.op_graph.specs.Reads.{named, Reads, OperandThere, Linked}
use Rattle.op_graph.specs.Rules.{IsPart, IsGraph, OpFits, Operates, scope, place_of, entry, entry_of, found, kind_fits, reads_as, operand_fits}
use Rattle.op_graph.specs.declared.rules.Place.{Place}
use Rattle.op_graph.specs.declared.rules.Entry.{Entry}
use Rattle.op_graph.specs.Rules.{imm_fits}
use Rattle.op_graph.proofs.OperandLaw.{each_at, get_there, second_of_four}

-- a LOAD has a cell with a STORE
LoadThere : List ℕ → Kind → ℤ → Type 0
LoadThere stores kind.Load imm = (m : ℕ) × (slice_get stores (unsigned_abs imm) ≡ Some m)
LoadThere stores _ imm = Unit {0}

found_case : (k n : ℕ) (t : Ty) (e : Entry) (b : Bool) (rest : Option Entry) → (rest ≡ Some e → e.number < (k + 1) + n)
    → cond b (Some (entry k t)) rest ≡ Some e → e.number < k + suc n
found_case k n t e true rest next h = let same : entry k t ≡ e = cc in subst (λ (x : Entry). x.number < k + suc n) same (omega arith)
found_case k n t e false rest next h = let lt = next h in omega (arith, lt)

pub found_below : {X : Type 0} (xs : List X) (p : X → Bool) (t : X → Ty) (k : ℕ) (e : Entry) → found p t k xs ≡ Some e → e.number < k + length xs
found_below [] p t k e h = absurd cc
found_below (x ∷ xs) p t k e h = found_case k (length xs) (t x) e (p x) _ (λ g. found_below xs p t (k + 1) e g) h

cell_there : (g : Lists) (o : Option Entry) (to : Ty) (imm : ℤ) → IsGraph g → ((e : Entry) → o ≡ Some e → e.number < 0 + length g.loads) → is_some o ≡ true
    → imm_fits o kind.Load to imm ≡ true → LoadThere g.stores kind.Load imm
unfolding LoadThere
cell_there g None to imm graph below some number = absurd cc
cell_there g (Some e) to imm graph below some number =
    let is : imm ≡ pos e.number = (Decides-int_eq imm (pos e.number)).0 number in
    let at_number : unsigned_abs imm ≡ e.number = ap unsigned_abs is in
    get_there g.stores (unsigned_abs imm) (omega (arith, below e refl, graph.all_stored, at_number))

load_there : (g : Lists) (i : ℕ) (k : Kind) (to : Ty) (imm : ℤ) → IsGraph g → kind_fits (place_of (scope g) i) k ≡ true
    → imm_fits (entry_of (place_of (scope g) i) k) k to imm ≡ true → LoadThere g.stores k imm
unfolding LoadThere
load_there g i kind.Load to imm graph h number =
    cell_there g (place_of (scope g) i).load to imm graph (λ e is. found_below g.loads (λ l. l.load == i) (λ l. l.ty) 0 e is)
    (second_of_four _ (is_some (place_of (scope g) i).load) _ _ h) number
load_there g i _ to imm graph h number = tt

there_case : (before : List Op) (t : Ty) (n : ℕ) (o : Option Op) → slice_get before n ≡ o → (elim o [ None ↦ false | Some op ↦ within op.ty t ]) ≡ true
    → n < length before
there_case before t n None e h = absurd cc
there_case before t n (Some op) e h = slice_get_within before n op e

fits_there : (before : List Op) (b : Bool) (t : Ty) (n : ℕ) → operand_fits before (cond b (Some t) None) n ≡ true → b ≡ true → n < length before
fits_there before true t n h e = there_case before t n (slice_get before n) refl h
fits_there before false t n h e = absurd cc

operand_there : (stores : List ℕ) (before : List Op) (k : Kind) (from : Ty) (imm : ℤ) (j n : ℕ) → operand_fits before (reads_as k from j) n ≡ true
    → LoadThere stores k imm → nat_lt j (operands k) ≡ true → OperandThere before stores k imm n
unfolding LoadThere
operand_there stores before kind.Load from imm j n h load e = load
operand_there stores before k from imm j n h load e = fits_there before _ _ n h e

pub linked : (g : Lists) (turns : ℕ) (before : List Op) (op : Op) → IsGraph g → Operates (scope g) turns before op → Linked g.stores before op
linked g turns before op graph fit =
    let load = load_there g (length before) op.kind op.ty op.imm graph fit.kind fit.imm in
    record {
      first = operand_there g.stores before op.kind op.from op.imm 0 op.a fit.a load;
      second = operand_there g.stores before op.kind op.from op.imm 1 op.b fit.b load;
      third = operand_there g.stores before op.kind op.from op.imm 2 op.c fit.c load;
    }

-- ---- operands

-- what fits goes on to fit when operations are added
pub operand_stays : (before more : List Op) (t : Ty) (n : ℕ) → operand_fits before (Some t) n ≡ true → operand_fits (before ++ more) (Some t) n ≡ true
operand_stays [] more t n h = absurd cc
operand_stays (op ∷ before) more t zero h = h
operand_stays (op ∷ before) more t (suc n) h = operand_stays before more t n h

read_there : (before : List Op) (o : Option Ty) (n : ℕ) → operand_fits before o n ≡ true → is_some o ≡ true → n < length before
read_there before None n h e = absurd cc
read_there before (Some t) n h e = there_case before t n (slice_get before n) refl h

-- no kind has more than three operands
no_fourth : (b : Bool) (t : Ty) → b ≡ false → is_some (cond b (Some t) None) ≡ true → ⊥
no_fourth true t e h = absurd cc
no_fourth false t e h = absurd cc

three_at_most : (k : Kind) (j : ℕ) → operands k ≤ 3 → nat_lt (suc (suc (suc j))) (operands k) ≡ false
three_at_most k j le = grind (arith, nat_tests)

few_operands : (k : Kind) → operands k ≤ 3
few_operands kind.Input = omega arith
few_operands kind.Const = omega arith
few_operands kind.Load = omega arith
few_operands kind.Store = omega arith
few_operands kind.Out = omega arith
few_operands kind.Conv = omega arith
few_operands kind.Neg = omega arith
few_operands kind.Not = omega arith
few_operands kind.Add = omega arith
few_operands kind.Sub = omega arith
few_operands kind.Mul = omega arith
few_operands kind.Div = omega arith
few_operands kind.Mod = omega arith
few_operands kind.Eq = omega arith
few_operands kind.Lt = omega arith
few_operands kind.And = omega arith
few_operands kind.Or = omega arith
few_operands kind.Xor = omega arith
few_operands kind.Sel = omega arith

no_fourth_operand : (k : Kind) (from : Ty) (j : ℕ) → is_some (reads_as k from (suc (suc (suc j)))) ≡ true → ⊥
no_fourth_operand kind.Load from j h = absurd cc
no_fourth_operand k from j h = no_fourth _ _ (three_at_most k j (few_operands k)) h

named_there : (p : Place) (turns : ℕ) (before : List Op) (op : Op) (j : ℕ) → OpFits p turns before op → is_some (reads_as op.kind op.from j) ≡ true
    → named op j < length before
named_there p turns before op zero fit h = read_there before _ op.a fit.a h
named_there p turns before op (suc zero) fit h = read_there before _ op.b fit.b h
named_there p turns before op (suc (suc zero)) fit h = read_there before _ op.c fit.c h
named_there p turns before op (suc (suc (suc j))) fit h = absurd (no_fourth_operand op.kind op.from j h)

-- an operation reads earlier ones
pub reads_earlier : (g : Lists) (q k j : ℕ) → IsPart g → Reads g.operations q k j → k < q
reads_earlier g q k j part r =
    let below : q < length g.operations = slice_get_within g.operations q r.op r.there in
    let front : length (take q g.operations) ≡ q = length-take-le q g.operations (omega (arith, below)) in
    let operates : Operates (scope g) (length g.turn_nodes) (take q g.operations) r.op =
    each_at (Operates (scope g) (length g.turn_nodes)) [] g.operations q r.op part.operations r.there in
    let lt = named_there (place_of (scope g) (length (take q g.operations))) (length g.turn_nodes) (take q g.operations) r.op j operates r.operand in
    omega (arith, lt, front, r.names)
