-- Keeping: a set that may be kept is a closed part.
use Rattle.std.proofs.Common.{◌≡◌, ℕ, ◌==◌, ℤ, pos, Bool, true, false, ◌||◌, cond, nat_lt, List, length, take, slice_get, Option, Some, None, refl, sym, ap}
use Rattle.std.proofs.Common.{subst, ◌∙◌, arith}
use Rattle.std.specs.Prelude.{unsigned_abs}
use Rattle.std.specs.Option.{is_some}
use Rattle.std.proofs.lemmas.Bool.Decides.{nat_tests, Decides-int_eq}
use Rattle.std.proofs.lemmas.Option.{slice_get_within}
use Rattle.vcp_base.specs.declared.ty.Ty.{Ty}
use Rattle.vcp_base.specs.declared.kind.Kind.{Kind}
use Rattle.vcp_base.specs.declared.kind.Kind.TheVariants as kind
use Rattle.vcp_base.specs.Kinds.{operands, operand_type}
use Rattle.op_graph.specs.declared.op.Op.{Op}
use Rattle.op_graph.specs.declared.op.Loaded.{Loaded}
use Rattle.op_graph.specs.Lists.{Lists}
use Rattle.op_graph.specs.Reads.{named}
use Rattle.op_graph.specs.Walk.{passed, entry_at}
use Rattle.op_graph.specs.Rules.{IsGraph, scope, place_of, entry, entry_of, agree, is_load, is_out, kind_fits, imm_fits, reads_as, OpFits}
use Rattle.op_graph.specs.declared.rules.Entry.{Entry}
use Rattle.op_graph.specs.Laws.{EntryLaws, WalkLaws}
use Rattle.graph_passes.specs.Part.{OperandStands, IsClosed, can_stop}
use Rattle.graph_passes.specs.Pruning.{MayBeKept, load_kept, numbering}
use Rattle.graph_passes.proofs.Chosen.{get_there}
use Rattle.graph_passes.proofs.Entries.{tests, is_its_out}

pub agreed_back : (a b : Bool) → agree a b ≡ true → a ≡ true → b ≡ true
agreed_back true true h e = refl
agreed_back true false h e = absurd cc
agreed_back false b h e = absurd cc

-- ---- the cell of a LOAD

pub record HasCell (g : Lists) (i : ℕ) (imm : ℤ) : Type 0 where
  pub cell : Loaded
  pub there : slice_get g.loads (unsigned_abs imm) ≡ Some cell
  pub load : cell.load ≡ i

record Found (loads : List Loaded) (i : ℕ) (k : ℕ) (o : Option Loaded) (e : Entry) : Type 0 where
  cell : Loaded
  is : o ≡ Some cell
  load : cell.load ≡ i
  number : e.number ≡ k

found_test : (loads : List Loaded) (i k : ℕ) (l : Loaded) (e : Entry) (b : Bool) → (l.load == i) ≡ b → cond b (Some (entry k l.ty)) None ≡ Some e →
    Found loads i k (Some l) e
found_test loads i k l e true is h = let same : entry k l.ty ≡ e = cc in
    record { cell = l; is = refl; load = grind (arith, nat_tests); number = ap (λ (x : Entry). x.number) (sym same) }
found_test loads i k l e false is h = absurd cc

found_entry : (loads : List Loaded) (i k : ℕ) (o : Option Loaded) (e : Entry) → entry_at (λ (l : Loaded). l.load) (λ l. l.ty) i k o ≡ Some e →
    Found loads i k o e
found_entry loads i k None e h = absurd cc
found_entry loads i k (Some l) e h = found_test loads i k l e (l.load == i) refl h

cell_by : (g : Lists) (i : ℕ) (to : Ty) (imm : ℤ) (o : Option Entry) → ((e : Entry) → o ≡ Some e →
    Found g.loads i (passed (λ (l : Loaded). l.load) i g.loads) (slice_get g.loads (passed (λ (l : Loaded). l.load) i g.loads)) e) → is_some o ≡ true →
    imm_fits o kind.Load to imm ≡ true → HasCell g i imm
cell_by g i to imm None f some number = absurd cc
cell_by g i to imm (Some e) f some number =
    let c = f e refl in
    let is : imm ≡ pos e.number = (Decides-int_eq imm (pos e.number)).0 number in
    let place : unsigned_abs imm ≡ passed (λ (l : Loaded). l.load) i g.loads = ap unsigned_abs is ∙ c.number in
    record { cell = c.cell; there = ap (slice_get g.loads) place ∙ c.is; load = c.load }

pub has_cell : (walks : WalkLaws) (g : Lists) → IsGraph g → (i : ℕ) (turns : ℕ) (before : List Op) (k : Kind) (to : Ty) (imm : ℤ) → k ≡ kind.Load →
    kind_fits (place_of (scope g) i) k ≡ true → imm_fits (entry_of (place_of (scope g) i) k) k to imm ≡ true → HasCell g i imm
has_cell walks g graph i turns before kind.Load to imm is fits number =
    let p = place_of (scope g) i in
    let walk = walks.load (scope g) (length g.names) (length g.operations) i graph.part.loads in
    cell_by g i to imm p.load (λ e some. found_entry g.loads i (passed (λ (l : Loaded). l.load) i g.loads) (slice_get g.loads (passed (λ
    (l : Loaded). l.load) i g.loads)) e (sym walk ∙ some))
    (agreed_back (is_load kind.Load) (is_some p.load) (tests p kind.Load fits).load refl) number
has_cell walks g graph i turns before _ to imm is fits number = absurd cc

either_first : (a b : Bool) → a ≡ true → (a || b) ≡ true
either_first true b e = refl
either_first false b e = absurd cc

either_second : (a b : Bool) → b ≡ true → (a || b) ≡ true
either_second true b e = refl
either_second false true e = refl
either_second false false e = absurd cc

unless_true : (b : Bool) → (b ≡ true → ⊥) → b ≡ false
unless_true true f = absurd (f refl)
unless_true false f = refl

contrary : {b : Bool} → b ≡ false → b ≡ true → ⊥
contrary f t = absurd cc

-- ---- a closed part

some_type : (b : Bool) (t : Ty) → b ≡ true → is_some (cond b (Some t) None) ≡ true
some_type true t e = refl
some_type false t e = absurd cc

operand_stands : (g : Lists) (kept : ℕ → Bool) (may : MayBeKept g kept) (i : ℕ) (op : Op) → slice_get g.operations i ≡ Some op → kept i ≡ true →
    (k : Kind) → op.kind ≡ k → (k ≡ kind.Load → HasCell g i op.imm) →
    (j : ℕ) → nat_lt j (operands op.kind) ≡ true → OperandStands (numbering g kept) k op.imm (named op j)
operand_stands g kept may i op there keep kind.Load is cell j has =
    let c = cell refl in
    ap (load_kept kept) c.there ∙ ap kept c.load ∙ keep
operand_stands g kept may i op there keep k is cell j has = may.reads i (named op j) j (record {
  op = op;
  there = there;
  operand = subst (λ x. is_some
      (reads_as x op.from j) ≡ true) (sym is) (some_type (nat_lt j (operands k)) (operand_type k j op.from) (subst (λ x. nat_lt j
      (operands x) ≡ true) is has));
  names = refl;
}) keep

pub kept_is_closed : (entries : EntryLaws) (walks : WalkLaws) (g : Lists) (kept : ℕ → Bool) → IsGraph g → MayBeKept g kept → IsClosed (numbering g kept) g
kept_is_closed entries walks g kept graph may = record {
  reads = λ i op there keep.
      let fit : OpFits (place_of (scope g) i) (length g.turn_nodes) (take i g.operations) op = entries.operation g i op graph.part there in
      let cell : op.kind ≡ kind.Load → HasCell g i op.imm = λ is. has_cell walks g graph i (length g.turn_nodes)
      (take i g.operations) op.kind op.ty op.imm is fit.kind fit.imm in
      let stands : (j : ℕ) → nat_lt j (operands op.kind) ≡ true →
      OperandStands (numbering g kept) op.kind op.imm (named op j) = operand_stands g kept may i op there keep op.kind refl cell in
      record { first = stands 0; second = stands 1; third = stands 2 };
  outputs = λ k o there.
      let fit = entries.output g k o graph.part there in
      let op = get_there g.operations o.op fit.operation in
      let out = is_its_out g k o op.0.kind there (entries.operation g o.op op.0 graph.part op.1).kind in
      may.stays o.op op.0 op.1 (either_first (is_out op.0.kind) (can_stop op.0.kind op.0.from op.0.ty) out);
  stores = λ k n there keep.
      let lt = slice_get_within g.stores k n there in
      let all = graph.all_stored in
      let l = get_there g.loads k (omega (arith, lt, all)) in
      sym (may.cells k n l.0 l.1 there) ∙ sym (ap (load_kept kept) l.1) ∙ keep;
  kept_stands = λ i keep. keep;
  kept_number = λ i keep. refl;
  cell_number = λ k keep. refl;
  joined = λ i op there out keep. absurd (contrary out keep);
  left_out = λ i op there out. unless_true (can_stop op.kind op.from op.ty) (λ stops. contrary out (may.stays i op there (either_second (is_out op.kind)
      (can_stop op.kind op.from op.ty) stops)));
}
