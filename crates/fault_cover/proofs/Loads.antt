-- Loads: a LOAD has the number of its cell.
use Rattle.std.proofs.Common.{◌≡◌, ◌≢◌, ⊎_elim, ℕ, suc, ◌+◌, ◌==◌, ◌&&◌, cond, Bool, true, false, List, [], ◌∷◌, slice_get, ℤ, pos, unsigned_abs, Option}
use Rattle.std.proofs.Common.{Some, None, ap, sym, ◌∙◌, refl, arith}
use Rattle.std.specs.Option.{is_some}
use Rattle.std.proofs.lemmas.Bool.Decides.{eqb_tells, Decides-int_eq}
use Rattle.std.proofs.lemmas.Option.{slice_get_within}
use Rattle.vcp_base.specs.declared.kind.Kind.{Kind}
use Rattle.vcp_base.specs.declared.kind.Kind.TheVariants as kind
use Rattle.vcp_base.specs.declared.ty.Ty.{Ty}
use Rattle.op_graph.specs.declared.op.Cell.{Cell}
use Rattle.op_graph.specs.declared.op.Loaded.{Loaded}
use Rattle.op_graph.specs.declared.op.Op.{Op}
use Rattle.op_graph.specs.declared.rules.Entry.{Entry}
use Rattle.op_graph.specs.declared.rules.Place.{Place}
use Rattle.op_graph.specs.Laws.{CellLaws, EntryLaws}
use Rattle.op_graph.specs.Lists.{Lists, cells, whole_cell}
use Rattle.op_graph.specs.Rules.{IsGraph, agree, entry, entry_of, found, imm_fits, is_load, kind_fits, place_of, scope}
use Rattle.fault_cover.proofs.Adding.{there_is}

found_at : (q : ℕ) (k : ℕ) (loads : List Loaded) (e : Entry) → found (λ (l : Loaded). l.load == q) (λ l. l.ty) k loads ≡ Some e
    → (i : ℕ) × (l : Loaded) × (slice_get loads i ≡ Some l) × (l.load ≡ q) × (e.number ≡ k + i)
found_at q k [] e h = absurd cc
found_at q k (l ∷ loads) e h = ⊎_elim
    (λ (t : ((l.load == q) ≡ true) × (l.load ≡ q)).
    let first : Some (entry k l.ty) ≡ Some e = sym (ap
    (λ b. cond b (Some (entry k l.ty)) (found (λ (m : Loaded). m.load == q) (λ m. m.ty) (k + 1) loads)) t.0) ∙ h in
    let same : entry k l.ty ≡ e = cc in
    let number : k ≡ e.number = ap (λ (x : Entry). x.number) same in
    (0, l, refl, t.1, omega (arith, number)))
    (λ (t : ((l.load == q) ≡ false) × (l.load ≢ q)).
    let later = found_at q (k + 1) loads e
    (sym (ap (λ b. cond b (Some (entry k l.ty)) (found (λ (m : Loaded). m.load == q) (λ m. m.ty) (k + 1) loads)) t.0) ∙ h) in
    let number = later.4 in
    (suc later.0, later.1, later.2, later.3, omega (arith, number)))
    (eqb_tells l.load q)

pub both_true : (a b : Bool) → (a && b) ≡ true → (a ≡ true) × (b ≡ true)
both_true true b e = (refl, e)
both_true false b e = absurd cc

agreed : (b : Bool) → agree true b ≡ true → b ≡ true
agreed b e = e

load_fits : (p : Place) → kind_fits p kind.Load ≡ true → is_some p.load ≡ true
load_fits p e =
    let first = both_true (agree false (is_some p.input)) (is_some p.load) (front e) in
    first.1
  where
    front : kind_fits p kind.Load ≡ true → (agree false (is_some p.input) && is_some p.load) ≡ true
    front h =
        let a = both_true (agree false (is_some p.input) && is_some p.load && agree false (is_some p.store)) (agree false (is_some p.out)) h in
        (both_true (agree false (is_some p.input) && is_some p.load) (agree false (is_some p.store)) a.0).0

-- the LOAD of a cell, by its number
load_by : (g : Lists) (q : ℕ) (to : Ty) (imm : ℤ) (o : Option Entry) → is_some o ≡ true → o ≡ found (λ (l : Loaded). l.load == q) (λ l. l.ty) 0 g.loads
    → imm_fits o kind.Load to imm ≡ true → (l : Loaded) × (slice_get g.loads (unsigned_abs imm) ≡ Some l) × (l.load ≡ q)
load_by g q to imm None some is fits = absurd cc
load_by g q to imm (Some e) some is fits =
    let at = found_at q 0 g.loads e (sym is) in
    let number : imm ≡ pos e.number = (Decides-int_eq imm (pos e.number)).0 fits in
    let count = at.4 in
    let place : unsigned_abs imm ≡ at.0 = ap unsigned_abs number ∙ (let same : e.number ≡ at.0 = omega (arith, count) in same) in
    (at.1, ap (slice_get g.loads) place ∙ at.2, at.3)

load_of : (g : Lists) (q : ℕ) (k : Kind) (to : Ty) (imm : ℤ) → is_load k ≡ true → kind_fits (place_of (scope g) q) k ≡ true
    → imm_fits (entry_of (place_of (scope g) q) k) k to imm ≡ true → (l : Loaded) × (slice_get g.loads (unsigned_abs imm) ≡ Some l) × (l.load ≡ q)
load_of g q kind.Load to imm is fits number =
    load_by g q to imm (place_of (scope g) q).load (load_fits (place_of (scope g) q) fits) refl number
load_of g q _ to imm is fits number = absurd cc

-- the cell of a LOAD has its number
pub cell_of_load : (g : Lists) → EntryLaws → CellLaws → IsGraph g → (q : ℕ) (op : Op) → slice_get g.operations q ≡ Some op → is_load op.kind ≡ true
    → (c : Cell) × (slice_get (cells g) (unsigned_abs op.imm) ≡ Some c) × (c.load ≡ q)
cell_of_load g entries cell_laws graph q op there is =
    let fits = entries.operation g q op graph.part there in
    let l = load_of g q op.kind op.ty op.imm is fits.kind fits.imm in
    let inside = slice_get_within g.loads (unsigned_abs op.imm) l.0 l.1 in
    let all = graph.all_stored in
    let n = there_is g.stores (unsigned_abs op.imm) (omega (arith, inside, all)) in
    (whole_cell l.0 n.0, cell_laws.at g.loads g.stores (unsigned_abs op.imm) l.0 n.0 l.1 n.1, l.2)
