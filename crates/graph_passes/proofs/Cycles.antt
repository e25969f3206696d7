-- Cycles: a cycle of a closed part follows that of the graph.
use Rattle.std.proofs.Common.{◌≡◌, ◌≢◌, ℕ, suc, ◌+◌, ◌<◌, ◌≤◌, ℤ, pos, Bool, true, false, cond, List, [], ◌∷◌, ◌++◌, length, take, slice_get, Some, None, Ok}
use Rattle.std.proofs.Common.{Err, inl, inr, refl, sym, ap, subst, ◌∙◌, arith, nat_lt}
use Rattle.std.specs.Prelude.{unsigned_abs}
use Rattle.std.proofs.lemmas.Bool.{cases_lt}
use Rattle.std.proofs.lemmas.List.{length-take-le, length_push}
use Rattle.std.proofs.lemmas.Option.{slice_get_within}
use Rattle.vcp_base.specs.declared.ty.Ty.{Ty}
use Rattle.vcp_base.specs.declared.kind.Kind.{Kind}
use Rattle.vcp_base.specs.declared.kind.Kind.TheVariants as kind
use Rattle.vcp_base.specs.declared.kind.StopKind.{StopKind}
use Rattle.vcp_base.specs.declared.kind.StopKind.TheVariants as stop
use Rattle.vcp_base.specs.Values.{at}
use Rattle.vcp_base.specs.Kinds.{operands, Outcome, outcome, value}
use Rattle.op_graph.specs.declared.op.Op.{Op}
use Rattle.op_graph.specs.Lists.{Lists}
use Rattle.op_graph.specs.Reads.{OperandThere, Linked}
use Rattle.op_graph.specs.Rules.{IsGraph, OpFits, place_of, scope}
use Rattle.op_graph.specs.Laws.{OperandLaws, ReadLaws, EntryLaws}
use Rattle.op_graph.specs.GraphRun.{own, read, operand, outcome_of, Cycle, after, cycle_from, CellsFit}
use Rattle.graph_passes.specs.Part.{Numbering, below, chosen, own_number, moved, OperandStands, IsClosed}
use Rattle.graph_passes.specs.SameRun.{SamePlace}
use Rattle.graph_passes.proofs.Chosen.{at_push, at_last, chosen_at}
use Rattle.graph_passes.proofs.Stops.{gives_value}

-- the laws of graphs that the proof rests on
pub record Laws : Type 0 where
  pub operands : OperandLaws
  pub reads : ReadLaws
  pub entries : EntryLaws

-- the cells of a graph hold what `held` tells of its part, before a cycle
pub record Setting (m : Numbering) (g : Lists) (cells held : List ℤ) : Type 0 where
  pub laws : Laws
  pub graph : IsGraph g
  pub closed : IsClosed m g
  pub fit : CellsFit g cells
  pub same : (k : ℕ) → k < length g.stores → m.kept_cell k ≡ true → at held (m.cell_number k) ≡ at cells k

-- the values of the part agree with those of the graph, after its first i operations
pub record Agrees (m : Numbering) (ops : List Op) (held row : List ℤ) (i : ℕ) (vs ws : List ℤ) : Type 0 where
  pub whole : length vs ≡ i
  pub part : length ws ≡ below m.kept i
  pub there : (k : ℕ) → k < i → m.stands k ≡ true → m.number k < length ws
  pub same : (k : ℕ) → k < i → m.stands k ≡ true → at ws (m.number k) ≡ at vs k
  pub settled : (k : ℕ) (op : Op) → k < i → m.kept k ≡ true → slice_get ops k ≡ Some op → outcome_of held row ws (moved m op) ≡ Ok (at ws (m.number k))

-- ---- one operation

op_fits : (m : Numbering) (g : Lists) (cells held : List ℤ) (s : Setting m g cells held) (i : ℕ) (op : Op) → slice_get g.operations i ≡ Some op →
    OpFits (place_of (scope g) i) (length g.turn_nodes) (take i g.operations) op
op_fits m g cells held s i op there = s.laws.entries.operation g i op s.graph.part there

front_is : (g : Lists) (i : ℕ) (op : Op) → slice_get g.operations i ≡ Some op → length (take i g.operations) ≡ i
front_is g i op there = let lt = slice_get_within g.operations i op there in length-take-le i g.operations (omega (arith, lt))

linked_at : (m : Numbering) (g : Lists) (cells held : List ℤ) (s : Setting m g cells held) (i : ℕ) (op : Op) → slice_get g.operations i ≡ Some op →
    Linked g.stores (take i g.operations) op
linked_at m g cells held s i op there =
    s.laws.reads.linked g (length g.turn_nodes) (take i g.operations) op s.graph
    (subst (λ j. OpFits (place_of (scope g) j) (length g.turn_nodes) (take i g.operations) op) (sym (front_is g i op there))
    (op_fits m g cells held s i op there))

cond_same : (b : Bool) (x y : ℤ) → (b ≡ true → x ≡ y) → cond b x (pos 0) ≡ cond b y (pos 0)
cond_same true x y f = f refl
cond_same false x y f = refl

-- what an operand gets in the part is what it gets in the graph
read_same : (m : Numbering) (g : Lists) (cells held : List ℤ) (s : Setting m g cells held) (i : ℕ) (before : List Op) (vs ws : List ℤ) → length before ≡ i →
    ((k : ℕ) → k < i → m.stands k ≡ true → at ws (m.number k) ≡ at vs k) →
    (k : Kind) (imm : ℤ) (n : ℕ) → OperandThere before g.stores k imm n → OperandStands m k imm n →
    read cells vs k imm n ≡ read held ws k (own_number m k imm) (m.number n)
read_same m g cells held s i before vs ws front same kind.Load imm n there stands = sym (s.same (unsigned_abs imm) (slice_get_within g.stores
    (unsigned_abs imm) there.0 there.1) stands)
read_same m g cells held s i before vs ws front same _ imm n there stands = sym (same n (omega (arith, there, front)) stands)

own_same : (m : Numbering) (row : List ℤ) (k : Kind) (from to : Ty) (imm a b c : ℤ) →
    outcome k from to (own row k imm) a b c ≡ outcome k from to (own row k (own_number m k imm)) a b c
own_same m row kind.Load from to imm a b c = refl
own_same m row kind.Store from to imm a b c = refl
own_same m row _ from to imm a b c = refl

outcome_same : (m : Numbering) (g : Lists) (cells held row : List ℤ) (s : Setting m g cells held) (i : ℕ) (vs ws : List ℤ) (op : Op) →
    slice_get g.operations i ≡ Some op → m.stands i ≡ true → ((k : ℕ) → k < i → m.stands k ≡ true → at ws (m.number k) ≡ at vs k) →
    outcome_of cells row vs op ≡ outcome_of held row ws (moved m op)
outcome_same m g cells held row s i vs ws op there stands same =
    let link = linked_at m g cells held s i op there in
    let reads = s.closed.reads i op there stands in
    let front = front_is g i op there in
    let first : operand cells vs op 0 op.a ≡ operand held ws (moved m op) 0 (m.number op.a) = cond_same (nat_lt 0 (operands op.kind)) _ _
    (λ e. read_same m g cells held s i (take i g.operations) vs ws front same op.kind op.imm op.a (link.first e) (reads.first e)) in
    let second : operand cells vs op 1 op.b ≡ operand held ws (moved m op) 1 (m.number op.b) = cond_same (nat_lt 1 (operands op.kind)) _ _
    (λ e. read_same m g cells held s i (take i g.operations) vs ws front same op.kind op.imm op.b (link.second e) (reads.second e)) in
    let third : operand cells vs op 2 op.c ≡ operand held ws (moved m op) 2 (m.number op.c) = cond_same (nat_lt 2 (operands op.kind)) _ _
    (λ e. read_same m g cells held s i (take i g.operations) vs ws front same op.kind op.imm op.c (link.third e) (reads.third e)) in
    let number = own row op.kind (own_number m op.kind op.imm) in
    own_same m row op.kind op.from op.ty op.imm (operand cells vs op 0 op.a) (operand cells vs op 1 op.b) (operand cells vs op 2 op.c)
    ∙ ap (λ x. outcome op.kind op.from op.ty number x (operand cells vs op 1 op.b) (operand cells vs op 2 op.c)) first
    ∙ ap (λ x. outcome op.kind op.from op.ty number (operand held ws (moved m op) 0 (m.number op.a)) x (operand cells vs op 2 op.c)) second
    ∙ ap (λ x. outcome op.kind op.from op.ty number (operand held ws (moved m op) 0 (m.number op.a)) (operand held ws (moved m op) 1 (m.number op.b)) x) third

-- one more value changes nothing for what is read
read_stays : (m : Numbering) (g : Lists) (held : List ℤ) (before : List Op) (ws : List ℤ) (v : ℤ) → ((k : ℕ) → k < length before → m.stands k ≡ true →
    m.number k < length ws) →
    (k : Kind) (imm : ℤ) (n : ℕ) → OperandThere before g.stores k imm n → OperandStands m k imm n →
    read held (ws ++ v ∷ []) k (own_number m k imm) (m.number n) ≡ read held ws k (own_number m k imm) (m.number n)
read_stays m g held before ws v low kind.Load imm n there stands = refl
read_stays m g held before ws v low _ imm n there stands = at_push ws v (m.number n) (low n there stands)

outcome_stays : (m : Numbering) (g : Lists) (cells held row : List ℤ) (s : Setting m g cells held) (k i : ℕ) (vs ws : List ℤ) (v : ℤ) (op : Op) →
    Agrees m g.operations held row i vs ws → k < i → m.kept k ≡ true → slice_get g.operations k ≡ Some op →
    outcome_of held row (ws ++ v ∷ []) (moved m op) ≡ outcome_of held row ws (moved m op)
outcome_stays m g cells held row s k i vs ws v op agrees lt kept there =
    let link = linked_at m g cells held s k op there in
    let reads = s.closed.reads k op there (s.closed.kept_stands k kept) in
    let front = front_is g k op there in
    let low : (j : ℕ) → j < length (take k g.operations) → m.stands j ≡ true →
    m.number j < length ws = λ j less stands. agrees.there j (omega (arith, less, front, lt)) stands in
    let stays = read_stays m g held (take k g.operations) ws v low op.kind op.imm in
    let more = ws ++ v ∷ [] in
    let first : operand held more (moved m op) 0 (m.number op.a) ≡ operand held ws (moved m op) 0 (m.number op.a) = cond_same (nat_lt 0
    (operands op.kind)) _ _ (λ e. stays op.a (link.first e) (reads.first e)) in
    let second : operand held more (moved m op) 1 (m.number op.b) ≡ operand held ws (moved m op) 1 (m.number op.b) = cond_same (nat_lt 1
    (operands op.kind)) _ _ (λ e. stays op.b (link.second e) (reads.second e)) in
    let third : operand held more (moved m op) 2 (m.number op.c) ≡ operand held ws (moved m op) 2 (m.number op.c) = cond_same (nat_lt 2
    (operands op.kind)) _ _ (λ e. stays op.c (link.third e) (reads.third e)) in
    let number = own row op.kind (own_number m op.kind op.imm) in
    ap (λ x. outcome op.kind op.from op.ty number x (operand held more (moved m op) 1 (m.number op.b)) (operand held more (moved m op) 2 (m.number op.c))) first
    ∙ ap (λ x. outcome op.kind op.from op.ty number (operand held ws (moved m op) 0 (m.number op.a)) x (operand held more (moved m op) 2
    (m.number op.c))) second
    ∙ ap (λ x. outcome op.kind op.from op.ty number (operand held ws (moved m op) 0 (m.number op.a)) (operand held ws (moved m op) 1 (m.number op.b)) x) third

-- a CONST's own number is its value
const_own : (row : List ℤ) (k : Kind) (imm : ℤ) → k ≡ kind.Const → own row k imm ≡ imm
const_own row k imm is = subst (λ j. own row j imm ≡ imm) (sym is) refl

-- what does not stand gives a value
left_out_gives : (m : Numbering) (g : Lists) (cells held row : List ℤ) (s : Setting m g cells held) (i : ℕ) (vs : List ℤ) (op : Op) →
    slice_get g.operations i ≡ Some op → m.stands i ≡ false → outcome_of cells row vs op ≢ Err stop.Operand →
    (v : ℤ) × (outcome_of cells row vs op ≡ Ok v)
left_out_gives m g cells held row s i vs op there never fair =
    let gives = gives_value s.laws.operands (place_of (scope g) i) (length g.turn_nodes) (take i g.operations) op (own row op.kind op.imm)
    (operand cells vs op 0 op.a) (operand cells vs op 1 op.b) (operand cells vs op 2 op.c)
    (op_fits m g cells held s i op there) (const_own row op.kind op.imm) (s.closed.left_out i op there never) fair in
    (value op.kind (own row op.kind op.imm) (operand cells vs op 0 op.a) (operand cells vs op 1 op.b) (operand cells vs op 2 op.c), gives)

-- ---- one step

-- the values agree after one more operation
agrees_next : (m : Numbering) (ops : List Op) (held row : List ℤ) (i : ℕ) (vs ws more : List ℤ) (v : ℤ) → Agrees m ops held row i vs ws →
    length ws ≤ length more → ((k : ℕ) → k < length ws → at more k ≡ at ws k) → length more ≡ below m.kept (suc i) →
    (m.stands i ≡ true → (m.number i < length more) × (at more (m.number i) ≡ v)) →
    ((k : ℕ) (op : Op) → k < i → m.kept k ≡ true → slice_get ops k ≡ Some op → outcome_of held row more (moved m op) ≡ outcome_of held row ws (moved m op)) →
    ((op : Op) → m.kept i ≡ true → slice_get ops i ≡ Some op → outcome_of held row more (moved m op) ≡ Ok (at more (m.number i))) →
    ((k : ℕ) → m.kept k ≡ true → m.stands k ≡ true) →
    Agrees m ops held row (suc i) (vs ++ v ∷ []) more
agrees_next m ops held row i vs ws more v a grown keeps part here stays settled stand = record {
  whole = let len = length_push vs v in let w = a.whole in omega (arith, len, w);
  part = part;
  there = λ k lt stands. elim (cases_lt k i) [
    | inl less ↦ let old = a.there k less stands in omega (arith, old, grown)
    | inr past ↦ let is : k ≡ i = omega (arith, lt, past) in subst (λ j. m.number j < length more) (sym is) (here (subst (λ j. m.stands j ≡ true) is stands)).0
  ];
  same = λ k lt stands. elim (cases_lt k i) [
    | inl less ↦ keeps (m.number k) (a.there k less stands) ∙ a.same k less stands ∙ sym (at_push vs v k (let w = a.whole in omega (arith, less, w)))
    | inr past ↦
        let is : i ≡ k = omega (arith, lt, past) in
        let last : at (vs ++ v ∷ []) i ≡ v = ap (at (vs ++ v ∷ [])) (sym a.whole) ∙ at_last vs v in
        subst (λ j. at more (m.number j) ≡ at (vs ++ v ∷ []) j) is ((here (subst (λ j. m.stands j ≡ true) (sym is) stands)).1 ∙ sym last)
  ];
  settled = λ k op lt kept get. elim (cases_lt k i) [
    | inl less ↦ stays k op less kept get ∙ a.settled k op less kept get ∙ ap Ok (sym (keeps (m.number k) (a.there k less (stand k kept))))
    | inr past ↦
        let is : k ≡ i = omega (arith, lt, past) in
        subst (λ j. outcome_of held row more (moved m op) ≡ Ok (at more (m.number j))) (sym is)
        (settled op (subst (λ j. m.kept j ≡ true) is kept) (subst (λ j. slice_get ops j ≡ Some op) is get))
  ];
}

false_true : {b : Bool} {X : Type 0} → b ≡ false → b ≡ true → X
false_true f t = absurd cc

agrees_kept : (m : Numbering) (g : Lists) (cells held row : List ℤ) (s : Setting m g cells held) (i : ℕ) (vs ws : List ℤ) (v : ℤ) (op : Op) →
    Agrees m g.operations held row i vs ws → m.kept i ≡ true → slice_get g.operations i ≡ Some op → outcome_of held row ws (moved m op) ≡ Ok v →
    Agrees m g.operations held row (suc i) (vs ++ v ∷ []) (ws ++ v ∷ [])
agrees_kept m g cells held row s i vs ws v op a kept there gives =
    let long = length_push ws v in
    let number : m.number i ≡ length ws = s.closed.kept_number i kept ∙ sym a.part in
    let last : at (ws ++ v ∷ []) (m.number i) ≡ v = ap (at (ws ++ v ∷ [])) number ∙ at_last ws v in
    let self : outcome_of held row (ws ++ v ∷ []) (moved m op) ≡ outcome_of held row ws
    (moved m op) = outcome_self m g cells held row s i vs ws v op a kept there in
    agrees_next m g.operations held row i vs ws (ws ++ v ∷ []) v a (omega (arith, long)) (λ k lt. at_push ws v k lt)
    (let more : below m.kept (suc i) ≡ suc (below m.kept i) = ap (λ b. cond b (suc (below m.kept i)) (below m.kept i)) kept in let p = a.part in
    omega (arith, long, more, p))
    (λ stands. (omega (arith, long, number), last))
    (λ k x lt keeps get. outcome_stays m g cells held row s k i vs ws v x a lt keeps get)
    (λ x keeps get. let same : op ≡ x = some_is (sym there ∙ get) in
    subst (λ y. outcome_of held row (ws ++ v ∷ []) (moved m y) ≡ Ok (at (ws ++ v ∷ []) (m.number i))) same (self ∙ gives ∙ ap Ok (sym last)))
    s.closed.kept_stands
  where
    some_is : {x y : Op} → Some x ≡ Some y → x ≡ y
    some_is e = cc

    outcome_self : (m : Numbering) (g : Lists) (cells held row : List ℤ) (s : Setting m g cells held) (i : ℕ) (vs ws : List ℤ) (v : ℤ) (op : Op) →
        Agrees m g.operations held row i vs ws → m.kept i ≡ true → slice_get g.operations i ≡ Some op →
        outcome_of held row (ws ++ v ∷ []) (moved m op) ≡ outcome_of held row ws (moved m op)
    outcome_self m g cells held row s i vs ws v op a kept there =
        let same : (k : ℕ) → k < i → m.stands k ≡ true → at (ws ++ v ∷ []) (m.number k) ≡ at vs k = λ k lt stands. at_push ws v (m.number k)
        (a.there k lt stands) ∙ a.same k lt stands in
        sym (outcome_same m g cells held row s i vs (ws ++ v ∷ []) op there (s.closed.kept_stands i kept) same)
        ∙ outcome_same m g cells held row s i vs ws op there (s.closed.kept_stands i kept) a.same

agrees_joined : (m : Numbering) (g : Lists) (cells held row : List ℤ) (s : Setting m g cells held) (i j : ℕ) (vs ws : List ℤ) →
    Agrees m g.operations held row i vs ws → m.kept i ≡ false → j < i → m.kept j ≡ true → m.number i ≡ m.number j →
    Agrees m g.operations held row (suc i) (vs ++ at ws (m.number j) ∷ []) ws
agrees_joined m g cells held row s i j vs ws a out lt kept number =
    agrees_next m g.operations held row i vs ws ws (at ws (m.number j)) a (omega arith) (λ k less. refl)
    (let none : below m.kept (suc i) ≡ below m.kept i = ap (λ b. cond b (suc (below m.kept i)) (below m.kept i)) out in a.part ∙ sym none)
    (λ stands. (let low = a.there j lt (s.closed.kept_stands j kept) in omega (arith, low, number), ap (at ws) number))
    (λ k x less keeps get. refl)
    (λ x keeps get. false_true out keeps)
    s.closed.kept_stands

agrees_left_out : (m : Numbering) (g : Lists) (cells held row : List ℤ) (s : Setting m g cells held) (i : ℕ) (vs ws : List ℤ) (v : ℤ) →
    Agrees m g.operations held row i vs ws → m.kept i ≡ false → m.stands i ≡ false →
    Agrees m g.operations held row (suc i) (vs ++ v ∷ []) ws
agrees_left_out m g cells held row s i vs ws v a out never =
    agrees_next m g.operations held row i vs ws ws v a (omega arith) (λ k less. refl)
    (let none : below m.kept (suc i) ≡ below m.kept i = ap (λ b. cond b (suc (below m.kept i)) (below m.kept i)) out in a.part ∙ sym none)
    (λ stands. false_true never stands)
    (λ k x less keeps get. refl)
    (λ x keeps get. false_true out keeps)
    s.closed.kept_stands

-- ---- one cycle

-- the cycle of the part ends as that of the graph does
pub record SameCycle (m : Numbering) (g : Lists) (held row : List ℤ) (c d : Cycle) : Type 0 where
  pub stop : d.stop ≡ c.stop
  pub whole : c.stop ≡ None → Agrees m g.operations held row (length g.operations) c.values d.values
  pub halted : (why : StopKind) → c.stop ≡ Some why → SamePlace (slice_get g.operations (length c.values)) (slice_get (chosen m.kept
      (moved m) 0 g.operations) (length d.values))

step_same : (m : Numbering) (g : Lists) (held row vs ws : List ℤ) (next follow : ℤ → Cycle) (o : Outcome) → ((v : ℤ) → o ≡ Ok v →
    SameCycle m g held row (next v) (follow v)) →
    SamePlace (slice_get g.operations (length vs)) (slice_get (chosen m.kept (moved m) 0 g.operations) (length ws)) →
    SameCycle m g held row (after vs next o) (after ws follow o)
step_same m g held row vs ws next follow (Ok v) rest place = rest v refl
step_same m g held row vs ws next follow (Err why) rest place = record { stop = refl; whole = λ e. absurd cc; halted = λ w e. place }

-- the cycles of what comes after operation i, where the values agree before it
Rest : Numbering → Lists → List ℤ → List ℤ → List ℤ → ℕ → List Op → Type 0
Rest m g cells held row i rest = (vs ws : List ℤ) → Agrees m g.operations held row i vs ws → (cycle_from cells row vs rest).stop ≢ Some stop.Operand →
    SameCycle m g held row (cycle_from cells row vs rest) (cycle_from held row ws (chosen m.kept (moved m) i rest))

same_place : (m : Numbering) (g : Lists) (held row : List ℤ) (i : ℕ) (vs ws : List ℤ) (op : Op) → slice_get g.operations i ≡ Some op → m.kept i ≡ true →
    Agrees m g.operations held row i vs ws →
    SamePlace (slice_get g.operations (length vs)) (slice_get (chosen m.kept (moved m) 0 g.operations) (length ws))
same_place m g held row i vs ws op there kept a =
    let here : slice_get g.operations (length vs) ≡ Some op = ap (slice_get g.operations) a.whole ∙ there in
    let image : slice_get (chosen m.kept (moved m) 0 g.operations) (length ws) ≡ Some (moved m op) = ap (slice_get (chosen m.kept
    (moved m) 0 g.operations)) a.part ∙ chosen_at m.kept (moved m) i op g.operations there kept in
    subst (λ o. SamePlace o (slice_get (chosen m.kept (moved m) 0 g.operations) (length ws))) (sym here) (subst (λ o. SamePlace (Some op) o) (sym image)
    (refl, refl))

-- a cycle whose next operation gives v is the cycle of what comes after
given_value : (m : Numbering) (g : Lists) (held row vs : List ℤ) (next : ℤ → Cycle) (d : Cycle) (o : Outcome) (v : ℤ) → o ≡ Ok v →
    SameCycle m g held row (next v) d → SameCycle m g held row (after vs next o) d
given_value m g held row vs next d o v is h = subst (λ x. SameCycle m g held row (after vs next x) d) (sym is) h

fair_next : (vs : List ℤ) (next : ℤ → Cycle) (o : Outcome) (v : ℤ) → o ≡ Ok v → (after vs next o).stop ≢ Some stop.Operand → (next v).stop ≢ Some stop.Operand
fair_next vs next o v is fair = subst (λ x. (after vs next x).stop ≢ Some stop.Operand) is fair

fair_outcome : (vs : List ℤ) (next : ℤ → Cycle) (o : Outcome) → (after vs next o).stop ≢ Some stop.Operand → o ≢ Err stop.Operand
fair_outcome vs next (Ok v) fair = λ e. absurd cc
fair_outcome vs next (Err why) fair = λ e. fair (ap Some (why_is e))
  where
    why_is : {a b : StopKind} → (let x : Outcome = Err a in x) ≡ Err b → a ≡ b
    why_is e = cc

op_same : (m : Numbering) (g : Lists) (cells held row : List ℤ) (s : Setting m g cells held) (i : ℕ) (op : Op) (rest : List Op) (vs ws : List ℤ)
    (b c : Bool) → m.kept i ≡ b → m.stands i ≡ c → slice_get g.operations i ≡ Some op →
    Agrees m g.operations held row i vs ws → (cycle_from cells row vs (op ∷ rest)).stop ≢ Some stop.Operand → Rest m g cells held row (suc i) rest →
    SameCycle m g held row (cycle_from cells row vs (op ∷ rest)) (cycle_from held row ws (cond b (moved m op ∷ chosen m.kept (moved m) (suc i) rest)
    (chosen m.kept (moved m) (suc i) rest)))
unfolding Rest
op_same m g cells held row s i op rest vs ws true c kept stands there a fair follow =
    let next = λ (v : ℤ). cycle_from cells row (vs ++ v ∷ []) rest in
    let then = λ (v : ℤ). cycle_from held row (ws ++ v ∷ []) (chosen m.kept (moved m) (suc i) rest) in
    let o : outcome_of cells row vs op ≡ outcome_of held row ws (moved m op) = outcome_same m g cells held row s i vs ws op there
    (s.closed.kept_stands i kept) a.same in
    subst (λ x. SameCycle m g held row (after vs next (outcome_of cells row vs op)) (after ws then x)) o
    (step_same m g held row vs ws next then (outcome_of cells row vs op)
    (λ v is. follow (vs ++ v ∷ []) (ws ++ v ∷ []) (agrees_kept m g cells held row s i vs ws v op a kept there (sym o
    ∙ is)) (fair_next vs next (outcome_of cells row vs op) v is fair))
    (same_place m g held row i vs ws op there kept a))
op_same m g cells held row s i op rest vs ws false true out stands there a fair follow =
    let next = λ (v : ℤ). cycle_from cells row (vs ++ v ∷ []) rest in
    let j = s.closed.joined i op there out stands in
    let v = at ws (m.number j.place) in
    let o : outcome_of cells row vs op ≡ Ok v = outcome_same m g cells held row s i vs ws op there stands a.same ∙ ap (outcome_of held row ws) j.same
    ∙ a.settled j.place j.first j.earlier j.kept j.there in
    given_value m g held row vs next _ (outcome_of cells row vs op) v o
    (follow (vs ++ v ∷ []) ws (agrees_joined m g cells held row s i j.place vs ws a out j.earlier j.kept j.number) (fair_next vs next
    (outcome_of cells row vs op) v o fair))
op_same m g cells held row s i op rest vs ws false false out stands there a fair follow =
    let next = λ (v : ℤ). cycle_from cells row (vs ++ v ∷ []) rest in
    let gives = left_out_gives m g cells held row s i vs op there stands (fair_outcome vs next (outcome_of cells row vs op) fair) in
    given_value m g held row vs next _ (outcome_of cells row vs op) gives.0 gives.1
    (follow (vs ++ gives.0 ∷ []) ws (agrees_left_out m g cells held row s i vs ws gives.0 a out stands) (fair_next vs next
    (outcome_of cells row vs op) gives.0 gives.1 fair))

pub cycle_same : (m : Numbering) (g : Lists) (cells held row : List ℤ) (s : Setting m g cells held) (i : ℕ) (rest : List Op) → ((k : ℕ) →
    slice_get rest k ≡ slice_get g.operations (i + k)) → i + length rest ≡ length g.operations → (vs ws : List ℤ) →
    Agrees m g.operations held row i vs ws → (cycle_from cells row vs rest).stop ≢ Some stop.Operand →
    SameCycle m g held row (cycle_from cells row vs rest) (cycle_from held row ws (chosen m.kept (moved m) i rest))
unfolding Rest
cycle_same m g cells held row s i [] at_rest len vs ws a fair = record {
  stop = refl;
  whole = λ e. subst (λ j. Agrees m g.operations held row j vs ws) (let all : i ≡ length g.operations = omega (arith, len) in all) a;
  halted = λ why e. absurd cc;
}
cycle_same m g cells held row s i (op ∷ rest) at_rest len vs ws a fair =
    let here : i ≡ i + 0 = omega arith in
    let there : slice_get g.operations i ≡ Some op = ap (slice_get g.operations) here ∙ sym (at_rest 0) in
    op_same m g cells held row s i op rest vs ws (m.kept i) (m.stands i) refl refl there a fair
    (λ us ts b f. cycle_same m g cells held row s (suc i) rest (λ k. at_rest (suc k)
    ∙ ap (slice_get g.operations) (let e : i + suc k ≡ suc i + k = omega arith in e)) (omega (arith, len)) us ts b f)
