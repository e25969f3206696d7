-- Ends: what the end of a cycle says of its answers.
use Rattle.std.proofs.Common.{ℕ, suc, ◌≡◌, refl, ap, Bool, true, false, cond, List, [], ◌∷◌, length, eq-eqb, Option, Some, None}
use Rattle.std.proofs.lemmas.Bool.{eqb-true}
use Rattle.vcp_base.specs.declared.kind.StopKind.TheVariants as stop
use Rattle.vcp_base.specs.declared.code.Profile.{Profile}
use Rattle.coded_unit.specs.declared.call.Answer.{Answer}
use Rattle.coded_unit.specs.declared.call.Answer.TheVariants as answer
use Rattle.op_graph.specs.declared.op.Op.{Op}
use Rattle.op_graph.specs.declared.op.Outlet.{Outlet}
use Rattle.op_graph.specs.Lists.{Lists}
use Rattle.signature_table.specs.Signatures.{Numbers}
use Rattle.coded_machine.specs.declared.cycle_end.CycleEnd.{CycleEnd}
use Rattle.coded_machine.specs.declared.cycle_end.CycleEnd.TheVariants as end
use Rattle.coded_machine.specs.Calls.{AllWords, Whole}
use Rattle.coded_machine.specs.CycleEnds.{first_stop, first_outside, first_refused, end_or, end_of, AllInside, AllExpected, Accepted}

none_some : (e : CycleEnd) → None ≡ Some e → ⊥
none_some e h = cc

-- no scan finds a release
stop_is_no_release : (k : ℕ) (answers : List Answer) → first_stop k answers ≡ Some end.Released → ⊥
stop_is_no_release k [] e = none_some _ e
stop_is_no_release k (answer.Word v ∷ answers) e = stop_is_no_release (suc k) answers e
stop_is_no_release k (answer.Range ∷ answers) e = cc
stop_is_no_release k (answer.DivZero ∷ answers) e = cc
stop_is_no_release k (answer.Operand ∷ answers) e = cc

outside_case : (inside : Bool) (k : ℕ) (later : Option CycleEnd) → (later ≡ Some end.Released → ⊥)
    → cond inside later (Some (end.Stopped k stop.Operand)) ≡ Some end.Released → ⊥
outside_case true k later h e = h e
outside_case false k later h e = cc

outside_is_no_release : (p : Profile) (answers : List Answer) (outputs : List Outlet) → first_outside p answers outputs ≡ Some end.Released → ⊥
outside_is_no_release p answers [] e = none_some _ e
outside_is_no_release p answers (o ∷ outputs) e = outside_case _ o.op _ (outside_is_no_release p answers outputs) e

refused_case : (right : Bool) (number found wanted : ℕ) (later : Option CycleEnd) → (later ≡ Some end.Released → ⊥)
    → cond right later (Some (end.Refused number found wanted)) ≡ Some end.Released → ⊥
refused_case true number found wanted later h e = h e
refused_case false number found wanted later h e = cc

refusal_is_no_release : (p : Profile) (t : Numbers) (n : ℕ) (answers : List Answer) (number : ℕ) (outputs : List Outlet)
    → first_refused p t n answers number outputs ≡ Some end.Released → ⊥
refusal_is_no_release p t n answers number [] e = none_some _ e
refusal_is_no_release p t n answers number (o ∷ outputs) e = refused_case _ number _ _ _ (refusal_is_no_release p t n answers (suc number) outputs) e

ends_none : (a b c : Option CycleEnd) → (a ≡ Some end.Released → ⊥) → (b ≡ Some end.Released → ⊥) → (c ≡ Some end.Released → ⊥) →
    end_or a (end_or b (end_or c end.Released)) ≡ end.Released → (a ≡ None) × (b ≡ None) × (c ≡ None)
ends_none None None None h k l e = (refl, refl, refl)
ends_none None None (Some x) h k l e = absurd (l (ap Some e))
ends_none None (Some x) c h k l e = absurd (k (ap Some e))
ends_none (Some x) b c h k l e = absurd (h (ap Some e))

-- where the outputs are released, no scan finds anything
pub scans_none : (g : Lists) (t : Numbers) (n : ℕ) (answers : List Answer) → end_of g t n answers ≡ end.Released →
    (first_stop 0 answers ≡ None) × (first_outside g.profile answers g.outputs ≡ None) × (first_refused g.profile t n answers 0 g.outputs ≡ None)
scans_none g t n answers e =
    ends_none (first_stop 0 answers) (first_outside g.profile answers g.outputs) (first_refused g.profile t n answers 0 g.outputs)
    (stop_is_no_release 0 answers) (outside_is_no_release g.profile answers g.outputs) (refusal_is_no_release g.profile t n answers 0 g.outputs) e

-- ---- what the scans say

all_words : (k : ℕ) (answers : List Answer) → first_stop k answers ≡ None → AllWords answers
all_words k [] e = tt
all_words k (answer.Word v ∷ answers) e = (refl, all_words (suc k) answers e)
all_words k (answer.Range ∷ answers) e = absurd cc
all_words k (answer.DivZero ∷ answers) e = absurd cc
all_words k (answer.Operand ∷ answers) e = absurd cc

pub no_stop : (k : ℕ) (answers : List Answer) → AllWords answers → first_stop k answers ≡ None
no_stop k [] w = refl
no_stop k (answer.Word v ∷ answers) w = no_stop (suc k) answers w.1
no_stop k (answer.Range ∷ answers) w = let h = w.0 in cc
no_stop k (answer.DivZero ∷ answers) w = let h = w.0 in cc
no_stop k (answer.Operand ∷ answers) w = let h = w.0 in cc

-- a cycle without a stop has an answer for each operation
pub no_stop_all : (ops : List Op) (answers : List Answer) (k : ℕ) → Whole ops answers → first_stop k answers ≡ None → length answers ≡ length ops
no_stop_all [] [] k w e = refl
no_stop_all [] (a ∷ answers) k w e = absurd w
no_stop_all (op ∷ ops) [] k w e = absurd w
no_stop_all (op ∷ ops) (answer.Word v ∷ answers) k w e = ap suc (no_stop_all ops answers (suc k) w e)
no_stop_all (op ∷ ops) (answer.Range ∷ answers) k w e = cc
no_stop_all (op ∷ ops) (answer.DivZero ∷ answers) k w e = cc
no_stop_all (op ∷ ops) (answer.Operand ∷ answers) k w e = cc

cond_none : (b : Bool) (x : CycleEnd) (later : Option CycleEnd) → cond b later (Some x) ≡ None → (b ≡ true) × (later ≡ None)
cond_none true x later e = (refl, e)
cond_none false x later e = cc

all_inside : (p : Profile) (answers : List Answer) (outputs : List Outlet) → first_outside p answers outputs ≡ None → AllInside p answers outputs
all_inside p answers [] e = tt
all_inside p answers (o ∷ outputs) e = let h = cond_none _ _ _ e in (h.0, all_inside p answers outputs h.1)

none_outside : (p : Profile) (answers : List Answer) (outputs : List Outlet) → AllInside p answers outputs → first_outside p answers outputs ≡ None
none_outside p answers [] h = refl
none_outside p answers (o ∷ outputs) h = rw h.0 (none_outside p answers outputs h.1)

all_expected : (p : Profile) (t : Numbers) (n : ℕ) (answers : List Answer) (number : ℕ) (outputs : List Outlet)
    → first_refused p t n answers number outputs ≡ None → AllExpected p t n answers outputs
all_expected p t n answers number [] e = tt
all_expected p t n answers number (o ∷ outputs) e =
    let h = cond_none _ _ _ e in (eqb-true _ _ h.0, all_expected p t n answers (suc number) outputs h.1)

none_refused : (p : Profile) (t : Numbers) (n : ℕ) (answers : List Answer) (number : ℕ) (outputs : List Outlet) → AllExpected p t n answers outputs
    → first_refused p t n answers number outputs ≡ None
none_refused p t n answers number [] h = refl
none_refused p t n answers number (o ∷ outputs) h = rw (eq-eqb _ _ h.0) (none_refused p t n answers (suc number) outputs h.1)

-- a whole cycle is released exactly where it is accepted
pub released_is_accepted : (g : Lists) (t : Numbers) (n : ℕ) (answers : List Answer) → Whole g.operations answers → end_of g t n answers ≡ end.Released
    → Accepted g t n answers
released_is_accepted g t n answers whole e =
    let none = scans_none g t n answers e in
    record {
      all = no_stop_all g.operations answers 0 whole none.0;
      words = all_words 0 answers none.0;
      inside = all_inside g.profile answers g.outputs none.1;
      expected = all_expected g.profile t n answers 0 g.outputs none.2;
    }

pub accepted_is_released : (g : Lists) (t : Numbers) (n : ℕ) (answers : List Answer) → Accepted g t n answers → end_of g t n answers ≡ end.Released
accepted_is_released g t n answers h =
    rw (no_stop 0 answers h.words, none_outside g.profile answers g.outputs h.inside, none_refused g.profile t n answers 0 g.outputs h.expected) refl
