-- EndsRead: the end of a cycle under acts, read off answers that keep the run law.
use Rattle.std.proofs.Common.{◌≡◌, ℕ, suc, ◌+◌, ◌<◌, ◌==◌, Bool, true, false, cond, List, [], ◌∷◌, ◌++◌, length, map, slice_get, Option, Some, None, option_map}
use Rattle.std.proofs.Common.{ℤ, pos, ◌+ℤ◌, ◌*ℤ◌, refl, sym, ap, ◌∙◌, arith, eqb-true}
use Rattle.std.proofs.lemmas.Bool.{eq-eqb, false≢true}
use Rattle.std.proofs.lemmas.Int.{ints}
use Rattle.vcp_base.specs.declared.code.Profile.{Profile}
use Rattle.vcp_base.specs.declared.kind.StopKind.{StopKind}
use Rattle.vcp_base.specs.declared.kind.StopKind.TheVariants as stop
use Rattle.vcp_base.specs.Code.{modulus}
use Rattle.vcp_base.specs.Limits.{most_cycles}
use Rattle.vcp_base.specs.Types.{fits}
use Rattle.vcp_base.specs.Values.{at}
use Rattle.coded_unit.specs.declared.call.Answer.{Answer}
use Rattle.coded_unit.specs.WordLaws.{WordLaws}
use Rattle.coded_unit.specs.Words.{coded, modulo, value_part}
use Rattle.op_graph.specs.declared.op.Outlet.{Outlet}
use Rattle.op_graph.specs.GraphRun.{Stop}
use Rattle.op_graph.specs.Lists.{Lists}
use Rattle.signature_table.specs.Signatures.{Numbers, IsTable, signature, stamp, expected}
use Rattle.coded_machine.specs.declared.cycle_end.CycleEnd.{CycleEnd}
use Rattle.coded_machine.specs.declared.cycle_end.CycleEnd.TheVariants as end
use Rattle.coded_machine.specs.Calls.{word_at}
use Rattle.coded_machine.specs.CycleEnds.{first_stop, first_outside, first_refused, end_or}
use Rattle.coded_machine.specs.Honest.{stop_answer}
use Rattle.fault_script.specs.Changes.{Acts}
use Rattle.fault_script.specs.Differences.{difference_at, frame}
use Rattle.fault_injector.specs.Accepted.{RefusedAt, first_unaccepted, residue_under, ending, EndsAreRead, OutputsAreRead}
use Rattle.fault_injector.specs.FaultRun.{Begun, begun, cycle_under, outside, stop_or, operation_stop}
use Rattle.fault_injector.specs.RunLaw.{AnswersStand, integer, words_under}
use Rattle.fault_injector.proofs.WholeRun.{Laws, answers_stand}

-- ---- the first stop

abbrev stopped_at : ℕ → Option StopKind → Option CycleEnd
stopped_at k None = None
stopped_at k (Some why) = Some (end.Stopped k why)

stop_told : (k : ℕ) (s : Option StopKind) → first_stop k (stop_answer s) ≡ stopped_at k s
stop_told k None = refl
stop_told k (Some stop.Range) = refl
stop_told k (Some stop.DivZero) = refl
stop_told k (Some stop.Operand) = refl

first_stop_is : (b : Begun) (k j : ℕ) (values : List ℤ) (s : Option StopKind)
    → first_stop k (words_under b j values ++ stop_answer s) ≡ stopped_at (k + length values) s
first_stop_is b k j [] s = stop_told k s ∙ ap (λ m. stopped_at m s) (omega arith)
first_stop_is b k j (v ∷ values) s = first_stop_is b (suc k) (suc j) values s ∙ ap (λ m. stopped_at m s) (omega arith)

-- ---- the first output outside its type

-- each of these outputs is an operation's
abbrev Inside : ℕ → List Outlet → Type 0
Inside n [] = Unit {0}
Inside n (o ∷ outputs) = (o.op < n) × Inside n outputs

abbrev as_end : Option Stop → Option CycleEnd
as_end None = None
as_end (Some s) = Some (end.Stopped s.op s.kind)

-- what the words of a cycle hold
record Holds (laws : Laws) (t : Numbers) (g : Lists) (acts : Acts) (n : ℕ) (p : Profile) (answers : List Answer) (values : List ℤ) (count : ℕ) : Type 0 where
  profile : p ≡ t.profile
  stand : AnswersStand t (pos (stamp t.step n)) count answers values (frame t g acts n).given

as_end_case : (b : Bool) (x : Option CycleEnd) (y : Option Stop) (s : Stop) → x ≡ as_end y
    → cond b x (Some (end.Stopped s.op s.kind)) ≡ as_end (cond b y (Some s))
as_end_case true x y s e = e
as_end_case false x y s e = refl

value_at : (laws : Laws) (t : Numbers) (g : Lists) (acts : Acts) (n : ℕ) (p : Profile) (answers : List Answer) (values : List ℤ) (count k : ℕ)
    → Holds laws t g acts n p answers values count → k < count
    → value_part p (word_at answers k) ≡ at values k
value_at laws t g acts n p answers values count k holds below =
    let z = integer t k (pos (stamp t.step n)) (at (frame t g acts n).given k) in
    ap (λ q. value_part q (word_at answers k)) holds.profile
    ∙ (ap (value_part t.profile) (holds.stand k below) ∙ (laws.words t.profile).value (at values k) (modulo t.profile z) ((laws.words t.profile).below z))

outside_is : (laws : Laws) (t : Numbers) (g : Lists) (acts : Acts) (n : ℕ) (p : Profile) (answers : List Answer) (values : List ℤ) (count : ℕ)
    (outputs : List Outlet) → Holds laws t g acts n p answers values count
    → Inside count outputs → first_outside p answers outputs ≡ as_end (outside values outputs)
outside_is laws t g acts n p answers values count [] holds inside = refl
outside_is laws t g acts n p answers values count (o ∷ outputs) holds inside =
    ap (λ (v : ℤ). cond (fits o.ty v) (first_outside p answers outputs) (Some (end.Stopped o.op stop.Operand)))
    (value_at laws t g acts n p answers values count o.op holds inside.0)
    ∙ as_end_case (fits o.ty (at values o.op)) (first_outside p answers outputs) (outside values outputs) (record { op = o.op; kind = stop.Operand })
    (outside_is laws t g acts n p answers values count outputs holds inside.1)

-- ---- the first output with another residue

pub same_test : (x y u w : ℕ) (b c : Bool) → (x == y) ≡ b → (u == w) ≡ c → (x ≡ y → u ≡ w) → (u ≡ w → x ≡ y) → b ≡ c
same_test x y u w true true e f there back = refl
same_test x y u w true false e f there back = absurd (false≢true (sym f ∙ eq-eqb u w (there (eqb-true x y e))))
same_test x y u w false true e f there back = absurd (false≢true (sym e ∙ eq-eqb x y (back (eqb-true u w f))))
same_test x y u w false false e f there back = refl

sum_whole : (s d a : ℤ) (r : ℕ) → d ≡ a +ℤ pos r → r ≡ 0 → s +ℤ d ≡ a +ℤ s
sum_whole s d a r e h = omega (arith, ints, e, h)

part_whole : (s d a : ℤ) → s +ℤ d ≡ a +ℤ s → d ≡ a +ℤ pos 0
part_whole s d a e = omega (arith, ints, e)

-- a difference of 0 keeps a residue, and no other does
kept_there : (p : Profile) → WordLaws p → (s : ℕ) (d : ℤ) → s < modulus p → modulo p d ≡ 0 → modulo p (pos s +ℤ d) ≡ s
unfolding coded
kept_there p laws s d below e =
    let z : pos s +ℤ d ≡ coded p (value_part p d) s = sum_whole (pos s) d (pos (modulus p) *ℤ value_part p d) (modulo p d) (laws.whole d) e in
    ap (modulo p) z ∙ laws.residue (value_part p d) s below

kept_back : (p : Profile) → WordLaws p → (s : ℕ) (d : ℤ) → s < modulus p → modulo p (pos s +ℤ d) ≡ s → modulo p d ≡ 0
unfolding coded
kept_back p laws s d below e =
    let v = value_part p (pos s +ℤ d) in
    let z : pos s +ℤ d ≡ pos (modulus p) *ℤ v +ℤ pos s = laws.whole (pos s +ℤ d) ∙ ap (λ r. pos (modulus p) *ℤ v +ℤ pos r) e in
    ap (modulo p) (part_whole (pos s) d (pos (modulus p) *ℤ v) z) ∙ laws.residue v 0 (omega (arith, below))

regrouped : (s d : ℕ) (x : ℤ) → pos s +ℤ pos d +ℤ x ≡ pos (s + d) +ℤ x
regrouped s d x = omega (arith, ints)

residue_at : (laws : Laws) (t : Numbers) (g : Lists) (acts : Acts) (n : ℕ) (p : Profile) (answers : List Answer) (values : List ℤ) (count k : ℕ)
    → Holds laws t g acts n p answers values count → k < count
    → modulo p (word_at answers k) ≡ residue_under t g acts n k
residue_at laws t g acts n p answers values count k holds below =
    let z = integer t k (pos (stamp t.step n)) (at (frame t g acts n).given k) in
    ap (λ q. modulo q (word_at answers k)) holds.profile
    ∙ (ap (modulo t.profile) (holds.stand k below)
    ∙ ((laws.words t.profile).residue (at values k) (modulo t.profile z) ((laws.words t.profile).below z)
    ∙ ap (modulo t.profile) (regrouped (signature t.profile t.seed k) (stamp t.step n) (at (frame t g acts n).given k))))

abbrev as_refusal : Option RefusedAt → Option CycleEnd
as_refusal None = None
as_refusal (Some r) = Some (end.Refused r.output r.found r.expected)

refusal_case : (b c : Bool) (x : Option CycleEnd) (y : Option RefusedAt) (r : RefusedAt) → b ≡ c → x ≡ as_refusal y
    → cond b x (Some (end.Refused r.output r.found r.expected)) ≡ as_refusal (cond c y (Some r))
refusal_case true true x y r e h = h
refusal_case false false x y r e h = refl
refusal_case true false x y r e h = absurd (false≢true (sym e))
refusal_case false true x y r e h = absurd (false≢true e)

refused_is : (laws : Laws) (t : Numbers) (g : Lists) (acts : Acts) (n : ℕ) (p : Profile) (answers : List Answer) (values : List ℤ) (count number : ℕ)
    (outputs : List Outlet) → IsTable t → n < most_cycles
    → Holds laws t g acts n p answers values count → Inside count outputs
    → first_refused p t n answers number outputs ≡ as_refusal (first_unaccepted t g acts n number outputs)
refused_is laws t g acts n p answers values count number [] table below holds inside = refl
refused_is laws t g acts n p answers values count number (o ∷ outputs) table below holds inside =
    let found = residue_at laws t g acts n p answers values count o.op holds inside.0 in
    let wanted : expected p t.seed t.step o.op n ≡ expected t.profile t.seed t.step o.op n = ap (λ q. expected q t.seed t.step o.op n) holds.profile in
    let s = expected t.profile t.seed t.step o.op n in
    let d = difference_at t g acts n o.op in
    let low = laws.residues t.profile t.seed t.step o.op n table.step_to below in
    ap (λ r. cond (r == expected p t.seed t.step o.op n) (first_refused p t n answers (suc number) outputs)
    (Some (end.Refused number r (expected p t.seed t.step o.op n)))) found
    ∙ (ap (λ w. cond (residue_under t g acts n o.op == w) (first_refused p t n answers (suc number) outputs)
    (Some (end.Refused number (residue_under t g acts n o.op) w))) wanted
    ∙ refusal_case (residue_under t g acts n o.op == s) (modulo t.profile d == 0) (first_refused p t n answers (suc number) outputs)
    (first_unaccepted t g acts n (suc number) outputs)
    (record { output = number; found = residue_under t g acts n o.op; expected = s })
    (same_test (residue_under t g acts n o.op) s (modulo t.profile d) 0 _ _ refl refl (kept_back t.profile (laws.words t.profile) s d low)
    (kept_there t.profile (laws.words t.profile) s d low))
    (refused_is laws t g acts n p answers values count (suc number) outputs table below holds inside.1))

-- ---- the end

end_case : (s o : Option Stop) (r : Option RefusedAt) → end_or (as_end s) (end_or (as_end o) (end_or (as_refusal r) end.Released)) ≡ ending (stop_or s o) r
end_case (Some s) o r = refl
end_case None (Some o) r = refl
end_case None None (Some r) = refl
end_case None None None = refl

operation_end : (k : ℕ) (s : Option StopKind) → stopped_at k s ≡ as_end (option_map (λ why. record { op = k; kind = why }) s)
operation_end k None = refl
operation_end k (Some why) = refl

stop_first : (s o : Option Stop) (r : Option RefusedAt) (x y : Option CycleEnd) → (s ≡ None → x ≡ as_end o) → (s ≡ None → y ≡ as_refusal r)
    → end_or (as_end s) (end_or x (end_or y end.Released)) ≡ ending (stop_or s o) r
stop_first (Some s) o r x y f h = refl
stop_first None o r x y f h =
    ap (λ (x : Option CycleEnd). end_or x (end_or y end.Released)) (f refl)
    ∙ (ap (λ (y : Option CycleEnd). end_or (as_end o) (end_or y end.Released)) (h refl) ∙ end_case None o r)

abbrev stop_as : ℕ → StopKind → Stop
stop_as k why = record { op = k; kind = why }

no_stop : (k : ℕ) (s : Option StopKind) → option_map (stop_as k) s ≡ None → s ≡ None
no_stop k None e = refl
no_stop k (Some why) e = absurd cc

inside_all : (n : ℕ) (outputs : List Outlet) → ((k : ℕ) (o : Outlet) → slice_get outputs k ≡ Some o → o.op < n) → Inside n outputs
inside_all n [] h = tt
inside_all n (o ∷ outputs) h = (h 0 o refl, inside_all n outputs (λ k x e. h (suc k) x e))

pub ends_are_read : Laws → EndsAreRead
ends_are_read laws t g acts n past held row answers graph table profile below is =
    let b = begun t g acts n past held row in
    let c = cycle_under b in
    let count = length g.operations in
    let zero_plus : 0 + length c.values ≡ length c.values = omega arith in
    let first : first_stop 0 answers ≡ as_end (operation_stop c) =
    ap (first_stop 0) is ∙ (first_stop_is b 0 0 c.values c.stop ∙ (ap (λ k. stopped_at k c.stop) zero_plus ∙ operation_end (length c.values) c.stop)) in
    let inside : Inside count g.outputs = inside_all count g.outputs (λ k o there. (laws.entries.output g k o graph.part there).operation) in
    let holds : operation_stop c ≡ None → Holds laws t g acts n g.profile answers c.values count =
    λ none. record { profile = sym profile; stand = answers_stand b answers is (no_stop (length c.values) c.stop none) } in
    ap (λ (x : Option CycleEnd). end_or x (end_or (first_outside g.profile answers g.outputs)
    (end_or (first_refused g.profile t n answers 0 g.outputs) end.Released))) first
    ∙ stop_first (operation_stop c) (outside c.values g.outputs) (first_unaccepted t g acts n 0 g.outputs) (first_outside g.profile answers g.outputs)
    (first_refused g.profile t n answers 0 g.outputs)
    (λ none. outside_is laws t g acts n g.profile answers c.values count g.outputs (holds none) inside)
    (λ none. refused_is laws t g acts n g.profile answers c.values count 0 g.outputs table below (holds none) inside)

-- ---- the row of outputs

no_stop_first : (s o : Option Stop) → stop_or s o ≡ None → s ≡ None
no_stop_first (Some s) o e = absurd cc
no_stop_first None o e = refl

values_are : (laws : Laws) (t : Numbers) (g : Lists) (acts : Acts) (n : ℕ) (p : Profile) (answers : List Answer) (values : List ℤ) (count : ℕ)
    (outputs : List Outlet) → Holds laws t g acts n p answers values count → Inside count outputs
    → map (λ (o : Outlet). value_part p (word_at answers o.op)) outputs ≡ map (λ (o : Outlet). at values o.op) outputs
values_are laws t g acts n p answers values count [] holds inside = refl
values_are laws t g acts n p answers values count (o ∷ outputs) holds inside =
    ap (λ (v : ℤ). v ∷ map (λ (o : Outlet). value_part p (word_at answers o.op)) outputs)
    (value_at laws t g acts n p answers values count o.op holds inside.0)
    ∙ ap (λ (vs : List ℤ). at values o.op ∷ vs) (values_are laws t g acts n p answers values count outputs holds inside.1)

pub outputs_are_read : Laws → OutputsAreRead
outputs_are_read laws t g acts n past held row answers graph table profile below is none =
    let b = begun t g acts n past held row in
    let c = cycle_under b in
    let count = length g.operations in
    let inside : Inside count g.outputs = inside_all count g.outputs (λ k o there. (laws.entries.output g k o graph.part there).operation) in
    let stop = no_stop (length c.values) c.stop (no_stop_first (operation_stop c) (outside c.values g.outputs) none) in
    let holds : Holds laws t g acts n g.profile answers c.values count = record { profile = sym profile; stand = answers_stand b answers is stop } in
    values_are laws t g acts n g.profile answers c.values count g.outputs holds inside
