-- Untouched: operations that no act comes to do as without the acts.
use Rattle.std.proofs.Common.{◌≡◌, ◌≢◌, ⊎_elim, ℕ, zero, suc, ◌+◌, ◌<◌, ◌≤◌, ◌==◌, nat_lt, cond, Bool, true, false, List, [], ◌∷◌, ◌++◌, length, slice_get, ℤ}
use Rattle.std.proofs.Common.{pos, unsigned_abs, Option, Some, None, Ok, Err, ap, sym, subst, ◌∙◌, refl, arith}
use Rattle.std.specs.Option.{is_some}
use Rattle.std.proofs.lemmas.Bool.Decides.{eqb_tells}
use Rattle.std.proofs.lemmas.List.{get_or_append_left, get_or_push, length_push}
use Rattle.vcp_base.specs.declared.kind.Kind.{Kind}
use Rattle.vcp_base.specs.declared.kind.Kind.TheVariants as kind
use Rattle.vcp_base.specs.declared.kind.StopKind.{StopKind}
use Rattle.vcp_base.specs.declared.ty.Ty.{Ty}
use Rattle.vcp_base.specs.Kinds.{Outcome, operands, operand_type, outcome}
use Rattle.vcp_base.specs.Values.{at}
use Rattle.op_graph.specs.declared.op.Op.{Op}
use Rattle.op_graph.specs.GraphRun.{Cycle, after, cycle_from, outcome_of, own, operand}
use Rattle.op_graph.specs.GraphRun.{read as plain_read}
use Rattle.op_graph.specs.Lists.{Lists, cells}
use Rattle.op_graph.specs.Reads.{Reads, named}
use Rattle.op_graph.specs.Rules.{reads_as, is_load}
use Rattle.fault_script.specs.declared.act.Act.{Act}
use Rattle.fault_script.specs.Changes.{Acts}
use Rattle.fault_script.specs.Differences.{Frame, read_as}
use Rattle.fault_injector.specs.FaultRun.{Begun, course, cycle_under_from, given_by}
use Rattle.fault_injector.specs.Stepping.{outcome_under, plain_operand}
use Rattle.weight_audit.specs.Paths.{Crosses, Leads, Step}
use Rattle.fault_cover.specs.Touched.{IsTouched, SameUntouched}

-- ---- paths go on

append_read : (g : Lists) (q r j : ℕ) (steps : List Step) (borders k : ℕ) → Leads g q borders k steps → Reads g.operations r q j
    → Leads g r borders k (steps ++ Step.Read r j ∷ [])
append_read g q r j [] borders k leads reads = (subst (λ m. Reads g.operations r m j) (sym leads.0) reads, (refl, leads.1))
append_read g q r j (Step.Read s i ∷ steps) borders k leads reads = (leads.0, append_read g q r j steps borders s leads.1 reads)
append_read g q r j (Step.Cross l ∷ steps) zero k leads reads = absurd leads
append_read g q r j (Step.Cross l ∷ steps) (suc borders) k leads reads = (leads.0, append_read g q r j steps borders l leads.1 reads)

append_cross : (g : Lists) (q l : ℕ) (steps : List Step) (borders k : ℕ) → Leads g q borders k steps → Crosses (cells g) q l
    → Leads g l (suc borders) k (steps ++ Step.Cross l ∷ [])
append_cross g q l [] borders k leads crosses = (subst (λ m. Crosses (cells g) m l) (sym leads.0) crosses, (refl, leads.1))
append_cross g q l (Step.Read s i ∷ steps) borders k leads crosses = (leads.0, append_cross g q l steps borders s leads.1 crosses)
append_cross g q l (Step.Cross m ∷ steps) zero k leads crosses = absurd leads
append_cross g q l (Step.Cross m ∷ steps) (suc borders) k leads crosses = (leads.0, append_cross g q l steps borders m leads.1 crosses)

module _ (g : Lists) (acts : Acts) where
  -- an operation at which an act stands is touched
  pub touched_there : (m q : ℕ) → (acts m q ≡ None → ⊥) → IsTouched g acts m q
  touched_there m q stands = record { cycle = m; op = q; stands = stands; more = 0; borders = omega arith; path = ([], (refl, refl)) }

  -- and so is what reads a touched one
  pub touched_read : (m q r j : ℕ) → Reads g.operations r q j → IsTouched g acts m q → IsTouched g acts m r
  touched_read m q r j reads t = record {
    cycle = t.cycle;
    op = t.op;
    stands = t.stands;
    more = t.more;
    borders = t.borders;
    path = (t.path.0 ++ Step.Read r j ∷ [], append_read g q r j t.path.0 t.more t.op t.path.1 reads);
  }

  pub touched_cross : (m q l : ℕ) → Crosses (cells g) q l → IsTouched g acts m q → IsTouched g acts (suc m) l
  touched_cross m q l crosses t = record {
    cycle = t.cycle;
    op = t.op;
    stands = t.stands;
    more = suc t.more;
    borders = let same = t.borders in omega (arith, same);
    path = (t.path.0 ++ Step.Cross l ∷ [], append_cross g q l t.path.0 t.more t.op t.path.1 crosses);
  }

  pub no_act : (m q : ℕ) → (IsTouched g acts m q → ⊥) → (x : Option Act) → acts m q ≡ x → acts m q ≡ None
  no_act m q untouched None e = e
  no_act m q untouched (Some a) e = absurd (untouched (touched_there m q (λ none. let no : Some a ≡ None = sym e ∙ none in cc)))

-- ---- one operation

both_same : (b : Bool) (t : Ty) (x y z : ℤ) → (is_some (cond b (Some t) None) ≡ true → x ≡ y) → cond b x z ≡ cond b y z
both_same true t x y z same = same refl
both_same false t x y z same = refl

operand_as : (k : Kind) (f : Frame) (held values : List ℤ) (op : Op) (j : ℕ) →
    (is_load k ≡ true → at f.held (unsigned_abs op.imm) ≡ at held (unsigned_abs op.imm))
    → (is_some (reads_as k op.from j) ≡ true → at f.given (named op j) ≡ at values (named op j))
    → cond (nat_lt j (operands k)) (read_as f op j k) (pos 0) ≡ cond (nat_lt j (operands k)) (plain_read held values k op.imm (named op j)) (pos 0)
operand_as kind.Load f held values op j loads reads = ap (λ x. cond (nat_lt j 1) x (pos 0)) (loads refl)
operand_as k f held values op j loads reads =
    both_same (nat_lt j (operands k)) (operand_type k j op.from) (at f.given (named op j)) (at values (named op j)) (pos 0) reads

-- without an act an operation gives what its kind gives on what it reads
pub plain_outcome : (b : Begun) (held given plain : List ℤ) (op : Op)
    → (is_load op.kind ≡ true → at b.held (unsigned_abs op.imm) ≡ at held (unsigned_abs op.imm))
    → ((j : ℕ) → is_some (reads_as op.kind op.from j) ≡ true → at given (named op j) ≡ at plain (named op j))
    → outcome_under b.table b.graph b.cycle b.row (course b given) (length given) op None ≡ outcome_of held b.row plain op
plain_outcome b held given plain op loads reads =
    let f : Frame = record { held = b.held; given = given } in
    let o = λ (x y z : ℤ). outcome op.kind op.from op.ty (own b.row op.kind op.imm) x y z in
    let first = operand_as op.kind f held plain op 0 loads (reads 0) in
    let second = operand_as op.kind f held plain op 1 loads (reads 1) in
    let third = operand_as op.kind f held plain op 2 loads (reads 2) in
    ap (λ x. o x (plain_operand f op 1) (plain_operand f op 2)) first
    ∙ ap (λ y. o (operand held plain op 0 (named op 0)) y (plain_operand f op 2)) second
    ∙ ap (λ z. o (operand held plain op 0 (named op 0)) (operand held plain op 1 (named op 1)) z) third

pub same_outcome : (b : Begun) (held given plain : List ℤ) (op : Op) → b.acts (length given) ≡ None
    → (is_load op.kind ≡ true → at b.held (unsigned_abs op.imm) ≡ at held (unsigned_abs op.imm))
    → ((j : ℕ) → is_some (reads_as op.kind op.from j) ≡ true → at given (named op j) ≡ at plain (named op j))
    → given_by b given op ≡ outcome_of held b.row plain op
same_outcome b held given plain op none loads reads =
    ap (outcome_under b.table b.graph b.cycle b.row (course b given) (length given) op) none ∙ plain_outcome b held given plain op loads reads

-- ---- a cycle, operation by operation

-- what operations give one after another, by the values before
unfoldable pub walk : (List ℤ → Op → Outcome) → List ℤ → List Op → Cycle
walk gives values [] = record { values = values; stop = None }
walk gives values (op ∷ ops) = after values (λ v. walk gives (values ++ v ∷ []) ops) (gives values op)

pub after_same : (values : List ℤ) (next other : ℤ → Cycle) (x : Outcome) → ((v : ℤ) → next v ≡ other v) → after values next x ≡ after values other x
after_same values next other (Ok v) same = same v
after_same values next other (Err why) same = refl

pub walk_under : (b : Begun) (values : List ℤ) (ops : List Op) → cycle_under_from b values ops ≡ walk (given_by b) values ops
unfolding walk
walk_under b values [] = refl
walk_under b values (op ∷ ops) =
    after_same values (λ v. cycle_under_from b (values ++ v ∷ []) ops) (λ v. walk (given_by b) (values ++ v ∷ []) ops) (given_by b values op)
    (λ v. walk_under b (values ++ v ∷ []) ops)

pub walk_plain : (held row values : List ℤ) (ops : List Op) → cycle_from held row values ops ≡ walk (outcome_of held row) values ops
unfolding walk
walk_plain held row values [] = refl
walk_plain held row values (op ∷ ops) =
    after_same values (λ v. cycle_from held row (values ++ v ∷ []) ops) (λ v. walk (outcome_of held row) (values ++ v ∷ []) ops) (outcome_of held row values op)
    (λ v. walk_plain held row (values ++ v ∷ []) ops)

-- a cycle begins with these values
record BeginsWith (values : List ℤ) (least : ℕ) (c : Cycle) : Type 0 where
  pub long : least ≤ length c.values
  pub same : (q : ℕ) → q < length values → at c.values q ≡ at values q

begins_after : (values : List ℤ) (next : ℤ → Cycle) (x : Outcome) → ((v : ℤ) → BeginsWith values (length values + 1) (next v))
    → BeginsWith values (length values) (after values next x)
begins_after values next (Ok v) begins = record { long = let le = (begins v).long in omega (arith, le); same = (begins v).same }
begins_after values next (Err why) begins = record { long = omega arith; same = λ q lt. refl }

one_longer : (values : List ℤ) (v : ℤ) (c : Cycle) → BeginsWith (values ++ v ∷ []) (length (values ++ v ∷ [])) c → BeginsWith values (length values + 1) c
one_longer values v c more =
    let long = more.long in
    let count = length_push values v in
    record {
      long = omega (arith, long, count);
      same = λ q lt. more.same q (omega (arith, lt, count)) ∙ get_or_append_left values (v ∷ []) (pos 0) q lt;
    }

begins : (gives : List ℤ → Op → Outcome) (values : List ℤ) (ops : List Op) → BeginsWith values (length values) (walk gives values ops)
unfolding walk
begins gives values [] = record { long = omega arith; same = λ q lt. refl }
begins gives values (op ∷ ops) =
    begins_after values (λ v. walk gives (values ++ v ∷ []) ops) (gives values op)
    (λ v. one_longer values v (walk gives (values ++ v ∷ []) ops) (begins gives (values ++ v ∷ []) ops))

begins_next : (gives : List ℤ → Op → Outcome) (values : List ℤ) (ops : List Op) (v : ℤ) → BeginsWith values (length values + 1)
    (walk gives (values ++ v ∷ []) ops)
begins_next gives values ops v = one_longer values v (walk gives (values ++ v ∷ []) ops) (begins gives (values ++ v ∷ []) ops)

-- a cycle that doesn't stop has a value of each operation
whole_after : (values : List ℤ) (next : ℤ → Cycle) (n : ℕ) (x : Outcome) → ((v : ℤ) → (next v).stop ≡ None → length (next v).values ≡ n)
    → (after values next x).stop ≡ None → length (after values next x).values ≡ n
whole_after values next n (Ok v) whole none = whole v none
whole_after values next n (Err why) whole none = absurd cc

pub whole : (gives : List ℤ → Op → Outcome) (values : List ℤ) (ops : List Op) → (walk gives values ops).stop ≡ None
    → length (walk gives values ops).values ≡ length values + length ops
unfolding walk
whole gives values [] none = omega arith
whole gives values (op ∷ ops) none =
    whole_after values (λ v. walk gives (values ++ v ∷ []) ops) (length values + suc (length ops)) (gives values op)
    (λ v none. let count = length_push values v in let all = whole gives (values ++ v ∷ []) ops none in omega (arith, all, count)) none

abbrev SameOutcome : Outcome → Outcome → Type 0
SameOutcome x y = x ≡ y

module _ (g : Lists) (acts : Acts) (m : ℕ) (k : ℕ) (given plain : List ℤ) (many : length given ≡ k) (many_plain : length plain ≡ k)
    (same : (q : ℕ) → q < k → (IsTouched g acts m q → ⊥) → at given q ≡ at plain q) where
  agree_more : (v w : ℤ) → ((IsTouched g acts m k → ⊥) → v ≡ w) → (q : ℕ) → q < k + 1 → (IsTouched g acts m q → ⊥)
      → at (given ++ v ∷ []) q ≡ at (plain ++ w ∷ []) q
  agree_more v w here q lt untouched = ⊎_elim
      (λ (h : ((q == k) ≡ true) × (q ≡ k)).
      ap (at (given ++ v ∷ [])) h.1 ∙ get_or_push given v (pos 0) k many ∙ here (λ t. untouched (subst (IsTouched g acts m) (sym h.1) t))
      ∙ sym (ap (at (plain ++ w ∷ [])) h.1 ∙ get_or_push plain w (pos 0) k many_plain))
      (λ (h : ((q == k) ≡ false) × (q ≢ k)).
      let less : q < k = let ne = h.1 in omega (arith, lt, ne) in
      get_or_append_left given (v ∷ []) (pos 0) q (omega (arith, less, many)) ∙ same q less untouched
      ∙ sym (get_or_append_left plain (w ∷ []) (pos 0) q (omega (arith, less, many_plain))))
      (eqb_tells q k)

  ended : (e f : Option StopKind) → ((IsTouched g acts m k → ⊥) → e ≡ f)
      → SameUntouched g acts m (record { values = given; stop = e }) (record { values = plain; stop = f })
  ended e f alike = record {
    values = λ q untouched lt less. same q (omega (arith, lt, many)) untouched;
    stops = λ q untouched is le.
        let here : k ≡ q = omega (arith, is, many) in
        (omega (arith, many_plain, here), sym (alike (λ t. untouched (subst (IsTouched g acts m) here t))));
    stops_back = λ q untouched is le.
        let here : k ≡ q = omega (arith, is, many_plain) in
        (omega (arith, many, here), alike (λ t. untouched (subst (IsTouched g acts m) here t)));
  }

  one_ended : (c : Cycle) (v : ℤ) (f : StopKind) → BeginsWith given (length given + 1) c → ((IsTouched g acts m k → ⊥) → ⊥)
      → SameUntouched g acts m c (record { values = plain; stop = Some f })
  one_ended c v f begins here = record {
    values = λ q untouched lt less. begins.same q (omega (arith, less, many, many_plain)) ∙ same q (omega (arith, less, many_plain)) untouched;
    stops = λ q untouched is le. absurd (let long = begins.long in omega (arith, long, is, le, many, many_plain));
    stops_back = λ q untouched is le.
        absurd (let at_k : k ≡ q = omega (arith, is, many_plain) in here (λ t. untouched (subst (IsTouched g acts m) at_k t)));
  }

  other_ended : (p : Cycle) (w : ℤ) (e : StopKind) → BeginsWith plain (length plain + 1) p → ((IsTouched g acts m k → ⊥) → ⊥)
      → SameUntouched g acts m (record { values = given; stop = Some e }) p
  other_ended p w e begins here = record {
    values = λ q untouched lt less. same q (omega (arith, lt, many)) untouched ∙ sym (begins.same q (omega (arith, lt, many, many_plain)));
    stops = λ q untouched is le.
        absurd (let at_k : k ≡ q = omega (arith, is, many) in here (λ t. untouched (subst (IsTouched g acts m) at_k t)));
    stops_back = λ q untouched is le. absurd (let long = begins.long in omega (arith, long, is, le, many, many_plain));
  }

  joined : (next other : ℤ → Cycle) (x y : Outcome) → ((IsTouched g acts m k → ⊥) → x ≡ y) → ((v : ℤ) → BeginsWith given (length given + 1) (next v))
      → ((w : ℤ) → BeginsWith plain (length plain + 1) (other w))
      → ((v w : ℤ) → ((IsTouched g acts m k → ⊥) → v ≡ w) → SameUntouched g acts m (next v) (other w))
      → SameUntouched g acts m (after given next x) (after plain other y)
  joined next other (Ok v) (Ok w) alike first second both = both v w (λ u. ok_is (alike u))
    where
      ok_is : {a b : ℤ} → SameOutcome (Ok a) (Ok b) → a ≡ b
      ok_is e = cc
  joined next other (Ok v) (Err f) alike first second both = one_ended (next v) v f (first v) (λ u. let e = alike u in absurd cc)
  joined next other (Err e) (Ok w) alike first second both = other_ended (other w) w e (second w) (λ u. let h = alike u in absurd cc)
  joined next other (Err e) (Err f) alike first second both = ended (Some e) (Some f) (λ u. err_is (alike u))
    where
      err_is : {a b : StopKind} → SameOutcome (Err a) (Err b) → Some a ≡ Some b
      err_is h = cc

-- what operations that aren't touched give is the same
pub record GiveSame (g : Lists) (acts : Acts) (m : ℕ) (gives plainly : List ℤ → Op → Outcome) : Type 0 where
  pub same : (k : ℕ) (op : Op) (given plain : List ℤ) → slice_get g.operations k ≡ Some op → length given ≡ k → length plain ≡ k
      → ((q : ℕ) → q < k → (IsTouched g acts m q → ⊥) → at given q ≡ at plain q) → (IsTouched g acts m k → ⊥) → gives given op ≡ plainly plain op

pub walked : (g : Lists) (acts : Acts) (m : ℕ) (gives plainly : List ℤ → Op → Outcome) → GiveSame g acts m gives plainly → (ops : List Op) (k : ℕ)
    (given plain : List ℤ)
    → length given ≡ k → length plain ≡ k → ((j : ℕ) (op : Op) → slice_get ops j ≡ Some op → slice_get g.operations (k + j) ≡ Some op)
    → ((q : ℕ) → q < k → (IsTouched g acts m q → ⊥) → at given q ≡ at plain q)
    → SameUntouched g acts m (walk gives given ops) (walk plainly plain ops)
unfolding walk
walked g acts m gives plainly give [] k given plain many many_plain there same = ended g acts m k given plain many many_plain same None None (λ u. refl)
walked g acts m gives plainly give (op ∷ ops) k given plain many many_plain there same =
    joined g acts m k given plain many many_plain same (λ v. walk gives (given ++ v ∷ []) ops) (λ w. walk plainly (plain ++ w ∷ []) ops)
    (gives given op) (plainly plain op)
    (λ u. give.same k op given plain (subst (λ n. slice_get g.operations n ≡ Some op) (let none : k + 0 ≡ k = omega arith in none)
    (there 0 op refl)) many many_plain same u)
    (λ v. begins_next gives given ops v) (λ w. begins_next plainly plain ops w)
    (λ v w here. walked g acts m gives plainly give ops (k + 1) (given ++ v ∷ []) (plain ++ w ∷ [])
    (let count = length_push given v in omega (arith, count, many)) (let count = length_push plain w in omega (arith, count, many_plain))
    (λ j o e. subst (λ n. slice_get g.operations n ≡ Some o) (let more : k + suc j ≡ (k + 1) + j = omega arith in more) (there (suc j) o e))
    (agree_more g acts m k given plain many many_plain same v w here))
