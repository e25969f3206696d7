-- StmtDeep: statements with a token that is too deep are read up to the first such token, which is refused for its depth.
use Rattle.std.proofs.Common.{◌≡◌, ℕ, suc, ◌<◌, ◌≤◌, Bool, cond, List, [], ◌∷◌, ◌++◌, length, Option, Some, None, Result, Ok, Err, inl, inr, refl, sym, ap, ◌∙◌}
use Rattle.std.proofs.Common.{subst, arith, append_assoc}
use Rattle.std.proofs.lemmas.Bool.{lt-leb}
use Rattle.vcp_base.specs.declared.spot.Spot.{Spot}
use Rattle.st_lexer.specs.declared.token.Key.{Key}
use Rattle.st_lexer.specs.declared.token.Key.TheVariants as key
use Rattle.st_lexer.specs.declared.token.Tok.{Tok}
use Rattle.st_lexer.specs.declared.token.Tok.TheVariants as tok
use Rattle.st_lexer.specs.declared.token.Token.{Token}
use Rattle.st_tree.specs.declared.expr.UnOp.TheVariants as un
use Rattle.st_tree.specs.ExprTree.{ExprTree, literal, name, unary}
use Rattle.st_tree.specs.StmtTree.{LabelTree, StmtTree, StmtTrees, ArmTrees, BranchTrees, OtherTree, no_stmts, no_arms, no_branches}
use Rattle.st_tree.specs.Appended.{stmts_and, arms_and}
use Rattle.st_tree.specs.Operators.{any_level}
use Rattle.st_tree.specs.Placed.{Placed, at, tokens_of, Within}
use Rattle.st_tree.specs.Expressions.{SpellsExpr}
use Rattle.st_tree.specs.Labels.{SpellsConst, spells_value, spells_named, spells_negative, SpellsLabel, spells_one, spells_range, SpellsLabels}
use Rattle.st_tree.specs.Labels.{spells_last_label, spells_next_label}
use Rattle.st_tree.specs.Statements.{SpellsStep, spells_no_step, spells_step, SpellsStmt, spells_assign, spells_if, spells_case, spells_for, SpellsStmts}
use Rattle.st_tree.specs.Statements.{spells_no_stmt, spells_empty, spells_stmt, SpellsArms, spells_arm, SpellsMoreArms, spells_elsif, spells_if_else}
use Rattle.st_tree.specs.Statements.{spells_end_if, SpellsBranches, spells_branch, SpellsMoreBranches, spells_next_branch, spells_case_else}
use Rattle.st_tree.specs.Statements.{spells_end_case}
use Rattle.st_parser.specs.declared.fault.SyntaxFault.{SyntaxFault}
use Rattle.st_parser.specs.declared.fault.SyntaxFault.TheVariants as fault
use Rattle.st_parser.specs.declared.marks.Begins.{Begins}
use Rattle.st_parser.specs.declared.marks.Mark.{Mark}
use Rattle.st_parser.specs.declared.marks.Mark.TheVariants as mark
use Rattle.st_parser.specs.Marks.{begins_by, mark_of, is}
use Rattle.st_parser.specs.ExprMachine.{Context, want, Reading, no_deeper}
use Rattle.st_parser.specs.StmtMachine.{Selection, Loop, of_arm, of_if_else, of_branch, of_case_else, of_loop, Level, Purpose, to_assign, to_test, to_select}
use Rattle.st_parser.specs.StmtMachine.{to_begin, to_end, to_step, LabelPhase, first_wanted, first_negated, first_read, last_wanted, last_negated, last_read}
use Rattle.st_parser.specs.StmtMachine.{start, named, reading, loop_begun, loop_named, labelling, At, to, with_branch, start_at, named_at, take, read_on}
use Rattle.st_parser.specs.StmtMachine.{const_at, number_at, with_phase, label_ends, label_step}
use Rattle.st_parser.specs.ProgramMachine.{Front, State, in_body, body_step, program_step, run}
use Rattle.st_parser.proofs.Appends.{tokens-append, within-front}
use Rattle.st_parser.proofs.TokenSteps.{taken, body-taken, not-deeper}
use Rattle.st_parser.proofs.LabelComplete.{begins-literal, const-read, label-read, labels-read, begins-next, const-next, label-next, labels-next}
use Rattle.st_parser.proofs.StmtComplete.{Stops, stops-key, inside, inside-reads, whole-read, started, ended, stmt-read, stmts-read}
use Rattle.st_parser.proofs.ExprDeep.{First, first-split, deep}

too-deep : {A : Type 0} (most depth : ℕ) (t : Token) (a : A) → most < depth → no_deeper most depth t (Ok a) ≡ Err (fault.Depth t.spot)
too-deep {A = A} most depth t a lt = ap (λ (b : Bool). let r : Result A SyntaxFault = cond b (Ok a) (Err (fault.Depth t.spot)) in r) (lt-leb depth most lt)

with-phase-deep : (most depth : ℕ) (outer : List Level) (ss : StmtTrees) (k : Selection) (ls : List LabelTree) (t : Token) (r : Result LabelPhase SyntaxFault)
    (q : LabelPhase) → r ≡ Ok q → most < depth
    → with_phase outer ss k ls (no_deeper most depth t r) ≡ Err (fault.Depth t.spot)
with-phase-deep most depth outer ss k ls t r q h lt =
    ap (λ (x : Result LabelPhase SyntaxFault). with_phase outer ss k ls (no_deeper most depth t x)) h
    ∙ ap (λ (x : Result LabelPhase SyntaxFault). with_phase outer ss k ls x) (too-deep most depth t q lt)

-- a token alone that is within
pub not-alone : (m : ℕ) (p : Placed) (us : List Placed) (x : Placed) → p.depth ≤ m → First m (p ∷ []) us x → ⊥
not-alone m p [] x le h = omega (arith, le, h.0)
not-alone m p (u ∷ us) x le h = h.2

const-depth : {bytes : Token → List ℕ} {d : ℕ} {e : ExprTree} {ps : List Placed} (m : ℕ) → SpellsConst bytes d e ps → Within m ps → d ≤ m
const-depth m (spells_value v t h) w = w.0
const-depth m (spells_named t h) w = w.0
const-depth m (spells_negative ty v s t hm ht) w = w.0

module _ (c : Context) (end : Spot) where
  -- the tokens us are taken, and then x is refused for its depth
  pub record Stuck (s : State) (us : List Placed) (x : Placed) : Type 0 where
    pub state : State
    pub takes : (rest : List Token) → run c end (tokens_of us ++ rest) s ≡ run c end rest state
    pub refused : program_step c state x.token ≡ Err (fault.Depth x.token.spot)

  pub at-once : (s : State) (x p : Placed) → x ≡ p → program_step c s p.token ≡ Err (fault.Depth p.token.spot) → Stuck s [] x
  at-once s x p e h = subst (λ (y : Placed). Stuck s [] y) (sym e) (record { state = s; takes = λ rest. refl; refused = h })

  pub beyond : (ts us : List Placed) (s r : State) (x : Placed) → ((rest : List Token) → run c end (tokens_of ts ++ rest) s ≡ run c end rest r) → Stuck r us x
      → Stuck s (ts ++ us) x
  beyond ts us s r x through q = record {
    state = q.state;
    takes = λ rest. ap (λ (l : List Token). run c end l s) (tokens-append ts us rest) ∙ through (tokens_of us ++ rest) ∙ q.takes rest;
    refused = q.refused;
  }

  pub same-front : (s r : State) (us : List Placed) (x : Placed)
      → ((rest : List Token) → run c end (tokens_of us ++ rest) s ≡ run c end (tokens_of us ++ rest) r) → Stuck r us x → Stuck s us x
  same-front s r us x same q = record { state = q.state; takes = λ rest. same rest ∙ q.takes rest; refused = q.refused }

  -- the first that is too deep stands in the one part, or behind it
  pub parts : (ts vs us : List Placed) (x : Placed) (s r : State) → First c.most (ts ++ vs) us x → (First c.most ts us x → Stuck s us x)
      → (Within c.most ts → (rest : List Token) → run c end (tokens_of ts ++ rest) s ≡ run c end rest r)
      → (Within c.most ts → (ws : List Placed) → First c.most vs ws x → Stuck r ws x) → Stuck s us x
  parts ts vs us x s r h within through behind = elim (first-split c.most ts vs us x h) [
    | inl q ↦ within q
    | inr q ↦ subst (λ (l : List Placed). Stuck s l x) (sym q.1) (beyond ts q.0 s r x (through q.2) (behind q.2 q.0 q.3))
  ]

  -- a token that is within
  pub past : (p : Placed) (vs us : List Placed) (x : Placed) (s r : State) → First c.most (p ∷ vs) us x → p.depth ≤ c.most
      → ((rest : List Token) → run c end (p.token ∷ rest) s ≡ run c end rest r)
      → ((ws : List Placed) → First c.most vs ws x → Stuck r ws x) → Stuck s us x
  past p vs [] x s r h le through behind = absurd (omega (arith, le, h.0))
  past p vs (u ∷ us) x s r h le through behind = subst (λ (y : Placed). Stuck s (y ∷ us) x) (sym h.0) (beyond (p ∷ []) us s r x through (behind us h.2))

  -- a token that may be too deep
  pub first-token : (p : Placed) (vs us : List Placed) (x : Placed) (s r : State) → First c.most (p ∷ vs) us x
      → (c.most < p.depth → program_step c s p.token ≡ Err (fault.Depth p.token.spot))
      → (p.depth ≤ c.most → (rest : List Token) → run c end (p.token ∷ rest) s ≡ run c end rest r)
      → (p.depth ≤ c.most → (ws : List Placed) → First c.most vs ws x → Stuck r ws x) → Stuck s us x
  first-token p vs [] x s r h refused through behind = at-once s x p h.1 (refused h.0)
  first-token p vs (u ∷ us) x s r h refused through behind =
      subst (λ (y : Placed). Stuck s (y ∷ us) x) (sym h.0) (beyond (p ∷ []) us s r x (through h.1) (behind h.1 us h.2))

  pub last-token : (p : Placed) (us : List Placed) (x : Placed) (s : State) → First c.most (p ∷ []) us x
      → (c.most < p.depth → program_step c s p.token ≡ Err (fault.Depth p.token.spot)) → Stuck s us x
  last-token p [] x s h refused = at-once s x p h.1 (refused h.0)
  last-token p (u ∷ us) x s h refused = absurd h.2

  -- what is read together with the token behind it
  pub unit : (ts : List Placed) (p : Placed) (vs ws : List Placed) (x : Placed) (s r : State) → p.depth ≤ c.most
      → ((rest : List Token) → run c end (tokens_of ts ++ p.token ∷ rest) s ≡ run c end rest r)
      → First c.most (p ∷ vs) ws x → ((ys : List Placed) → First c.most vs ys x → Stuck r ys x) → Stuck s (ts ++ ws) x
  unit ts p vs [] x s r le through h behind = absurd (omega (arith, le, h.0))
  unit ts p vs (u ∷ ws) x s r le through h behind =
      subst (λ (y : Placed). Stuck s (ts ++ y ∷ ws) x) (sym h.0)
      (subst (λ (l : List Placed). Stuck s l x) (append_assoc ts (p ∷ []) ws)
      (beyond (ts ++ p ∷ []) ws s r x (λ rest. ap (λ (l : List Token). run c end l s) (tokens-append ts (p ∷ []) rest) ∙ through rest) (behind ws h.2)))

  -- such a thing, where the first that is too deep stands in it or behind it
  pub units : (ts : List Placed) (p : Placed) (vs us : List Placed) (x : Placed) (s r : State) → First c.most (ts ++ p ∷ vs) us x
      → (First c.most ts us x → Stuck s us x) → (Within c.most ts → p.depth ≤ c.most)
      → (Within c.most ts → (rest : List Token) → run c end (tokens_of ts ++ p.token ∷ rest) s ≡ run c end rest r)
      → (Within c.most ts → (ws : List Placed) → First c.most vs ws x → Stuck r ws x) → Stuck s us x
  units ts p vs us x s r h within le through behind = elim (first-split c.most ts (p ∷ vs) us x h) [
    | inl q ↦ within q
    | inr q ↦ subst (λ (l : List Placed). Stuck s l x) (sym q.1) (unit ts p vs q.0 x s r (le q.2) (through q.2) q.3 (behind q.2))
  ]

module _ (c : Context) (end : Spot) (f : Front) where
  expr-stuck : {d : ℕ} {e : ExprTree} {ps : List Placed} → SpellsExpr c.bytes d any_level e ps
      → (outer : List Level) (ss : StmtTrees) (p : Purpose) (us : List Placed) (x : Placed) → d ≡ length outer → First c.most ps us x
      → Stuck c end (in_body f outer ss (reading p [] want)) us x
  expr-stuck {e = e} {ps = ps} sp outer ss p us x eq h =
      let q = deep c (length outer) (inside c end f outer ss p) (inside-reads c end f outer ss p)
      (subst (λ (n : ℕ). SpellsExpr c.bytes n any_level e ps) eq sp) [] us x (omega arith) (omega arith) (omega arith) h in
      record {
        state = in_body f outer ss (reading p q.inner want);
        takes = q.takes;
        refused = ap (λ (r : Result Reading SyntaxFault). body_step f (read_on outer ss p r)) q.refused;
      }

  expr-then : {d : ℕ} {e : ExprTree} {ps : List Placed} → SpellsExpr c.bytes d any_level e ps
      → (outer : List Level) (ss : StmtTrees) (p : Purpose) (t : Token) (k : Mark) (a : At) (vs us : List Placed) (x : Placed)
      → d ≡ length outer → d ≤ c.most → Stops t k → take outer ss p e k t ≡ Ok a → First c.most (ps ++ at d t ∷ vs) us x
      → ((ws : List Placed) → First c.most vs ws x → Stuck c end (in_body f a.outer a.stmts a.phase) ws x)
      → Stuck c end (in_body f outer ss (reading p [] want)) us x
  expr-then {d = d} {ps = ps} sp outer ss p t k a vs us x eq le st h g behind =
      units c end ps (at d t) vs us x (in_body f outer ss (reading p [] want)) (in_body f a.outer a.stmts a.phase) g
      (λ q. expr-stuck sp outer ss p us x eq q) (λ w. le) (λ w rest. whole-read c end f sp outer ss p t k rest a eq w st h) (λ w. behind)

  -- ---- labels

  const-stuck : {d : ℕ} {e : ExprTree} {ps : List Placed} → SpellsConst c.bytes d e ps
      → (outer : List Level) (ss : StmtTrees) (k : Selection) (ls : List LabelTree) (p : LabelPhase) (read : ExprTree → LabelPhase) (negated : Spot
      → LabelPhase)
      → ((t : Token)
      → label_step c outer ss k ls p t ≡ with_phase outer ss k ls (no_deeper c.most (suc (length outer)) t (const_at c read negated (begins_by t.tok) t)))
      → ((s : Spot) (t : Token)
      → label_step c outer ss k ls (negated s) t ≡ with_phase outer ss k ls (no_deeper c.most (suc (suc (length outer))) t (number_at read s t.tok t)))
      → d ≡ suc (length outer) → (us : List Placed) (x : Placed) → First c.most ps us x → Stuck c end (in_body f outer ss (labelling k ls p)) us x
  const-stuck {d = d} (spells_value v t h) outer ss k ls p read negated first second eq us x g =
      last-token c end (at d t) us x (in_body f outer ss (labelling k ls p)) g
      (λ lt. ap (λ (r : Result At SyntaxFault). body_step f r)
      (first t ∙ with-phase-deep c.most (suc (length outer)) outer ss k ls t (const_at c read negated (begins_by t.tok) t)
      (read (literal v.ty v.value t.spot)) (ap (λ (b : Begins). const_at c read negated b t) (begins-literal t.tok v h)) (omega (arith, eq, lt))))
  const-stuck {d = d} (spells_named t h) outer ss k ls p read negated first second eq us x g =
      last-token c end (at d t) us x (in_body f outer ss (labelling k ls p)) g
      (λ lt. ap (λ (r : Result At SyntaxFault). body_step f r)
      (first t ∙ with-phase-deep c.most (suc (length outer)) outer ss k ls t (const_at c read negated (begins_by t.tok) t) (read (name (c.bytes t) t.spot))
      (ap (λ (y : Tok). const_at c read negated (begins_by y) t) h) (omega (arith, eq, lt))))
  const-stuck {d = d} (spells_negative ty value m t hm ht) outer ss k ls p read negated first second eq us x g =
      first-token c end (at d m) (at (suc d) t ∷ []) us x (in_body f outer ss (labelling k ls p)) (in_body f outer ss (labelling k ls (negated m.spot))) g
      (λ lt. ap (λ (r : Result At SyntaxFault). body_step f r)
      (first m ∙ with-phase-deep c.most (suc (length outer)) outer ss k ls m (const_at c read negated (begins_by m.tok) m) (negated m.spot)
      (ap (λ (y : Tok). const_at c read negated (begins_by y) m) hm) (omega (arith, eq, lt))))
      (λ le rest. body-taken c end f outer ss (labelling k ls p) m rest (record { outer = outer; stmts = ss; phase = labelling k ls (negated m.spot) })
      (first m ∙ ap (λ (r : Result LabelPhase SyntaxFault). with_phase outer ss k ls (no_deeper c.most (suc (length outer)) m r))
      (ap (λ (y : Tok). const_at c read negated (begins_by y) m) hm)
      ∙ ap (λ (r : Result LabelPhase SyntaxFault). with_phase outer ss k ls r)
      (not-deeper c.most (suc (length outer)) m (negated m.spot) (omega (arith, eq, le)))))
      (λ le ws q. last-token c end (at (suc d) t) ws x (in_body f outer ss (labelling k ls (negated m.spot))) q
      (λ lt. ap (λ (r : Result At SyntaxFault). body_step f r)
      (second m.spot t
      ∙ with-phase-deep c.most (suc (suc (length outer))) outer ss k ls t (number_at read m.spot t.tok t)
      (read (unary un.Neg (literal ty value t.spot) m.spot)) (ap (λ (y : Tok). number_at read m.spot y t) ht) (omega (arith, eq, lt)))))

  label-stuck : {d : ℕ} {l : LabelTree} {ps : List Placed} → SpellsLabel c.bytes d l ps
      → (outer : List Level) (ss : StmtTrees) (k : Selection) (ls : List LabelTree) → d ≡ suc (length outer) → (us : List Placed) (x : Placed)
      → First c.most ps us x
      → Stuck c end (in_body f outer ss (labelling k ls first_wanted)) us x
  label-stuck (spells_one e ts sp) outer ss k ls eq us x g =
      const-stuck sp outer ss k ls first_wanted first_read first_negated (λ u. refl) (λ s u. refl) eq us x g
  label-stuck {d = d} (spells_range e l r ts vs sp hr sq) outer ss k ls eq us x g =
      units c end ts (at d r) vs us x (in_body f outer ss (labelling k ls first_wanted)) (in_body f outer ss (labelling k ls (last_wanted e))) g
      (λ q. const-stuck sp outer ss k ls first_wanted first_read first_negated (λ u. refl) (λ s u. refl) eq us x q)
      (λ w. const-depth c.most sp w)
      (λ w rest. const-read c end f sp outer ss k ls first_wanted first_read first_negated (λ u. refl) (λ s u. refl) eq w (r ∷ rest)
      ∙ body-taken c end f outer ss (labelling k ls (first_read e)) r rest (record { outer = outer; stmts = ss; phase = labelling k ls (last_wanted e) })
      (ap (λ (y : Tok). cond (is (mark_of y) mark.DotDot) (to outer ss (labelling k ls (last_wanted e)))
      (label_ends outer ss k (ls ++ record { first = e; last = None } ∷ []) (mark_of y) r)) hr))
      (λ w ws q. const-stuck sq outer ss k ls (last_wanted e) (last_read e) (last_negated e) (λ u. refl) (λ s u. refl) eq ws x q)

  label-depth : {d : ℕ} {l : LabelTree} {ps : List Placed} → SpellsLabel c.bytes d l ps → Within c.most ps → d ≤ c.most
  label-depth (spells_one e ts sp) w = const-depth c.most sp w
  label-depth {d = d} (spells_range e l r ts vs sp hr sq) w = const-depth c.most sp (within-front c.most ts (at d r ∷ vs) w)

  pub labels-stuck : {d : ℕ} {ls : List LabelTree} {ps : List Placed} → SpellsLabels c.bytes d ls ps
      → (outer : List Level) (ss : StmtTrees) (k : Selection) (done : List LabelTree) → d ≡ suc (length outer) → (us : List Placed) (x : Placed)
      → First c.most ps us x
      → Stuck c end (in_body f outer ss (labelling k done first_wanted)) us x
  labels-stuck {d = d} (spells_last_label l t ts sp ht) outer ss k done eq us x g =
      units c end ts (at d t) [] us x (in_body f outer ss (labelling k done first_wanted))
      (in_body f (record { body = of_branch k (done ++ l ∷ []); before = ss } ∷ outer) no_stmts start) g
      (λ q. label-stuck sp outer ss k done eq us x q) (λ w. label-depth sp w)
      (λ w rest. label-read c end f sp outer ss k done t mark.Colon rest
      (record { outer = record { body = of_branch k (done ++ l ∷ []); before = ss } ∷ outer; stmts = no_stmts; phase = start }) eq w
      (ap mark_of ht) refl refl)
      (λ w ws q. absurd q)
  labels-stuck {d = d} (spells_next_label l ls t ts vs sp ht sq) outer ss k done eq us x g =
      units c end ts (at d t) vs us x (in_body f outer ss (labelling k done first_wanted)) (in_body f outer ss (labelling k (done ++ l ∷ []) first_wanted)) g
      (λ q. label-stuck sp outer ss k done eq us x q) (λ w. label-depth sp w)
      (λ w rest. label-read c end f sp outer ss k done t mark.Comma rest
      (record { outer = outer; stmts = ss; phase = labelling k (done ++ l ∷ []) first_wanted }) eq w (ap mark_of ht) refl refl)
      (λ w ws q. labels-stuck sq outer ss k (done ++ l ∷ []) eq ws x q)

  -- behind a branch, the tokens before the one that is too deep are read as those of the next branch
  const-same : {d : ℕ} {e : ExprTree} {ps : List Placed} → SpellsConst c.bytes d e ps
      → (outer : List Level) (before ss : StmtTrees) (k : Selection) (ls : List LabelTree) → d ≤ c.most → (us : List Placed) (x : Placed) → First c.most ps us x
      → (rest : List Token)
      → run c end (tokens_of us ++ rest) (in_body f (record { body = of_branch k ls; before = before } ∷ outer) ss start)
      ≡ run c end (tokens_of us ++ rest) (in_body f outer before (labelling (with_branch k ls ss) [] first_wanted))
  const-same (spells_value v t h) outer before ss k ls le [] x g rest = absurd (omega (arith, le, g.0))
  const-same (spells_value v t h) outer before ss k ls le (u ∷ us) x g rest = absurd g.2
  const-same (spells_named t h) outer before ss k ls le [] x g rest = absurd (omega (arith, le, g.0))
  const-same (spells_named t h) outer before ss k ls le (u ∷ us) x g rest = absurd g.2
  const-same (spells_negative ty v m t hm ht) outer before ss k ls le [] x g rest = absurd (omega (arith, le, g.0))
  const-same (spells_negative ty v m t hm ht) outer before ss k ls le (u ∷ us) x g rest =
      begins-next c end f outer before ss k ls u.token (tokens_of us ++ rest) (ap (λ (y : Placed). mark_of y.token.tok) g.0 ∙ ap mark_of hm)

  -- a label and the token behind it, from its front on
  same-behind : {d : ℕ} (outer : List Level) (before ss : StmtTrees) (k : Selection) (ls : List LabelTree) (ts vs ws : List Placed) (t : Token) (x : Placed)
      → d ≤ c.most → First c.most (at d t ∷ vs) ws x
      → ((rest : List Token)
      → run c end (tokens_of ts ++ t ∷ rest) (in_body f (record { body = of_branch k ls; before = before } ∷ outer) ss start)
      ≡ run c end (tokens_of ts ++ t ∷ rest) (in_body f outer before (labelling (with_branch k ls ss) [] first_wanted)))
      → (rest : List Token)
      → run c end (tokens_of (ts ++ ws) ++ rest) (in_body f (record { body = of_branch k ls; before = before } ∷ outer) ss start)
      ≡ run c end (tokens_of (ts ++ ws) ++ rest) (in_body f outer before (labelling (with_branch k ls ss) [] first_wanted))
  same-behind outer before ss k ls ts vs [] t x le g same rest = absurd (omega (arith, le, g.0))
  same-behind outer before ss k ls ts vs (u ∷ ws) t x le g same rest =
      let here = record { body = of_branch k ls; before = before } ∷ outer in
      let list : tokens_of (ts ++ u ∷ ws) ++ rest ≡ tokens_of ts ++ t ∷ (tokens_of ws ++ rest) = tokens-append ts (u ∷ ws) rest
      ∙ ap (λ (y : Placed). tokens_of ts ++ y.token ∷ (tokens_of ws ++ rest)) g.0 in
      ap (λ (l : List Token). run c end l (in_body f (record { body = of_branch k ls; before = before } ∷ outer) ss start)) list
      ∙ same (tokens_of ws ++ rest)
      ∙ ap (λ (l : List Token). run c end l (in_body f outer before (labelling (with_branch k ls ss) [] first_wanted))) (sym list)

  abbrev Same : List Level → StmtTrees → StmtTrees → Selection → List LabelTree → List Placed → Type 0
  Same outer before ss k ls us =
      (rest : List Token) → run c end (tokens_of us ++ rest) (in_body f (record { body = of_branch k ls; before = before } ∷ outer) ss start) ≡ run c end
      (tokens_of us ++ rest) (in_body f outer before (labelling (with_branch k ls ss) [] first_wanted))

  label-same : {d : ℕ} {l : LabelTree} {ps : List Placed} → SpellsLabel c.bytes d l ps
      → (outer : List Level) (before ss : StmtTrees) (k : Selection) (ls : List LabelTree) → d ≡ suc (length outer) → d ≤ c.most
      → (us : List Placed) (x : Placed) → First c.most ps us x → Same outer before ss k ls us
  label-same (spells_one e ts sp) outer before ss k ls eq le us x g = const-same sp outer before ss k ls le us x g
  label-same {d = d} (spells_range e l r ts vs sp hr sq) outer before ss k ls eq le us x g = elim (first-split c.most ts (at d r ∷ vs) us x g) [
    | inl q ↦ const-same sp outer before ss k ls le us x q
    | inr q ↦ subst (λ (y : List Placed). Same outer before ss k ls y) (sym q.1)
        (same-behind {d = d} outer before ss k ls ts vs q.0 r x le q.3
        (λ rest. const-next c end f sp outer before ss k ls r rest eq q.2 (ap (λ (y : Tok). is (mark_of y) mark.Assign) hr)))
  ]

  labels-same : {d : ℕ} {ms : List LabelTree} {ps : List Placed} → SpellsLabels c.bytes d ms ps
      → (outer : List Level) (before ss : StmtTrees) (k : Selection) (ls : List LabelTree) → d ≡ suc (length outer) → d ≤ c.most
      → (us : List Placed) (x : Placed) → First c.most ps us x → Same outer before ss k ls us
  labels-same {d = d} (spells_last_label l t ts sp ht) outer before ss k ls eq le us x g = elim (first-split c.most ts (at d t ∷ []) us x g) [
    | inl q ↦ label-same sp outer before ss k ls eq le us x q
    | inr q ↦ absurd (not-alone c.most (at d t) q.0 x le q.3)
  ]
  labels-same {d = d} (spells_next_label l ms t ts vs sp ht sq) outer before ss k ls eq le us x g = elim (first-split c.most ts (at d t ∷ vs) us x g) [
    | inl q ↦ label-same sp outer before ss k ls eq le us x q
    | inr q ↦ subst (λ (y : List Placed). Same outer before ss k ls y) (sym q.1)
        (same-behind {d = d} outer before ss k ls ts vs q.0 t x le q.3
        (λ rest. label-next c end f sp outer before ss k ls t rest eq q.2 (ap (λ (y : Tok). is (mark_of y) mark.Assign) ht)))
  ]

  -- ---- statements

  stmt-depth : {d : ℕ} {s : StmtTree} {ps : List Placed} → SpellsStmt c.bytes d s ps → Within c.most ps → d ≤ c.most
  stmt-depth (spells_assign n a e ts hn ha sp) w = w.0
  stmt-depth (spells_if arms o ts (spells_arm k e body more p i t us vs ws hi sp ht sb sm)) w = w.0
  stmt-depth (spells_case e bs o t u ts us ht sp hu sb) w = w.0
  stmt-depth (spells_for first last by body r n a t o e ts us vs ws hr hn ha sp ht sq st ho sb he) w = w.0

  -- the first token of a statement, too deep
  begun-deep : (outer : List Level) (ss : StmtTrees) (t : Token) (k : Mark) (a : At) → mark_of t.tok ≡ k
      → start_at c outer ss k t ≡ no_deeper c.most (length outer) t (Ok a) → c.most < length outer
      → program_step c (in_body f outer ss start) t ≡ Err (fault.Depth t.spot)
  begun-deep outer ss t k a m h lt =
      ap (λ (r : Result At SyntaxFault). body_step f r) (ap (λ (y : Mark). start_at c outer ss y t) m ∙ h ∙ too-deep c.most (length outer) t a lt)

  labels-depth : {d : ℕ} {ls : List LabelTree} {ps : List Placed} → SpellsLabels c.bytes d ls ps → Within c.most ps → d ≤ c.most
  labels-depth {d = d} (spells_last_label l t ts sp ht) w = label-depth sp (within-front c.most ts (at d t ∷ []) w)
  labels-depth {d = d} (spells_next_label l ls t ts vs sp ht sq) w = label-depth sp (within-front c.most ts (at d t ∷ vs) w)

  branches-same : {d : ℕ} {bs : BranchTrees} {o : OtherTree} {ps : List Placed} → SpellsBranches c.bytes d bs o ps
      → (outer : List Level) (before ss : StmtTrees) (k : Selection) (ls : List LabelTree) → d ≡ length outer → suc d ≤ c.most
      → (us : List Placed) (x : Placed) → First c.most ps us x → Same outer before ss k ls us
  branches-same (spells_branch ms body bs o ts us vs sl sb sm) outer before ss k ls eq le xs x g = elim (first-split c.most ts (us ++ vs) xs x g) [
    | inl q ↦ labels-same sl outer before ss k ls (omega (arith, eq)) le xs x q
    | inr q ↦ subst (λ (y : List Placed). Same outer before ss k ls y) (sym q.1)
        (λ rest.
        ap (λ (l : List Token). run c end l (in_body f (record { body = of_branch k ls; before = before } ∷ outer) ss start)) (tokens-append ts q.0 rest)
        ∙ labels-next c end f sl outer before ss k ls (tokens_of q.0 ++ rest) (omega (arith, eq)) q.2
        ∙ ap (λ (l : List Token). run c end l (in_body f outer before (labelling (with_branch k ls ss) [] first_wanted))) (sym (tokens-append ts q.0 rest)))
  ]

  -- the last token of a statement stands no deeper than its first
  closing : (ws : List Placed) (p : Placed) (us : List Placed) (x : Placed) (s : State) → p.depth ≤ c.most → First c.most (ws ++ p ∷ []) us x
      → (First c.most ws us x → Stuck c end s us x) → Stuck c end s us x
  closing ws p us x s le g within = elim (first-split c.most ws (p ∷ []) us x g) [
    | inl q ↦ within q
    | inr q ↦ absurd (not-alone c.most p q.0 x le q.3)
  ]

  limits-stuck : {d : ℕ} {last : ExprTree} {by : Option ExprTree} {us vs : List Placed} → SpellsExpr c.bytes d any_level last us → SpellsStep c.bytes d by vs
      → (outer : List Level) (ss : StmtTrees) (l : Loop) (first : ExprTree) (o : Token) (ws ys : List Placed) (x : Placed)
      → d ≡ length outer → d ≤ c.most → o.tok ≡ tok.Key key.Do → First c.most (us ++ (vs ++ at d o ∷ ws)) ys x
      → ((zs : List Placed) → First c.most ws zs x
      → Stuck c end (in_body f (record { body = of_loop l first last by; before = ss } ∷ outer) no_stmts start) zs x)
      → Stuck c end (in_body f outer ss (reading (to_end l first) [] want)) ys x
  limits-stuck {last = last} sp spells_no_step outer ss l first o ws ys x eq le ho g behind =
      expr-then sp outer ss (to_end l first) o mark.Do
      (record { outer = record { body = of_loop l first last None; before = ss } ∷ outer; stmts = no_stmts; phase = start }) ws ys x eq le
      (stops-key o key.Do refl refl ho) refl g behind
  limits-stuck {d = d} {last = last} sp (spells_step e b ts hb sq) outer ss l first o ws ys x eq le ho g behind =
      expr-then sp outer ss (to_end l first) b mark.By (record { outer = outer; stmts = ss; phase = reading (to_step l first last) [] want })
      (ts ++ at d o ∷ ws) ys x eq le (stops-key b key.By refl refl hb) refl g
      (λ zs q. expr-then sq outer ss (to_step l first last) o mark.Do
      (record { outer = record { body = of_loop l first last (Some e); before = ss } ∷ outer; stmts = no_stmts; phase = start }) ws zs x eq le
      (stops-key o key.Do refl refl ho) refl q behind)

  mutual
    stmt-stuck : {d : ℕ} {s : StmtTree} {ps : List Placed} → SpellsStmt c.bytes d s ps → (outer : List Level) (done : StmtTrees) → d ≡ length outer
        → (us : List Placed) (x : Placed) → First c.most ps us x → Stuck c end (in_body f outer done start) us x
    stmt-stuck {d = d} (spells_assign n a e ts hn ha sp) outer done eq us x g =
        first-token c end (at d n) (at d a ∷ ts) us x (in_body f outer done start) (in_body f outer done (named (c.bytes n) n.spot)) g
        (λ lt. begun-deep outer done n mark.Name (record { outer = outer; stmts = done; phase = named (c.bytes n) n.spot }) (ap mark_of hn) refl
        (omega (arith, eq, lt)))
        (λ le rest. started c end f outer done n mark.Name rest (record { outer = outer; stmts = done; phase = named (c.bytes n) n.spot }) (ap mark_of hn) refl
        (omega (arith, eq, le)))
        (λ le ws q. past c end (at d a) ts ws x (in_body f outer done (named (c.bytes n) n.spot))
        (in_body f outer done (reading (to_assign (c.bytes n) n.spot) [] want)) q le
        (λ rest. body-taken c end f outer done (named (c.bytes n) n.spot) a rest
        (record { outer = outer; stmts = done; phase = reading (to_assign (c.bytes n) n.spot) [] want })
        (ap (λ (y : Tok). named_at c outer done (c.bytes n) n.spot (mark_of y) a) ha))
        (λ vs r. expr-stuck sp outer done (to_assign (c.bytes n) n.spot) vs x eq r))
    stmt-stuck (spells_if arms o ts sa) outer done eq us x g =
        arms-stuck sa outer done no_arms (in_body f outer done start) eq
        (λ i hi le. ap (λ (r : Result At SyntaxFault). body_step f r)
        (ap (λ (y : Tok). start_at c outer done (mark_of y) i) hi
        ∙ not-deeper c.most (length outer) i (record { outer = outer; stmts = done; phase = reading (to_test no_arms i.spot) [] want })
        (omega (arith, eq, le))))
        (λ i hi lt. ap (λ (r : Result At SyntaxFault). body_step f r)
        (ap (λ (y : Tok). start_at c outer done (mark_of y) i) hi
        ∙ too-deep c.most (length outer) i (record { outer = outer; stmts = done; phase = reading (to_test no_arms i.spot) [] want })
        (omega (arith, eq, lt))))
        us x g
    stmt-stuck {d = d} (spells_case e bs o t u ts vs ht sp hu sb) outer done eq us x g =
        first-token c end (at d t) (ts ++ at d u ∷ vs) us x (in_body f outer done start) (in_body f outer done (reading (to_select t.spot) [] want)) g
        (λ lt. begun-deep outer done t mark.Case (record { outer = outer; stmts = done; phase = reading (to_select t.spot) [] want }) (ap mark_of ht) refl
        (omega (arith, eq, lt)))
        (λ le rest. started c end f outer done t mark.Case rest (record { outer = outer; stmts = done; phase = reading (to_select t.spot) [] want })
        (ap mark_of ht) refl (omega (arith, eq, le)))
        (λ le ws q. expr-then sp outer done (to_select t.spot) u mark.Of
        (record { outer = outer; stmts = done; phase = labelling (record { on = e; spot = t.spot; branches = no_branches }) [] first_wanted }) vs ws x eq le
        (stops-key u key.Of refl refl hu) refl q
        (λ ys r. branches-stuck sb outer done (record { on = e; spot = t.spot; branches = no_branches }) eq ys x r))
    stmt-stuck {d = d} (spells_for first last by body r n a t o e ts us vs ws hr hn ha sp ht sq st ho sb he) outer done eq xs x g =
        let loop : Loop = record { name = c.bytes n; name_spot = n.spot; spot = r.spot } in
        first-token c end (at d r) (at d n ∷ at d a ∷ (ts ++ at d t ∷ (us ++ (vs ++ at d o ∷ (ws ++ at d e ∷ []))))) xs x (in_body f outer done start)
        (in_body f outer done (loop_begun r.spot)) g
        (λ lt. begun-deep outer done r mark.For (record { outer = outer; stmts = done; phase = loop_begun r.spot }) (ap mark_of hr) refl
        (omega (arith, eq, lt)))
        (λ le rest. started c end f outer done r mark.For rest (record { outer = outer; stmts = done; phase = loop_begun r.spot }) (ap mark_of hr) refl
        (omega (arith, eq, le)))
        (λ le y1 q1. past c end (at d n) (at d a ∷ (ts ++ at d t ∷ (us ++ (vs ++ at d o ∷ (ws ++ at d e ∷ []))))) y1 x
        (in_body f outer done (loop_begun r.spot)) (in_body f outer done (loop_named loop)) q1 le
        (λ rest. body-taken c end f outer done (loop_begun r.spot) n rest (record { outer = outer; stmts = done; phase = loop_named loop })
        (ap (λ (y : Tok). cond (is (mark_of y) mark.Name) (to outer done (loop_named loop)) (Err (fault.Syntax n.spot))) hn))
        (λ y2 q2. past c end (at d a) (ts ++ at d t ∷ (us ++ (vs ++ at d o ∷ (ws ++ at d e ∷ [])))) y2 x (in_body f outer done (loop_named loop))
        (in_body f outer done (reading (to_begin loop) [] want)) q2 le
        (λ rest. body-taken c end f outer done (loop_named loop) a rest (record { outer = outer; stmts = done; phase = reading (to_begin loop) [] want })
        (ap (λ (y : Tok). cond (is (mark_of y) mark.Assign) (to outer done (reading (to_begin loop) [] want)) (Err (fault.Syntax a.spot))) ha))
        (λ y3 q3. expr-then sp outer done (to_begin loop) t mark.To (record { outer = outer; stmts = done; phase = reading (to_end loop first) [] want })
        (us ++ (vs ++ at d o ∷ (ws ++ at d e ∷ []))) y3 x eq le (stops-key t key.To refl refl ht) refl q3
        (λ y4 q4. limits-stuck sq st outer done loop first o (ws ++ at d e ∷ []) y4 x eq le ho q4
        (λ y5 q5. closing ws (at d e) y5 x (in_body f (record { body = of_loop loop first last by; before = done } ∷ outer) no_stmts start) le q5
        (λ q6. stmts-stuck sb (record { body = of_loop loop first last by; before = done } ∷ outer) no_stmts (omega (arith, eq)) y5 x q6))))))

    pub stmts-stuck : {d : ℕ} {ss : StmtTrees} {ps : List Placed} → SpellsStmts c.bytes d ss ps → (outer : List Level) (done : StmtTrees) → d ≡ length outer
        → (us : List Placed) (x : Placed) → First c.most ps us x → Stuck c end (in_body f outer done start) us x
    stmts-stuck spells_no_stmt outer done eq us x g = absurd g
    stmts-stuck {d = d} (spells_empty ss t ts ht sq) outer done eq us x g =
        first-token c end (at d t) ts us x (in_body f outer done start) (in_body f outer done start) g
        (λ lt. begun-deep outer done t mark.Semi (record { outer = outer; stmts = done; phase = start }) (ap mark_of ht) refl (omega (arith, eq, lt)))
        (λ le rest. started c end f outer done t mark.Semi rest (record { outer = outer; stmts = done; phase = start }) (ap mark_of ht) refl
        (omega (arith, eq, le)))
        (λ le ws q. stmts-stuck sq outer done eq ws x q)
    stmts-stuck {d = d} (spells_stmt s ss t ts vs sp ht sq) outer done eq us x g =
        units c end ts (at d t) vs us x (in_body f outer done start) (in_body f outer (stmts_and done s) start) g
        (λ q. stmt-stuck sp outer done eq us x q) (λ w. stmt-depth sp w)
        (λ w rest. stmt-read c end f sp outer done t rest eq ht w)
        (λ w ws q. stmts-stuck sq outer (stmts_and done s) eq ws x q)

    arms-stuck : {d : ℕ} {k : Key} {arms : ArmTrees} {o : OtherTree} {ps : List Placed} → SpellsArms c.bytes d k arms o ps
        → (outer : List Level) (before : StmtTrees) (done : ArmTrees) (s : State) → d ≡ length outer
        → ((i : Token) → i.tok ≡ tok.Key k → d ≤ c.most → program_step c s i ≡ Ok (in_body f outer before (reading (to_test done i.spot) [] want)))
        → ((i : Token) → i.tok ≡ tok.Key k → c.most < d → program_step c s i ≡ Err (fault.Depth i.spot))
        → (us : List Placed) (x : Placed) → First c.most ps us x → Stuck c end s us x
    arms-stuck {d = d} (spells_arm k e body arms o i t ts us vs hi sp ht sb sm) outer before done s eq first refused xs x g =
        first-token c end (at d i) (ts ++ at d t ∷ (us ++ vs)) xs x s (in_body f outer before (reading (to_test done i.spot) [] want)) g
        (λ lt. refused i hi lt)
        (λ le rest. taken c end i rest s (in_body f outer before (reading (to_test done i.spot) [] want)) (first i hi le))
        (λ le y1 q1. expr-then sp outer before (to_test done i.spot) t mark.Then
        (record { outer = record { body = of_arm done e i.spot; before = before } ∷ outer; stmts = no_stmts; phase = start }) (us ++ vs) y1 x eq le
        (stops-key t key.Then refl refl ht) refl q1
        (λ y2 q2. parts c end us vs y2 x (in_body f (record { body = of_arm done e i.spot; before = before } ∷ outer) no_stmts start)
        (in_body f (record { body = of_arm done e i.spot; before = before } ∷ outer) body start) q2
        (λ q. stmts-stuck sb (record { body = of_arm done e i.spot; before = before } ∷ outer) no_stmts (omega (arith, eq)) y2 x q)
        (λ w rest. stmts-read c end f sb (record { body = of_arm done e i.spot; before = before } ∷ outer) no_stmts rest (omega (arith, eq)) w)
        (λ w y3 q3. more-arms-stuck sm outer before done e i.spot body eq le y3 x q3)))

    more-arms-stuck : {d : ℕ} {arms : ArmTrees} {o : OtherTree} {ps : List Placed} → SpellsMoreArms c.bytes d arms o ps
        → (outer : List Level) (before : StmtTrees) (done : ArmTrees) (e : ExprTree) (spot : Spot) (body : StmtTrees) → d ≡ length outer → d ≤ c.most
        → (us : List Placed) (x : Placed) → First c.most ps us x
        → Stuck c end (in_body f (record { body = of_arm done e spot; before = before } ∷ outer) body start) us x
    more-arms-stuck (spells_elsif arms o ts sa) outer before done e spot body eq le us x g =
        arms-stuck sa outer before (arms_and done e body spot) (in_body f (record { body = of_arm done e spot; before = before } ∷ outer) body start) eq
        (λ i hi w. ap (λ (y : Tok). body_step f (start_at c (record { body = of_arm done e spot; before = before } ∷ outer) body (mark_of y) i)) hi)
        (λ i hi lt. absurd (omega (arith, le, lt)))
        us x g
    more-arms-stuck {d = d} (spells_if_else els l t ts hl sb ht) outer before done e spot body eq le us x g =
        past c end (at d l) (ts ++ at d t ∷ []) us x (in_body f (record { body = of_arm done e spot; before = before } ∷ outer) body start)
        (in_body f (record { body = of_if_else (arms_and done e body spot); before = before } ∷ outer) no_stmts start) g le
        (λ rest. ended c end f (record { body = of_arm done e spot; before = before } ∷ outer) body l mark.Else rest
        (record { outer = record { body = of_if_else (arms_and done e body spot); before = before } ∷ outer; stmts = no_stmts; phase = start })
        (ap mark_of hl) refl)
        (λ y1 q1. closing ts (at d t) y1 x (in_body f (record { body = of_if_else (arms_and done e body spot); before = before } ∷ outer) no_stmts start) le q1
        (λ q. stmts-stuck sb (record { body = of_if_else (arms_and done e body spot); before = before } ∷ outer) no_stmts (omega (arith, eq)) y1 x q))
    more-arms-stuck {d = d} (spells_end_if t ht) outer before done e spot body eq le us x g = absurd (not-alone c.most (at d t) us x le g)

    branches-stuck : {d : ℕ} {bs : BranchTrees} {o : OtherTree} {ps : List Placed} → SpellsBranches c.bytes d bs o ps
        → (outer : List Level) (before : StmtTrees) (k : Selection) → d ≡ length outer → (us : List Placed) (x : Placed) → First c.most ps us x
        → Stuck c end (in_body f outer before (labelling k [] first_wanted)) us x
    branches-stuck (spells_branch ls body bs o ts us vs sl sb sm) outer before k eq xs x g =
        parts c end ts (us ++ vs) xs x (in_body f outer before (labelling k [] first_wanted))
        (in_body f (record { body = of_branch k ls; before = before } ∷ outer) no_stmts start) g
        (λ q. labels-stuck sl outer before k [] (omega (arith, eq)) xs x q)
        (λ w rest. labels-read c end f sl outer before k [] rest (omega (arith, eq)) w)
        (λ w y1 q1. parts c end us vs y1 x (in_body f (record { body = of_branch k ls; before = before } ∷ outer) no_stmts start)
        (in_body f (record { body = of_branch k ls; before = before } ∷ outer) body start) q1
        (λ q. stmts-stuck sb (record { body = of_branch k ls; before = before } ∷ outer) no_stmts (omega (arith, eq)) y1 x q)
        (λ w2 rest. stmts-read c end f sb (record { body = of_branch k ls; before = before } ∷ outer) no_stmts rest (omega (arith, eq)) w2)
        (λ w2 y2 q2. more-branches-stuck sm outer before k ls body eq (labels-depth sl w) y2 x q2))

    more-branches-stuck : {d : ℕ} {bs : BranchTrees} {o : OtherTree} {ps : List Placed} → SpellsMoreBranches c.bytes d bs o ps
        → (outer : List Level) (before : StmtTrees) (k : Selection) (ls : List LabelTree) (body : StmtTrees) → d ≡ length outer → suc d ≤ c.most
        → (us : List Placed) (x : Placed) → First c.most ps us x
        → Stuck c end (in_body f (record { body = of_branch k ls; before = before } ∷ outer) body start) us x
    more-branches-stuck (spells_next_branch bs o ts sb) outer before k ls body eq le us x g =
        same-front c end (in_body f (record { body = of_branch k ls; before = before } ∷ outer) body start)
        (in_body f outer before (labelling (with_branch k ls body) [] first_wanted)) us x
        (branches-same sb outer before body k ls eq le us x g) (branches-stuck sb outer before (with_branch k ls body) eq us x g)
    more-branches-stuck {d = d} (spells_case_else els l t ts hl sb ht) outer before k ls body eq le us x g =
        past c end (at d l) (ts ++ at d t ∷ []) us x (in_body f (record { body = of_branch k ls; before = before } ∷ outer) body start)
        (in_body f (record { body = of_case_else (with_branch k ls body); before = before } ∷ outer) no_stmts start) g (omega (arith, le))
        (λ rest. ended c end f (record { body = of_branch k ls; before = before } ∷ outer) body l mark.Else rest
        (record { outer = record { body = of_case_else (with_branch k ls body); before = before } ∷ outer; stmts = no_stmts; phase = start })
        (ap mark_of hl) refl)
        (λ y1 q1. closing ts (at d t) y1 x (in_body f (record { body = of_case_else (with_branch k ls body); before = before } ∷ outer) no_stmts start)
        (omega (arith, le)) q1
        (λ q. stmts-stuck sb (record { body = of_case_else (with_branch k ls body); before = before } ∷ outer) no_stmts (omega (arith, eq)) y1 x q))
    more-branches-stuck {d = d} (spells_end_case t ht) outer before k ls body eq le us x g = absurd (not-alone c.most (at d t) us x (omega (arith, le)) g)
