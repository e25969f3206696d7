-- Lifts: a token that is refused for its depth is taken where the limit is high enough.
use Rattle.std.proofs.Common.{◌≡◌, ℕ, suc, ◌+◌, ◌≤◌, arith, Bool, true, false, cond, List, [], ◌∷◌, ◌++◌, length, Option, Some, None, Result, Ok, Err, refl}
use Rattle.std.proofs.Common.{sym, ap, ◌∙◌, subst}
use Rattle.std.specs.Prelude.{nat_le}
use Rattle.std.proofs.lemmas.Bool.{le-leb, leb-false}
use Rattle.vcp_base.specs.declared.spot.Spot.{Spot}
use Rattle.vcp_base.specs.declared.ty.Ty.{Ty}
use Rattle.vcp_base.specs.declared.ty.Ty.TheVariants as ty
use Rattle.st_lexer.specs.declared.token.Tok.{Tok}
use Rattle.st_lexer.specs.declared.token.Tok.TheVariants as tok
use Rattle.st_lexer.specs.declared.token.Token.{Token}
use Rattle.st_tree.specs.declared.expr.UnOp.TheVariants as un
use Rattle.st_tree.specs.declared.program.Section.TheVariants as section
use Rattle.st_tree.specs.ExprTree.{ExprTree, name}
use Rattle.st_tree.specs.StmtTree.{LabelTree, StmtTrees, no_arms, no_stmts}
use Rattle.st_tree.specs.ProgramTree.{DeclaredTree}
use Rattle.st_parser.specs.declared.fault.SyntaxFault.{SyntaxFault}
use Rattle.st_parser.specs.declared.fault.SyntaxFault.TheVariants as fault
use Rattle.st_parser.specs.declared.marks.Begins.{Begins}
use Rattle.st_parser.specs.declared.marks.Begins.TheVariants as begins
use Rattle.st_parser.specs.declared.marks.Goes.{Goes}
use Rattle.st_parser.specs.declared.marks.Goes.TheVariants as goes
use Rattle.st_parser.specs.declared.marks.Mark.{Mark}
use Rattle.st_parser.specs.declared.marks.Mark.TheVariants as mark
use Rattle.st_parser.specs.Marks.{begins_by, goes_by, mark_of, is}
use Rattle.st_parser.specs.ExprMachine.{Context, depth_in, Form, sign_of, left_of, bracket, arguments, Mode, want, after_name, have, close, no_deeper, operand}
use Rattle.st_parser.specs.ExprMachine.{close_at, part_at, go_on, go_on_name, step, ends_before}
use Rattle.st_parser.specs.StmtMachine.{Level, Body, of_arm, of_if_else, of_branch, of_case_else, of_loop, Purpose, to_assign, to_test, to_select, to_begin}
use Rattle.st_parser.specs.StmtMachine.{to_end, to_step, LabelPhase, first_wanted, first_negated, first_read, last_wanted, last_negated, last_read, Phase}
use Rattle.st_parser.specs.StmtMachine.{start, named, reading, closed, loop_begun, loop_named, labelling, finished, At, Selection, refused, to, const_at}
use Rattle.st_parser.specs.StmtMachine.{number_at, with_phase, label_ends, label_step, with_branch, next_label_in, next_label, elsif_at, else_at, end_if_at}
use Rattle.st_parser.specs.StmtMachine.{end_case_at, end_for_at, body_ends, start_at, take as taken, read_on, read_at, stmt_step}
use Rattle.st_parser.specs.ProgramMachine.{Front, Opening, State, at_program, at_name, at_block, at_var, at_decl, at_comma, at_next_name, at_type, at_init}
use Rattle.st_parser.specs.ProgramMachine.{in_init, in_body, body_step, decl_at, block_at, var_at, type_at, init_read_on, init_at, program_step, begun}

-- a result that is no fault of depth
abbrev Flat : {X : Type 0} → Result X SyntaxFault → Type 0
Flat (Ok x) = Unit {0}
Flat (Err (fault.Syntax s)) = Unit {0}
Flat (Err (fault.Depth s)) = ⊥
Flat (Err fault.Memory) = Unit {0}

-- Where a result that depends on the limit is a fault of depth at limit m, it is none at some limit from m on.
abbrev pub Raised : {X : Type 0} → (ℕ → Result X SyntaxFault) → ℕ → Result X SyntaxFault → Type 0
Raised {X = X} r m (Ok x) = Unit {0}
Raised {X = X} r m (Err (fault.Syntax s)) = Unit {0}
Raised {X = X} r m (Err (fault.Depth s)) = (n : ℕ) × (m ≤ n) × ((x : X) × (r n ≡ Ok x))
Raised {X = X} r m (Err fault.Memory) = Unit {0}

abbrev pub Lifts : {X : Type 0} → (ℕ → Result X SyntaxFault) → ℕ → Type 0
Lifts r m = Raised r m (r m)

lifts-flat : {X : Type 0} (r : ℕ → Result X SyntaxFault) (m : ℕ) (x : Result X SyntaxFault) → Flat x → Raised r m x
lifts-flat r m (Ok x) h = tt
lifts-flat r m (Err (fault.Syntax s)) h = tt
lifts-flat r m (Err (fault.Depth s)) h = absurd h
lifts-flat r m (Err fault.Memory) h = tt

lifts-cond : {X : Type 0} (b : Bool) (r q : ℕ → Result X SyntaxFault) (m : ℕ) → Lifts r m → Lifts q m → Lifts (λ n. cond b (r n) (q n)) m
lifts-cond true r q m h k = h
lifts-cond false r q m h k = k

flat-cond : {X : Type 0} (b : Bool) (x y : Result X SyntaxFault) → Flat x → Flat y → Flat (cond b x y)
flat-cond true x y h k = h
flat-cond false x y h k = k

-- what hands results on as they are, but for what is taken
lifts-by : {X Y : Type 0} (k : Result X SyntaxFault → Result Y SyntaxFault) (f : X → Y) → ((x : X) → k (Ok x) ≡ Ok (f x))
    → ((e : SyntaxFault) → k (Err e) ≡ Err e) → (r : ℕ → Result X SyntaxFault) (m : ℕ) (x : Result X SyntaxFault)
    → Raised r m x → Raised (λ n. k (r n)) m (k x)
lifts-by {Y = Y} k f o e r m (Ok x) h = subst (λ (z : Result Y SyntaxFault). Raised (λ n. k (r n)) m z) (sym (o x)) tt
lifts-by {Y = Y} k f o e r m (Err (fault.Syntax s)) h = subst (λ (z : Result Y SyntaxFault). Raised (λ n. k (r n)) m z) (sym (e (fault.Syntax s))) tt
lifts-by {Y = Y} k f o e r m (Err (fault.Depth s)) h =
    subst (λ (z : Result Y SyntaxFault). Raised (λ n. k (r n)) m z) (sym (e (fault.Depth s))) (h.0, h.1, (f h.2.0, ap k h.2.1 ∙ o h.2.0))
lifts-by {Y = Y} k f o e r m (Err fault.Memory) h = subst (λ (z : Result Y SyntaxFault). Raised (λ n. k (r n)) m z) (sym (e fault.Memory)) tt

-- a token that is not too deep where the limit is its depth
lifts-ok : {X : Type 0} (d m : ℕ) (t : Token) (x : X) (b : Bool) → nat_le d m ≡ b
    → Raised (λ n. no_deeper n d t (Ok x)) m (cond b (Ok x) (Err (fault.Depth t.spot)))
lifts-ok d m t x true e = tt
lifts-ok {X = X} d m t x false e = (
  d,
  omega (arith, leb-false d m e),
  (x, ap (λ (b : Bool). let r : Result X SyntaxFault = cond b (Ok x) (Err (fault.Depth t.spot)) in r) (le-leb d d (omega arith))),
)

lifts-depth : {X : Type 0} (d m : ℕ) (t : Token) (r : Result X SyntaxFault) → Flat r → Lifts (λ n. no_deeper n d t r) m
lifts-depth d m t (Ok x) h = lifts-ok d m t x (nat_le d m) refl
lifts-depth d m t (Err (fault.Syntax s)) h = tt
lifts-depth d m t (Err (fault.Depth s)) h = absurd h
lifts-depth d m t (Err fault.Memory) h = tt

-- ---- expressions

flat-close : (fs : List Form) (e : ExprTree) (t : Token) → Flat (close_at fs e t)
flat-close [] e t = tt
flat-close (sign_of op s ∷ fs) e t = tt
flat-close (left_of op a s ∷ fs) e t = tt
flat-close (bracket ∷ fs) e t = tt
flat-close (arguments f s es ∷ fs) e t = tt

flat-part : (fs : List Form) (e : ExprTree) (t : Token) → Flat (part_at fs e t)
flat-part [] e t = tt
flat-part (sign_of op s ∷ fs) e t = tt
flat-part (left_of op a s ∷ fs) e t = tt
flat-part (bracket ∷ fs) e t = tt
flat-part (arguments f s es ∷ fs) e t = tt

flat-go : (g : Goes) (fs : List Form) (e : ExprTree) (t : Token) → Flat (go_on g fs e t)
flat-go (goes.Joins op) fs e t = tt
flat-go goes.Closes fs e t = flat-close (close 1 fs e).forms (close 1 fs e).expr t
flat-go goes.Parts fs e t = flat-part (close 1 fs e).forms (close 1 fs e).expr t
flat-go goes.Ends fs e t = tt

flat-name : (b : Begins) (fs : List Form) (f : List ℕ) (s : Spot) (t : Token) → Flat (go_on_name b fs f s t)
flat-name (begins.Literal ty v) fs f s t = flat-go (goes_by t.tok) fs (name f s) t
flat-name begins.Named fs f s t = flat-go (goes_by t.tok) fs (name f s) t
flat-name (begins.Sign op) fs f s t = flat-go (goes_by t.tok) fs (name f s) t
flat-name begins.Opens fs f s t = tt
flat-name begins.Nothing fs f s t = flat-go (goes_by t.tok) fs (name f s) t

flat-number : (read : ExprTree → LabelPhase) (sign : Spot) (k : Tok) (t : Token) → Flat (number_at read sign k t)
flat-number read sign (tok.Number ty v) t = tt
flat-number read sign tok.Name t = tt
flat-number read sign (tok.Key k) t = tt
flat-number read sign (tok.Sym y) t = tt

flat-ends : (outer : List Level) (ss : StmtTrees) (k : Selection) (ls : List LabelTree) (m : Mark) (t : Token) → Flat (label_ends outer ss k ls m t)
flat-ends outer ss k ls m t = flat-cond (is m mark.Comma) _ _ tt (flat-cond (is m mark.Colon) _ _ tt tt)

flat-elsif : (b : Body) (outer : List Level) (before ss : StmtTrees) (t : Token) → Flat (elsif_at b outer before ss t)
flat-elsif (of_arm arms e s) outer before ss t = tt
flat-elsif (of_if_else arms) outer before ss t = tt
flat-elsif (of_branch k ls) outer before ss t = tt
flat-elsif (of_case_else k) outer before ss t = tt
flat-elsif (of_loop l first last by) outer before ss t = tt

flat-else : (b : Body) (outer : List Level) (before ss : StmtTrees) (t : Token) → Flat (else_at b outer before ss t)
flat-else (of_arm arms e s) outer before ss t = tt
flat-else (of_if_else arms) outer before ss t = tt
flat-else (of_branch k ls) outer before ss t = tt
flat-else (of_case_else k) outer before ss t = tt
flat-else (of_loop l first last by) outer before ss t = tt

flat-end-if : (b : Body) (outer : List Level) (before ss : StmtTrees) (t : Token) → Flat (end_if_at b outer before ss t)
flat-end-if (of_arm arms e s) outer before ss t = tt
flat-end-if (of_if_else arms) outer before ss t = tt
flat-end-if (of_branch k ls) outer before ss t = tt
flat-end-if (of_case_else k) outer before ss t = tt
flat-end-if (of_loop l first last by) outer before ss t = tt

flat-end-case : (b : Body) (outer : List Level) (before ss : StmtTrees) (t : Token) → Flat (end_case_at b outer before ss t)
flat-end-case (of_arm arms e s) outer before ss t = tt
flat-end-case (of_if_else arms) outer before ss t = tt
flat-end-case (of_branch k ls) outer before ss t = tt
flat-end-case (of_case_else k) outer before ss t = tt
flat-end-case (of_loop l first last by) outer before ss t = tt

flat-end-for : (b : Body) (outer : List Level) (before ss : StmtTrees) (t : Token) → Flat (end_for_at b outer before ss t)
flat-end-for (of_arm arms e s) outer before ss t = tt
flat-end-for (of_if_else arms) outer before ss t = tt
flat-end-for (of_branch k ls) outer before ss t = tt
flat-end-for (of_case_else k) outer before ss t = tt
flat-end-for (of_loop l first last by) outer before ss t = tt

flat-take : (outer : List Level) (ss : StmtTrees) (p : Purpose) (e : ExprTree) (m : Mark) (t : Token) → Flat (taken outer ss p e m t)
flat-take outer ss (to_assign f s) e m t = flat-cond (is m mark.Semi) _ _ tt tt
flat-take outer ss (to_test arms s) e m t = flat-cond (is m mark.Then) _ _ tt tt
flat-take outer ss (to_select s) e m t = flat-cond (is m mark.Of) _ _ tt tt
flat-take outer ss (to_begin l) e m t = flat-cond (is m mark.To) _ _ tt tt
flat-take outer ss (to_end l first) e m t = flat-cond (is m mark.By) _ _ tt (flat-cond (is m mark.Do) _ _ tt tt)
flat-take outer ss (to_step l first last) e m t = flat-cond (is m mark.Do) _ _ tt tt

module _ (bytes : Token → List ℕ) (m : ℕ) where
  abbrev at_limit : ℕ → Context
  at_limit n = record { bytes = bytes; most = n }

  lifts-operand : (d : ℕ) (fs : List Form) (b : Begins) (t : Token) → Lifts (λ n. no_deeper n d t (operand (at_limit n) fs b t)) m
  lifts-operand d fs (begins.Literal ty v) t = lifts-depth d m t (operand (at_limit m) fs (begins.Literal ty v) t) tt
  lifts-operand d fs begins.Named t = lifts-depth d m t (operand (at_limit m) fs begins.Named t) tt
  lifts-operand d fs (begins.Sign op) t = lifts-depth d m t (operand (at_limit m) fs (begins.Sign op) t) tt
  lifts-operand d fs begins.Opens t = lifts-depth d m t (operand (at_limit m) fs begins.Opens t) tt
  lifts-operand d fs begins.Nothing t = tt

  lifts-step : (d : ℕ) (fs : List Form) (o : Mode) (t : Token) → Lifts (λ n. step (at_limit n) d fs o t) m
  lifts-step d fs want t = lifts-operand (d + depth_in fs) fs (begins_by t.tok) t
  lifts-step d fs (after_name f s) t =
      lifts-flat (λ n. go_on_name (begins_by t.tok) fs f s t) m (go_on_name (begins_by t.tok) fs f s t) (flat-name (begins_by t.tok) fs f s t)
  lifts-step d fs (have e) t = lifts-flat (λ n. go_on (goes_by t.tok) fs e t) m (go_on (goes_by t.tok) fs e t) (flat-go (goes_by t.tok) fs e t)

  -- ---- labels

  lifts-const : (d : ℕ) (read : ExprTree → LabelPhase) (negated : Spot → LabelPhase) (b : Begins) (t : Token)
      → Lifts (λ n. no_deeper n d t (const_at (at_limit n) read negated b t)) m
  lifts-const d read negated (begins.Literal ty v) t = lifts-depth d m t (const_at (at_limit m) read negated (begins.Literal ty v) t) tt
  lifts-const d read negated begins.Named t = lifts-depth d m t (const_at (at_limit m) read negated begins.Named t) tt
  lifts-const d read negated (begins.Sign un.Neg) t = lifts-depth d m t (const_at (at_limit m) read negated (begins.Sign un.Neg) t) tt
  lifts-const d read negated (begins.Sign un.Not) t = tt
  lifts-const d read negated begins.Opens t = tt
  lifts-const d read negated begins.Nothing t = tt

  lifts-phase : (outer : List Level) (ss : StmtTrees) (k : Selection) (ls : List LabelTree) (r : ℕ → Result LabelPhase SyntaxFault) → Lifts r m
      → Lifts (λ n. with_phase outer ss k ls (r n)) m
  lifts-phase outer ss k ls r h =
      lifts-by (with_phase outer ss k ls) (λ p. record { outer = outer; stmts = ss; phase = labelling k ls p }) (λ p. refl) (λ e. refl) r m (r m) h

  lifts-label : (outer : List Level) (ss : StmtTrees) (k : Selection) (ls : List LabelTree) (p : LabelPhase) (t : Token)
      → Lifts (λ n. label_step (at_limit n) outer ss k ls p t) m
  lifts-label outer ss k ls first_wanted t =
      lifts-phase outer ss k ls (λ n. no_deeper n (suc (length outer)) t (const_at (at_limit n) first_read first_negated (begins_by t.tok) t))
      (lifts-const _ first_read first_negated (begins_by t.tok) t)
  lifts-label outer ss k ls (first_negated s) t =
      lifts-phase outer ss k ls (λ n. no_deeper n (suc (suc (length outer))) t (number_at first_read s t.tok t))
      (lifts-depth _ m t (number_at first_read s t.tok t) (flat-number first_read s t.tok t))
  lifts-label outer ss k ls (first_read e) t =
      lifts-flat (λ n. label_step (at_limit n) outer ss k ls (first_read e) t) m (label_step (at_limit m) outer ss k ls (first_read e) t)
      (flat-cond (is (mark_of t.tok) mark.DotDot) _ _ tt (flat-ends outer ss k (ls ++ record { first = e; last = None } ∷ []) (mark_of t.tok) t))
  lifts-label outer ss k ls (last_wanted e) t =
      lifts-phase outer ss k ls (λ n. no_deeper n (suc (length outer)) t (const_at (at_limit n) (last_read e) (last_negated e) (begins_by t.tok) t))
      (lifts-const _ (last_read e) (last_negated e) (begins_by t.tok) t)
  lifts-label outer ss k ls (last_negated e s) t =
      lifts-phase outer ss k ls (λ n. no_deeper n (suc (suc (length outer))) t (number_at (last_read e) s t.tok t))
      (lifts-depth _ m t (number_at (last_read e) s t.tok t) (flat-number (last_read e) s t.tok t))
  lifts-label outer ss k ls (last_read e f) t =
      lifts-flat (λ n. label_step (at_limit n) outer ss k ls (last_read e f) t) m (label_step (at_limit m) outer ss k ls (last_read e f) t)
      (flat-ends outer ss k (ls ++ record { first = e; last = Some f } ∷ []) (mark_of t.tok) t)

  lifts-next-in : (b : Body) (outer : List Level) (before ss : StmtTrees) (p : LabelPhase) (t : Token)
      → Lifts (λ n. next_label_in (at_limit n) b outer before ss p t) m
  lifts-next-in (of_arm arms e s) outer before ss p t = tt
  lifts-next-in (of_if_else arms) outer before ss p t = tt
  lifts-next-in (of_branch k ls) outer before ss p t = lifts-label outer before (with_branch k ls ss) [] p t
  lifts-next-in (of_case_else k) outer before ss p t = tt
  lifts-next-in (of_loop l first last by) outer before ss p t = tt

  lifts-next : (outer : List Level) (ss : StmtTrees) (p : LabelPhase) (t : Token) → Lifts (λ n. next_label (at_limit n) outer ss p t) m
  lifts-next [] ss p t = tt
  lifts-next (level ∷ outer) ss p t = lifts-next-in level.body outer level.before ss p t

  -- ---- statements

  lifts-once : (r : Result At SyntaxFault) → Flat r → Lifts (λ n. r) m
  lifts-once r h = lifts-flat (λ n. r) m r h

  -- what a token comes to that is none of those which end a body, by the words before
  abbrev unless_end_for : Level → List Level → StmtTrees → Mark → Token → ℕ → Result At SyntaxFault
  unless_end_for level outer ss k t n =
      cond (is k mark.EndFor) (end_for_at level.body outer level.before ss t) (next_label_in (at_limit n) level.body outer level.before ss first_wanted t)

  abbrev unless_end_case : Level → List Level → StmtTrees → Mark → Token → ℕ → Result At SyntaxFault
  unless_end_case level outer ss k t n = cond (is k mark.EndCase) (end_case_at level.body outer level.before ss t) (unless_end_for level outer ss k t n)

  abbrev unless_end_if : Level → List Level → StmtTrees → Mark → Token → ℕ → Result At SyntaxFault
  unless_end_if level outer ss k t n = cond (is k mark.EndIf) (end_if_at level.body outer level.before ss t) (unless_end_case level outer ss k t n)

  abbrev unless_else : Level → List Level → StmtTrees → Mark → Token → ℕ → Result At SyntaxFault
  unless_else level outer ss k t n = cond (is k mark.Else) (else_at level.body outer level.before ss t) (unless_end_if level outer ss k t n)

  lifts-end-for : (level : Level) (outer : List Level) (ss : StmtTrees) (k : Mark) (t : Token) → Lifts (unless_end_for level outer ss k t) m
  lifts-end-for level outer ss k t =
      lifts-cond (is k mark.EndFor) (λ n. end_for_at level.body outer level.before ss t)
      (λ n. next_label_in (at_limit n) level.body outer level.before ss first_wanted t) m
      (lifts-once (end_for_at level.body outer level.before ss t) (flat-end-for level.body outer level.before ss t))
      (lifts-next-in level.body outer level.before ss first_wanted t)

  lifts-end-case : (level : Level) (outer : List Level) (ss : StmtTrees) (k : Mark) (t : Token) → Lifts (unless_end_case level outer ss k t) m
  lifts-end-case level outer ss k t =
      lifts-cond (is k mark.EndCase) (λ n. end_case_at level.body outer level.before ss t) (unless_end_for level outer ss k t) m
      (lifts-once (end_case_at level.body outer level.before ss t) (flat-end-case level.body outer level.before ss t)) (lifts-end-for level outer ss k t)

  lifts-end-if : (level : Level) (outer : List Level) (ss : StmtTrees) (k : Mark) (t : Token) → Lifts (unless_end_if level outer ss k t) m
  lifts-end-if level outer ss k t =
      lifts-cond (is k mark.EndIf) (λ n. end_if_at level.body outer level.before ss t) (unless_end_case level outer ss k t) m
      (lifts-once (end_if_at level.body outer level.before ss t) (flat-end-if level.body outer level.before ss t)) (lifts-end-case level outer ss k t)

  lifts-else : (level : Level) (outer : List Level) (ss : StmtTrees) (k : Mark) (t : Token) → Lifts (unless_else level outer ss k t) m
  lifts-else level outer ss k t =
      lifts-cond (is k mark.Else) (λ n. else_at level.body outer level.before ss t) (unless_end_if level outer ss k t) m
      (lifts-once (else_at level.body outer level.before ss t) (flat-else level.body outer level.before ss t)) (lifts-end-if level outer ss k t)

  lifts-body : (outer : List Level) (ss : StmtTrees) (k : Mark) (t : Token) → Lifts (λ n. body_ends (at_limit n) outer ss k t) m
  lifts-body [] ss k t = lifts-flat (λ n. body_ends (at_limit n) [] ss k t) m (body_ends (at_limit m) [] ss k t) (flat-cond (is k mark.EndProgram) _ _ tt tt)
  lifts-body (level ∷ outer) ss k t =
      lifts-cond (is k mark.Elsif) (λ n. elsif_at level.body outer level.before ss t) (unless_else level outer ss k t) m
      (lifts-once (elsif_at level.body outer level.before ss t) (flat-elsif level.body outer level.before ss t)) (lifts-else level outer ss k t)

  lifts-to : (outer : List Level) (ss : StmtTrees) (p : Phase) (t : Token) → Lifts (λ n. no_deeper n (length outer) t (to outer ss p)) m
  lifts-to outer ss p t = lifts-depth (length outer) m t (to outer ss p) tt

  abbrev unless_for : List Level → StmtTrees → Mark → Token → ℕ → Result At SyntaxFault
  unless_for outer ss k t n = cond (is k mark.For) (no_deeper n (length outer) t (to outer ss (loop_begun t.spot))) (body_ends (at_limit n) outer ss k t)

  abbrev unless_case : List Level → StmtTrees → Mark → Token → ℕ → Result At SyntaxFault
  unless_case outer ss k t n =
      cond (is k mark.Case) (no_deeper n (length outer) t (to outer ss (reading (to_select t.spot) [] want))) (unless_for outer ss k t n)

  abbrev unless_if : List Level → StmtTrees → Mark → Token → ℕ → Result At SyntaxFault
  unless_if outer ss k t n =
      cond (is k mark.If) (no_deeper n (length outer) t (to outer ss (reading (to_test no_arms t.spot) [] want))) (unless_case outer ss k t n)

  abbrev unless_name : List Level → StmtTrees → Mark → Token → ℕ → Result At SyntaxFault
  unless_name outer ss k t n = cond (is k mark.Name) (no_deeper n (length outer) t (to outer ss (named (bytes t) t.spot))) (unless_if outer ss k t n)

  lifts-for : (outer : List Level) (ss : StmtTrees) (k : Mark) (t : Token) → Lifts (unless_for outer ss k t) m
  lifts-for outer ss k t =
      lifts-cond (is k mark.For) (λ n. no_deeper n (length outer) t (to outer ss (loop_begun t.spot))) (λ n. body_ends (at_limit n) outer ss k t) m
      (lifts-to outer ss (loop_begun t.spot) t) (lifts-body outer ss k t)

  lifts-case : (outer : List Level) (ss : StmtTrees) (k : Mark) (t : Token) → Lifts (unless_case outer ss k t) m
  lifts-case outer ss k t =
      lifts-cond (is k mark.Case) (λ n. no_deeper n (length outer) t (to outer ss (reading (to_select t.spot) [] want))) (unless_for outer ss k t) m
      (lifts-to outer ss (reading (to_select t.spot) [] want) t) (lifts-for outer ss k t)

  lifts-if : (outer : List Level) (ss : StmtTrees) (k : Mark) (t : Token) → Lifts (unless_if outer ss k t) m
  lifts-if outer ss k t =
      lifts-cond (is k mark.If) (λ n. no_deeper n (length outer) t (to outer ss (reading (to_test no_arms t.spot) [] want))) (unless_case outer ss k t) m
      (lifts-to outer ss (reading (to_test no_arms t.spot) [] want) t) (lifts-case outer ss k t)

  lifts-named : (outer : List Level) (ss : StmtTrees) (k : Mark) (t : Token) → Lifts (unless_name outer ss k t) m
  lifts-named outer ss k t =
      lifts-cond (is k mark.Name) (λ n. no_deeper n (length outer) t (to outer ss (named (bytes t) t.spot))) (unless_if outer ss k t) m
      (lifts-to outer ss (named (bytes t) t.spot) t) (lifts-if outer ss k t)

  lifts-start : (outer : List Level) (ss : StmtTrees) (k : Mark) (t : Token) → Lifts (λ n. start_at (at_limit n) outer ss k t) m
  lifts-start outer ss k t =
      lifts-cond (is k mark.Semi) (λ n. no_deeper n (length outer) t (to outer ss start)) (unless_name outer ss k t) m (lifts-to outer ss start t)
      (lifts-named outer ss k t)

  lifts-read : (outer : List Level) (ss : StmtTrees) (p : Purpose) (fs : List Form) (o : Mode) (t : Token) (e : Option ExprTree)
      → Lifts (λ n. read_at (at_limit n) outer ss p fs o t e) m
  lifts-read outer ss p fs o t (Some e) = lifts-once (taken outer ss p e (mark_of t.tok) t) (flat-take outer ss p e (mark_of t.tok) t)
  lifts-read outer ss p fs o t None =
      lifts-by (read_on outer ss p) (λ r. record { outer = outer; stmts = ss; phase = reading p r.forms r.mode }) (λ r. refl) (λ e. refl)
      (λ n. step (at_limit n) (length outer) fs o t) m (step (at_limit m) (length outer) fs o t) (lifts-step (length outer) fs o t)

  lifts-stmt : (outer : List Level) (ss : StmtTrees) (p : Phase) (t : Token) → Lifts (λ n. stmt_step (at_limit n) outer ss p t) m
  lifts-stmt outer ss start t = lifts-start outer ss (mark_of t.tok) t
  lifts-stmt outer ss (named f s) t =
      lifts-cond (is (mark_of t.tok) mark.Assign) (λ n. to outer ss (reading (to_assign f s) [] want))
      (λ n. next_label (at_limit n) outer ss (first_read (name f s)) t) m tt (lifts-next outer ss (first_read (name f s)) t)
  lifts-stmt outer ss (reading p fs o) t = lifts-read outer ss p fs o t (ends_before fs o t)
  lifts-stmt outer ss closed t = lifts-once (stmt_step (at_limit m) outer ss closed t) (flat-cond (is (mark_of t.tok) mark.Semi) _ _ tt tt)
  lifts-stmt outer ss (loop_begun s) t =
      lifts-flat (λ n. stmt_step (at_limit n) outer ss (loop_begun s) t) m (stmt_step (at_limit m) outer ss (loop_begun s) t)
      (flat-cond (is (mark_of t.tok) mark.Name) _ _ tt tt)
  lifts-stmt outer ss (loop_named l) t = lifts-once (stmt_step (at_limit m) outer ss (loop_named l) t) (flat-cond (is (mark_of t.tok) mark.Assign) _ _ tt tt)
  lifts-stmt outer ss (labelling k ls p) t = lifts-label outer ss k ls p t
  lifts-stmt outer ss finished t = tt

  -- ---- programs

  lifts-body-step : (f : Front) (r : ℕ → Result At SyntaxFault) → Lifts r m → Lifts (λ n. body_step f (r n)) m
  lifts-body-step f r h = lifts-by (body_step f) (λ a. in_body f a.outer a.stmts a.phase) (λ a. refl) (λ e. refl) r m (r m) h

  flat-decl : (o : Opening) (k : Mark) (t : Token) → Flat (decl_at (at_limit m) o k t)
  flat-decl o k t = flat-cond (is k mark.Name) _ _ tt (flat-cond (is k mark.EndVar) _ _ tt tt)

  lifts-decl : (o : Opening) (k : Mark) (t : Token) → Lifts (λ n. decl_at (at_limit n) o k t) m
  lifts-decl o k t = lifts-flat (λ n. decl_at (at_limit n) o k t) m (decl_at (at_limit m) o k t) (flat-decl o k t)

  abbrev unless_var : Front → Mark → Token → ℕ → Result State SyntaxFault
  unless_var f k t n = cond (is k mark.Var) (Ok (at_var f)) (body_step f (stmt_step (at_limit n) [] no_stmts start t))

  abbrev unless_output : Front → Mark → Token → ℕ → Result State SyntaxFault
  unless_output f k t n = cond (is k mark.VarOutput) (Ok (at_decl (begun f section.Output))) (unless_var f k t n)

  lifts-local : (f : Front) (k : Mark) (t : Token) → Lifts (unless_var f k t) m
  lifts-local f k t =
      lifts-cond (is k mark.Var) (λ n. Ok (at_var f)) (λ n. body_step f (stmt_step (at_limit n) [] no_stmts start t)) m tt
      (lifts-body-step f (λ n. stmt_step (at_limit n) [] no_stmts start t) (lifts-stmt [] no_stmts start t))

  lifts-output : (f : Front) (k : Mark) (t : Token) → Lifts (unless_output f k t) m
  lifts-output f k t = lifts-cond (is k mark.VarOutput) (λ n. Ok (at_decl (begun f section.Output))) (unless_var f k t) m tt (lifts-local f k t)

  lifts-block : (f : Front) (k : Mark) (t : Token) → Lifts (λ n. block_at (at_limit n) f k t) m
  lifts-block f k t = lifts-cond (is k mark.VarInput) (λ n. Ok (at_decl (begun f section.Input))) (unless_output f k t) m tt (lifts-output f k t)

  abbrev unless_retain : Front → Mark → Token → ℕ → Result State SyntaxFault
  unless_retain f k t n = cond (is k mark.Retain) (Ok (at_decl (begun f section.Retain))) (decl_at (at_limit n) (begun f section.Local) k t)

  lifts-retain : (f : Front) (k : Mark) (t : Token) → Lifts (unless_retain f k t) m
  lifts-retain f k t =
      lifts-cond (is k mark.Retain) (λ n. Ok (at_decl (begun f section.Retain))) (λ n. decl_at (at_limit n) (begun f section.Local) k t) m tt
      (lifts-decl (begun f section.Local) k t)

  lifts-var : (f : Front) (k : Mark) (t : Token) → Lifts (λ n. var_at (at_limit n) f k t) m
  lifts-var f k t = lifts-cond (is k mark.Constant) (λ n. Ok (at_decl (begun f section.Constant))) (unless_retain f k t) m tt (lifts-retain f k t)

  flat-type : (o : Opening) (ds : List DeclaredTree) (k : Mark) (t : Token) → Flat (type_at o ds k t)
  flat-type o ds k t =
      flat-cond (is k mark.Bool) (Ok (at_init o ds ty.Bool)) _ tt
      (flat-cond (is k mark.Int) (Ok (at_init o ds ty.Int)) _ tt
      (flat-cond (is k mark.Dint) (Ok (at_init o ds ty.Dint)) _ tt
      (flat-cond (is k mark.Lint) (Ok (at_init o ds ty.Lint)) (refused t) tt tt)))

  lifts-init : (o : Opening) (ds : List DeclaredTree) (ty : Ty) (fs : List Form) (md : Mode) (t : Token) (e : Option ExprTree)
      → Lifts (λ n. init_at (at_limit n) o ds ty fs md t e) m
  lifts-init o ds ty fs md t (Some e) =
      lifts-flat (λ n. init_at (at_limit n) o ds ty fs md t (Some e)) m (init_at (at_limit m) o ds ty fs md t (Some e))
      (flat-cond (is (mark_of t.tok) mark.Semi) _ _ tt tt)
  lifts-init o ds ty fs md t None =
      lifts-by (init_read_on o ds ty) (λ r. in_init o ds ty r.forms r.mode) (λ r. refl) (λ e. refl)
      (λ n. step (at_limit n) 0 fs md t) m (step (at_limit m) 0 fs md t) (lifts-step 0 fs md t)

  pub lifts-program : (s : State) (t : Token) → Lifts (λ n. program_step (at_limit n) s t) m
  lifts-program at_program t =
      lifts-flat (λ n. program_step (at_limit n) at_program t) m (program_step (at_limit m) at_program t)
      (flat-cond (is (mark_of t.tok) mark.Program) _ _ tt tt)
  lifts-program at_name t =
      lifts-flat (λ n. program_step (at_limit n) at_name t) m (program_step (at_limit m) at_name t) (flat-cond (is (mark_of t.tok) mark.Name) _ _ tt tt)
  lifts-program (at_block f) t = lifts-block f (mark_of t.tok) t
  lifts-program (at_var f) t = lifts-var f (mark_of t.tok) t
  lifts-program (at_decl o) t = lifts-decl o (mark_of t.tok) t
  lifts-program (at_comma o ds) t =
      lifts-flat (λ n. program_step (at_limit n) (at_comma o ds) t) m (program_step (at_limit m) (at_comma o ds) t)
      (flat-cond (is (mark_of t.tok) mark.Comma) _ _ tt (flat-cond (is (mark_of t.tok) mark.Colon) _ _ tt tt))
  lifts-program (at_next_name o ds) t =
      lifts-flat (λ n. program_step (at_limit n) (at_next_name o ds) t) m (program_step (at_limit m) (at_next_name o ds) t)
      (flat-cond (is (mark_of t.tok) mark.Name) _ _ tt tt)
  lifts-program (at_type o ds) t = lifts-flat (λ n. type_at o ds (mark_of t.tok) t) m (type_at o ds (mark_of t.tok) t) (flat-type o ds (mark_of t.tok) t)
  lifts-program (at_init o ds ty) t =
      lifts-flat (λ n. program_step (at_limit n) (at_init o ds ty) t) m (program_step (at_limit m) (at_init o ds ty) t)
      (flat-cond (is (mark_of t.tok) mark.Semi) _ _ tt (flat-cond (is (mark_of t.tok) mark.Assign) _ _ tt tt))
  lifts-program (in_init o ds ty fs md) t = lifts-init o ds ty fs md t (ends_before fs md t)
  lifts-program (in_body f outer ss p) t = lifts-body-step f (λ n. stmt_step (at_limit n) outer ss p t) (lifts-stmt outer ss p t)
