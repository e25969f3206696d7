-- StmtSound: statements that are read are spelled.
use Rattle.std.proofs.Common.{◌≡◌, ℕ, suc, ◌≤◌, List, [], ◌∷◌, ◌++◌, length, Option, Some, None, Result, Ok, Err, sym, refl, ap, ◌∙◌, subst, arith}
use Rattle.std.proofs.Common.{append_assoc, append-nil}
use Rattle.vcp_base.specs.declared.spot.Spot.{Spot}
use Rattle.st_lexer.specs.declared.token.Key.TheVariants as key
use Rattle.st_lexer.specs.declared.token.Sym.TheVariants as symbol
use Rattle.st_lexer.specs.declared.token.Tok.TheVariants as tok
use Rattle.st_lexer.specs.declared.token.Token.{Token}
use Rattle.st_tree.specs.ExprTree.{ExprTree, name}
use Rattle.st_tree.specs.StmtTree.{LabelTree, StmtTree, StmtTrees, ArmTrees, BranchTrees, assign, if_, case, for_, no_arms, and_arm, no_branches, and_branch}
use Rattle.st_tree.specs.StmtTree.{no_other, other}
use Rattle.st_tree.specs.Appended.{stmts_and, arms_and, branches_and}
use Rattle.st_tree.specs.Operators.{any_level}
use Rattle.st_tree.specs.Placed.{Placed, at}
use Rattle.st_tree.specs.Expressions.{SpellsExpr}
use Rattle.st_tree.specs.Labels.{spells_named}
use Rattle.st_tree.specs.Statements.{SpellsStmt, SpellsStmts, spells_no_step, spells_step, spells_assign, spells_if, spells_case, spells_for, spells_arm}
use Rattle.st_tree.specs.Statements.{spells_elsif, spells_if_else, spells_end_if, spells_branch, spells_next_branch, spells_case_else, spells_end_case}
use Rattle.st_parser.specs.declared.fault.SyntaxFault.{SyntaxFault}
use Rattle.st_parser.specs.declared.marks.Mark.{Mark}
use Rattle.st_parser.specs.declared.marks.Mark.TheVariants as mark
use Rattle.st_parser.specs.Marks.{mark_of, is}
use Rattle.st_parser.specs.ExprMachine.{Context, Form, Mode, want, Reading, no_deeper, step, ends_before}
use Rattle.st_parser.specs.StmtMachine.{Selection, Body, of_arm, of_if_else, of_branch, of_case_else, of_loop, Level, Purpose, to_assign, to_test, to_select}
use Rattle.st_parser.specs.StmtMachine.{to_begin, to_end, to_step, LabelPhase, first_wanted, first_read, Phase, start, named, reading, closed, loop_begun}
use Rattle.st_parser.specs.StmtMachine.{loop_named, labelling, finished, At, refused, to, opened, whole, with_branch, label_step, next_label_in, next_label}
use Rattle.st_parser.specs.StmtMachine.{elsif_at, else_at, end_if_at, end_case_at, end_for_at, body_ends, start_at, named_at, take, read_on, read_at, stmt_step}
use Rattle.st_parser.proofs.ExprSound.{HasRead, none-read, step-read, ends-read}
use Rattle.st_parser.proofs.MarkTable.{IsMark, mark_is}
use Rattle.st_parser.proofs.SoFar.{arms_append, arms_last, arms_then, branches_append, branches_last, branches_then, one_more, one_empty, Opens, Selects, Lists}
use Rattle.st_parser.proofs.SoFar.{Asks, Labels, Reads, Whole, Stands}
use Rattle.st_parser.proofs.LabelSound.{chosen, not_deeper, Sound, sound_err, opened-sound, label-sound}

-- ---- a statement that is whole

-- is one more of the statements
pub whole-one : (c : Context) (outer : List Level) (ss : StmtTrees) (cs : List Placed) → Reads c outer ss cs → (s : StmtTree) (ts : List Placed)
    → SpellsStmt c.bytes (length outer) s ts → Whole c outer ss s (cs ++ ts)
whole-one c [] ss cs r s ts sp t k =
    subst (λ (x : List Placed). SpellsStmts c.bytes 0 (stmts_and ss s) x) (sym (append_assoc cs ts (at 0 t ∷ []))) (one_more r s ts t k sp)
whole-one c (level ∷ outer) ss cs r s ts sp t k =
    let d : ℕ = suc (length outer) in (
      r.0,
      r.1 ++ (ts ++ at d t ∷ []),
      r.2,
      r.3,
      one_more r.4 s ts t k sp,
      ap (λ (x : List Placed). (x ++ ts) ++ at d t ∷ []) r.5 ∙ simp append_assoc,
    )

-- a semicolon alone
reads-empty : (c : Context) (outer : List Level) (ss : StmtTrees) (cs : List Placed) (t : Token) → Reads c outer ss cs → t.tok ≡ tok.Sym symbol.Semi
    → Reads c outer ss (cs ++ at (length outer) t ∷ [])
reads-empty c [] ss cs t r k = one_empty r t k
reads-empty c (level ∷ outer) ss cs t r k =
    let d : ℕ = suc (length outer) in (
      r.0,
      r.1 ++ at d t ∷ [],
      r.2,
      r.3,
      one_empty r.4 t k,
      ap (λ (x : List Placed). x ++ at d t ∷ []) r.5 ∙ append_assoc r.0 r.1 (at d t ∷ []),
    )

whole-sound : (c : Context) (t : Token) (outer : List Level) (before : StmtTrees) (s : StmtTree) (cs : List Placed) → length outer ≤ c.most
    → Whole c outer before s (cs ++ at (length outer) t ∷ [])
    → Sound c t cs (whole outer before s)
whole-sound c t outer before s cs le w = (length outer, le, (le, w))

-- ---- what ends a body

elsif-sound : (c : Context) (t : Token) (body : Body) (outer : List Level) (before ss : StmtTrees) (hs us : List Placed) → length outer ≤ c.most
    → Opens c (length outer) (Whole c outer before) body hs → SpellsStmts c.bytes (suc (length outer)) ss us → t.tok ≡ tok.Key key.Elsif
    → Sound c t (hs ++ us) (elsif_at body outer before ss t)
elsif-sound c t (of_arm arms e s) outer before ss hs us le h sp k =
    let d : ℕ = length outer in
    let P : StmtTree → List Placed → Type 0 = Whole c outer before in
    let front : List Placed = (hs ++ us) ++ at d t ∷ [] in (
      d,
      le,
      (
        front,
        [],
        le,
        λ f ts u sf ku body more o vs ws sb sm.
            let rest : List Placed = at d t ∷ (ts ++ at d u ∷ (vs ++ ws)) in
            let tokens : hs ++ (us ++ rest) ≡ (front ++ (ts ++ at d u ∷ [])) ++ (vs ++ ws) = simp append_assoc in
            subst (λ (x : List Placed). P (if_ (arms_append (arms_and arms e ss s) (and_arm f body t.spot more)) o) x) tokens
            (subst (λ (x : ArmTrees). P (if_ x o) (hs ++ (us ++ rest))) (arms_then arms e ss s (and_arm f body t.spot more))
            (h ss (and_arm f body t.spot more) o us rest sp
            (spells_elsif (and_arm f body t.spot more) o rest (spells_arm key.Elsif f body more o t u ts vs ws k sf ku sb sm)))),
        none-read c d,
        sym (append-nil front),
      ),
    )
elsif-sound c t (of_if_else arms) outer before ss hs us le h sp k = tt
elsif-sound c t (of_branch q ls) outer before ss hs us le h sp k = tt
elsif-sound c t (of_case_else q) outer before ss hs us le h sp k = tt
elsif-sound c t (of_loop l first last by) outer before ss hs us le h sp k = tt

else-sound : (c : Context) (t : Token) (body : Body) (outer : List Level) (before ss : StmtTrees) (hs us : List Placed) → length outer ≤ c.most
    → Opens c (length outer) (Whole c outer before) body hs → SpellsStmts c.bytes (suc (length outer)) ss us → t.tok ≡ tok.Key key.Else
    → Sound c t (hs ++ us) (else_at body outer before ss t)
else-sound c t (of_arm arms e s) outer before ss hs us le h sp k =
    let d : ℕ = length outer in
    let P : StmtTree → List Placed → Type 0 = Whole c outer before in
    opened-sound c t d (hs ++ us) ((hs ++ us) ++ at d t ∷ []) (of_if_else (arms_and arms e ss s)) outer before le le
    (λ body vs f sb kf.
    let rest : List Placed = at d t ∷ (vs ++ at d f ∷ []) in
    let tokens : hs ++ (us ++ rest) ≡ ((hs ++ us) ++ at d t ∷ []) ++ (vs ++ at d f ∷ []) = simp append_assoc in
    subst (λ (x : List Placed). P (if_ (arms_and arms e ss s) (other body)) x) tokens
    (subst (λ (x : ArmTrees). P (if_ x (other body)) (hs ++ (us ++ rest))) (arms_last arms e ss s)
    (h ss no_arms (other body) us rest sp (spells_if_else body t f vs k sb kf))))
    refl
else-sound c t (of_branch q ls) outer before ss hs us le h sp k =
    let d : ℕ = length outer in
    let P : StmtTree → List Placed → Type 0 = Whole c outer before in
    opened-sound c t d (hs ++ us) ((hs ++ us) ++ at d t ∷ []) (of_case_else (with_branch q ls ss)) outer before le le
    (λ body vs f sb kf.
    let rest : List Placed = at d t ∷ (vs ++ at d f ∷ []) in
    let tokens : hs ++ (us ++ rest) ≡ ((hs ++ us) ++ at d t ∷ []) ++ (vs ++ at d f ∷ []) = simp append_assoc in
    subst (λ (x : List Placed). P (case q.on (branches_and q.branches ls ss) (other body) q.spot) x) tokens
    (subst (λ (x : BranchTrees). P (case q.on x (other body) q.spot) (hs ++ (us ++ rest))) (branches_last q.branches ls ss)
    (h ss no_branches (other body) us rest sp (spells_case_else body t f vs k sb kf))))
    refl
else-sound c t (of_if_else arms) outer before ss hs us le h sp k = tt
else-sound c t (of_case_else q) outer before ss hs us le h sp k = tt
else-sound c t (of_loop l first last by) outer before ss hs us le h sp k = tt

end_if-sound : (c : Context) (t : Token) (body : Body) (outer : List Level) (before ss : StmtTrees) (hs us : List Placed) → length outer ≤ c.most
    → Opens c (length outer) (Whole c outer before) body hs → SpellsStmts c.bytes (suc (length outer)) ss us → t.tok ≡ tok.Key key.EndIf
    → Sound c t (hs ++ us) (end_if_at body outer before ss t)
end_if-sound c t (of_arm arms e s) outer before ss hs us le h sp k =
    let d : ℕ = length outer in
    let P : StmtTree → List Placed → Type 0 = Whole c outer before in
    whole-sound c t outer before (if_ (arms_and arms e ss s) no_other) (hs ++ us) le
    (subst (λ (x : List Placed). P (if_ (arms_and arms e ss s) no_other) x) (sym (append_assoc hs us (at d t ∷ [])))
    (subst (λ (x : ArmTrees). P (if_ x no_other) (hs ++ (us ++ at d t ∷ []))) (arms_last arms e ss s)
    (h ss no_arms no_other us (at d t ∷ []) sp (spells_end_if t k))))
end_if-sound c t (of_if_else arms) outer before ss hs us le h sp k =
    let d : ℕ = length outer in
    whole-sound c t outer before (if_ arms (other ss)) (hs ++ us) le
    (subst (λ (x : List Placed). Whole c outer before (if_ arms (other ss)) x) (sym (append_assoc hs us (at d t ∷ []))) (h ss us t sp k))
end_if-sound c t (of_branch q ls) outer before ss hs us le h sp k = tt
end_if-sound c t (of_case_else q) outer before ss hs us le h sp k = tt
end_if-sound c t (of_loop l first last by) outer before ss hs us le h sp k = tt

end_case-sound : (c : Context) (t : Token) (body : Body) (outer : List Level) (before ss : StmtTrees) (hs us : List Placed) → length outer ≤ c.most
    → Opens c (length outer) (Whole c outer before) body hs → SpellsStmts c.bytes (suc (length outer)) ss us → t.tok ≡ tok.Key key.EndCase
    → Sound c t (hs ++ us) (end_case_at body outer before ss t)
end_case-sound c t (of_branch q ls) outer before ss hs us le h sp k =
    let d : ℕ = length outer in
    let P : StmtTree → List Placed → Type 0 = Whole c outer before in
    whole-sound c t outer before (case q.on (branches_and q.branches ls ss) no_other q.spot) (hs ++ us) le
    (subst (λ (x : List Placed). P (case q.on (branches_and q.branches ls ss) no_other q.spot) x) (sym (append_assoc hs us (at d t ∷ [])))
    (subst (λ (x : BranchTrees). P (case q.on x no_other q.spot) (hs ++ (us ++ at d t ∷ []))) (branches_last q.branches ls ss)
    (h ss no_branches no_other us (at d t ∷ []) sp (spells_end_case t k))))
end_case-sound c t (of_case_else q) outer before ss hs us le h sp k =
    let d : ℕ = length outer in
    whole-sound c t outer before (case q.on q.branches (other ss) q.spot) (hs ++ us) le
    (subst (λ (x : List Placed). Whole c outer before (case q.on q.branches (other ss) q.spot) x) (sym (append_assoc hs us (at d t ∷ []))) (h ss us t sp k))
end_case-sound c t (of_arm arms e s) outer before ss hs us le h sp k = tt
end_case-sound c t (of_if_else arms) outer before ss hs us le h sp k = tt
end_case-sound c t (of_loop l first last by) outer before ss hs us le h sp k = tt

end_for-sound : (c : Context) (t : Token) (body : Body) (outer : List Level) (before ss : StmtTrees) (hs us : List Placed) → length outer ≤ c.most
    → Opens c (length outer) (Whole c outer before) body hs → SpellsStmts c.bytes (suc (length outer)) ss us → t.tok ≡ tok.Key key.EndFor
    → Sound c t (hs ++ us) (end_for_at body outer before ss t)
end_for-sound c t (of_loop l first last by) outer before ss hs us le h sp k =
    let d : ℕ = length outer in
    whole-sound c t outer before (for_ l.name l.name_spot first last by ss l.spot) (hs ++ us) le
    (subst (λ (x : List Placed). Whole c outer before (for_ l.name l.name_spot first last by ss l.spot) x) (sym (append_assoc hs us (at d t ∷ [])))
    (h ss us t sp k))
end_for-sound c t (of_arm arms e s) outer before ss hs us le h sp k = tt
end_for-sound c t (of_if_else arms) outer before ss hs us le h sp k = tt
end_for-sound c t (of_branch q ls) outer before ss hs us le h sp k = tt
end_for-sound c t (of_case_else q) outer before ss hs us le h sp k = tt

-- ---- the next branch of a CASE

-- a branch that is whole
next-branch : (c : Context) (d : ℕ) (P : StmtTree → List Placed → Type 0) (q : Selection) (ls : List LabelTree) (ss : StmtTrees) (hs us : List Placed)
    → Opens c d P (of_branch q ls) hs → SpellsStmts c.bytes (suc d) ss us → Selects c d P (with_branch q ls ss) (hs ++ us)
next-branch c d P q ls ss hs us h sp more o vs sm =
    subst (λ (x : List Placed). P (case q.on (branches_append (branches_and q.branches ls ss) more) o q.spot) x) (sym (append_assoc hs us vs))
    (subst (λ (x : BranchTrees). P (case q.on x o q.spot) (hs ++ (us ++ vs))) (branches_then q.branches ls ss more)
    (h ss more o us vs sp (spells_next_branch more o vs sm)))

-- the labels of a branch begin
pub lists-none : (c : Context) (d : ℕ) (P : StmtTree → List Placed → Type 0) (q : Selection) (hs : List Placed) → Selects c d P q hs → Lists c d P q [] hs
lists-none c d P q hs h more us sp body rest o vs ws sb sm =
    let tokens : hs ++ (us ++ (vs ++ ws)) ≡ (hs ++ us) ++ (vs ++ ws) = simp append_assoc in
    subst (λ (x : List Placed). P (case q.on (branches_append q.branches (and_branch more body rest)) o q.spot) x) tokens
    (h (and_branch more body rest) o (us ++ (vs ++ ws)) (spells_branch more body rest o us vs ws sp sb sm))

-- the label has come so far
next_label_in-sound : (c : Context) (t : Token) (body : Body) (outer : List Level) (before ss : StmtTrees) (p : LabelPhase) (hs us ts : List Placed)
    → length outer ≤ c.most
    → Opens c (length outer) (Whole c outer before) body hs → SpellsStmts c.bytes (suc (length outer)) ss us → Labels c (suc (length outer)) p ts
    → Sound c t ((hs ++ us) ++ ts) (next_label_in c body outer before ss p t)
next_label_in-sound c t (of_branch q ls) outer before ss p hs us ts le h sp l =
    let P : StmtTree → List Placed → Type 0 = Whole c outer before in
    label-sound c outer before (with_branch q ls ss) [] p t (hs ++ us) ts le
    (lists-none c (length outer) P (with_branch q ls ss) (hs ++ us) (next-branch c (length outer) P q ls ss hs us h sp)) l
next_label_in-sound c t (of_arm arms e s) outer before ss p hs us ts le h sp l = tt
next_label_in-sound c t (of_if_else arms) outer before ss p hs us ts le h sp l = tt
next_label_in-sound c t (of_case_else q) outer before ss p hs us ts le h sp l = tt
next_label_in-sound c t (of_loop x first last by) outer before ss p hs us ts le h sp l = tt

next_label-sound : (c : Context) (t : Token) (outer : List Level) (ss : StmtTrees) (p : LabelPhase) (cs ts : List Placed) → Reads c outer ss cs
    → Labels c (length outer) p ts
    → Sound c t (cs ++ ts) (next_label c outer ss p t)
next_label-sound c t [] ss p cs ts r l = tt
next_label-sound c t (level ∷ outer) ss p cs ts r l =
    subst (λ (x : List Placed). Sound c t (x ++ ts) (next_label c (level ∷ outer) ss p t)) (sym r.5)
    (next_label_in-sound c t level.body outer level.before ss p r.0 r.1 ts r.2 r.3 r.4 l)

-- ---- a token that ends the innermost body

body_ends-sound : (c : Context) (t : Token) (outer : List Level) (ss : StmtTrees) (m : Mark) (cs : List Placed) → Reads c outer ss cs → IsMark m t.tok
    → Sound c t cs (body_ends c outer ss m t)
body_ends-sound c t [] ss m cs r mk =
    chosen (Sound c t cs) (is m mark.EndProgram) (to [] ss finished) (refused t) (λ e. (0, omega arith, (cs, t, r, mk mark.EndProgram e, refl))) tt
body_ends-sound c t (level ∷ outer) ss m cs r mk =
    let P : Result At SyntaxFault → Type 0 = Sound c t (r.0 ++ r.1) in
    subst (λ (x : List Placed). Sound c t x (body_ends c (level ∷ outer) ss m t)) (sym r.5)
    (chosen P (is m mark.Elsif) (elsif_at level.body outer level.before ss t) _
    (λ e. elsif-sound c t level.body outer level.before ss r.0 r.1 r.2 r.3 r.4 (mk mark.Elsif e))
    (chosen P (is m mark.Else) (else_at level.body outer level.before ss t) _
    (λ e. else-sound c t level.body outer level.before ss r.0 r.1 r.2 r.3 r.4 (mk mark.Else e))
    (chosen P (is m mark.EndIf) (end_if_at level.body outer level.before ss t) _
    (λ e. end_if-sound c t level.body outer level.before ss r.0 r.1 r.2 r.3 r.4 (mk mark.EndIf e))
    (chosen P (is m mark.EndCase) (end_case_at level.body outer level.before ss t) _
    (λ e. end_case-sound c t level.body outer level.before ss r.0 r.1 r.2 r.3 r.4 (mk mark.EndCase e))
    (chosen P (is m mark.EndFor) (end_for_at level.body outer level.before ss t) (next_label_in c level.body outer level.before ss first_wanted t)
    (λ e. end_for-sound c t level.body outer level.before ss r.0 r.1 r.2 r.3 r.4 (mk mark.EndFor e))
    (subst (λ (x : List Placed). Sound c t x (next_label_in c level.body outer level.before ss first_wanted t)) (append-nil (r.0 ++ r.1))
    (next_label_in-sound c t level.body outer level.before ss first_wanted r.0 r.1 [] r.2 r.3 r.4 refl)))))))

-- ---- where a statement may begin

-- a token that is at the depth of the statements
stood : (c : Context) (t : Token) (outer : List Level) (ss : StmtTrees) (cs : List Placed) (p : Phase)
    → (length outer ≤ c.most → Stands c outer ss p (cs ++ at (length outer) t ∷ []))
    → Sound c t cs (no_deeper c.most (length outer) t (to outer ss p))
stood c t outer ss cs p h = not_deeper (Sound c t cs) c.most (length outer) t (to outer ss p) (sound_err c t cs) (λ le. (length outer, le, h le))

-- a name, which begins an assignment or a label
begins-named : (c : Context) (t : Token) (outer : List Level) (ss : StmtTrees) (cs : List Placed) → Reads c outer ss cs → t.tok ≡ tok.Name
    → length outer ≤ c.most
    → Stands c outer ss (named (c.bytes t) t.spot) (cs ++ at (length outer) t ∷ [])
begins-named c t outer ss cs r k le =
    let d : ℕ = length outer in (
      cs,
      at d t ∷ [],
      le,
      r,
      spells_named t k,
      λ a ka e ts sp.
          let tokens : cs ++ (at d t ∷ at d a ∷ ts) ≡ ((cs ++ at d t ∷ []) ++ at d a ∷ []) ++ ts = simp append_assoc in
          subst (λ (x : List Placed). Whole c outer ss (assign (c.bytes t) e t.spot) x) tokens
          (whole-one c outer ss cs r (assign (c.bytes t) e t.spot) (at d t ∷ at d a ∷ ts) (spells_assign t a e ts k ka sp)),
      refl,
    )

begins-if : (c : Context) (t : Token) (outer : List Level) (ss : StmtTrees) (cs : List Placed) → Reads c outer ss cs → t.tok ≡ tok.Key key.If
    → length outer ≤ c.most
    → Stands c outer ss (reading (to_test no_arms t.spot) [] want) (cs ++ at (length outer) t ∷ [])
begins-if c t outer ss cs r k le =
    let d : ℕ = length outer in
    let front : List Placed = cs ++ at d t ∷ [] in (
      front,
      [],
      le,
      λ e ts u se ku body more o us vs sb sm.
          let rest : List Placed = at d t ∷ (ts ++ at d u ∷ (us ++ vs)) in
          let tokens : cs ++ rest ≡ (front ++ (ts ++ at d u ∷ [])) ++ (us ++ vs) = simp append_assoc in
          let tree : StmtTree = if_ (and_arm e body t.spot more) o in
          subst (λ (x : List Placed). Whole c outer ss tree x) tokens
          (whole-one c outer ss cs r tree rest (spells_if (and_arm e body t.spot more) o rest (spells_arm key.If e body more o t u ts us vs k se ku sb sm))),
      none-read c d,
      sym (append-nil front),
    )

begins-case : (c : Context) (t : Token) (outer : List Level) (ss : StmtTrees) (cs : List Placed) → Reads c outer ss cs → t.tok ≡ tok.Key key.Case
    → length outer ≤ c.most
    → Stands c outer ss (reading (to_select t.spot) [] want) (cs ++ at (length outer) t ∷ [])
begins-case c t outer ss cs r k le =
    let d : ℕ = length outer in
    let front : List Placed = cs ++ at d t ∷ [] in (
      front,
      [],
      le,
      λ e ts u se ku more o us sm.
          let rest : List Placed = at d t ∷ (ts ++ at d u ∷ us) in
          let tokens : cs ++ rest ≡ (front ++ (ts ++ at d u ∷ [])) ++ us = simp append_assoc in
          let tree : StmtTree = case e more o t.spot in
          subst (λ (x : List Placed). Whole c outer ss tree x) tokens
          (whole-one c outer ss cs r tree rest (spells_case e more o t u ts us k se ku sm)),
      none-read c d,
      sym (append-nil front),
    )

begins-for : (c : Context) (t : Token) (outer : List Level) (ss : StmtTrees) (cs : List Placed) → Reads c outer ss cs → t.tok ≡ tok.Key key.For
    → length outer ≤ c.most
    → Stands c outer ss (loop_begun t.spot) (cs ++ at (length outer) t ∷ [])
begins-for c t outer ss cs r k le =
    let d : ℕ = length outer in
    let front : List Placed = cs ++ at d t ∷ [] in (
      le,
      λ n kn a ka e ts u se ku f by us vs o sf sb ko body ws x sw kx.
          let rest : List Placed = at d t ∷ at d n ∷ at d a ∷ (ts ++ at d u ∷ (us ++ (vs ++ at d o ∷ (ws ++ at d x ∷ [])))) in
          let tokens : cs ++ rest ≡ ((((front ++ at d n ∷ []) ++ at d a ∷ []) ++ (ts ++ at d u ∷ [])) ++ (us ++ (vs ++ at d o ∷ []))) ++ (ws ++ at d x ∷ []) =
          simp append_assoc in
          let tree : StmtTree = for_ (c.bytes n) n.spot e f by body t.spot in
          subst (λ (x : List Placed). Whole c outer ss tree x) tokens
          (whole-one c outer ss cs r tree rest (spells_for e f by body t n a u o x ts us vs ws k kn ka se ku sf sb ko sw kx)),
    )

start-sound : (c : Context) (t : Token) (outer : List Level) (ss : StmtTrees) (m : Mark) (cs : List Placed) → Reads c outer ss cs → IsMark m t.tok
    → Sound c t cs (start_at c outer ss m t)
start-sound c t outer ss m cs r mk =
    let P : Result At SyntaxFault → Type 0 = Sound c t cs in
    chosen P (is m mark.Semi) (no_deeper c.most (length outer) t (to outer ss start)) _
    (λ e. stood c t outer ss cs start (λ le. reads-empty c outer ss cs t r (mk mark.Semi e)))
    (chosen P (is m mark.Name) (no_deeper c.most (length outer) t (to outer ss (named (c.bytes t) t.spot))) _
    (λ e. stood c t outer ss cs (named (c.bytes t) t.spot) (begins-named c t outer ss cs r (mk mark.Name e)))
    (chosen P (is m mark.If) (no_deeper c.most (length outer) t (to outer ss (reading (to_test no_arms t.spot) [] want))) _
    (λ e. stood c t outer ss cs (reading (to_test no_arms t.spot) [] want) (begins-if c t outer ss cs r (mk mark.If e)))
    (chosen P (is m mark.Case) (no_deeper c.most (length outer) t (to outer ss (reading (to_select t.spot) [] want))) _
    (λ e. stood c t outer ss cs (reading (to_select t.spot) [] want) (begins-case c t outer ss cs r (mk mark.Case e)))
    (chosen P (is m mark.For) (no_deeper c.most (length outer) t (to outer ss (loop_begun t.spot))) (body_ends c outer ss m t)
    (λ e. stood c t outer ss cs (loop_begun t.spot) (begins-for c t outer ss cs r (mk mark.For e)))
    (body_ends-sound c t outer ss m cs r mk)))))

-- ---- behind a name that begins a statement

named-sound : (c : Context) (t : Token) (outer : List Level) (ss : StmtTrees) (f : List ℕ) (s : Spot) (m : Mark) (cs : List Placed)
    → Stands c outer ss (named f s) cs → IsMark m t.tok
    → Sound c t cs (named_at c outer ss f s m t)
named-sound c t outer ss f s m cs h mk =
    let d : ℕ = length outer in
    chosen (Sound c t cs) (is m mark.Assign) (to outer ss (reading (to_assign f s) [] want)) (next_label c outer ss (first_read (name f s)) t)
    (λ e. (d, h.2, (cs ++ at d t ∷ [], [], h.2, h.5 t (mk mark.Assign e), none-read c d, sym (append-nil (cs ++ at d t ∷ [])))))
    (subst (λ (x : List Placed). Sound c t x (next_label c outer ss (first_read (name f s)) t)) (sym h.6)
    (next_label-sound c t outer ss (first_read (name f s)) h.0 h.1 h.3 (h.2, h.4)))

-- ---- the token behind a whole expression

take-sound : (c : Context) (t : Token) (outer : List Level) (ss : StmtTrees) (p : Purpose) (e : ExprTree) (m : Mark) (hs es : List Placed)
    → length outer ≤ c.most
    → Asks c (length outer) (Whole c outer ss) p hs → SpellsExpr c.bytes (length outer) any_level e es → IsMark m t.tok
    → Sound c t (hs ++ es) (take outer ss p e m t)
take-sound c t outer ss (to_assign f s) e m hs es le h sp mk =
    chosen (Sound c t (hs ++ es)) (is m mark.Semi) (to outer (stmts_and ss (assign f e s)) start) (refused t)
    (λ k. (length outer, le, h e es sp t (mk mark.Semi k))) tt
take-sound c t outer ss (to_test arms s) e m hs es le h sp mk =
    let d : ℕ = length outer in
    chosen (Sound c t (hs ++ es)) (is m mark.Then) (opened (of_arm arms e s) outer ss) (refused t)
    (λ k. opened-sound c t d (hs ++ es) (hs ++ (es ++ at d t ∷ [])) (of_arm arms e s) outer ss le le (h e es t sp (mk mark.Then k))
    (append_assoc hs es (at d t ∷ []))) tt
take-sound c t outer ss (to_select s) e m hs es le h sp mk =
    let d : ℕ = length outer in
    let front : List Placed = hs ++ (es ++ at d t ∷ []) in
    let q : Selection = record { on = e; spot = s; branches = no_branches } in
    chosen (Sound c t (hs ++ es)) (is m mark.Of) (to outer ss (labelling q [] first_wanted)) (refused t)
    (λ k. (
      d,
      le,
      (front, [], le, lists-none c d (Whole c outer ss) q front (h e es t sp (mk mark.Of k)), refl, append_assoc hs es (at d t ∷ []) ∙ sym (append-nil front)),
    ))
    tt
take-sound c t outer ss (to_begin l) e m hs es le h sp mk =
    let d : ℕ = length outer in
    let front : List Placed = hs ++ (es ++ at d t ∷ []) in
    chosen (Sound c t (hs ++ es)) (is m mark.To) (to outer ss (reading (to_end l e) [] want)) (refused t)
    (λ k. (d, le, (front, [], le, h e es t sp (mk mark.To k), none-read c d, append_assoc hs es (at d t ∷ []) ∙ sym (append-nil front)))) tt
take-sound c t outer ss (to_end l first) e m hs es le h sp mk =
    let d : ℕ = length outer in
    let front : List Placed = hs ++ (es ++ at d t ∷ []) in
    chosen (Sound c t (hs ++ es)) (is m mark.By) (to outer ss (reading (to_step l first e) [] want)) _
    (λ k. (
      d,
      le,
      (
        front,
        [],
        le,
        λ by ts o sb ko.
            let tokens : hs ++ (es ++ (at d t ∷ (ts ++ at d o ∷ []))) ≡ front ++ (ts ++ at d o ∷ []) = simp append_assoc in
            subst (λ (x : List Placed). Opens c d (Whole c outer ss) (of_loop l first e (Some by)) x) tokens
            (h e (Some by) es (at d t ∷ ts) o sp (spells_step by t ts (mk mark.By k) sb) ko),
        none-read c d,
        append_assoc hs es (at d t ∷ []) ∙ sym (append-nil front),
      ),
    ))
    (chosen (Sound c t (hs ++ es)) (is m mark.Do) (opened (of_loop l first e None) outer ss) (refused t)
    (λ k. opened-sound c t d (hs ++ es) front (of_loop l first e None) outer ss le le (h e None es [] t sp spells_no_step (mk mark.Do k))
    (append_assoc hs es (at d t ∷ []))) tt)
take-sound c t outer ss (to_step l first last) e m hs es le h sp mk =
    let d : ℕ = length outer in
    let front : List Placed = hs ++ (es ++ at d t ∷ []) in
    chosen (Sound c t (hs ++ es)) (is m mark.Do) (opened (of_loop l first last (Some e)) outer ss) (refused t)
    (λ k. opened-sound c t d (hs ++ es) front (of_loop l first last (Some e)) outer ss le le (h e es t sp (mk mark.Do k)) (append_assoc hs es (at d t ∷ []))) tt

-- ---- a token of an expression, or the one behind it

read_on-sound : (c : Context) (t : Token) (outer : List Level) (ss : StmtTrees) (p : Purpose) (fs : List Form) (m : Mode) (hs es : List Placed)
    (r : Result Reading SyntaxFault) → length outer ≤ c.most
    → Asks c (length outer) (Whole c outer ss) p hs → HasRead c (length outer) fs m es → step c (length outer) fs m t ≡ r
    → Sound c t (hs ++ es) (read_on outer ss p r)
read_on-sound c t outer ss p fs m hs es (Ok r) le h x e =
    let n = step-read c (length outer) fs m es t r x e in
    (n.0, n.2, (hs, es ++ at n.0 t ∷ [], le, h, n.1, append_assoc hs es (at n.0 t ∷ [])))
read_on-sound c t outer ss p fs m hs es (Err f) le h x e = tt

read-sound : (c : Context) (t : Token) (outer : List Level) (ss : StmtTrees) (p : Purpose) (fs : List Form) (m : Mode) (hs es : List Placed)
    (o : Option ExprTree) → length outer ≤ c.most
    → Asks c (length outer) (Whole c outer ss) p hs → HasRead c (length outer) fs m es → ends_before fs m t ≡ o
    → Sound c t (hs ++ es) (read_at c outer ss p fs m t o)
read-sound c t outer ss p fs m hs es (Some e) le h x is_whole =
    take-sound c t outer ss p e (mark_of t.tok) hs es le h (ends-read c (length outer) fs m es t e x is_whole).0 (mark_is t.tok)
read-sound c t outer ss p fs m hs es None le h x is_whole = read_on-sound c t outer ss p fs m hs es (step c (length outer) fs m t) le h x refl

-- ---- a token

pub stmt-sound : (c : Context) (t : Token) (outer : List Level) (ss : StmtTrees) (p : Phase) (cs : List Placed) → Stands c outer ss p cs
    → Sound c t cs (stmt_step c outer ss p t)
stmt-sound c t outer ss start cs h = start-sound c t outer ss (mark_of t.tok) cs h (mark_is t.tok)
stmt-sound c t outer ss (named f s) cs h = named-sound c t outer ss f s (mark_of t.tok) cs h (mark_is t.tok)
stmt-sound c t outer ss (reading p fs m) cs h =
    subst (λ (x : List Placed). Sound c t x (read_at c outer ss p fs m t (ends_before fs m t))) (sym h.5)
    (read-sound c t outer ss p fs m h.0 h.1 (ends_before fs m t) h.2 h.3 h.4 refl)
stmt-sound c t outer ss closed cs h =
    chosen (Sound c t cs) (is (mark_of t.tok) mark.Semi) (to outer ss start) (refused t) (λ e. (length outer, h.0, h.1 t (mark_is t.tok mark.Semi e))) tt
stmt-sound c t outer ss (loop_begun s) cs h =
    chosen (Sound c t cs) (is (mark_of t.tok) mark.Name) (to outer ss (loop_named (record { name = c.bytes t; name_spot = t.spot; spot = s }))) (refused t)
    (λ e. (length outer, h.0, (h.0, h.1 t (mark_is t.tok mark.Name e)))) tt
stmt-sound c t outer ss (loop_named l) cs h =
    let d : ℕ = length outer in
    chosen (Sound c t cs) (is (mark_of t.tok) mark.Assign) (to outer ss (reading (to_begin l) [] want)) (refused t)
    (λ e. (d, h.0, (cs ++ at d t ∷ [], [], h.0, h.1 t (mark_is t.tok mark.Assign e), none-read c d, sym (append-nil (cs ++ at d t ∷ []))))) tt
stmt-sound c t outer ss (labelling k ls p) cs h =
    subst (λ (x : List Placed). Sound c t x (label_step c outer ss k ls p t)) (sym h.5) (label-sound c outer ss k ls p t h.0 h.1 h.2 h.3 h.4)
stmt-sound c t outer ss finished cs h = tt
