-- Verdicts: what the machine's answer says of the tokens.
use Rattle.std.proofs.Common.{◌≡◌, ◌≢◌, ◌⊎◌, ℕ, List, [], ◌∷◌, ◌++◌, Result, Ok, Err, inl, inr, refl, sym, ap, ◌∙◌, subst, append_assoc}
use Rattle.std.specs.Prelude.{IfOk, IfErr}
use Rattle.vcp_base.specs.Limits.{most_depth}
use Rattle.vcp_base.specs.declared.spot.Spot.{Spot}
use Rattle.st_lexer.specs.declared.token.Token.{Token}
use Rattle.st_tree.specs.declared.program.Program.{Program}
use Rattle.st_tree.specs.ProgramTree.{ProgramTree}
use Rattle.st_tree.specs.ProgramViews.{program_tree}
use Rattle.st_tree.specs.Placed.{Placed, at}
use Rattle.st_tree.specs.Programs.{SpellsProgram}
use Rattle.st_tree.specs.Spelling.{Spells, SpellsWithin, Begins, bytes_in, left_aside}
use Rattle.st_parser.specs.declared.fault.SyntaxFault.{SyntaxFault}
use Rattle.st_parser.specs.declared.fault.SyntaxFault.TheVariants as fault
use Rattle.st_parser.specs.Answers.{IsTooDeep, NoneTooDeep, FirstWrong, EndsEarly, FirstTooDeep, Refuses, IsAnswered}
use Rattle.st_parser.specs.ExprMachine.{Context}
use Rattle.st_parser.specs.ProgramMachine.{State, run, read_program}
use Rattle.st_parser.specs.StateViews.{Gives}
use Rattle.st_parser.proofs.OneProgram.{only-one, no-syntax}
use Rattle.st_parser.proofs.ProgramComplete.{complete}
use Rattle.st_parser.proofs.ProgramSound.{sound}
use Rattle.st_parser.proofs.Paths.{deep-at}
use Rattle.st_parser.proofs.Refusal.{BeginsProgram, RefusedAt, RefusedEnd, refusal}
use Rattle.st_parser.proofs.ExactPlace as exact

-- what the parser reads a text's tokens by
abbrev pub context : List ℕ → Context
context text = record { bytes = bytes_in text; most = most_depth }

pub read-spelled : (text : List ℕ) (end : Spot) (ts : List Token) (p : ProgramTree) → read_program (context text) end ts ≡ Ok p
    → SpellsWithin most_depth p text ts
read-spelled text end ts p r = sound (context text) end ts p r

pub spelled-read : (text : List ℕ) (end : Spot) (ts : List Token) (p : ProgramTree) → SpellsWithin most_depth p text ts
    → read_program (context text) end ts ≡ Ok p
spelled-read text end ts p s = subst (λ us. read_program (context text) end us ≡ Ok p) s.2 (complete (context text) end p s.0 s.1 s.3)

-- a program that is read is the only one that the tokens spell, at whatever depth
pub one-read : (text : List ℕ) (end : Spot) (ts : List Token) (p q : ProgramTree) → Spells p text ts → read_program (context text) end ts ≡ Ok q → q ≡ p
one-read text end ts p q s r =
    let t = read-spelled text end ts q r in
    only-one (bytes_in text) q p t.0 s.0 t.1 s.1 (t.2 ∙ sym s.2)

refused-spelled : (text : List ℕ) (end x : Spot) (ts : List Token) (p : ProgramTree) → Spells p text ts
    → read_program (context text) end ts ≡ Err (fault.Syntax x) → ⊥
refused-spelled text end x ts p s r = no-syntax (bytes_in text) most_depth end p s.0 x s.1 (ap (read_program (context text) end) s.2 ∙ r)

-- the machine never refuses for want of memory
no-memory : (c : Context) (end : Spot) (ts : List Token) → RefusedAt c end ts fault.Memory ⊎ RefusedEnd c end ts fault.Memory → ⊥
no-memory c end ts (inl r) = r.4
no-memory c end ts (inr r) = let f = r.0 in absurd cc

module _ (renamed : (b c : Token → List ℕ) (p : ProgramTree) (ps : List Placed) → SpellsProgram b p ps → (q : ProgramTree) × SpellsProgram c q ps) where
  -- tokens that begin a program do so whatever the bytes of its names
  begins-aside : (text : List ℕ) (ts : List Token) → BeginsProgram (context text) ts → Begins ts
  begins-aside text ts b =
      let r = renamed (bytes_in text) left_aside b.1 b.2 b.3 in
      (b.0, r.0, b.2, r.1, b.4)

  not-begun : (text : List ℕ) (end x : Spot) (us : List Token) (t : Token)
      → ((more : List Token) → read_program (context text) end (us ++ t ∷ more) ≡ Err (fault.Syntax x)) → Begins (us ++ t ∷ []) → ⊥
  not-begun text end x us t h b =
      let r = renamed left_aside (bytes_in text) b.1 b.2 b.3 in
      refused-spelled text end x (us ++ t ∷ b.0) r.0 (b.2, r.1, b.4 ∙ append_assoc us (t ∷ []) b.0) (h b.0)

  aside : (text : List ℕ) (end : Spot) (before : List Token) (t : Token) → exact.IsDeep (context text) end before t → IsTooDeep before t
  aside text end before t d =
      let r = renamed (bytes_in text) left_aside d.program (d.front ++ d.deep ∷ d.more) d.spelled in
      let spelled : SpellsProgram left_aside r.0 (d.front ++ at d.deep.depth d.deep.token ∷ d.more) = r.1 in (
        d.deep.depth,
        (r.0, d.front, d.more, subst (λ (w : Token). SpellsProgram left_aside r.0 (d.front ++ at d.deep.depth w ∷ d.more)) d.is spelled, d.stands),
        d.depth,
      )

  named : (text : List ℕ) (end : Spot) (before : List Token) (t : Token) → IsTooDeep before t → exact.IsDeep (context text) end before t
  named text end before t d =
      let r = renamed left_aside (bytes_in text) d.1.0 (d.1.1 ++ at d.0 t ∷ d.1.2) d.1.3 in
      record { program = r.0; front = d.1.1; deep = at d.0 t; more = d.1.2; spelled = r.1; stands = d.1.4; is = refl; depth = d.2 }

  none-behind : (text : List ℕ) (end : Spot) (us : List Token) (s : State)
      → ((more : List Token) → read_program (context text) end (us ++ more) ≡ run (context text) end more s) → NoneTooDeep us
  none-behind text end us s reach before behind t split d = exact.none-deep (context text) end us s reach before behind t split (named text end before t d)

  syntax-refused : (text : List ℕ) (end x : Spot) (ts : List Token) → read_program (context text) end ts ≡ Err (fault.Syntax x)
      → FirstWrong ts x ⊎ EndsEarly text ts end x
  syntax-refused text end x ts e = elim (refusal (context text) end ts (fault.Syntax x) e) [
    | inl r ↦ inl (r.0, r.1, r.2, r.3, r.4, begins-aside text r.0 r.5, not-begun text end x r.0 r.1 r.6, none-behind text end r.0 r.7.0 r.7.1)
    | inr r ↦ inr (
      (let f = r.0 in let at_end : x ≡ end = cc in at_end),
      begins-aside text ts r.1,
      λ p s. refused-spelled text end x ts p s e,
      none-behind text end ts r.2.0 r.2.1,
    )
  ]

  depth-refused : (text : List ℕ) (end x : Spot) (ts : List Token) → read_program (context text) end ts ≡ Err (fault.Depth x) → FirstTooDeep ts x
  depth-refused text end x ts e =
      let r = deep-at (bytes_in text) most_depth end ts x e in
      let d = exact.is-deep (context text) end r.before r.token x r.state (r.goes_on.0) r.goes_on.1 r.goes_on.2 r.reach r.whatever r.goes_on.3
      (r.goes_on.4 ∙ append_assoc r.before (r.token ∷ []) r.goes_on.0) in
      (r.before, r.token, r.behind, r.split, r.place, aside text end r.before r.token d, none-behind text end r.before r.state r.reach)

  pub refuses : (text : List ℕ) (end : Spot) (ts : List Token) (f : SyntaxFault) → Gives program_tree (Err f) (read_program (context text) end ts)
      → Refuses text ts end f
  refuses text end ts (fault.Syntax x) e = syntax-refused text end x ts e
  refuses text end ts (fault.Depth x) e = depth-refused text end x ts e
  refuses text end ts fault.Memory e = tt

module _ (renamed : (b c : Token → List ℕ) (p : ProgramTree) (ps : List Placed) → SpellsProgram b p ps → (q : ProgramTree) × SpellsProgram c q ps) where
  -- where a program is answered, no token is too deep
  pub shallow-of : (text : List ℕ) (end : Spot) (ts : List Token) (r : Result Program SyntaxFault) → Gives program_tree r (read_program (context text) end ts)
      → IfOk r (λ q. NoneTooDeep ts)
  shallow-of text end ts (Ok q) e = λ before behind t split d.
      exact.not-deep (context text) end ts (λ y h. let both : Ok (program_tree q) ≡ Err (fault.Depth y) = sym e ∙ h in absurd cc) before behind t split
      (named renamed text end before t d)
  shallow-of text end ts (Err f) e = tt

  -- what is spelled within the limit has no token that is too deep, whatever program its tokens begin
  pub within-shallow : (text : List ℕ) (ts : List Token) (p : ProgramTree) → SpellsWithin most_depth p text ts → NoneTooDeep ts
  within-shallow text ts p s =
      let end : Spot = record { line = 0; col = 0 } in
      let e : read_program (context text) end ts ≡ Ok p = spelled-read text end ts p s in
      λ before behind t split d. exact.not-deep (context text) end ts
      (λ y h. let both : Ok p ≡ Err (fault.Depth y) = sym e ∙ h in absurd cc) before behind t split (named renamed text end before t d)

  some-of : (text : List ℕ) (end : Spot) (ts : List Token) (r : Result ProgramTree SyntaxFault) → read_program (context text) end ts ≡ r
      → ((p : ProgramTree) × SpellsWithin most_depth p text ts) ⊎ ((f : SyntaxFault) × (f ≢ fault.Memory) × Refuses text ts end f)
  some-of text end ts (Ok p) e = inl (p, read-spelled text end ts p e)
  some-of text end ts (Err (fault.Syntax x)) e = inr (fault.Syntax x, λ h. absurd cc, syntax-refused renamed text end x ts e)
  some-of text end ts (Err (fault.Depth x)) e = inr (fault.Depth x, λ h. absurd cc, depth-refused renamed text end x ts e)
  some-of text end ts (Err fault.Memory) e = absurd (no-memory (context text) end ts (refusal (context text) end ts fault.Memory e))

  -- tokens spell a program within the limit, or are refused
  pub some : (text : List ℕ) (end : Spot) (ts : List Token)
      → ((p : ProgramTree) × SpellsWithin most_depth p text ts) ⊎ ((f : SyntaxFault) × (f ≢ fault.Memory) × Refuses text ts end f)
  some text end ts = some-of text end ts (read_program (context text) end ts) refl

pub answered : (text : List ℕ) (end : Spot) (ts : List Token) (p : ProgramTree) (r : Result Program SyntaxFault) → SpellsWithin most_depth p text ts
    → Gives program_tree r (read_program (context text) end ts) → IsAnswered r p
answered text end ts p (Ok q) s e =
    let same : Ok p ≡ Ok (program_tree q) = sym (spelled-read text end ts p s) ∙ e in
    cc
answered text end ts p (Err (fault.Syntax x)) s e =
    let same : Ok p ≡ Err (fault.Syntax x) = sym (spelled-read text end ts p s) ∙ e in
    absurd cc
answered text end ts p (Err (fault.Depth x)) s e =
    let same : Ok p ≡ Err (fault.Depth x) = sym (spelled-read text end ts p s) ∙ e in
    absurd cc
answered text end ts p (Err fault.Memory) s e = tt

-- ---- the code's answer

pub spelled-of : (text : List ℕ) (end : Spot) (ts : List Token) (r : Result Program SyntaxFault) → Gives program_tree r (read_program (context text) end ts)
    → IfOk r (λ p. SpellsWithin most_depth (program_tree p) text ts)
spelled-of text end ts (Ok q) e = read-spelled text end ts (program_tree q) e
spelled-of text end ts (Err f) e = tt

pub one-of : (text : List ℕ) (end : Spot) (ts : List Token) (r : Result Program SyntaxFault) → Gives program_tree r (read_program (context text) end ts)
    → (p : ProgramTree) → Spells p text ts → IfOk r (λ q. program_tree q ≡ p)
one-of text end ts (Ok q) e p s = one-read text end ts p (program_tree q) s e
one-of text end ts (Err f) e p s = tt

pub err-of : ((b c : Token → List ℕ) (p : ProgramTree) (ps : List Placed) → SpellsProgram b p ps → (q : ProgramTree) × SpellsProgram c q ps)
    → (text : List ℕ) (end : Spot) (ts : List Token) (r : Result Program SyntaxFault)
    → Gives program_tree r (read_program (context text) end ts) → IfErr r (Refuses text ts end)
err-of renamed text end ts (Ok q) e = tt
err-of renamed text end ts (Err f) e = refuses renamed text end ts f e
