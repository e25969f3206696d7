-- Paths: the states between the tokens that are taken, and the token at which they end.
use Rattle.std.proofs.Common.{◌≡◌, ℕ, ◌≤◌, List, [], ◌∷◌, ◌++◌, Result, Ok, Err, refl, sym, ap, ◌∙◌, subst, append_assoc, append-nil}
use Rattle.std.proofs.lemmas.List.{map_push}
use Rattle.vcp_base.specs.declared.spot.Spot.{Spot}
use Rattle.st_lexer.specs.declared.token.Token.{Token}
use Rattle.st_tree.specs.ProgramTree.{ProgramTree}
use Rattle.st_tree.specs.Placed.{Placed, at, tokens_of}
use Rattle.st_parser.specs.declared.fault.SyntaxFault.{SyntaxFault}
use Rattle.st_parser.specs.declared.fault.SyntaxFault.TheVariants as fault
use Rattle.st_parser.specs.ExprMachine.{Context}
use Rattle.st_parser.specs.StmtMachine.{finished}
use Rattle.st_parser.specs.ProgramMachine.{State, at_program, in_body, program_step, finish, onward, run, read_program}
use Rattle.st_parser.proofs.Deeper.{Agrees, program-agrees}
use Rattle.st_parser.proofs.Lifts.{Raised, lifts-program}
use Rattle.st_parser.proofs.ProgramSound.{Holds, Kept, step-kept}
use Rattle.st_parser.proofs.Refusal.{BeginsProgram, begins-program}
use Rattle.st_parser.proofs.TokenFaults.{AtToken, at-program-step}

-- the tokens are taken from the first state on, and lead to the last
abbrev pub Path : Context → State → List Token → State → Type 0
Path c s [] r = s ≡ r
Path c s (t ∷ ts) r = (next : State) × (program_step c s t ≡ Ok next) × Path c next ts r

path-run : (c : Context) (end : Spot) (s r : State) (us more : List Token) → Path c s us r → run c end (us ++ more) s ≡ run c end more r
path-run c end s r [] more p = ap (run c end more) p
path-run c end s r (u ∷ us) more p = ap (λ (x : Result State SyntaxFault). onward x (run c end (us ++ more))) p.1 ∙ path-run c end p.0 r us more p.2

-- ---- where a run is refused

-- a path, and a token at its end that is refused so
abbrev pub Stopped : Context → List Token → State → SyntaxFault → Type 0
Stopped c ts s f =
    (us : List Token) × (t : Token) × (vs : List Token) × (r : State) × (ts ≡ us ++ t ∷ vs) × Path c s us r × (program_step c r t ≡ Err f)

abbrev Outcome : Context → List Token → State → Result ProgramTree SyntaxFault → Type 0
Outcome c ts s (Ok p) = Unit {0}
Outcome c ts s (Err (fault.Syntax x)) = Unit {0}
Outcome c ts s (Err (fault.Depth x)) = Stopped c ts s (fault.Depth x)
Outcome c ts s (Err fault.Memory) = Unit {0}

finish-outcome : (c : Context) (end : Spot) (s : State) (x : Result ProgramTree SyntaxFault) → finish end s ≡ x → Outcome c [] s x
finish-outcome c end s (Ok p) e = tt
finish-outcome c end s (Err (fault.Syntax x)) e = tt
finish-outcome c end s (Err (fault.Depth x)) e = absurd (no-depth s e)
  where
    no-depth : (s : State) → finish end s ≡ Err (fault.Depth x) → ⊥
    no-depth (in_body f [] ss finished) e = absurd cc
    no-depth _ e = absurd cc
finish-outcome c end s (Err fault.Memory) e = tt

later : (c : Context) (t : Token) (ts : List Token) (s next : State) (x : Result ProgramTree SyntaxFault) → program_step c s t ≡ Ok next → Outcome c ts next x
    → Outcome c (t ∷ ts) s x
later c t ts s next (Ok p) e h = tt
later c t ts s next (Err (fault.Syntax x)) e h = tt
later c t ts s next (Err (fault.Depth x)) e h = (t ∷ h.0, h.1, h.2, h.3, ap (λ (us : List Token). t ∷ us) h.4, (next, e, h.5), h.6)
later c t ts s next (Err fault.Memory) e h = tt

outcome-by : (c : Context) (end : Spot) (t : Token) (ts : List Token) (s : State) (r : Result State SyntaxFault)
    → ((next : State) → Outcome c ts next (run c end ts next)) → program_step c s t ≡ r → Outcome c (t ∷ ts) s (onward r (run c end ts))
outcome-by c end t ts s (Ok next) rest e = later c t ts s next (run c end ts next) e (rest next)
outcome-by c end t ts s (Err (fault.Syntax x)) rest e = tt
outcome-by c end t ts s (Err (fault.Depth x)) rest e = ([], t, ts, s, refl, refl, e)
outcome-by c end t ts s (Err fault.Memory) rest e = tt

outcome : (c : Context) (end : Spot) (ts : List Token) (s : State) → Outcome c ts s (run c end ts s)
outcome c end [] s = finish-outcome c end s (finish end s) refl
outcome c end (t ∷ ts) s = outcome-by c end t ts s (program_step c s t) (outcome c end ts) refl

-- ---- a path with a higher limit, and what it has read

module _ (bytes : Token → List ℕ) (m n : ℕ) (le : m ≤ n) where
  abbrev lower : Context
  lower = record { bytes = bytes; most = m }

  abbrev higher : Context
  higher = record { bytes = bytes; most = n }

  step-higher : (s next : State) (t : Token) → program_step lower s t ≡ Ok next → program_step higher s t ≡ Ok next
  step-higher s next t e = subst (λ (x : Result State SyntaxFault). Agrees x (program_step higher s t)) e (program-agrees bytes m n le s t)

  path-higher : (s r : State) (us : List Token) → Path lower s us r → Path higher s us r
  path-higher s r [] p = p
  path-higher s r (u ∷ us) p = (p.0, step-higher s p.0 u p.1, path-higher p.0 r us p.2)

kept : (c : Context) (t : Token) (cs : List Placed) (s next : State) → Holds c s cs → program_step c s t ≡ Ok next → (k : ℕ) × Holds c next (cs ++ at k t ∷ [])
kept c t cs s next h e = let r = subst (Kept c t cs) e (step-kept c t s cs h) in (r.0, r.2)

pushed : (cs : List Placed) (k : ℕ) (t : Token) (ts : List Token) → tokens_of (cs ++ at k t ∷ []) ++ ts ≡ tokens_of cs ++ t ∷ ts
pushed cs k t ts = ap (λ (x : List Token). x ++ ts) (map_push (λ (p : Placed). p.token) cs (at k t)) ∙ append_assoc (tokens_of cs) (t ∷ []) ts

path-holds : (c : Context) (s r : State) (us : List Token) (cs : List Placed) → Holds c s cs → Path c s us r
    → (ds : List Placed) × Holds c r ds × (tokens_of ds ≡ tokens_of cs ++ us)
path-holds c s r [] cs h p = (cs, subst (λ x. Holds c x cs) p h, sym (append-nil (tokens_of cs)))
path-holds c s r (u ∷ us) cs h p =
    let k = kept c u cs s p.0 h p.1 in
    let q = path-holds c p.0 r us (cs ++ at k.0 u ∷ []) k.1 p.2 in
    (q.0, q.1, q.2 ∙ pushed cs k.0 u us)

path-begins : (c : Context) (r : State) (us : List Token) → Path c at_program us r → BeginsProgram c us
path-begins c r us p =
    let q = path-holds c at_program r us [] refl p in
    subst (BeginsProgram c) q.2 (begins-program c r q.0 q.1)

path-push : (c : Context) (s r next : State) (us : List Token) (t : Token) → Path c s us r → program_step c r t ≡ Ok next → Path c s (us ++ t ∷ []) next
path-push c s r next [] t p e = (next, subst (λ x. program_step c x t ≡ Ok next) (sym p) e, refl)
path-push c s r next (u ∷ us) t p e = (p.0, p.1, path-push c p.0 r next us t p.2 e)

-- ---- a token that is too deep

-- The fault is at a token t behind the tokens us. These begin a program, and so they do with t; they and t are refused,
-- whatever follows.
pub record DeepAt (bytes : Token → List ℕ) (m : ℕ) (end : Spot) (ts : List Token) (x : Spot) : Type 0 where
  pub before : List Token
  pub token : Token
  pub behind : List Token
  pub split : ts ≡ before ++ token ∷ behind
  pub place : x ≡ token.spot
  pub begins : BeginsProgram (record { bytes = bytes; most = m }) before
  pub limit : ℕ
  pub goes_on : BeginsProgram (record { bytes = bytes; most = limit }) (before ++ token ∷ [])
  pub whatever : (more : List Token) → read_program (record { bytes = bytes; most = m }) end (before ++ token ∷ more) ≡ Err (fault.Depth x)
  pub state : State
  pub reach : (more : List Token)
      → run (record { bytes = bytes; most = m }) end (before ++ more) at_program ≡ run (record { bytes = bytes; most = m }) end more state

pub deep-at : (bytes : Token → List ℕ) (m : ℕ) (end : Spot) (ts : List Token) (x : Spot)
    → read_program (record { bytes = bytes; most = m }) end ts ≡ Err (fault.Depth x) → DeepAt bytes m end ts x
deep-at bytes m end ts x e =
    let c : Context = record { bytes = bytes; most = m } in
    let h = subst (Outcome c ts at_program) e (outcome c end ts at_program) in
    let raised = subst (λ r. Raised (λ n. program_step (record { bytes = bytes; most = n }) h.3 h.1) m r) h.6 (lifts-program bytes m h.3 h.1) in
    record {
      before = h.0;
      token = h.1;
      behind = h.2;
      split = h.4;
      place = subst (AtToken {X = State} h.1) h.6 (at-program-step c h.3 h.1);
      begins = path-begins c h.3 h.0 h.5;
      limit = raised.0;
      goes_on =
          path-begins (record { bytes = bytes; most = raised.0 }) raised.2.0 (h.0 ++ h.1 ∷ [])
          (path-push (record { bytes = bytes; most = raised.0 }) at_program h.3 raised.2.0 h.0 h.1
          (path-higher bytes m raised.0 raised.1 at_program h.3 h.0 h.5) raised.2.1);
      whatever = λ more. path-run c end at_program h.3 h.0 (h.1 ∷ more) h.5 ∙ ap (λ (r : Result State SyntaxFault). onward r (run c end more)) h.6;
      state = h.3;
      reach = λ more. path-run c end at_program h.3 h.0 more h.5;
    }
