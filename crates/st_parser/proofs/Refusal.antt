-- Refusal: where the machine refuses tokens, those before the place begin a program, and those through it are refused whatever follows.
use Rattle.std.proofs.Common.{◌≡◌, ℕ, List, [], ◌∷◌, ◌++◌, Result, Ok, Err, sym, refl, ap, ◌∙◌, subst, append_assoc, append-nil, ◌⊎◌, inl, inr}
use Rattle.std.proofs.lemmas.List.{map_push, map-append}
use Rattle.vcp_base.specs.declared.spot.Spot.{Spot}
use Rattle.st_lexer.specs.declared.token.Token.{Token}
use Rattle.st_tree.specs.ProgramTree.{ProgramTree}
use Rattle.st_tree.specs.Placed.{Placed, at, tokens_of}
use Rattle.st_tree.specs.Programs.{SpellsProgram}
use Rattle.st_parser.specs.declared.fault.SyntaxFault.{SyntaxFault}
use Rattle.st_parser.specs.declared.fault.SyntaxFault.TheVariants as fault
use Rattle.st_parser.specs.ExprMachine.{Context}
use Rattle.st_parser.specs.StmtMachine.{start, named, reading, closed, loop_begun, loop_named, labelling, finished}
use Rattle.st_parser.specs.ProgramMachine.{State, at_program, at_name, at_block, at_var, at_decl, at_comma, at_next_name, at_type, at_init, in_init, in_body}
use Rattle.st_parser.specs.ProgramMachine.{program_step, finish, onward, run, read_program}
use Rattle.st_parser.proofs.ProgramSound.{Holds, Kept, step-kept}
use Rattle.st_parser.proofs.ProgramEarliest.{begins}
use Rattle.st_parser.proofs.TokenFaults.{AtToken, at-program-step}

-- with further tokens the tokens spell a program
abbrev pub BeginsProgram : Context → List Token → Type 0
BeginsProgram c ts = (more : List Token) × (p : ProgramTree) × (ps : List Placed) × SpellsProgram c.bytes p ps × (tokens_of ps ≡ ts ++ more)

-- The fault is at a token t behind the tokens us. These begin a program, and they and t are refused whatever follows.
abbrev pub RefusedAt : Context → Spot → List Token → SyntaxFault → Type 0
RefusedAt c end ts f =
    (us : List Token) × (t : Token) × (vs : List Token) × (ts ≡ us ++ t ∷ vs) × AtToken {X = State} t (Err f) × BeginsProgram c us
    × ((more : List Token) → read_program c end (us ++ t ∷ more) ≡ Err f)
    × ((s : State) × ((more : List Token) → read_program c end (us ++ more) ≡ run c end more s))

-- the fault is at the end, and the tokens begin a program
abbrev pub RefusedEnd : Context → Spot → List Token → SyntaxFault → Type 0
RefusedEnd c end ts f = (f ≡ fault.Syntax end) × BeginsProgram c ts × ((s : State) × ((more : List Token) → read_program c end (ts ++ more) ≡ run c end more s))

abbrev pub Refused : Context → Spot → List Token → Result ProgramTree SyntaxFault → Type 0
Refused c end ts (Ok p) = Unit {0}
Refused c end ts (Err f) = RefusedAt c end ts f ⊎ RefusedEnd c end ts f

pub begins-program : (c : Context) (s : State) (cs : List Placed) → Holds c s cs → BeginsProgram c (tokens_of cs)
begins-program c s cs h =
    let b = begins c s cs h in
    (tokens_of b.1, b.0, cs ++ b.1, b.2, map-append (λ (p : Placed). p.token) cs b.1)

-- reading any tokens behind cs is reading them from the state s
abbrev Reaches : Context → Spot → List Placed → State → Type 0
Reaches c end cs s = (more : List Token) → read_program c end (tokens_of cs ++ more) ≡ run c end more s

finish-refused : (c : Context) (end : Spot) (s : State) (cs : List Placed) → Holds c s cs → Reaches c end cs s → Refused c end (tokens_of cs) (finish end s)
finish-refused c end at_program cs h reach = inr (refl, begins-program c at_program cs h, (at_program, reach))
finish-refused c end at_name cs h reach = inr (refl, begins-program c at_name cs h, (at_name, reach))
finish-refused c end (at_block f) cs h reach = inr (refl, begins-program c (at_block f) cs h, ((at_block f), reach))
finish-refused c end (at_var f) cs h reach = inr (refl, begins-program c (at_var f) cs h, ((at_var f), reach))
finish-refused c end (at_decl o) cs h reach = inr (refl, begins-program c (at_decl o) cs h, ((at_decl o), reach))
finish-refused c end (at_comma o ds) cs h reach = inr (refl, begins-program c (at_comma o ds) cs h, ((at_comma o ds), reach))
finish-refused c end (at_next_name o ds) cs h reach = inr (refl, begins-program c (at_next_name o ds) cs h, ((at_next_name o ds), reach))
finish-refused c end (at_type o ds) cs h reach = inr (refl, begins-program c (at_type o ds) cs h, ((at_type o ds), reach))
finish-refused c end (at_init o ds ty) cs h reach = inr (refl, begins-program c (at_init o ds ty) cs h, ((at_init o ds ty), reach))
finish-refused c end (in_init o ds ty fs m) cs h reach = inr (refl, begins-program c (in_init o ds ty fs m) cs h, ((in_init o ds ty fs m), reach))
finish-refused c end (in_body f (level ∷ outer) ss p) cs h reach =
    inr (refl, begins-program c (in_body f (level ∷ outer) ss p) cs h, ((in_body f (level ∷ outer) ss p), reach))
finish-refused c end (in_body f [] ss finished) cs h reach = tt
finish-refused c end (in_body f [] ss start) cs h reach = inr (refl, begins-program c (in_body f [] ss start) cs h, ((in_body f [] ss start), reach))
finish-refused c end (in_body f [] ss (named n s)) cs h reach =
    inr (refl, begins-program c (in_body f [] ss (named n s)) cs h, ((in_body f [] ss (named n s)), reach))
finish-refused c end (in_body f [] ss (reading p fs m)) cs h reach =
    inr (refl, begins-program c (in_body f [] ss (reading p fs m)) cs h, ((in_body f [] ss (reading p fs m)), reach))
finish-refused c end (in_body f [] ss closed) cs h reach = inr (refl, begins-program c (in_body f [] ss closed) cs h, ((in_body f [] ss closed), reach))
finish-refused c end (in_body f [] ss (loop_begun s)) cs h reach =
    inr (refl, begins-program c (in_body f [] ss (loop_begun s)) cs h, ((in_body f [] ss (loop_begun s)), reach))
finish-refused c end (in_body f [] ss (loop_named l)) cs h reach =
    inr (refl, begins-program c (in_body f [] ss (loop_named l)) cs h, ((in_body f [] ss (loop_named l)), reach))
finish-refused c end (in_body f [] ss (labelling k ls p)) cs h reach =
    inr (refl, begins-program c (in_body f [] ss (labelling k ls p)) cs h, ((in_body f [] ss (labelling k ls p)), reach))

-- what is read behind one token more
pushed : (cs : List Placed) (k : ℕ) (t : Token) (ts : List Token) → tokens_of (cs ++ at k t ∷ []) ++ ts ≡ tokens_of cs ++ t ∷ ts
pushed cs k t ts = ap (λ (x : List Token). x ++ ts) (map_push (λ (p : Placed). p.token) cs (at k t)) ∙ append_assoc (tokens_of cs) (t ∷ []) ts

onward-refused : (c : Context) (end : Spot) (t : Token) (ts all : List Token) (s : State) (cs : List Placed) (r : Result State SyntaxFault)
    → ((next : State) (ds : List Placed) → Holds c next ds → Reaches c end ds next → tokens_of ds ++ ts ≡ all → Refused c end all (run c end ts next))
    → Holds c s cs → Kept c t cs r → AtToken t r → program_step c s t ≡ r → Reaches c end cs s → tokens_of cs ++ t ∷ ts ≡ all
    → Refused c end all (onward r (run c end ts))
onward-refused c end t ts all s cs (Ok next) go h k place is reach e =
    go next (cs ++ at k.0 t ∷ []) k.2
    (λ more. ap (read_program c end) (pushed cs k.0 t more) ∙ reach (t ∷ more) ∙ ap (λ (x : Result State SyntaxFault). onward x (run c end more)) is)
    (pushed cs k.0 t ts ∙ e)
onward-refused c end t ts all s cs (Err f) go h k place is reach e =
    inl (
      tokens_of cs,
      t,
      ts,
      sym e,
      place,
      begins-program c s cs h,
      λ more. reach (t ∷ more)
          ∙ ap (λ (x : Result State SyntaxFault). onward x (run c end more)) is,
      (s, reach),
    )

run-refused : (c : Context) (end : Spot) (ts all : List Token) (s : State) (cs : List Placed) → Holds c s cs → Reaches c end cs s → tokens_of cs ++ ts ≡ all
    → Refused c end all (run c end ts s)
run-refused c end [] all s cs h reach e =
    subst (λ (x : List Token). Refused c end x (finish end s)) (sym (append-nil (tokens_of cs)) ∙ e) (finish-refused c end s cs h reach)
run-refused c end (t ∷ ts) all s cs h reach e =
    onward-refused c end t ts all s cs (program_step c s t) (run-refused c end ts all) h (step-kept c t s cs h) (at-program-step c s t) refl reach e

-- where the refusal stands
pub refusal : (c : Context) (end : Spot) (ts : List Token) (f : SyntaxFault) → read_program c end ts ≡ Err f → RefusedAt c end ts f ⊎ RefusedEnd c end ts f
refusal c end ts f e = subst (Refused c end ts) e (run-refused c end ts ts at_program [] refl (λ more. refl) refl)
