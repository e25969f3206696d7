-- LinesRead: the verdicts of a text, read line by line.
use Rattle.std.proofs.Common.{◌≡◌, ◌≢◌, ℕ, ◌+◌, ◌==◌, Bool, true, false, cond, List, [], ◌∷◌, ◌++◌, length, drop, bytes_eq, codes, decimal, slice_get, Some, Result, Ok, Err, IfOk, IfErr, OnOk, refl, sym, ap, ◌∙◌, arith}
use Rattle.std.specs.Str.Lines.{lines}
use Rattle.std.specs.Bool.{Decides}
use Rattle.std.proofs.lemmas.Bool.{eqb-true}
use Rattle.std.proofs.lemmas.Bool.Decides.{same_from_decides}
use Rattle.std.proofs.lemmas.Slice.Eq.{bytes_eq-Decides}
use Rattle.std.proofs.lemmas.List.{append_assoc, append-nil, drop_all, append_cancel_right, drop_more, nil_from_length}
use Rattle.std.proofs.lemmas.Option.{get_or_from_slice_get, slice_get_within}
use Rattle.op_graph.specs.Lists.{Lists}
use Rattle.fault_script.specs.declared.act.Fault.{Fault}
use Rattle.fault_script.specs.Groups.{line_of}
use Rattle.fault_injector.specs.declared.verdicts.Verdict.{Verdict}
use Rattle.fault_injector.specs.declared.lines.Totals.{Totals}
use Rattle.fault_injector.specs.FaultLines.{counted, no_verdicts, totals_text}
use Rattle.verdict_tables.specs.declared.fault.VerdictsFault.{VerdictsFault}
use Rattle.verdict_tables.specs.declared.fault.VerdictsFault.TheVariants as fault
use Rattle.verdict_tables.specs.Outcome.{meant}
use Rattle.verdict_tables.specs.Reading.{ended, is_line, confirmed, verdict_or, verdict_by, verdict_on, Next, followed, next_of, behind_totals, totals_then, behind, goes_on, verdicts_from, verdicts_in}

-- a list from the place of an element on
pub drop_here : {X : Type 0} (xs : List X) (i : ℕ) (x : X) → slice_get xs i ≡ Some x → drop i xs ≡ x ∷ drop (i + 1) xs
drop_here xs i x at =
    drop_more xs i x (slice_get_within xs i x at) ∙ ap (λ y. y ∷ drop (i + 1) xs) (get_or_from_slice_get xs i x x at)

-- ---- one line

-- no line is left
pub no_line : (rest : List ℕ) (b : Bool) → b ≡ (length rest == 0) → b ≡ true → lines rest ≡ []
no_line rest b is holds = ap lines (nil_from_length rest (eqb-true (length rest) 0 (sym is ∙ holds)))

-- a line is what a text has before its LF, or the text has none
pub is_front : (line front text : List ℕ) → text ≡ front ++ codes "\n" → bytes_eq line front ≡ is_line line text
is_front line front text is =
    let whole = bytes_eq-Decides (ended line) text in
    let same : Decides (is_line line text) (line ≡ front) =
    (λ t. append_cancel_right line front (codes "\n") (whole.0 t ∙ is), λ e. whole.1 (ap ended e ∙ sym is)) in
    same_from_decides _ _ (bytes_eq-Decides line front) same

never : (b : Bool) → b ≢ true → false ≡ b
never true unlike = absurd (unlike refl)
never false unlike = refl

pub no_front : (line text : List ℕ) → ((front : List ℕ) → text ≢ front ++ codes "\n") → false ≡ is_line line text
no_front line text none = never (is_line line text) (λ t. none line (sym ((bytes_eq-Decides (ended line) text).0 t)))

-- a line has no words
pub wordless : (g : Lists) (at number : ℕ) (line : List ℕ) (ws : List (List ℕ)) → ws ≡ [] → verdict_by g at number line ws ≡ Err (fault.Group number)
wordless g at number line ws none = ap (verdict_by g at number line) none

-- whether a word is a number
pub is_number : (word text digits : List ℕ) (n : ℕ) (b : Bool) → b ≡ bytes_eq word text → text ≡ digits → digits ≡ decimal n → b ≡ bytes_eq word (decimal n)
is_number word text digits n b same is told = same ∙ ap (bytes_eq word) (is ∙ told)

-- a line begins with another word than a number, or with it
by_first : (g : Lists) (at number : ℕ) (line : List ℕ) (ws : List (List ℕ)) (w : List ℕ) (more : List (List ℕ)) (b : Bool) → ws ≡ w ∷ more
    → bytes_eq w (decimal at) ≡ b
    → verdict_by g at number line ws ≡ cond b (verdict_or number (confirmed g at line (meant g more))) (Err (fault.Group number))
by_first g at number line ws w more b is first =
    ap (verdict_by g at number line) is
    ∙ ap (λ (c : Bool). cond c (verdict_or number (confirmed g at line (meant g more))) (Err (fault.Group number))) first

pub other_first : (g : Lists) (at number : ℕ) (line : List ℕ) (ws : List (List ℕ)) (w : List ℕ) (more : List (List ℕ)) (b : Bool) → ws ≡ w ∷ more
    → b ≡ bytes_eq w (decimal at) → b ≡ false → verdict_by g at number line ws ≡ Err (fault.Group number)
other_first g at number line ws w more b is first unlike = by_first g at number line ws w more false is (sym first ∙ unlike)

module _ (g : Lists) (at number : ℕ) (line : List ℕ) (ws : List (List ℕ)) (w : List ℕ) (more : List (List ℕ)) (b : Bool) (is : ws ≡ w ∷ more)
    (first : b ≡ bytes_eq w (decimal at)) (alike : b ≡ true) where
  same_first : verdict_by g at number line ws ≡ verdict_or number (confirmed g at line (meant g more))
  same_first = by_first g at number line ws w more true is (sym first ∙ alike)

  pub verdict_ok : (r : Result Verdict VerdictsFault) → IfOk r (λ v. verdict_or number (confirmed g at line (meant g more)) ≡ Ok v)
      → IfOk r (λ v. verdict_by g at number line ws ≡ Ok v)
  verdict_ok (Ok v) told = same_first ∙ told
  verdict_ok (Err why) told = tt

  pub verdict_err : (r : Result Verdict VerdictsFault)
      → IfErr r (λ f. f ≢ fault.Memory → verdict_or number (confirmed g at line (meant g more)) ≡ Err f)
      → IfErr r (λ f. f ≢ fault.Memory → verdict_by g at number line ws ≡ Err f)
  verdict_err (Ok v) told = tt
  verdict_err (Err why) told = λ other. same_first ∙ told other

-- the next line
pub next_is : (g : Lists) (at number : ℕ) (ls : List (List ℕ)) (line : List ℕ) (more : List (List ℕ)) (r : Result Verdict VerdictsFault)
    → ls ≡ line ∷ more → verdict_on g at number line ≡ r → next_of g at number ls ≡ followed more r
next_is g at number ls line more r is told = ap (next_of g at number) is ∙ ap (followed more) told

pub next_lacks : (g : Lists) (at number : ℕ) (ls : List (List ℕ)) → ls ≡ [] → next_of g at number ls ≡ Err (fault.End number)
next_lacks g at number ls none = ap (next_of g at number) none

-- what stands behind the totals
pub nothing_behind : (number : ℕ) (ls : List (List ℕ)) → ls ≡ [] → behind_totals number ls ≡ Ok []
nothing_behind number ls none = ap (behind_totals number) none

pub more_behind : (number : ℕ) (ls : List (List ℕ)) (line : List ℕ) (more : List (List ℕ)) → ls ≡ line ∷ more
    → behind_totals number ls ≡ Err (fault.Rest number)
more_behind number ls line more is = ap (behind_totals number) is

-- the line of the totals
pub totals_lack : (t : Totals) (number : ℕ) (ls : List (List ℕ)) → ls ≡ [] → totals_then t number ls ≡ Err (fault.End number)
totals_lack t number ls none = ap (totals_then t number) none

totals_by : (t : Totals) (number : ℕ) (ls : List (List ℕ)) (line : List ℕ) (more : List (List ℕ)) (b : Bool) → ls ≡ line ∷ more
    → is_line line (totals_text t) ≡ b → totals_then t number ls ≡ cond b (behind_totals (number + 1) more) (Err (fault.Totals number))
totals_by t number ls line more b is same =
    ap (totals_then t number) is ∙ ap (λ (c : Bool). cond c (behind_totals (number + 1) more) (Err (fault.Totals number))) same

pub other_totals : (t : Totals) (number : ℕ) (ls : List (List ℕ)) (line : List ℕ) (more : List (List ℕ)) → ls ≡ line ∷ more
    → false ≡ is_line line (totals_text t) → totals_then t number ls ≡ Err (fault.Totals number)
other_totals t number ls line more is unlike = totals_by t number ls line more false is (sym unlike)

pub totals_ok : (t : Totals) (number : ℕ) (ls : List (List ℕ)) (line : List ℕ) (more : List (List ℕ)) → ls ≡ line ∷ more
    → true ≡ is_line line (totals_text t) → (r : Result (Unit {0}) VerdictsFault) → OnOk r (behind_totals (number + 1) more ≡ Ok [])
    → OnOk r (totals_then t number ls ≡ Ok [])
totals_ok t number ls line more is alike (Ok done) e = totals_by t number ls line more true is (sym alike) ∙ e
totals_ok t number ls line more is alike (Err why) e = tt

pub totals_err : (t : Totals) (number : ℕ) (ls : List (List ℕ)) (line : List ℕ) (more : List (List ℕ)) → ls ≡ line ∷ more
    → true ≡ is_line line (totals_text t) → (r : Result (Unit {0}) VerdictsFault) → IfErr r (λ f. behind_totals (number + 1) more ≡ Err f)
    → IfErr r (λ f. f ≢ fault.Memory → totals_then t number ls ≡ Err f)
totals_err t number ls line more is alike (Ok done) e = tt
totals_err t number ls line more is alike (Err why) e = λ other. totals_by t number ls line more true is (sym alike) ∙ e

-- ---- all lines

-- before the first line
behind_none : (r : Result (List Verdict) VerdictsFault) → r ≡ behind [] r
behind_none (Ok more) = refl
behind_none (Err why) = refl

pub begun : (g : Lists) (groups : List (List Fault)) (text : List ℕ) (vs : List Verdict) (t : Totals) → vs ≡ [] → t ≡ no_verdicts
    → verdicts_in g groups text ≡ behind vs (verdicts_from g t 1 groups (lines text))
begun g groups text vs t none zero = rw (none, zero) (behind_none (verdicts_in g groups text))

-- verdicts, and one more before later ones
behind_both : (vs : List Verdict) (v : Verdict) (r : Result (List Verdict) VerdictsFault) → behind vs (behind (v ∷ []) r) ≡ behind (vs ++ v ∷ []) r
behind_both vs v (Ok more) = ap (λ (x : List Verdict). Ok x) (sym (append_assoc vs (v ∷ []) more))
behind_both vs v (Err why) = refl

module _ (g : Lists) (groups : List (List Fault)) (whole : Result (List Verdict) VerdictsFault) (vs : List Verdict) (t : Totals) (i : ℕ) (ls : List (List ℕ))
    (left : whole ≡ behind vs (verdicts_from g t (i + 1) (drop i groups) ls)) where
  -- of the next group
  here : (faults : List Fault) → slice_get groups i ≡ Some faults → (n : Result Next VerdictsFault) → next_of g (line_of faults) (i + 1) ls ≡ n
      → whole
      ≡ behind vs
      (goes_on (λ next. behind (next.verdict ∷ []) (verdicts_from g (counted t next.verdict) (i + 1 + 1) (drop (i + 1) groups) next.more)) n)
  here faults there n next =
      left ∙ ap (λ (gs : List (List Fault)). behind vs (verdicts_from g t (i + 1) gs ls)) (drop_here groups i faults there)
      ∙ ap
      (λ (r : Result Next VerdictsFault). behind vs (goes_on (λ next. behind (next.verdict ∷ [])
      (verdicts_from g (counted t next.verdict) (i + 1 + 1) (drop (i + 1) groups) next.more)) r))
      next

  -- its verdict is read
  pub one_read : (faults : List Fault) → slice_get groups i ≡ Some faults → (v : Verdict) (more : List (List ℕ))
      → next_of g (line_of faults) (i + 1) ls ≡ Ok (record { verdict = v; more = more })
      → whole ≡ behind (vs ++ v ∷ []) (verdicts_from g (counted t v) (i + 1 + 1) (drop (i + 1) groups) more)
  one_read faults there v more next =
      here faults there (Ok (record { verdict = v; more = more })) next
      ∙ behind_both vs v (verdicts_from g (counted t v) (i + 1 + 1) (drop (i + 1) groups) more)

  -- its line is refused
  pub one_refused : (faults : List Fault) → slice_get groups i ≡ Some faults → (why : VerdictsFault) → next_of g (line_of faults) (i + 1) ls ≡ Err why
      → whole ≡ Err why
  one_refused faults there why next = here faults there (Err why) next

  -- no group is left
  at_end : i ≡ length groups → (number : ℕ) → number ≡ i + 1 → (r : Result (List Verdict) VerdictsFault) → totals_then t number ls ≡ r → whole ≡ behind vs r
  at_end all number is r ends =
      left ∙ ap (λ (gs : List (List Fault)). behind vs (verdicts_from g t (i + 1) gs ls)) (drop_all i groups (omega (arith, all)))
      ∙ ap (λ (n : ℕ). behind vs (totals_then t n ls)) (sym is) ∙ ap (behind vs) ends

  pub all_read : i ≡ length groups → (number : ℕ) → number ≡ i + 1 → totals_then t number ls ≡ Ok [] → whole ≡ Ok vs
  all_read all number is ends = at_end all number is (Ok []) ends ∙ ap (λ (x : List Verdict). Ok x) (append-nil vs)

  pub end_refused : i ≡ length groups → (number : ℕ) → number ≡ i + 1 → (why : VerdictsFault) → totals_then t number ls ≡ Err why → whole ≡ Err why
  end_refused all number is why ends = at_end all number is (Err why) ends
