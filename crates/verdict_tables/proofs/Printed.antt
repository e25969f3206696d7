-- Printed: the lines that are read as verdicts are those that are printed of them.
use Rattle.std.proofs.Common.{◌≡◌, ℕ, ◌+◌, Bool, true, false, cond, List, [], ◌∷◌, ◌++◌, flat_map, bytes_eq, decimal, Option, Some, None, Result, Ok, Err, refl, sym, ap, ◌∙◌, append_assoc}
use Rattle.std.proofs.lemmas.List.{append-nil}
use Rattle.std.proofs.lemmas.Slice.Eq.{bytes_eq-Decides}
use Rattle.std.specs.Str.Lines.{lines}
use Rattle.op_graph.specs.Lists.{Lists}
use Rattle.vcp_base.specs.Words.{words}
use Rattle.fault_script.specs.declared.act.Fault.{Fault}
use Rattle.fault_script.specs.Groups.{line_of}
use Rattle.fault_injector.specs.declared.verdicts.Verdict.{Verdict}
use Rattle.fault_injector.specs.declared.lines.Totals.{Totals}
use Rattle.fault_injector.specs.FaultLines.{verdict_text, verdict_lines, campaign_text, counted, no_verdicts, totals_after, totals_text}
use Rattle.verdict_tables.specs.declared.fault.VerdictsFault.{VerdictsFault}
use Rattle.verdict_tables.specs.declared.fault.VerdictsFault.TheVariants as fault
use Rattle.verdict_tables.specs.Outcome.{meant}
use Rattle.verdict_tables.specs.Reading.{is_line, ended, confirmed, verdict_or, verdict_by, verdict_on, followed, behind_totals, behind, goes_on, verdicts_from, verdicts_in}

-- a line is what is printed
same_line : (line text : List ℕ) (b : Bool) → is_line line text ≡ b → b ≡ true → ended line ≡ text
same_line line text b is holds = (bytes_eq-Decides (ended line) text).0 (is ∙ holds)

-- ---- one line

of_meant : (g : Lists) (at number : ℕ) (line : List ℕ) (o : Option Verdict) (v : Verdict) → verdict_or number (confirmed g at line o) ≡ Ok v
    → ended line ≡ verdict_text g at v
of_meant g at number line None v e = absurd cc
of_meant g at number line (Some w) v e = of_tested g at number line w v (is_line line (verdict_text g at w)) refl e
  where
    of_tested : (g : Lists) (at number : ℕ) (line : List ℕ) (w v : Verdict) (b : Bool) → is_line line (verdict_text g at w) ≡ b
        → verdict_or number (cond b (Some w) None) ≡ Ok v → ended line ≡ verdict_text g at v
    of_tested g at number line w v true is e =
        let same : w ≡ v = cc in
        same_line line (verdict_text g at w) true is refl ∙ ap (verdict_text g at) same
    of_tested g at number line w v false is e = absurd cc

of_first : (g : Lists) (at number : ℕ) (line : List ℕ) (o : Option Verdict) (b : Bool) (why : VerdictsFault) (v : Verdict)
    → cond b (verdict_or number (confirmed g at line o)) (Err why) ≡ Ok v → ended line ≡ verdict_text g at v
of_first g at number line o true why v e = of_meant g at number line o v e
of_first g at number line o false why v e = absurd cc

of_words : (g : Lists) (at number : ℕ) (line : List ℕ) (ws : List (List ℕ)) (v : Verdict) → verdict_by g at number line ws ≡ Ok v
    → ended line ≡ verdict_text g at v
of_words g at number line [] v e = absurd cc
of_words g at number line (w ∷ more) v e = of_first g at number line (meant g more) (bytes_eq w (decimal at)) _ v e

-- ---- all lines

of_totals : (t : Totals) (number : ℕ) (line : List ℕ) (more : List (List ℕ)) (b : Bool) (why : VerdictsFault) (vs : List Verdict)
    → is_line line (totals_text t) ≡ b → cond b (behind_totals (number + 1) more) (Err why) ≡ Ok vs
    → (vs ≡ []) × (flat_map ended (line ∷ more) ≡ totals_text t)
of_totals t number line more false why vs is e = absurd cc
of_totals t number line (other ∷ more) true why vs is e = absurd cc
of_totals t number line [] true why vs is e =
    let none : vs ≡ [] = cc in
    (none, append-nil (ended line) ∙ same_line line (totals_text t) true is refl)

of_behind : (v : Verdict) (r : Result (List Verdict) VerdictsFault) (vs : List Verdict) → behind (v ∷ []) r ≡ Ok vs
    → (more : List Verdict) × (r ≡ Ok more) × (vs ≡ v ∷ more)
of_behind v (Ok more) vs e = let all : vs ≡ v ∷ more = cc in (more, refl, all)
of_behind v (Err why) vs e = absurd cc

-- what later lines tell is what is printed of it
abbrev Later : Lists → List (List Fault) → Type 0
Later g groups =
    (t : Totals) (number : ℕ) (ls : List (List ℕ)) (vs : List Verdict) → verdicts_from g t number groups ls ≡ Ok vs
    → flat_map ended ls ≡ verdict_lines g groups vs ++ totals_text (totals_after t vs)

of_next : (g : Lists) (faults : List Fault) (groups : List (List Fault)) → Later g groups → (t : Totals) (number : ℕ) (line : List ℕ) (more : List (List ℕ))
    (vs : List Verdict) (r : Result Verdict VerdictsFault) → verdict_on g (line_of faults) number line ≡ r
    → goes_on (λ next. behind (next.verdict ∷ []) (verdicts_from g (counted t next.verdict) (number + 1) groups next.more)) (followed more r) ≡ Ok vs
    → flat_map ended (line ∷ more) ≡ verdict_lines g (faults ∷ groups) vs ++ totals_text (totals_after t vs)
of_next g faults groups later t number line more vs (Err why) is e = absurd cc
of_next g faults groups later t number line more vs (Ok v) is e =
    let (ws, read, all) = of_behind v (verdicts_from g (counted t v) (number + 1) groups more) vs e in
    let first = of_words g (line_of faults) number line (words line) v is in
    let others = later (counted t v) (number + 1) more ws read in
    ap (λ l. l ++ flat_map ended more) first ∙ ap (λ l. verdict_text g (line_of faults) v ++ l) others
    ∙ sym (append_assoc (verdict_text g (line_of faults) v) (verdict_lines g groups ws) (totals_text (totals_after (counted t v) ws)))
    ∙ ap (λ (us : List Verdict). verdict_lines g (faults ∷ groups) us ++ totals_text (totals_after t us)) (sym all)

printed_from : (g : Lists) (groups : List (List Fault)) → Later g groups
printed_from g [] t number [] vs e = absurd cc
printed_from g [] t number (line ∷ more) vs e =
    let r = of_totals t number line more (is_line line (totals_text t)) (fault.Totals number) vs refl e in
    r.1 ∙ ap (λ (ws : List Verdict). verdict_lines g [] ws ++ totals_text (totals_after t ws)) (sym r.0)
printed_from g (faults ∷ groups) t number [] vs e = absurd cc
printed_from g (faults ∷ groups) t number (line ∷ more) vs e =
    of_next g faults groups (printed_from g groups) t number line more vs (verdict_on g (line_of faults) number line) refl e

pub printed : (g : Lists) (groups : List (List Fault)) (text : List ℕ) (vs : List Verdict) → verdicts_in g groups text ≡ Ok vs
    → flat_map ended (lines text) ≡ campaign_text g groups vs
printed g groups text vs e = printed_from g groups no_verdicts 1 (lines text) vs e
