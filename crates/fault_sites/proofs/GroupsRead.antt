-- GroupsRead: a script of groups is read back as these groups.
use Rattle.std.proofs.Common.{◌≡◌, ℕ, suc, ◌+◌, ◌^◌, ◌<◌, ◌≤◌, ◌==◌, ◌&&◌, ◌||◌, Bool, false, cond, List, [], ◌∷◌, ◌++◌, length, All, Option, Some, None, Ok, Err, codes, refl, ap, ◌∙◌, arith, append_assoc, append-nil}
use Rattle.std.specs.Str.Lines.{lines}
use Rattle.std.proofs.lemmas.Bool.Decides.{nat_tests}
use Rattle.std.proofs.lemmas.List.Elements.{All-nil, All-cons, All-head, All-tail, All-append}
use Rattle.op_graph.specs.Lists.{Lists}
use Rattle.vcp_base.specs.Lines.{read_lines}
use Rattle.fault_script.specs.declared.act.Fault.{Fault}
use Rattle.fault_script.specs.declared.reading.Opened.{Opened}
use Rattle.fault_script.specs.declared.script_fault.ScriptFault.TheVariants as refusal
use Rattle.fault_script.specs.Fits.{Fits}
use Rattle.fault_script.specs.Groups.{same_place, is_taken}
use Rattle.fault_script.specs.ScriptOf.{Item, most_faults, items_of, groups_of, ended, onto, script_of}
use Rattle.fault_sites.specs.declared.site.Site.{Site}
use Rattle.fault_sites.specs.Rests.{faults_from, group_text, groups_text, lines_of, rest_text, said_groups}
use Rattle.fault_sites.specs.Sites.{as_fault}
use Rattle.fault_sites.specs.SiteText.{site_lines, site_text}
use Rattle.fault_sites.proofs.GroupsFit.{AllFit, Ascends, IsGroup, stand}
use Rattle.fault_sites.proofs.ReadBack.{Groups, line_back, line_first, remark_back}

-- what a text comes to from a line on, behind so many fault lines and an open group
abbrev Comes : Lists → ℕ → ℕ → List ℕ → Option Opened → Groups
Comes g number before text o = groups_of (items_of g before (read_lines number (lines text))) o

abbrev open_at : ℕ → List Fault → Option Opened
open_at line group = Some (record { line = line; group = group })

-- ---- faults that stand one behind another

abbrev AllBefore : ℕ → List Fault → Type 0
AllBefore p fs = All (λ f. stand f.cycle f.op < p) fs

other_place : (m n k l : ℕ) → stand n l < stand m k → ((m == n) && (k == l)) ≡ false
other_place m n k l less = grind (arith, nat_tests)

neither : (a b : Bool) → a ≡ false → b ≡ false → (a || b) ≡ false
neither a b h k = rw (h, k) refl

none_taken : (f : Fault) (fs : List Fault) → AllBefore (stand f.cycle f.op) fs → is_taken f fs ≡ false
none_taken f [] h = refl
none_taken f (e ∷ fs) h =
    let P : Fault → Type 0 = λ e. stand e.cycle e.op < stand f.cycle f.op in
    neither (same_place f e) (is_taken f fs) (other_place f.cycle e.cycle f.op e.op (All-head P e fs h)) (none_taken f fs (All-tail P e fs h))

later_too : (m n : ℕ) (fs : List Fault) → m ≤ n → AllBefore m fs → AllBefore n fs
later_too m n [] less h = All-nil (λ f. stand f.cycle f.op < n)
later_too m n (f ∷ fs) less h =
    let P : Fault → Type 0 = λ f. stand f.cycle f.op < m in
    All-cons (λ f. stand f.cycle f.op < n) f fs (let lt = All-head P f fs h in omega (arith, less, lt)) (later_too m n fs less (All-tail P f fs h))

with_next : (n : ℕ) (fs : List Fault) (f : Fault) → stand f.cycle f.op < n → AllBefore n fs → AllBefore n (fs ++ f ∷ [])
with_next n fs f less h =
    let P : Fault → Type 0 = λ f. stand f.cycle f.op < n in All-append P fs (f ∷ []) h (All-cons P f [] less (All-nil P))

-- ---- a group

together_read : (g : Lists) (xs : List Site) (rest : List ℕ) (line : ℕ) (group : List Fault) (p number before number_then then_ : ℕ)
    → length g.operations ≤ 2 ^ 32 → then_ ≤ most_faults → number_then ≡ number + length xs → then_ ≡ before + length xs → AllFit g xs → Ascends p xs
    → AllBefore p group
    → Comes g number before (site_lines xs ++ rest) (open_at line group) ≡ Comes g number_then then_ rest (open_at line (group ++ faults_from number xs))
together_read g [] rest line group p number before number_then then_ few room e f fit up past =
    let same : number_then ≡ number = omega (arith, e) in
    let also : then_ ≡ before = omega (arith, f) in
    rw (same, also, append-nil group) refl
together_read g (s ∷ xs) rest line group p number before number_then then_ few room e f fit up past =
    let P : Site → Type 0 = λ s. Fits g (as_fault 0 s) in
    let here : Fault = as_fault number s in
    let earlier : AllBefore (stand s.cycle s.op) group = later_too p (stand s.cycle s.op) group up.0 past in
    let regroup : site_lines (s ∷ xs) ++ rest ≡ site_text s ++ (site_lines xs ++ rest) = append_assoc (site_text s) (site_lines xs) rest in
    let later : Groups = Comes g (number + 1) (before + 1) (site_lines xs ++ rest) (open_at line (group ++ here ∷ [])) in
    let next : AllBefore (stand s.cycle s.op + 1) (group ++ here ∷ []) =
    with_next (stand s.cycle s.op + 1) group here (omega arith) (later_too (stand s.cycle s.op) (stand s.cycle s.op + 1) group (omega arith) earlier) in
    ap (λ (t : List ℕ). Comes g number before t (open_at line group)) regroup
    ∙ (ap (λ (is : List Item). groups_of is (open_at line group))
    (line_back g s (site_lines xs ++ rest) number before few (omega (arith, room, f)) (All-head P s xs fit))
    ∙ (ap (λ (b : Bool). cond b (Err (refusal.Twice here.line)) later) (none_taken here group earlier)
    ∙ (together_read g xs rest line (group ++ here ∷ []) (stand s.cycle s.op + 1) (number + 1) (before + 1) number_then then_ few room (omega (arith, e))
    (omega (arith, f))
    (All-tail P s xs fit) up.1 next
    ∙ ap (λ (fs : List Fault). Comes g number_then then_ rest (open_at line fs)) (append_assoc group (here ∷ []) (faults_from (number + 1) xs)))))

group_ends : (number : ℕ) (fs : List Fault) (r : Groups) → 0 < length fs → ended number fs r ≡ onto fs r
group_ends number [] r some = absurd (omega (arith, some))
group_ends number (f ∷ fs) r some = refl

begin_read : (g : Lists) (number before : ℕ) (rest : List ℕ)
    → Comes g number before (codes "begin\n" ++ rest) None ≡ Comes g (number + 1) before rest (open_at number [])
begin_read g number before rest =
    ap (λ (ls : List (List ℕ)). groups_of (items_of g before (read_lines number ls)) None) (line_first (codes "begin") rest refl)

end_read : (g : Lists) (number before line : ℕ) (fs : List Fault) (rest : List ℕ) → 0 < length fs
    → Comes g number before (codes "end\n" ++ rest) (open_at line fs) ≡ onto fs (Comes g (number + 1) before rest None)
end_read g number before line fs rest some =
    ap (λ (ls : List (List ℕ)). groups_of (items_of g before (read_lines number ls)) (open_at line fs)) (line_first (codes "end") rest refl)
    ∙ group_ends number fs (Comes g (number + 1) before rest None) some

faults_many : (number : ℕ) (xs : List Site) → length (faults_from number xs) ≡ length xs
faults_many number [] = refl
faults_many number (s ∷ xs) = ap suc (faults_many (number + 1) xs)

pieces : (xs : List Site) (rest : List ℕ) → group_text xs ++ rest ≡ codes "begin\n" ++ (site_lines xs ++ (codes "end\n" ++ rest))
pieces xs rest = ap (λ (t : List ℕ). codes "begin\n" ++ t) (append_assoc (site_lines xs) (codes "end\n") rest)

group_read : (g : Lists) (xs : List Site) (rest : List ℕ) (number before : ℕ) → length g.operations ≤ 2 ^ 32 → before + length xs ≤ most_faults → IsGroup g xs
    → Comes g number before (group_text xs ++ rest) None ≡ onto (faults_from (number + 1) xs) (Comes g (number + 2 + length xs) (before + length xs) rest None)
group_read g xs rest number before few room is =
    let fs : List Fault = faults_from (number + 1) xs in
    let many = is.some in
    let some : 0 < length fs = omega (arith, faults_many (number + 1) xs, many) in
    let next : number + 1 + length xs + 1 ≡ number + 2 + length xs = omega arith in
    ap (λ (t : List ℕ). Comes g number before t None) (pieces xs rest)
    ∙ (begin_read g number before (site_lines xs ++ (codes "end\n" ++ rest))
    ∙ (together_read g xs (codes "end\n" ++ rest) number [] 0 (number + 1) before (number + 1 + length xs) (before + length xs) few room refl refl is.fit
    is.ascends (All-nil (λ f. stand f.cycle f.op < 0))
    ∙ (end_read g (number + 1 + length xs) (before + length xs) number fs rest some
    ∙ ap (λ (n : ℕ). onto fs (Comes g n (before + length xs) rest None)) next)))

groups_read : (g : Lists) (gs : List (List Site)) (number before : ℕ) → length g.operations ≤ 2 ^ 32 → before + lines_of gs ≤ most_faults → All (IsGroup g) gs
    → Comes g number before (groups_text gs) None ≡ Ok (said_groups number gs)
groups_read g [] number before few room are = refl
groups_read g (xs ∷ gs) number before few room are =
    group_read g xs (groups_text gs) number before few (omega (arith, room)) (All-head (IsGroup g) xs gs are)
    ∙ ap (λ (r : Groups). onto (faults_from (number + 1) xs) r)
    (groups_read g gs (number + 2 + length xs) (before + length xs) few (omega (arith, room)) (All-tail (IsGroup g) xs gs are))

-- behind the remark
pub rest_read_back : (digest : List ℕ) (g : Lists) (gs : List (List Site)) → All (λ b. 32 ≤ b) digest → length g.operations ≤ 2 ^ 32
    → lines_of gs ≤ most_faults → All (IsGroup g) gs → script_of g (rest_text digest gs) ≡ Ok (said_groups 2 gs)
rest_read_back digest g gs digits few room are =
    remark_back (codes "rest") digest g (groups_text gs) refl digits ∙ groups_read g gs 2 0 few (omega (arith, room)) are
