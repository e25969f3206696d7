-- NamedReadBack: the script of named faults is read back as the faults that the lines say.
use Rattle.std.proofs.Common.{◌≡◌, ℕ, zero, suc, ◌+◌, ◌-◌, ◌^◌, ◌<◌, ◌≤◌, ◌==◌, ◌&&◌, ◌||◌, Bool, true, false, cond, nat_lt, List, [], ◌∷◌, ◌++◌, length, All, Option, Some, None, Result, Ok, Err, codes, slice_get, slice_index, take, refl, sym, ap, subst, ◌∙◌, arith, append_assoc, length-append, append-nil}
use Rattle.std.specs.List.{list_all, slice_split}
use Rattle.std.specs.Str.Lines.{lines, lines_of_parts, strip_carriage_return}
use Rattle.std.proofs.lemmas.Bool.Decides.{nat_tests}
use Rattle.std.proofs.lemmas.List.Elements.{All-nil, All-cons, All-head, All-tail, All-append}
use Rattle.std.proofs.lemmas.List.Splits.{slice_split_at, length-slice_split}
use Rattle.vcp_base.specs.Limits.{most_cycles}
use Rattle.op_graph.specs.declared.op.Op.{Op}
use Rattle.op_graph.specs.Lists.{Lists}
use Rattle.vcp_base.specs.Lines.{Line, is_skipped, read_lines}
use Rattle.fault_script.specs.declared.act.Act.{Act}
use Rattle.fault_script.specs.declared.act.Act.TheVariants as act
use Rattle.fault_script.specs.declared.act.Fault.{Fault}
use Rattle.fault_script.specs.declared.reading.Opened.{Opened}
use Rattle.fault_script.specs.declared.script_fault.ScriptFault.{ScriptFault}
use Rattle.fault_script.specs.declared.script_fault.ScriptFault.TheVariants as refusal
use Rattle.fault_script.specs.Fits.{is_timely, ActFits, Fits}
use Rattle.fault_script.specs.Groups.{same_place, is_taken}
use Rattle.fault_script.specs.Reading.{behind}
use Rattle.fault_script.specs.ScriptOf.{Item, most_faults, items_of, groups_of, ended, onto}
use Rattle.fault_sites.specs.declared.site.Site.{Site}
use Rattle.fault_sites.specs.Laws.{IsLineRead}
use Rattle.fault_sites.specs.Sites.{as_fault, site}
use Rattle.fault_sites.specs.SiteText.{said_from, site_lines, site_text}
use Rattle.fault_sites.specs.declared.named.when.Span.{Span}
use Rattle.fault_sites.specs.declared.named.meant.Meant.{Meant}
use Rattle.fault_sites.specs.NamedLines.{unfit, unfit_other}
use Rattle.fault_sites.specs.NamedScript.{cycles_of, sites_from, sites_over, other_sites, sites_meant, faults_from, groups_meant, lines_meant, Entry, groups_from, begin_text, end_text, meant_text, entry_text, entry_texts}
use Rattle.fault_sites.specs.NamedEntries.{other_count, fault_count}
use Rattle.fault_sites.proofs.Fitted.{MeantFits, act_fits, acts_fit}

abbrev pub Groups : Type 0
Groups = Result (List (List Fault)) ScriptFault

-- what a text comes to from a line on, behind so many fault lines and an open group
abbrev pub Comes : Lists → ℕ → ℕ → List ℕ → Option Opened → Groups
Comes g number before text o = groups_of (items_of g before (read_lines number (lines text))) o

-- each of these may stand in a script of its own
abbrev pub AllFit : Lists → List Site → Type 0
AllFit g xs = All (λ s. Fits g (as_fault 0 s)) xs

-- ---- groups before others

behind_none : (r : Groups) → behind [] r ≡ r
behind_none (Ok gs) = refl
behind_none (Err why) = refl

behind_one : (fs : List Fault) (r : Groups) → onto fs r ≡ behind (fs ∷ []) r
behind_one fs (Ok gs) = refl
behind_one fs (Err why) = refl

onto_behind : (fs : List Fault) (gs : List (List Fault)) (r : Groups) → onto fs (behind gs r) ≡ behind (fs ∷ gs) r
onto_behind fs gs (Ok more) = refl
onto_behind fs gs (Err why) = refl

behind_both : (gs hs : List (List Fault)) (r : Groups) → behind gs (behind hs r) ≡ behind (gs ++ hs) r
behind_both gs hs (Ok more) = ap Ok (sym (append_assoc gs hs more))
behind_both gs hs (Err why) = refl

-- ---- lines

no_feed : ℕ → Type 0
no_feed c = (c == 10) ≡ false

before_parts : (line : List ℕ) (parts : List (List ℕ)) → 0 < length parts → lines_of_parts (line ∷ parts) ≡ strip_carriage_return line ∷ lines_of_parts parts
before_parts line [] some = absurd (omega arith)
before_parts line (part ∷ parts) some = refl

-- the first line of a text
line_first : (line rest : List ℕ) → All (λ c. (c == 10) ≡ false) line → lines (line ++ 10 ∷ rest) ≡ strip_carriage_return line ∷ lines rest
line_first line rest h =
    let feed : ℕ → Bool = λ b. b == 10 in
    let some : 0 < length (slice_split feed rest) = omega (arith, length-slice_split feed rest) in
    ap lines_of_parts (slice_split_at feed line 10 rest h refl) ∙ before_parts line (slice_split feed rest) some

-- a text that computes to bytes without LF
pub all_so : (xs : List ℕ) → list_all (λ c. nat_lt 10 c) xs ≡ true → All (λ c. (c == 10) ≡ false) xs
all_so [] h = All-nil (λ c. (c == 10) ≡ false)
all_so (c ∷ xs) h =
    let (first, more) = both (nat_lt 10 c) (list_all (λ c. nat_lt 10 c) xs) h in
    let here : (c == 10) ≡ false = grind (arith, nat_tests) in All-cons (λ c. (c == 10) ≡ false) c xs here (all_so xs more)
  where
    both : (a b : Bool) → (a && b) ≡ true → (a ≡ true) × (b ≡ true)
    both true b h = (refl, h)
    both false b h = absurd cc

one_less : (text : List ℕ) → length (35 ∷ 32 ∷ text) - 1 ≡ suc (length text)
one_less text = omega arith

-- a remark, with a CR at its end or without
still_skipped : (b : Bool) (text : List ℕ) → is_skipped (cond b (take (length (35 ∷ 32 ∷ text) - 1) (35 ∷ 32 ∷ text)) (35 ∷ 32 ∷ text)) ≡ true
still_skipped true text = ap (λ (n : ℕ). is_skipped (take n (35 ∷ 32 ∷ text))) (one_less text)
still_skipped false text = refl

remark_skipped : (text : List ℕ) → is_skipped (strip_carriage_return (35 ∷ 32 ∷ text)) ≡ true
remark_skipped text = still_skipped (slice_index (35 ∷ 32 ∷ text) (length (35 ∷ 32 ∷ text) - 1) == 13) text

-- a remark before a text
pub remark_read : (g : Lists) (number before : ℕ) (text rest : List ℕ) (o : Option Opened) → All (λ c. (c == 10) ≡ false) text
    → Comes g number before (35 ∷ 32 ∷ text ++ 10 ∷ rest) o ≡ Comes g (number + 1) before rest o
remark_read g number before text rest o h =
    let P : ℕ → Type 0 = λ c. (c == 10) ≡ false in
    let line : List ℕ = 35 ∷ 32 ∷ text in
    let more : List Line = read_lines (number + 1) (lines rest) in
    let here : Line = record { number = number; text = strip_carriage_return line } in
    ap (λ (ls : List (List ℕ)). groups_of (items_of g before (read_lines number ls)) o)
    (line_first line rest (All-cons P 35 (32 ∷ text) refl (All-cons P 32 text refl h)))
    ∙ ap (λ (b : Bool). groups_of (items_of g before (cond b more (here ∷ more))) o) (remark_skipped text)

-- ---- the faults of a line, each a group

alone_read : (law : IsLineRead) (g : Lists) (xs : List Site) (rest : List ℕ) (number before number_then then_ : ℕ) → length g.operations ≤ 2 ^ 32
    → then_ ≤ most_faults → number_then ≡ number + length xs → then_ ≡ before + length xs → AllFit g xs
    → Comes g number before (site_lines xs ++ rest) None ≡ behind (said_from number xs) (Comes g number_then then_ rest None)
alone_read law g [] rest number before number_then then_ few room e f fit =
    let same : number_then ≡ number = omega (arith, e) in
    let also : then_ ≡ before = omega (arith, f) in
    rw (same, also) (sym (behind_none (Comes g number before rest None)))
alone_read law g (s ∷ xs) rest number before number_then then_ few room e f fit =
    let P : Site → Type 0 = λ s. Fits g (as_fault 0 s) in
    let regroup : site_lines (s ∷ xs) ++ rest ≡ site_text s ++ (site_lines xs ++ rest) = append_assoc (site_text s) (site_lines xs) rest in
    ap (λ (t : List ℕ). Comes g number before t None) regroup
    ∙ (ap (λ (is : List Item). groups_of is None)
    (law g s (site_lines xs ++ rest) number before few (omega (arith, room, f)) (All-head P s xs fit))
    ∙ (ap (onto (as_fault number s ∷ []))
    (alone_read law g xs rest (number + 1) (before + 1) number_then then_ few room (omega (arith, e)) (omega (arith, f)) (All-tail P s xs fit))
    ∙ onto_behind (as_fault number s ∷ []) (said_from (number + 1) xs) (Comes g number_then then_ rest None)))

-- ---- the faults of a line, in one group

-- each stands in a later cycle than the one before it, from cycle n on
abbrev Ascending : ℕ → List Site → Type 0
Ascending n [] = Unit {0}
Ascending n (s ∷ xs) = (n ≤ s.cycle) × Ascending (s.cycle + 1) xs

-- all stand before cycle n
abbrev AllBefore : ℕ → List Fault → Type 0
AllBefore n fs = All (λ f. f.cycle < n) fs

other_cycle : (m n : ℕ) (b : Bool) → n < m → ((m == n) && b) ≡ false
other_cycle m n b less = let no : (m == n) ≡ false = grind (arith, nat_tests) in rw no refl

neither : (a b : Bool) → a ≡ false → b ≡ false → (a || b) ≡ false
neither a b h k = rw (h, k) refl

none_taken : (f : Fault) (fs : List Fault) → AllBefore f.cycle fs → is_taken f fs ≡ false
none_taken f [] h = refl
none_taken f (e ∷ fs) h =
    let P : Fault → Type 0 = λ e. e.cycle < f.cycle in
    neither (same_place f e) (is_taken f fs) (other_cycle f.cycle e.cycle (f.op == e.op) (All-head P e fs h)) (none_taken f fs (All-tail P e fs h))

later_too : (m n : ℕ) (fs : List Fault) → m ≤ n → AllBefore m fs → AllBefore n fs
later_too m n [] less h = All-nil (λ f. f.cycle < n)
later_too m n (f ∷ fs) less h =
    let P : Fault → Type 0 = λ f. f.cycle < m in
    All-cons (λ f. f.cycle < n) f fs (omega (arith, less, All-head P f fs h)) (later_too m n fs less (All-tail P f fs h))

with_next : (n : ℕ) (fs : List Fault) (f : Fault) → f.cycle < n → AllBefore n fs → AllBefore n (fs ++ f ∷ [])
with_next n fs f less h =
    let P : Fault → Type 0 = λ f. f.cycle < n in All-append P fs (f ∷ []) h (All-cons P f [] less (All-nil P))

abbrev open_at : ℕ → List Fault → Option Opened
open_at line group = Some (record { line = line; group = group })

together_read : (law : IsLineRead) (g : Lists) (xs : List Site) (rest : List ℕ) (line : ℕ) (group : List Fault) (from number before number_then then_ : ℕ)
    → length g.operations ≤ 2 ^ 32 → then_ ≤ most_faults → number_then ≡ number + length xs → then_ ≡ before + length xs → AllFit g xs → Ascending from xs
    → AllBefore from group
    → Comes g number before (site_lines xs ++ rest) (open_at line group) ≡ Comes g number_then then_ rest (open_at line (group ++ faults_from number xs))
together_read law g [] rest line group from number before number_then then_ few room e f fit up past =
    let same : number_then ≡ number = omega (arith, e) in
    let also : then_ ≡ before = omega (arith, f) in
    rw (same, also, append-nil group) refl
together_read law g (s ∷ xs) rest line group from number before number_then then_ few room e f fit up past =
    let P : Site → Type 0 = λ s. Fits g (as_fault 0 s) in
    let here : Fault = as_fault number s in
    let earlier : AllBefore s.cycle group = later_too from s.cycle group up.0 past in
    let regroup : site_lines (s ∷ xs) ++ rest ≡ site_text s ++ (site_lines xs ++ rest) = append_assoc (site_text s) (site_lines xs) rest in
    let later : Groups = Comes g (number + 1) (before + 1) (site_lines xs ++ rest) (open_at line (group ++ here ∷ [])) in
    let next : AllBefore (s.cycle + 1) (group ++ here ∷ []) =
    with_next (s.cycle + 1) group here (omega arith) (later_too s.cycle (s.cycle + 1) group (omega arith) earlier) in
    ap (λ (t : List ℕ). Comes g number before t (open_at line group)) regroup
    ∙ (ap (λ (is : List Item). groups_of is (open_at line group))
    (law g s (site_lines xs ++ rest) number before few (omega (arith, room, f)) (All-head P s xs fit))
    ∙ (ap (λ (b : Bool). cond b (Err (refusal.Twice here.line)) later) (none_taken here group earlier)
    ∙ (together_read law g xs rest line (group ++ here ∷ []) (s.cycle + 1) (number + 1) (before + 1) number_then then_ few room (omega (arith, e))
    (omega (arith, f))
    (All-tail P s xs fit) up.1 next
    ∙ ap (λ (fs : List Fault). Comes g number_then then_ rest (open_at line fs)) (append_assoc group (here ∷ []) (faults_from (number + 1) xs)))))

-- ---- what a line means

first_some : (k n count : ℕ) (a : Act) → length (sites_from k a n count) ≡ count
first_some k n zero a = refl
first_some k n (suc count) a = ap suc (first_some k (n + 1) count a)

ascends : (k n count : ℕ) (a : Act) → Ascending n (sites_from k a n count)
ascends k n zero a = tt
ascends k n (suc count) a = (omega arith, ascends k (n + 1) count a)

timely_later : (m n : ℕ) (a : Act) → m ≤ n → is_timely m a ≡ true → is_timely n a ≡ true
timely_later m n (act.OperandAdd j e) less h = refl
timely_later m n (act.OperandFrom j r) less h = refl
timely_later m n (act.OperandStale j) less h = grind (arith, nat_tests)
timely_later m n (act.ResultAdd e) less h = refl
timely_later m n (act.Operator other) less h = refl
timely_later m n act.Skip less h = grind (arith, nat_tests)

from_fit : (g : Lists) (k m n count : ℕ) (a : Act) (op : Op) → slice_get g.operations k ≡ Some op → ActFits op.kind k m a → m ≤ n → n + count ≤ most_cycles
    → AllFit g (sites_from k a n count)
from_fit g k m n zero a op there fit less low = All-nil (λ s. Fits g (as_fault 0 s))
from_fit g k m n (suc count) a op there fit less low =
    let here : ActFits op.kind k n a = record { sited = fit.sited; timely = timely_later m n a less fit.timely; alike = fit.alike; moderate = fit.moderate } in
    let one : Fits g (as_fault 0 (site n k a)) = record { cycle = omega (arith, low); op = op; there = there; act = here } in
    All-cons (λ s. Fits g (as_fault 0 s)) (site n k a) (sites_from k a (n + 1) count) one
    (from_fit g k m (n + 1) count a op there fit (omega (arith, less)) (omega (arith, low)))

over_fit : (g : Lists) (m : Meant) (fits : MeantFits g m) (a : Act) → unfit fits.op.kind m.op m.span.first a ≡ None → AllFit g (sites_over m.op m.span a)
over_fit g m fits a none =
    from_fit g m.op m.span.first m.span.first (cycles_of m.span) a fits.op fits.there (act_fits fits.op.kind m.op m.span.first a none) (omega arith)
    (omega (arith, fits.span.order, fits.span.last))

other_fit : (g : Lists) (m : Meant) (fits : MeantFits g m) (o : Option Act) → unfit_other fits.op.kind m.op m.span.first o ≡ None
    → AllFit g (other_sites m.op m.span o)
other_fit g m fits None none = All-nil (λ s. Fits g (as_fault 0 s))
other_fit g m fits (Some a) none = over_fit g m fits a none

pub meant_fit : (g : Lists) (m : Meant) → MeantFits g m → AllFit g (sites_meant m)
meant_fit g m fits =
    let both = acts_fit fits.op.kind m.op m.span.first m.acts fits.fit in
    All-append (λ s. Fits g (as_fault 0 s)) (sites_over m.op m.span m.acts.act) (other_sites m.op m.span m.acts.other)
    (over_fit g m fits m.acts.act both.0) (other_fit g m fits m.acts.other both.1)

other_many : (k : ℕ) (s : Span) (o : Option Act) → length (other_sites k s o) ≡ other_count s o
other_many k s None = refl
other_many k s (Some a) = first_some k s.first (cycles_of s) a

pub meant_many : (m : Meant) → length (sites_meant m) ≡ fault_count m
meant_many m =
    length-append (sites_over m.op m.span m.acts.act) (other_sites m.op m.span m.acts.other)
    ∙ (ap (λ (n : ℕ). n + length (other_sites m.op m.span m.acts.other)) (first_some m.op m.span.first (cycles_of m.span) m.acts.act)
    ∙ ap (λ (n : ℕ). cycles_of m.span + n) (other_many m.op m.span m.acts.other))

-- ---- a line's groups

-- a group that has a fault ends
group_ends : (number : ℕ) (fs : List Fault) (r : Groups) → 0 < length fs → ended number fs r ≡ behind (fs ∷ []) r
group_ends number [] r some = absurd (omega arith)
group_ends number (f ∷ fs) r some = behind_one (f ∷ fs) r

begin_read : (g : Lists) (number before : ℕ) (rest : List ℕ)
    → Comes g number before (codes "begin\n" ++ rest) None ≡ Comes g (number + 1) before rest (open_at number [])
begin_read g number before rest =
    ap (λ (ls : List (List ℕ)). groups_of (items_of g before (read_lines number ls)) None) (line_first (codes "begin") rest (all_so (codes "begin") refl))

end_read : (g : Lists) (number before line : ℕ) (fs : List Fault) (rest : List ℕ) → 0 < length fs
    → Comes g number before (codes "end\n" ++ rest) (open_at line fs) ≡ behind (fs ∷ []) (Comes g (number + 1) before rest None)
end_read g number before line fs rest some =
    ap (λ (ls : List (List ℕ)). groups_of (items_of g before (read_lines number ls)) (open_at line fs))
    (line_first (codes "end") rest (all_so (codes "end") refl))
    ∙ group_ends number fs (Comes g (number + 1) before rest None) some

faults_many : (number : ℕ) (xs : List Site) → length (faults_from number xs) ≡ length xs
faults_many number [] = refl
faults_many number (s ∷ xs) = ap suc (faults_many (number + 1) xs)

alone_sites : (m : Meant) → m.acts.other ≡ None → sites_meant m ≡ sites_over m.op m.span m.acts.act
alone_sites m none =
    ap (λ (o : Option Act). sites_over m.op m.span m.acts.act ++ other_sites m.op m.span o) none ∙ append-nil (sites_over m.op m.span m.acts.act)

meant_read : (law : IsLineRead) (g : Lists) (m : Meant) (rest : List ℕ) (number before then_ : ℕ) (t : Bool) → length g.operations ≤ 2 ^ 32
    → then_ ≤ most_faults → then_ ≡ before + fault_count m → MeantFits g m → m.together ≡ t
    → Comes g number before ((begin_text t ++ (site_lines (sites_meant m) ++ end_text t)) ++ rest) None
    ≡ behind (cond t (faults_from (number + 1) (sites_meant m) ∷ []) (said_from number (sites_meant m)))
    (Comes g (number + cond t (length (sites_meant m) + 2) (length (sites_meant m))) then_ rest None)
meant_read law g m rest number before then_ false few room e fits is =
    let xs : List Site = sites_meant m in
    let many : length xs ≡ fault_count m = meant_many m in
    ap (λ (t : List ℕ). Comes g number before (t ++ rest) None) (append-nil (site_lines xs))
    ∙ alone_read law g xs rest number before (number + length xs) then_ few room refl (omega (arith, e, many)) (meant_fit g m fits)
meant_read law g m rest number before then_ true few room e fits is =
    let xs : List Site = sites_meant m in
    let many : length xs ≡ fault_count m = meant_many m in
    let up : Ascending m.span.first xs =
    subst (Ascending m.span.first) (sym (alone_sites m (fits.alone is))) (ascends m.op m.span.first (cycles_of m.span) m.acts.act) in
    let fs : List Fault = faults_from (number + 1) xs in
    let some : 0 < length fs = omega (arith, faults_many (number + 1) xs, many, fits.span.order) in
    let next : number + 1 + length xs + 1 ≡ number + (length xs + 2) = omega arith in
    ap (λ (t : List ℕ). Comes g number before (codes "begin\n" ++ t) None) (append_assoc (site_lines xs) (codes "end\n") rest)
    ∙ (begin_read g number before (site_lines xs ++ (codes "end\n" ++ rest))
    ∙ (together_read law g xs (codes "end\n" ++ rest) number [] m.span.first (number + 1) before (number + 1 + length xs) then_ few room refl
    (omega (arith, e, many)) (meant_fit g m fits) up (All-nil (λ f. f.cycle < m.span.first))
    ∙ (end_read g (number + 1 + length xs) then_ number fs rest some
    ∙ ap (λ (n : ℕ). behind (fs ∷ []) (Comes g n then_ rest None)) next)))

-- ---- all lines

-- these lines mean something that fits the graph, and their texts have no LF
abbrev pub EntryFits : Lists → Entry → Type 0
EntryFits g e = MeantFits g e.meant × All (λ c. (c == 10) ≡ false) e.text

abbrev pub AllEntriesFit : Lists → List Entry → Type 0
AllEntriesFit g [] = Unit {0}
AllEntriesFit g (e ∷ es) = EntryFits g e × AllEntriesFit g es

-- how many faults they say
abbrev pub total : List Entry → ℕ
total [] = 0
total (e ∷ es) = fault_count e.meant + total es

entry_pieces : (text body rest : List ℕ) → (codes "# " ++ (text ++ (codes "\n" ++ body))) ++ rest ≡ 35 ∷ 32 ∷ text ++ 10 ∷ (body ++ rest)
entry_pieces text body rest = simp append_assoc

pub all_read : (law : IsLineRead) (g : Lists) (es : List Entry) (rest : List ℕ) (number before : ℕ) → length g.operations ≤ 2 ^ 32
    → before + total es ≤ most_faults → AllEntriesFit g es → ((n b : ℕ) → Comes g n b rest None ≡ Ok [])
    → Comes g number before (entry_texts es ++ rest) None ≡ Ok (groups_from number es)
all_read law g [] rest number before few room fit last = last number before
all_read law g (e ∷ es) rest number before few room fit last =
    let regroup : entry_texts (e ∷ es) ++ rest ≡ 35 ∷ 32 ∷ e.text ++ 10 ∷ (meant_text e.meant ++ (entry_texts es ++ rest)) =
    append_assoc (entry_text e) (entry_texts es) rest ∙ entry_pieces e.text (meant_text e.meant) (entry_texts es ++ rest) in
    ap (λ (t : List ℕ). Comes g number before t None) regroup
    ∙ (remark_read g number before e.text (meant_text e.meant ++ (entry_texts es ++ rest)) None fit.0.1
    ∙ (meant_read law g e.meant (entry_texts es ++ rest) (number + 1) before (before + fault_count e.meant) e.meant.together few
    (omega (arith, room)) refl fit.0.0 refl
    ∙ ap (behind (groups_meant (number + 1) e.meant))
    (all_read law g es rest (number + 1 + lines_meant e.meant) (before + fault_count e.meant) few (omega (arith, room)) fit.1 last)))
