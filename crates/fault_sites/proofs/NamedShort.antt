-- NamedShort: the script of a text that isn't too long can be read from a file.
use Rattle.std.proofs.Common.{◌≡◌, ℕ, suc, ◌+◌, ◌-◌, ◌*◌, ◌^◌, ◌<◌, ◌≤◌, ◌==◌, ◌&&◌, Bool, true, false, cond, nat_lt, List, [], ◌∷◌, ◌++◌, length, take, ℤ, pos, negsuc, decimal, codes, slice_index, Result, Ok, Err, arith, refl, sym, subst, length-append}
use Rattle.std.specs.Fmt.{signed_decimal}
use Rattle.std.specs.List.{slice_split, onto_first}
use Rattle.std.specs.Str.Lines.{lines, lines_of_parts}
use Rattle.std.proofs.lemmas.Bool.Decides.{nat_tests}
use Rattle.std.proofs.lemmas.Int.{ints}
use Rattle.std.proofs.lemmas.Fmt.{length-decimal-le}
use Rattle.std.proofs.lemmas.List.{length-take}
use Rattle.std.proofs.lemmas.List.Elements.{All-head, All-tail}
use Rattle.std.proofs.lemmas.Option.{slice_get_within}
use Rattle.std.proofs.lemmas.List.Splits.{slice_split-cons_yes, slice_split-cons_no}
use Rattle.vcp_base.specs.Limits.{most_cycles, most_source_bytes}
use Rattle.vcp_base.specs.declared.kind.Kind.{Kind}
use Rattle.vcp_base.specs.Kinds.{operands}
use Rattle.vcp_base.specs.Spellings.{kind_name}
use Rattle.op_graph.specs.Lists.{Lists}
use Rattle.vcp_base.specs.Lines.{Line, is_skipped, read_lines}
use Rattle.vcp_base.specs.Words.{words}
use Rattle.fault_script.specs.declared.act.Act.{Act}
use Rattle.fault_script.specs.declared.act.Act.TheVariants as act
use Rattle.fault_script.specs.Fits.{ActFits, Fits}
use Rattle.fault_script.specs.Forms.{is_addend}
use Rattle.fault_script.specs.ScriptOf.{most_faults}
use Rattle.fault_sites.specs.declared.site.Site.{Site}
use Rattle.fault_sites.specs.Sites.{as_fault}
use Rattle.fault_sites.specs.SiteText.{rest, site_line, site_lines, verb}
use Rattle.fault_sites.specs.declared.named.refused.Why.{Why}
use Rattle.fault_sites.specs.declared.named.meant.Meant.{Meant}
use Rattle.fault_sites.specs.NamedLines.{meant_of}
use Rattle.fault_sites.specs.NamedScript.{sites_meant, Entry, entry_of, entries, begin_text, end_text, meant_text, entry_text, entry_texts, script_text}
use Rattle.fault_sites.specs.NamedEntries.{fault_count}
use Rattle.fault_sites.proofs.Fitted.{MeantFits}
use Rattle.fault_sites.proofs.NamedReadBack.{AllFit, AllEntriesFit, total, meant_fit, meant_many}

-- ---- a fault's line

signed_short : (e : ℤ) → is_addend e ≡ true → length (signed_decimal e) ≤ 20
signed_short (pos n) h =
    let low : n < 10 ^ 19 = grind (arith, ints, nat_tests) in omega (arith, length-decimal-le 19 n (omega arith) (omega (arith, low)) (omega (arith, low)))
signed_short (negsuc n) h =
    let low : suc n < 10 ^ 19 = grind (arith, ints, nat_tests) in
    omega (arith, length-decimal-le 19 (suc n) (omega arith) (omega (arith, low)) (omega (arith, low)))

kind_short : (k : Kind) → length (kind_name k) ≤ 5
kind_short k = grind arith

verb_short : (a : Act) → length (verb a) ≤ 9
verb_short a = grind arith

three_operands : (k : Kind) → operands k ≤ 3
three_operands k = grind arith

-- ten digits at most
number_short : (n : ℕ) → n < 2 ^ 32 → length (decimal n) ≤ 10
number_short n h = length-decimal-le 10 n (omega arith) (omega arith) (omega arith)

cycle_short : (n : ℕ) → n < most_cycles → length (decimal n) ≤ 6
cycle_short n h = length-decimal-le 6 n (omega arith) (omega arith) (omega arith)

operand_short : (j : ℕ) → j < 3 → length (decimal j) ≤ 1
operand_short j h = length-decimal-le 1 j (omega arith) (omega arith) (omega arith)

less : (m n : ℕ) → nat_lt m n ≡ true → m < n
less m n h = grind (arith, nat_tests)

left_of : (a b : Bool) → (a && b) ≡ true → a ≡ true
left_of true b h = refl
left_of false b h = absurd cc

right_of : (a b : Bool) → (a && b) ≡ true → b ≡ true
right_of true b h = h
right_of false b h = absurd cc

few : (kind : Kind) (j : ℕ) → nat_lt j (operands kind) ≡ true → j < 3
few kind j h = omega (arith, less j (operands kind) h, three_operands kind)

rest_short : (kind : Kind) (k n : ℕ) (a : Act) → k < 2 ^ 32 → ActFits kind k n a → length (rest a) ≤ 27
rest_short kind k n (act.OperandAdd j e) l fit =
    omega (arith, length-append (decimal j) (codes " add " ++ signed_decimal e), operand_short j (few kind j fit.sited), signed_short e fit.moderate)
rest_short kind k n (act.OperandFrom j r) l fit =
    let here : j < 3 = few kind j (left_of (nat_lt j (operands kind)) (nat_lt r k) fit.sited) in
    let before : r < k = less r k (right_of (nat_lt j (operands kind)) (nat_lt r k) fit.sited) in
    omega (arith, length-append (decimal j) (codes " from " ++ decimal r), operand_short j here, number_short r (omega (arith, before, l)))
rest_short kind k n (act.OperandStale j) l fit =
    omega (arith, length-append (decimal j) (codes " stale"), operand_short j (few kind j fit.sited))
rest_short kind k n (act.ResultAdd e) l fit = omega (arith, signed_short e fit.moderate)
rest_short kind k n (act.Operator other) l fit = omega (arith, kind_short other)
rest_short kind k n act.Skip l fit = omega arith

line_short : (verb n k rest : List ℕ) → length verb ≤ 9 → length n ≤ 6 → length k ≤ 10 → length rest ≤ 27
    → length (verb ++ (n ++ (codes " " ++ (k ++ rest)))) ≤ 53
line_short verb n k rest h l m o =
    omega (arith, length-append verb (n ++ (codes " " ++ (k ++ rest))), length-append n (codes " " ++ (k ++ rest)), length-append k rest)

lines_short : (g : Lists) (xs : List Site) → length g.operations ≤ 2 ^ 32 → AllFit g xs → length (site_lines xs) ≤ length xs * 54
lines_short g [] few fit = omega arith
lines_short g (s ∷ xs) few fit =
    let P : Site → Type 0 = λ s. Fits g (as_fault 0 s) in
    let here : Fits g (as_fault 0 s) = All-head P s xs fit in
    let within : s.op < length g.operations = slice_get_within g.operations s.op here.op here.there in
    let l : s.op < 2 ^ 32 = omega (arith, within, few) in
    let first : length (site_line s) ≤ 53 =
    line_short (verb s.act) (decimal s.cycle) (decimal s.op) (rest s.act) (verb_short s.act) (cycle_short s.cycle here.cycle) (number_short s.op l)
    (rest_short here.op.kind s.op s.cycle s.act l here.act) in
    let more : length (site_lines xs) ≤ length xs * 54 = lines_short g xs few (All-tail P s xs fit) in
    omega (arith, first, more, length-append (site_line s) (codes "\n"), length-append (site_line s ++ codes "\n") (site_lines xs))

-- ---- the texts of lines

abbrev pub sum_lines : List Line → ℕ
sum_lines [] = 0
sum_lines (l ∷ ls) = length l.text + sum_lines ls

abbrev sum_all : List (List ℕ) → ℕ
sum_all [] = 0
sum_all (x ∷ xs) = length x + sum_all xs

onto_sum : (c : ℕ) (parts : List (List ℕ)) → sum_all (onto_first c parts) ≤ 1 + sum_all parts
onto_sum c [] = omega arith
onto_sum c (x ∷ xs) = omega arith

parts_by : (c : ℕ) (xs : List ℕ) (b : Bool) → (c == 10) ≡ b → sum_all (slice_split (λ b. b == 10) xs) ≤ length xs
    → sum_all (slice_split (λ b. b == 10) (c ∷ xs)) ≤ length (c ∷ xs)
parts_by c xs true is h =
    subst (λ (ps : List (List ℕ)). sum_all ps ≤ length (c ∷ xs)) (sym (slice_split-cons_yes (λ b. b == 10) c xs is)) (omega (arith, h))
parts_by c xs false is h =
    subst (λ (ps : List (List ℕ)). sum_all ps ≤ length (c ∷ xs)) (sym (slice_split-cons_no (λ b. b == 10) c xs is))
    (omega (arith, h, onto_sum c (slice_split (λ b. b == 10) xs)))

parts_sum : (xs : List ℕ) → sum_all (slice_split (λ b. b == 10) xs) ≤ length xs
parts_sum [] = omega arith
parts_sum (c ∷ xs) = parts_by c xs (c == 10) refl (parts_sum xs)

cut_sum : (b : Bool) (n : ℕ) (xs : List ℕ) → length (cond b (take n xs) xs) ≤ length xs
cut_sum true n xs = omega (arith, length-take n xs)
cut_sum false n xs = omega arith

last_sum : (b : Bool) (x : List ℕ) → sum_all (cond b [] (x ∷ [])) ≤ length x + 0
last_sum true x = omega arith
last_sum false x = omega arith

lines_sum : (parts : List (List ℕ)) → sum_all (lines_of_parts parts) ≤ sum_all parts
lines_sum [] = omega arith
lines_sum (x ∷ []) = last_sum (length x == 0) x
lines_sum (x ∷ y ∷ more) =
    omega (arith, cut_sum (slice_index x (length x - 1) == 13) (length x - 1) x, lines_sum (y ∷ more))

read_if : (b : Bool) (number : ℕ) (x : List ℕ) (ls : List Line) (n : ℕ) → sum_lines ls ≤ n
    → sum_lines (cond b ls (record { number = number; text = x } ∷ ls)) ≤ length x + n
read_if true number x ls n h = omega (arith, h)
read_if false number x ls n h = omega (arith, h)

read_sum : (number : ℕ) (xs : List (List ℕ)) → sum_lines (read_lines number xs) ≤ sum_all xs
read_sum number [] = omega arith
read_sum number (x ∷ xs) = read_if (is_skipped x) number x (read_lines (number + 1) xs) (sum_all xs) (read_sum (number + 1) xs)

pub texts_sum : (text : List ℕ) → sum_lines (read_lines 1 (lines text)) ≤ length text
texts_sum text =
    omega (arith, read_sum 1 (lines text), lines_sum (slice_split (λ b. b == 10) text), parts_sum text)

-- ---- the script

abbrev sum_entries : List Entry → ℕ
sum_entries [] = 0
sum_entries (e ∷ es) = length e.text + sum_entries es

one_entry : (g : Lists) (l : Line) (ls : List Line) (r : Result Meant Why) → sum_entries (entries g ls) ≤ sum_lines ls
    → sum_entries (entry_of l.text r ++ entries g ls) ≤ length l.text + sum_lines ls
one_entry g l ls (Err e) h = omega (arith, h)
one_entry g l ls (Ok m) h = omega (arith, h)

entries_sum : (g : Lists) (ls : List Line) → sum_entries (entries g ls) ≤ sum_lines ls
entries_sum g [] = omega arith
entries_sum g (l ∷ ls) = one_entry g l ls (meant_of g (words l.text)) (entries_sum g ls)

group_short : (t : Bool) (xs : List ℕ) → length (begin_text t ++ (xs ++ end_text t)) ≤ 10 + length xs
group_short true xs = omega (arith, length-append xs (codes "end\n"))
group_short false xs = omega (arith, length-append xs [])

entry_long : (text body : List ℕ) → length (codes "# " ++ (text ++ (codes "\n" ++ body))) ≡ 3 + length text + length body
entry_long text body = omega (arith, length-append text (codes "\n" ++ body))

entry_short : (g : Lists) (e : Entry) → length g.operations ≤ 2 ^ 32 → MeantFits g e.meant → length (entry_text e) ≤ length e.text + fault_count e.meant * 67
entry_short g e few fits =
    let m : Meant = e.meant in
    let some : 1 ≤ fault_count m = omega (arith, fits.span.order) in
    let short : length (site_lines (sites_meant m)) ≤ fault_count m * 54 =
    subst (λ (n : ℕ). length (site_lines (sites_meant m)) ≤ n * 54) (meant_many m) (lines_short g (sites_meant m) few (meant_fit g m fits)) in
    omega (arith, entry_long e.text (meant_text m), group_short m.together (site_lines (sites_meant m)), short, some)

entries_short : (g : Lists) (es : List Entry) → length g.operations ≤ 2 ^ 32 → AllEntriesFit g es
    → length (entry_texts es) ≤ sum_entries es + total es * 67
entries_short g [] few fit = omega arith
entries_short g (e ∷ es) few fit =
    omega (arith, length-append (entry_text e) (entry_texts es), entry_short g e few fit.0.0, entries_short g es few fit.1)

pub script_short : (digest : List ℕ) (g : Lists) (ls : List Line) → length digest ≤ 1000 → length g.operations ≤ 2 ^ 32 → AllEntriesFit g (entries g ls)
    → total (entries g ls) ≤ most_faults → sum_lines ls ≤ 262144 → length (script_text digest (entries g ls)) ≤ most_source_bytes
script_short digest g ls digits few fit low short =
    let es : List Entry = entries g ls in
    omega (
      arith,
      length-append digest (codes "\n" ++ (entry_texts es ++ codes "# end\n")),
      length-append (entry_texts es) (codes "# end\n"),
      entries_short g es few fit,
      entries_sum g ls,
      digits,
      low,
      short,
    )
