-- ReadBack: a script of sites is read back as their faults.
use Rattle.std.proofs.Common.{◌≡◌, ℕ, zero, suc, ◌+◌, ◌-◌, ◌^◌, ◌<◌, ◌≤◌, ◌==◌, ◌&&◌, Bool, true, false, cond, nat_lt, nat_le, List, [], ◌∷◌, ◌++◌, length, drop, All, Option, Some, None, Result, Ok, Err, ℤ, decimal, codes, slice_get, slice_index, refl, ap, ◌∙◌, arith, append_assoc, append-nil}
use Rattle.std.specs.Option.{option_map, option_and_then}
use Rattle.std.specs.Fmt.{signed_decimal}
use Rattle.std.specs.List.{list_all, filter, slice_split}
use Rattle.std.specs.Str.Lines.{lines, lines_of_parts, strip_carriage_return}
use Rattle.std.proofs.lemmas.Bool.Decides.{nat_tests}
use Rattle.std.proofs.lemmas.List.Elements.{All-nil, All-cons, All-head, All-tail, All-take, All-drop}
use Rattle.std.proofs.lemmas.List.Folds.{list_all-append}
use Rattle.std.proofs.lemmas.Option.{slice_get_within}
use Rattle.std.proofs.lemmas.List.Splits.{slice_split_at, slice_split_none, length-slice_split}
use Rattle.vcp_base.specs.Limits.{most_cycles}
use Rattle.vcp_base.specs.Blanks.{is_blank}
use Rattle.vcp_base.specs.declared.kind.Kind.{Kind}
use Rattle.vcp_base.specs.Kinds.{operands}
use Rattle.vcp_base.specs.Spellings.{kind_name}
use Rattle.op_graph.specs.declared.op.Op.{Op}
use Rattle.op_graph.specs.Lists.{Lists}
use Rattle.vcp_base.specs.Lines.{Line, is_skipped, read_lines}
use Rattle.vcp_base.specs.Words.{is_word, words}
use Rattle.fault_script.specs.declared.act.Act.{Act}
use Rattle.fault_script.specs.declared.act.Act.TheVariants as act
use Rattle.fault_script.specs.declared.act.Fault.{Fault}
use Rattle.fault_script.specs.declared.forms.Change.{Change}
use Rattle.fault_script.specs.declared.script_fault.ScriptFault.{ScriptFault}
use Rattle.fault_script.specs.declared.script_fault.ScriptFault.TheVariants as refusal
use Rattle.fault_script.specs.Fits.{is_sited, is_timely, is_alike, ActFits, Fits}
use Rattle.fault_script.specs.Forms.{is_addend, index_of, operand_change, act_of, change_of, mark_of}
use Rattle.fault_script.specs.ScriptOf.{Item, says, most_faults, fault_at, fault_if, fault_of, item_by, item_of, items_of, counted, onto, groups_of, script_of}
use Rattle.fault_sites.specs.declared.class.Classes.{Classes}
use Rattle.fault_sites.specs.declared.class.Class.TheVariants as class
use Rattle.fault_sites.specs.declared.class.Classes.TheVariants as classes
use Rattle.fault_sites.specs.declared.part.Part.{Part}
use Rattle.fault_sites.specs.declared.site.Site.{Site}
use Rattle.fault_sites.specs.Part.{kept}
use Rattle.fault_sites.specs.Sites.{as_fault, sites, site}
use Rattle.fault_sites.specs.SiteText.{classes_name, named_remark, said_from, site_line, site_lines, site_text, sites_text}
use Rattle.fault_sites.proofs.Spelled.{Shown, shows, shown_from, decimal_shown, signed_shown, kind_shown, addend_is, cycle_is, index_is, kind_is}
use Rattle.fault_sites.proofs.SitesFit.{each_fits}

-- ---- lines

-- a byte that is no control character
abbrev pub plain : ℕ → Bool
plain c = nat_le 32 c

and_both : (a b : Bool) → (a && b) ≡ true → (a ≡ true) × (b ≡ true)
and_both true b h = (refl, h)
and_both false b h = absurd cc

both_and : (a b : Bool) → a ≡ true → b ≡ true → (a && b) ≡ true
both_and a b h k = rw (h, k) refl

all_so : (p : ℕ → Bool) (P : ℕ → Type 0) (xs : List ℕ) → ((c : ℕ) → p c ≡ true → P c) → list_all p xs ≡ true → All P xs
all_so p P [] f h = All-nil P
all_so p P (c ∷ xs) f h =
    let (first, more) = and_both (p c) (list_all p xs) h in All-cons P c xs (f c first) (all_so p P xs f more)

no_feed : (c : ℕ) → plain c ≡ true → (c == 10) ≡ false
no_feed c h = grind (arith, nat_tests)

no_return : (c : ℕ) → plain c ≡ true → (c == 13) ≡ false
no_return c h = grind (arith, nat_tests)

never : (xs : List ℕ) (i : ℕ) → list_all plain xs ≡ true → (slice_index xs i == 13) ≡ false
never [] i h = refl
never (c ∷ xs) zero h = no_return c ((and_both (plain c) (list_all plain xs) h).0)
never (c ∷ xs) (suc i) h = never xs i ((and_both (plain c) (list_all plain xs) h).1)

stays : (line : List ℕ) → list_all plain line ≡ true → strip_carriage_return line ≡ line
stays line h = rw (never line (length line - 1) h) refl

before_parts : (line : List ℕ) (parts : List (List ℕ)) → 0 < length parts → lines_of_parts (line ∷ parts) ≡ strip_carriage_return line ∷ lines_of_parts parts
before_parts line [] some = absurd (omega arith)
before_parts line (part ∷ parts) some = refl

pub line_first : (line rest : List ℕ) → list_all plain line ≡ true → lines (line ++ 10 ∷ rest) ≡ line ∷ lines rest
line_first line rest h =
    let feed : ℕ → Bool = λ b. b == 10 in
    let some : 0 < length (slice_split feed rest) = omega (arith, length-slice_split feed rest) in
    ap lines_of_parts (slice_split_at feed line 10 rest (all_so plain (λ c. feed c ≡ false) line no_feed h) refl)
    ∙ (before_parts line (slice_split feed rest) some ∙ ap (λ (l : List ℕ). l ∷ lines rest) (stays line h))

-- ---- words

-- words with a blank between each two
abbrev joined : List (List ℕ) → List ℕ
joined [] = []
joined (w ∷ []) = w
joined (w ∷ v ∷ more) = w ++ 32 ∷ joined (v ∷ more)

abbrev AllShown : List (List ℕ) → Type 0
AllShown [] = Unit {0}
AllShown (w ∷ ws) = Shown w × AllShown ws

no_blank : (c : ℕ) → shows c ≡ true → is_blank c ≡ false
no_blank c h = grind (arith, nat_tests)

is_some_word : (w : List ℕ) → Shown w → is_word w ≡ true
is_some_word w h = rw h.some refl

word_before : (w : List ℕ) (parts : List (List ℕ)) → is_word w ≡ true → filter is_word (w ∷ parts) ≡ w ∷ filter is_word parts
word_before w parts is = ap (λ (b : Bool). cond b (w ∷ filter is_word parts) (filter is_word parts)) is

words_are : (ws : List (List ℕ)) → AllShown ws → words (joined ws) ≡ ws
words_are [] h = refl
words_are (w ∷ []) h =
    ap (filter is_word) (slice_split_none is_blank w (all_so shows (λ c. is_blank c ≡ false) w no_blank h.0.all)) ∙ word_before w [] (is_some_word w h.0)
words_are (w ∷ v ∷ more) h =
    ap (filter is_word) (slice_split_at is_blank w 32 (joined (v ∷ more)) (all_so shows (λ c. is_blank c ≡ false) w no_blank h.0.all) refl)
    ∙ (word_before w (slice_split is_blank (joined (v ∷ more))) (is_some_word w h.0)
    ∙ ap (λ (ws : List (List ℕ)). w ∷ ws) (words_are (v ∷ more) h.1))

shown_plain : (w : List ℕ) → list_all shows w ≡ true → list_all plain w ≡ true
shown_plain [] h = refl
shown_plain (c ∷ w) h =
    let (first, more) = and_both (shows c) (list_all shows w) h in
    let here : plain c ≡ true = grind (arith, nat_tests) in both_and (plain c) (list_all plain w) here (shown_plain w more)

plain_joined : (ws : List (List ℕ)) → AllShown ws → list_all plain (joined ws) ≡ true
plain_joined [] h = refl
plain_joined (w ∷ []) h = shown_plain w h.0.all
plain_joined (w ∷ v ∷ more) h =
    list_all-append plain w (32 ∷ joined (v ∷ more))
    ∙ both_and (list_all plain w) (list_all plain (32 ∷ joined (v ∷ more))) (shown_plain w h.0.all) (plain_joined (v ∷ more) h.1)

-- ---- the words of a site's line

abbrev verb_word : Act → List ℕ
verb_word (act.OperandAdd j e) = codes "operand"
verb_word (act.OperandFrom j r) = codes "operand"
verb_word (act.OperandStale j) = codes "operand"
verb_word (act.ResultAdd e) = codes "result"
verb_word (act.Operator other) = codes "operator"
verb_word act.Skip = codes "skip"

abbrev rest_words : Act → List (List ℕ)
rest_words (act.OperandAdd j e) = decimal j ∷ codes "add" ∷ signed_decimal e ∷ []
rest_words (act.OperandFrom j r) = decimal j ∷ codes "from" ∷ decimal r ∷ []
rest_words (act.OperandStale j) = decimal j ∷ codes "stale" ∷ []
rest_words (act.ResultAdd e) = codes "add" ∷ signed_decimal e ∷ []
rest_words (act.Operator other) = kind_name other ∷ []
rest_words act.Skip = []

abbrev site_words : Site → List (List ℕ)
site_words s = verb_word s.act ∷ decimal s.cycle ∷ decimal s.op ∷ rest_words s.act

line_is : (n k : ℕ) (a : Act) → site_line (site n k a) ≡ joined (site_words (site n k a))
line_is n k (act.OperandAdd j e) = refl
line_is n k (act.OperandFrom j r) = refl
line_is n k (act.OperandStale j) = refl
line_is n k (act.ResultAdd e) = refl
line_is n k (act.Operator other) = refl
line_is n k act.Skip = ap (λ (t : List ℕ). codes "skip " ++ (decimal n ++ 32 ∷ t)) (append-nil (decimal k))

-- the numbers of an act are such as a line has
abbrev pub Small : Act → Type 0
Small (act.OperandAdd j e) = (j < 2 ^ 32) × (is_addend e ≡ true)
Small (act.OperandFrom j r) = (j < 2 ^ 32) × (r < 2 ^ 32)
Small (act.OperandStale j) = j < 2 ^ 32
Small (act.ResultAdd e) = is_addend e ≡ true
Small (act.Operator other) = Unit {0}
Small act.Skip = Unit {0}

few_operands : (k : Kind) → operands k < 2 ^ 32
few_operands k = grind arith

less : (m n : ℕ) → nat_lt m n ≡ true → m < n
less m n h = grind (arith, nat_tests)

pub small : (kind : Kind) (k n : ℕ) (a : Act) → k < 2 ^ 32 → ActFits kind k n a → Small a
small kind k n (act.OperandAdd j e) l fit =
    let there : j < operands kind = less j (operands kind) fit.sited in (omega (arith, few_operands kind), fit.moderate)
small kind k n (act.OperandFrom j r) l fit =
    let (here, before) = and_both (nat_lt j (operands kind)) (nat_lt r k) fit.sited in
    let there : j < operands kind = less j (operands kind) here in
    let earlier : r < k = less r k before in (omega (arith, few_operands kind), omega arith)
small kind k n (act.OperandStale j) l fit = let there : j < operands kind = less j (operands kind) fit.sited in omega (arith, few_operands kind)
small kind k n (act.ResultAdd e) l fit = fit.moderate
small kind k n (act.Operator other) l fit = tt
small kind k n act.Skip l fit = tt

shown_number : (n : ℕ) → n < 2 ^ 32 → Shown (decimal n)
shown_number n h = decimal_shown n (omega arith)

all_shown : (n k : ℕ) (a : Act) → n < 2 ^ 32 → k < 2 ^ 32 → Small a → AllShown (site_words (site n k a))
all_shown n k (act.OperandAdd j e) h l m =
    (shown_from (codes "operand") refl, (shown_number n h, (shown_number k l, (shown_number j m.0, (shown_from (codes "add") refl, (signed_shown e m.1, tt))))))
all_shown n k (act.OperandFrom j r) h l m = (
  shown_from (codes "operand") refl,
  (
    shown_number n h,
    (
      shown_number k l,
      (
        shown_number j m.0,
        (shown_from (codes "from") refl, (shown_number r m.1, tt)),
      ),
    ),
  ),
)
all_shown n k (act.OperandStale j) h l m =
    (shown_from (codes "operand") refl, (shown_number n h, (shown_number k l, (shown_number j m, (shown_from (codes "stale") refl, tt)))))
all_shown n k (act.ResultAdd e) h l m =
    (shown_from (codes "result") refl, (shown_number n h, (shown_number k l, (shown_from (codes "add") refl, (signed_shown e m, tt)))))
all_shown n k (act.Operator other) h l m =
    (shown_from (codes "operator") refl, (shown_number n h, (shown_number k l, (shown_from (kind_name other) (kind_shown other), tt))))
all_shown n k act.Skip h l m = (shown_from (codes "skip") refl, (shown_number n h, (shown_number k l, tt)))

-- ---- what they say

operand_says : (j : ℕ) (how : List ℕ) (more : List (List ℕ)) → j < 2 ^ 32 → act_of (codes "operand") (decimal j ∷ how ∷ more) ≡ operand_change j how more
operand_says j how more h = ap (λ (o : Option ℕ). option_and_then (λ j. operand_change j how more) o) (index_is j h)

act_is : (a : Act) → Small a → act_of (verb_word a) (rest_words a) ≡ Some a
act_is (act.OperandAdd j e) m =
    operand_says j (codes "add") (signed_decimal e ∷ []) m.0 ∙ ap (λ (o : Option ℤ). option_map (λ e. act.OperandAdd j e) o) (addend_is e m.1)
act_is (act.OperandFrom j r) m =
    operand_says j (codes "from") (decimal r ∷ []) m.0 ∙ ap (λ (o : Option ℕ). option_map (λ r. act.OperandFrom j r) o) (index_is r m.1)
act_is (act.OperandStale j) m = operand_says j (codes "stale") [] m
act_is (act.ResultAdd e) m = ap (λ (o : Option ℤ). option_map (λ e. act.ResultAdd e) o) (addend_is e m)
act_is (act.Operator other) m = ap (λ (o : Option Kind). option_map (λ k. act.Operator k) o) (kind_is other)
act_is act.Skip m = refl

abbrev change : ℕ → ℕ → Act → Change
change n k a = record { cycle = n; op = k; act = a }

change_is : (n k : ℕ) (a : Act) → n < most_cycles → k < 2 ^ 32 → Small a → change_of (site_words (site n k a)) ≡ Some (change n k a)
change_is n k a h l m =
    ap (λ (o : Option ℕ). option_and_then
    (λ n. option_and_then (λ k. option_map (λ a. change n k a) (act_of (verb_word a) (rest_words a))) (index_of (decimal k))) o)
    (cycle_is n h)
    ∙ (ap (λ (o : Option ℕ). option_and_then (λ k. option_map (λ a. change n k a) (act_of (verb_word a) (rest_words a))) o) (index_is k l)
    ∙ ap (λ (o : Option Act). option_map (λ a. change n k a) o) (act_is a m))

fitting : (number : ℕ) (c : Change) (op : Op) → is_sited op.kind c.op c.act ≡ true → is_timely c.cycle c.act ≡ true → is_alike op.kind c.act ≡ true
    → fault_at number c (Some op) ≡ Ok (record { line = number; cycle = c.cycle; op = c.op; act = c.act })
fitting number c op h k l = rw (h, k, l) refl

fault_is : (g : Lists) (number : ℕ) (s : Site) → length g.operations ≤ 2 ^ 32 → s.op < 2 ^ 32 → Fits g (as_fault 0 s)
    → fault_of g (record { number = number; text = joined (site_words s) }) ≡ Ok (as_fault number s)
fault_is g number s few l fit =
    let m : Small s.act = small fit.op.kind s.op s.cycle s.act l fit.act in
    let n32 : s.cycle < 2 ^ 32 = omega (arith, fit.cycle) in
    ap (λ (ws : List (List ℕ)). fault_if g number (change_of ws)) (words_are (site_words s) (all_shown s.cycle s.op s.act n32 l m))
    ∙ (ap (λ (o : Option Change). fault_if g number o) (change_is s.cycle s.op s.act fit.cycle l m)
    ∙ (ap (λ (o : Option Op). fault_at number (change s.cycle s.op s.act) o) fit.there
    ∙ fitting number (change s.cycle s.op s.act) fit.op fit.act.sited fit.act.timely fit.act.alike))

-- ---- the whole

not_skipped : (n k : ℕ) (a : Act) → is_skipped (joined (site_words (site n k a))) ≡ false
not_skipped n k (act.OperandAdd j e) = refl
not_skipped n k (act.OperandFrom j r) = refl
not_skipped n k (act.OperandStale j) = refl
not_skipped n k (act.ResultAdd e) = refl
not_skipped n k (act.Operator other) = refl
not_skipped n k act.Skip = refl

item_is : (g : Lists) (before number : ℕ) (s : Site) → before < most_faults → length g.operations ≤ 2 ^ 32 → s.op < 2 ^ 32 → Fits g (as_fault 0 s)
    → item_of g before (record { number = number; text = joined (site_words s) }) ≡ says (Ok (as_fault number s))
item_is g before number s room few l fit =
    let line : Line = record { number = number; text = joined (site_words s) } in
    let m : Small s.act = small fit.op.kind s.op s.cycle s.act l fit.act in
    let n32 : s.cycle < 2 ^ 32 = omega (arith, fit.cycle) in
    let lower : nat_lt before most_faults ≡ true = grind (arith, nat_tests) in
    ap (λ (ws : List (List ℕ)). item_by g before line (mark_of ws)) (words_are (site_words s) (all_shown s.cycle s.op s.act n32 l m))
    ∙ (ap (λ (b : Bool). says (cond b (fault_of g line) (Err (refusal.Faults number)))) lower
    ∙ ap (λ (r : Result Fault ScriptFault). says r) (fault_is g number s few l fit))

pub there_few : (g : Lists) (k : ℕ) (op : Op) → slice_get g.operations k ≡ Some op → length g.operations ≤ 2 ^ 32 → k < 2 ^ 32
there_few g k op there few = let within : k < length g.operations = slice_get_within g.operations k op there in omega arith

abbrev pub Groups : Type 0
Groups = Result (List (List Fault)) ScriptFault

-- the line of a site, before any text
pub line_back : (g : Lists) (s : Site) (rest : List ℕ) (number before : ℕ) → length g.operations ≤ 2 ^ 32 → before < most_faults
    → Fits g (as_fault 0 s)
    → items_of g before (read_lines number (lines (site_text s ++ rest)))
    ≡ says (Ok (as_fault number s)) ∷ items_of g (before + 1) (read_lines (number + 1) (lines rest))
line_back g s rest number before few room here =
    let l : s.op < 2 ^ 32 = there_few g s.op here.op here.there few in
    let m : Small s.act = small here.op.kind s.op s.cycle s.act l here.act in
    let n32 : s.cycle < 2 ^ 32 = omega (arith, here.cycle) in
    let text : List ℕ = joined (site_words s) in
    let first : site_text s ++ rest ≡ text ++ 10 ∷ rest =
    append_assoc (site_line s) (10 ∷ []) rest ∙ ap (λ (t : List ℕ). t ++ 10 ∷ rest) (line_is s.cycle s.op s.act) in
    let cut : lines (site_text s ++ rest) ≡ text ∷ lines rest =
    ap lines first ∙ line_first text rest (plain_joined (site_words s) (all_shown s.cycle s.op s.act n32 l m)) in
    let line : Line = record { number = number; text = text } in
    let more : List Line = read_lines (number + 1) (lines rest) in
    ap (λ (ls : List (List ℕ)). items_of g before (read_lines number ls)) cut
    ∙ (ap (λ (b : Bool). items_of g before (cond b more (line ∷ more))) (not_skipped s.cycle s.op s.act)
    ∙ ap (λ (i : Item). i ∷ items_of g (counted before i) more) (item_is g before number s room few l here))

come_back : (g : Lists) (xs : List Site) (number before : ℕ) → length g.operations ≤ 2 ^ 32 → before + length xs ≤ most_faults
    → All (λ s. Fits g (as_fault 0 s)) xs → groups_of (items_of g before (read_lines number (lines (site_lines xs)))) None ≡ Ok (said_from number xs)
come_back g [] number before few room fit = refl
come_back g (s ∷ xs) number before few room fit =
    let here : Fits g (as_fault 0 s) = All-head (λ s. Fits g (as_fault 0 s)) s xs fit in
    ap (λ (is : List Item). groups_of is None) (line_back g s (site_lines xs) number before few (omega arith) here)
    ∙ ap (λ (r : Groups). onto (as_fault number s ∷ []) r)
    (come_back g xs (number + 1) (before + 1) few (omega arith) (All-tail (λ s. Fits g (as_fault 0 s)) s xs fit))

plain_all : (xs : List ℕ) → All (λ b. 32 ≤ b) xs → list_all plain xs ≡ true
plain_all [] h = refl
plain_all (c ∷ xs) h =
    let first : 32 ≤ c = All-head (λ b. 32 ≤ b) c xs h in
    let here : plain c ≡ true = grind (arith, nat_tests) in
    both_and (plain c) (list_all plain xs) here (plain_all xs (All-tail (λ b. 32 ≤ b) c xs h))

regroup : (name digest rest : List ℕ)
    → (codes "# sites " ++ (name ++ (codes " of " ++ (digest ++ codes "\n")))) ++ rest ≡ (codes "# sites " ++ (name ++ (codes " of " ++ digest))) ++ 10 ∷ rest
regroup name digest rest = simp append_assoc

plain_remark : (name digest : List ℕ) → list_all plain name ≡ true → list_all plain digest ≡ true
    → list_all plain (codes "# sites " ++ (name ++ (codes " of " ++ digest))) ≡ true
plain_remark name digest h k =
    list_all-append plain name (codes " of " ++ digest) ∙ both_and (list_all plain name) (list_all plain digest) h k

plain_name : (c : Classes) → list_all plain (classes_name c) ≡ true
plain_name (classes.One class.Bits) = refl
plain_name (classes.One class.Stale) = refl
plain_name (classes.One class.Skip) = refl
plain_name (classes.One class.From) = refl
plain_name (classes.One class.Operator) = refl
plain_name classes.All = refl

-- a text behind a remark
pub remark_back : (name digest : List ℕ) (g : Lists) (text : List ℕ) → list_all plain name ≡ true → All (λ b. 32 ≤ b) digest
    → script_of g (named_remark name digest ++ text) ≡ groups_of (items_of g 0 (read_lines 2 (lines text))) None
remark_back name digest g text named digits =
    let front : List ℕ = codes "# sites " ++ (name ++ (codes " of " ++ digest)) in
    let cut : lines (named_remark name digest ++ text) ≡ front ∷ lines text =
    ap lines (regroup name digest text) ∙ line_first front text (plain_remark name digest named (plain_all digest digits)) in
    ap (λ (ls : List (List ℕ)). groups_of (items_of g 0 (read_lines 1 ls)) None) cut

-- the lines of sites that fit
pub lines_read_back : (name digest : List ℕ) (g : Lists) (xs : List Site) → list_all plain name ≡ true → All (λ b. 32 ≤ b) digest
    → length g.operations ≤ 2 ^ 32 → length xs ≤ most_faults → All (λ s. Fits g (as_fault 0 s)) xs
    → script_of g (named_remark name digest ++ site_lines xs) ≡ Ok (said_from 2 xs)
lines_read_back name digest g xs named digits ops room fit =
    remark_back name digest g (site_lines xs) named digits ∙ come_back g xs 2 0 ops (omega (arith, room)) fit

pub read_back : (c : Classes) (digest : List ℕ) (g : Lists) (cycles : ℕ) (p : Part) → All (λ b. 32 ≤ b) digest → cycles ≤ most_cycles
    → length g.operations ≤ 2 ^ 32 → length (kept p (sites c g cycles)) ≤ most_faults
    → script_of g (sites_text c digest g cycles p) ≡ Ok (said_from 2 (kept p (sites c g cycles)))
read_back c digest g cycles p digits few ops room =
    let xs : List Site = kept p (sites c g cycles) in
    let P : Site → Type 0 = λ s. Fits g (as_fault 0 s) in
    let fit : All P xs = All-take P p.left (drop p.skip (sites c g cycles)) (All-drop P p.skip (sites c g cycles) (each_fits c g cycles 0 few)) in
    lines_read_back (classes_name c) digest g xs (plain_name c) digits ops room fit
