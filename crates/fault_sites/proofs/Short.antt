-- Short: a script of at most 10,000 sites has few bytes.
use Rattle.std.proofs.Common.{◌≡◌, ℕ, suc, ◌+◌, ◌*◌, ◌^◌, ◌<◌, ◌≤◌, true, List, [], ◌∷◌, ◌++◌, length, drop, All, ℤ, pos, negsuc, decimal, codes, arith, length-append}
use Rattle.std.specs.Fmt.{signed_decimal}
use Rattle.std.proofs.lemmas.Fmt.{length-decimal-le}
use Rattle.std.proofs.lemmas.List.Elements.{All-head, All-tail, All-take, All-drop}
use Rattle.vcp_base.specs.Limits.{most_cycles, most_source_bytes}
use Rattle.vcp_base.specs.declared.kind.Kind.{Kind}
use Rattle.vcp_base.specs.Spellings.{kind_name}
use Rattle.op_graph.specs.Lists.{Lists}
use Rattle.fault_script.specs.declared.act.Act.{Act}
use Rattle.fault_script.specs.declared.act.Act.TheVariants as act
use Rattle.fault_script.specs.Fits.{Fits}
use Rattle.fault_script.specs.Forms.{is_addend}
use Rattle.fault_script.specs.ScriptOf.{most_faults}
use Rattle.fault_sites.specs.declared.class.Class.TheVariants as class
use Rattle.fault_sites.specs.declared.class.Classes.{Classes}
use Rattle.fault_sites.specs.declared.class.Classes.TheVariants as classes
use Rattle.fault_sites.specs.declared.part.Part.{Part}
use Rattle.fault_sites.specs.declared.site.Site.{Site}
use Rattle.fault_sites.specs.Part.{kept}
use Rattle.fault_sites.specs.Sites.{as_fault, sites, site}
use Rattle.fault_sites.specs.SiteText.{classes_name, named_remark, rest, site_line, site_lines, sites_text, verb}
use Rattle.fault_sites.proofs.ReadBack.{Small, small, there_few}
use Rattle.fault_sites.proofs.SitesFit.{each_fits}
use Rattle.fault_sites.proofs.Spelled.{low, low_negative}

number_short : (n : ℕ) → n < 2 ^ 64 → length (decimal n) ≤ 20
number_short n h = length-decimal-le 20 n (omega arith) (omega arith) h

signed_short : (e : ℤ) → is_addend e ≡ true → length (signed_decimal e) ≤ 21
signed_short (pos n) h = omega (arith, number_short n (low n h))
signed_short (negsuc n) h = omega (arith, number_short (suc n) (low_negative n h))

kind_short : (k : Kind) → length (kind_name k) ≤ 5
kind_short k = grind arith

verb_short : (a : Act) → length (verb a) ≤ 9
verb_short a = grind arith

behind_number : (j : ℕ) (t : List ℕ) (most : ℕ) → j < 2 ^ 32 → length t ≤ most → length (decimal j ++ t) ≤ 20 + most
behind_number j t most h l = omega (arith, length-append (decimal j) t, number_short j (omega arith), l)

rest_short : (a : Act) → Small a → length (rest a) ≤ 48
rest_short (act.OperandAdd j e) h =
    omega (arith, behind_number j (codes " add " ++ signed_decimal e) 26 h.0 (omega (arith, signed_short e h.1)))
rest_short (act.OperandFrom j r) h =
    omega (arith, behind_number j (codes " from " ++ decimal r) 26 h.0 (omega (arith, number_short r (omega (arith, h.1)))))
rest_short (act.OperandStale j) h = omega (arith, behind_number j (codes " stale") 6 h (omega arith))
rest_short (act.ResultAdd e) h = omega (arith, signed_short e h)
rest_short (act.Operator other) h = omega (arith, kind_short other)
rest_short act.Skip h = omega arith

line_short : (n k : ℕ) (a : Act) → n < 2 ^ 32 → k < 2 ^ 32 → Small a → length (site_line (site n k a)) ≤ 98
line_short n k a h l m =
    let behind : length (decimal k ++ rest a) ≤ 20 + 48 = behind_number k (rest a) 48 l (rest_short a m) in
    let more : length (decimal n ++ (codes " " ++ (decimal k ++ rest a))) ≤ 20 + 69 =
    behind_number n (codes " " ++ (decimal k ++ rest a)) 69 h (omega (arith, behind)) in
    omega (arith, length-append (verb a) (decimal n ++ (codes " " ++ (decimal k ++ rest a))), verb_short a, more)

pub lines_short : (g : Lists) (xs : List Site) → length g.operations ≤ 2 ^ 32 → All (λ s. Fits g (as_fault 0 s)) xs → length (site_lines xs) ≤ length xs * 99
lines_short g [] few fit = omega arith
lines_short g (s ∷ xs) few fit =
    let here : Fits g (as_fault 0 s) = All-head (λ s. Fits g (as_fault 0 s)) s xs fit in
    let l : s.op < 2 ^ 32 = there_few g s.op here.op here.there few in
    let m : Small s.act = small here.op.kind s.op s.cycle s.act l here.act in
    let first : length (site_line s) ≤ 98 = line_short s.cycle s.op s.act (omega (arith, here.cycle)) l m in
    let more : length (site_lines xs) ≤ length xs * 99 = lines_short g xs few (All-tail (λ s. Fits g (as_fault 0 s)) s xs fit) in
    omega (arith, first, more, length-append (site_line s) (codes "\n"), length-append (site_line s ++ codes "\n") (site_lines xs))

name_short : (c : Classes) → length (classes_name c) ≤ 8
name_short (classes.One class.Bits) = omega arith
name_short (classes.One class.Stale) = omega arith
name_short (classes.One class.Skip) = omega arith
name_short (classes.One class.From) = omega arith
name_short (classes.One class.Operator) = omega arith
name_short classes.All = omega arith

pub text_short : (name digest : List ℕ) (g : Lists) (xs : List Site) → length name ≤ 8 → length digest ≤ 1000 → length g.operations ≤ 2 ^ 32
    → length xs ≤ most_faults → All (λ s. Fits g (as_fault 0 s)) xs → length (named_remark name digest ++ site_lines xs) ≤ most_source_bytes
text_short name digest g xs few_letters few_digits ops room fit =
    omega (
      arith,
      lines_short g xs ops fit,
      few_letters,
      length-append name (codes " of " ++ (digest ++ codes "\n")),
      length-append digest (codes "\n"),
      length-append (codes "# sites " ++ (name ++ (codes " of " ++ (digest ++ codes "\n")))) (site_lines xs),
    )

pub is_short : (c : Classes) (digest : List ℕ) (g : Lists) (cycles : ℕ) (p : Part) → length digest ≤ 1000 → cycles ≤ most_cycles
    → length g.operations ≤ 2 ^ 32 → length (kept p (sites c g cycles)) ≤ most_faults → length (sites_text c digest g cycles p) ≤ most_source_bytes
is_short c digest g cycles p few_digits few ops room =
    let xs : List Site = kept p (sites c g cycles) in
    let P : Site → Type 0 = λ s. Fits g (as_fault 0 s) in
    let fit : All P xs = All-take P p.left (drop p.skip (sites c g cycles)) (All-drop P p.skip (sites c g cycles) (each_fits c g cycles 0 few)) in
    text_short (classes_name c) digest g xs (name_short c) few_digits ops room fit
