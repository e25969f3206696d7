-- Checked: what is known of a text that is taken.
use Rattle.std.proofs.Common.{◌≡◌, ℕ, suc, ◌+◌, ◌-◌, ◌≤◌, ◌==◌, Bool, true, false, cond, nat_le, List, [], ◌∷◌, ◌++◌, length, All, None, Result, Ok, Err, codes, slice_index, take, refl, sym, ap, subst, ◌∙◌, arith, append_assoc}
use Rattle.std.specs.List.{slice_split, onto_first}
use Rattle.std.specs.Str.Lines.{lines, lines_of_parts}
use Rattle.std.proofs.lemmas.Bool.Decides.{nat_tests}
use Rattle.std.proofs.lemmas.List.Elements.{All-nil, All-cons, All-head, All-tail, All-append, All-take}
use Rattle.std.proofs.lemmas.List.Splits.{slice_split-cons_yes, slice_split-cons_no}
use Rattle.op_graph.specs.Lists.{Lists}
use Rattle.vcp_base.specs.Lines.{Line, is_skipped, read_lines}
use Rattle.vcp_base.specs.Words.{words}
use Rattle.fault_script.specs.ScriptOf.{most_faults}
use Rattle.fault_sites.specs.Laws.{IsLineRead}
use Rattle.fault_sites.specs.declared.named.refused.Why.{Why}
use Rattle.fault_sites.specs.declared.named.refused.Why.TheVariants as reason
use Rattle.fault_sites.specs.declared.named.refused.Refused.{Refused}
use Rattle.fault_sites.specs.declared.named.meant.Meant.{Meant}
use Rattle.fault_sites.specs.NamedLines.{and_next, meant_of}
use Rattle.fault_sites.specs.NamedScript.{Entry, entry_of, entries, entry_texts}
use Rattle.fault_sites.specs.NamedEntries.{fault_count, counted, taken, going, lines_checked, names_other, checked}
use Rattle.fault_sites.specs.NamedLaws.{IsCompiled, IsShortEnough}
use Rattle.fault_sites.proofs.NamedShort.{script_short, texts_sum}
use Rattle.fault_sites.proofs.Fitted.{meant_fits}
use Rattle.fault_sites.proofs.NamedReadBack.{AllEntriesFit, total, all_read, remark_read, Comes, all_so}

-- ---- lines have no LF

abbrev NoFeed : List ℕ → Type 0
NoFeed xs = All (λ c. (c == 10) ≡ false) xs

abbrev EachNoFeed : List (List ℕ) → Type 0
EachNoFeed [] = Unit {0}
EachNoFeed (x ∷ xs) = NoFeed x × EachNoFeed xs

onto_first_plain : (c : ℕ) (parts : List (List ℕ)) → (c == 10) ≡ false → EachNoFeed parts → EachNoFeed (onto_first c parts)
onto_first_plain c [] h k = (All-cons (λ c. (c == 10) ≡ false) c [] h (All-nil (λ c. (c == 10) ≡ false)), tt)
onto_first_plain c (x ∷ xs) h k = (All-cons (λ c. (c == 10) ≡ false) c x h k.0, k.1)

parts_by : (c : ℕ) (xs : List ℕ) (b : Bool) → (c == 10) ≡ b → EachNoFeed (slice_split (λ b. b == 10) xs) → EachNoFeed (slice_split (λ b. b == 10) (c ∷ xs))
parts_by c xs true is h = subst EachNoFeed (sym (slice_split-cons_yes (λ b. b == 10) c xs is)) (All-nil (λ c. (c == 10) ≡ false), h)
parts_by c xs false is h =
    subst EachNoFeed (sym (slice_split-cons_no (λ b. b == 10) c xs is)) (onto_first_plain c (slice_split (λ b. b == 10) xs) is h)

parts_plain : (xs : List ℕ) → EachNoFeed (slice_split (λ b. b == 10) xs)
parts_plain [] = (All-nil (λ c. (c == 10) ≡ false), tt)
parts_plain (c ∷ xs) = parts_by c xs (c == 10) refl (parts_plain xs)

cut_plain : (b : Bool) (n : ℕ) (xs : List ℕ) → NoFeed xs → NoFeed (cond b (take n xs) xs)
cut_plain true n xs h = All-take (λ c. (c == 10) ≡ false) n xs h
cut_plain false n xs h = h

last_plain : (b : Bool) (x : List ℕ) → NoFeed x → EachNoFeed (cond b [] (x ∷ []))
last_plain true x h = tt
last_plain false x h = (h, tt)

lines_by : (parts : List (List ℕ)) → EachNoFeed parts → EachNoFeed (lines_of_parts parts)
lines_by [] h = tt
lines_by (x ∷ []) h = last_plain (length x == 0) x h.0
lines_by (x ∷ y ∷ more) h = (cut_plain (slice_index x (length x - 1) == 13) (length x - 1) x h.0, lines_by (y ∷ more) h.1)

abbrev LinesNoFeed : List Line → Type 0
LinesNoFeed [] = Unit {0}
LinesNoFeed (l ∷ ls) = NoFeed l.text × LinesNoFeed ls

read_if : (b : Bool) (number : ℕ) (text : List ℕ) (more : List Line) → NoFeed text → LinesNoFeed more
    → LinesNoFeed (cond b more (record { number = number; text = text } ∷ more))
read_if true number text more h k = k
read_if false number text more h k = (h, k)

read_plain : (number : ℕ) (ls : List (List ℕ)) → EachNoFeed ls → LinesNoFeed (read_lines number ls)
read_plain number [] h = tt
read_plain number (x ∷ xs) h = read_if (is_skipped x) number x (read_lines (number + 1) xs) h.0 (read_plain (number + 1) xs h.1)

-- ---- lines that are taken

-- these lines are taken, behind so many faults
record Taken (g : Lists) (before : ℕ) (ls : List Line) : Type 0 where
  pub fit : AllEntriesFit g (entries g ls)
  pub few : before + total (entries g ls) ≤ most_faults
  pub whole : length (entries g ls) ≡ length ls

record One (g : Lists) (before : ℕ) (text : List ℕ) (n : ℕ) : Type 0 where
  pub m : Meant
  pub is : meant_of g (words text) ≡ Ok m
  pub few : n ≤ most_faults
  pub more : n ≡ before + fault_count m

counted_if : (before n : ℕ) (m : Meant) (b : Bool) → nat_le (before + fault_count m) most_faults ≡ b
    → cond b (Ok (before + fault_count m)) (Err reason.Faults) ≡ Ok n → (n ≤ most_faults) × (n ≡ before + fault_count m)
counted_if before n m true is h =
    let same : before + fault_count m ≡ n = cc in
    let low : n ≤ most_faults = grind (arith, nat_tests) in (low, sym same)
counted_if before n m false is h = absurd cc

one_taken : (g : Lists) (before : ℕ) (text : List ℕ) (n : ℕ) (r : Result Meant Why) → meant_of g (words text) ≡ r
    → and_next (λ m. counted before m) r ≡ Ok n → One g before text n
one_taken g before text n (Err e) is h = absurd cc
one_taken g before text n (Ok m) is h =
    let (few, more) = counted_if before n m (nat_le (before + fault_count m) most_faults) refl h in record { m = m; is = is; few = few; more = more }

with_entry : (g : Lists) (before : ℕ) (l : Line) (ls : List Line) (n : ℕ) → One g before l.text n → NoFeed l.text → Taken g n ls → Taken g before (l ∷ ls)
with_entry g before l ls n one plain rest =
    let e : Entry = record { text = l.text; meant = one.m } in
    let same : entries g (l ∷ ls) ≡ e ∷ entries g ls = ap (λ (r : Result Meant Why). entry_of l.text r ++ entries g ls) one.is in
    let few : before + total (e ∷ entries g ls) ≤ most_faults = omega (arith, rest.few, one.more) in
    let whole : length (e ∷ entries g ls) ≡ length (l ∷ ls) = ap suc rest.whole in
    record {
      fit = subst (AllEntriesFit g) (sym same) ((meant_fits g (words l.text) one.m one.is, plain), rest.fit);
      few = subst (λ (es : List Entry). before + total es ≤ most_faults) (sym same) few;
      whole = subst (λ (es : List Entry). length es ≡ length (l ∷ ls)) (sym same) whole;
    }

after_line : (g : Lists) (before : ℕ) (l : Line) (ls : List Line) (r : Result ℕ Why) → NoFeed l.text → taken g before l.text ≡ r
    → ((n : ℕ) → n ≤ most_faults → lines_checked g n ls ≡ Ok tt → Taken g n ls) → going l.number (λ n. lines_checked g n ls) r ≡ Ok tt
    → Taken g before (l ∷ ls)
after_line g before l ls (Err e) plain is next h = absurd cc
after_line g before l ls (Ok n) plain is next h =
    let one : One g before l.text n = one_taken g before l.text n (meant_of g (words l.text)) refl is in
    with_entry g before l ls n one plain (next n one.few h)

lines_taken : (g : Lists) (before : ℕ) (ls : List Line) → before ≤ most_faults → LinesNoFeed ls → lines_checked g before ls ≡ Ok tt → Taken g before ls
lines_taken g before [] low plain h = record { fit = tt; few = omega arith; whole = refl }
lines_taken g before (l ∷ ls) low plain h =
    after_line g before l ls (taken g before l.text) plain.0 refl (λ n few k. lines_taken g n ls few plain.1 k) h

-- ---- the whole

not_other : (b : Bool) (w : Refused) (r : Result (Unit {0}) Refused) → cond b (Err w) r ≡ Ok tt → r ≡ Ok tt
not_other true w r h = absurd cc
not_other false w r h = h

no_feeds : (digest : List ℕ) → All (λ b. 32 ≤ b) digest → NoFeed digest
no_feeds [] h = All-nil (λ c. (c == 10) ≡ false)
no_feeds (c ∷ xs) h =
    let low : 32 ≤ c = All-head (λ b. 32 ≤ b) c xs h in
    let here : (c == 10) ≡ false = grind (arith, nat_tests) in
    All-cons (λ c. (c == 10) ≡ false) c xs here (no_feeds xs (All-tail (λ b. 32 ≤ b) c xs h))

first_line : (digest rest : List ℕ) → codes "# sites named of " ++ (digest ++ (codes "\n" ++ rest)) ≡ 35 ∷ 32 ∷ (codes "sites named of " ++ digest) ++ 10 ∷ rest
first_line digest rest = simp append_assoc

end_read : (g : Lists) (n b : ℕ) → Comes g n b (codes "# end\n") None ≡ Ok []
end_read g n b = refl

all_taken : (digest : List ℕ) (g : Lists) (text : List ℕ) → checked digest g text ≡ Ok tt → Taken g 0 (read_lines 1 (lines text))
all_taken digest g text is =
    let ls : List Line = read_lines 1 (lines text) in
    let no_feed : LinesNoFeed ls = read_plain 1 (lines text) (lines_by (slice_split (λ b. b == 10) text) (parts_plain text)) in
    lines_taken g 0 ls (omega arith) no_feed
    (not_other (names_other digest (lines text)) (record { line = 1; why = reason.Image }) (lines_checked g 0 ls) is)

pub compiled : IsLineRead → IsCompiled
compiled law digest g text plain few is =
    let all : Taken g 0 (read_lines 1 (lines text)) = all_taken digest g text is in
    let es : List Entry = entries g (read_lines 1 (lines text)) in
    let P : ℕ → Type 0 = λ c. (c == 10) ≡ false in
    let word : NoFeed (codes "sites named of " ++ digest) =
    All-append P (codes "sites named of ") digest (all_so (codes "sites named of ") refl) (no_feeds digest plain) in
    record {
      whole = all.whole;
      read =
          ap (λ (t : List ℕ). Comes g 1 0 t None) (first_line digest (entry_texts es ++ codes "# end\n"))
          ∙ (remark_read g 1 0 (codes "sites named of " ++ digest) (entry_texts es ++ codes "# end\n") None word
          ∙ all_read law g es (codes "# end\n") 2 0 few all.few all.fit (end_read g));
    }

pub is_short : IsShortEnough
is_short digest g text digits few short is =
    let all : Taken g 0 (read_lines 1 (lines text)) = all_taken digest g text is in
    script_short digest g (read_lines 1 (lines text)) digits few all.fit (omega (arith, all.few)) (omega (arith, short, texts_sum text))
