-- NamedEntries: which lines of a text are taken, and the first that is refused.
use Rattle.std.specs.Prelude.{ℕ, ◌+◌, Bool, false, not, cond, drop, nat_le, List, [], ◌∷◌, Option, Some, None, Result, Ok, Err, codes, bytes_eq}
use Rattle.std.specs.Str.Lines.{lines}
use Rattle.op_graph.specs.Lists.{Lists}
use Rattle.vcp_base.specs.Lines.{Line, read_lines}
use Rattle.vcp_base.specs.Words.{only, words}
use Rattle.fault_script.specs.ScriptOf.{most_faults}
use Rattle.fault_script.specs.declared.act.Act.{Act}
use Rattle.fault_sites.specs.NextWord.{first_is}
use Rattle.fault_sites.specs.declared.named.refused.Why.{Why}
use Rattle.fault_sites.specs.declared.named.refused.Why.TheVariants as reason
use Rattle.fault_sites.specs.declared.named.refused.Refused.{Refused}
use Rattle.fault_sites.specs.declared.named.when.Span.{Span}
use Rattle.fault_sites.specs.declared.named.meant.Meant.{Meant}
use Rattle.fault_sites.specs.NamedLines.{and_next, meant_of}
use Rattle.fault_sites.specs.NamedScript.{Entry, cycles_of, entries, script_text}

-- how many bytes a text may have, so that a file can have its script
abbrev pub most_named_bytes : ℕ
most_named_bytes = 262144

-- ---- the image

abbrev pub digest_behind : List (List ℕ) → Option (List ℕ)
digest_behind ws = cond (first_is (codes "of") ws) (only (drop 1 ws)) None

-- the digits of the image that the words of a first line name: `# of DIGEST`
abbrev pub image_named : List (List ℕ) → Option (List ℕ)
image_named ws = cond (first_is (codes "#") ws) (digest_behind (drop 1 ws)) None

abbrev pub is_other : List ℕ → Option (List ℕ) → Bool
is_other digest None = false
is_other digest (Some d) = not (bytes_eq d digest)

-- the first of these lines names another image
abbrev pub names_other : List ℕ → List (List ℕ) → Bool
names_other digest [] = false
names_other digest (l ∷ more) = is_other digest (image_named (words l))

-- ---- lines

abbrev pub other_count : Span → Option Act → ℕ
other_count s None = 0
other_count s (Some a) = cycles_of s

-- how many faults a line says
abbrev pub fault_count : Meant → ℕ
fault_count m = cycles_of m.span + other_count m.span m.acts.other

-- how many faults there are with those of a line, at most 10,000
abbrev pub counted : ℕ → Meant → Result ℕ Why
counted before m = cond (nat_le (before + fault_count m) most_faults) (Ok (before + fault_count m)) (Err reason.Faults)

-- the same of a line that isn't skipped: it means something, and then there aren't too many faults
abbrev pub taken : Lists → ℕ → List ℕ → Result ℕ Why
taken g before text = and_next (λ m. counted before m) (meant_of g (words text))

abbrev pub going : ℕ → (ℕ → Result (Unit {0}) Refused) → Result ℕ Why → Result (Unit {0}) Refused
going number next (Err why) = Err (record { line = number; why = why })
going number next (Ok n) = next n

-- whether these lines are taken, behind so many faults; or the first that is refused
abbrev pub lines_checked : Lists → ℕ → List Line → Result (Unit {0}) Refused
lines_checked g before [] = Ok tt
lines_checked g before (l ∷ more) = going l.number (λ n. lines_checked g n more) (taken g before l.text)

-- Whether a text is taken over a graph whose image has the digest; or the first line that is refused.
abbrev pub checked : List ℕ → Lists → List ℕ → Result (Unit {0}) Refused
checked digest g text =
    cond (names_other digest (lines text)) (Err (record { line = 1; why = reason.Image })) (lines_checked g 0 (read_lines 1 (lines text)))

-- ---- the script

-- the lines of a text that mean something
abbrev pub entries_in : Lists → List ℕ → List Entry
entries_in g text = entries g (read_lines 1 (lines text))

-- the script of a text
abbrev pub text_of_script : List ℕ → Lists → List ℕ → List ℕ
text_of_script digest g text = script_text digest (entries_in g text)
