-- Tasks: what each command comes to, where the files hold this, a line a command. The files' count of those that broke was b before, and is n.
use Rattle.std.specs.Prelude.{ℕ, List, [], Some, None, ◌≡◌}
use Rattle.vcp_base.specs.Limits.{most_image_bytes, most_rows_bytes}
use Rattle.vcp_outside.specs.Held.{Held}
use Rattle.fault_sites.specs.NamedEntries.{most_named_bytes}
use Rattle.fault_sites.specs.Rests.{groups}
use Rattle.fault_sites.specs.RunSites.{run_class_name, run_sites as run_sites_of}
use Rattle.fault_sites.specs.Laws.{Distinct}
use Rattle.fault_sites.specs.SiteText.{classes_name}
use Rattle.fault_sites.specs.Sites.{sites as sites_of}
use Rattle.pictures.specs.DotText.{IsDotOf}
use Rattle.pictures.specs.Elements.{IsGraphPicture}
use Rattle.verdict_tables.specs.SameEndings.{endings_over, sum_apart_text}
use Rattle.verdict_tables.specs.SumText.{sum_text}
use Rattle.vcp_inputs.specs.declared.images.Image.{Image}
use Rattle.vcp_inputs.specs.Files.{FileRead, Loads}
use Rattle.vcp_inputs.specs.Images.{ImageOf, NotImage}
use Rattle.il_front.specs.Answers.{most_il_bytes}
use Rattle.vcp_inputs.specs.Answer.{Answer}
use Rattle.vcp_study_core.specs.Forms.{Form, waves, list_image, list_text, on, Study, graph, dot, ranges, cover, sites, run_sites, rest_sites, sum, sum_apart, faults, script_named}
use Rattle.vcp_study_core.specs.FromFiles.{FromFiles, OfLoads, Onward}
use Rattle.vcp_study_core.specs.Lists.{ListImage, ListText}
use Rattle.vcp_study_core.specs.Parts.{PartFrom, PartsFrom, RowsFrom, RangesFrom}
use Rattle.vcp_study_core.specs.Texts.{WritesOne, Draws, Weighed, Waves, IsRanged, IsCover, Chooses, ChoosesGroups, NamedScript, ShowsPart, sums_up}

-- the bytes of the file under a name
abbrev pub BytesFrom : List ℕ → ℕ → Held → ℕ → ℕ → FromFiles (List ℕ) → Type 0
BytesFrom name most held b n r = OfLoads (FileRead held name most b n) name r

-- the image that the file under a name is
abbrev pub ImageFrom : List ℕ → Held → ℕ → ℕ → FromFiles Image → Type 0
ImageFrom m held b n r = OfLoads (Loads ImageOf NotImage held m most_image_bytes b n) m r

-- ---- commands on an image, M

abbrev pub StudyOf : Study → List ℕ → Image → Held → ℕ → ℕ → Answer → Type 0
-- `graph M HORIZON` and `dot M HORIZON` write a picture of the image's graph up to the horizon, and its text for Graphviz; or M is refused where the graph is
-- too large for an audit.
StudyOf (graph horizon) m i held b n x = Weighed horizon m i (Draws (IsGraphPicture i.graph horizon)) x
StudyOf (dot horizon) m i held b n x = Weighed horizon m i (Draws (IsDotOf i.graph horizon)) x
-- `ranges M` writes what is reported of the operations of the image's graph, and finds whether one is named that may stop; with `--inputs FILE` on rows whose
-- inputs are in the ranges that the table FILE has.
StudyOf (ranges all None) m i held b n x = WritesOne (IsRanged i.graph [] all) x
StudyOf (ranges all (Some name)) m i held b n x = Onward (RangesFrom name i held) (λ inputs k n. WritesOne (IsRanged i.graph inputs all)) b n x
-- `cover M HORIZON CLASS` writes what becomes, in every run, of each fault of the class at the image's operations: each fault is counted once under what is
-- reported of it, each that shows has its line, and each other that is neither `refused` nor `nothing` is in its operation's line. It finds whether there are
-- any of those. M is refused where its graph is too large for an audit.
StudyOf (cover horizon classes) m i held b n x = Weighed horizon m i (IsCover i horizon classes) x
-- `sites M CYCLES CLASS` and `sites M ROWS CLASS` write the script of the class's sites in the image's graph, and of those in its run over all rows, or
-- up to its stop: all, or a part of them, behind a remark with the image's digest. Read back, it is exactly these faults, a group each, in their order, of
-- which none comes twice. Or their number is written. M is refused where the script would have more than 10,000 faults.
StudyOf (sites cycles classes which) m i held b n x =
    Distinct (sites_of classes i.graph cycles) × Chooses m i (classes_name classes) (sites_of classes i.graph cycles) which x
StudyOf (run_sites rows class which) m i held b n x =
    Onward (RowsFrom rows i held)
    (λ list k n x. Distinct (run_sites_of class i.table i.graph list) × Chooses m i (run_class_name class) (run_sites_of class i.table i.graph list) which x) b n x
-- `sites M CYCLES rest` writes, in the same way, the script of the groups in which a word of one of these cycles changes between two of its readings: one
-- number is added in each of the later ones. A part counts groups, and the script ends before the group with which it would have more than 10,000
-- faults. Read back, it is exactly these groups. M is refused where the first group alone has more.
StudyOf (rest_sites cycles which) m i held b n x = ChoosesGroups m i (groups i.graph cycles) which x
-- `sum M SCRIPT VERDICTS ..` writes the tables of the verdicts that each VERDICTS has of the groups of its SCRIPT over the image, one count over all groups
-- of all these parts, in order, and finds whether one of the verdicts is `wrong` or `ran-on`, so that a fault is unseen. With ROWS there is one table more,
-- in which the groups whose verdict is `same` are distinguished by their runs over all rows: never reached, died out, or in a cell at the end.
StudyOf (sum names) m i held b n x = Onward (PartsFrom i names held) (λ parts k n x. x ≡ sums_up parts (sum_text i.graph parts)) b n x
StudyOf (sum_apart names rows) m i held b n x =
    Onward (RowsFrom rows i held)
    (λ list. Onward (PartsFrom i names held) (λ parts k n x. x ≡ sums_up parts (sum_apart_text i.graph parts (endings_over i.table i.graph list parts)))) b n x
-- `faults M SCRIPT VERDICTS` writes the picture of the image's graph, each operation in the colour of the worst of the verdicts that VERDICTS has of the
-- groups of SCRIPT that have a fault there, and finds whether a fault is unseen.
StudyOf (faults names) m i held b n x = Onward (PartFrom i names held) (λ p k n. ShowsPart i.graph p) b n x
-- `script M NAMED` writes the script of the lines of NAMED, which are all taken over the image. Read back, it is the faults that these lines name, and it
-- has at most 1,048,576 bytes. NAMED is refused at its first line that isn't taken.
StudyOf (script_named name) m i held b n x = Onward (BytesFrom name most_named_bytes held) (λ text k n. NamedScript name i text) b n x

-- ---- all commands

-- `waves FILE` writes the timing diagram of the run that FILE has, and with `--cycle-time TIME` when its cycles begin. `image P CODE` writes the image of
-- the instruction list P with the numbers of the code: that of a graph that stands for the list's typed program, whose run over all rows that fit is the
-- list's on the accumulator. `text P` writes the list as a program in Structured Text that has, over all rows that fit, the list's run, but for the place of
-- a stop. All others end where M is lacking or no image, with its line; then, for want of the first of their other files of which there is nothing.
abbrev pub TaskOf : Form → Held → ℕ → ℕ → Answer → Type 0
TaskOf (waves file period) held b n x = Onward (BytesFrom file most_rows_bytes held) (λ text k n. Waves period file text) b n x
TaskOf (list_image p code) held b n x = Onward (BytesFrom p most_il_bytes held) (λ text k n. ListImage p text code) b n x
TaskOf (list_text p) held b n x = Onward (BytesFrom p most_il_bytes held) (λ text k n. ListText p text) b n x
TaskOf (on m study) held b n x = Onward (ImageFrom m held) (λ i. StudyOf study m i held) b n x
