-- Covering: what is found of all faults, as a text.
use Rattle.std.proofs.Common.{◌≡◌, ℕ, ◌+◌, ◌*◌, ◌<◌, ◌^◌, ◌==◌, Bool, true, false, cond, List, [], ◌∷◌, ◌++◌, length, flat_map, All, codes, slice_get}
use Rattle.std.proofs.Common.{Some, IfOk, Result, Ok, Err}
use Rattle.std.proofs.Common.{refl, sym, ap, ap₂, subst, ◌∙◌, arith, append_assoc, length-append}
use Rattle.std.specs.List.{filter}
use Rattle.std.proofs.lemmas.List.Elements.{All-cons, All-get_or, All-nil}
use Rattle.std.proofs.lemmas.List.Sums.{sum_by-cons}
use Rattle.std.proofs.lemmas.Option.{get_or_from_slice_get, slice_get_within}
use Rattle.op_graph.specs.Lists.{Lists}
use Rattle.fault_sites.specs.Sites.{each_below}
use Rattle.std.specs.Borrow.{GName}
use Rattle.vcp_outside.specs.declared.failed.Failed.{Failed}
use Rattle.vcp_outside.specs.Pens.{Ends, HasWritten, Penned, ended}
use Rattle.vcp_outside.specs.Seen.{SinkSeen}
use Rattle.fault_cover.specs.declared.class.CoverClass.{CoverClass}
use Rattle.fault_cover.specs.declared.class.CoverClasses.{CoverClasses}
use Rattle.fault_cover.specs.declared.counting.ClassCount.{ClassCount}
use Rattle.fault_cover.specs.declared.left.LeftLine.{LeftLine}
use Rattle.fault_cover.specs.declared.tally.Tally.{Tally}
use Rattle.fault_cover.specs.declared.effect.Effect.{Effect}
use Rattle.fault_cover.specs.declared.effect.Effect.TheVariants as told
use Rattle.fault_cover.specs.Classes.{Single, classes_of}
use Rattle.fault_cover.specs.Counts.{AreCounted}
use Rattle.fault_cover.specs.CoverText.{CoverOf, Covered, Heard, class_name, class_row, column_text, columns_text, count_told, cover_text, heard_at}
use Rattle.fault_cover.specs.CoverText.{heard_of, is_beyond, is_running_on}
use Rattle.fault_cover.specs.CoverText.{is_shown, leaves_any, left_text, lines_text, remark, row_text, shows_text, sum_of, tables_text, tally, totals_line}
use Rattle.fault_cover.specs.Leftovers.{AreCovered, beyond_line, key_if, key_line, keys_of, line_text, lines_at}
use Rattle.fault_cover.specs.Surveys.{IsSurvey, Surveyed}
use Rattle.fault_cover.specs.Telling.{Subject}
use Rattle.fault_cover.specs.declared.writing.Uncovered.TheVariants as uncovered
use Rattle.fault_cover.specs.Writing.{IsFound, IsSmall, WritesCover, body_text, count_row}
use Rattle.fault_cover.proofs.Below.{flat_below, nothing_below, same_below}
use Rattle.fault_cover.proofs.Tallying.{one_for, small}
use Rattle.fault_cover.proofs.Hearing.{heard_at_are}
use Rattle.fault_cover.proofs.Leaving.{heard_within, left_said}

-- ---- rows

front_few : (c : Covered) (covered : List Covered) → length (heard_of (c ∷ covered)) < 2 ^ 62 → length c.heard < 2 ^ 62
front_few c covered few = omega (arith, few, length-append c.heard (heard_of covered))

rest_few : (c : Covered) (covered : List Covered) → length (heard_of (c ∷ covered)) < 2 ^ 62 → length (heard_of covered) < 2 ^ 62
rest_few c covered few = omega (arith, few, length-append c.heard (heard_of covered))

pub rows_said : (counts : List ClassCount) (covered : List Covered) → AreCounted counts covered → length (heard_of covered) < 2 ^ 62
    → flat_map count_row counts ≡ flat_map class_row covered
rows_said [] [] are few = refl
rows_said [] (c ∷ covered) are few = absurd are
rows_said (n ∷ counts) [] are few = absurd are
rows_said (n ∷ counts) (c ∷ covered) are few =
    ap₂ (λ (xs ys : List ℕ). xs ++ ys)
    (ap₂ row_text (ap class_name are.0) (are.1 (front_few c covered few)).tally_is) (rows_said counts covered are.2 (rest_few c covered few))

pub all_small : (counts : List ClassCount) (covered : List Covered) → AreCounted counts covered → length (heard_of covered) < 2 ^ 62 → All IsSmall counts
all_small [] [] are few = All-nil IsSmall
all_small [] (c ∷ covered) are few = absurd are
all_small (n ∷ counts) [] are few = absurd are
all_small (n ∷ counts) (c ∷ covered) are few =
    All-cons IsSmall n counts
    (subst (λ (t : Tally). t.refused + t.nothing + t.shows + t.runs_on + t.beyond < 2 ^ 63) (sym (are.1 (front_few c covered few)).tally_is)
    (small c.heard (front_few c covered few)))
    (all_small counts covered are.2 (rest_few c covered few))

-- ---- where there is none

none_first : (is : Effect → Bool) (h : Heard) (heard : List Heard) → count_told is (h ∷ heard) ≡ 0 → (one_for (is h.told) ≡ 0) × (count_told is heard ≡ 0)
none_first is h heard none =
    let sum = sum_by-cons (λ (x : Heard). one_for (is x.told)) h heard in (omega (arith, sum, none), omega (arith, sum, none))

not_shown : (g : Lists) (f : Single) (x : Effect) → one_for (is_shown x) ≡ 0 → shows_text g f x ≡ []
not_shown g f (told.Refused b) none = refl
not_shown g f told.Nothing none = refl
not_shown g f (told.Shows b o) none = absurd (omega (arith, none))
not_shown g f (told.RunsOn b q) none = refl
not_shown g f told.Beyond none = refl

pub nothing_shown : (g : Lists) (heard : List Heard) → count_told is_shown heard ≡ 0 → flat_map (λ h. shows_text g h.fault h.told) heard ≡ []
nothing_shown g [] none = refl
nothing_shown g (h ∷ heard) none =
    let parts = none_first is_shown h heard none in
    ap₂ (λ (xs ys : List ℕ). xs ++ ys) (not_shown g h.fault h.told parts.0) (nothing_shown g heard parts.1)

not_running : (w : ℕ) (x : Effect) → one_for (is_running_on x) ≡ 0 → key_if w x ≡ []
not_running w (told.Refused b) none = refl
not_running w told.Nothing none = refl
not_running w (told.Shows b o) none = refl
not_running w (told.RunsOn b q) none = absurd (omega (arith, none))
not_running w told.Beyond none = refl

no_keys : (w : ℕ) (heard : List Heard) → count_told is_running_on heard ≡ 0 → keys_of w heard ≡ []
no_keys w [] none = refl
no_keys w (h ∷ heard) none =
    let parts = none_first is_running_on h heard none in
    ap₂ (λ (xs ys : List ℕ). xs ++ ys) (not_running w h.told parts.0) (no_keys w heard parts.1)

chosen_of : (is : Effect → Bool) (h : Heard) (kept : List Heard) (b : Bool) → one_for (is h.told) ≡ 0 → count_told is kept ≡ 0
    → count_told is (cond b (h ∷ kept) kept) ≡ 0
chosen_of is h kept true one rest = let sum = sum_by-cons (λ (x : Heard). one_for (is x.told)) h kept in omega (arith, sum, rest, one)
chosen_of is h kept false one rest = rest

none_chosen : (is : Effect → Bool) (p : Heard → Bool) (heard : List Heard) → count_told is heard ≡ 0 → count_told is (filter p heard) ≡ 0
none_chosen is p [] none = refl
none_chosen is p (h ∷ heard) none =
    let parts = none_first is h heard none in
    chosen_of is h (filter p heard) (p h) parts.0 (none_chosen is p heard parts.1)

no_lines : (g : Lists) (horizon : ℕ) (heard : List Heard) (k : ℕ) → count_told is_running_on heard ≡ 0 → count_told is_beyond heard ≡ 0
    → lines_at g horizon heard k ≡ []
no_lines g horizon heard k no_running no_beyond =
    let w = length g.operations in
    ap₂ (λ (keys : List ℕ) n. each_below (key_line k w keys) ((horizon + 1) * w) ++ beyond_line k n) (no_keys w heard no_running) no_beyond
    ∙ ap (λ xs. xs ++ beyond_line k 0) (nothing_below (key_line k w []) ((horizon + 1) * w) (λ i lt. refl))

pub nothing_left : (g : Lists) (horizon n : ℕ) (covered : List Covered) → count_told is_running_on (heard_of covered) ≡ 0
    → count_told is_beyond (heard_of covered) ≡ 0 → each_below (λ k. lines_at g horizon (heard_at covered k) k) n ≡ []
nothing_left g horizon n covered no_running no_beyond =
    nothing_below (λ k. lines_at g horizon (heard_at covered k) k) n
    (λ k lt. no_lines g horizon (heard_at covered k) k
    (none_chosen is_running_on (λ (h : Heard). h.fault.op == k) (heard_of covered) no_running)
    (none_chosen is_beyond (λ (h : Heard). h.fault.op == k) (heard_of covered) no_beyond))

-- ---- lines

pub lines_said : (s : Subject) (v : Surveyed) (classes : List CoverClass) (covered : List Covered) (lines : List LeftLine) → IsSurvey s v
    → AreCovered s classes covered → lines ≡ each_below (λ k. lines_at s.graph s.horizon (heard_at covered k) k) (length s.graph.operations)
    → flat_map (line_text s.graph) lines ≡ each_below (λ k. left_text s.graph s.horizon (heard_at covered k) k) (length s.graph.operations)
lines_said s v classes covered lines survey are is =
    ap (flat_map (line_text s.graph)) is
    ∙ flat_below (line_text s.graph) (λ k. lines_at s.graph s.horizon (heard_at covered k) k) (length s.graph.operations)
    ∙ same_below (λ k. flat_map (line_text s.graph) (lines_at s.graph s.horizon (heard_at covered k) k)) (λ k. left_text s.graph s.horizon (heard_at covered
    k) k)
    (length s.graph.operations)
    (λ k inside. left_said s.graph s.horizon (heard_at covered k) k
    (heard_within s v _ (heard_at covered k) survey (heard_at_are s classes covered k inside are)))

-- ---- the whole

pub whole_text : (g : Lists) (horizon : ℕ) (covered : List Covered) (classes : CoverClasses) (digest : List ℕ)
    → cover_text g horizon covered classes digest ≡ [] ++ remark classes horizon digest ++ body_text g horizon covered ++ codes "\n"
whole_text g horizon covered classes digest =
    let first = remark classes horizon digest in
    let tables = tables_text covered in
    let lines = lines_text g horizon covered in
    let totals = totals_line (tally (heard_of covered)) in
    ap (λ (xs : List ℕ). first ++ (tables ++ xs)) (sym (append_assoc lines totals (codes "\n")))
    ∙ ap (λ (xs : List ℕ). first ++ xs) (sym (append_assoc tables (lines ++ totals) (codes "\n")))
    ∙ sym (append_assoc first (tables ++ (lines ++ totals)) (codes "\n"))

pub cover_found : (s : Subject) (classes : CoverClasses) (digest : List ℕ) (counts : List ClassCount) (all : Tally) (lines : List LeftLine) (left : Bool)
    (list : List CoverClass) → list ≡ classes_of classes → (is : IsFound s list counts all lines) → left ≡ leaves_any all
    → CoverOf s classes digest (cover_text s.graph s.horizon is.covered classes digest) left
cover_found s classes digest counts all lines left list listed is tells = record {
  covered = is.covered;
  classes_are = is.are.classes_are ∙ listed;
  all = is.are.all;
  text_is = refl;
  left_is = tells ∙ ap leaves_any is.all_is;
}

-- the cover is written with a pen, whole or in part, for whom the sink comes back to
module _ {X : Type 0} {back left : X} {sink : SinkSeen} {name : GName} {pen : Penned} {text whole : List ℕ} {any : Bool} (s : Subject) (classes : CoverClasses)
    (digest : List ℕ) (seen : X → SinkSeen) (is_back : name ≡ pen.name → back ≡ left) (has : HasWritten sink name text pen) where
  pub cover_whole : {u : Unit {0}} → Ends pen (seen left) (codes "\n") (Ok u) → whole ≡ text ++ codes "\n" → CoverOf s classes digest whole any
      → WritesCover s classes digest sink (seen back) (Ok any)
  cover_whole ends is covers = (whole, covers, (ended seen is_back has ends is).whole)

  pub cover_part : {e : Failed} → Ends pen (seen left) (codes "\n") (Err e) → whole ≡ text ++ codes "\n" → CoverOf s classes digest whole any
      → WritesCover s classes digest sink (seen back) (Err uncovered.Failed)
  cover_part ends is covers =
      let writes = ended seen is_back has ends is in (whole, any, covers, writes.part, writes.cause.failed)

-- ---- columns

pub columns_said : (t : Tally) → columns_text t ++ codes "  "
    ≡ column_text (sum_of t) ++ (column_text t.refused ++ (column_text t.nothing ++ (column_text t.shows ++ (column_text t.runs_on ++ (column_text t.beyond
    ++ codes "  ")))))
columns_said t =
    append_assoc (column_text (sum_of t)) (column_text t.refused ++ (column_text t.nothing ++ (column_text t.shows ++ (column_text t.runs_on ++ column_text
    t.beyond)))) (codes "  ")
    ∙ ap (λ (xs : List ℕ). column_text (sum_of t) ++ xs)
    (append_assoc (column_text t.refused) (column_text t.nothing ++ (column_text t.shows ++ (column_text t.runs_on ++ column_text t.beyond))) (codes "  ")
    ∙ ap (λ (xs : List ℕ). column_text t.refused ++ xs)
    (append_assoc (column_text t.nothing) (column_text t.shows ++ (column_text t.runs_on ++ column_text t.beyond)) (codes "  ")
    ∙ ap (λ (xs : List ℕ). column_text t.nothing ++ xs)
    (append_assoc (column_text t.shows) (column_text t.runs_on ++ column_text t.beyond) (codes "  ")
    ∙ ap (λ (xs : List ℕ). column_text t.shows ++ xs) (append_assoc (column_text t.runs_on) (column_text t.beyond) (codes "  ")))))

-- ---- what is written one behind another

pub small_at : (counts : List ClassCount) (i : ℕ) (n : ClassCount) → slice_get counts i ≡ Some n → All IsSmall counts → IsSmall n
small_at counts i n there all =
    subst IsSmall (get_or_from_slice_get counts i n n there) (All-get_or IsSmall counts i n (slice_get_within counts i n there) all)

pub shows_said : (all : Tally) (covered : List Covered) → all ≡ tally (heard_of covered) → all.shows ≡ count_told is_shown (heard_of covered)
shows_said all covered is = ap (λ (t : Tally). t.shows) is

pub small_all : (all : Tally) (covered : List Covered) → length (heard_of covered) < 2 ^ 62 → all ≡ tally (heard_of covered) → sum_of all < 2 ^ 63
small_all all covered few is = subst (λ (t : Tally). sum_of t < 2 ^ 63) (sym is) (small (heard_of covered) few)

pub body_said : (g : Lists) (horizon : ℕ) (covered : List Covered) → body_text g horizon covered
    ≡ tables_text covered ++ (flat_map (λ h. shows_text g h.fault h.told) (heard_of covered)
    ++ (each_below (λ k. left_text g horizon (heard_at covered k) k) (length g.operations) ++ totals_line (tally (heard_of covered))))
body_said g horizon covered =
    ap (λ (xs : List ℕ). tables_text covered ++ xs)
    (append_assoc (flat_map (λ (h : Heard). shows_text g h.fault h.told) (heard_of covered))
    (each_below (λ k. left_text g horizon (heard_at covered k) k) (length g.operations)) (totals_line (tally (heard_of covered))))

-- the same of lists that are these
abbrev pub found_slices : {s : Subject} {classes : List CoverClass} {counts others : List ClassCount} {all : Tally} {lines more : List LeftLine}
    → IsFound s classes counts all lines → counts ≡ others → lines ≡ more → IsFound s classes others all more
found_slices is same also = record {
  covered = is.covered;
  are = is.are;
  counted_are = subst (λ ns. AreCounted ns is.covered) same is.counted_are;
  all_is = is.all_is;
  lines_are = sym also ∙ is.lines_are;
}

pub if_ok_weaker : {T E : Type 0} (r : Result T E) (P Q : T → Type 0) → ((x : T) → P x → Q x) → IfOk r P → IfOk r Q
if_ok_weaker (Ok x) P Q f h = f x h
if_ok_weaker (Err e) P Q f h = tt
