-- Following: the receipts that are read off the right words are those of the wire run.
use Rattle.std.proofs.Common.{refl, ℕ, ◌≡◌, ◌==◌, ◌<◌, ◌≤◌, ◌+◌, ◌-◌, nat_lt, Bool, true, ap, ◌∙◌, arith, List, [], ◌∷◌, length, slice_index_or, Option, Some, None, ℤ, pos, ◌+ℤ◌}
use Rattle.std.proofs.lemmas.Bool.{ltb-true}
use Rattle.vcp_base.specs.declared.code.Profile.{Profile}
use Rattle.vcp_base.specs.declared.code.Profile.TheVariants as profile
use Rattle.vcp_base.specs.declared.ty.Ty.TheVariants as ty
use Rattle.vcp_base.specs.Code.{modulus}
use Rattle.vcp_base.specs.Limits.{most_step, most_cycles}
use Rattle.vcp_base.specs.Types.{fits}
use Rattle.vcp_base.specs.Values.{at}
use Rattle.coded_unit.specs.Words.{modulo, value_part, nearest_word, Middle}
use Rattle.coded_unit.specs.WordLaws.{WordLaws, ShiftLaw}
use Rattle.signature_table.specs.Signatures.{signature, stamp, expected}
use Rattle.telegram.specs.declared.receipt.Receipt.{Receipt}
use Rattle.telegram.specs.declared.receipt.Receipt.TheVariants as receipt
use Rattle.telegram.specs.Receipts.{State, receipt_of, after_receipt, is_above, last_number}
use Rattle.telegram.specs.Sendings.{telegram_residue}
use Rattle.telegram.specs.declared.event.Event.{Event}
use Rattle.telegram.specs.declared.event.Event.TheVariants as event
use Rattle.telegram.specs.declared.wire.Wire.{Wire}
use Rattle.telegram.specs.WireRun.{Handing, IsWire, IsEvent, Every, AreEvents, sent_in, sent_by, wired_from, wired, receipt_at, apart, arrived, is_above_all, greatest, with_delivered}
use Rattle.telegram.specs.WireRead.{telegram_of, read_from, wire_read, right_words}
use Rattle.telegram.proofs.Equation.{dint_near, same_test, shifted_residue, shifted_value}
use Rattle.telegram.proofs.Lookups.{AreRows, looked_up, rows_of, row_length, sent_fits}
use Rattle.telegram.proofs.Orders.{Agree, agree_none, agree_more}
use Rattle.telegram.proofs.Rows.{Told, choice, rows_are_choice, in_time, Passed, passed}

-- the laws of the code on which the wire rests
pub record Laws : Type 0 where
  pub words : (p : Profile) → WordLaws p
  pub shifts : (p : Profile) → ShiftLaw p
  pub residues : (p : Profile) (seed step i n : ℕ) → step ≤ most_step → n < most_cycles → expected p seed step i n < modulus p

-- the receiver of a wire, after so many cycles
abbrev pub hears : Wire → ℕ → Option ℕ → State
hears w begun last = record { listen = w.listen; age = w.age; seed = w.seed; step = w.step; begun = begun; last = last }

-- what a receiver may answer to a word
abbrev pub told_of : Wire → ℕ → Option ℕ → ℕ → ℤ → Told
told_of w begun last n word = record {
  begun = begun;
  found = modulo profile.Narrow word;
  expected = telegram_residue w.listen w.seed w.step n;
  last = last_number last;
  cycle = begun - 1;
  value = value_part profile.Narrow word;
}

-- what the wire run may answer
abbrev pub told_at : Wire → List (List ℤ) → ℕ → List ℕ → ℕ → ℕ → ℤ → Told
told_at w sent begun numbers id n alter = record {
  begun = begun;
  found = modulo profile.Narrow (pos (telegram_residue id w.seed w.step n) +ℤ alter);
  expected = telegram_residue w.listen w.seed w.step n;
  last = greatest numbers;
  cycle = begun - 1;
  value = arrived w id n (sent_by sent id n) alter;
}

-- the same answer where the parts and the tests are the same
same_choice : (b m x l y : ℕ) (v v' : ℤ) (found last : ℕ) (c c' d d' e : Bool) → m ≡ found → l ≡ last → v ≡ v' → c ≡ c' → d ≡ d'
    → choice (record { begun = b; found = m; expected = x; last = l; cycle = y; value = v }) true c d e (fits ty.Dint v)
    ≡ choice (record { begun = b; found = found; expected = x; last = last; cycle = y; value = v' }) true c' d' e (fits ty.Dint v')
same_choice b m x l y v v' found last c c' d d' e em el ev ec ed =
    ap (λ (z : ℕ). choice (record { begun = b; found = z; expected = x; last = l; cycle = y; value = v }) true c d e (fits ty.Dint v)) em
    ∙ (ap (λ (z : ℕ). choice (record { begun = b; found = found; expected = x; last = z; cycle = y; value = v }) true c d e (fits ty.Dint v)) el
    ∙ (ap (λ (z : ℤ). choice (record { begun = b; found = found; expected = x; last = last; cycle = y; value = z }) true c d e (fits ty.Dint z)) ev
    ∙ (ap (λ (z : Bool). choice (record { begun = b; found = found; expected = x; last = last; cycle = y; value = v' }) true z d e (fits ty.Dint v')) ec
    ∙ ap (λ (z : Bool). choice (record { begun = b; found = found; expected = x; last = last; cycle = y; value = v' }) true c' z e (fits ty.Dint v')) ed)))

-- the receipt of a right word with something added is that of the wire run
same_receipt : (laws : Laws) (w : Wire) (sent : List (List ℤ)) (begun : ℕ) (last : Option ℕ) (numbers : List ℕ) (id n : ℕ) (alter : ℤ)
    → IsWire w → AreRows w sent → begun ≤ length sent → length sent ≤ most_cycles → id < w.senders → Middle alter → Agree last numbers
    → receipt_of (hears w begun last) (telegram_of (right_words w 0 sent) id n alter) ≡ receipt_at w sent begun numbers id n alter
same_receipt laws w sent begun last numbers id n alter wire rows so_far few sender middle agree =
    let p = profile.Narrow in
    let v = sent_by sent id n in
    let word = nearest_word (at (slice_index_or (right_words w 0 sent) n []) id +ℤ alter) in
    let own = telegram_residue id w.seed w.step n in
    let tests = nat_lt w.age (begun - 1 - n) in
    let inside : nat_lt n begun ≡ true →
    choice (told_of w begun last n word) true (modulo p word == telegram_residue w.listen w.seed w.step n) (is_above last n) tests
    (fits ty.Dint (value_part p word))
    ≡ choice (told_at w sent begun numbers id n alter) true (apart w id alter == 0) (is_above_all n numbers) tests (fits ty.Dint (arrived w id n v alter)) =
    λ test.
    let under : n < begun = ltb-true n begun test in
    let there : n < length sent = omega arith in
    let cycles : n < most_cycles = omega arith in
    let long : length (slice_index_or sent n []) ≡ w.senders = row_length w sent n rows there in
    let found = looked_up w n id sent there (omega arith) in
    let own_below = laws.residues p w.seed w.step id n wire.step_to cycles in
    let heard_below = laws.residues p w.seed w.step w.listen n wire.step_to cycles in
    let near = dint_near v (sent_fits w sent id n rows) in
    let residue : modulo p word ≡ modulo p (pos own +ℤ alter) =
    ap (λ (z : ℤ). modulo p (nearest_word (z +ℤ alter))) found ∙ shifted_residue p (laws.words p) (laws.shifts p) v alter own own_below near middle in
    let value : value_part p word ≡ arrived w id n v alter =
    ap (λ (z : ℤ). value_part p (nearest_word (z +ℤ alter))) found ∙ shifted_value p (laws.words p) (laws.shifts p) v alter own own_below near middle in
    let test_same : (modulo p word == telegram_residue w.listen w.seed w.step n) ≡ (apart w id alter == 0) =
    ap (λ (z : ℕ). z == telegram_residue w.listen w.seed w.step n) residue
    ∙ same_test p (laws.words p) (signature p w.seed id) (signature p w.seed w.listen) (stamp w.step n) alter heard_below in
    same_choice begun (modulo p word) (telegram_residue w.listen w.seed w.step n) (last_number last) (begun - 1) (value_part p word)
    (arrived w id n v alter) (modulo p (pos own +ℤ alter)) (greatest numbers) _ _ _ _ tests residue agree.greatest value test_same (agree.above n) in
    rows_are_choice (told_of w begun last n word) (nat_lt n begun) (modulo p word == telegram_residue w.listen w.seed w.step n) (is_above last n) tests
    (fits ty.Dint (value_part p word))
    ∙ in_time (nat_lt n begun) (receipt.Early begun) _ _ inside

-- ---- over all events

-- what follows a receipt, on both sides
next_same : (w : Wire) (sent : List (List ℤ)) (begun n : ℕ) (last : Option ℕ) (numbers : List ℕ) (es : List Event) (x : Receipt)
    → ((last : Option ℕ) (numbers : List ℕ) → Agree last numbers
    → read_from (right_words w 0 sent) (hears w begun last) es ≡ wired_from w sent begun numbers es)
    → Agree last numbers → ((v : ℤ) → x ≡ receipt.Delivered v → is_above_all n numbers ≡ true)
    → read_from (right_words w 0 sent) (after_receipt (hears w begun last) n x) es ≡ wired_from w sent begun (with_delivered x n numbers) es
next_same w sent begun n last numbers es (receipt.Delivered v) later agree above = later (Some n) (n ∷ numbers) (agree_more n numbers (above v refl))
next_same w sent begun n last numbers es (receipt.Early b) later agree above = later last numbers agree
next_same w sent begun n last numbers es (receipt.Stray found wanted) later agree above = later last numbers agree
next_same w sent begun n last numbers es (receipt.Order l) later agree above = later last numbers agree
next_same w sent begun n last numbers es (receipt.Age c) later agree above = later last numbers agree
next_same w sent begun n last numbers es receipt.Value later agree above = later last numbers agree

-- a delivery of the wire run passed every test
pub delivered_passed : (w : Wire) (sent : List (List ℤ)) (begun : ℕ) (numbers : List ℕ) (id n : ℕ) (alter v : ℤ)
    → receipt_at w sent begun numbers id n alter ≡ receipt.Delivered v
    → Passed (told_at w sent begun numbers id n alter) (nat_lt n begun) (apart w id alter == 0) (is_above_all n numbers) (nat_lt w.age (begun - 1 - n))
    (fits ty.Dint (arrived w id n (sent_by sent id n) alter)) v
delivered_passed w sent begun numbers id n alter v h =
    passed (told_at w sent begun numbers id n alter) (nat_lt n begun) (apart w id alter == 0) (is_above_all n numbers) (nat_lt w.age (begun - 1 - n))
    (fits ty.Dint (arrived w id n (sent_by sent id n) alter)) v h

follows : (laws : Laws) (w : Wire) (sent : List (List ℤ)) (begun : ℕ) (last : Option ℕ) (numbers : List ℕ) (es : List Event) → IsWire w → AreRows w sent
    → begun + length (sent_in es) ≡ length sent → length sent ≤ most_cycles → Every (λ e. IsEvent w e) es → Agree last numbers
    → read_from (right_words w 0 sent) (hears w begun last) es ≡ wired_from w sent begun numbers es
follows laws w sent begun last numbers [] wire rows count few each agree = refl
follows laws w sent begun last numbers (event.Cycle values ∷ es) wire rows count few each agree =
    follows laws w sent (begun + 1) last numbers es wire rows (omega arith) few each.1 agree
follows laws w sent begun last numbers (event.Deliver line id n alter ∷ es) wire rows count few each agree =
    let handing : Receipt → Handing = λ x. record { line = line; cycle = begun - 1; id = id; number = n; alter = alter; receipt = x } in
    let same = same_receipt laws w sent begun last numbers id n alter wire rows (omega arith) few each.0.0 each.0.1 agree in
    let later = next_same w sent begun n last numbers es (receipt_at w sent begun numbers id n alter)
    (λ last numbers agree. follows laws w sent begun last numbers es wire rows count few each.1 agree) agree
    (λ v h. (delivered_passed w sent begun numbers id n alter v h).above) in
    ap (λ (x : Receipt). handing x ∷ read_from (right_words w 0 sent) (after_receipt (hears w begun last) n x) es) same
    ∙ ap (λ (more : List Handing). handing (receipt_at w sent begun numbers id n alter) ∷ more) later

pub right_words_follow : Laws → (w : Wire) (es : List Event) → IsWire w → AreEvents w es → wire_read w (right_words w 0 (sent_in es)) es ≡ wired w es
right_words_follow laws w es wire events =
    follows laws w (sent_in es) 0 None [] es wire (rows_of w es events.each) (omega arith) events.few events.each agree_none
