-- Rises: the delivered numbers strictly rise, and none is older than the age.
use Rattle.std.proofs.Common.{refl, ℕ, ◌≡◌, ◌==◌, ◌<◌, ◌≤◌, ◌+◌, ◌-◌, nat_lt, true, false, List, [], ◌∷◌, Some, ℤ, ap, sym, ◌∙◌, arith}
use Rattle.std.proofs.lemmas.Bool.{ltb-true, ltb-false}
use Rattle.vcp_base.specs.declared.code.Profile.TheVariants as profile
use Rattle.vcp_base.specs.declared.ty.Ty.TheVariants as ty
use Rattle.vcp_base.specs.Types.{fits}
use Rattle.coded_unit.specs.Words.{modulo, value_part}
use Rattle.telegram.specs.declared.receipt.Receipt.{Receipt}
use Rattle.telegram.specs.declared.receipt.Receipt.TheVariants as receipt
use Rattle.telegram.specs.declared.telegram.Telegram.{Telegram}
use Rattle.telegram.specs.Deliveries.{delivered, AreYoung}
use Rattle.telegram.specs.Receipts.{State, present, receipt_of, after_receipt, is_above, last_number, ticked}
use Rattle.telegram.specs.Sendings.{telegram_residue}
use Rattle.telegram.specs.declared.event.Event.{Event}
use Rattle.telegram.specs.declared.event.Event.TheVariants as event
use Rattle.telegram.specs.declared.wire.Wire.{Wire}
use Rattle.telegram.specs.WireRun.{wired_from, receipt_at, is_above_all, with_delivered}
use Rattle.telegram.specs.WireRead.{telegram_of, read_from}
use Rattle.telegram.proofs.Following.{delivered_passed}
use Rattle.telegram.proofs.Orders.{RisingIn, one_before, above_before, first_true, second_true}
use Rattle.telegram.proofs.Rows.{Told, Passed, passed, rows_are_choice, if_delivered}

-- ---- a receiver that reads words

-- what a receiver may answer to a telegram
abbrev told_to : State → Telegram → Told
told_to s t = record {
  begun = s.begun;
  found = modulo profile.Narrow t.word;
  expected = telegram_residue s.listen s.seed s.step t.number;
  last = last_number s.last;
  cycle = present s;
  value = value_part profile.Narrow t.word;
}

-- a delivery of a receiver passed every test
read_passed : (s : State) (t : Telegram) (v : ℤ) → receipt_of s t ≡ receipt.Delivered v
    → Passed (told_to s t) (nat_lt t.number s.begun) (modulo profile.Narrow t.word == telegram_residue s.listen s.seed s.step t.number)
    (is_above s.last t.number)
    (nat_lt s.age (present s - t.number)) (fits ty.Dint (value_part profile.Narrow t.word)) v
read_passed s t v h =
    let b = nat_lt t.number s.begun in
    let c = modulo profile.Narrow t.word == telegram_residue s.listen s.seed s.step t.number in
    let d = is_above s.last t.number in
    let e = nat_lt s.age (present s - t.number) in
    let f = fits ty.Dint (value_part profile.Narrow t.word) in
    passed (told_to s t) b c d e f v (sym (rows_are_choice (told_to s t) b c d e f) ∙ h)

-- ---- numbers

rising_read_next : (words : List (List ℤ)) (s : State) (es : List Event) (n : ℕ) (x : Receipt)
    → ((s : State) → RisingIn (λ m. is_above s.last m ≡ true) (delivered (read_from words s es)))
    → ((v : ℤ) → x ≡ receipt.Delivered v → is_above s.last n ≡ true)
    → RisingIn (λ m. is_above s.last m ≡ true) (with_delivered x n (delivered (read_from words (after_receipt s n x) es)))
rising_read_next words s es n (receipt.Delivered v) later above =
    one_before (λ m. is_above s.last m ≡ true) (λ m. nat_lt n m ≡ true) n (delivered (read_from words (record s { last = Some n }) es)) (above v refl)
    (λ m h. ltb-true n m h) (λ m h. above_before s.last n m (ltb-true n m h) (above v refl)) (later (record s { last = Some n }))
rising_read_next words s es n (receipt.Early b) later above = later s
rising_read_next words s es n (receipt.Stray found wanted) later above = later s
rising_read_next words s es n (receipt.Order l) later above = later s
rising_read_next words s es n (receipt.Age c) later above = later s
rising_read_next words s es n receipt.Value later above = later s

pub rising_read : (words : List (List ℤ)) (s : State) (es : List Event) → RisingIn (λ m. is_above s.last m ≡ true) (delivered (read_from words s es))
rising_read words s [] = (tt, tt)
rising_read words s (event.Cycle values ∷ es) = rising_read words (ticked s) es
rising_read words s (event.Deliver line id n alter ∷ es) =
    let t = telegram_of words id n alter in
    rising_read_next words s es n (receipt_of s t) (λ s. rising_read words s es) (λ v h. (read_passed s t v h).above)

rising_run_next : (w : Wire) (sent : List (List ℤ)) (begun : ℕ) (numbers : List ℕ) (es : List Event) (n : ℕ) (x : Receipt)
    → ((numbers : List ℕ) → RisingIn (λ m. is_above_all m numbers ≡ true) (delivered (wired_from w sent begun numbers es)))
    → ((v : ℤ) → x ≡ receipt.Delivered v → is_above_all n numbers ≡ true)
    → RisingIn (λ m. is_above_all m numbers ≡ true) (with_delivered x n (delivered (wired_from w sent begun (with_delivered x n numbers) es)))
rising_run_next w sent begun numbers es n (receipt.Delivered v) later above =
    one_before (λ m. is_above_all m numbers ≡ true) (λ m. is_above_all m (n ∷ numbers) ≡ true) n (delivered (wired_from w sent begun (n ∷ numbers) es))
    (above v refl) (λ m h. ltb-true n m (first_true (nat_lt n m) (is_above_all m numbers) h)) (λ m h. second_true (nat_lt n m) (is_above_all m numbers) h)
    (later (n ∷ numbers))
rising_run_next w sent begun numbers es n (receipt.Early b) later above = later numbers
rising_run_next w sent begun numbers es n (receipt.Stray found wanted) later above = later numbers
rising_run_next w sent begun numbers es n (receipt.Order l) later above = later numbers
rising_run_next w sent begun numbers es n (receipt.Age c) later above = later numbers
rising_run_next w sent begun numbers es n receipt.Value later above = later numbers

pub rising_run : (w : Wire) (sent : List (List ℤ)) (begun : ℕ) (numbers : List ℕ) (es : List Event)
    → RisingIn (λ m. is_above_all m numbers ≡ true) (delivered (wired_from w sent begun numbers es))
rising_run w sent begun numbers [] = (tt, tt)
rising_run w sent begun numbers (event.Cycle values ∷ es) = rising_run w sent (begun + 1) numbers es
rising_run w sent begun numbers (event.Deliver line id n alter ∷ es) =
    rising_run_next w sent begun numbers es n (receipt_at w sent begun numbers id n alter) (λ numbers. rising_run w sent begun numbers es)
    (λ v h. (delivered_passed w sent begun numbers id n alter v h).above)

-- ---- ages

age_kept : (s : State) (n : ℕ) (x : Receipt) → (after_receipt s n x).age ≡ s.age
age_kept s n (receipt.Delivered v) = refl
age_kept s n (receipt.Early b) = refl
age_kept s n (receipt.Stray found wanted) = refl
age_kept s n (receipt.Order l) = refl
age_kept s n (receipt.Age c) = refl
age_kept s n receipt.Value = refl

-- a number that isn't early nor too old
in_age : (n begun age : ℕ) → nat_lt n begun ≡ true → nat_lt age (begun - 1 - n) ≡ false → (n ≤ begun - 1) × (begun - 1 ≤ n + age)
in_age n begun age early old =
    let begins : n < begun = ltb-true n begun early in
    let young : begun - 1 - n ≤ age = ltb-false age (begun - 1 - n) old in
    (omega arith, omega arith)

pub young_read : (words : List (List ℤ)) (age : ℕ) (s : State) (es : List Event) → s.age ≡ age → AreYoung age (read_from words s es)
young_read words age s [] same = tt
young_read words age s (event.Cycle values ∷ es) same = young_read words age (ticked s) es same
young_read words age s (event.Deliver line id n alter ∷ es) same =
    let t = telegram_of words id n alter in
    let x = receipt_of s t in
    let here = if_delivered x (λ v. (n ≤ present s) × (present s ≤ n + age))
    (λ v h.
    let all = read_passed s t v h in
    in_age n s.begun age all.begun (ap (λ (a : ℕ). nat_lt a (present s - n)) (sym same) ∙ all.young)) in
    (here, young_read words age (after_receipt s n x) es (age_kept s n x ∙ same))

pub young_run : (w : Wire) (sent : List (List ℤ)) (begun : ℕ) (numbers : List ℕ) (es : List Event) → AreYoung w.age (wired_from w sent begun numbers es)
young_run w sent begun numbers [] = tt
young_run w sent begun numbers (event.Cycle values ∷ es) = young_run w sent (begun + 1) numbers es
young_run w sent begun numbers (event.Deliver line id n alter ∷ es) =
    let x = receipt_at w sent begun numbers id n alter in
    let here = if_delivered x (λ v. (n ≤ begun - 1) × (begun - 1 ≤ n + w.age))
    (λ v h.
    let all = delivered_passed w sent begun numbers id n alter v h in
    in_age n begun w.age all.begun all.young) in
    (here, young_run w sent begun (with_delivered x n numbers) es)
