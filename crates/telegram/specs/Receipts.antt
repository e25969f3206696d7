-- Receipts: what a receiver answers to a telegram, and what it keeps.
use Rattle.std.specs.Prelude.{ℕ, ◌+◌, ◌-◌, ◌<◌, ◌≤◌, ◌==◌, nat_lt, Bool, true, cond, not, Option, Some, None}
use Rattle.vcp_base.specs.declared.code.Profile.TheVariants as profile
use Rattle.vcp_base.specs.declared.ty.Ty.TheVariants as ty
use Rattle.vcp_base.specs.Limits.{seeds, most_step, most_cycles}
use Rattle.vcp_base.specs.Types.{fits}
use Rattle.coded_unit.specs.Words.{modulo, value_part}
use Rattle.telegram.specs.declared.receipt.Receipt.{Receipt}
use Rattle.telegram.specs.declared.receipt.Receipt.TheVariants as receipt
use Rattle.telegram.specs.declared.telegram.Telegram.{Telegram}
use Rattle.telegram.specs.Sendings.{most_senders, telegram_residue}

-- what a receiver keeps: the sender that it hears, the greatest age in cycles, the seed and step of the code, how many cycles
-- began, and the number that it delivered last
pub record State : Type 0 where
  pub listen : ℕ
  pub age : ℕ
  pub seed : ℕ
  pub step : ℕ
  pub begun : ℕ
  pub last : Option ℕ

-- before the first cycle
abbrev pub nothing_heard : (listen age seed step : ℕ) → State
nothing_heard listen age seed step = record { listen = listen; age = age; seed = seed; step = step; begun = 0; last = None }

-- one more cycle began
abbrev pub ticked : State → State
ticked s = record s { begun = s.begun + 1 }

-- the present cycle, once one began
abbrev pub present : State → ℕ
present s = s.begun - 1

-- the number is above the last delivered one, where there is one
abbrev pub is_above : Option ℕ → ℕ → Bool
is_above None n = true
is_above (Some last) n = nat_lt last n

-- the last delivered number, and 0 where there is none
abbrev pub last_number : Option ℕ → ℕ
last_number None = 0
last_number (Some last) = last

-- The answer to a telegram is the first of these that applies: the cycle of its number hasn't begun; its residue isn't the
-- one of the sender that is heard in that cycle; its number isn't above the last delivered one; it is too old; its value is no
-- DINT; and else its value is delivered.
abbrev pub receipt_of : State → Telegram → Receipt
receipt_of s t =
    cond (not (nat_lt t.number s.begun))
    (receipt.Early s.begun)
    (cond (not (modulo profile.Narrow t.word == telegram_residue s.listen s.seed s.step t.number))
    (receipt.Stray (modulo profile.Narrow t.word) (telegram_residue s.listen s.seed s.step t.number))
    (cond (not (is_above s.last t.number))
    (receipt.Order (last_number s.last))
    (cond (nat_lt s.age (present s - t.number))
    (receipt.Age (present s))
    (cond (not (fits ty.Dint (value_part profile.Narrow t.word)))
    receipt.Value
    (receipt.Delivered (value_part profile.Narrow t.word))))))

-- the receiver after the answer to a telegram of this number: a delivery alone changes it
abbrev pub after_receipt : State → ℕ → Receipt → State
after_receipt s n (receipt.Delivered v) = record s { last = Some n }
after_receipt s n (receipt.Early begun) = s
after_receipt s n (receipt.Stray found expected) = s
after_receipt s n (receipt.Order last) = s
after_receipt s n (receipt.Age cycle) = s
after_receipt s n receipt.Value = s

-- the receiver's numbers are in their ranges
pub record IsState (s : State) : Type 0 where
  pub listen : s.listen < most_senders
  pub seed : s.seed < seeds
  pub step_from : 1 ≤ s.step
  pub step_to : s.step ≤ most_step
  pub begun : s.begun ≤ most_cycles
