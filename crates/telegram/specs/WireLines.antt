-- WireLines: what is printed of a wire. Each line ends with LF.
use Rattle.std.specs.Prelude.{ℕ, List, [], ◌∷◌, ◌++◌, decimal, codes}
use Rattle.std.specs.Fmt.{signed_decimal}
use Rattle.telegram.specs.declared.receipt.Receipt.{Receipt}
use Rattle.telegram.specs.declared.receipt.Receipt.TheVariants as receipt
use Rattle.telegram.specs.WireRun.{Handing}

-- what a receiver answered to a telegram of this number
abbrev pub receipt_text : ℕ → Receipt → List ℕ
receipt_text n (receipt.Delivered v) = codes "delivered " ++ (decimal n ++ (codes " " ++ signed_decimal v))
receipt_text n (receipt.Early begun) = codes "early " ++ decimal begun
receipt_text n (receipt.Stray found expected) = codes "stray found " ++ (decimal found ++ (codes " expected " ++ decimal expected))
receipt_text n (receipt.Order last) = codes "order last " ++ decimal last
receipt_text n (receipt.Age now) = codes "age " ++ decimal now
receipt_text n receipt.Value = codes "value"

-- the same after the number of the script's line that hands the telegram
abbrev pub receipt_line : ℕ → ℕ → Receipt → List ℕ
receipt_line line n x = decimal line ++ (codes " " ++ (receipt_text n x ++ codes "\n"))

-- a line for each telegram that the receiver was handed
abbrev pub handings_text : List Handing → List ℕ
handings_text [] = []
handings_text (h ∷ handings) = receipt_line h.line h.number h.receipt ++ handings_text handings

-- behind all: how many cycles there were, and how many telegrams were delivered
abbrev pub wire_end_text : ℕ → ℕ → List ℕ
wire_end_text cycles delivered = codes "end " ++ (decimal cycles ++ (codes " delivered " ++ (decimal delivered ++ codes "\n")))

-- the unit answered no word to the sending of a sender in a cycle
abbrev pub unsent_text : ℕ → ℕ → List ℕ
unsent_text cycle id = codes "unsent " ++ (decimal cycle ++ (codes " " ++ (decimal id ++ codes "\n")))
