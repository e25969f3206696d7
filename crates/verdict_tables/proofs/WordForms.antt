-- WordForms: one form of several, by a word.
use Rattle.std.proofs.Common.{◌≡◌, Bool, true, false, cond, ap, sym, ◌∙◌}

-- that of this word
pub this_form : {X : Type 0} (x y z : X) (word is : Bool) → is ≡ word → is ≡ true → z ≡ x → z ≡ cond word x y
this_form x y z word is said holds same = same ∙ ap (λ (b : Bool). cond b x y) (sym holds ∙ said)

-- that of another word
pub other_form : {X : Type 0} (x y z : X) (word is : Bool) → is ≡ word → is ≡ false → z ≡ y → z ≡ cond word x y
other_form x y z word is said fails same = same ∙ ap (λ (b : Bool). cond b x y) (sym fails ∙ said)
