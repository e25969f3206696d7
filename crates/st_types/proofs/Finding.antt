-- Finding: the table of names is looked through from its front.
use Rattle.std.proofs.Common.{◌≡◌, ℕ, suc, ◌+◌, ◌<◌, Bool, true, false, cond, List, ◌∷◌, length, drop, get_or, Some, sym, ap, ◌∙◌}
use Rattle.std.proofs.Common.{add-one, drop-cons}
use Rattle.vcp_base.specs.Names.{is_same_name}
use Rattle.st_types.specs.Scope.{Entry, find}

-- to find a name from place k on is to look at the entry there, and then from the next place on
find-next : (es : List Entry) (n : List ℕ) (k : ℕ) (e : Entry) → k < length es → e ≡ get_or es k e
    → find (drop k es) n ≡ cond (is_same_name e.name n) (Some e) (find (drop (k + 1) es) n)
find-next es n k e within is =
    let front : drop k es ≡ e ∷ drop (k + 1) es = rw add-one (drop-cons es k e within ∙ ap (λ x. x ∷ drop (suc k) es) (sym is)) in
    ap (λ xs. find xs n) front

-- the entry at place k is the one that is found
pub found-here : (es : List Entry) (n b : List ℕ) (k : ℕ) (e : Entry) (r : Bool) → find es n ≡ find (drop k es) n → k < length es → e ≡ get_or es k e
    → b ≡ e.name → r ≡ is_same_name b n → r ≡ true → Some e ≡ find es n
found-here es n b k e r so_far within is name test there =
    let same : is_same_name e.name n ≡ true = ap (λ m. is_same_name m n) (sym name) ∙ sym test ∙ there in
    sym (so_far ∙ find-next es n k e within is ∙ ap (λ t. cond t (Some e) (find (drop (k + 1) es) n)) same)

-- it is not, and the search goes on behind it
pub not-here : (es : List Entry) (n b : List ℕ) (k : ℕ) (e : Entry) (r : Bool) → find es n ≡ find (drop k es) n → k < length es → e ≡ get_or es k e
    → b ≡ e.name → r ≡ is_same_name b n → r ≡ false → find es n ≡ find (drop (k + 1) es) n
not-here es n b k e r so_far within is name test lacking =
    let other : is_same_name e.name n ≡ false = ap (λ m. is_same_name m n) (sym name) ∙ sym test ∙ lacking in
    so_far ∙ find-next es n k e within is ∙ ap (λ t. cond t (Some e) (find (drop (k + 1) es) n)) other
