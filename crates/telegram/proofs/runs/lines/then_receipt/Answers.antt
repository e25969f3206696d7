use Rattle.std.proofs.Common.{◌≡◌, ℕ, List, ◌++◌, codes, append_assoc, rules, w64}
use mir.Val.{SFits}
use Rattle.std.proofs.Math.Facts.{to_z-of_z}
use Rattle.vcp_outside.specs.Pens.{written_so}
use Rattle.telegram.proofs.runs.lines.then_receipt.Goals as goal

delivered : (text number value : List ℕ)
    → text ++ (codes "delivered " ++ (number ++ (codes " " ++ value))) ≡ text ++ (codes "delivered " ++ number) ++ (codes " " ++ value)
delivered text number value = simp append_assoc

stray : (text found expected : List ℕ)
    → text ++ (codes "stray found " ++ (found ++ (codes " expected " ++ expected))) ≡ text ++ (codes "stray found " ++ found) ++ (codes " expected " ++ expected)
stray text found expected = simp append_assoc

pub returns-in-Delivered : goal.returns-in-Delivered
returns-in-Delivered g c =
    let fits : SFits w64 c.in-Delivered.value = search rules in
    rw c.in-Delivered.is (λ sink name text is.
    let all = rw (to_z-of_z {w = w64} {z = c.in-Delivered.value} fits) at (c.signed.ensures _ _ _ (c.numbered.ensures sink name text is)) in
    written_so all (delivered _ _ _))

pub returns-in-Early : goal.returns-in-Early
returns-in-Early g c = rw c.in-Early.is c.numbered-in-Early.ensures

pub returns-in-Stray : goal.returns-in-Stray
returns-in-Stray g c =
    rw c.in-Stray.is (λ sink name text is.
    written_so (c.numbered-in-Stray-2.ensures _ _ _ (c.numbered-in-Stray.ensures sink name text is)) (stray _ _ _))

pub returns-in-Order : goal.returns-in-Order
returns-in-Order g c = rw c.in-Order.is c.numbered-in-Order.ensures

pub returns-in-Age : goal.returns-in-Age
returns-in-Age g c = rw c.in-Age.is c.numbered-in-Age.ensures

pub returns-in-Value : goal.returns-in-Value
returns-in-Value g c = rw c.in-Value.is c.text.ensures
