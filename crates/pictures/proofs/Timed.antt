-- Timed: no time that is drawn is longer than that of a later cycle, but for its digits behind the point.
use Rattle.std.proofs.Common.{◌≡◌, ℕ, ◌+◌, ◌*◌, ◌/◌, ◌%◌, ◌^◌, ◌<◌, ◌≤◌, List, [], ◌∷◌, ◌++◌, length, refl, arith, Option, Some, None, IfSome, decimal, codes}
use Rattle.std.specs.List.{concat}
use Rattle.std.proofs.Math.Nat.{mul-le-mul_left}
use Rattle.std.proofs.lemmas.Fmt.{length-decimal-le}
use Rattle.std.proofs.lemmas.List.{length-append}
use Rattle.pictures.specs.declared.waves.times.TimeUnit.{TimeUnit}
use Rattle.pictures.specs.declared.waves.times.TimeUnit.TheVariants as unit
use Rattle.pictures.specs.declared.waves.times.Period.{Period}
use Rattle.pictures.specs.Times.{scale_of, drawn_in, thousandths_pieces, thousandths_at, time_pieces}
use Rattle.pictures.proofs.Numbers.{digits_grow}

-- what holds of a thing that is there holds in another form
pub if_there : {X : Type 0} {P Q : X → Type 0} (o : Option X) → ((x : X) → P x → Q x) → IfSome o P → IfSome o Q
if_there None f h = tt
if_there (Some x) f h = f x h

digit : (n : ℕ) → n < 10 → length (decimal n) ≤ 1
digit n h = length-decimal-le 1 n (omega arith) (omega (arith, h)) (omega (arith, h))

short_name : (u : TimeUnit) → length (drawn_in u) ≤ 3
short_name unit.Seconds = omega arith
short_name unit.Milliseconds = omega arith
short_name unit.Microseconds = omega arith

parts : (a b c d e f : List ℕ) → length (concat (a ∷ b ∷ c ∷ d ∷ e ∷ f ∷ [])) ≡ length a + (length b + (length c + (length d + (length e + (length f + 0)))))
parts a b c d e f =
    rw (
      length-append a (b ++ (c ++ (d ++ (e ++ (f ++ []))))),
      length-append b (c ++ (d ++ (e ++ (f ++ [])))),
      length-append c (d ++ (e ++ (f ++ []))),
      length-append d (e ++ (f ++ [])),
      length-append e (f ++ []),
      length-append f [],
    ) refl

short : (n : ℕ) (u : TimeUnit) → length (concat (thousandths_pieces n (drawn_in u))) ≤ length (decimal (n / 1000)) + 7
short n u =
    let whole = parts (decimal (n / 1000)) (codes ".") (decimal (n % 1000 / 100)) (decimal (n % 100 / 10)) (decimal (n % 10)) (drawn_in u) in
    let a = digit (n % 1000 / 100) (omega arith) in
    let b = digit (n % 100 / 10) (omega arith) in
    let c = digit (n % 10) (omega arith) in
    let name = short_name u in
    omega (arith, whole, a, b, c, name)

pub no_longer : (p : Period) (cycle cycles : ℕ) → cycle < cycles → thousandths_at p cycles < 2 ^ 64
    → length (concat (time_pieces p cycle)) ≤ length (decimal (thousandths_at p cycles / 1000)) + 7
no_longer p cycle cycles less low =
    let grows = mul-le-mul_left (p.number * scale_of p.unit) (before less) in
    let longer = digits_grow (thousandths_at p cycle / 1000) (thousandths_at p cycles / 1000) (omega (arith, grows)) (omega (arith, low)) in
    let here = short (thousandths_at p cycle) p.unit in
    omega (arith, here, longer)
  where
    before : {m n : ℕ} → m < n → m ≤ n
    before h = omega (arith, h)
