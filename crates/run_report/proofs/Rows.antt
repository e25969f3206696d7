-- Worked rows, computed by the definitions alone.
use Rattle.std.proofs.Common.{◌≡◌, [], ◌∷◌, refl, pos, negsuc, codes}
use Rattle.std.specs.Fmt.{digits}
use Rattle.vcp_base.specs.declared.kind.StopKind.TheVariants as stop
use Rattle.vcp_base.specs.Stops.{told_stop}
use Rattle.run_report.specs.Lines.{header_text, row_text, end_text, stop_text, refused_text}
use Rattle.run_report.specs.SummaryLine.{summary_text}

header_of_two : header_text (codes "lights" ∷ codes "motor" ∷ []) ≡ codes "cycle,lights,motor\n"
unfolding digits
header_of_two = refl

header_of_none : header_text [] ≡ codes "cycle\n"
unfolding digits
header_of_none = refl

row_with_a_sign : row_text 0 (negsuc 32767 ∷ pos 1 ∷ []) ≡ codes "0,-32768,1\n"
unfolding digits
row_with_a_sign = refl

row_of_the_extremes : row_text 999999 (negsuc 2147483647 ∷ pos 2147483647 ∷ []) ≡ codes "999999,-2147483648,2147483647\n"
unfolding digits
row_of_the_extremes = refl

row_of_none : row_text 7 [] ≡ codes "7\n"
unfolding digits
row_of_none = refl

end_of_three : end_text 3 ≡ codes "end 3\n"
unfolding digits
end_of_three = refl

stop_outside_a_loop : stop_text 1 (record { kind = stop.DivZero; spot = record { line = 4; col = 8 }; turns = [] }) ≡ codes "stop 1 DIVZERO 4:8\n"
unfolding digits
stop_outside_a_loop = refl

stop_in_a_loop : stop_text 0
    (told_stop (codes "x" ∷ codes "y" ∷ codes "i" ∷ []) stop.Range (record { line = 7; col = 10 }) (record { name = 2; value = pos 4 } ∷ []))
    ≡ codes "stop 0 RANGE 7:10 i=4\n"
unfolding digits
stop_in_a_loop = refl

stop_in_two_loops : stop_text 12
    (told_stop (codes "inner" ∷ codes "Outer" ∷ []) stop.Operand (record { line = 30; col = 1 })
    (record { name = 1; value = negsuc 0 } ∷ record { name = 0; value = pos 20 } ∷ [])) ≡ codes "stop 12 OPERAND 30:1 Outer=-1 inner=20\n"
unfolding digits
stop_in_two_loops = refl

refused_output : refused_text 2 (codes "y") 5 949664992 ≡ codes "refused 2 y found 5 expected 949664992\n"
unfolding digits
refused_output = refl

-- the summary of a made program's run
summary_of_seven : summary_text 7 1000 (negsuc 11) (pos 4294967296000) ≡ codes "demo 7 cycles 1000 last -12 sum 4294967296000\n"
unfolding digits
summary_of_seven = refl
