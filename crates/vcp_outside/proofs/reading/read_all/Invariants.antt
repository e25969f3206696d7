use Rattle.vcp_outside.proofs.reading.read_all.Given as goal

abbrev pub ghosts-read_all_with : goal.ghosts-read_all_with
ghosts-read_all_with g a = record { name = a.blank.name; parts = a.blank.parts }
