use Rattle.lock_appends.proofs.runs.appended_by_four.Given as goal

abbrev pub ghosts-four : goal.ghosts-four
ghosts-four g a = record { name = a.blank.name; parts = a.blank.parts }
