use Rattle.lock_appends.proofs.runs.appended_by_two.Given as goal

abbrev pub ghosts-two : goal.ghosts-two
ghosts-two g a = record { name = a.blank.name; parts = a.blank.parts }
