use Rattle.test_words.proofs.steps.load_activity.Given as goal

abbrev pub ghosts-load_activity_as : goal.ghosts-load_activity_as
ghosts-load_activity_as a = record { doing = a._doing.now }
