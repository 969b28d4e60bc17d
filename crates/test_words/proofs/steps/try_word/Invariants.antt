use Rattle.test_words.proofs.steps.try_word.Given as goal

abbrev pub ghosts-try_word_as : goal.ghosts-try_word_as
ghosts-try_word_as a = record { doing = a._doing.now }
