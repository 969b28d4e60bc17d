use Rattle.test_words.proofs.steps.load_word.Given as goal

abbrev pub ghosts-load_word_as : goal.ghosts-load_word_as
ghosts-load_word_as a = record { doing = a._doing.now }
