-- The rule of the words has the list.
use Rattle.dspec_table.proofs.refinement.words_show_one_list.Goals as goal

pub returns : goal.returns
returns c k st kept = record {
  list = kept.log;
  sound = kept.sound;
  rests = kept.rests;
  authors = kept.authors;
  shows = kept.shows;
  own = λ by v at. (kept.knows by v at).parts.0;
  since = λ by v at. (kept.knows by v at).since;
}
