-- Cited by calls. Seats that are cut off and joined: the seats of the CPUs, and notes.
use Rattle.std.specs.Prelude.{ℕ, List, [], ◌∷◌, ◌++◌, max, None}
use Rattle.dspec_table.specs.{Holders.Holder, Holders.of_nobody, Rule.holdings, Words.Outside.Config, Words.Outside.Switch, Words.Outside.Deed, declared.rule.Past.Past, declared.rule.View.View}

abbrev pub no_config : Config
no_config = record { cpus = 0; nspec = 0; bufsize = 0; specsize = 0; max_issues = 0; max_calls = 0; policy = Switch }

abbrev pub nobody : View
nobody = record { config = no_config; who = of_nobody; own = []; also = []; seen = []; told = []; flight = None; steps = 0; touched = []; asks = []; past = [] }

-- what is left of a seat once the first of the actors beside its own is dealt out
abbrev pub others : List (Holder × List Deed) → List (Holder × List Deed)
others [] = []
others (p ∷ ps) = ps

abbrev pub without : View → View
without v = record {
  config = v.config;
  who = v.who;
  own = v.own;
  also = others v.also;
  seen = v.seen;
  told = v.told;
  flight = v.flight;
  steps = v.steps;
  touched = v.touched;
  asks = v.asks;
  past = v.past;
}

-- the new seat of that actor
abbrev pub first_of_those : Config → List (Holder × List Deed) → View
first_of_those k [] = nobody
first_of_those k (p ∷ ps) = record { config = k; who = p.0; own = p.1; also = []; seen = []; told = []; flight = None; steps = 0; touched = []; asks = []; past = [] }

abbrev pub dealt : View → View
dealt v = first_of_those v.config v.also

-- the greater of two asks of each CPU
abbrev pub greater : List ℕ → List ℕ → List ℕ
greater [] ys = ys
greater (x ∷ xs) [] = x ∷ xs
greater (x ∷ xs) (y ∷ ys) = max x y ∷ greater xs ys

-- a note of what the seat has seen, and of the asks that it knows, with no call
abbrev pub note : View → View
note v = record { config = v.config; who = of_nobody; own = []; also = []; seen = v.seen; told = []; flight = None; steps = 0; touched = []; asks = v.asks; past = [] }

-- a CPU's seat that was given a note: what the note has seen waits for the seat's next step, and the asks are known at once
abbrev pub heard : View → View → View
heard v w = record {
  config = v.config;
  who = v.who;
  own = v.own;
  also = v.also;
  seen = v.seen;
  told = w.seen;
  flight = v.flight;
  steps = v.steps;
  touched = v.touched;
  asks = greater v.asks w.asks;
  past = v.past;
}

-- the consumer's seat that was given a note: it knows the asks
abbrev pub answered : View → View → View
answered v w = record {
  config = v.config;
  who = v.who;
  own = v.own;
  also = v.also;
  seen = v.seen;
  told = w.seen;
  flight = v.flight;
  steps = v.steps;
  touched = v.touched;
  asks = v.asks;
  past = v.past;
}

-- what the seat knows
abbrev pub past_of : View → Past
past_of v = record { who = v.who; own = v.own; seen = v.seen; asks = v.asks }

-- a seat that takes in another, with its deeds and what it knew
abbrev pub gathered : View → View → View
gathered v w = record {
  config = v.config;
  who = v.who;
  own = v.own;
  also = v.also ++ holdings w;
  seen = v.seen;
  told = v.told;
  flight = v.flight;
  steps = v.steps;
  touched = v.touched;
  asks = v.asks;
  past = v.past ++ past_of w ∷ w.past;
}
