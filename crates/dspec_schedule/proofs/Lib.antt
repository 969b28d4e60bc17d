mod EndLemmas
mod Growing
mod LineLemmas
mod NumberLemmas
mod PrintableLemmas
mod ReadingLemmas
mod StepLemmas
