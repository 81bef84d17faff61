mod FilledRows
mod OrderLemmas
mod TakenWords
mod CommandLemmas
