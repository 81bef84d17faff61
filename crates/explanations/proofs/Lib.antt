mod FieldLemmas
mod LineLemmas
mod MarkLemmas
