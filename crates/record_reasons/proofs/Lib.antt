mod FieldLemmas
mod KeyLemmas
mod LineLemmas
mod NameLemmas
mod PartLemmas
mod ReasonLemmas
mod SeenLemmas
