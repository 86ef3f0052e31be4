mod TextOrder
mod TypeLemmas
mod ListLemmas
mod SortedTexts
mod ChoiceLemmas
mod TypesOnly
mod TypeAnswers
