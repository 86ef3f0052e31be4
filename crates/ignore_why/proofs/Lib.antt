pub mod TextLemmas
pub mod DecidesLemmas
pub mod QueryWhyLemmas
pub mod WorkedDecides
pub mod WorkedWhy
