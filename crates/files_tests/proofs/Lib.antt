mod WorkedChanges
mod WorkedListings
mod WorkedWhole
