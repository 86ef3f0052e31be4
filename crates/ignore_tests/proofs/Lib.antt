mod WorkedMasks
mod WorkedSets
