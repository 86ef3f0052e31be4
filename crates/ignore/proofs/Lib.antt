mod AgreeLemmas
mod HeadlineLemmas
mod OutsideOnly
mod SceneLemmas
mod WorkedSettings
mod WorkedWalks
