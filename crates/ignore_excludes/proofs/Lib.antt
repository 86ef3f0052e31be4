pub mod ExcludesBlanks
pub mod ExcludesValues
pub mod ExcludesKeys
pub mod ExcludesLines
pub mod ExcludesOnly
pub mod ExcludesHome
pub mod ExcludesPlaces
