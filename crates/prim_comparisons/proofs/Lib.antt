pub mod Contents
pub mod KeysFound
pub mod NumbersWithin
pub mod RangePlaces
pub mod TextParts
pub mod TwoNumbers
pub mod Walked
