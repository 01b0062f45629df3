pub mod ChildValues
pub mod FixBits
pub mod OtherUnits
pub mod Parts
pub mod ValuedUnits
pub mod ExactParts
