pub mod ChosenLaws
pub mod HasLaws
pub mod WalkLaws
pub mod DiagonalLaws
pub mod DoneLaws
