-- The theorems about the definitions: Table (document 01's table and its examples), Strips (strips and the whole call), Answers (direct calls), ManyLaws (document 02, K9),
-- Runs and Alike (demand 3). The other files have what these stand on.
pub mod Same
pub mod Table
pub mod Scalars
pub mod InPlace
pub mod Strips
pub mod Parts
pub mod Answers
pub mod CheckLaws
pub mod Fits
pub mod ManyLaws
pub mod MachineLaws
pub mod Records
pub mod Runs
pub mod Alike
