pub mod Files
pub mod Decodings
pub mod Singles
pub mod Plans
pub mod PlansLemmas
pub mod Cells
pub mod Fillings
pub mod Reads
