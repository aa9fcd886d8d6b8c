-- A state over two caches; what waits fits into the smaller; one call of both runs, and the runs
pub mod Over
pub mod Fits
pub mod Both
pub mod Runs
