pub mod Trades
pub mod Stage
