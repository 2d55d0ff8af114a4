pub mod Tables
pub mod Holding
pub mod Totals
pub mod Parts
pub mod Contents
pub mod Streams
