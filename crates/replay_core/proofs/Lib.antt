pub mod Clusters
pub mod Tables
