-- What the host's numbers name.
pub mod Numbers
pub mod Inner
