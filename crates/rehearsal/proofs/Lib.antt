mod Nodes
mod Valid
mod Measured
mod Computed
