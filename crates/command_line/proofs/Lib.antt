mod Asked
mod ClapFaults
mod Parsed
