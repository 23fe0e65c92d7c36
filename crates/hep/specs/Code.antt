-- The steps of the code, as the laws and the proofs of hep name them: no promise of a public call names one.
pub mod Rows
