-- Whole numbers: the laws of ℤ that the kit lacks. Laws, identities and orders first, then what ties them to code over i64.
-- Each `..Examples` file keeps small worked uses of the file before it.
pub mod Laws
pub mod Ring
pub mod RingExamples
pub mod AreaExamples
pub mod Order
pub mod OrderExamples
pub mod Linear
pub mod Tests
pub mod Certify
pub mod CertifyExamples
pub mod Sign
pub mod Bound
pub mod BoundExamples
pub mod Quot
