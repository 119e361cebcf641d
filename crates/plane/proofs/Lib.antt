-- `Fitting`: coordinates that fit 64 bits. `Equality`: what the derived `==` answers. `Limits`: a rectangle within the coordinate limit.
-- `CrossProduct`: the binary64 cross product.
pub mod Fitting
pub mod Equality
pub mod Limits
pub mod CrossProduct
