-- Definitions of the plane, in the order to read.
pub mod Basics
pub mod Points
pub mod Limit
pub mod Locations
pub mod Rectangle
pub mod Signs
pub mod CrossProduct
pub mod Polygon
pub mod Segment
pub mod Intersection
pub mod Found
pub mod Examples
