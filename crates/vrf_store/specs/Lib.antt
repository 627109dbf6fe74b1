-- The lent memory of a book (docs/LAYOUT.md): where its parts are, which book it holds, which memory the check accepts, and opening.
-- Read the definitions in this order.
pub mod UpTo
pub mod Layout
pub mod Store
pub mod Check
pub mod Opening
-- contracts of the functions of `vrf_store`
pub mod Inner
