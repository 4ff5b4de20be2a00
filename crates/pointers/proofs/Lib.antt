-- Young: the nursery's cells below the cursor, lent and put back. Changing: one pointer, then all, in both generations. Roots: in roots.
pub mod Chunks
pub mod Young
pub mod Changing
pub mod Roots
