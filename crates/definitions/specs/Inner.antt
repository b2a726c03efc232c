-- Nothing of document 01: what the contracts of inner functions say of usages on the way.
pub mod Storable
pub mod Pairs
