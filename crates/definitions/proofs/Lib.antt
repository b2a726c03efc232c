-- What holds of the definitions. First what they are made of, then each theorem with the file that proves it.
pub mod Choice
pub mod Nodes
pub mod After
pub mod Results
-- streams: reading and writing are each other's inverse
pub mod Reading
pub mod Written
pub mod Numbers
pub mod ReadFuel
pub mod Writable
pub mod Rounds
-- tables: components are earlier concrete records
pub mod Earlier
-- support and placing without fuel
pub mod Support
pub mod PlaceFuel
-- bounds of every placing and fold: nodes, pairings, report, size
pub mod Sizes
pub mod Parts
pub mod Reports
pub mod Bound
pub mod Ends
-- any placing, merge and fold keeps the stream rules
pub mod Tops
pub mod Storable
pub mod Stored
-- demand 3: folding sound usages
pub mod Chains
pub mod Keeps
pub mod Demand
pub mod Tested
-- any placing, merge and fold again: few pairings, and answers that read back
pub mod FewPairings
pub mod ReadsBack
-- what a choice changes
pub mod Choices
pub mod Lookup
pub mod LookupReports
-- the worked rows
pub mod Bench
