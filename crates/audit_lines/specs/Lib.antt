-- what is compared of answers, and the reason that is found
pub mod Compared
-- the committed attempts and the ticket edges, as a journal tells them
pub mod Edges
-- the tickets of a candidate
pub mod Votes
