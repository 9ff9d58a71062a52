-- What callers cite of the ticket graph of the committed attempts.
pub use Rattle.ticket_graph.proofs.GraphLemmas.{in_tids, no_loop, tid_in}
pub use Rattle.ticket_graph.proofs.Meeting.{joined_last}
pub use Rattle.ticket_graph.proofs.Pruning.{nothing_before}
pub use Rattle.ticket_graph.proofs.Reaching.{before_has, has_before}
