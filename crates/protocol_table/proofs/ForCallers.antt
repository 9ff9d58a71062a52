-- What callers cite of the coordinator's known attempts.
pub use Rattle.protocol_table.proofs.Agreeing.{acks_agree, answers_agree, classes_agree, voters_are, votes_agree}
pub use Rattle.protocol_table.proofs.Going.{acks_go, begins_go, decisions_go, records_go, restarts_go, undecided_stay, votes_go}
pub use Rattle.protocol_table.proofs.Keeps.{ack_keeps, initiated_undecided}
pub use Rattle.protocol_table.proofs.Words.{each_of_map}
