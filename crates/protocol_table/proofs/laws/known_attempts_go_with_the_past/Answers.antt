use Rattle.protocol_table.proofs.Going.{begins_go, votes_go, undecided_stay, records_go, decisions_go, acks_go, restarts_go}
use Rattle.protocol_table.proofs.laws.known_attempts_go_with_the_past.Goals as goal

pub returns-clause-begins : goal.returns-clause-begins
returns-clause-begins c = begins_go

pub returns-clause-votes : goal.returns-clause-votes
returns-clause-votes c = votes_go

pub returns-clause-stay : goal.returns-clause-stay
returns-clause-stay c = undecided_stay

pub returns-clause-records : goal.returns-clause-records
returns-clause-records c = records_go

pub returns-clause-decisions : goal.returns-clause-decisions
returns-clause-decisions c = decisions_go

pub returns-clause-acks : goal.returns-clause-acks
returns-clause-acks c = acks_go

pub returns-clause-restarts : goal.returns-clause-restarts
returns-clause-restarts c = restarts_go
