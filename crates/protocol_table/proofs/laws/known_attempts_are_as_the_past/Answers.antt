use Rattle.std.proofs.Common.{ap}
use Rattle.fed_rules.specs.CoordRecords.{is_nobody, required_of}
use Rattle.protocol_table.proofs.Agreeing.{answers_agree, votes_agree, classes_agree, acks_agree}
use Rattle.protocol_table.proofs.laws.known_attempts_are_as_the_past.Goals as goal

pub returns-clause-answers : goal.returns-clause-answers
returns-clause-answers c = answers_agree

pub returns-clause-votes : goal.returns-clause-votes
returns-clause-votes c = votes_agree

pub returns-clause-decisions : goal.returns-clause-decisions
returns-clause-decisions c = λ protocols past tid known named decision. ap (λ ps. is_nobody (required_of decision ps)) named

pub returns-clause-acks : goal.returns-clause-acks
returns-clause-acks c = acks_agree

pub returns-clause-classes : goal.returns-clause-classes
returns-clause-classes c = classes_agree
