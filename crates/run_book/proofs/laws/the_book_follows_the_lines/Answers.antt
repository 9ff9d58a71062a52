use Rattle.run_book.proofs.Carried.{starts_well, calls_well, unbegins_well, unseals_well}
use Rattle.run_book.proofs.laws.the_book_follows_the_lines.Goals as goal

pub returns-clause-starts : goal.returns-clause-starts
returns-clause-starts c = starts_well

pub returns-clause-calls : goal.returns-clause-calls
returns-clause-calls c = calls_well

pub returns-clause-unbegins : goal.returns-clause-unbegins
returns-clause-unbegins c = unbegins_well

pub returns-clause-unseals : goal.returns-clause-unseals
returns-clause-unseals c = unseals_well
