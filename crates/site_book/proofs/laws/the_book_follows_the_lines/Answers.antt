use Rattle.site_book.proofs.Followed.{calls_well, commits_well, decides_well, stays_closed}
use Rattle.site_book.proofs.Starts.{starts_well}
use Rattle.site_book.proofs.Undone.{forgets-enters, unbegins-begins}
use Rattle.site_book.proofs.laws.the_book_follows_the_lines.Goals as goal

pub returns-clause-starts : goal.returns-clause-starts
returns-clause-starts c = starts_well

pub returns-clause-calls : goal.returns-clause-calls
returns-clause-calls c = calls_well

pub returns-clause-commits : goal.returns-clause-commits
returns-clause-commits c = commits_well

pub returns-clause-decides : goal.returns-clause-decides
returns-clause-decides c = decides_well

pub returns-clause-stays : goal.returns-clause-stays
returns-clause-stays c = stays_closed

pub returns-clause-undoes : goal.returns-clause-undoes
returns-clause-undoes c = λ book tid free. (λ progress. forgets-enters tid progress book free, unbegins-begins tid book free)
