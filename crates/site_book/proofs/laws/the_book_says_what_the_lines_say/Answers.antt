use Rattle.site_book.proofs.Followed.{answers_well}
use Rattle.site_book.proofs.laws.the_book_says_what_the_lines_say.Goals as goal

pub returns-clause-answers : goal.returns-clause-answers
returns-clause-answers c = answers_well
