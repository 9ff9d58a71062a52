use Rattle.global_exec.proofs.CountPasts.{awaits_link, counts_link}
use Rattle.global_exec.proofs.NewsPasts.{news_link}
use Rattle.global_exec.proofs.laws.attempts_count_as_the_past.Goals as goal

pub returns-clause-replies : goal.returns-clause-replies
returns-clause-replies c = λ protocols past tid live is site among epoch n reply. counts_link protocols past tid live is site among epoch n reply

pub returns-clause-votes : goal.returns-clause-votes
returns-clause-votes c = λ protocols past tid live is site among. awaits_link protocols past tid live is site among

pub returns-clause-news : goal.returns-clause-news
returns-clause-news c = λ protocols past now tid before after was is site same elsewhere. news_link protocols past now tid before after was is site same elsewhere
