use Rattle.made_laws.proofs.EndsUnchecked.{ends_unchecked}
use Rattle.made_laws.proofs.Untrimmed.{journals_whole}
use Rattle.made_laws.proofs.made.unchecked_journals_are_whole.Goals as goal

pub returns-clause-whole : goal.returns-clause-whole
returns-clause-whole c = journals_whole

pub returns-clause-ends : goal.returns-clause-ends
returns-clause-ends c = ends_unchecked c.ends_add_their_own.ensures.closing c.ends_add_their_own.ensures.finishing
