use Rattle.actor_tests.specs.OfThree.{IsOfThree}
use Rattle.actor_tests.proofs.OfThree.{among_sites}
use Rattle.actor_tests.proofs.coordinator_reopened.reopened.Goals as goal

pub returns : goal.returns
unfolding IsOfThree
returns g c =
    let (journal, found) = c.in_ok-is_found.ensures in
    record {
      terms = _;
      programs = _;
      past = _;
      stood = c.in_ok-manager.ensures.stands journal found;
      holds = among_sites c.in_ok-sites.sites c.in_ok-sites.ensures;
    }
