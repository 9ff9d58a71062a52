use Rattle.federation_laws.proofs.Refuted.{without_graph_broken, forgotten_broken}
use Rattle.federation_laws.proofs.wrong_rules.wrong_headlines.Goals as goal

pub returns-clause-without_graph : goal.returns-clause-without_graph
returns-clause-without_graph c = without_graph_broken

pub returns-clause-forgotten : goal.returns-clause-forgotten
returns-clause-forgotten c = forgotten_broken
