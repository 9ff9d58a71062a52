use Rattle.federation_laws.proofs.Refuted.{commits_without_graph_refuted}
use Rattle.federation_laws.proofs.wrong_rules.wrong_commits.Goals as goal

pub returns : goal.returns
returns c = commits_without_graph_refuted
