use Rattle.audit_rules.proofs.Refuted.{other_edges_faulted, places_named}
use Rattle.audit_rules.proofs.wrong_rules.wrong_reasons.Goals as goal

pub returns-clause-edges : goal.returns-clause-edges
returns-clause-edges c = other_edges_faulted

pub returns-clause-places : goal.returns-clause-places
returns-clause-places c = places_named
