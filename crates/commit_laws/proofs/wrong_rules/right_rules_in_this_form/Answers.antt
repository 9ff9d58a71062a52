use Rattle.commit_laws.proofs.RightRules.{right-rules}
use Rattle.commit_laws.proofs.wrong_rules.right_rules_in_this_form.Goals as goal

pub returns : goal.returns
returns c = right-rules
