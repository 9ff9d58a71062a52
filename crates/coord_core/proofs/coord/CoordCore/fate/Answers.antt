use Rattle.std.proofs.Common.{ℕ, ◌==◌, true, cond, sym, ap, ◌∙◌}
use Rattle.fed_rules.specs.declared.answers.Answer.TheVariants as Say
use Rattle.coord_tables.proofs.ForCallers.{fate_committed, fate_ended, fate_running, running_is}
use Rattle.coord_core.proofs.Made.{made_and}
use Rattle.coord_core.proofs.Still.{serves}
use Rattle.coord_core.proofs.Says.{says_as}
use Rattle.coord_core.proofs.coord.CoordCore.fate.Goals as goal

pub returns-in-Some : goal.returns-in-Some
returns-in-Some g c = made_and _ _ c.says.result c.says.ensures (λ step said terms past h.
    let s = serves g.P.TakePolicy.policy true c.args.self.now terms past h c.requires.up in
    says_as step _ _ (fate_committed past c.args.tx c.in-Some.committed (sym (s.committed c.args.tx) ∙ sym c.last_of.ensures ∙ c.in-Some.is)) said.0 said.1)

pub returns-in-Some-last_of : goal.returns-in-Some-last_of
returns-in-Some-last_of g c = made_and _ _ c.says-in-Some-last_of.result c.says-in-Some-last_of.ensures (λ step said terms past h.
    let s = serves g.P.TakePolicy.policy true c.args.self.now terms past h c.requires.up in
    says_as step _ _ (fate_running past c.args.tx c.in-Some-last_of.running (sym (s.committed c.args.tx) ∙ sym c.last_of.ensures ∙ c.in-None.is)
    (sym (running_is c.args.self.now.tables terms past c.args.tx s) ∙ sym c.last_of-in-None.ensures ∙ c.in-Some-last_of.is)) said.0 said.1)

pub returns-in-None-last_of : goal.returns-in-None-last_of
returns-in-None-last_of g c = made_and _ _ c.ended.result c.ended.ensures (λ step said terms past h.
    let s = serves g.P.TakePolicy.policy true c.args.self.now terms past h c.requires.up in
    says_as step _ _ (fate_ended past c.args.tx (sym (s.committed c.args.tx) ∙ sym c.last_of.ensures ∙ c.in-None.is)
    (sym (running_is c.args.self.now.tables terms past c.args.tx s) ∙ sym c.last_of-in-None.ensures ∙ c.in-None-last_of.is))
    (said.0 ∙ ap (λ (n : ℕ). cond (n == 0) Say.Unbegun Say.Ended) (h.begun c.args.tx)) said.1)
