use Rattle.std.proofs.Common.{sym, ◌∙◌}
use Rattle.mdb_base.proofs.ForCallers.{none_left}
use Rattle.fed_rules.specs.Requests.{attempt}
use Rattle.local_dbms.proofs.Asked.{spent_all, spent_committed, spent_down, spent_running}
use Rattle.local_dbms.proofs.Owned.{own_apart}
use Rattle.local_dbms.proofs.dbms.LocalDbms.spent.Goals as goal

pub returns-then-is_down : goal.returns-then-is_down
returns-then-is_down g c home programs past r own n =
    spent_down g.E.LocalEngine.stands c.args.self.now.core home past r.core (attempt c.args.tx n) (sym (c.is_down.ensures home past r.core) ∙ c.if-is_down.true)

pub returns-in-Some : goal.returns-in-Some
returns-in-Some g c home programs past r own n =
    let up = sym (c.is_down.ensures home past r.core) ∙ c.if-is_down.false in
    spent_committed g.E.LocalEngine.stands c.args.self.now.core home past r.core (attempt c.args.tx n) c.in-Some.committed up (sym (c.committed.ensures home past r.core up) ∙ c.in-Some.is)

pub returns-in-Some-running : goal.returns-in-Some-running
returns-in-Some-running g c home programs past r own n =
    let up = sym (c.is_down.ensures home past r.core) ∙ c.if-is_down.false in
    let apart = own_apart programs past c.args.tx r.owns.owned own in
    spent_running g.E.LocalEngine.stands c.args.self.now.core home past r.core (attempt c.args.tx n) c.in-Some-running.running up
    (sym (c.committed.ensures home past r.core up) ∙ none_left c.committed.result c.in_default.not-Some) (sym (c.running.ensures home past r.core up apart) ∙ c.in-Some-running.is)

pub returns : goal.returns
returns g c home programs past r own n =
    let up = sym (c.is_down.ensures home past r.core) ∙ c.if-is_down.false in
    let apart = own_apart programs past c.args.tx r.owns.owned own in
    spent_all g.E.LocalEngine.stands c.args.self.now.core home past r.core (attempt c.args.tx n) up
    (sym (c.committed.ensures home past r.core up) ∙ none_left c.committed.result c.in_default.not-Some)
    (sym (c.running.ensures home past r.core up apart) ∙ none_left c.running.result c.in_default-running.not-Some)
