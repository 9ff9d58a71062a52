use Rattle.std.proofs.Common.{rules, ◌≡◌, Bool, inl, inr, sym, ap, ◌∙◌, subst, arith}
use Rattle.std.specs.Prelude.{MatchBool}
use Rattle.fed_rules.specs.declared.answers.Answer.{Answer}
use Rattle.fed_rules.specs.declared.answers.Answer.TheVariants as Say
use Rattle.fed_rules.specs.declared.events.SiteEvent.TheVariants as Ev
use Rattle.fed_rules.specs.Requests.{attempt, unless_begun}
use Rattle.fed_rules.specs.Site.{site_line}
use Rattle.fed_rules.specs.SitePast.{attempts_of, begins_tx}
use Rattle.local_dbms.proofs.ForCallers.{recalled}
use Rattle.fed_hosts.proofs.Own.{unbegun_unless}
use Rattle.fed_hosts.proofs.serving.is_spent.Goals as goal

pub returns-then-begun-lt-MOST_BEGUN-clause-left : goal.returns-then-begun-lt-MOST_BEGUN-clause-left
returns-then-begun-lt-MOST_BEGUN-clause-left g c is tells disk home programs past stood own begin =
    let count = c.begun.ensures home past (c.core.ensures.stood tells disk home programs past stood).holds in
    inl (omega (arith, count, c.if-begun-lt-MOST_BEGUN.true))

pub returns-clause-spent : goal.returns-clause-spent
returns-clause-spent g c spent tells disk home programs past stood own =
    let count = c.begun.ensures home past (c.core.ensures.stood tells disk home programs past stood).holds in
    let recalls = recalled g.E.LocalEngine.stands tells c.args.dbms.now disk home programs past stood in
    let a = (site_line home past (Ev.Begin (attempt c.args.tx (attempts_of past c.args.tx)))).answer in
    record {
      begin = (search rules);
      most = omega (arith, count, c.if-begun-lt-MOST_BEGUN.false);
      further = subst (λ (b : Bool). MatchBool b (unless_begun a ≡ Say.Spent) (unless_begun a ≡ a)) spent (c.would_begin.ensures home programs past recalls own (attempts_of past c.args.tx));
    }

pub returns-clause-left : goal.returns-clause-left
returns-clause-left g c none tells disk home programs past stood own begin =
    let a = (site_line home past (Ev.Begin (attempt c.args.tx (attempts_of past c.args.tx)))).answer in
    let recalls = recalled g.E.LocalEngine.stands tells c.args.dbms.now disk home programs past stood in
    let kept : unless_begun a ≡ a = subst (λ (b : Bool). MatchBool b (unless_begun a ≡ Say.Spent) (unless_begun a ≡ a)) none (c.would_begin.ensures home programs past recalls own (attempts_of past c.args.tx)) in
    inr (λ other. ap (λ (x : Answer). begins_tx other x) (sym kept) ∙ unbegun_unless a other)
