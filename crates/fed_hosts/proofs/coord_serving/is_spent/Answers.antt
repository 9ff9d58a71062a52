use Rattle.std.proofs.Common.{◌≡◌, Bool, inl, inr, sym, ap, ◌∙◌, subst, arith, refl}
use Rattle.std.specs.Prelude.{MatchBool}
use Rattle.fed_rules.specs.declared.answers.Answer.{Answer}
use Rattle.fed_rules.specs.declared.answers.Answer.TheVariants as Say
use Rattle.fed_rules.specs.declared.events.CoordEvent.TheVariants as Ev
use Rattle.fed_rules.specs.CoordPast.{attempts_of}
use Rattle.fed_rules.specs.Requests.{attempt, unless_begun}
use Rattle.fed_rules.specs.SitePast.{begins_tx}
use Rattle.coord_tables.specs.Terms.{line_of}
use Rattle.fed_hosts.proofs.Own.{unbegun_unless}
use Rattle.fed_hosts.proofs.coord_serving.is_spent.Goals as goal

pub returns-then-from-lt-MOST_BEGUN-clause-left : goal.returns-then-from-lt-MOST_BEGUN-clause-left
returns-then-from-lt-MOST_BEGUN-clause-left g c is terms programs past stood =
    let count = c.begun.ensures terms past (c.core.ensures.held terms programs past stood) in
    inl (omega (arith, count, c.if-from-lt-MOST_BEGUN.true))

pub returns-clause-spent : goal.returns-clause-spent
returns-clause-spent g c spent terms programs past stood =
    let count = c.begun.ensures terms past (c.core.ensures.held terms programs past stood) in
    record {
      most = omega (arith, count, c.if-from-lt-MOST_BEGUN.false);
      further = λ steps.
          let tid = attempt c.args.tx (attempts_of past c.args.tx) in
          let a = (line_of terms past (Ev.Go tid steps)).answer in
          subst (λ (b : Bool). MatchBool b (unless_begun a ≡ Say.Spent) (unless_begun a ≡ a)) spent (c.would_begin.ensures terms programs past stood tid steps refl);
    }

pub returns-clause-left : goal.returns-clause-left
returns-clause-left g c none terms programs past stood = inr (λ other steps.
    let tid = attempt c.args.tx (attempts_of past c.args.tx) in
    let a = (line_of terms past (Ev.Go tid steps)).answer in
    let kept : unless_begun a ≡ a = subst (λ (b : Bool). MatchBool b (unless_begun a ≡ Say.Spent) (unless_begun a ≡ a)) none (c.would_begin.ensures terms programs past stood tid steps refl) in
    ap (λ (x : Answer). begins_tx other x) (sym kept) ∙ unbegun_unless a other)
