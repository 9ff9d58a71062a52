use Rattle.std.proofs.Common.{[], ◌∷◌, ◌++◌, sym, ap, ◌∙◌}
use Rattle.order_laws.specs.Tickets.{Ticketed}
use Rattle.fed_rules.specs.declared.records.CoordRecord.{CoordRecord}
use Rattle.fed_rules.specs.CoordRecords.{commits}
use Rattle.usable_journals.proofs.Committing.{adds_none}
use Rattle.usable_journals.proofs.cycles.add.Goals as goal

pub returns-in_ok-push-in-Commit : goal.returns-in_ok-push-in-Commit
returns-in_ok-push-in-Commit c =
    c.in_ok-push-in-Commit.ensures.items
    ∙ ap (λ (a : Ticketed). c.args.attempts.now.items ++ a ∷ []) c.in_ok-of-in-Commit.ensures.copy
    ∙ ap (λ (r : CoordRecord). c.args.attempts.now.items ++ commits (r ∷ [])) (sym c.in-Commit.is)

pub returns-in_default : goal.returns-in_default
returns-in_default c = adds_none c.args.attempts.now.items c.args.entry.now c.in_default.not-Commit
