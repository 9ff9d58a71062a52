use Rattle.std.proofs.Common.{[], ◌∷◌, ◌++◌, List, reverse, sym, ap, ◌∙◌}
use Rattle.order_laws.specs.Tickets.{Ticketed}
use Rattle.fed_rules.specs.declared.records.CoordRecord.{CoordRecord}
use Rattle.fed_rules.specs.CoordRecords.{commits}
use Rattle.fed_rules.specs.Usable.{coord_read}
use Rattle.usable_journals.proofs.Committing.{journal_commits, no_commits}
use Rattle.usable_journals.proofs.cycles.committed_attempts.Goals as goal

pub returns-in_default : goal.returns-in_default
returns-in_default c = c.new-attempts.ensures.items ∙ no_commits c.args.records.now c.in_default.ensures.cases

pub returns : goal.returns
returns c =
    let first = c.in-Some.first.now in
    c.in_ok-add_first.ensures
    ∙ ap (λ (cs : List Ticketed). cs ++ commits (coord_read (first ∷ []))) (c.in_ok-add_all.ensures ∙ ap (λ (cs : List Ticketed). cs ++ commits (reverse c.in-Some.newer.now)) c.new-attempts.ensures.items)
    ∙ sym (journal_commits first c.in-Some.newer.now)
    ∙ ap (λ (rs : List CoordRecord). commits (coord_read (reverse rs))) (sym c.in-Some.ensures.cases.0)
