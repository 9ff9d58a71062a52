use Rattle.std.proofs.Common.{List, Some, cond, ap, ◌∙◌}
use Rattle.std.specs.BTreeMap.{get}
use Rattle.std.specs.Ordering.{is_eq}
use Rattle.mdb_base.specs.declared.names.SiteTicket.{SiteTicket}
use Rattle.mdb_base.specs.Names.{tid_cmp}
use Rattle.presumptions.specs.declared.Participant.{Participant}
use Rattle.usable_journals.specs.Reads.{begun}
use Rattle.usable_journals.proofs.Readings.{reads_commit}
use Rattle.usable_journals.proofs.coord_sums.Reading.commit.Goals as goal

pub returns : goal.returns
returns c =
    reads_commit c.args.protocols.now c.args.self.now c.begin.new.self.attempts c.forget.new.self.attempts c.forget.new.self.committed c.insert.new.self c.args.tid c.args.tickets.now
    (λ q. c.in_ok-begin.ensures.attempts q ∙ ap (λ (ps : List Participant). begun c.args.tid ps (get tid_cmp c.args.self.now.attempts) q) c.in_ok-ticketed.ensures)
    c.forget.ensures.attempts (c.forget.ensures.committed ∙ c.in_ok-begin.ensures.committed)
    (λ q. c.in_ok-insert.ensures.updates.0 q ∙ ap (λ (ts : List SiteTicket). cond (is_eq (tid_cmp c.args.tid q)) (Some ts) (get tid_cmp c.forget.new.self.committed q)) c.in_ok-kept.ensures)
