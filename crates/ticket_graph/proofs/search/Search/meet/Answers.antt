use Rattle.std.proofs.Common.{◌≡◌, ◌+◌, true, ◌∙◌, sym, subst}
use Rattle.std.specs.Ordering.{is_eq}
use Rattle.std.specs.BTreeSet.{BTreeSet, btree_set_len, contains}
use Rattle.ticket_graph.specs.declared.entries.Entry.{Entry}
use Rattle.ticket_graph.specs.Entries.{entry_cmp}
use Rattle.ticket_graph.specs.Steps.{Meets}
use Rattle.ticket_graph.proofs.StepLemmas.{meets, met_before}
use Rattle.ticket_graph.proofs.search.Search.meet.Goals as goal

pub invariant_of-self : goal.invariant_of-self
invariant_of-self c =
    record {
      seen_reached = c.reach.new.self.seen_reached;
      within = λ e h. c.reach.new.self.within e
          (met_before (contains entry_cmp c.remove.new.self e) (contains entry_cmp c.reach.new.self.unmet e) (is_eq (entry_cmp c.args.entry e)) (c.remove.ensures.updates.0 e) h);
    }

pub returns-clause-meets : goal.returns-clause-meets
returns-clause-meets c =
    let there : contains entry_cmp c.reach.new.self.unmet c.args.entry ≡ true =
    subst (λ (unmet : BTreeSet Entry). contains entry_cmp unmet c.args.entry ≡ true) (sym c.in_ok-reach.ensures.same) c.requires in
    let removed : c.remove.result ≡ true = c.remove.ensures.test ∙ there in
    let less : btree_set_len c.remove.new.self + 1 ≡ btree_set_len c.reach.new.self.unmet = rw removed at c.remove.ensures.len in
    subst (λ (unmet : BTreeSet Entry). Meets c.args.entry unmet c.remove.new.self) c.in_ok-reach.ensures.same
    (meets c.args.entry c.reach.new.self.unmet c.remove.new.self c.remove.ensures.updates.0 less)
