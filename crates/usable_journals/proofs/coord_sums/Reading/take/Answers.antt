use Rattle.std.proofs.Common.{List, [], ◌∷◌, ap, ◌∙◌, sym, subst}
use Rattle.std.specs.BTreeMap.{get}
use Rattle.mdb_base.specs.Names.{tid_cmp}
use Rattle.presumptions.specs.declared.Participant.{Participant}
use Rattle.usable_journals.specs.Reads.{Reads, begun}
use Rattle.usable_journals.proofs.Readings.{reads_abort, reads_initiation}
use Rattle.usable_journals.proofs.coord_sums.Reading.take.Goals as goal

pub returns-in_ok-begin-in-Initiation : goal.returns-in_ok-begin-in-Initiation
returns-in_ok-begin-in-Initiation c =
    subst (λ e. Reads c.args.protocols.now c.args.self.now c.begin.new.self (e ∷ [])) (sym c.in-Initiation.is)
    (reads_initiation c.args.protocols.now c.args.self.now c.begin.new.self c.in-Initiation.tid c.in-Initiation.participants
    (λ q. c.in_ok-begin-in-Initiation.ensures.attempts q ∙ ap (λ (ps : List Participant). begun c.in-Initiation.tid ps (get tid_cmp c.args.self.now.attempts) q) c.in_ok-copy-in-Initiation.ensures) c.in_ok-begin-in-Initiation.ensures.committed)

pub returns-in_ok-begin-in-Abort : goal.returns-in_ok-begin-in-Abort
returns-in_ok-begin-in-Abort c =
    subst (λ e. Reads c.args.protocols.now c.args.self.now c.begin-in-Abort.new.self (e ∷ [])) (sym c.in-Abort.is)
    (reads_abort c.args.protocols.now c.args.self.now c.begin-in-Abort.new.self c.in-Abort.tid c.in-Abort.participants
    (λ q. c.in_ok-begin-in-Abort.ensures.attempts q ∙ ap (λ (ps : List Participant). begun c.in-Abort.tid ps (get tid_cmp c.args.self.now.attempts) q) c.in_ok-copy-in-Abort.ensures) c.in_ok-begin-in-Abort.ensures.committed)
