use Rattle.std.proofs.Common.{List, [], ◌∷◌, ap, ◌∙◌, subst, arith}
use Rattle.std.specs.BTreeMap.{get}
use Rattle.mdb_base.specs.Names.{tid_cmp}
use Rattle.presumptions.specs.declared.Participant.{Participant}
use Rattle.fed_rules.specs.Reopened.{initiation_read}
use Rattle.usable_journals.specs.Reads.{Reads, begun}
use Rattle.usable_journals.proofs.Readings.{reads_initiation, reads_next}
use Rattle.usable_journals.proofs.coord_sums.Reading.begin_all.Goals as goal

pub loop-left-preserved : goal.loop-left-preserved
loop-left-preserved c = record {
  within = omega arith;
  read = λ protocols.
      let d = c.index-attempts-left.result in
      reads_next protocols initiation_read c.args.self.now c.loop-left.self c.begin.new.self c.args.attempts.now c.loop-left.left d (omega arith) c.loop-left.invariant.within
      (c.loop-left.invariant.read protocols)
      (subst (λ x. Reads protocols c.loop-left.self c.begin.new.self (initiation_read x ∷ [])) c.index-attempts-left.is
      (reads_initiation protocols c.loop-left.self c.begin.new.self d.tid d.participants
      (λ q. c.in_ok-begin.ensures.attempts q ∙ ap (λ (ps : List Participant). begun d.tid ps (get tid_cmp c.loop-left.self.attempts) q) c.in_ok-copy.ensures) c.in_ok-begin.ensures.committed));
}
