use Rattle.std.proofs.Common.{[], ◌∷◌, subst, arith}
use Rattle.fed_rules.specs.Reopened.{commit_read}
use Rattle.usable_journals.specs.Reads.{Reads}
use Rattle.usable_journals.proofs.Readings.{reads_next}
use Rattle.usable_journals.proofs.coord_sums.Reading.commit_all.Goals as goal

pub loop-left-preserved : goal.loop-left-preserved
loop-left-preserved c = record {
  within = omega arith;
  read =
      let d = c.index-committed-left.result in
      reads_next c.args.protocols.now commit_read c.args.self.now c.loop-left.self c.commit.new.self c.args.committed.now c.loop-left.left d (omega arith) c.loop-left.invariant.within
      c.loop-left.invariant.read
      (subst (λ x. Reads c.args.protocols.now c.loop-left.self c.commit.new.self (commit_read x ∷ [])) c.index-committed-left.is c.in_ok-commit.ensures);
}
