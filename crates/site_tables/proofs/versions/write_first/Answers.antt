use Rattle.std.proofs.Common.{arith}
use Rattle.site_tables.proofs.Writes.{first_more}
use Rattle.site_tables.proofs.versions.write_first.Goals as goal

pub loop-put-init : goal.loop-put-init
loop-put-init c = record { written = c.requires.none; room = omega arith }

pub loop-put-preserved : goal.loop-put-preserved
loop-put-preserved c = record {
  written = λ key. first_more c.args.rows.now c.loop-put.put-index _ key _ _ c.loop-put-test.true c.requires.rising (c.loop-put.invariant.written key) (c.write_over.ensures.written key);
  room = omega arith;
}
