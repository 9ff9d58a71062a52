use Rattle.std.proofs.Common.{arith}
use Rattle.site_tables.proofs.Writes.{written_more}
use Rattle.site_tables.proofs.versions.write_all.Goals as goal

pub loop-put-preserved : goal.loop-put-preserved
loop-put-preserved c = record {
  written = λ key. written_more c.args.writes.now c.loop-put.put-index _ c.args.number key _ _ _ c.loop-put-test.true (c.loop-put.invariant.written key) (c.write.ensures.written key);
  room = omega arith;
}
