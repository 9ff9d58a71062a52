use Rattle.std.proofs.Common.{sym, ◌∙◌, arith}
use Rattle.frame_journal.specs.Records.{entries_of, entry_frame}
use Rattle.frame_journal.proofs.Entries.{frame_in_payload}
use Rattle.frame_journal.proofs.Popped.{popped}
use Rattle.frame_journal.proofs.Within.{within_all}
use Rattle.frame_journal.proofs.stopping.keep_within.Goals as goal

pub payload_len-requires : goal.payload_len-requires
payload_len-requires g c =
    let i = c.loop-whole.invariant in
    let p = popped g.F.Format.spelling c.args.left c.loop-whole.whole (entries_of c.args.versions.now.items c.args.records.now.items) c.loop-whole.versions.items c.loop-whole.records.items c.take_last-version.new.self.items c.take_last-last.new.self.items c.take_last-version.result c.take_last-last.result
    c.take_last-version.ensures.items c.take_last-last.ensures.items i.side_by_side c.loop-whole-test.true i.same i.size i.right in
    frame_in_payload c.take_last-version.result (g.F.Format.spelling c.take_last-last.result) p.goes.fits

pub frame_len-requires : goal.frame_len-requires
frame_len-requires g c =
    let i = c.loop-whole.invariant in
    let p = popped g.F.Format.spelling c.args.left c.loop-whole.whole (entries_of c.args.versions.now.items c.args.records.now.items) c.loop-whole.versions.items c.loop-whole.records.items c.take_last-version.new.self.items c.take_last-last.new.self.items c.take_last-version.result c.take_last-last.result
    c.take_last-version.ensures.items c.take_last-last.ensures.items i.side_by_side c.loop-whole-test.true i.same i.size i.right in
    omega (arith, c.payload_len.ensures, frame_in_payload c.take_last-version.result (g.F.Format.spelling c.take_last-last.result) p.goes.fits)

pub overflow_sub-whole : goal.overflow_sub-whole
overflow_sub-whole g c =
    let i = c.loop-whole.invariant in
    let p = popped g.F.Format.spelling c.args.left c.loop-whole.whole (entries_of c.args.versions.now.items c.args.records.now.items) c.loop-whole.versions.items c.loop-whole.records.items c.take_last-version.new.self.items c.take_last-last.new.self.items c.take_last-version.result c.take_last-last.result
    c.take_last-version.ensures.items c.take_last-last.ensures.items i.side_by_side c.loop-whole-test.true i.same i.size i.right in
    let size = c.frame_len.ensures (g.F.Format.spelling c.take_last-last.result) (sym c.payload_len.ensures) in
    omega (arith, size, p.goes.size)

pub loop-whole-preserved : goal.loop-whole-preserved
loop-whole-preserved g c =
    let i = c.loop-whole.invariant in
    let p = popped g.F.Format.spelling c.args.left c.loop-whole.whole (entries_of c.args.versions.now.items c.args.records.now.items) c.loop-whole.versions.items c.loop-whole.records.items c.take_last-version.new.self.items c.take_last-last.new.self.items c.take_last-version.result c.take_last-last.result
    c.take_last-version.ensures.items c.take_last-last.ensures.items i.side_by_side c.loop-whole-test.true i.same i.size i.right in
    let size = c.frame_len.ensures (g.F.Format.spelling c.take_last-last.result) (sym c.payload_len.ensures) in
    record {
      same = p.goes.same;
      side_by_side = p.side_by_side;
      size = omega (arith, size, p.goes.size);
      right = p.goes.right;
      room = c.take_last-last.ensures.capacity ∙ i.room;
      versions = c.take_last-version.ensures.capacity ∙ i.versions;
    }

pub returns-clause-records : goal.returns-clause-records
returns-clause-records g c =
    let entries = entries_of c.loop-whole.versions.items c.loop-whole.records.items in
    sym (within_all (entry_frame g.F.Format.spelling) c.args.left entries (omega (arith, c.loop-whole.invariant.size))) ∙ c.loop-whole.invariant.same
