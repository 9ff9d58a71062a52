use Rattle.std.proofs.Common.{length, ap, arith}
use Rattle.std.proofs.lemmas.List.{length-append}
use Rattle.frame_journal.proofs.Entries.{new_size}
use Rattle.frame_journal.proofs.entry.spell.Goals as goal

pub put-requires : goal.put-requires
put-requires g c =
    let spelled = g.F.Format.spelling c.args.entry.now in
    omega (arith, ap length c.encode.ensures.bytes, length-append c.put_u32.new.out.items spelled, c.put_u32.ensures.size, ap length c.clear.ensures.items, new_size spelled, c.requires.room, c.encode.ensures.room, c.put_u32.ensures.room, c.clear.ensures.capacity)

pub returns-clause-frame : goal.returns-clause-frame
returns-clause-frame g c =
    let spelled = g.F.Format.spelling c.args.entry.now in
    omega (arith, ap length c.encode.ensures.bytes, length-append c.put_u32.new.out.items spelled, c.put_u32.ensures.size, ap length c.clear.ensures.items, new_size spelled, c.put.ensures.size)
