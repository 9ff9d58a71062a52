use Rattle.std.proofs.Common.{ap, length, arith}
use Rattle.record_fields.specs.Items.{joined}
use Rattle.record_fields.specs.Named.{a_put}
use Rattle.record_fields.proofs.Sizes.{rows_size}
use Rattle.record_fields.proofs.lists.put_writes.Goals as goal

pub returns-clause-size : goal.returns-clause-size
returns-clause-size c = omega (arith, c.put_items.ensures.size, c.put_u16.ensures.size, rows_size c.args.rows.now, ap (λ xs. length (joined a_put.spelling xs)) c.as_slice.ensures.items)
