use Rattle.std.proofs.Common.{rules, ◌<◌, ◌≤◌, length}
use Rattle.site_book.proofs.Numbered.{gone_number, gone_past}
use Rattle.site_book.proofs.local_map.take_out.Goals as goal

pub returns-then-tx-len : goal.returns-then-tx-len
returns-then-tx-len g c = let within : c.args.tx.0 < length c.args.items.now.items = search rules in gone_number c.args.items.now.items c.args.tx within

pub returns-else-tx-len : goal.returns-else-tx-len
returns-else-tx-len g c = let past : length c.args.items.now.items ≤ c.args.tx.0 = search rules in gone_past c.args.items.now.items c.args.tx past
