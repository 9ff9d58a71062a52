use Rattle.std.proofs.Common.{◌<◌, ℕ, sym, subst}
use Rattle.site_book.proofs.Numbered.{put_number, reached_number}
use Rattle.site_book.proofs.local_map.set.Goals as goal

pub index_mut-requires : goal.index_mut-requires
index_mut-requires g c = subst (λ (n : ℕ). c.args.tx.0 < n) (sym c.args.items.now.ok.0) (reached_number c.args.items.now.items c.args.tx c.requires)

pub returns : goal.returns
returns g c = put_number c.args.items.now.items c.args.tx c.args.item (reached_number c.args.items.now.items c.args.tx c.requires)
