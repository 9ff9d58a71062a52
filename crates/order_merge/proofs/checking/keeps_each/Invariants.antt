use Rattle.std.proofs.Common.{◌≡◌, ◌↔◌, drop}
use Rattle.mdb_base.specs.Names.{same_tid}
use Rattle.mdb_base.specs.Words.{Each, those}
use Rattle.order_laws.specs.Orders.{is_in}
use Rattle.order_merge.proofs.checking.keeps_each.Given as goal

-- the orders that are left decide
abbrev pub invariant-loop-own : goal.invariant-loop-own
invariant-loop-own l = Each (λ ts. those (is_in same_tid ts) l.order ≡ ts) (drop l.own-index l.orders) ↔ Each (λ ts. those (is_in same_tid ts) l.order ≡ ts) l.orders
