use Rattle.std.proofs.Common.{◌≡◌, drop}
use Rattle.mdb_base.specs.Names.{same_tid}
use Rattle.mdb_base.specs.Words.{each_of, some_of}
use Rattle.order_laws.specs.Orders.{is_in}
use Rattle.order_merge.proofs.checking.all_named.Given as goal

-- the members that are left decide
abbrev pub invariant-loop-tid : goal.invariant-loop-tid
invariant-loop-tid l = each_of (λ t. some_of (λ ts. is_in same_tid ts t) l.queues) l.order ≡ each_of (λ t. some_of (λ ts. is_in same_tid ts t) l.queues) (drop l.tid-index l.order)
