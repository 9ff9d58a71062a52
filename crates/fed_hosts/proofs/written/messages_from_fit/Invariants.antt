use Rattle.std.proofs.Common.{drop}
use Rattle.mdb_base.specs.Words.{Each}
use Rattle.host_laws.specs.Written.{FitsFromSite}
use Rattle.fed_hosts.proofs.written.messages_from_fit.Given as goal

-- with those that are left it is so of all
abbrev pub invariant-loop-message : goal.invariant-loop-message
invariant-loop-message l = Each FitsFromSite (drop l.message-index l.messages) → Each FitsFromSite l.messages
