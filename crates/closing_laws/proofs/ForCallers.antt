-- What callers cite of closing a session and finishing alone.
pub use Rattle.closing_laws.proofs.AllAlone.{its_site}
pub use Rattle.closing_laws.proofs.BegunOnce.{once_distinct, restored_some}
pub use Rattle.closing_laws.proofs.Bound.{HasFew, session_short}
pub use Rattle.closing_laws.proofs.Calm.{IsReady, ask_mild, asks, decide_mild, drop_mild, gives, lates, ready_next, takes}
pub use Rattle.closing_laws.proofs.Closed.{calm_up}
pub use Rattle.closing_laws.proofs.CoordTurns.{takes_there}
pub use Rattle.closing_laws.proofs.Declared.{member_home}
pub use Rattle.closing_laws.proofs.Delivered.{item_behind, sent_behind}
pub use Rattle.closing_laws.proofs.EndKnown.{IsUnknown, ended}
pub use Rattle.closing_laws.proofs.FewSites.{at_most_eight}
pub use Rattle.closing_laws.proofs.FewTids.{few_found, few_tids}
pub use Rattle.closing_laws.proofs.Inquire.{doubt_listed, settled}
pub use Rattle.closing_laws.proofs.Lengths.{distinct_in_others, length_rising, length_sorted, numbers_differ}
pub use Rattle.closing_laws.proofs.Locals.{Begins, IsBeginOf, by_line}
pub use Rattle.closing_laws.proofs.Onward.{IsCalm, at_home}
pub use Rattle.closing_laws.proofs.OthersStay.{BeginsNoneOf, among_committed, among_local, begun_is, commit_stays, committed_among, local_among, local_stays, no_begin, no_go, turn_line}
pub use Rattle.closing_laws.proofs.Quiet.{none_live_at, nothing_passes, quiet_rests}
pub use Rattle.closing_laws.proofs.Ready.{UndeclaredAreSilent, brought_calm}
