-- What callers cite of the core of a site.
pub use Rattle.site_core.proofs.BegunLaws.{none_opened, unbegun_opened}
pub use Rattle.site_core.proofs.FoundPasts.{next_not_found, past_not_found}
pub use Rattle.site_core.proofs.LineLaws.{begin_begun, begin_committed, begin_quiet, begin_running, begin_up, is_there}
pub use Rattle.site_core.proofs.MadeLaws.{lawful, made_right, made_starts, opened_apart}
pub use Rattle.site_core.proofs.NamedLines.{each_named}
pub use Rattle.site_core.proofs.OpenedDisk.{stands_behind, trimmed_off}
pub use Rattle.site_core.proofs.OpenedLaws.{found_journal, found_opened}
pub use Rattle.site_core.proofs.OpenedOnce.{named_apart}
pub use Rattle.site_core.proofs.OverLaws.{opened_firm}
pub use Rattle.site_core.proofs.RememberLaws.{passes_is, trip_left}
pub use Rattle.site_core.proofs.RuleWalks.{by_given, by_when, line_event}
pub use Rattle.site_core.proofs.StopLaws.{trip_is, trip_line}
pub use Rattle.site_core.proofs.ToldApart.{came_append}
pub use Rattle.site_core.proofs.UpLaws.{act_answers, refusal_plain}
