-- What callers cite of the coordinator's undecided attempts.
pub use Rattle.global_exec.proofs.Agrees.{all_due-outstanding}
pub use Rattle.global_exec.proofs.CountPasts.{awaits_link, counts_link}
pub use Rattle.global_exec.proofs.ExecPasts.{IsSame, answer_of_past, elsewhere_same, map-same, same_of_past, uncounted_same, vote_of_past, wait_of_past}
pub use Rattle.global_exec.proofs.Firsts.{read_there}
pub use Rattle.global_exec.proofs.Keeps.{did_same}
pub use Rattle.global_exec.proofs.NewsPasts.{news_link}
pub use Rattle.global_exec.proofs.Rises.{each_above, found_rises}
pub use Rattle.global_exec.proofs.SetLists.{sets_are_lists}
