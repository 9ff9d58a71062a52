-- What callers cite of scenarios and commands as text.
pub use Rattle.scenario_text.proofs.ListLemmas.{all_differ-more, each_of-more, how_many-push}
pub use Rattle.scenario_text.proofs.PieceLemmas.{cuts, ended_line, last_line, pieces_cut, pieces_uncut}
