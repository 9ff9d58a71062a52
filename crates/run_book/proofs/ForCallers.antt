-- What callers cite of what the engines keep of a site's runs: the book, and the ages of accesses and of those who took the ticket.
pub use Rattle.run_book.proofs.AgeRules.{stops_access, stops_reader}
pub use Rattle.run_book.proofs.AgeSteps.{follows_begins, follows_calls, follows_starts, follows_unseals, noted_ends, stop_shape}
pub use Rattle.run_book.proofs.Ages.{age-le, ages-differ, own_or_other, through_line}
pub use Rattle.run_book.proofs.Best.{TellsApart, greatest-empty, greatest-is, greatest-none, least-empty, least-found}
pub use Rattle.run_book.proofs.Calls.{free_after, run_at-held}
pub use Rattle.run_book.proofs.Carried.{calls_well, starts_well, unbegins_well, unseals_well}
pub use Rattle.run_book.proofs.Ends.{called_ends}
pub use Rattle.run_book.proofs.HeldBy.{just_sealed_held, live_held, sealable_held, sealed_held, some-found, ticketless_held, unended_held}
pub use Rattle.run_book.proofs.InOrder.{if_found, of_found, some_held}
pub use Rattle.run_book.proofs.Kept.{kept-by_number, newer-after, value-kept_after}
pub use Rattle.run_book.proofs.Members.{Is, is-append, is-append_left, is-append_right, is-those, those-is}
pub use Rattle.run_book.proofs.Outcomes.{ends-none, gives_up-ends}
pub use Rattle.run_book.proofs.RunMaps.{held_in-changed_own}
pub use Rattle.run_book.proofs.Tables.{after-table, rows-are}
pub use Rattle.run_book.proofs.TicketRules.{stops_taking}
pub use Rattle.run_book.proofs.Tickets.{restored_back, unlisted}
pub use Rattle.run_book.proofs.Trees.{entries_gone, entries_put, get-gone, get-put, get_look, put-gone}
pub use Rattle.run_book.proofs.Unended.{is-unended, oldest-least, unended-is}
pub use Rattle.run_book.proofs.ValueLemmas.{after-own_write}
pub use Rattle.run_book.proofs.Words.{if_ok-both, take_more-turned}
