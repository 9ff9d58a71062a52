-- A reply leaves an attempt its name.
use Rattle.std.proofs.Common.{ℕ, ◌≡◌, Bool, true, false, cond, refl}
use Rattle.mdb_base.specs.declared.names.SiteId.{SiteId}
use Rattle.mdb_base.specs.declared.replies.Reply.{Reply}
use Rattle.mdb_base.specs.declared.replies.Reply.TheVariants as Reply_is
use Rattle.global_exec.specs.Counted.{after_did, after_reply, counts}
use Rattle.global_exec.specs.Live.{Live}

pub did_same : (site : SiteId) (epoch n : ℕ) (reply : Reply) (live : Live) → (after_did site epoch n reply live).tid ≡ live.tid
did_same site epoch n reply live = by_test (counts site epoch n reply live) (by_reply reply)
  where
    by_reply : (r : Reply) → (after_reply site epoch r live).tid ≡ live.tid
    by_reply (Reply_is.Wait by) = refl
    by_reply (Reply_is.Refused why) = refl
    by_reply Reply_is.Unknown = refl
    by_reply Reply_is.Done = refl
    by_reply (Reply_is.Value value) = refl
    by_reply (Reply_is.Ticket ticket) = refl

    by_test : (b : Bool) → (after_reply site epoch reply live).tid ≡ live.tid → (cond b (after_reply site epoch reply live) live).tid ≡ live.tid
    by_test true e = e
    by_test false e = refl
