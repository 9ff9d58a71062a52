-- Replies that end an attempt.
use Rattle.std.specs.Prelude.{Bool, true, false}
use Rattle.mdb_base.specs.declared.replies.Reply.{Reply}
use Rattle.mdb_base.specs.declared.replies.Reply.TheVariants as Reply_is

-- whether the subtransaction is aborted at the site, or the operation fitted nothing there
abbrev pub is_refusal : Reply → Bool
is_refusal (Reply_is.Refused why) = true
is_refusal Reply_is.Unknown = true
is_refusal reply = false
