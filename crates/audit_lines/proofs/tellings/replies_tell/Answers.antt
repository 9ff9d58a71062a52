use Rattle.std.proofs.Common.{refl}
use Rattle.mdb_base.specs.declared.replies.Reply.TheVariants as Reply_is
use Rattle.audit_lines.proofs.Joined.{one, two}
use Rattle.audit_lines.proofs.tellings.replies_tell.Goals as goal

pub returns : goal.returns
returns c Reply_is.Done Reply_is.Done = refl
returns c Reply_is.Done q = refl
returns c Reply_is.Unknown Reply_is.Unknown = refl
returns c Reply_is.Unknown q = refl
returns c (Reply_is.Value a) (Reply_is.Value b) = one _
returns c (Reply_is.Value a) q = refl
returns c (Reply_is.Ticket a) (Reply_is.Ticket b) = one _
returns c (Reply_is.Ticket a) q = refl
returns c (Reply_is.Wait a) (Reply_is.Wait b) = two _ _
returns c (Reply_is.Wait a) q = refl
returns c (Reply_is.Refused a) (Reply_is.Refused b) = c.whys_tell.ensures a b
returns c (Reply_is.Refused a) q = refl
