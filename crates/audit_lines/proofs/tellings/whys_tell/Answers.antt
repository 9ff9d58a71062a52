use Rattle.std.proofs.Common.{refl}
use Rattle.mdb_base.specs.declared.replies.Why.TheVariants as Because
use Rattle.audit_lines.proofs.Joined.{two, tid_number}
use Rattle.audit_lines.proofs.tellings.whys_tell.Goals as goal

pub returns : goal.returns
returns c (Because.Die a) (Because.Die b) = two _ _
returns c (Because.Die a) q = refl
returns c (Because.Late a) (Because.Late b) = two _ _
returns c (Because.Late a) q = refl
returns c (Because.TicketMoved a) (Because.TicketMoved b) = two _ _
returns c (Because.TicketMoved a) q = refl
returns c (Because.Invalid a k) (Because.Invalid b l) = tid_number a b k.0 l.0
returns c (Because.Invalid a k) q = refl
