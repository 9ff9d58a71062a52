use Rattle.std.proofs.Common.{Some, None, refl}
use Rattle.audit_lines.proofs.tellings.noes_tell.Goals as goal

pub returns : goal.returns
returns c None None = refl
returns c None (Some q) = refl
returns c (Some p) None = refl
returns c (Some p) (Some q) = c.whys_tell.ensures p q
