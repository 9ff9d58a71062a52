use Rattle.std.proofs.Common.{Some, None, refl}
use Rattle.fed_rules.specs.declared.answers.Cause.TheVariants as For
use Rattle.audit_lines.proofs.Joined.{one, site_tid, edges_tell}
use Rattle.audit_lines.proofs.tellings.causes_tell.Goals as goal

pub returns : goal.returns
returns c None None = refl
returns c None (Some For.Late) = refl
returns c None (Some (For.Dies site by)) = refl
returns c None (Some (For.TooLate site by)) = refl
returns c None (Some (For.Unknown site)) = refl
returns c None (Some (For.No site)) = refl
returns c None (Some (For.Cycle edges)) = refl
returns c (Some For.Late) (Some For.Late) = refl
returns c (Some For.Late) q = refl
returns c (Some (For.Dies site by)) (Some (For.Dies site' by')) = site_tid site site' by by'
returns c (Some (For.Dies site by)) q = refl
returns c (Some (For.TooLate site by)) (Some (For.TooLate site' by')) = site_tid site site' by by'
returns c (Some (For.TooLate site by)) q = refl
returns c (Some (For.Unknown site)) (Some (For.Unknown site')) = one _
returns c (Some (For.Unknown site)) q = refl
returns c (Some (For.No site)) (Some (For.No site')) = one _
returns c (Some (For.No site)) q = refl
returns c (Some (For.Cycle edges)) (Some (For.Cycle edges')) = edges_tell edges edges'
returns c (Some (For.Cycle edges)) q = refl
