use Rattle.std.proofs.Common.{arith}
use Rattle.global_exec.proofs.SetBits.{with_site}
use Rattle.global_exec.proofs.policy.SiteSet.with.Goals as goal

pub returns : goal.returns
returns c = λ other low high. with_site c.args.self.0 c.args.site.0 other.0 (grind arith) (omega arith) low high
