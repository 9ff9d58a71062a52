use Rattle.std.proofs.Common.{nat_lt, sym, ap, ◌∙◌}
use Rattle.fed_rules.specs.SitePast.{SitePast, is_local}
use Rattle.fed_rules.specs.Story.{past_of, story_in}
use Rattle.closing.proofs.Cores.{begun_local}
use Rattle.closing.proofs.World.{silent}
use Rattle.closing.proofs.actors.is_own.Goals as goal

pub returns-in-None : goal.returns-in-None
returns-in-None c session commands r = ap (λ (past : SitePast). is_local past c.args.tid) (sym (silent session r.has.begins c.args.site commands (c.in-None.ensures session commands r)))

pub returns-in-Some : goal.returns-in-Some
returns-in-Some c session commands r =
    let l = c.in-Some.ensures session commands r in
    ap (nat_lt 0) (c.begun.ensures l.home _ (c.core.ensures.held l.home _ _ l.recalls)) ∙ begun_local (past_of c.args.site (story_in session commands)) c.args.tid
