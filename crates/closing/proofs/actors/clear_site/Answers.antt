use Rattle.std.proofs.Common.{◌++◌, true, false, List, ap, ap₂, append_assoc, ◌∙◌}
use Rattle.mdb_base.specs.declared.names.Tid.{Tid}
use Rattle.fed_rules.specs.declared.commands.Command.{Command}
use Rattle.fed_rules.specs.Closing.{live}
use Rattle.fed_rules.specs.SitePast.{is_local}
use Rattle.fed_rules.specs.Story.{past_of, story_in}
use Rattle.closing.specs.Steps.{ending_of}
use Rattle.closing.proofs.Towards.{on_success}
use Rattle.closing.proofs.actors.clear_site.Goals as goal

pub returns : goal.returns
returns c =
    on_success c.clear_tids-2.result
    (λ added session before r up.
    let own = is_local (past_of c.args.site (story_in session before)) in
    let tids = live session.plan (story_in session before) c.args.site in
    let first = c.in_ok-clear_tids.ensures session before r ∙ ap (λ (ts : List Tid). c.args.commands.now.items ++ ending_of own c.args.site true ts) (c.deref.ensures.value ∙ c.in_ok-tids.ensures session before r up) in
    added session before r
    ∙ (ap₂ (λ (cs : List Command) (ts : List Tid). cs ++ ending_of own c.args.site false ts) first (c.deref-2.ensures.value ∙ c.in_ok-tids.ensures session before r up)
    ∙ append_assoc c.args.commands.now.items (ending_of own c.args.site true tids) (ending_of own c.args.site false tids)))
    c.clear_tids-2.ensures
