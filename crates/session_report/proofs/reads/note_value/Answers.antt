use Rattle.std.proofs.Common.{ap, sym, ◌∙◌}
use Rattle.std.specs.Option.{option_copied_mut}
use Rattle.session_report.proofs.ReadEntries.{viewed, viewed_value, viewed_absent}
use Rattle.session_report.proofs.reads.note_value.Goals as goal

pub returns-in_ok-push : goal.returns-in_ok-push
returns-in_ok-push c =
    ap viewed (c.get_mut.follows.holds c.push.new.self).0
    ∙ viewed_value c.args.reads.now.entries c.args.tid c.args.value c.in-Some.values.now c.push.new.self
    (sym c.get_mut.ensures.value ∙ ap option_copied_mut c.in-Some.is) c.in_ok-push.ensures.items

pub returns-in_default : goal.returns-in_default
returns-in_default c =
    ap (λ m. viewed m.entries) c.get_mut.follows.holds-at-none
    ∙ viewed_absent c.args.reads.now.entries c.args.tid c.args.value (sym c.get_mut.ensures.value ∙ ap option_copied_mut c.in_default.is)
