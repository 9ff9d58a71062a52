use Rattle.std.proofs.Common.{Some, None, List, ℕ, sym, ap, ◌∙◌}
use Rattle.std.specs.Option.{option_copied}
use Rattle.session_report.proofs.ReadEntries.{viewed_look}
use Rattle.session_report.proofs.reads.values_of.Goals as goal

pub returns-in-Some : goal.returns-in-Some
returns-in-Some c =
    ap (λ (values : List ℕ). Some values) c.as_slice.ensures.value
    ∙ sym (viewed_look c.args.reads.now.entries c.args.tid (Some c.in-Some.values.now) (sym c.get.ensures.value ∙ ap option_copied c.in-Some.is))

pub returns-in-None : goal.returns-in-None
returns-in-None c = sym (viewed_look c.args.reads.now.entries c.args.tid None (sym c.get.ensures.value ∙ ap option_copied c.in-None.is))
