use Rattle.std.proofs.Common.{List, true, subst, sym}
use Rattle.mdb_base.specs.declared.replies.Edge.{Edge}
use Rattle.fed_rules.specs.Scenarios.{protocols}
use Rattle.fed_rules.specs.Story.{happens, story_of}
use Rattle.audit_lines.specs.Compared.{TellsWrong}
use Rattle.closing.proofs.ForCallers.{on_ok}
use Rattle.run_audit.proofs.Told.{none_told, unnamed_edges}
use Rattle.run_audit.proofs.candidates.is_wrong.Goals as goal

pub returns-in-Some : goal.returns-in-Some
returns-in-Some c =
    on_ok _ _ c.are_wrong.result
    (λ wrong so scenario commands r.
    subst (λ (es : List Edge). TellsWrong (protocols scenario) (story_of scenario commands) (happens scenario (story_of scenario commands) c.args.printed.now.command) es wrong) c.in-Some.ensures (so scenario commands r))
    c.are_wrong.ensures

pub returns-in-None : goal.returns-in-None
returns-in-None c = λ scenario commands r.
    subst (λ (es : List Edge). TellsWrong (protocols scenario) (story_of scenario commands) (happens scenario (story_of scenario commands) c.args.printed.now.command) es true) (sym (unnamed_edges c.args.printed.now.answer c.in-None.ensures))
    (none_told scenario (story_of scenario commands) c.args.printed.now.command)
