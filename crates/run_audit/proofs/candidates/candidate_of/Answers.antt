use Rattle.std.proofs.Common.{Some, None, sym, ◌∙◌}
use Rattle.fed_rules.specs.Story.{story_of}
use Rattle.closing.proofs.ForCallers.{on_ok}
use Rattle.run_audit.proofs.Told.{candidate_by}
use Rattle.run_audit.proofs.candidates.candidate_of.Goals as goal

pub returns-in_default : goal.returns-in_default
returns-in_default c = λ scenario commands r site place tid vote e f. absurd (c.in_default.not-Take site place e)

pub returns-in-Some : goal.returns-in-Some
returns-in-Some c =
    on_ok _ _ c.candidate_at.result
    (λ found so scenario commands r.
    candidate_by scenario (story_of scenario commands) c.args.command c.in-Take.site c.in-Take.place (Some (c.in-Some.tid, c.in-Some.vote)) found c.in-Take.is (sym c.in-Some.is ∙ c.vote_at.ensures scenario commands r) (so scenario commands r))
    c.candidate_at.ensures

pub returns-in-None : goal.returns-in-None
returns-in-None c = λ scenario commands r.
    candidate_by scenario (story_of scenario commands) c.args.command c.in-Take.site c.in-Take.place None None c.in-Take.is (sym c.in-None.is ∙ c.vote_at.ensures scenario commands r) tt
