use Rattle.frame_journal.proofs.trimming.keep_last.Goals as goal
use Rattle.std.proofs.Common.{◌∷◌, [], ◌++◌, ap, sym, ◌∙◌}
use Rattle.frame_journal.specs.Records.{last_alone}
use Rattle.frame_journal.proofs.Sizes.{last_alone_push}

pub returns-clause-last : goal.returns-clause-last
returns-clause-last g c =
    c.push_reserved.ensures.items ∙ ap (λ xs. xs ++ c.take_last-last.result ∷ []) c.clear.ensures.items ∙ sym (ap last_alone c.take_last-last.ensures.items ∙ last_alone_push c.take_last-last.new.self.items c.take_last-last.result)
