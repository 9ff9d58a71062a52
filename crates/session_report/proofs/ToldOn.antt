-- What lines tell, taken from the first on and from the last back.
use Rattle.std.proofs.Common.{◌≡◌, List, [], ◌∷◌, ◌++◌, reverse, refl, sym, ap, ◌∙◌}
use Rattle.mdb_base.proofs.ForCallers.{reverse_more}
use Rattle.fed_rules.specs.declared.commands.Line.{Line}
use Rattle.session_routes.specs.declared.traffic.Traffic.{Traffic}
use Rattle.session_report.specs.Told.{Told, after_line, told_by, told_on, untold}

-- what is told behind earlier lines
abbrev told_after : List Traffic → List Line → Told → Told
told_after channels [] told = told
told_after channels (line ∷ lines) told = after_line channels line (told_after channels lines told)

after_first : (channels : List Traffic) (lines : List Line) (line : Line) (told : Told) → told_after channels (lines ++ line ∷ []) told ≡ told_after channels lines (after_line channels line told)
after_first channels [] line told = refl
after_first channels (l ∷ lines) line told = ap (after_line channels l) (after_first channels lines line told)

on_after : (channels : List Traffic) (lines : List Line) (told : Told) → told_on channels lines told ≡ told_after channels (reverse lines) told
on_after channels [] told = refl
on_after channels (line ∷ lines) told =
    on_after channels lines (after_line channels line told) ∙ sym (ap (λ ls. told_after channels ls told) (reverse_more line lines) ∙ after_first channels (reverse lines) line told)

after_none : (channels : List Traffic) (lines : List Line) → told_after channels lines untold ≡ told_by channels lines
after_none channels [] = refl
after_none channels (line ∷ lines) = ap (after_line channels line) (after_none channels lines)

pub told_all : (channels : List Traffic) (lines : List Line) → told_on channels lines untold ≡ told_by channels (reverse lines)
told_all channels lines = on_after channels lines untold ∙ after_none channels (reverse lines)
