use Rattle.std.proofs.Common.{◌<◌, Option, IfSome, Some, cond, sym, ap, subst, ◌∙◌}
use Rattle.std.specs.Map.{lookup}
use Rattle.std.specs.Option.{option_copied_mut}
use Rattle.site_book.specs.declared.attempt_map.Name.{Name}
use Rattle.site_book.specs.declared.progress.Progress.{Progress}
use Rattle.site_book.specs.Book.{live_part, on_live, replied}
use Rattle.site_book.specs.Named.{name_of, same_name}
use Rattle.site_book.proofs.NamedMaps.{get-named, named, named_changed, named_kept, some_is}
use Rattle.site_book.proofs.attempt_map.note_reply.Goals as goal

pub note_reply-requires : goal.note_reply-requires
note_reply-requires c =
    let es = c.args.attempts.now.entries in
    let found = ap (λ (n : Name). lookup (same_name n) es) (sym c.of.ensures) ∙ (sym c.get_mut.ensures.value ∙ ap option_copied_mut c.in-Some.is) in
    subst (λ (o : Option Progress). IfSome (live_part o) (λ noted. noted.accesses < 32)) (get-named es c.args.tid ∙ found) c.requires

pub returns-in-Some : goal.returns-in-Some
returns-in-Some c =
    let es = c.args.attempts.now.entries in
    let at = sym c.get_mut.ensures.value ∙ ap option_copied_mut c.in-Some.is in
    let now = c.note_reply.new.self in
    named_changed es _ c.args.tid (on_live (replied c.args.reply c.args.act)) c.in-Some.progress.now now
    (ap (λ (n : Name). lookup (same_name n) es) (sym c.of.ensures) ∙ at) c.note_reply.ensures
    (λ q. ((c.get_mut.follows.holds now).3 (some_is _ _ at)).0 (name_of q) ∙ ap (λ (n : Name). cond (same_name n (name_of q)) (Some now) (named es q)) c.of.ensures)

pub returns-in_default : goal.returns-in_default
returns-in_default c =
    let es = c.args.attempts.now.entries in
    rw c.get_mut.follows.holds-at-none
    (named_kept es c.args.tid (on_live (replied c.args.reply c.args.act))
    (ap (λ (n : Name). lookup (same_name n) es) (sym c.of.ensures) ∙ (sym c.get_mut.ensures.value ∙ ap option_copied_mut c.in_default.is)))
