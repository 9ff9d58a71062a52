use Rattle.std.proofs.Common.{◌≡◌, cond, refl, sym, ap, ◌∙◌}
use Rattle.std.specs.Option.{option_copied_mut}
use Rattle.mdb_base.specs.Names.{same_key}
use Rattle.run_book.proofs.HeldBy.{some-found}
use Rattle.run_book.specs.declared.key_ages.End.{End}
use Rattle.run_book.specs.declared.key_ages.End.TheVariants.{Commit, Abort}
use Rattle.run_book.specs.Ages.{Ages, ages_of, no_ages, ended}
use Rattle.run_book.proofs.KeyMaps.{ages_changed, ages_unchanged}
use Rattle.run_book.proofs.accesses.AccessAges.end_at.Goals as goal

idle : (end : End) → ended end no_ages ≡ no_ages
idle Commit = refl
idle Abort = refl

pub returns : goal.returns
returns c =
    let change = ended c.args.end in
    let found = sym c.get_mut.ensures.value ∙ ap option_copied_mut c.in-Some.is in
    λ q. ages_changed c.self.inside.keys.entries _ c.args.key c.in-Some.place.now c.ended.result change found c.ended.ensures
    ((c.get_mut.follows.holds c.ended.result).3 (some-found _ _ found)).0 q
    ∙ ap (λ (m : Ages). cond (same_key c.args.key q) (change (ages_of m q)) (ages_of m q)) c.self.view_is

pub returns-in_default : goal.returns-in_default
returns-in_default c =
    let change = ended c.args.end in
    let none = sym c.get_mut.ensures.value ∙ ap option_copied_mut c.in_default.is in
    λ q. rw c.get_mut.follows.holds-at-none
    (ages_unchanged c.self.inside.keys.entries c.args.key change (idle c.args.end) none q
    ∙ ap (λ (m : Ages). cond (same_key c.args.key q) (change (ages_of m q)) (ages_of m q)) c.self.view_is)
