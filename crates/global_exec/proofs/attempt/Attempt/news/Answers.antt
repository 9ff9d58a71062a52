use Rattle.std.proofs.Common.{◌≡◌, ℕ, ◌+◌, ◌++◌, ◌≤◌, Option, List, length, take, drop, sym, ap, ap₂, subst, ◌∙◌}
use Rattle.std.proofs.lemmas.List.{take_rest}
use Rattle.mdb_base.specs.declared.acts.Step.{Step}
use Rattle.mdb_base.specs.declared.program.Next.{Next}
use Rattle.mdb_base.specs.Programs.{next_of, reads_of}
use Rattle.mdb_base.specs.Rising.{IsRising}
use Rattle.mdb_base.specs.Words.{Each, found}
use Rattle.mdb_base.proofs.ForCallers.{map_ok}
use Rattle.fed_rules.specs.declared.messages.Due.{Due}
use Rattle.global_exec.specs.declared.progress.Progress.{Progress}
use Rattle.global_exec.specs.Counted.{HasRoom, advanced, counts, news, news_left, value_of}
use Rattle.global_exec.specs.Live.{IsLive, Live, site_number}
use Rattle.global_exec.proofs.Lives.{live_advanced, rooms}
use Rattle.global_exec.proofs.NewsLeft.{news_told}
use Rattle.global_exec.proofs.attempt.Attempt.news.Goals as goal

pub next_behind-next-requires-clause-within : goal.next_behind-next-requires-clause-within
next_behind-next-requires-clause-within c =
    let live : Live = record { tid = c.self.inside.tid; program = c.self.inside.program; reads = c.self.inside.reads.items; done = c.self.inside.done; sites = c.self.inside.sites.items } in
    let counted = subst (λ (l : Live). counts c.args.site c.args.epoch c.args.n c.args.reply l ≡ _) (sym c.self.view_is) c.requires.counts in
    let after : IsLive (advanced c.args.site c.args.epoch c.args.reply live) = live_advanced c.args.site c.args.epoch c.args.n c.args.reply live counted c.requires.answers c.self.invariant.0 in
    subst (λ (k : ℕ). live.done + k ≤ length live.program) (sym c.steps_of.ensures) after.within

pub next_behind-next-requires-clause-read : goal.next_behind-next-requires-clause-read
next_behind-next-requires-clause-read c =
    let live : Live = record { tid = c.self.inside.tid; program = c.self.inside.program; reads = c.self.inside.reads.items; done = c.self.inside.done; sites = c.self.inside.sites.items } in
    let counted = subst (λ (l : Live). counts c.args.site c.args.epoch c.args.n c.args.reply l ≡ _) (sym c.self.view_is) c.requires.counts in
    let after : IsLive (advanced c.args.site c.args.epoch c.args.reply live) = live_advanced c.args.site c.args.epoch c.args.n c.args.reply live counted c.requires.answers c.self.invariant.0 in
    ap (λ (vs : List ℕ). length (vs ++ value_of c.args.reply)) c.as_slice.ensures.value
    ∙ (after.reads ∙ ap (λ (k : ℕ). reads_of (take (live.done + k) live.program)) (sym c.steps_of.ensures))

pub news-requires-clause-rising : goal.news-requires-clause-rising
news-requires-clause-rising c = subst (IsRising site_number) (sym c.as_slice-2.ensures.value) c.self.invariant.0.rising

pub news-requires-clause-room : goal.news-requires-clause-room
news-requires-clause-room c =
    let live : Live = record { tid = c.self.inside.tid; program = c.self.inside.program; reads = c.self.inside.reads.items; done = c.self.inside.done; sites = c.self.inside.sites.items } in
    subst (Each HasRoom) (sym c.as_slice-2.ensures.value) (rooms live c.self.invariant.0)

pub returns : goal.returns
returns c =
    let live : Live = record { tid = c.self.inside.tid; program = c.self.inside.program; reads = c.self.inside.reads.items; done = c.self.inside.done; sites = c.self.inside.sites.items } in
    let counted = subst (λ (l : Live). counts c.args.site c.args.epoch c.args.n c.args.reply l ≡ _) (sym c.self.view_is) c.requires.counts in
    let told : List Step → Option Next → List Progress → List Due = λ left next ps. found (news_left c.args.site c.args.epoch c.args.reply left next) ps in
    let behind : ℕ → List ℕ → List Due = λ k vs. told (drop (live.done + k) live.program) (next_of live.program (live.done + k) (vs ++ value_of c.args.reply)) live.sites in
    map_ok _ _ c.news.result c.news.ensures (λ dues is.
    is ∙ ap (λ (left : List Step). told left c.next_behind-next.result c.as_slice-2.result.now) (take_rest c.steps.result.now (live.done + c.steps_of.result))
    ∙ ap₂ (λ (steps : List Step) (next : Option Next). told (drop (live.done + c.steps_of.result) steps) next c.as_slice-2.result.now) c.steps.ensures.steps c.next_behind-next.ensures
    ∙ ap (told (drop (live.done + c.steps_of.result) live.program) (next_of live.program (live.done + c.steps_of.result) (c.as_slice.result.now ++ value_of c.args.reply))) c.as_slice-2.ensures.value
    ∙ ap₂ behind c.steps_of.ensures c.as_slice.ensures.value
    ∙ news_told c.args.site c.args.epoch c.args.n c.args.reply live counted c.requires.answers c.self.invariant.0
    ∙ ap (λ (l : Live). news c.args.site l.done (advanced c.args.site c.args.epoch c.args.reply l)) c.self.view_is)
