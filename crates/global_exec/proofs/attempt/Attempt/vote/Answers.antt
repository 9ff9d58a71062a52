use Rattle.std.proofs.Common.{◌≡◌, List, length, drop, sym, ap, subst, ◌∙◌, arith}
use Rattle.global_exec.specs.declared.progress.Progress.{Progress}
use Rattle.global_exec.specs.Firsts.{replaced}
use Rattle.global_exec.specs.Live.{IsLive, Live, is_at, with_vote}
use Rattle.global_exec.proofs.Firsts.{take_written}
use Rattle.global_exec.proofs.Lives.{live_voted}
use Rattle.global_exec.proofs.attempt.Attempt.vote.Goals as goal

pub invariant_of-self : goal.invariant_of-self
invariant_of-self c =
    let live : Live = record { tid = c.self.inside.tid; program = c.self.inside.program; reads = c.self.inside.reads.items; done = c.self.inside.done; sites = c.self.inside.sites.items } in
    let len : length c.vote_at.new.sites ≡ c.self.inside.sites.len = omega arith in (
      subst (λ (ps : List Progress). IsLive (record live { sites = ps }))
          (sym (take_written c.self.inside.sites.len c.vote_at.new.sites (drop (length c.vote_at.new.sites) c.self.inside.sites.items) len ∙ c.vote_at.ensures ∙ ap (replaced (is_at c.args.site) with_vote) c.deref_mut.ensures.value))
          (live_voted c.args.site live c.self.invariant.0),
      c.self.invariant.1,
    )
