use Rattle.std.proofs.Common.{◌≡◌, List, length, drop, sym, ap, subst, ◌∙◌, arith}
use Rattle.global_exec.specs.declared.progress.Progress.{Progress}
use Rattle.global_exec.specs.Counted.{with_epoch}
use Rattle.global_exec.specs.Firsts.{replaced}
use Rattle.global_exec.specs.Live.{IsLive, Live, is_at}
use Rattle.global_exec.proofs.Firsts.{take_written}
use Rattle.global_exec.proofs.Lives.{live_waited}
use Rattle.global_exec.proofs.attempt.Attempt.wait.Goals as goal

pub invariant_of-self : goal.invariant_of-self
invariant_of-self c =
    let live : Live = record { tid = c.self.inside.tid; program = c.self.inside.program; reads = c.self.inside.reads.items; done = c.self.inside.done; sites = c.self.inside.sites.items } in
    let len : length c.wait_at.new.sites ≡ c.self.inside.sites.len = omega arith in (
      subst (λ (ps : List Progress). IsLive (record live { sites = ps }))
          (sym (take_written c.self.inside.sites.len c.wait_at.new.sites (drop (length c.wait_at.new.sites) c.self.inside.sites.items) len ∙ c.wait_at.ensures ∙ ap (replaced (is_at c.args.site) (with_epoch c.args.epoch)) c.deref_mut.ensures.value))
          (live_waited c.args.site c.args.epoch live c.self.invariant.0),
      c.self.invariant.1,
    )
