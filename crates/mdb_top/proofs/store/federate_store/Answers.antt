use Rattle.std.proofs.Common.{inl, map, refl, ◌∙◌}
use Rattle.mdb_top.specs.Opening.{store_seen}
use Rattle.mdb_top.specs.Streams.{stream}
use Rattle.mdb_top.proofs.OpenLemmas.{opened_synced, stops_at_one}
use Rattle.mdb_top.proofs.store.federate_store.Goals as goal

pub returns-in-Err-clause-stores : goal.returns-in-Err-clause-stores
returns-in-Err-clause-stores g c =
    let store = store_seen g.T.Store.tells (g.T.Store.journals c.args.store.now) (g.T.Store.faults c.args.store.now) (g.T.Store.faults c.open_all.new.store) in
    let sink = stream g.K.Sink.tells (g.K.Sink.written c.args.sink.now) (g.K.Sink.written c.stopped.new.sink) (g.K.Sink.faults c.args.sink.now) (g.K.Sink.faults c.stopped.new.sink) in
    λ is. inl (
      refl,
      stops_at_one g.D.Disk.seen c.open_all.new.disks.items store _ _ sink _ (c.len.ensures ∙ c.open_all.new.disks.ok.0) c.in-Err.ensures.few c.in-Err.ensures.opens c.stopped.ensures.led
          c.stopped.ensures.failed c.stopped.ensures.large c.stopped.ensures.wanting c.in-Err.ensures.large c.in-Err.ensures.not_large c.in-Err.ensures.cause,
    )

pub returns-in-Err-clause-resumes : goal.returns-in-Err-clause-resumes
returns-in-Err-clause-resumes g c =
    let store = store_seen g.T.Store.tells (g.T.Store.journals c.args.store.now) (g.T.Store.faults c.args.store.now) (g.T.Store.faults c.open_all.new.store) in
    let sink = stream g.K.Sink.tells (g.K.Sink.written c.args.sink.now) (g.K.Sink.written c.stopped.new.sink) (g.K.Sink.faults c.args.sink.now) (g.K.Sink.faults c.stopped.new.sink) in
    λ is. (
      refl,
      inl (
          stops_at_one g.D.Disk.seen c.open_all.new.disks.items store _ _ sink _ (c.len.ensures ∙ c.open_all.new.disks.ok.0) c.in-Err.ensures.few c.in-Err.ensures.opens c.stopped.ensures.led
          c.stopped.ensures.failed c.stopped.ensures.large c.stopped.ensures.wanting c.in-Err.ensures.large c.in-Err.ensures.not_large c.in-Err.ensures.cause
          ),
    )

-- the bytes of all nine disks are synced
pub federate-requires-clause-synced : goal.federate-requires-clause-synced
federate-requires-clause-synced g c lives within asked =
    opened_synced g.T.Store.tells (g.T.Store.journals c.args.store.now) (map g.D.Disk.seen c.open_all.new.disks.items) c.in-Ok.ensures.opens
