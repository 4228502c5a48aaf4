use Rattle.std.proofs.Common.{inl, inr}
use Rattle.flat_net.proofs.Parting.{is_first, some_instance}
use Rattle.flat_net.proofs.flat.flat_of.Goals as goal

pub bounds-instances-0 : goal.bounds-instances-0
bounds-instances-0 c = some_instance c.args.models.now c.args.covers c.args.instances.now c.requires.some c.requires.instances

pub returns-in-Err-clause-err : goal.returns-in-Err-clause-err
returns-in-Err-clause-err c = elim c.in-Err.ensures.err [
  | inl wanting ↦ inl wanting
  | inr found ↦ inr (found c.args.covers (record { shallow = c.requires.shallow; named = c.requires.names; instances = c.requires.instances; top = is_first c.args.models.now c.args.covers c.args.instances.now c.index-instances-0.result c.requires.some c.requires.instances c.index-instances-0.is }))
]

pub returns-in_ok-raw-in-Ok-clause-ok : goal.returns-in_ok-raw-in-Ok-clause-ok
returns-in_ok-raw-in-Ok-clause-ok c = c.in-Ok.ensures.ok c.args.covers (record { shallow = c.requires.shallow; named = c.requires.names; instances = c.requires.instances; top = is_first c.args.models.now c.args.covers c.args.instances.now c.index-instances-0.result c.requires.some c.requires.instances c.index-instances-0.is })
