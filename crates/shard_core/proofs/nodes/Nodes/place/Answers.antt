use Rattle.shard_core.proofs.Places.{apart_seen, place_found, place_absent}
use Rattle.shard_core.proofs.nodes.Nodes.place.Goals as goal

pub returns-clause-found : goal.returns-clause-found
returns-clause-found c = place_found c.self.inside.keys.keys c.self.inside.counts.entries c.args.self.now
    c.args.number
    c.get_index_of.result c.self.view_is c.self.invariant.0 c.get_index_of.ensures.index

pub returns-clause-absent : goal.returns-clause-absent
returns-clause-absent c = place_absent c.self.inside.keys.keys c.self.inside.counts.entries c.args.self.now
    c.args.number
    c.get_index_of.result c.self.view_is c.self.invariant.0 c.get_index_of.ensures.index

pub returns-clause-apart : goal.returns-clause-apart
returns-clause-apart c = apart_seen c.self.inside.keys.keys c.self.inside.counts.entries c.args.self.now
    c.self.view_is
    c.self.invariant.0 c.get_index_of.ensures.unique
