use Rattle.shard_core.proofs.Places.{key_found, key_absent}
use Rattle.shard_core.proofs.nodes.Nodes.place_of_key.Goals as goal

pub returns-clause-found : goal.returns-clause-found
returns-clause-found c = key_found c.self.inside.keys.keys c.self.inside.counts.entries c.args.self.now
    c.args.key.now
    c.get_index_of.result c.self.view_is c.self.invariant.0 c.get_index_of.ensures.index

pub returns-clause-absent : goal.returns-clause-absent
returns-clause-absent c = key_absent c.self.inside.keys.keys c.self.inside.counts.entries c.args.self.now
    c.args.key.now.key
    c.get_index_of.result c.self.view_is c.self.invariant.0 c.get_index_of.ensures.found
