use Rattle.std.proofs.Common.{ℕ, List, arith, ap, sym, ◌∙◌, subst, nat_eq}
use Rattle.std.specs.List.{IsDistinct}
use Rattle.indexmap.specs.IndexMap.{set_value_at}
use Rattle.indexmap.proofs.CallerLemmas.{keys-with_value_at, index_map_len-with_value_at}
use Rattle.shard_core.specs.Room.{Stored}
use Rattle.shard_core.specs.Listed.{entry}
use Rattle.shard_core.proofs.Listed.{here, listed-set}
use Rattle.shard_core.proofs.Places.{length_seen, same_entry}
use Rattle.shard_core.proofs.nodes.Nodes.set_count.Goals as goal

pub index_mut-requires : goal.index_mut-requires
index_mut-requires c = omega (
  arith,
  length_seen c.self.inside.keys.keys c.self.inside.counts.entries
      c.args.self.now
      c.self.view_is c.self.invariant.0,
  c.requires,
)

pub invariant_of-self : goal.invariant_of-self
invariant_of-self c = (
  index_map_len-with_value_at c.self.inside.counts c.args.place c.args.count ∙ c.self.invariant.0,
  subst (IsDistinct nat_eq) (sym (keys-with_value_at c.self.inside.counts c.args.place c.args.count))
      c.self.invariant.1,
)

pub returns : goal.returns
returns c n s at =
    let h = here c.self.inside.keys.keys c.self.inside.counts.entries c.args.self.now c.args.place
    c.self.view_is c.self.invariant.0 c.requires in
    let same = same_entry c.args.self.now c.args.place (entry h.key h.pair) (n, s) h.at at in
    listed-set c.self.inside.keys.keys c.self.inside.counts.entries c.args.place h.key c.args.count h.key_at
    ∙ ap (λ (v : List (ℕ × Stored)). set_value_at v c.args.place
    (let t : Stored = record { key = h.key.key; count = c.args.count } in t)) c.self.view_is
    ∙ ap (λ (e : ℕ × Stored). set_value_at c.args.self.now c.args.place
    (let t : Stored = record { key = e.1.key; count = c.args.count } in t)) same
