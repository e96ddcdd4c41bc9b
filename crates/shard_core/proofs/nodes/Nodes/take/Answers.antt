use Rattle.std.proofs.Common.{◌≡◌, ◌<◌, ℕ, List, Option, arith, ap, ◌∙◌, subst, Some, None, IfSome}
use Rattle.std.proofs.Common.{unwrap_or, length}
use Rattle.std.specs.List.{swap_remove}
use Rattle.shard_core.specs.declared.hashed_key.HashedKey.{HashedKey}
use Rattle.shard_core.specs.Room.{Stored}
use Rattle.shard_core.specs.Listed.{entry, listed}
use Rattle.shard_core.proofs.Listed.{here, listed-swap_remove}
use Rattle.shard_core.proofs.Places.{length_seen, same_entry}
use Rattle.shard_core.proofs.nodes.Nodes.take.Goals as goal

pub unreachable-requires : goal.unreachable-requires
unreachable-requires c =
    let h = here c.self.inside.keys.keys c.self.inside.counts.entries c.args.self.now c.args.place
    c.self.view_is c.self.invariant.0 c.requires in
    let none : None ≡ Some h.key = c.in-None.ensures.key ∙ h.key_at in cc

pub returns : goal.returns
returns c n s at =
    let ks = c.self.inside.keys.keys in
    let es = c.self.inside.counts.entries in
    let v = c.args.self.now in
    let h = here ks es v c.args.place c.self.view_is c.self.invariant.0 c.requires in
    let same = same_entry v c.args.place (entry h.key h.pair) (n, s) h.at at in
    let counts = subst (λ (r : Option (ℕ × ℕ)).
    IfSome r (λ p. c.swap_remove_index.new.self.entries ≡ swap_remove es c.args.place p))
    (c.swap_remove_index.ensures.entry ∙ h.pair_at) c.swap_remove_index.ensures.entries in
    let key = ap (λ (o : Option HashedKey). unwrap_or o h.key) (c.in-Some.ensures.key ∙ h.key_at) in
    let keys = c.in-Some.ensures.keys ∙ ap (λ (k : HashedKey). swap_remove ks c.args.place k) key in
    let some : 0 < length es = omega (
      arith,
      length_seen ks es v c.self.view_is c.self.invariant.0,
      c.requires,
    ) in (
      ap (λ (k : HashedKey). k.key) key ∙ ap (λ (e : ℕ × Stored). e.1.key) same,
      (λ i. listed (keys i) (counts i))
          ∙ listed-swap_remove ks es c.args.place h.key h.pair c.self.invariant.0 some
          ∙ ap (λ (l : List (ℕ × Stored)). swap_remove l c.args.place (entry h.key h.pair)) c.self.view_is
          ∙ ap (λ (e : ℕ × Stored). swap_remove v c.args.place e) same,
    )
