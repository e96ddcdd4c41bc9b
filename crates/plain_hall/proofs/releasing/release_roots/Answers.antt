use Rattle.std.proofs.Common.{refl, ◌++◌, ◌∙◌}
use Rattle.node_store.specs.Given.{ever}
use Rattle.node_store.specs.TreeUnder.{tree_under}
use Rattle.plain_hall.specs.Rooted.{stakes_under}
use Rattle.hall_trait.proofs.Views.{later_same, later_then}
use Rattle.plain_hall.proofs.RootStakes.{last_taken}
use Rattle.plain_hall.proofs.releasing.release_roots.Goals as goal

pub loop-root-init : goal.loop-root-init
loop-root-init c = record {
  given = refl;
  store = c.requires.store;
  roots = λ rest kept. kept;
  next = later_same c.args.nodes.now.rooms;
}

pub drop_other-requires : goal.drop_other-requires
drop_other-requires c =
    let key_at = ever c.args.nodes.now.given in
    let rest = c.requires.roots.0 in (
      stakes_under key_at c.loop-root.roots ++ rest,
      stakes_under key_at c.pop.new.self ++ rest,
      tree_under key_at c.in-Some.root,
      c.loop-root.invariant.roots rest c.requires.roots.1,
      last_taken key_at c.loop-root.roots c.pop.new.self c.in-Some.root rest c.in-Some.ensures,
    )

pub loop-root-preserved : goal.loop-root-preserved
loop-root-preserved c =
    let key_at = ever c.args.nodes.now.given in
    record {
      given = c.drop_other.ensures.given ∙ c.loop-root.invariant.given;
      store = c.drop_other.ensures.sound;
      roots = λ rest kept. c.drop_other.ensures.kept (stakes_under key_at c.loop-root.roots ++ rest)
          (stakes_under key_at c.pop.new.self ++ rest) (tree_under key_at c.in-Some.root)
          (c.loop-root.invariant.roots rest kept)
          (last_taken key_at c.loop-root.roots c.pop.new.self c.in-Some.root rest c.in-Some.ensures);
      next = later_then c.args.nodes.now.rooms c.loop-root.nodes.rooms c.drop_other.new.self.rooms
          c.loop-root.invariant.next c.drop_other.ensures.next;
    }
