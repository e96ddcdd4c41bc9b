use Rattle.std.proofs.Common.{◌≡◌, List, [], map, ap, ◌∙◌}
use Rattle.std.proofs.Math.Bool.{or-false}
use Rattle.std.proofs.Math.Path.{fun_ext}
use Rattle.std.specs.List.{filter_map}
use Rattle.hall_history.specs.History.{Entry, PublishedTree, is_open, open_ids}
use Rattle.hall_history.specs.Left.{left_of, open_published, published_if}
use Rattle.hall_history.specs.declared.seat.PinView.{PinView}
use Rattle.node_key.specs.Keys.{distinct}
use Rattle.plain_hall.specs.Holding.{left_with}
use Rattle.plain_hall.specs.PlainHall.{seen_by}
use Rattle.plain_hall.proofs.NodesLeft.{left_counted}
use Rattle.plain_hall.proofs.hall.PlainHall.left.Goals as goal

-- where no pin is out, the open traces alone are left
left_alone : (entries : List Entry) → left_with [] entries ≡ left_of entries
unfolding open_published
left_alone entries = λ i. record {
  traces = Rattle.std.specs.Prelude.length (open_ids entries);
  nodes = distinct (map (λ (p : PublishedTree). p.tree)
      (filter_map (published_if (fun_ext (λ id. or-false (is_open entries id)) i)) entries));
}

pub returns-clause-pinned : goal.returns-clause-pinned
returns-clause-pinned c = left_counted c.args.self.now.nodes c.args.self.now.registry _ c.args.self.now.pin _ _
    c.args.self.now.whole c.requires c.open_traces.ensures c.live.ensures

pub returns-clause-unpinned : goal.returns-clause-unpinned
returns-clause-unpinned c none = returns-clause-pinned c
    ∙ ap (λ (pins : List PinView). left_with pins (seen_by c.args.self.now)) none
    ∙ left_alone (seen_by c.args.self.now)
