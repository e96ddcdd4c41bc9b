use Rattle.std.proofs.Common.{◌≡◌, ℕ, ◌+◌, ◌∙◌, ap, [], ◌∷◌, arith}
use Rattle.list_lemmas.proofs.Ranges.{map_of_range-more}
use Rattle.trace_base.specs.Flat.{flat}
use Rattle.trace_base.specs.Timeline.{busiest, pixel_start}
use Rattle.event_model.proofs.line.line_of.Goals as goal

pub loop-i-preserved : goal.loop-i-preserved
loop-i-preserved c =
    let cell : c.busiest_of.result ≡ busiest
    (flat (c.args.s.now ∷ []) (pixel_start c.args.a c.args.b c.args.px c.loop-i.i)
    (pixel_start c.args.a c.args.b c.args.px (c.loop-i.i + 1))) =
    c.busiest_of.ensures ∙ ap busiest c.in_ok-profile.ensures
    ∙ ap (λ (from : ℕ). busiest (flat (c.args.s.now ∷ []) from c.start_of_pixel-to.result))
    c.start_of_pixel-from.ensures.exact
    ∙ ap (λ (to : ℕ). busiest (flat (c.args.s.now ∷ []) (pixel_start c.args.a c.args.b c.args.px c.loop-i.i)
    to)) c.start_of_pixel-to.ensures.exact in
    map_of_range-more (λ i. busiest (flat (c.args.s.now ∷ []) (pixel_start c.args.a c.args.b c.args.px i)
    (pixel_start c.args.a c.args.b c.args.px (i + 1)))) 0 c.loop-i.i c.loop-i.i c.busiest_of.result
    c.loop-i.cells c.push.new.self (omega arith) c.loop-i.invariant cell c.in_ok-push.ensures.ok
